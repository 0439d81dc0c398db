-- Part of the claim.
-- What a save leaves: one more cut of power, and its image on the shelf.
use Rattle.std.specs.Prelude.{◌≡◌, ℕ, Bool, true, false, List, [], length, Option, Some, None, slice_index_or}
use Rattle.thy_block.specs.declared.block.Block.{Block}
use Rattle.thy_base.specs.declared.config.Config.{Config}
use Rattle.thy_block.specs.declared.outside.PutError.{PutError}
use Rattle.thy_block.specs.declared.outside.PutError.TheVariants.{Failed as PutFailed, Memory as PutMemory}
use Rattle.thy_block.specs.Device.{Device, IsCut}
use Rattle.thy_block.specs.Outside.{Stock, Holds, KeepsOthers, HasNotFailed, HasFailedUnder, MayHaveFailed}
use Rattle.thy_block.specs.Flat.{flat}
use Rattle.thy_run.specs.World.{tear}
use Rattle.thy_run.specs.declared.ending.Stop.{Stop}
use Rattle.thy_run.specs.declared.ending.Stop.TheVariants.{Ended, Limit, Nvm, Memory, Terminal, Report}

-- a run that stopped so is saved: its program has ended, the limit is reached, or the device failed
abbrev pub saves : Stop → Bool
saves (Ended status) = true
saves Limit = true
saves Nvm = true
saves Memory = false
saves Terminal = false
saves Report = false

-- the pick of a save's cut: the entry of the tears after the entries of all listed cuts
abbrev pub save_pick : Config → ℕ
save_pick c = tear c.tears (length c.cuts)

-- an image that a cut left, counted from 0
abbrev pub image_left : Device → ℕ → List Block
image_left n i = slice_index_or n.left i []

-- whether a shelf failed under a name, by why bytes were not put there, if they were not
abbrev pub PutCounted : List ℕ → Stock → Stock → Option PutError → Type 0
PutCounted name old new None = HasNotFailed old new
PutCounted name old new (Some PutFailed) = HasFailedUnder name old new
PutCounted name old new (Some (PutMemory e)) = MayHaveFailed name old new

-- bytes were put under a name, or were not; if an allocation failed they may not even have been handed over
pub record IsPut (name bytes : List ℕ) (old new : Stock) (why : Option PutError) : Type 0 where
  pub holds : why ≡ None → Holds new name bytes
  pub others : KeepsOthers old new name
  pub counted : PutCounted name old new why

-- What a save leaves, if a run has a name for it and stops so that it is saved: the power is cut once more, and the
-- bytes of what this cut left are put under the name. Otherwise device and shelf are left alone.
abbrev pub SavesUnder : Option (List ℕ) → Bool → Config → Device → Device → Stock → Stock → Option PutError → Type 0
SavesUnder (Some name) true config stood left old new why =
    IsCut (save_pick config) stood left × IsPut name (flat left.image) old new why
SavesUnder name due config stood left old new why = (left ≡ stood) × (new ≡ old) × (why ≡ None)
