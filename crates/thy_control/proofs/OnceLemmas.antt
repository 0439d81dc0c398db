-- One action of both devices is one of the NVM.
use Rattle.std.proofs.Common.{◌≡◌, Bool, true, false, if◌then◌else◌, refl, sym, ◌∙◌, ap, subst, inl, inr, arith}
use Rattle.thy_block.specs.declared.block.Block.{Block}
use Rattle.thy_table.specs.declared.place.Place.{Place}
use Rattle.thy_block.specs.Device.{written_to}
use Rattle.thy_table.specs.Places.{IsPlace, in_dram, number_of}
use Rattle.thy_block.proofs.DeviceLemmas.{queue-written_to}
use Rattle.thy_dram.specs.Contents.{written}
use Rattle.thy_table.specs.Devices.{Devices}
use Rattle.thy_table.proofs.MoveLemmas.{within_image}
use Rattle.thy_control.specs.Guarded.{IsFree}
use Rattle.thy_control.specs.Once.{Spot, queued, IsOneOfNvm, OneActionIsOneOfNvm}
use Rattle.thy_control.specs.State.{State}

module _ (s : State) (place : Place) (block : Block) where
  abbrev spot : IsPlace s.p place → in_dram place ≡ false → IsFree s (number_of s.p place) → Spot s
  spot there side free = record { at = number_of s.p place; block = block; inside = within_image s.p place there side; free = free }

  -- a write, by the side on which its place lies
  one_write : (side : Bool) (d : Devices) → in_dram place ≡ side → IsPlace s.p place → (side ≡ false → IsFree s (number_of s.p place))
      → IsOneOfNvm s d (if side then record d { dram = written d.dram (number_of s.p place) block } else record d {
        nvm =
            written_to d.nvm (number_of s.p place) block;
      })
  one_write true d e there free = record { nvm = inl (inl refl); up = λ up. inl refl; queue = λ up. omega arith }
  one_write false d e there free = record {
    nvm = inl (inr (spot there e (free refl), refl));
    up = λ up. inr (spot there e (free refl), refl);
    queue = λ up. omega (arith, queue-written_to d.nvm (number_of s.p place) block);
  }

not_up : {t : Bool} {P : Type 0} → t ≡ true → t ≡ false → P
not_up e f = let no : true ≡ false = sym e ∙ f in cc

pub one_of_nvm : OneActionIsOneOfNvm
one_of_nvm s old new (inl same) = record {
  nvm = inl (inl (ap (λ (d : Devices). d.nvm) same));
  up = λ up. inl (ap (λ (d : Devices). d.nvm) same);
  queue = λ up. omega (arith, ap queued same);
}
one_of_nvm s old new (inr (inl w)) =
    subst (λ (d : Devices). IsOneOfNvm s old d) (sym w.written) (one_write s w.place w.block (in_dram w.place) old refl w.there w.free)
one_of_nvm s old new (inr (inr (inl f))) = record {
  nvm = inr (inl f.failed);
  up = λ up. not_up f.failed.down up;
  queue = λ up. not_up f.failed.down up;
}
one_of_nvm s old new (inr (inr (inr f))) = record {
  nvm = inr (inr (spot s f.place f.block f.there f.in_nvm f.free, f.failed));
  up = λ up. not_up f.failed.down up;
  queue = λ up. not_up f.failed.down up;
}
