-- Power comes on, and is lost.
use Rattle.std.proofs.Common.{◌≡◌, ℕ, ◌*◌, length, refl, sym, ◌∙◌, ap, subst, Option, Some, None}
use Rattle.std.proofs.lemmas.List.{length-replicate}
use Rattle.thy_block.specs.declared.parameters.Parameters.{Parameters}
use Rattle.thy_block.specs.declared.mark.Mark.{Mark}
use Rattle.thy_block.specs.Device.{Device}
use Rattle.thy_block.specs.Marks.{mark}
use Rattle.thy_block.specs.Places.{dram_blocks}
use Rattle.thy_dram.specs.Contents.{Contents, lost}
use Rattle.thy_dram.proofs.DrawLemmas.{length-over}
use Rattle.thy_isa.specs.Step.{State}
use Rattle.thy_layout.specs.Decoded.{Decoded, Nothing, Refused, At}
use Rattle.thy_computer.specs.Kind.{IsDramOf}
use Rattle.thy_computer.specs.Origin.{Origin}
use Rattle.thy_computer.specs.Safe.{ceiling}
use Rattle.thy_computer.specs.Keeps.{HasKept}
use Rattle.thy_layout.specs.Layout.{Layout, decode_by}
use Rattle.thy_checkpoint.specs.Boot.{IsBoot, new_boot}
use Rattle.thy_checkpoint.specs.Filling.{FillingOf, layout_at}
use Rattle.thy_checkpoint.specs.Sound.{layout_for}
use Rattle.thy_scheme.specs.Laws.{IsOwn}
use Rattle.thy_scheme_parts.specs.BootLaws.{OwnHasMark}

-- the mark of an image that is the run's own
own-mark : (o : Origin) (l : Layout) (n : Device) (d : Decoded) → decode_by l ceiling n.image ≡ d → IsOwn o d
    → (kept : Option Mark) × HasKept o l n.image kept
own-mark o l n Nothing is own = (None, (is, own))
own-mark o l n (Refused bad) is own = absurd own
own-mark o l n (At epoch state) is own = (
  Some (mark epoch state.count),
  record { decodes = is ∙ ap (At epoch) own; counted = ap (λ (x : State). x.count) (sym own) },
)

module _ {C : Type 0} (F : FillingOf C) where
  pub own_has_mark : OwnHasMark F
  own_has_mark read o n reads sized own =
      own-mark o (layout_for F o) n (read o.geometry ceiling n.image) (sym (reads o.geometry n.image sized)) own

  -- a new boot has room for a slot
  pub new-is_boot : (p : Parameters) → IsBoot F (new_boot F p)
  new-is_boot p = record { room = length-replicate (64 * (layout_at F p).most_slot) 0; there = tt }

-- what is left of a DRAM of its size is one with nothing queued
pub IsDramOf-lost : (p : Parameters) (old : Contents) (pick : ℕ) (new : Contents)
    → length old.blocks ≡ dram_blocks p → old.room ≡ p.dramq → new ≡ lost old pick → IsDramOf p new
IsDramOf-lost p old pick new sized room is = subst (λ (x : Contents). IsDramOf p x) (sym is) (record {
  blocks = length-over pick old.blocks ∙ sized;
  room = room;
  empty = refl;
})
