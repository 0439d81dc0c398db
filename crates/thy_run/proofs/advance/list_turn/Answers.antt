use Rattle.std.proofs.Common.{◌≡◌, ℕ, List, refl, sym, ap, ◌∙◌, subst}
use Rattle.thy_block.specs.Bytes.{bytes_of, room_of}
use Rattle.thy_computer.specs.declared.did.Did.{Did}
use Rattle.thy_computer.specs.declared.did.Did.TheVariants.{Retired}
use Rattle.thy_run.specs.Going.{HasRoomToList}
use Rattle.thy_run.specs.World.{turns_after}
use Rattle.thy_run.proofs.advance.list_turn.Goals as goal

-- without an instruction none is listed
unlisted : (harts : ℕ) (turns : List ℕ) (did : Did) → ((hart : ℕ) → did ≡ Retired hart → ⊥) → turns ≡ turns_after harts turns did
unlisted harts turns (Retired hart) other = absurd (other hart refl)
unlisted harts turns did other = refl

pub list_hart-requires : goal.list_hart-requires
list_hart-requires c =
    let R : Did → Type 0 = λ did. HasRoomToList c.args.harts (bytes_of c.args.turns.now) (room_of c.args.turns.now) did in
    subst R c.in-Retired.is c.requires.room

pub returns-in-Retired-clause-turns : goal.returns-in-Retired-clause-turns
returns-in-Retired-clause-turns c =
    c.list_hart.ensures.turns ∙ sym (ap (turns_after c.args.harts (bytes_of c.args.turns.now)) c.in-Retired.is)

pub returns-in_default-clause-turns : goal.returns-in_default-clause-turns
returns-in_default-clause-turns c = unlisted c.args.harts (bytes_of c.args.turns.now) c.args.did c.in_default.not-Retired
