use Rattle.std.proofs.Common.{sym, ap, ◌∙◌, subst}
use Rattle.thy_block.specs.Bytes.{bytes_of, room_of}
use Rattle.thy_computer.specs.declared.did.Advance.{Advance}
use Rattle.thy_computer.specs.Advances.{did_of}
use Rattle.thy_run.specs.Going.{HasRoomToList}
use Rattle.thy_run.specs.World.{turns_after}
use Rattle.thy_run.proofs.advance.list_advance.Goals as goal

pub list_hart-requires : goal.list_hart-requires
list_hart-requires c =
    subst (λ (a : Advance). HasRoomToList c.args.harts (bytes_of c.args.turns.now) (room_of c.args.turns.now) (did_of a)) c.in-Retired.is c.requires

pub returns-in-Moved-clause-turns : goal.returns-in-Moved-clause-turns
returns-in-Moved-clause-turns c =
    sym (ap (λ (a : Advance). turns_after c.args.harts (bytes_of c.args.turns.now) (did_of a)) c.in-Moved.is)

pub returns-in-Retired-clause-turns : goal.returns-in-Retired-clause-turns
returns-in-Retired-clause-turns c =
    c.list_hart.ensures.turns ∙ sym (ap (λ (a : Advance). turns_after c.args.harts (bytes_of c.args.turns.now) (did_of a)) c.in-Retired.is)
