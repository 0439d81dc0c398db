use Rattle.thy_plain.specs.Held.{any_calls}
use Rattle.thy_plain.proofs.HeldLaws.{seat-kept, taken-is}
use Rattle.thy_plain.proofs.advance.finish.Goals as goal

pub returns-clause-state : goal.returns-clause-state
returns-clause-state c =
    taken-is c.args.hart c.args.state.now c.finish_alone.new.self c.args.effect.now c.args.number c.requires.seat c.requires.no_call
    (c.finish_alone.ensures.processor any_calls)

pub returns-clause-seat : goal.returns-clause-seat
returns-clause-seat c =
    seat-kept c.args.hart c.args.state.now.processor c.finish_alone.new.self c.args.effect.now c.args.number any_calls c.requires.seat
    (c.finish_alone.ensures.processor any_calls)
