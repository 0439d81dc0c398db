use Rattle.std.proofs.Common.{◌∙◌, ap}
use Rattle.thy_isa.specs.declared.state.Effect.TheVariants.{Environment}
use Rattle.thy_plain.specs.Machine.{setting_of}
use Rattle.thy_isa.specs.Processor.{ProcessorState, processor_finished}
use Rattle.thy_plain.proofs.HeldLaws.{seat-kept, served-is}
use Rattle.thy_plain.proofs.advance.serve.Goals as goal

pub returns-clause-state : goal.returns-clause-state
returns-clause-state c =
    served-is c.args.hart (setting_of c.args.setup.now) c.args.state.now
    (record { processor = c.finish.new.self; memory = c.move_called.new.state.memory; console = c.move_called.new.state.console })
    c.move_called.new.state.processor c.call_state-calls.result c.requires.seat c.call_state-calls.ensures.calls
    c.move_called.ensures.processor c.finish.ensures.processor c.move_called.ensures.memory c.move_called.ensures.console

pub returns-clause-seat : goal.returns-clause-seat
returns-clause-seat c =
    seat-kept c.args.hart c.args.state.now.processor c.finish.new.self Environment 0 c.call_state-calls.result c.requires.seat
    (c.finish.ensures.processor
    ∙ ap (λ (p : ProcessorState). processor_finished c.args.hart p Environment 0 c.call_state-calls.result) c.move_called.ensures.processor)
