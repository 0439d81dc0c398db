use Rattle.std.proofs.Common.{◌≡◌, true}
use Rattle.thy_isa.specs.Step.{is_running}
use Rattle.thy_plain.specs.Machine.{after_steps}
use Rattle.thy_plain.proofs.RunLaws.{Ran}
use Rattle.thy_plain.proofs.plain.Plain.run.Given as goal

abbrev pub invariant-loop-done : goal.invariant-loop-done
invariant-loop-done l = record {
  ran : Ran l.initial.self l.done;
  state : l.self ≡ after_steps l.done l.initial.self;
  runs : is_running l.self.state.status ≡ true;
}
