-- What is claimed of a call with an observer.
use Rattle.std.specs.Prelude.{ℕ, List}
use Rattle.thy_isa.specs.Step.{State}
use Rattle.thy_run.specs.Watching.{Taken}
use Rattle.thy_outcome.specs.declared.answer.Answer.{Answer}
use Rattle.thy_outcome.specs.Answering.{Around, NvmOf}
use Rattle.thy_cli.specs.Completing.{Claim}
use Rattle.thy_outcome.specs.Machines.{Choice}
use Rattle.thy_outcome.specs.Watching.{HasSeenCall}

-- What is claimed of a call with an observer: what is claimed of one without, and that it has seen the cycles of the run,
-- or the plain machine's last state.
abbrev pub ClaimSeen : {N O : Type 0} → Choice → NvmOf N → (O → List Taken → Type 0) → (O → ℕ → State → Type 0)
    → List (List ℕ) → Around N → Around N → Answer → O → Type 0
ClaimSeen c d has_seen has_seen_last words before after a observer =
    (claim : Claim c d words before after a)
    × HasSeenCall c d has_seen has_seen_last words before after a claim.answered observer
