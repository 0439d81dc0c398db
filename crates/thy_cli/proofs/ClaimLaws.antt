-- What is claimed of a call follows from what its result is.
use Rattle.std.specs.Prelude.{ℕ, List}
use Rattle.thy_isa.specs.Step.{State}
use Rattle.thy_run.specs.Watching.{Taken}
use Rattle.thy_outcome.specs.declared.answer.Answer.{Answer}
use Rattle.thy_outcome.specs.Answering.{Around, NvmOf}
use Rattle.thy_outcome.specs.Machines.{Choice}
use Rattle.thy_outcome.specs.Orders.{Answered}
use Rattle.thy_outcome.specs.Watching.{HasSeenCall}
use Rattle.thy_outcome.proofs.AnsweredLaws.{Completes-run, Completes-pair, Completes-compare, Completes-plain, Completes-make}
use Rattle.thy_cli.specs.Watching.{ClaimSeen}

-- what is claimed of a call follows from what its result is, and from what its observer has seen
pub ClaimSeen-answered : {N O : Type 0} (c : Choice) (d : NvmOf N) (has_seen : O → List Taken → Type 0)
    (has_seen_last : O → ℕ → State → Type 0) (words : List (List ℕ)) (before after : Around N) (a : Answer) (observer : O)
    → (h : Answered c d words before after a) → HasSeenCall c d has_seen has_seen_last words before after a h observer
    → ClaimSeen c d has_seen has_seen_last words before after a observer
ClaimSeen-answered c d has_seen has_seen_last words before after a observer h has = (
  record {
    answered = h;
    complete_run = Completes-run c d words before after a h;
    complete_pair = Completes-pair c d words before after a h;
    complete_compare = Completes-compare c d words before after a h;
    complete_plain = Completes-plain c d words before after a h;
    complete_make = Completes-make c d words before after a h;
  },
  has,
)
