-- The end of a run's report where no summary is due.
use Rattle.std.proofs.Common.{◌≡◌, ℕ, Bool, true, false, Option, List, [], ◌∷◌, ◌++◌, refl, ◌∙◌, subst}
use Rattle.std.specs.Prelude.{◌≢◌, ◌||◌}
use Rattle.thy_block.specs.declared.outside.PutError.{PutError}
use Rattle.thy_block.specs.Outside.{Stream, Took}
use Rattle.thy_block.proofs.Streams.{Took-append, TookPart-append}
use Rattle.thy_run.specs.declared.ending.Ending.{Ending}
use Rattle.thy_outcome.specs.Answering.{Closes, ClosesAs, ClosesRun, SumsUp, run_line, run_status, stop_summed}
use Rattle.thy_outcome.specs.Sources.{file}

-- a closing line after a summary without bytes
closes_next : (line : List ℕ) (old mid new : Stream) → Took old mid [] → Closes line mid new → Closes line old new
closes_next line old mid new took (false, sent) = (false, Took-append old mid new [] line took sent)
closes_next line old mid new took (true, sent) = (true, (TookPart-append old mid new [] line took sent.0, sent.1))

-- without a summary the report does not fail in it, and the closing line comes next
closes_alone : (deaf failed : Bool) (line : List ℕ) (old mid new : Stream) → SumsUp deaf failed [] old mid
    → ClosesRun (deaf || failed) line mid new → (failed ≡ false) × ClosesRun deaf line old new
closes_alone false false line old mid new sums closes = (refl, closes_next line old mid new sums closes)
closes_alone false true line old mid new sums closes = absurd (sums.1 refl)
closes_alone true failed line old mid new sums closes = (sums.0, closes ∙ sums.1)

-- the run of a program file ends its report with the closing line alone
pub unsummed : (name : List ℕ) (limit : ℕ) (save : Option (List ℕ)) (e : Ending) (why : Option PutError) (status : ℕ) (old new : Stream)
    → ClosesAs (file name) limit save e why status old new
    → ClosesRun e.report_failed (run_line limit save e.stop why) old new × (status ≡ run_status e.stop why)
unsummed name limit save e why status old new c =
    let alone = closes_alone e.report_failed c.failed (run_line limit save e.stop why) old c.summed new c.sums c.closes in (
      alone.1,
      subst (λ b. status ≡ run_status (stop_summed b e.stop) why) alone.0 c.answers,
    )
