use Rattle.std.proofs.Common.{ap, sym, ◌∙◌}
use Rattle.std.specs.Prelude.{option_map}
use Rattle.thy_base.specs.Settings.{job_of, order_of}
use Rattle.thy_outcome.specs.Kept.{named}
use Rattle.observe.specs.Beginning.{run_of}
use Rattle.observe.proofs.BeginningLemmas.{job-in-range}
use Rattle.observe.proofs.beginning.begin.Goals as goal

pub begin_job-requires : goal.begin_job-requires
begin_job-requires g c =
    job-in-range (order_of c.args.command.now) (named c.in-Some.source) (job_of c.in-Some.job.now)
    (sym c.run_of.ensures ∙ ap (option_map run_of) c.in-Some.is) c.requires
