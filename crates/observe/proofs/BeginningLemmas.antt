-- The job of an order that runs the machine once.
use Rattle.std.proofs.Common.{◌≡◌, Option, Some, None, ap, subst}
use Rattle.thy_base.specs.Config.{fault_of as range_fault}
use Rattle.thy_base.specs.Settings.{Job, Order, run, resume, bench, compare, plain, make, IsInRange}
use Rattle.thy_outcome.specs.Sources.{ProgramSource, file, made, image}
use Rattle.observe.specs.Beginning.{run_in}

same-job : (a source : ProgramSource) (own job : Job) → ◌≡◌ {A = Option (ProgramSource × Job)} (Some (a, own)) (Some (source, job)) → own ≡ job
same-job a source own job runs =
    let same : ◌≡◌ {A = ProgramSource × Job} (a, own) (source, job) = cc in ap (λ (p : ProgramSource × Job). p.1) same

-- the numbers of a job are in range if its order's are
pub job-in-range : (order : Order) (source : ProgramSource) (job : Job) → run_in order ≡ Some (source, job) → IsInRange order → range_fault job.config ≡ None
job-in-range (run name own) source job runs fits = subst (λ (j : Job). range_fault j.config ≡ None) (same-job (file name) source own job runs) fits
job-in-range (resume name own) source job runs fits = subst (λ (j : Job). range_fault j.config ≡ None) (same-job (image name) source own job runs) fits
job-in-range (bench n own) source job runs fits = subst (λ (j : Job). range_fault j.config ≡ None) (same-job (made n) source own job runs) fits.0
job-in-range (compare name own) source job runs _ = absurd (cc)
job-in-range (plain name own) source job runs _ = absurd (cc)
job-in-range (make n name) source job runs _ = absurd (cc)
