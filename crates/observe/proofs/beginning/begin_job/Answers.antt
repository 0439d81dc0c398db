use Rattle.std.proofs.Common.{ap, sym}
use Rattle.thy_base.specs.Settings.{Job, job_of}
use Rattle.thy_outcome.specs.Sources.{Beginning}
use Rattle.thy_files.specs.Beginnings.{IsPlannedFor}
use Rattle.observe.proofs.beginning.begin_job.Goals as goal

pub returns-in-Ok-clause-begins : goal.returns-in-Ok-clause-begins
returns-in-Ok-clause-begins g c =
    let job : Job = job_of c.args.job.now in
    let planned : IsPlannedFor job c.of-geometry.result _ = record { numbers = c.of-geometry.ensures; reads = sym c.as_deref.ensures.value } in
    let begins = c.in-Ok.ensures.begins job planned in
    record {
      program = begins.program;
      state = ap (λ (b : Beginning). b.start) begins.begins;
      input = begins.input;
      geometry = c.of-geometry.ensures;
    }

pub returns-clause-refusal : goal.returns-clause-refusal
returns-clause-refusal g c =
    let job : Job = job_of c.args.job.now in
    let planned : IsPlannedFor job c.of-geometry.result _ = record { numbers = c.of-geometry.ensures; reads = sym c.as_deref.ensures.value } in
    c.in-Err.ensures.refusal job planned
