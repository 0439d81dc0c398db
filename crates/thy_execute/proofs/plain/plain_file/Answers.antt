use Rattle.std.proofs.Common.{sym, refl}
use Rattle.thy_base.specs.Settings.{job_of}
use Rattle.thy_execute.proofs.plain.plain_file.Goals as goal

pub returns : goal.returns
returns g c = λ n. c.run_plain.ensures n (job_of c.args.job)
    (record { configures = refl; reads = sym c.as_deref-input.ensures.value; digests = refl })
