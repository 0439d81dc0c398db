use Rattle.std.proofs.Common.{subst, arith}
use Rattle.thy_block.specs.Bytes.{bytes_of}
use Rattle.thy_files.specs.Restoring.{IsRestored}
use Rattle.thy_files.proofs.BeginningLemmas.{Begins-image}
use Rattle.thy_files.proofs.beginning.from_image.Goals as goal

pub returns-clause-begins : goal.returns-clause-begins
returns-clause-begins c = λ name job stock h.
    Begins-image name job stock c.args.geometry.now c.args.fetched c.in-Ok-At.epoch c.in-Ok.beginning h
    (subst (λ b. IsRestored c.args.geometry.now b (bytes_of c.args.fetched.input) c.in-Ok-At.epoch c.in-Ok.beginning) c.as_slice-2.ensures c.in-Ok.ensures)
    (omega (arith, c.if-cursor-length.false, c.len-length.ensures))
