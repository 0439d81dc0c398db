use Rattle.std.proofs.Common.{sym, subst}
use Rattle.thy_outcome.specs.declared.source.ProgramSource.{ProgramSource}
use Rattle.thy_files.specs.Beginnings.{RefusesAs}
use Rattle.thy_outcome.specs.Kept.{named}
use Rattle.thy_files.proofs.beginning.begin.Goals as goal

pub returns-in-Image-clause-refusal : goal.returns-in-Image-clause-refusal
returns-in-Image-clause-refusal c =
    subst (λ (s : ProgramSource). RefusesAs (named s) c.args.geometry c.args.fetched c.from_image.result) (sym c.in-Image.is)
    (c.from_image.ensures.refusal c.in-Image.field-0.now)
