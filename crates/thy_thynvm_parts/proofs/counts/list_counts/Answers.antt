use Rattle.std.proofs.Common.{ℕ, List, sym, ◌∙◌, ap}
use Rattle.thy_layout.specs.declared.layout_version.LayoutVersion.{LayoutVersion}
use Rattle.thy_layout.specs.Files.{blocks_of}
use Rattle.thy_record.specs.Slots.{counts_in}
use Rattle.thy_thynvm_parts.specs.Listed.{with_lasts}
use Rattle.thy_thynvm_parts.proofs.counts.list_counts.Goals as goal

pub returns-in-VersionOne-clause-counts : goal.returns-in-VersionOne-clause-counts
returns-in-VersionOne-clause-counts c =
    ap (λ (xs : List ℕ). with_lasts xs c.args.control.now)
    (c.requires.none ∙ ap (λ (f : LayoutVersion). counts_in f c.args.geometry.now (blocks_of c.args.slot.now)) (sym c.in-VersionOne.is))
