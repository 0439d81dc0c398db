use Rattle.std.proofs.Common.{◌<◌, ◌∙◌, subst, arith}
use Rattle.thy_layout.specs.declared.layout_version.LayoutVersion.{LayoutVersion}
use Rattle.thy_record.specs.VersionSlots.{blocks_of_slot}
use Rattle.thy_isa.specs.Step.{state_of}
use Rattle.thy_thynvm_parts.proofs.StartLemmas.{start_version, start_slot-zeros}
use Rattle.thy_thynvm_parts.proofs.start.first_slot.Goals as goal

pub returns-else-k-record_blocks : goal.returns-else-k-record_blocks
returns-else-k-record_blocks c =
    c.block_with.ensures
    ∙ start_slot-zeros c.args.geometry.now (state_of c.args.state.now) c.args.k c.numbers-numbers.ensures.in_range
    (omega (arith, c.if-k-record_blocks.false))
    (subst (λ (f : LayoutVersion). c.args.k < blocks_of_slot f c.args.geometry.now) (start_version c.args.geometry.now) c.requires.inside)
