use Rattle.std.proofs.Common.{ℕ, ◌-◌, Bool, if◌then◌else◌, ◌∙◌, sym, ap, arith}
use Rattle.std.proofs.lemmas.Bool.{le-ltb}
use Rattle.thy_block.specs.Places.{record_blocks}
use Rattle.thy_isa.specs.Step.{state_of, cpu_of}
use Rattle.thy_layout.specs.Cpu.{cpu_block_of}
use Rattle.thy_layout.specs.TableSlots.{table_block_of}
use Rattle.thy_journal_parts.specs.Filling.{no_table}
use Rattle.thy_journal_parts.proofs.ZeroLemmas.{table_block-none}
use Rattle.thy_journal_parts.proofs.start.start_slot_block.Goals as goal

pub returns-else-k-record_blocks : goal.returns-else-k-record_blocks
returns-else-k-record_blocks c =
    let k : ℕ = c.args.k in
    c.block_with.ensures
    ∙ table_block-none c.args.geometry.now (k - record_blocks c.args.geometry.now) c.numbers-numbers.ensures.in_range
    (omega (arith, c.requires.place, c.if-k-record_blocks.false))
    ∙ ap (λ (t : Bool). if t then cpu_block_of (cpu_of (state_of c.args.state.now)) 0 k
    else table_block_of (no_table c.args.geometry.now) (k - record_blocks c.args.geometry.now))
    (sym (le-ltb k (record_blocks c.args.geometry.now) (omega (arith, c.if-k-record_blocks.false))))
