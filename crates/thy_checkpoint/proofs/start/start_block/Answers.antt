use Rattle.std.proofs.Common.{◌-◌, ◌*◌, length, replicate, ◌++◌, sym, ◌∙◌, arith}
use Rattle.thy_block.specs.Bytes.{bytes_of}
use Rattle.thy_block.specs.Geometry.{console_room}
use Rattle.thy_isa.specs.Step.{state_of}
use Rattle.thy_checkpoint.proofs.StartLemmas.{memory_block, console_block, block_at-start_blocks}
use Rattle.thy_checkpoint.proofs.start.start_block.Goals as goal

pub returns-then-from-size : goal.returns-then-from-size
returns-then-from-size c =
    memory_block c.whole_block.result (bytes_of c.args.state.now.memory)
    (bytes_of c.args.state.now.console ++ replicate (console_room c.args.geometry.now - length (bytes_of c.args.state.now.console)) 0)
    c.as_slice.result.now (64 * c.args.b) c.as_slice.ensures c.whole_block.ensures
    (omega (arith, c.requires.start.memory, c.program_size-size.ensures.size))
    ∙ sym (block_at-start_blocks c.args.geometry.now (state_of c.args.state.now) c.args.b c.requires.place)

pub returns-else-from-size : goal.returns-else-from-size
returns-else-from-size c =
    console_block c.part_block.result (bytes_of c.args.state.now.memory) (bytes_of c.args.state.now.console)
    c.as_slice-else-from-size.result.now (64 * c.args.b) (64 * c.args.b - c.program_size-size.result)
    (console_room c.args.geometry.now - length (bytes_of c.args.state.now.console))
    c.as_slice-else-from-size.ensures
    (omega (arith, c.requires.start.memory, c.program_size-size.ensures.size))
    c.part_block.ensures
    (omega (arith, c.requires.start.memory, c.program_size-size.ensures.size))
    (omega (arith, c.requires.start.memory, c.requires.place, c.requires.start.console, c.program_size-size.ensures.size, c.program_size-size.ensures.in_range))
    ∙ sym (block_at-start_blocks c.args.geometry.now (state_of c.args.state.now) c.args.b c.requires.place)
