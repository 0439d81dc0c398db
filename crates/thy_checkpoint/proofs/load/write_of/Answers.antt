use Rattle.std.proofs.Common.{arith}
use Rattle.thy_isa.specs.Step.{state_of}
use Rattle.thy_checkpoint.proofs.LoadLemmas.{block_inside, length-first}
use Rattle.thy_checkpoint.proofs.load.write_of.Goals as goal

pub first_place-at-requires-clause-inside : goal.first_place-at-requires-clause-inside
first_place-at-requires-clause-inside g c =
    let few = length-first g.F.Fills.filling g.met.F.Fills.lawful c.args.geometry.now (state_of c.args.state.now) in
    omega (arith, c.if-k-memory.true, c.blocks_of_memory-memory.ensures, few)

pub start_block-block-requires-clause-place : goal.start_block-block-requires-clause-place
start_block-block-requires-clause-place g c =
    let few = length-first g.F.Fills.filling g.met.F.Fills.lawful c.args.geometry.now (state_of c.args.state.now) in
    omega (arith, c.if-k-memory.true, c.blocks_of_memory-memory.ensures, few)

pub slot_at-at-requires : goal.slot_at-at-requires
slot_at-at-requires g c =
    block_inside g.F.Fills.filling g.met.F.Fills.lawful c.args.geometry.now c.commit_block.result _ c.commit_block.ensures
    (omega (arith, c.if-k-memory-2.true, c.blocks_of_slot-slot.ensures))
