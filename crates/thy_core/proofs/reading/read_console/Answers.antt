use Rattle.std.proofs.Common.{◌≡◌, ℕ, ◌-◌, ◌%◌, ◌≤◌, ◌*◌, ◌+◌, List, length, take, drop, ◌∙◌, ap, arith}
use Rattle.thy_block.specs.declared.block.Block.{Block}
use Rattle.thy_block.specs.declared.parameters.Parameters.{Parameters}
use Rattle.thy_block.specs.Geometry.{program_size}
use Rattle.thy_block.proofs.RangeLemmas.{console_below}
use Rattle.thy_core.specs.MachineParts.{machine_of}
use Rattle.thy_core.specs.Reading.{blocks_in}
use Rattle.thy_core.proofs.ReadingLemmas.{console_piece}
use Rattle.thy_core.proofs.reading.read_console.Goals as goal

pub returns-clause-console : goal.returns-clause-console
returns-clause-console g c =
    let p : Parameters = c.args.m.now.hart.geometry in
    let bs : List Block = blocks_in g.S.Scheme.scheme c.args.version (machine_of c.args.m.now) (g.N.Nvm.device c.args.nvm.now) in
    let base : ℕ = c.program_size-base.result in
    let end : ℕ = c.div_ceil.result in
    let is : base ≡ program_size p = c.program_size-base.ensures.size ∙ ap (λ (x : Parameters). program_size x) c.geometry.ensures in
    let enough : base + c.args.len ≤ 64 * end = omega (arith, c.div_ceil.ensures) in
    let within : end ≤ length bs =
    omega (arith, c.div_ceil.ensures, is, c.requires.roomy.room, c.requires.roomy.whole, console_below p c.requires.roomy.range) in
    c.from_vec.ensures.bytes ∙ c.in_ok-bytes.ensures.items ∙ c.part-piece.ensures
    ∙ ap (λ (xs : List ℕ). take (c.args.len - c.args.from) (drop ((base + c.args.from) % 64) xs)) (c.as_slice.ensures ∙ c.in_ok-all.ensures.bytes)
    ∙ console_piece p base c.args.from c.args.len end bs is c.if-len-from.false enough within
