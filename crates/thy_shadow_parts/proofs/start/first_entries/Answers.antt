use Rattle.std.proofs.Common.{ℕ, ◌+◌, ◌*◌, ◌≤◌, length, Some, arith}
use Rattle.thy_block.specs.declared.parameters.Parameters.{Parameters}
use Rattle.thy_layout.proofs.EightLemmas.{eight_are}
use Rattle.thy_shadow_parts.proofs.TableLemmas.{length-table_by}
use Rattle.thy_shadow_parts.specs.Filling.{first_table}
use Rattle.thy_shadow_parts.proofs.start.first_entries.Goals as goal

pub returns : goal.returns
returns c =
    let p : Parameters = c.args.geometry.now in
    let k : ℕ = c.args.k in
    let room : 8 * k + 8 ≤ length (first_table p) = omega (arith, c.requires, length-table_by p (λ x. Some x)) in
    eight_are (first_table p) k c.loop-i.entries room c.loop-i.invariant.0
    (λ j l. c.loop-i.invariant.1 j (omega (arith, l, c.loop-i-test.false)))
