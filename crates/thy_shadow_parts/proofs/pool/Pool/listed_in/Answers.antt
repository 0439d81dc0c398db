use Rattle.std.proofs.Common.{ℕ, ◌+◌, ◌*◌, ◌≤◌, length, arith}
use Rattle.thy_layout.proofs.EightLemmas.{eight_are}
use Rattle.thy_shadow_parts.specs.State.{State, next_page, next_table}
use Rattle.thy_shadow_parts.proofs.TableLemmas.{length-table_by}
use Rattle.thy_shadow_parts.proofs.pool.Pool.listed_in.Goals as goal

pub returns : goal.returns
returns c =
    let s : State = c.args.self.now in
    let k : ℕ = c.args.k in
    let room : 8 * k + 8 ≤ length (next_table s) = omega (arith, c.requires, length-table_by s.p (next_page s)) in
    eight_are (next_table s) k c.loop-i.entries room c.loop-i.invariant.0
    (λ j l. c.loop-i.invariant.1 j (omega (arith, l, c.loop-i-test.false)))
