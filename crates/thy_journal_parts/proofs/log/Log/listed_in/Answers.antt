use Rattle.std.proofs.Common.{ℕ, ◌+◌, ◌*◌, ◌≤◌, length, arith}
use Rattle.thy_journal_parts.specs.State.{State, table_of}
use Rattle.thy_layout.proofs.EightLemmas.{eight_are}
use Rattle.thy_journal_parts.proofs.TableLemmas.{length-table_of}
use Rattle.thy_journal_parts.proofs.log.Log.listed_in.Goals as goal

pub returns : goal.returns
returns c =
    let s : State = c.args.self.now in
    let k : ℕ = c.args.k in
    let room : 8 * k + 8 ≤ length (table_of s) = omega (arith, c.requires, length-table_of s, c.recall_sound.ensures.size) in
    eight_are (table_of s) k c.loop-i.entries room c.loop-i.invariant.0 (λ j l. c.loop-i.invariant.1 j (omega (arith, l, c.loop-i-test.false)))
