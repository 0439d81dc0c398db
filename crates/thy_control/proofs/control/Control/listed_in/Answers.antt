use Rattle.std.proofs.Common.{◌≡◌, ℕ, ◌+◌, ◌*◌, ◌/◌, ◌<◌, ◌≤◌, ◌++◌, length, map, option_and_then, ap, subst, sym, ◌∙◌, inl, inr, arith}
use Rattle.std.proofs.lemmas.Bool.{cases_lt}
use Rattle.std.proofs.lemmas.List.{length-map}
use Rattle.thy_layout.specs.Entries.{entry_at}
use Rattle.thy_control.specs.CheckpointTables.{tables1}
use Rattle.thy_control.specs.TableBlocks.{block_due, page_due, entries_of}
use Rattle.thy_control.specs.State.{State}
use Rattle.thy_control.proofs.TableBlockLemmas.{entries-are, entry-free}
use Rattle.thy_control.proofs.control.Control.listed_in.Goals as goal

pub returns : goal.returns
returns c =
    let w : State = record {
      p = c.self.inside.geometry;
      btt = c.self.inside.btt;
      ptt = c.self.inside.ptt;
      counts = c.self.inside.counts;
      under_way = c.self.inside.under_way;
      dram = c.self.inside.dram;
    } in
    let k : ℕ = c.args.k in
    let asked : k < w.p.btt / 8 + w.p.ptt / 8 = subst (λ (s : State). k < s.p.btt / 8 + s.p.ptt / 8) (sym c.self.view_is) c.requires in
    let room : 8 * k + 8 ≤ length (tables1 w).btt + length (tables1 w).ptt
    = omega (arith, asked, length-map w.btt.entries (option_and_then block_due), length-map w.ptt.entries (option_and_then page_due), c.self.invariant.tables.btt_size, c.self.invariant.tables.ptt_size) in
    entries-are (tables1 w) k c.loop-i.entries room c.loop-i.invariant.0
    (λ j l. elim (cases_lt j c.live_among-live.result) as (λ _. entry_at c.loop-i.entries j
    ≡ entry_at (map (option_and_then block_due) w.btt.entries ++ map (option_and_then page_due) w.ptt.entries) (8 * k + j)) [
      | inl low ↦ c.loop-i.invariant.1 j (omega (arith, low, c.loop-i-test.false))
      | inr past ↦
          let free = c.live_among-live.ensures.free j past l in
          c.loop-i.invariant.2 j (omega (arith, past, c.loop-i.auto.i-end))
          ∙ sym (entry-free block_due w.btt.entries (map (option_and_then page_due) w.ptt.entries) (8 * k + j) free.0 free.1)
    ])
    ∙ ap (λ (s : State). entries_of (tables1 s) k) c.self.view_is
