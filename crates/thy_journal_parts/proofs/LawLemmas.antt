-- What holds of filling the log.
use Rattle.std.proofs.Common.{refl, inr, arith}
use Rattle.thy_block.specs.Device.{newest}
use Rattle.thy_checkpoint.specs.Filling.{IsFilling}
use Rattle.thy_checkpoint.proofs.OlderLemmas.{never_older}
use Rattle.thy_images.specs.JournalPlaces.{scheme_number, journal_place}
use Rattle.thy_images.proofs.JournalLayoutLemmas.{journal_are_layouts}
use Rattle.thy_journal_parts.proofs.DrainLemmas.{works_drained, IsSoundState-drained}
use Rattle.thy_journal_parts.specs.Filling.{filling_journal, slot_named}
use Rattle.thy_journal_parts.proofs.FillLemmas.{next_above, next_found, filled_all, listed_put, filled_put, works_are_memory}
use Rattle.thy_journal_parts.proofs.FirstLemmas.{start_fits, start_cpu, fresh_loads}
use Rattle.thy_journal_parts.proofs.OnceLemmas.{slot_listed_once}

pub log_is_filled : IsFilling filling_journal
log_is_filled = record {
  laid = journal_are_layouts;
  begins = λ s n commit slot lists. record { each = λ i b low listed. absurd (omega (arith, low)) };
  next = λ s n commit slot from k lists filled found. next_found s n slot lists from filled commit k found;
  above = λ p commit slot from k found. next_above p slot from k found;
  fills = λ s n commit slot k lists filled found settled sized is. (
    listed_put s n slot lists k (newest n (journal_place s.p (slot_named commit) k)),
    filled_put s n slot lists commit k filled found is,
    refl,
  );
  fill_acts = λ s n commit k. inr (record {
    at = k;
    block = newest n (journal_place s.p (slot_named commit) k);
    left = refl;
    nvm = refl;
  });
  fill_keeps = λ s commit k block. refl;
  same_keeps = λ s. refl;
  ends = λ s n commit slot from lists filled none settled long is slot_is.
      let whole = filled_all s n slot lists from filled none in (whole, works_are_memory s n slot lists settled slot_is whole);
  renews = λ p commit slot older. absurd (never_older scheme_number p commit (omega arith) older.version);
  lists_once = slot_listed_once;
  drain_p = λ s. refl;
  drain_fresh = λ s fresh. record { state = IsSoundState-drained s fresh.state; free = fresh.free };
  drain_lists = λ s commit slot lists. record { state = IsSoundState-drained s lists.state; table = lists.table };
  drain_filled = λ s n k filled. record { each = filled.each };
  drain_whole = λ s n filled. record { each = filled.each };
  drain_loads = λ s n. works_drained s n;
  first_fits = start_fits;
  first_cpu = start_cpu;
  first_loads = λ s n start fresh settled. fresh_loads s n start fresh;
}
