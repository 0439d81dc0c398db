-- The counts of pages: of a new controller, and after a store, a seal, and what a boot lists.
use Rattle.std.proofs.Common.{ℕ, ◌+◌, ◌≤◌, length, min, refl, sym, ◌∙◌, arith, rules}
use Rattle.std.proofs.lemmas.List.{length-set, length-replicate}
use Rattle.std.proofs.lemmas.List.Elements.{All-replicate, All-set}
use Rattle.thy_block.specs.declared.parameters.Parameters.{Parameters}
use Rattle.thy_table.specs.Counts.{Tally, most, uncounted, count_at, counted, with_last, reset}
use Rattle.thy_control.specs.State.{AreCountsOf}

pub AreCountsOf-new : (p : Parameters) → AreCountsOf p (uncounted p.pages p.high p.low)
AreCountsOf-new p = record {
  size = length-replicate p.pages 0;
  tallied = record {
    as_many = refl;
    counts_within = All-replicate (λ n. n ≤ most) p.pages 0 (omega arith);
    lasts_within = All-replicate (λ n. n ≤ most) p.pages 0 (omega arith);
  };
  high = refl;
  low = refl;
}

pub AreCountsOf-counted : (page : ℕ) (p : Parameters) (c : Tally) → AreCountsOf p c → AreCountsOf p (counted page c)
AreCountsOf-counted page p c h =
    let n : ℕ = min (count_at c page + 1) most in
    search (
      rules,
      length-set c.counts page n ∙ h.size,
      h.tallied.as_many ∙ sym (length-set c.counts page n),
      All-set (λ n. n ≤ most) c.counts page n (omega arith) h.tallied.counts_within,
    )

pub AreCountsOf-reset : (p : Parameters) (c : Tally) → AreCountsOf p c → AreCountsOf p (reset c)
AreCountsOf-reset p c h = record {
  size = length-replicate (length c.counts) 0 ∙ h.size;
  tallied = record {
    as_many = sym (length-replicate (length c.counts) 0);
    counts_within = All-replicate (λ n. n ≤ most) (length c.counts) 0 (omega arith);
    lasts_within = h.tallied.counts_within;
  };
  high = h.high;
  low = h.low;
}

pub AreCountsOf-last : (page n : ℕ) (p : Parameters) (c : Tally) → n ≤ most → AreCountsOf p c → AreCountsOf p (with_last page n c)
AreCountsOf-last page n p c within h = search (
  rules,
  length-set c.lasts page n ∙ h.tallied.as_many,
  All-set (λ n. n ≤ most) c.lasts page n within h.tallied.lasts_within,
)
