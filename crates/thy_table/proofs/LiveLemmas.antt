-- The place that each live entry of a table lies below.
use Rattle.std.proofs.Common.{◌≡◌, ◌≢◌, ℕ, zero, suc, ◌+◌, ◌-◌, ◌<◌, ◌≤◌, Bool, true, false, List, length, map, take, replicate, get_or, slice_set, Option, Some, None, refl, sym, ◌∙◌, ap, subst, inl, inr, arith}
use Rattle.std.specs.List.{count_by}
use Rattle.std.specs.Option.{option_and_then}
use Rattle.std.proofs.lemmas.Bool.{cases_lt, false≢true}
use Rattle.std.proofs.lemmas.List.{length-set, length-replicate, get_or-set_other, get_or-replicate, get_or_past, set-get_or, take_all}
use Rattle.std.proofs.lemmas.List.Sums.{count_by_more_no}
use Rattle.thy_table.specs.Listing.{Listing, listing, entry_at, passes, mapped, AreLiveBelow}
use Rattle.thy_table.proofs.MapLemmas.{mapped_below, mapped_to, mapped_below-more, mapped_below-all, get_or-mapped_below}

module _ {E : Type 0} where
  pub AreLiveBelow-empty : (size : ℕ) → AreLiveBelow {E = E} (replicate size None) 0
  AreLiveBelow-empty size = let none : Option E = None in record {
    free = λ i _. elim (cases_lt i size) as (λ _. get_or (replicate size none) i None ≡ None) [
      | inl l ↦ get_or-replicate size i None None l
      | inr past ↦ get_or_past (replicate size none) i None (omega (arith, past, length-replicate size none))
    ];
    within = omega arith;
  }

  -- an entry that passes a test lies below
  pub live-below : (test : E → Bool) (es : List (Option E)) (end i : ℕ) → AreLiveBelow es end → passes test (get_or es i None) ≡ true → i < end
  live-below test es end i live here = elim (cases_lt i end) as (λ _. i < end) [
    | inl l ↦ l
    | inr past ↦ absurd (false≢true (sym (ap (passes test) (live.free i past)) ∙ here))
  ]

  -- an entry is taken
  pub AreLiveBelow-put : (es : List (Option E)) (end raised place : ℕ) (x : Option E) → AreLiveBelow es end → place < length es → end ≤ raised → place < raised
      → ((n : ℕ) → end ≤ n → place < n → raised ≤ n) → AreLiveBelow (slice_set es place x) raised
  AreLiveBelow-put es end raised place x live inside kept over least = record {
    free = λ i past. get_or-set_other es place i x None (λ same. absurd (omega (arith, same, past, over))) ∙ live.free i (omega (arith, kept, past));
    within = omega (arith, least (length es) live.within inside, length-set es place x);
  }

  -- one that lies below is changed or cleared
  pub AreLiveBelow-set : (es : List (Option E)) (end place : ℕ) (x : Option E) → AreLiveBelow es end → place < end → AreLiveBelow (slice_set es place x) end
  AreLiveBelow-set es end place x live inside = record {
    free = λ i past. get_or-set_other es place i x None (λ same. absurd (omega (arith, same, past, inside))) ∙ live.free i past;
    within = omega (arith, live.within, length-set es place x);
  }

  -- the last one that may be live is free
  pub AreLiveBelow-lower : (es : List (Option E)) (end last : ℕ) → AreLiveBelow es end → end ≡ last + 1 → get_or es last None ≡ None → AreLiveBelow es last
  AreLiveBelow-lower es end last live is none = record {
    free = λ i past. elim (cases_lt i end) as (λ _. get_or es i None ≡ None) [
      | inl l ↦ let here : last ≡ i = omega (arith, is, past, l) in subst (λ (k : ℕ). get_or es k None ≡ None) here none
      | inr beyond ↦ live.free i beyond
    ];
    within = omega (arith, live.within, is);
  }

-- what leaves elements from a place on as they are needs to be done only below it
module _ {X : Type 0} (f : X → X) (d : X) (xs : List X) (end : ℕ) (fixed : (k : ℕ) → end ≤ k → f (get_or xs k d) ≡ get_or xs k d) where
  mapped_below-further : (n : ℕ) → end + n ≤ length xs → mapped_below f (end + n) xs ≡ mapped_below f end xs
  mapped_below-further zero l = let none : end + 0 ≡ end = omega arith in ap (λ (k : ℕ). mapped_below f k xs) none
  mapped_below-further (suc n) l =
      let more : end + suc n ≡ end + n + 1 = omega arith in
      let inside : end + n < length xs = omega (arith, l) in
      let there = mapped_below f (end + n) xs in
      ap (λ (k : ℕ). mapped_below f k xs) more
      ∙ sym (mapped_below-more f d xs (end + n) inside)
      ∙ ap (λ (y : X). slice_set there (end + n) y) (fixed (end + n) (omega arith) ∙ sym (get_or-mapped_below f d xs (end + n) inside))
      ∙ set-get_or there (end + n) d
      ∙ mapped_below-further n (omega (arith, l))

  mapped_below-live : end ≤ length xs → mapped_below f end xs ≡ map f xs
  mapped_below-live l =
      let whole : end + (length xs - end) ≡ length xs = omega (arith, l) in
      sym (mapped_below-further (length xs - end) (omega (arith, whole))) ∙ ap (λ (k : ℕ). mapped_below f k xs) whole ∙ mapped_below-all f d xs (length xs) (omega arith)

-- a rule that was applied to the entries below a place from which on none is live was applied to all
pub mapped_to-live : {E : Type 0} (rule : E → Option E) (t : Listing E) (i : ℕ) → i ≤ length t.entries → ((k : ℕ) → i ≤ k → entry_at t k ≡ None)
    → mapped_to rule i t ≡ mapped rule t
mapped_to-live rule t i within free =
    let f = option_and_then rule in
    ap (λ es. listing es t.numbers) (mapped_below-live f None t.entries i (λ k l. ap f (free k l) ∙ sym (free k l)) within)

-- entries that pass a test, counted below a place from which on none is live, are all that do
module _ {E : Type 0} (test : E → Bool) (t : Listing E) (end : ℕ) (free : (k : ℕ) → end ≤ k → entry_at t k ≡ None) where
  count-further : (n : ℕ) → end + n ≤ length t.entries → count_by (passes test) (take (end + n) t.entries) ≡ count_by (passes test) (take end t.entries)
  count-further zero l = let none : end + 0 ≡ end = omega arith in ap (λ (k : ℕ). count_by (passes test) (take k t.entries)) none
  count-further (suc n) l =
      let more : end + suc n ≡ end + n + 1 = omega arith in
      ap (λ (k : ℕ). count_by (passes test) (take k t.entries)) more
      ∙ count_by_more_no (passes test) t.entries (end + n) None (omega (arith, l)) (ap (passes test) (free (end + n) (omega arith)))
      ∙ count-further n (omega (arith, l))

  pub count-live : end ≤ length t.entries → count_by (passes test) (take end t.entries) ≡ count_by (passes test) t.entries
  count-live l =
      let whole : end + (length t.entries - end) ≡ length t.entries = omega (arith, l) in
      sym (count-further (length t.entries - end) (omega (arith, whole))) ∙ ap (λ (k : ℕ). count_by (passes test) (take k t.entries)) whole
      ∙ ap (count_by (passes test)) (take_all (length t.entries) t.entries (omega arith))
