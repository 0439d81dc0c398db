use Rattle.std.proofs.Common.{◌≡◌, ℕ, ◌+◌, ◌-◌, ◌*◌, List, length, take, drop, min, inl, inr, sym, ◌∙◌, ap, arith}
use Rattle.std.proofs.lemmas.Bool.{cases_lt}
use Rattle.std.proofs.lemmas.List.{length-drop, take_all}
use Rattle.thy_block.specs.Blocks.{overwritten}
use Rattle.thy_block.specs.Device.{zero_block}
use Rattle.thy_table.specs.Counts.{Tally}
use Rattle.thy_table.specs.LastBlocks.{last_block_of}
use Rattle.thy_table.proofs.counts.Counts.last_block.Goals as goal

-- the elements of a list from a place on, at most 64 of them, are the first 64 from there
up_to_64 : (xs : List ℕ) (from n : ℕ) → n ≡ min (length xs - from) 64 → take (from + n - from) (drop from xs) ≡ take 64 (drop from xs)
up_to_64 xs from n is = elim (cases_lt (length xs - from) 64) as (λ _. take (from + n - from) (drop from xs) ≡ take 64 (drop from xs)) [
  | inl low ↦
      let all : n ≡ length xs - from = omega (arith, is, low) in
      take_all (from + n - from) (drop from xs) (omega (arith, all, length-drop from xs))
      ∙ sym (take_all 64 (drop from xs) (omega (arith, low, length-drop from xs)))
  | inr high ↦
      let whole : from + n - from ≡ 64 = omega (arith, is, high) in
      ap (λ k. take k (drop from xs)) whole
]

pub returns : goal.returns
unfolding last_block_of
returns c =
    let lasts : c.self.inside.lasts.items ≡ c.args.self.now.lasts = ap (λ (t : Tally). t.lasts) c.self.view_is in
    let pages : c.pages-pages.result ≡ length c.self.inside.lasts.items
    = c.pages-pages.ensures ∙ ap (λ (t : Tally). length t.counts) (sym c.self.view_is) ∙ sym c.self.invariant.as_many in
    c.over_zeros.ensures
    ∙ ap (λ xs. overwritten 0 (take (64 * c.args.k + c.min-count.result - 64 * c.args.k) (drop (64 * c.args.k) xs)) zero_block) c.deref.ensures.value
    ∙ ap (λ bytes. overwritten 0 bytes zero_block) (up_to_64 c.self.inside.lasts.items (64 * c.args.k) c.min-count.result
    (c.min-count.ensures ∙ ap (λ n. min (n - 64 * c.args.k) 64) pages))
    ∙ ap (λ xs. overwritten 0 (take 64 (drop (64 * c.args.k) xs)) zero_block) lasts
