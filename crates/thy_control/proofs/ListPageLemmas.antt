-- Pages that are listed to be promoted: every other page has the entry that it had.
use Rattle.std.proofs.Common.{◌≡◌, ◌≢◌, ◌⊎◌, ℕ, ◌+◌, ◌-◌, ◌<◌, ◌≤◌, max, Bool, true, false, if◌then◌else◌, List, [], ◌∷◌, ◌++◌, length, get_or, take, drop, map, filter, cond, All, refl, sym, ◌∙◌, ap, subst, inl, inr, arith, zero, suc, Option, Some, None, option_and_then}
use Rattle.std.specs.List.{range_with_len}
use Rattle.std.proofs.lemmas.Bool.{cases_eq, leb-true, le-ltb}
use Rattle.std.proofs.lemmas.List.{map-id, append-nil, length-set, length-take, length-drop, get_or-set_same, get_or-take, get_or-drop}
use Rattle.std.proofs.Math.Seq.{map-set_same}
use Rattle.std.proofs.lemmas.List.Elements.{All-filter}
use Rattle.std.proofs.lemmas.List.FromFn.{filter_of_map_range_with_len_more, get_or-range_with_len, length-range_with_len}
use Rattle.thy_table.specs.Listing.{Listing, IsListing, entry_at, index_of, free_index, with_entry}
use Rattle.thy_table.proofs.ListingLaws.{IsListing-put}
use Rattle.thy_table.specs.declared.page_entry.PttEntry.{PttEntry}
use Rattle.thy_table.specs.PageEntry.{no_page, promoted_page, is_framed}
use Rattle.thy_table.specs.Counts.{Tally, is_dense, greatest_of, are_sparse}
use Rattle.thy_control.specs.Find.{entry_for, with_entry_for}
use Rattle.thy_control.specs.Keys.{page_key}
use Rattle.thy_control.specs.CheckpointTables.{page_lists}
use Rattle.thy_control.specs.Seal.{dense_below, with_pages, with_dense}
use Rattle.thy_control.proofs.FindLemmas.{entry_for-some, index_of-new_same, index_of-new_other, at_put, entry_for-kept, entry_at-put, free_at, by_entry_for}
use Rattle.thy_control.proofs.CommitLemmas.{AreLive}

-- a page has the entry that it had, or was not listed and is to be promoted
pub record Same (t u : Listing PttEntry) (n : ℕ) : Type 0 where
  pub place : index_of page_key n u ≡ index_of page_key n t
  pub entry : entry_for page_key no_page n u ≡ entry_for page_key no_page n t

pub record Listed (t u : Listing PttEntry) (n : ℕ) : Type 0 where
  pub unlisted : index_of page_key n t ≡ None
  pub at : ℕ
  pub place : index_of page_key n u ≡ Some at
  pub entry : entry_for page_key no_page n u ≡ promoted_page n

-- what the committed checkpoint lists of it
abbrev pub page_listed0 : PttEntry → Option ℕ
page_listed0 e = page_lists e.place e.page

-- what is known of a page table after some were listed
pub record Lists (t u : Listing PttEntry) : Type 0 where
  pub size : length u.entries ≡ length t.entries
  pub numbers : u.numbers ≡ t.numbers
  pub once : IsListing page_key t → IsListing page_key u
  pub live : AreLive t → AreLive u
  pub tables : map (option_and_then page_listed0) u.entries ≡ map (option_and_then page_listed0) t.entries
  pub each : (n : ℕ) → Same t u n ⊎ Listed t u n

lists_none : (t : Listing PttEntry) → Lists t t
lists_none t = record { size = refl; numbers = refl; once = λ o. o; live = λ h. h; tables = refl; each = λ n. inl (record { place = refl; entry = refl }) }

-- a page whose place stays listed stays so
lists_on : (t u v : Listing PttEntry) → Lists t u → Lists u v → Lists t v
lists_on t u v a b = record {
  size = b.size ∙ a.size;
  numbers = b.numbers ∙ a.numbers;
  once = λ o. b.once (a.once o);
  live = λ h. b.live (a.live h);
  tables = b.tables ∙ a.tables;
  each = λ n. each n (a.each n) (b.each n);
} where
  each : (n : ℕ) → Same t u n ⊎ Listed t u n → Same u v n ⊎ Listed u v n → Same t v n ⊎ Listed t v n
  each n (inl x) (inl y) = inl (record { place = y.place ∙ x.place; entry = y.entry ∙ x.entry })
  each n (inl x) (inr y) = inr (record { unlisted = sym x.place ∙ y.unlisted; at = y.at; place = y.place; entry = y.entry })
  each n (inr x) (inl y) = inr (record { unlisted = x.unlisted; at = x.at; place = y.place ∙ x.place; entry = y.entry ∙ x.entry })
  each n (inr x) (inr y) = let both : Some x.at ≡ None = sym x.place ∙ y.unlisted in cc

-- one page is put in the lowest free place
module _ (t : Listing PttEntry) (m i : ℕ) (unlisted : index_of page_key m t ≡ None) (lowest : free_index t ≡ Some i)
    (room : m < t.numbers) where
  free_there : (entry_at t i ≡ None) × (i < length t.entries)
  free_there = free_at t i lowest

  abbrev u : Listing PttEntry
  u = with_entry i (Some (promoted_page m)) t

  listed_here : Listed t u m
  listed_here =
      let place : index_of page_key m u ≡ Some i = index_of-new_same page_key promoted_page (λ n. refl) t m i unlisted lowest in
      record {
        unlisted = unlisted;
        at = i;
        place = place;
        entry = entry_for-some page_key no_page u m i (promoted_page m) place
            (get_or-set_same t.entries i (Some (promoted_page m)) None free_there.1);
      }

  same_there : (n : ℕ) → n ≢ m → Same t u n
  same_there n other =
      let place = index_of-new_other page_key promoted_page (λ k. refl) t m i unlisted lowest n
      other in
      record {
        place = place;
        entry = entry_for-kept page_key no_page t u n place
            (λ k x was of_n. entry_at-put t i (Some (promoted_page m)) free_there.0 k x was);
      }

  each_there : (n : ℕ) → Same t u n ⊎ Listed t u n
  each_there n = elim (cases_eq n m) as (λ _. Same t u n ⊎ Listed t u n) [
    | inl s ↦ inr (subst (λ (k : ℕ). Listed t u k) (sym s) listed_here)
    | inr o ↦ inl (same_there n o)
  ]

-- what is known of a page table after one page was listed
pub lists_one : (t : Listing PttEntry) (m : ℕ) → m < t.numbers → Lists t (with_entry_for page_key promoted_page m t)
lists_one t m room =
    by_entry_for page_key promoted_page (λ v. Lists t v) t m (lists_none t) (λ i h f.
    let free = free_at t i f in
    record {
      size = length-set t.entries i (Some (promoted_page m));
      numbers = refl;
      once = λ once. IsListing-put page_key t once i (promoted_page m) free.1 h room;
      live = λ live. at_put t i (λ e. is_framed e ≡ false → e.fresh ≡ true) (promoted_page m) free.1
          (λ bare. refl) live;
      tables = map-set_same (option_and_then page_listed0) t.entries i (Some (promoted_page m)) None
          (sym (ap (option_and_then page_listed0) free.0));
      each = each_there t m i h f room;
    })

-- what is known of a page table after any number of pages were listed
pub lists_all : (ns : List ℕ) (t : Listing PttEntry) → All (λ n. n < t.numbers) ns → Lists t (with_pages ns t)
lists_all [] t inside = lists_none t
lists_all (n ∷ ns) t inside =
    let one : Lists t (with_entry_for page_key promoted_page n t) = lists_one t n (inside 0 0 (omega arith)) in
    let u : Listing PttEntry = with_entry_for page_key promoted_page n t in
    lists_on t u (with_pages ns u) one
    (lists_all ns u (λ k d l. subst (λ (m : ℕ). get_or ns k d < m) (sym one.numbers) (inside (suc k) d (omega arith))))

-- the dense pages below a number are below it
pub dense-below : (c : Tally) (n : ℕ) → All (λ k. k < n) (dense_below c n)
dense-below c n = All-filter (is_dense c) (λ k. k < n) (range_with_len 0 n)
    (λ k d l. let inside : k < n = omega (arith, l, length-range_with_len 0 n) in omega (arith, get_or-range_with_len 0 n k d inside))

-- the dense pages below one number more
pub dense_below-more : (c : Tally) (n : ℕ) → dense_below c (n + 1) ≡ dense_below c n ++ cond (is_dense c n) (n ∷ []) []
dense_below-more c n =
    ap (filter (is_dense c)) (sym (map-id (range_with_len 0 (n + 1))))
    ∙ filter_of_map_range_with_len_more (is_dense c) (λ k. k) 0 n n (omega arith)
    ∙ ap (λ ks. filter (is_dense c) ks ++ cond (is_dense c n) (n ∷ []) []) (map-id (range_with_len 0 n))

pub with_pages-append : (xs ys : List ℕ) (t : Listing PttEntry) → with_pages (xs ++ ys) t ≡ with_pages ys (with_pages xs t)
with_pages-append [] ys t = refl
with_pages-append (x ∷ xs) ys t = with_pages-append xs ys (with_entry_for page_key promoted_page x t)

pub with_pages-more : (c : Tally) (n : ℕ) (t : Listing PttEntry)
    → with_dense c n (with_pages (dense_below c n) t) ≡ with_pages (dense_below c (n + 1)) t
with_pages-more c n t =
    one (is_dense c n) (with_pages (dense_below c n) t) ∙ sym (with_pages-append (dense_below c n) (cond (is_dense c n) (n ∷ []) []) t)
    ∙ sym (ap (λ ns. with_pages ns t) (dense_below-more c n))
  where
    one : (d : Bool) (u : Listing PttEntry)
        → (if d then with_entry_for page_key promoted_page n u else u) ≡ with_pages (cond d (n ∷ []) []) u
    one true u = refl
    one false u = refl

pub with_dense-numbers : (c : Tally) (n : ℕ) (t : Listing PttEntry) → n < t.numbers → (with_dense c n t).numbers ≡ t.numbers
with_dense-numbers c n t l = one (is_dense c n) where
  one : (d : Bool) → (if d then with_entry_for page_key promoted_page n t else t).numbers ≡ t.numbers
  one true = (lists_one t n l).numbers
  one false = refl

-- the dense pages below a number are also the dense pages below a higher one, if no page from the first number on is
-- dense
pub dense_below-none : (c : Tally) (first k : ℕ) → ((n : ℕ) → first ≤ n → n < first + k → is_dense c n ≡ false)
    → dense_below c (first + k) ≡ dense_below c first
dense_below-none c first zero none = ap (dense_below c) (omega arith)
dense_below-none c first (suc k) none =
    ap (dense_below c) (let e : first + suc k ≡ first + k + 1 = omega arith in e)
    ∙ dense_below-more c (first + k)
    ∙ ap (λ d. dense_below c (first + k) ++ cond d ((first + k) ∷ []) []) (none (first + k) (omega arith) (omega arith))
    ∙ append-nil (dense_below c (first + k))
    ∙ dense_below-none c first k (λ n low high. none n low (omega (arith, high)))

-- the greatest is no less than any
greatest-least : (m : ℕ) (ns : List ℕ) → m ≤ greatest_of m ns
greatest-least m [] = omega arith
greatest-least m (n ∷ ns) = omega (arith, greatest-least (max m n) ns)

greatest-all : (m : ℕ) (ns : List ℕ) (k d : ℕ) → k < length ns → get_or ns k d ≤ greatest_of m ns
greatest-all m [] k d l = absurd (omega (arith, l))
greatest-all m (n ∷ ns) zero d l = omega (arith, greatest-least (max m n) ns)
greatest-all m (n ∷ ns) (suc k) d l = greatest-all (max m n) ns k d (omega (arith, l))

module _ (c : Tally) (first end : ℕ) where
  -- sparse pages are not dense
  pub sparse-none : end ≤ length c.counts → are_sparse c first end ≡ true → (n : ℕ) → first ≤ n → n < end → is_dense c n ≡ false
  sparse-none inside sparse n low high =
      let piece : List ℕ = take (end - first) (drop first c.counts) in
      let many : n - first < length piece =
      omega (arith, inside, low, high, length-take (end - first) (drop first c.counts), length-drop first c.counts) in
      let same : get_or piece (n - first) 0 ≡ get_or c.counts n 0 =
      get_or-take (end - first) (drop first c.counts) (n - first) 0 (omega (arith, low, high)) ∙ get_or-drop first c.counts (n - first) 0
      ∙ ap (λ i. get_or c.counts i 0) (let e : first + (n - first) ≡ n = omega (arith, low) in e) in
      let most : greatest_of 0 piece ≤ c.high = leb-true (greatest_of 0 piece) c.high sparse in
      le-ltb c.high (get_or c.counts n 0) (omega (arith, most, greatest-all 0 piece (n - first) 0 many, same))

  pub dense_below-sparse : first ≤ end → end ≤ length c.counts → are_sparse c first end ≡ true → dense_below c end ≡ dense_below c first
  dense_below-sparse order inside sparse =
      ap (dense_below c) (let e : end ≡ first + (end - first) = omega (arith, order) in e)
      ∙ dense_below-none c first (end - first) (λ n low high. sparse-none inside sparse n low (omega (arith, order, high)))
