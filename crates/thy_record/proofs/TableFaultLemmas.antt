-- Tables have no fault exactly if they list blocks and pages of memory, none twice, and no block of a listed page.
use Rattle.std.proofs.Common.{◌≡◌, ℕ, List, Option, None, ap, ◌⊎◌, ◌+◌, ◌<◌, length, Some, refl, sym, ◌∙◌, subst, inl, inr, arith, zero-add}
use Rattle.std.specs.Option.{option_or, option_map}
use Rattle.thy_block.specs.declared.parameters.Parameters.{Parameters}
use Rattle.thy_block.specs.Geometry.{memory_blocks}
use Rattle.thy_block.specs.Store.{page_of}
use Rattle.thy_layout.specs.Entries.{Lists, entry_of}
use Rattle.thy_record.specs.Tables.{Tables, IsTables}
use Rattle.thy_layout.specs.EntryFaults.{first_clash, index_rule, twice_rule}
use Rattle.thy_record.specs.TableFaults.{under_rule, index_fault, twice_fault, under_fault, tables_fault}
use Rattle.thy_record.specs.ImageLaws.{IsFaultless}
use Rattle.thy_layout.proofs.EntryLemmas.{entry_of-None, entry_of-absent, entry_of-Some, Lists-inside}
use Rattle.thy_layout.proofs.EntryFaultLemmas.{neither, both_none, mapped_none, unbroken, none_breaks, index_asks, index_holds, once, no_twins, twice_asks}
use Rattle.thy_layout.specs.declared.bad_image.BadImage.{BadImage}
use Rattle.thy_layout.specs.declared.bad_image.BadImage.TheVariants.{TableIndex, TableTwice, BlockUnderPage}
use Rattle.thy_record.specs.TableRefusals.{ListsBeyond, BlockBeyond, PageBeyond, ListTwice, BlockTwice, PageTwice, IsFirstBeyond, IsFirstTwice, IsFirstUnder, Says}
use Rattle.thy_layout.proofs.EntryRefusalLemmas.{first, index_breaks, mapped_some, twice_breaks}
use Rattle.thy_layout.proofs.TableRefusalLemmas.{which, one_number}

-- ---- the first of two faults, and of a list

-- ---- what each rule asks

pub under_asks : (ptt : List (Option ℕ)) (i j b : ℕ) → under_rule ptt i b ≡ None → Lists ptt j (page_of b) → ⊥
under_asks ptt i j b h l = entry_of-None ptt (page_of b) j (mapped_none _ (entry_of ptt (page_of b)) h) l

under_holds : (ptt : List (Option ℕ)) (i b : ℕ) → ((j : ℕ) → Lists ptt j (page_of b) → ⊥) → under_rule ptt i b ≡ None
under_holds ptt i b none = ap (option_map _) (entry_of-absent ptt (page_of b) none)

-- ---- a table without twins

-- ---- both ways

pub IsTables-faultless : (p : Parameters) (t : Tables) → IsFaultless p t → IsTables p t
unfolding tables_fault
IsTables-faultless p t f =
    let whole = neither (index_fault p t) (option_or (twice_fault p t) (under_fault t)) f.none in
    let rest = neither (twice_fault p t) (under_fault t) whole.1 in
    let index = neither (first_clash (index_rule 0 (memory_blocks p)) 0 t.btt) (first_clash (index_rule p.btt p.pages) 0 t.ptt) whole.0 in
    let twice = neither (first_clash (twice_rule 0 t.btt) 0 t.btt) (first_clash (twice_rule p.btt t.ptt) 0 t.ptt) rest.0 in
    record {
      btt_length = f.btt_length;
      ptt_length = f.ptt_length;
      blocks = λ i b l. index_asks 0 (memory_blocks p) i b (unbroken (index_rule 0 (memory_blocks p)) t.btt index.0 i b l);
      pages = λ j page l. index_asks p.btt p.pages j page (unbroken (index_rule p.btt p.pages) t.ptt index.1 j page l);
      blocks_once = once 0 t.btt twice.0;
      pages_once = once p.btt t.ptt twice.1;
      apart = λ i j b l m. under_asks t.ptt i j b (unbroken (under_rule t.ptt) t.btt rest.1 i b l) m;
    }

pub IsFaultless-tables : (p : Parameters) (t : Tables) → IsTables p t → IsFaultless p t
unfolding tables_fault
IsFaultless-tables p t s = record {
  btt_length = s.btt_length;
  ptt_length = s.ptt_length;
  none = both_none (index_fault p t) (option_or (twice_fault p t) (under_fault t))
      (both_none (first_clash (index_rule 0 (memory_blocks p)) 0 t.btt) (first_clash (index_rule p.btt p.pages) 0 t.ptt)
      (none_breaks (index_rule 0 (memory_blocks p)) t.btt (λ i b l. index_holds 0 (memory_blocks p) i b (s.blocks i b l)))
      (none_breaks (index_rule p.btt p.pages) t.ptt (λ j page l. index_holds p.btt p.pages j page (s.pages j page l))))
      (both_none (twice_fault p t) (under_fault t)
      (both_none (first_clash (twice_rule 0 t.btt) 0 t.btt) (first_clash (twice_rule p.btt t.ptt) 0 t.ptt)
      (no_twins 0 t.btt s.blocks_once) (no_twins p.btt t.ptt s.pages_once))
      (none_breaks (under_rule t.ptt) t.btt (λ i b l. under_holds t.ptt i b (λ j m. s.apart i j b l m))));
}

-- ---- the refusal that is found is the only one that is so: it names the first entries

-- ---- what a broken rule says

under_breaks : (ptt : List (Option ℕ)) (i b : ℕ) (bad : BadImage) → under_rule ptt i b ≡ Some bad
    → (j : ℕ) × Lists ptt j (page_of b) × (BlockUnderPage i j ≡ bad)
under_breaks ptt i b bad h =
    let of = mapped_some (λ j. BlockUnderPage i j) (entry_of ptt (page_of b)) bad h in
    (of.0, entry_of-Some ptt (page_of b) of.0 of.1, of.2)

-- ---- tables without a fault of one kind

none_beyond : (p : Parameters) (t : Tables) → index_fault p t ≡ None → (m : ℕ) → ListsBeyond p t m → ⊥
none_beyond p t h m (BlockBeyond i block l over) =
    let btt = (neither (first_clash (index_rule 0 (memory_blocks p)) 0 t.btt) (first_clash (index_rule p.btt p.pages) 0 t.ptt) h).0 in
    let below = index_asks 0 (memory_blocks p) i block (unbroken (index_rule 0 (memory_blocks p)) t.btt btt i block l) in
    omega arith
none_beyond p t h m (PageBeyond j page l over) =
    let ptt = (neither (first_clash (index_rule 0 (memory_blocks p)) 0 t.btt) (first_clash (index_rule p.btt p.pages) 0 t.ptt) h).1 in
    let below = index_asks p.btt p.pages j page (unbroken (index_rule p.btt p.pages) t.ptt ptt j page l) in
    omega arith

none_twice : (p : Parameters) (t : Tables) → twice_fault p t ≡ None → (m n : ℕ) → ListTwice p t m n → ⊥
none_twice p t h m n (BlockTwice i k block l a b) =
    let btt = (neither (first_clash (twice_rule 0 t.btt) 0 t.btt) (first_clash (twice_rule p.btt t.ptt) 0 t.ptt) h).0 in
    twice_asks 0 t.btt i k block (unbroken (twice_rule 0 t.btt) t.btt btt k block b) l a
none_twice p t h m n (PageTwice j k page l a b) =
    let ptt = (neither (first_clash (twice_rule 0 t.btt) 0 t.btt) (first_clash (twice_rule p.btt t.ptt) 0 t.ptt) h).1 in
    twice_asks p.btt t.ptt j k page (unbroken (twice_rule p.btt t.ptt) t.ptt ptt k page b) l a

-- ---- which fault is found

block_beyond_least : (p : Parameters) (t : Tables) (i : ℕ) → i < p.btt
    → ((j m : ℕ) → j < i → Lists t.btt j m → index_rule 0 (memory_blocks p) j m ≡ None)
    → (k : ℕ) → k < i → ListsBeyond p t k → ⊥
block_beyond_least p t i inside least k l (BlockBeyond j block at over) =
    let below = index_asks 0 (memory_blocks p) j block (least j block l at) in
    omega arith
block_beyond_least p t i inside least k l (PageBeyond j page at over) = absurd (omega arith)

page_beyond_least : (p : Parameters) (t : Tables) (i : ℕ) → first_clash (index_rule 0 (memory_blocks p)) 0 t.btt ≡ None
    → ((j m : ℕ) → j < i → Lists t.ptt j m → index_rule p.btt p.pages j m ≡ None)
    → (k : ℕ) → k < p.btt + i → ListsBeyond p t k → ⊥
page_beyond_least p t i btt least k l (BlockBeyond j block at over) =
    let below = index_asks 0 (memory_blocks p) j block (unbroken (index_rule 0 (memory_blocks p)) t.btt btt j block at) in
    omega arith
page_beyond_least p t i btt least k l (PageBeyond j page at over) =
    let below = index_asks p.btt p.pages j page (least j page (omega arith) at) in
    omega arith

index_says : (p : Parameters) (t : Tables) (bad : BadImage) → length t.btt ≡ p.btt → index_fault p t ≡ Some bad → Says p t bad
index_says p t bad long h =
    elim (which (first_clash (index_rule 0 (memory_blocks p)) 0 t.btt) (first_clash (index_rule p.btt p.pages) 0 t.ptt) bad h)
    as (λ _. Says p t bad) [
      | inl btt ↦
          let of = first (index_rule 0 (memory_blocks p)) t.btt bad btt in
          let broken = index_breaks 0 (memory_blocks p) of.entry of.number bad of.breaks in
          let inside = Lists-inside t.btt of.entry of.number of.lists in
          let is : IsFirstBeyond p t of.entry = record {
            here = BlockBeyond of.entry of.number of.lists broken.0;
            least = block_beyond_least p t of.entry (omega (arith, long, inside)) of.least;
          } in
          subst (Says p t) broken.1 (subst (IsFirstBeyond p t) (sym (zero-add of.entry)) is)
      | inr ptt ↦
          let of = first (index_rule p.btt p.pages) t.ptt bad ptt.1 in
          let broken = index_breaks p.btt p.pages of.entry of.number bad of.breaks in
          let is : IsFirstBeyond p t (p.btt + of.entry) = record {
            here = PageBeyond of.entry of.number of.lists broken.0;
            least = page_beyond_least p t of.entry ptt.0 of.least;
          } in
          subst (Says p t) broken.1 is
    ]

block_twice_least : (p : Parameters) (t : Tables) (i : ℕ) → i < p.btt
    → ((j m : ℕ) → j < i → Lists t.btt j m → twice_rule 0 t.btt j m ≡ None)
    → (j m : ℕ) → m < i → ListTwice p t j m → ⊥
block_twice_least p t i inside least j m l (BlockTwice a b block below x y) = twice_asks 0 t.btt a b block (least b block l y) below x
block_twice_least p t i inside least j m l (PageTwice a b page below x y) = absurd (omega arith)

page_twice_least : (p : Parameters) (t : Tables) (i : ℕ) → first_clash (twice_rule 0 t.btt) 0 t.btt ≡ None
    → ((j m : ℕ) → j < i → Lists t.ptt j m → twice_rule p.btt t.ptt j m ≡ None)
    → (j m : ℕ) → m < p.btt + i → ListTwice p t j m → ⊥
page_twice_least p t i btt least j m l (BlockTwice a b block below x y) =
    twice_asks 0 t.btt a b block (unbroken (twice_rule 0 t.btt) t.btt btt b block y) below x
page_twice_least p t i btt least j m l (PageTwice a b page below x y) =
    twice_asks p.btt t.ptt a b page (least b page (omega arith) y) below x

module _ (p : Parameters) (t : Tables) (bad : BadImage) where
  twice_says : length t.btt ≡ p.btt → index_fault p t ≡ None → twice_fault p t ≡ Some bad → Says p t bad
  twice_says long index h =
      elim (which (first_clash (twice_rule 0 t.btt) 0 t.btt) (first_clash (twice_rule p.btt t.ptt) 0 t.ptt) bad h) as (λ _. Says p t bad) [
        | inl btt ↦
            let of = first (twice_rule 0 t.btt) t.btt bad btt in
            let broken = twice_breaks 0 t.btt of.entry of.number bad of.breaks in
            let inside = Lists-inside t.btt of.entry of.number of.lists in
            let is : IsFirstTwice p t broken.0 of.entry = record {
              here = BlockTwice broken.0 of.entry of.number broken.1 broken.2 of.lists;
              least = block_twice_least p t of.entry (omega (arith, long, inside)) of.least;
              none_beyond = none_beyond p t index;
            } in
            subst (Says p t) broken.3
            (subst (λ x. IsFirstTwice p t x (0 + of.entry)) (sym (zero-add broken.0))
            (subst (IsFirstTwice p t broken.0) (sym (zero-add of.entry)) is))
        | inr ptt ↦
            let of = first (twice_rule p.btt t.ptt) t.ptt bad ptt.1 in
            let broken = twice_breaks p.btt t.ptt of.entry of.number bad of.breaks in
            let is : IsFirstTwice p t (p.btt + broken.0) (p.btt + of.entry) = record {
              here = PageTwice broken.0 of.entry of.number broken.1 broken.2 of.lists;
              least = page_twice_least p t of.entry ptt.0 of.least;
              none_beyond = none_beyond p t index;
            } in
            subst (Says p t) broken.3 is
      ]

  under_says : index_fault p t ≡ None → twice_fault p t ≡ None → under_fault t ≡ Some bad → Says p t bad
  under_says index twice h =
      let of = first (under_rule t.ptt) t.btt bad h in
      let broken = under_breaks t.ptt of.entry of.number bad of.breaks in
      let is : IsFirstUnder p t of.entry broken.0 = record {
        here = record { block = of.number; lists = of.lists; page = broken.1 };
        least = λ k m l under. under_asks t.ptt k m under.block (of.least k under.block l under.lists) under.page;
        none_twice = none_twice p t twice;
        none_beyond = none_beyond p t index;
      } in
      subst (Says p t) broken.2 is

  -- the refusal that is found is so
  pub tables_say : length t.btt ≡ p.btt → tables_fault p t ≡ Some bad → Says p t bad
  unfolding tables_fault
  tables_say long h =
      elim (which (index_fault p t) (option_or (twice_fault p t) (under_fault t)) bad h) as (λ _. Says p t bad) [
        | inl index ↦ index_says p t bad long index
        | inr rest ↦ elim (which (twice_fault p t) (under_fault t) bad rest.1) as (λ _. Says p t bad) [
          | inl twice ↦ twice_says long rest.0 twice
          | inr last ↦ under_says rest.0 last.0 last.1
        ]
      ]

-- ---- and none but it is so

says_cases : (p : Parameters) (t : Tables) (bad : BadImage) → Says p t bad
    → ((i : ℕ) × (bad ≡ TableIndex i) × IsFirstBeyond p t i)
    ⊎ (((i : ℕ) × (k : ℕ) × (bad ≡ TableTwice i k) × IsFirstTwice p t i k)
    ⊎ ((i : ℕ) × (j : ℕ) × (bad ≡ BlockUnderPage i j) × IsFirstUnder p t i j))
says_cases p t (TableIndex i) s = inl (i, refl, s)
says_cases p t (TableTwice i k) s = inr (inl (i, k, refl, s))
says_cases p t (BlockUnderPage i j) s = inr (inr (i, j, refl, s))
says_cases p t bad s = absurd s

twice_cases : (p : Parameters) (t : Tables) (i k : ℕ) → ListTwice p t i k
    → ((n : ℕ) × (i < k) × Lists t.btt i n × Lists t.btt k n)
    ⊎ ((a : ℕ) × (b : ℕ) × (n : ℕ) × (i ≡ p.btt + a) × (k ≡ p.btt + b) × (a < b) × Lists t.ptt a n × Lists t.ptt b n)
twice_cases p t i k (BlockTwice a b n l x y) = inl (n, l, x, y)
twice_cases p t i k (PageTwice a b n l x y) = inr (a, b, n, refl, refl, l, x, y)

twice_before : (p : Parameters) (t : Tables) (i k : ℕ) → ListTwice p t i k → i < k
twice_before p t i k twice = elim (twice_cases p t i k twice) as (λ _. i < k) [
  | inl (n, l, x, y) ↦ l
  | inr (a, b, n, e, f, l, x, y) ↦ omega arith
]

same_number : (table : List (Option ℕ)) (k n m : ℕ) → Lists table k n → Lists table k m → n ≡ m
same_number table k n m a b = let x = a.is in let y = b.is in cc

module _ (p : Parameters) (t : Tables) where
  -- of two that list what entry k does the first and the second are a pair as well
  twice_in_order : (i j k : ℕ) → length t.btt ≡ p.btt → ListTwice p t i k → ListTwice p t j k → i < j → ListTwice p t i j
  twice_in_order i j k long first second less = elim (twice_cases p t i k first) as (λ _. ListTwice p t i j) [
    | inl (n, l, x, y) ↦ elim (twice_cases p t j k second) as (λ _. ListTwice p t i j) [
      | inl (m, l', x', y') ↦ BlockTwice i j n less x (subst (Lists t.btt j) (same_number t.btt k m n y' y) x')
      | inr (a', b', m, e', f', l', x', y') ↦ let inside = Lists-inside t.btt k n y in absurd (omega arith)
    ]
    | inr (a, b, n, e, f, l, x, y) ↦ elim (twice_cases p t j k second) as (λ _. ListTwice p t i j) [
      | inl (m, l', x', y') ↦ let inside = Lists-inside t.btt k m y' in absurd (omega arith)
      | inr (a', b', m, e', f', l', x', y') ↦
          let same : b' ≡ b = omega arith in
          let number : m ≡ n = same_number t.ptt b m n (subst (λ z. Lists t.ptt z m) same y') y in
          let pair : ListTwice p t (p.btt + a) (p.btt + a') = PageTwice a a' n (omega arith) x (subst (Lists t.ptt a') number x') in
          subst (λ z. ListTwice p t z j) (sym e) (subst (ListTwice p t (p.btt + a)) (sym e') pair)
    ]
  ]

  one_beyond : (i k : ℕ) → IsFirstBeyond p t i → IsFirstBeyond p t k → i ≡ k
  one_beyond i k a b = one_number i k (λ l. b.least i l a.here) (λ l. a.least k l b.here)

  one_last : (i j k m : ℕ) → IsFirstTwice p t i k → IsFirstTwice p t j m → k ≡ m
  one_last i j k m a b = one_number k m (λ l. b.least i k l a.here) (λ l. a.least j m l b.here)

  one_first : (i j k : ℕ) → length t.btt ≡ p.btt → IsFirstTwice p t i k → IsFirstTwice p t j k → i ≡ j
  one_first i j k long a b = one_number i j
      (λ l. b.least i j (twice_before p t j k b.here) (twice_in_order i j k long a.here b.here l))
      (λ l. a.least j i (twice_before p t i k a.here) (twice_in_order j i k long b.here a.here l))

  one_twice : (i j k m : ℕ) → length t.btt ≡ p.btt → IsFirstTwice p t i k → IsFirstTwice p t j m → TableTwice i k ≡ TableTwice j m
  one_twice i j k m long a b =
      let last = one_last i j k m a b in
      let pair = one_first i j k long a (subst (IsFirstTwice p t j) (sym last) b) in
      ap (λ x. TableTwice x k) pair ∙ ap (TableTwice j) last

  one_block : (i j k m : ℕ) → IsFirstUnder p t i j → IsFirstUnder p t k m → i ≡ k
  one_block i j k m a b = one_number i k (λ l. b.least i j l a.here) (λ l. a.least k m l b.here)

  one_page : (i j m : ℕ) → IsFirstUnder p t i j → IsFirstUnder p t i m → j ≡ m
  one_page i j m a b =
      let same = ap page_of (same_number t.btt i b.here.block a.here.block b.here.lists a.here.lists) in
      let other = subst (Lists t.ptt m) same b.here.page in
      one_number j m
      (λ l. a.none_twice (p.btt + j) (p.btt + m) (PageTwice j m (page_of a.here.block) l a.here.page other))
      (λ l. a.none_twice (p.btt + m) (p.btt + j) (PageTwice m j (page_of a.here.block) l other a.here.page))

  one_under : (i j k m : ℕ) → IsFirstUnder p t i j → IsFirstUnder p t k m → BlockUnderPage i j ≡ BlockUnderPage k m
  one_under i j k m a b =
      let block = one_block i j k m a b in
      let page = one_page i j m a (subst (λ x. IsFirstUnder p t x m) (sym block) b) in
      ap (BlockUnderPage i) page ∙ ap (λ x. BlockUnderPage x m) block

  one_refusal : (bad other : BadImage) → length t.btt ≡ p.btt → Says p t bad → Says p t other → bad ≡ other
  one_refusal bad other long a b = elim (says_cases p t bad a) as (λ _. bad ≡ other) [
    | inl (i, e, x) ↦ elim (says_cases p t other b) as (λ _. bad ≡ other) [
      | inl (k, f, y) ↦ e ∙ ap TableIndex (one_beyond i k x y) ∙ sym f
      | inr (inl (k, m, f, y)) ↦ absurd (y.none_beyond i x.here)
      | inr (inr (k, m, f, y)) ↦ absurd (y.none_beyond i x.here)
    ]
    | inr (inl (i, j, e, x)) ↦ elim (says_cases p t other b) as (λ _. bad ≡ other) [
      | inl (k, f, y) ↦ absurd (x.none_beyond k y.here)
      | inr (inl (k, m, f, y)) ↦ e ∙ one_twice i k j m long x y ∙ sym f
      | inr (inr (k, m, f, y)) ↦ absurd (y.none_twice i j x.here)
    ]
    | inr (inr (i, j, e, x)) ↦ elim (says_cases p t other b) as (λ _. bad ≡ other) [
      | inl (k, f, y) ↦ absurd (x.none_beyond k y.here)
      | inr (inl (k, m, f, y)) ↦ absurd (x.none_twice k m y.here)
      | inr (inr (k, m, f, y)) ↦ e ∙ one_under i j k m x y ∙ sym f
    ]
  ]

  -- tables of which a refusal is so have a fault
  some_fault : (bad : BadImage) → Says p t bad → tables_fault p t ≡ None → ⊥
  unfolding tables_fault
  some_fault bad s h =
      let whole = neither (index_fault p t) (option_or (twice_fault p t) (under_fault t)) h in
      let rest = neither (twice_fault p t) (under_fault t) whole.1 in
      elim (says_cases p t bad s) as (λ _. ⊥) [
        | inl (i, e, x) ↦ none_beyond p t whole.0 i x.here
        | inr (inl (i, k, e, x)) ↦ none_twice p t rest.0 i k x.here
        | inr (inr (i, j, e, x)) ↦ under_asks t.ptt i j x.here.block
            (unbroken (under_rule t.ptt) t.btt rest.1 i x.here.block x.here.lists) x.here.page
      ]

  found_is : (bad : BadImage) (found : Option BadImage) → length t.btt ≡ p.btt → tables_fault p t ≡ found → Says p t bad
      → found ≡ Some bad
  found_is bad None long h s = absurd (some_fault bad s h)
  found_is bad (Some other) long h s = ap Some (one_refusal other bad long (tables_say p t other long h) s)

  -- a refusal that is so is the one that is found
  pub found_of_says : (bad : BadImage) → length t.btt ≡ p.btt → Says p t bad → tables_fault p t ≡ Some bad
  found_of_says bad long s = found_is bad (tables_fault p t) long refl s
