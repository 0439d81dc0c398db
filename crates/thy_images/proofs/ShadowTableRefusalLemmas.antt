-- A map has no fault exactly if a checkpoint may have it; and the refusal of one names its first entries.
use Rattle.std.proofs.Common.{◌≡◌, ℕ, zero, suc, ◌+◌, ◌*◌, ◌<◌, Bool, true, ◌&&◌, nat_lt, if◌then◌else◌, List, [], ◌∷◌, length, Option, Some, None, refl, sym, ◌∙◌, ap, inl, inr, arith, zero-add}
use Rattle.std.proofs.lemmas.Bool.{cases_lt, lt-ltb, ltb-true, le-ltb}
use Rattle.std.proofs.Math.Nat.{add-zero}
use Rattle.std.specs.Option.{option_or}
use Rattle.thy_block.specs.declared.parameters.Parameters.{Parameters}
use Rattle.thy_layout.specs.declared.bad_image.BadImage.TheVariants.{TableIndex}
use Rattle.thy_layout.specs.Entries.{Lists, entry_at}
use Rattle.thy_layout.specs.EntryFaults.{twice_fault}
use Rattle.thy_layout.proofs.EntryLemmas.{Lists-inside}
use Rattle.thy_layout.proofs.EntryFaultLemmas.{neither, both_none, once, no_twins}
use Rattle.thy_layout.specs.declared.bad_image.BadImage.{BadImage}
use Rattle.thy_layout.specs.TableRefusals.{IsFirstWrong, Says}
use Rattle.thy_layout.proofs.TableRefusalLemmas.{found_says, found_if_so}
use Rattle.thy_images.specs.ShadowPlaces.{map_blocks, pool_pages}
use Rattle.thy_images.specs.ShadowSlots.{IsMap, stray, first_stray, index_fault, table_fault}
use Rattle.thy_images.specs.ShadowTableRefusals.{IsStray, Unmapped, PastPool, PastMemory}

-- ---- entry by entry

-- a page of memory without a fault has a page of the pool
pub has_page : (p : Parameters) (x : ℕ) (e : Option ℕ) → stray p x e ≡ None → x < p.pages → (q : ℕ) × (e ≡ Some q)
has_page p x None h l =
    let test = lt-ltb x p.pages l in
    let both : Some (TableIndex x) ≡ None = sym (ap (λ b. if b then Some (TableIndex x) else None) test) ∙ h in absurd (cc)
has_page p x (Some q) h l = (q, refl)

both_so : (x : ℕ) (a b : Bool) → (if a && b then None else Some (TableIndex x)) ≡ None → (a ≡ true) × (b ≡ true)
both_so x true true h = (refl, refl)
both_so x a b h = cc

-- an entry without a fault that lists a page is of a page of memory, and lists a page of the pool
pub lists_right : (p : Parameters) (x q : ℕ) → stray p x (Some q) ≡ None → (x < p.pages) × (q < pool_pages p)
lists_right p x q h =
    let so = both_so x (nat_lt x p.pages) (nat_lt q (pool_pages p)) h in
    (ltb-true x p.pages so.0, ltb-true q (pool_pages p) so.1)

none_right : (p : Parameters) (x : ℕ) (e : Option ℕ) → ((q : ℕ) → e ≡ Some q → (x < p.pages) × (q < pool_pages p))
    → (e ≡ None → x < p.pages → ⊥) → stray p x e ≡ None
none_right p x None right some = elim (cases_lt x p.pages) as (λ _. stray p x None ≡ None) [
  | inl inside ↦ absurd (some refl inside)
  | inr past ↦ grind arith
]
none_right p x (Some q) right some =
    let l = right q refl in
    λ i. if lt-ltb x p.pages l.0 i && lt-ltb q (pool_pages p) l.1 i then None else Some (TableIndex x)

-- ---- over a list

first_stray-None : (p : Parameters) (k : ℕ) (es : List (Option ℕ)) → first_stray p k es ≡ None
    → (i : ℕ) → i < length es → stray p (k + i) (entry_at es i) ≡ None
first_stray-None p k [] h i l = absurd (omega arith)
first_stray-None p k (e ∷ es) h zero l =
    ap (λ x. stray p x e) (add-zero k) ∙ (neither (stray p k e) (first_stray p (k + 1) es) h).0
first_stray-None p k (e ∷ es) h (suc i) l =
    let rest = (neither (stray p k e) (first_stray p (k + 1) es) h).1 in
    let next : k + suc i ≡ k + 1 + i = omega arith in
    ap (λ x. stray p x (entry_at es i)) next ∙ first_stray-None p (k + 1) es rest i (omega arith)

first_stray-each : (p : Parameters) (k : ℕ) (es : List (Option ℕ)) → ((i : ℕ) → i < length es → stray p (k + i) (entry_at es i) ≡ None)
    → first_stray p k es ≡ None
first_stray-each p k [] h = refl
first_stray-each p k (e ∷ es) h =
    both_none (stray p k e) (first_stray p (k + 1) es)
    (ap (λ x. stray p x e) (sym (add-zero k)) ∙ h 0 (omega arith))
    (first_stray-each p (k + 1) es (λ i l.
    let next : k + 1 + i ≡ k + suc i = omega arith in
    ap (λ x. stray p x (entry_at es i)) next ∙ h (suc i) (omega arith)))

module _ (p : Parameters) (table : List (Option ℕ)) where
  pub each_stray : (x : ℕ) → index_fault p table ≡ None → x < length table → stray p x (entry_at table x) ≡ None
  each_stray x h l = ap (λ y. stray p y (entry_at table x)) (sym (zero-add x)) ∙ first_stray-None p 0 table h x l

  -- ---- both ways

  pub IsMap-faultless : length table ≡ 8 * map_blocks p → table_fault p table ≡ None → IsMap p table
  unfolding table_fault
  IsMap-faultless long none =
      let parts = neither (index_fault p table) (twice_fault table) none in
      let right = λ (x q : ℕ) (l : Lists table x q).
      let inside = Lists-inside table x q l in
      lists_right p x q (sym (ap (stray p x) l.is) ∙ each_stray x parts.0 inside) in
      record {
        long = long;
        mapped = λ x l.
            let of = has_page p x (entry_at table x) (each_stray x parts.0 (omega (arith, l, long))) l in
            (of.0, record { is = of.1 });
        of_page = λ x q l. (right x q l).0;
        in_pool = λ x q l. (right x q l).1;
        once = once 0 table parts.1;
      }

  pub table_fault-none : IsMap p table → table_fault p table ≡ None
  unfolding table_fault
  table_fault-none h =
      both_none (index_fault p table) (twice_fault table)
      (first_stray-each p 0 table (λ i l.
      ap (λ x. stray p x (entry_at table i)) (zero-add i)
      ∙ none_right p i (entry_at table i)
      (λ q is. let lists : Lists table i q = record { is = is } in (h.of_page i q lists, h.in_pool i q lists))
      (λ empty inside. let of = (h.mapped i inside).1 in let is = of.is in cc)))
      (no_twins 0 table h.once)

-- ---- an entry without a right page

module _ (p : Parameters) (table : List (Option ℕ)) (x : ℕ) where
  stray_listed : (q : ℕ) (bad : BadImage) → Lists table x q → stray p x (Some q) ≡ Some bad → IsStray p table x × (TableIndex x ≡ bad)
  stray_listed q bad l h = elim (cases_lt x p.pages) as (λ _. IsStray p table x × (TableIndex x ≡ bad)) [
    | inl inside ↦
        let mapped : stray p x (Some q) ≡ (if nat_lt q (pool_pages p) then None else Some (TableIndex x))
        = ap (λ b. if b && nat_lt q (pool_pages p) then None else Some (TableIndex x)) (lt-ltb x p.pages inside) in
        elim (cases_lt q (pool_pages p)) as (λ _. IsStray p table x × (TableIndex x ≡ bad)) [
          | inl fits ↦
              let none : stray p x (Some q) ≡ None = mapped ∙ ap (λ b. if b then None else Some (TableIndex x)) (lt-ltb q (pool_pages p) fits) in
              absurd (cc)
          | inr over ↦
              let some : stray p x (Some q) ≡ Some (TableIndex x)
              = mapped ∙ ap (λ b. if b then None else Some (TableIndex x)) (le-ltb q (pool_pages p) over) in
              (PastPool q l over, cc)
        ]
    | inr past ↦
        let some : stray p x (Some q) ≡ Some (TableIndex x)
        = ap (λ b. if b && nat_lt q (pool_pages p) then None else Some (TableIndex x)) (le-ltb x p.pages past) in
        (PastMemory q l past, cc)
  ]

  stray_says : (e : Option ℕ) (bad : BadImage) → entry_at table x ≡ e → stray p x e ≡ Some bad → IsStray p table x × (TableIndex x ≡ bad)
  stray_says None bad is h = elim (cases_lt x p.pages) as (λ _. IsStray p table x × (TableIndex x ≡ bad)) [
    | inl inside ↦
        let some : stray p x None ≡ Some (TableIndex x) = ap (λ b. if b then Some (TableIndex x) else None) (lt-ltb x p.pages inside) in
        (Unmapped inside is, cc)
    | inr past ↦
        let none : stray p x None ≡ None = ap (λ b. if b then Some (TableIndex x) else None) (le-ltb x p.pages past) in absurd (cc)
  ]
  stray_says (Some q) bad is h = stray_listed q bad (record { is = is }) h

  not_stray : stray p x (entry_at table x) ≡ None → IsStray p table x → ⊥
  not_stray h (Unmapped inside empty) = let is = (has_page p x (entry_at table x) h inside).1 in cc
  not_stray h (PastPool q l over) = omega (arith, (lists_right p x q (sym (ap (stray p x) l.is) ∙ h)).1)
  not_stray h (PastMemory q l past) = let right = (lists_right p x q (sym (ap (stray p x) l.is) ∙ h)).0 in omega arith

-- ---- the first of them

record FirstFrom (p : Parameters) (k : ℕ) (es : List (Option ℕ)) (bad : BadImage) : Type 0 where
  pub entry : ℕ
  pub breaks : stray p (k + entry) (entry_at es entry) ≡ Some bad
  pub least : (j : ℕ) → j < entry → stray p (k + j) (entry_at es j) ≡ None

least_more : (p : Parameters) (k : ℕ) (e : Option ℕ) (es : List (Option ℕ)) (i : ℕ) → stray p k e ≡ None
    → ((j : ℕ) → j < i → stray p (k + 1 + j) (entry_at es j) ≡ None)
    → (j : ℕ) → j < suc i → stray p (k + j) (entry_at (e ∷ es) j) ≡ None
least_more p k e es i here later zero l = ap (λ x. stray p x e) (add-zero k) ∙ here
least_more p k e es i here later (suc j) l =
    let next : k + suc j ≡ k + 1 + j = omega arith in
    ap (λ x. stray p x (entry_at es j)) next ∙ later j (omega arith)

first_of : (p : Parameters) (k : ℕ) (e : Option ℕ) (es : List (Option ℕ)) (bad : BadImage) (here : Option BadImage)
    → stray p k e ≡ here → option_or here (first_stray p (k + 1) es) ≡ Some bad
    → (first_stray p (k + 1) es ≡ Some bad → FirstFrom p (k + 1) es bad) → FirstFrom p k (e ∷ es) bad
first_of p k e es bad None is h later =
    let rest = later h in
    let next : k + suc rest.entry ≡ k + 1 + rest.entry = omega arith in
    record {
      entry = suc rest.entry;
      breaks = ap (λ x. stray p x (entry_at es rest.entry)) next ∙ rest.breaks;
      least = least_more p k e es rest.entry is rest.least;
    }
first_of p k e es bad (Some b) is h later = record {
  entry = 0;
  breaks = ap (λ x. stray p x e) (add-zero k) ∙ is ∙ h;
  least = λ j l. absurd (omega arith);
}

first_from : (p : Parameters) (k : ℕ) (es : List (Option ℕ)) (bad : BadImage) → first_stray p k es ≡ Some bad → FirstFrom p k es bad
first_from p k [] bad h = cc
first_from p k (e ∷ es) bad h = first_of p k e es bad (stray p k e) refl h (λ more. first_from p (k + 1) es bad more)

module _ (p : Parameters) (table : List (Option ℕ)) where
  index_names : (bad : BadImage) → index_fault p table ≡ Some bad → (x : ℕ) × (bad ≡ TableIndex x) × IsFirstWrong (IsStray p table) x
  index_names bad h =
      let of = first_from p 0 table bad h in
      let broken = stray_says p table of.entry (entry_at table of.entry) bad refl
      (ap (λ x. stray p x (entry_at table of.entry)) (sym (zero-add of.entry)) ∙ of.breaks) in
      let is : IsFirstWrong (IsStray p table) of.entry = record {
        here = broken.0;
        least = λ k l s. not_stray p table k (ap (λ x. stray p x (entry_at table k)) (sym (zero-add k)) ∙ of.least k l) s;
      } in
      (of.entry, sym broken.1, is)

  -- a map without such a fault has no such entry
  none_stray : length table ≡ 8 * map_blocks p → index_fault p table ≡ None → (x : ℕ) → IsStray p table x → ⊥
  none_stray long h x (Unmapped inside empty) =
      not_stray p table x (each_stray p table x h (omega (arith, inside, long))) (Unmapped inside empty)
  none_stray long h x (PastPool q l over) = not_stray p table x (each_stray p table x h (Lists-inside table x q l)) (PastPool q l over)
  none_stray long h x (PastMemory q l past) = not_stray p table x (each_stray p table x h (Lists-inside table x q l)) (PastMemory q l past)

  -- ---- the refusal that is found

  pub map_says : (bad : BadImage) → length table ≡ 8 * map_blocks p → table_fault p table ≡ Some bad → Says (IsStray p table) table bad
  unfolding table_fault
  map_says bad long h = found_says (IsStray p table) table (index_fault p table) index_names (none_stray long) bad h

  pub map_found : (bad : BadImage) → length table ≡ 8 * map_blocks p → Says (IsStray p table) table bad → table_fault p table ≡ Some bad
  unfolding table_fault
  map_found bad long s = found_if_so (IsStray p table) table (index_fault p table) index_names (none_stray long) bad s
