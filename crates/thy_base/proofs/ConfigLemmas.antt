-- A number is in its range exactly if the test says so; so are numbers if their first fault is none.
use Rattle.std.proofs.Common.{◌≡◌, ℕ, zero, suc, ◌<◌, ◌≤◌, ◌↔◌, arith, Bool, true, false, cond, List, [], ◌∷◌, ◌++◌, Option, Some, None, refl, ap, ◌∙◌, length, take, drop, get_or, subst, sym, map, ◌+◌}
use Rattle.std.proofs.lemmas.Bool.Decides.{nat_tests}
use Rattle.std.specs.Option.{option_or}
use Rattle.std.specs.List.{flat_map}
use Rattle.std.proofs.lemmas.List.{append-nil, map-append, take_all, take_more}
use Rattle.std.proofs.lemmas.List.Concat.{flat_map-append}
use Rattle.std.proofs.lemmas.Bool.{and_parts, and_from}
use Rattle.thy_block.specs.Geometry.{IsInRange, bounds_of}
use Rattle.thy_block.proofs.BasicLemmas.{none_of_two}
use Rattle.thy_block.proofs.DemandLemmas.{first_fault-append}
use Rattle.thy_block.specs.Demands.{first_fault}
use Rattle.thy_block.specs.Ranges.{AreWithin, Range, any, above, below, at_most, between, multiple_of, divisor_of, both, IsIn}
use Rattle.thy_base.specs.declared.config.Config.{Config}
use Rattle.thy_base.specs.declared.config.ConfigError.{ConfigError}
use Rattle.thy_base.specs.declared.config.Field.{Field}
use Rattle.thy_base.specs.declared.config.Field.TheVariants.{Cuts, Tears, Limit, Scheme, Harts, Gap}
use Rattle.thy_base.specs.declared.options.Value.TheVariants.{Rising}
use Rattle.thy_base.specs.Config.{fault_of, parameters_of, product_row, rising_rows, cut_rows, rows_at, rows_of, IsRising}
use Rattle.thy_base.specs.Options.{fields, option_of}
use Rattle.thy_base.specs.Rows.{is_in, Row, AreIn, demand_of, fault_in}

-- if the test of a range says so, a number is in the range
in_test : (r : Range) (n : ℕ) → is_in r n ≡ true → IsIn r n
in_test any n h = tt
in_test (above bound) n h = grind (arith, nat_tests)
in_test (below bound) n h = grind (arith, nat_tests)
in_test (at_most greatest) n h = grind (arith, nat_tests)
in_test (between least greatest) n h = grind (arith, nat_tests)
in_test (multiple_of unit) n h = grind (arith, nat_tests)
in_test (divisor_of whole) n h = grind (arith, nat_tests)
in_test (both a b) n h = let each = and_parts _ _ h in (in_test a n each.0, in_test b n each.1)

-- if a number is in a range, the test of the range says so
test_in : (r : Range) (n : ℕ) → IsIn r n → is_in r n ≡ true
test_in any n h = refl
test_in (above bound) n h = grind (arith, nat_tests)
test_in (below bound) n h = grind (arith, nat_tests)
test_in (at_most greatest) n h = grind (arith, nat_tests)
test_in (between least greatest) n h = grind (arith, nat_tests)
test_in (multiple_of unit) n h = grind (arith, nat_tests)
test_in (divisor_of whole) n h = grind (arith, nat_tests)
test_in (both a b) n h = and_from _ _ (test_in a n h.0) (test_in b n h.1)

none_of : (fits : Bool) (rest : Option ConfigError) (fault : ConfigError) → cond fits rest (Some fault) ≡ None
    → (fits ≡ true) × (rest ≡ None)
none_of true rest fault h = (refl, h)
none_of false rest fault h = cc

of_none : (fits : Bool) (rest : Option ConfigError) (fault : ConfigError) → fits ≡ true → rest ≡ None → cond fits rest (Some fault) ≡ None
of_none true rest fault e h = h
of_none false rest fault e h = cc

-- if no row has a fault, each is in its range
pub AreIn-none : (rows : List Row) → fault_in rows ≡ None → AreIn rows
AreIn-none [] h = tt
AreIn-none (r ∷ rs) h = let both = none_of _ _ _ h in (in_test r.range r.value both.0, AreIn-none rs both.1)

-- if each row's number is in its range, no row has a fault
none-AreIn : (rows : List Row) → AreIn rows → fault_in rows ≡ None
none-AreIn [] h = refl
none-AreIn (r ∷ rs) h = of_none _ _ _ (test_in r.range r.value h.0) (none-AreIn rs h.1)

-- a configuration has no fault exactly if its values are in their ranges
pub faultless_rows : (c : Config) → (fault_of c ≡ None) ↔ AreIn (rows_of c)
faultless_rows c = (AreIn-none (rows_of c), none-AreIn (rows_of c))

-- the first fault of two lists of rows is the first list's, or, if it has none, the second list's
fault_in-append : (xs ys : List Row) → fault_in (xs ++ ys) ≡ option_or (fault_in xs) (fault_in ys)
fault_in-append xs ys = ap first_fault (map-append demand_of xs ys) ∙ first_fault-append (map demand_of xs) (map demand_of ys)

-- if there are not too many cuts, their first fault is the place at which they rise no more, or else the fault of the
-- room for kept images
pub fault_in-cuts : (c : Config) → length c.cuts ≤ 64
    → fault_in (cut_rows c) ≡ option_or (fault_in (rising_rows 0 c.cuts)) (fault_in (product_row c.pages (length c.cuts) ∷ []))
fault_in-cuts c few =
    let product = product_row c.pages (length c.cuts) ∷ [] in
    ap (λ fits. cond fits (fault_in (rising_rows 0 c.cuts ++ product)) (Some (record { field = Cuts; value = length c.cuts })))
    (test_in (at_most 64) (length c.cuts) few)
    ∙ fault_in-append (rising_rows 0 c.cuts) product

-- ---- the table's fields one after the other

-- if no field before place i has a fault, and the one there has one, that is the first
pub first_found : (c : Config) (fs : List Field) (i : ℕ) (d : Field) (fault : ConfigError) → i < length fs
    → fault_in (flat_map (rows_at c) (take i fs)) ≡ None → fault_in (rows_at c (get_or fs i d)) ≡ Some fault
    → fault_in (flat_map (rows_at c) fs) ≡ Some fault
first_found c [] i d fault l before here = absurd (omega arith)
first_found c (f ∷ fs) zero d fault l before here =
    fault_in-append (rows_at c f) (flat_map (rows_at c) fs) ∙ ap (λ o. option_or o (fault_in (flat_map (rows_at c) fs))) here
first_found c (f ∷ fs) (suc i) d fault l before here =
    let parts = none_of_two (fault_in (rows_at c f)) (fault_in (flat_map (rows_at c) (take i fs)))
    (sym (fault_in-append (rows_at c f) (flat_map (rows_at c) (take i fs))) ∙ before) in
    fault_in-append (rows_at c f) (flat_map (rows_at c) fs)
    ∙ ap (λ o. option_or o (fault_in (flat_map (rows_at c) fs))) parts.0
    ∙ first_found c fs i d fault (omega (arith, l)) parts.1 here

-- if no field before place i has a fault, nor the one there, none up to it has
pub none_more : (c : Config) (fs : List Field) (i : ℕ) (d : Field) → i < length fs
    → fault_in (flat_map (rows_at c) (take i fs)) ≡ None → fault_in (rows_at c (get_or fs i d)) ≡ None
    → fault_in (flat_map (rows_at c) (take (i + 1) fs)) ≡ None
none_more c fs i d l before here =
    ap (λ t. fault_in (flat_map (rows_at c) t)) (take_more fs i d l)
    ∙ ap fault_in (flat_map-append (rows_at c) (take i fs) (get_or fs i d ∷ []))
    ∙ fault_in-append (flat_map (rows_at c) (take i fs)) (rows_at c (get_or fs i d) ++ [])
    ∙ ap (λ o. option_or o (fault_in (rows_at c (get_or fs i d) ++ []))) before
    ∙ ap fault_in (append-nil (rows_at c (get_or fs i d)))
    ∙ here

-- both, of a list that is the table's
pub first_found_in : (c : Config) (fs : List Field) (i : ℕ) (d : Field) (fault : ConfigError) → fs ≡ fields → i < length fs
    → fault_in (flat_map (rows_at c) (take i fields)) ≡ None → Some fault ≡ fault_in (rows_at c (get_or fs i d)) → Some fault ≡ fault_of c
first_found_in c fs i d fault is l before here =
    sym (first_found c fields i d fault (subst (λ (gs : List Field). i < length gs) is l) before
    (sym (here ∙ ap (λ (gs : List Field). fault_in (rows_at c (get_or gs i d))) is)))

pub none_more_in : (c : Config) (fs : List Field) (i : ℕ) (d : Field) → fs ≡ fields → i < length fs
    → fault_in (flat_map (rows_at c) (take i fields)) ≡ None → fault_in (rows_at c (get_or fs i d)) ≡ None
    → fault_in (flat_map (rows_at c) (take (i + 1) fields)) ≡ None
none_more_in c fs i d is l before here =
    none_more c fields i d (subst (λ (gs : List Field). i < length gs) is l) before
    (ap (λ (gs : List Field). fault_in (rows_at c (get_or gs i d))) (sym is) ∙ here)

-- past the last field there is no fault
pub none_left : (c : Config) (fs : List Field) (i : ℕ) → fs ≡ fields → length fs ≤ i
    → fault_in (flat_map (rows_at c) (take i fields)) ≡ None → None ≡ fault_of c
none_left c fs i is l before =
    sym before ∙ ap (λ (gs : List Field). fault_in (flat_map (rows_at c) gs)) (take_all i fields (subst (λ (gs : List Field). length gs ≤ i) is l))

-- the cuts come after the pages
pub few_pages : (c : Config) (i : ℕ) (d : Field) → fault_in (flat_map (rows_at c) (take i fields)) ≡ None
    → (option_of (get_or fields i d)).value ≡ Rising → c.pages ≤ 65536
few_pages c zero d before cuts = absurd (cc)
few_pages c (suc zero) d before cuts = absurd (cc)
few_pages c (suc (suc i)) d before cuts =
    let inside : AreIn (flat_map (rows_at c) (take (suc (suc i)) fields)) = AreIn-none (flat_map (rows_at c) (take (suc (suc i)) fields)) before in
    inside.1.0.1

AreIn-parts : (xs ys : List Row) → AreIn (xs ++ ys) → AreIn xs × AreIn ys
AreIn-parts [] ys h = (tt, h)
AreIn-parts (x ∷ xs) ys h = let rest = AreIn-parts xs ys h.1 in ((h.0, rest.0), rest.1)

-- the rows from the cuts on are in their ranges: the cuts, and what comes after them
from_cuts : (c : Config) → AreIn (rows_of c) → AreIn (cut_rows c) × AreIn (flat_map (rows_at c) (Tears ∷ Limit ∷ Scheme ∷ Harts ∷ Gap ∷ []))
from_cuts c h = AreIn-parts (cut_rows c) _ h.1.1.1.1.1.1.1.1.1.1.1.1.1

-- the numbers of a configuration in range are in range
pub numbers_in_rows : (c : Config) → AreIn (rows_of c) → IsInRange (parameters_of c)
numbers_in_rows c h =
    let rest = h.1.1.1.1.1.1 in
    let last = (from_cuts c h).1 in
    let from_sets : AreWithin (drop 6 (bounds_of (parameters_of c))) =
    (rest.0, (rest.1.0, (rest.1.1.0, (rest.1.1.1.0, (rest.1.1.1.1.0, (rest.1.1.1.1.1.0, (last.1.0, (last.1.1.0, tt)))))))) in
    (h.0, (h.1.0, (h.1.1.0, (h.1.1.1.0, (h.1.1.1.1.0, (h.1.1.1.1.1.0, from_sets))))))

-- the cuts of a configuration in range rise
pub IsRising-rows : (c : Config) → AreIn (rows_of c) → IsRising 0 c.cuts
IsRising-rows c h = (AreIn-parts (rising_rows 0 c.cuts) _ (from_cuts c h).0.1).0
