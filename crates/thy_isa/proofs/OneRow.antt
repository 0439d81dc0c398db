-- No word has two rows of the table: any two rows differ in the opcode or in a field that both ask for.
use Rattle.std.proofs.Common.{◌≡◌, ℕ, suc, ◌==◌, ◌&&◌, ◌||◌, not, Bool, true, false, if◌then◌else◌, List, [], ◌∷◌, Option, Some, ◌≤◌, nat_le, refl, sym, arith}
use Rattle.std.specs.Prelude.{is_some}
use Rattle.std.proofs.lemmas.Bool.{le-leb}
use Rattle.std.proofs.lemmas.Bool.Decides.{nat_tests}
use Rattle.thy_isa.specs.declared.instr.Instr.{Instr}
use Rattle.thy_isa.specs.Words.{opcode_of, funct3_of, funct7_of, funct6_of, funct5_of}
use Rattle.thy_isa.specs.Table.{Pattern, F3, F37, F36, F35, Lone, Whole, Row, has_pattern, has_row, table, first_row, instr_of, count_rows, rows_of}

-- two patterns ask for different numbers of one field
abbrev clash : Pattern → Pattern → Bool
clash (F3 a) (F3 b) = not (a == b)
clash (F3 a) (F37 b d) = not (a == b)
clash (F3 a) (F36 b d) = not (a == b)
clash (F37 a c) (F3 b) = not (a == b)
clash (F37 a c) (F37 b d) = not (a == b) || not (c == d)
clash (F36 a c) (F3 b) = not (a == b)
clash (F36 a c) (F36 b d) = not (a == b) || not (c == d)
clash (F35 a c) (F35 b d) = not (a == b) || not (c == d)
clash (F35 a c) (Lone b d) = not (a == b) || not (c == d)
clash (Lone a c) (F35 b d) = not (a == b) || not (c == d)
clash (Lone a c) (Lone b d) = not (a == b) || not (c == d)
clash (Whole a) (Whole b) = not (a == b)
clash _ _ = false

abbrev apart : Row → Row → Bool
apart r q = not (r.opcode == q.opcode) || clash r.pattern q.pattern

abbrev apart_from_all : Row → List Row → Bool
apart_from_all r [] = true
apart_from_all r (q ∷ rows) = apart r q && apart_from_all r rows

abbrev all_apart : List Row → Bool
all_apart [] = true
all_apart (r ∷ rows) = apart_from_all r rows && all_apart rows

-- ---- what the tests say

both : (a b : Bool) → a && b ≡ true → (a ≡ true) × (b ≡ true)
both true b h = (refl, h)
both false b h = absurd (cc)

one_of : (a b : Bool) → a || b ≡ true → (a ≡ true → ⊥) → (b ≡ true → ⊥) → ⊥
one_of true b h p q = p refl
one_of false b h p q = q h

differ : (x a b : ℕ) → (x == a) ≡ true → (x == b) ≡ true → not (a == b) ≡ true → ⊥
differ x a b p q h = grind (arith, nat_tests)

-- two patterns of bits 14:12 and 31:27
differ_five : (w a b c d : ℕ) → not (a == b) || not (c == d) ≡ true → (funct3_of w == a) && (funct5_of w == c) ≡ true
    → (funct3_of w == b) && (funct5_of w == d) ≡ true → ⊥
differ_five w a b c d h p q =
    one_of _ _ h (differ (funct3_of w) a b (both _ _ p).0 (both _ _ q).0) (differ (funct5_of w) c d (both _ _ p).1 (both _ _ q).1)

clash_is : (p q : Pattern) (w : ℕ) → clash p q ≡ true → has_pattern p w ≡ true → has_pattern q w ≡ true → ⊥
clash_is (F3 a) (F3 b) w h p q = differ (funct3_of w) a b p q h
clash_is (F3 a) (F37 b d) w h p q = differ (funct3_of w) a b p (both _ _ q).0 h
clash_is (F3 a) (F36 b d) w h p q = differ (funct3_of w) a b p (both _ _ q).0 h
clash_is (F37 a c) (F3 b) w h p q = differ (funct3_of w) a b (both _ _ p).0 q h
clash_is (F37 a c) (F37 b d) w h p q =
    one_of _ _ h (differ (funct3_of w) a b (both _ _ p).0 (both _ _ q).0) (differ (funct7_of w) c d (both _ _ p).1 (both _ _ q).1)
clash_is (F36 a c) (F3 b) w h p q = differ (funct3_of w) a b (both _ _ p).0 q h
clash_is (F36 a c) (F36 b d) w h p q =
    one_of _ _ h (differ (funct3_of w) a b (both _ _ p).0 (both _ _ q).0) (differ (funct6_of w) c d (both _ _ p).1 (both _ _ q).1)
clash_is (F35 a c) (F35 b d) w h p q = differ_five w a b c d h p q
clash_is (F35 a c) (Lone b d) w h p q = differ_five w a b c d h p (both _ _ q).0
clash_is (Lone a c) (F35 b d) w h p q = differ_five w a b c d h (both _ _ p).0 q
clash_is (Lone a c) (Lone b d) w h p q = differ_five w a b c d h (both _ _ p).0 (both _ _ q).0
clash_is (Whole a) (Whole b) w h p q = differ w a b p q h
clash_is _ _ w h p q = absurd (cc)

apart_is : (r q : Row) (w : ℕ) → apart r q ≡ true → has_row r w ≡ true → has_row q w ≡ true → ⊥
apart_is r q w h p s =
    one_of _ _ h (differ (opcode_of w) r.opcode q.opcode (both _ _ p).0 (both _ _ s).0)
    (λ k. clash_is r.pattern q.pattern w k (both _ _ p).1 (both _ _ s).1)

-- ---- a word has at most one row

no_more : (b : Bool) (n : ℕ) → (b ≡ true → ⊥) → n ≡ 0 → (if b then suc n else n) ≡ 0
no_more true n h e = absurd (h refl)
no_more false n h e = e

none_from_apart : (r : Row) (rows : List Row) (w : ℕ) → apart_from_all r rows ≡ true → has_row r w ≡ true → count_rows rows w ≡ 0
none_from_apart r [] w h p = refl
none_from_apart r (q ∷ rows) w h p =
    no_more (has_row q w) (count_rows rows w) (apart_is r q w (both _ _ h).0 p) (none_from_apart r rows w (both _ _ h).1 p)

one_more : (b : Bool) (n : ℕ) → (b ≡ true → n ≡ 0) → n ≤ 1 → (if b then suc n else n) ≤ 1
one_more true n h l = let none : n ≡ 0 = h refl in omega arith
one_more false n h l = l

at_most_one : (rows : List Row) (w : ℕ) → all_apart rows ≡ true → count_rows rows w ≤ 1
at_most_one [] w h = omega arith
at_most_one (r ∷ rows) w h =
    one_more (has_row r w) (count_rows rows w) (none_from_apart r rows w (both _ _ h).0) (at_most_one rows w (both _ _ h).1)

pub rows_of-at_most_one : (w : ℕ) → rows_of w ≤ 1
unfolding rows_of
rows_of-at_most_one w = at_most_one table w refl

-- ---- and some row if it means an instruction

counted : (b : Bool) (i : Instr) (o : Option Instr) (n : ℕ) → is_some o ≡ nat_le 1 n
    → is_some (if b then Some i else o) ≡ nat_le 1 (if b then suc n else n)
counted true i o n e = sym (le-leb 1 (suc n) (omega arith))
counted false i o n e = e

some_from_count : (rows : List Row) (w : ℕ) → is_some (first_row rows w) ≡ nat_le 1 (count_rows rows w)
some_from_count [] w = refl
some_from_count (r ∷ rows) w = counted (has_row r w) (r.instr w) (first_row rows w) (count_rows rows w) (some_from_count rows w)

pub is_some-instr_of : (w : ℕ) → is_some (instr_of w) ≡ nat_le 1 (rows_of w)
unfolding instr_of rows_of
is_some-instr_of w = some_from_count table w
