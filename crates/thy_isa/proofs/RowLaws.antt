-- What a word means depends on the rows of its opcode alone.
use Rattle.std.proofs.Common.{◌≡◌, ℕ, ◌==◌, ◌&&◌, Bool, true, false, if◌then◌else◌, List, [], ◌∷◌, Option, Some, refl, ◌∙◌, ap, arith}
use Rattle.std.proofs.lemmas.Bool.Decides.{nat_tests}
use Rattle.thy_isa.specs.declared.instr.Instr.{Instr}
use Rattle.thy_isa.specs.Words.{opcode_of}
use Rattle.thy_isa.specs.Table.{Row, has_pattern, has_row, table, first_row, instr_of}

-- the rows with this opcode
abbrev pub rows_with : ℕ → List Row → List Row
rows_with op [] = []
rows_with op (r ∷ rows) = if r.opcode == op then r ∷ rows_with op rows else rows_with op rows

differs : (x a b : ℕ) → x ≡ b → (a == b) ≡ false → (x == a) ≡ false
differs x a b h n = grind (arith, nat_tests)

with_opcode : (b : Bool) (r : Row) (rows few : List Row) (w op : ℕ) → opcode_of w ≡ op → (r.opcode == op) ≡ b
    → first_row rows w ≡ first_row few w → first_row (r ∷ rows) w ≡ first_row (if b then r ∷ few else few) w
with_opcode true r rows few w op h is same = ap (λ (o : Option Instr). if has_row r w then Some (r.instr w) else o) same
with_opcode false r rows few w op h is same =
    ap (λ b. if b && has_pattern r.pattern w then Some (r.instr w) else first_row rows w) (differs (opcode_of w) r.opcode op h is)
    ∙ same

first_row-with : (rows : List Row) (w op : ℕ) → opcode_of w ≡ op → first_row rows w ≡ first_row (rows_with op rows) w
first_row-with [] w op h = refl
first_row-with (r ∷ rows) w op h =
    with_opcode (r.opcode == op) r rows (rows_with op rows) w op h refl (first_row-with rows w op h)

pub instr_of-with : (w op : ℕ) → opcode_of w ≡ op → instr_of w ≡ first_row (rows_with op table) w
unfolding instr_of
instr_of-with w op h = first_row-with table w op h
