-- Reading bytes gives a number that fits them, writing bytes gives bytes, and neither changes the size of memory.
use Rattle.std.proofs.Common.{◌≡◌, ℕ, zero, suc, ◌+◌, ◌%◌, ◌<◌, ◌^◌, List, [], ◌∷◌, ◌++◌, length, take, drop, get_or, nat_lt, arith, refl}
use Rattle.std.specs.Int.{byte_at, bytes_low_first}
use Rattle.std.specs.List.{All}
use Rattle.std.proofs.lemmas.List.Elements.{All-head, All-tail, All-nil, All-cons, All-append, All-take, All-drop}
use Rattle.thy_block.specs.Bytes.{written}
use Rattle.thy_block.specs.LittleEndian.{number_at, number_bytes}
use Rattle.thy_block.proofs.LittleEndianLemmas.{number_at-below}
use Rattle.thy_isa.specs.declared.instr.Width.{Width}
use Rattle.thy_isa.specs.declared.instr.Width.TheVariants.{Byte, Half, Word, Double}
use Rattle.thy_isa.specs.declared.instr.Extend.{Extend}
use Rattle.thy_isa.specs.declared.instr.Extend.TheVariants.{Sign, Zero}
use Rattle.thy_isa.specs.Effects.{size_of}
use Rattle.thy_isa.specs.Extending.{extended}
use Rattle.thy_isa.specs.Storable.{IsNumber, IsByte}
use Rattle.thy_isa.proofs.NumberBounds.{if_number}

-- what holds of 0 and of each element holds of what is read at any index
pub anywhere : (P : ℕ → Type 0) → P 0 → (xs : List ℕ) → All P xs → (i : ℕ) → P (get_or xs i 0)
anywhere P z [] h i = z
anywhere P z (x ∷ xs) h zero = All-head P x xs h
anywhere P z (x ∷ xs) h (suc i) = anywhere P z xs (All-tail P x xs h) i

each_byte : (bytes : List ℕ) → All IsByte bytes → (i : ℕ) → get_or bytes i 0 < 256
each_byte bytes h = anywhere IsByte (omega arith) bytes h

-- what a load reads is a number of 64 bits
pub number_at-number : (w : Width) (bytes : List ℕ) (i : ℕ) → All IsByte bytes → IsNumber (number_at (size_of w) bytes i)
number_at-number Byte bytes i h = omega (arith, number_at-below 1 bytes i (each_byte bytes h))
number_at-number Half bytes i h = omega (arith, number_at-below 2 bytes i (each_byte bytes h))
number_at-number Word bytes i h = omega (arith, number_at-below 4 bytes i (each_byte bytes h))
number_at-number Double bytes i h = omega (arith, number_at-below 8 bytes i (each_byte bytes h))

pub extended-number : (w : Width) (e : Extend) (v : ℕ) → IsNumber v → IsNumber (extended w e v)
unfolding extended
extended-number Byte Sign v h = if_number (nat_lt (v % 2 ^ 8) (2 ^ 7)) _ _ (omega arith) (omega arith)
extended-number Half Sign v h = if_number (nat_lt (v % 2 ^ 16) (2 ^ 15)) _ _ (omega arith) (omega arith)
extended-number Word Sign v h = if_number (nat_lt (v % 2 ^ 32) (2 ^ 31)) _ _ (omega arith) (omega arith)
extended-number Double Sign v h = h
extended-number Byte Zero v h = omega arith
extended-number Half Zero v h = omega arith
extended-number Word Zero v h = omega arith
extended-number Double Zero v h = h

-- ---- writing

pub length-number_bytes : (w : Width) (v : ℕ) → length (number_bytes (size_of w) v) ≡ size_of w
unfolding number_bytes
length-number_bytes Byte v = refl
length-number_bytes Half v = refl
length-number_bytes Word v = refl
length-number_bytes Double v = refl

byte : (i v : ℕ) → IsByte (byte_at i v)
byte zero v = omega arith
byte (suc i) v = omega arith

bytes_from : (i n v : ℕ) → All IsByte (bytes_low_first i n v)
bytes_from i zero v = All-nil IsByte
bytes_from i (suc n) v = All-cons IsByte (byte_at i v) (bytes_low_first (suc i) n v) (byte i v) (bytes_from (suc i) n v)

pub number_bytes-bytes : (n v : ℕ) → All IsByte (number_bytes n v)
unfolding number_bytes
number_bytes-bytes n v = bytes_from 0 n v

pub written-bytes : (bytes : List ℕ) (at : ℕ) (piece : List ℕ) → All IsByte bytes → All IsByte piece → All IsByte (written bytes at piece)
written-bytes bytes at piece h p =
    All-append IsByte (take at bytes) (piece ++ drop (at + length piece) bytes) (All-take IsByte at bytes h)
    (All-append IsByte piece (drop (at + length piece) bytes) p (All-drop IsByte (at + length piece) bytes h))
