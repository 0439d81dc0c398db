-- Part of the claim.
-- What an atomic memory operation (AMO) makes of the number in memory and of rs2.
use Rattle.std.specs.Prelude.{ℕ, ◌+◌, nat_lt, if◌then◌else◌, bit_and, bit_or, bit_xor, int_lt}
use Rattle.thy_isa.specs.declared.instr.Amo.{Amo}
use Rattle.thy_isa.specs.declared.instr.Amo.TheVariants.{Swap, Add, Xor, And, Or, Min, Max, Minu, Maxu}
use Rattle.thy_isa.specs.declared.instr.Extend.TheVariants.{Sign}
use Rattle.thy_isa.specs.declared.instr.Width.{Width}
use Rattle.thy_isa.specs.Arith.{low64, signed}
use Rattle.thy_isa.specs.Extending.{extended}

-- what each operation makes of two numbers of 64 bits, a of memory and b of rs2
unfoldable pub amo_of : Amo → ℕ → ℕ → ℕ
amo_of Swap a b = b
amo_of Add a b = low64 (a + b)
amo_of Xor a b = bit_xor a b
amo_of And a b = bit_and a b
amo_of Or a b = bit_or a b
amo_of Min a b = if int_lt (signed b) (signed a) then b else a
amo_of Max a b = if int_lt (signed a) (signed b) then b else a
amo_of Minu a b = if nat_lt b a then b else a
amo_of Maxu a b = if nat_lt a b then b else a

-- the number whose low bytes are written: a word is extended by its sign on both sides, which keeps the order of unsigned
-- numbers too
abbrev pub modified : Amo → Width → ℕ → ℕ → ℕ
modified op width old b = amo_of op (extended width Sign old) (extended width Sign b)
