-- Part of the claim.
-- What a load makes of the number that it read.
use Rattle.std.specs.Prelude.{ℕ, ◌%◌, ◌^◌}
use Rattle.thy_isa.specs.declared.instr.Width.{Width}
use Rattle.thy_isa.specs.declared.instr.Width.TheVariants.{Byte, Half, Word, Double}
use Rattle.thy_isa.specs.declared.instr.Extend.{Extend}
use Rattle.thy_isa.specs.declared.instr.Extend.TheVariants.{Sign, Zero}
use Rattle.thy_isa.specs.Words.{sign_extended}

-- the low bytes of a number, extended to 64 bits
unfoldable pub extended : Width → Extend → ℕ → ℕ
extended Byte Sign v = sign_extended 8 (v % 2 ^ 8)
extended Half Sign v = sign_extended 16 (v % 2 ^ 16)
extended Word Sign v = sign_extended 32 (v % 2 ^ 32)
extended Byte Zero v = v % 2 ^ 8
extended Half Zero v = v % 2 ^ 16
extended Word Zero v = v % 2 ^ 32
extended Double extend v = v
