-- Jumps of a generator over many draws.
use Rattle.std.specs.Prelude.{ℕ, zero, suc, ◌+◌, ◌*◌, ◌/◌, ◌%◌, ◌^◌, ◌==◌, if◌then◌else◌, List, [], ◌∷◌}
use Rattle.thy_block.specs.Lcg.{lcg_next}
use Rattle.thy_dram.specs.declared.jumps.Jump.{Jump}

-- the state after n draws
unfoldable pub after_draws : ℕ → ℕ → ℕ
after_draws zero state = state
after_draws (suc n) state = after_draws n (lcg_next state)

-- the state to which a jump leads from another
abbrev pub landing : Jump → ℕ → ℕ
landing j state = (state * j.factor + j.offset) % 2 ^ 64

-- the jump over the 64 draws of a block
abbrev pub over_a_block : Jump
over_a_block = record { factor = 4910590176156014849; offset = 10607473198416945472 }

-- twice a jump
abbrev pub twice : Jump → Jump
twice j = record { factor = j.factor * j.factor % 2 ^ 64; offset = (j.offset * j.factor + j.offset) % 2 ^ 64 }

-- this many jumps from one on, each of which is twice the jump before it
abbrev pub doublings : ℕ → Jump → List Jump
doublings zero j = []
doublings (suc n) j = j ∷ doublings n (twice j)

-- the jumps over 2^k blocks, for each k below 64
unfoldable pub block_powers : List Jump
block_powers = doublings 64 over_a_block

-- the state to which the jump of one bit of a number leads: it is taken if the bit is set
abbrev pub after_bit : Jump → ℕ → ℕ → ℕ
after_bit j n state = if n % 2 == 1 then landing j state else state

-- the state to which the jumps of all its bits lead, the lowest bit first
abbrev pub after_bits : List Jump → ℕ → ℕ → ℕ
after_bits [] n state = state
after_bits (j ∷ js) n state = after_bits js (n / 2) (after_bit j n state)
