-- Part of the claim.
-- What a hart has reserved, and what becomes of it. A load-reserved reserves the bytes that it reads, in place of what its
-- hart had reserved before; a store-conditional writes only if exactly its bytes are reserved. A hart loses its reservation by
-- its own store-conditional, and by each write of the other hart to the block of 64 bytes that it is in. Nothing else takes it.
-- A hart that has reserved nothing has an address too, which means nothing: 0, unless an image has another one there. That
-- one stays until the hart's next load-reserved or store-conditional that does not trap.
use Rattle.std.specs.Prelude.{ℕ, ◌+◌, ◌*◌, ◌/◌, ◌==◌, ◌&&◌, nat_lt, Bool, false, if◌then◌else◌, Option, Some, None}
use Rattle.thy_isa.specs.declared.instr.Width.{Width}
use Rattle.thy_isa.specs.declared.instr.Width.TheVariants.{Byte, Half, Word, Double}
use Rattle.thy_isa.specs.declared.state.OtherHart.{OtherHart}
use Rattle.thy_isa.specs.declared.state.Reservation.{Reservation}
use Rattle.thy_isa.specs.declared.state.Reservation.TheVariants.{Nothing, Word as WordAt, Double as DoubleAt}

-- the reservation of this many bytes at an address: a byte or a half is never reserved
abbrev pub reservation : Width → ℕ → Reservation
reservation Byte at = Nothing 0
reservation Half at = Nothing 0
reservation Word at = WordAt at
reservation Double at = DoubleAt at

-- exactly these bytes are reserved
abbrev pub is_reserved : Reservation → Width → ℕ → Bool
is_reserved (Nothing a) width at = false
is_reserved (WordAt a) Byte at = false
is_reserved (WordAt a) Half at = false
is_reserved (WordAt a) Word at = a == at
is_reserved (WordAt a) Double at = false
is_reserved (DoubleAt a) Byte at = false
is_reserved (DoubleAt a) Half at = false
is_reserved (DoubleAt a) Word at = false
is_reserved (DoubleAt a) Double at = a == at

-- one of the bytes of an access is in the block of 64 that address a is in
abbrev pub shares_block : ℕ → ℕ → ℕ → Bool
shares_block at len a =
    let first = a / 64 * 64 in nat_lt first (at + len) && nat_lt at (first + 64)

-- what a write of these bytes by the other hart leaves of a reservation
abbrev pub left_by : ℕ → ℕ → Reservation → Reservation
left_by at len (Nothing a) = Nothing a
left_by at len (WordAt a) = if shares_block at len a then Nothing 0 else WordAt a
left_by at len (DoubleAt a) = if shares_block at len a then Nothing 0 else DoubleAt a

-- the hart in front has written these bytes: what is left of the other one's reservation
abbrev pub written_past : ℕ → ℕ → Option OtherHart → Option OtherHart
written_past at len None = None
written_past at len (Some o) = Some (record o { back = left_by at len o.back })

-- the hart in front has this reservation now
abbrev pub reserving : Reservation → Option OtherHart → Option OtherHart
reserving r None = None
reserving r (Some o) = Some (record o { front = r })

-- the reservation of the hart in front: with one hart there is none
abbrev pub front_of : Option OtherHart → Reservation
front_of None = Nothing 0
front_of (Some o) = o.front
