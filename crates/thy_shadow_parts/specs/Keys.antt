-- Part of the claim.
-- What the entries of pool and frames list, and what is kept of entries that are freed.
use Rattle.std.specs.Prelude.{◌≡◌, ℕ, Option, Some, None}
use Rattle.thy_shadow_parts.specs.declared.entry.Held.{Held}
use Rattle.thy_shadow_parts.specs.declared.entry.Framed.{Framed}
use Rattle.thy_shadow_parts.specs.declared.entry.Begun.{Begun}

abbrev pub number_key : Held → ℕ
number_key e = e.number

abbrev pub page_key : Framed → ℕ
page_key e = e.page

-- an entry of the pool, an entry of the frames, and a frame of which this many blocks were copied
abbrev pub held : ℕ → Held
held number = record { number = number }

abbrev pub framed : ℕ → Framed
framed page = record { page = page }

abbrev pub begun_for : ℕ → ℕ → Begun
begun_for page copied = record { page = page; copied = copied }

-- what becomes of an entry that is freed
abbrev pub freed_held : Held → Option Held
freed_held e = None

abbrev pub freed_frame : Framed → Option Framed
freed_frame e = None

-- an entry that is freed lists no other number
pub freed_held-number : (e f : Held) → freed_held e ≡ Some f → number_key f ≡ number_key e
freed_held-number e f h = cc

pub freed_frame-page : (e f : Framed) → freed_frame e ≡ Some f → page_key f ≡ page_key e
freed_frame-page e f h = cc
