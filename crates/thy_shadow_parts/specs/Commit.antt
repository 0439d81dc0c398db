-- Part of the claim.
-- What seal and commit make of the pool.
use Rattle.std.specs.Prelude.{ℕ, ◌-◌, ◌==◌, nat_lt, if◌then◌else◌, Bool, false, map, Option, Some, None}
use Rattle.thy_block.specs.declared.parameters.Parameters.{Parameters}
use Rattle.thy_table.specs.Listing.{Listing, entry_at, index_of, mapped}
use Rattle.thy_shadow_parts.specs.declared.entry.Held.{Held}
use Rattle.thy_shadow_parts.specs.declared.entry.Framed.{Framed}
use Rattle.thy_shadow_parts.specs.Keys.{page_key, held, freed_frame}
use Rattle.thy_shadow_parts.specs.State.{State}

-- the pool after a seal: no frame is begun
abbrev pub sealed_state : State → State
sealed_state s = record s { begun = None }

-- the page of a frame, 0 if it is free
abbrev pub page_by : Option Framed → ℕ
page_by None = 0
page_by (Some e) = e.page

-- a frame is one of the first k
abbrev pub is_below : ℕ → Option ℕ → Bool
is_below k None = false
is_below k (Some j) = nat_lt j k

-- An entry of the pool, once the first k frames are committed: what a page with such a frame had is free, and what
-- was such a frame's is its page's.
abbrev pub committed_entry : ℕ → Parameters → Listing Framed → Option Held → Option Held
committed_entry k p frames None = None
committed_entry k p frames (Some e) =
    if nat_lt e.number p.pages
    then (if is_below k (index_of page_key e.number frames) then None else Some e)
    else (if nat_lt (e.number - p.pages) k then Some (held (page_by (entry_at frames (e.number - p.pages)))) else Some e)

abbrev pub committed_pool : ℕ → Parameters → Listing Framed → Listing Held → Listing Held
committed_pool k p frames pool = record pool { entries = map (committed_entry k p frames) pool.entries }

-- One frame is committed: the page of the pool that had its page of memory is free, and its own has that page.
abbrev pub freed_entry : ℕ → Option Held → Option Held
freed_entry n None = None
freed_entry n (Some e) = if e.number == n then None else Some e

abbrev pub renamed_entry : ℕ → ℕ → Option Held → Option Held
renamed_entry n x None = None
renamed_entry n x (Some e) = if e.number == n then Some (held x) else Some e

abbrev pub freed : ℕ → Listing Held → Listing Held
freed n pool = record pool { entries = map (freed_entry n) pool.entries }

abbrev pub renamed : ℕ → ℕ → Listing Held → Listing Held
renamed n x pool = record pool { entries = map (renamed_entry n x) pool.entries }

abbrev pub moved_by : Option Framed → ℕ → Listing Held → Listing Held
moved_by None n pool = pool
moved_by (Some e) n pool = renamed n e.page (freed e.page pool)

-- the pool after a commit: each frame's page has its page of memory, and every frame is free
abbrev pub committed_state : State → State
committed_state s = record s {
  pool = committed_pool s.p.ptt s.p s.frames s.pool;
  frames = mapped freed_frame s.frames;
  begun = None;
}
