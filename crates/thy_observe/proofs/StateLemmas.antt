-- The state of a run in a cycle and at a count, by a replay.
use Rattle.std.proofs.Common.{◌≡◌, ℕ, ◌-◌, ◌<◌, ◌≤◌, Bool, true, false, nat_lt, if◌then◌else◌, List, length, take, Option, Some, None, sym, ◌∙◌, ap, arith}
use Rattle.std.proofs.lemmas.Bool.{lt-ltb, le-ltb}
use Rattle.thy_block.specs.declared.parameters.Parameters.{Parameters}
use Rattle.thy_block.specs.Bytes.{bytes_of}
use Rattle.thy_isa.specs.OnBlocks.{setting_for}
use Rattle.thy_isa.specs.Step.{State, Setting, state_of}
use Rattle.thy_layout.specs.declared.start.Start.{Start}
use Rattle.thy_plain.specs.Machine.{Machine}
use Rattle.thy_run.specs.Watching.{Taken}
use Rattle.thy_observe.specs.declared.changes.Dated.{Dated}
use Rattle.thy_observe.specs.declared.replay.Replay.{Replay}
use Rattle.thy_observe.specs.Changes.{changes_of, dated_of}
use Rattle.thy_observe.specs.Replaying.{Executed, IsPlainAt, IsReplay, executed, listed_of, state_after}
use Rattle.thy_observe.specs.States.{standing, state_along, state_at, state_by}
use Rattle.thy_observe.proofs.ReplayLemmas.{listed-all, listed-by}

abbrev g_of : Parameters → Start → Setting
g_of p start = setting_for p (bytes_of start.input)

-- ---- after a cycle

-- a run that had fewer cycles has no state there
pub state_by-late : (g : Setting) (s : State) (cycles cycle : ℕ) (seen : List Taken)
    → cycles < cycle → cycles ≡ length seen → None ≡ state_by g s cycle seen
state_by-late g s cycles cycle seen less many =
    sym (ap (λ (b : Bool). if b then None else standing g s (executed g s (changes_of (take cycle seen)))) (lt-ltb (length seen) cycle (omega (arith, less, many))))

-- else the replay has it
standing-by : (p : Parameters) (start : Start) (listed : List Dated) (cycles cycle : ℕ) (seen : List Taken)
    → cycle ≤ cycles → listed ≡ dated_of seen → cycles ≡ length seen
    → standing (g_of p start) (state_of start.state) (listed_of p start (Some cycle) listed) ≡ state_by (g_of p start) (state_of start.state) cycle seen
standing-by p start listed cycles cycle seen enough is many =
    let g : Setting = g_of p start in
    let s : State = state_of start.state in
    ap (standing g s) (ap (listed_of p start (Some cycle)) is ∙ listed-by g s cycle seen)
    ∙ sym (ap (λ (b : Bool). if b then None else standing g s (executed g s (changes_of (take cycle seen)))) (le-ltb (length seen) cycle (omega (arith, enough, many))))

pub state_by-up : (p : Parameters) (start : Start) (listed : List Dated) (cycles cycle : ℕ) (r : Replay) (seen : List Taken)
    → IsReplay p start (listed_of p start (Some cycle) listed) r → r.up ≡ true
    → cycle ≤ cycles → listed ≡ dated_of seen → cycles ≡ length seen
    → Some r.plain.state ≡ state_by (g_of p start) (state_of start.state) cycle seen
state_by-up p start listed cycles cycle r seen h up enough is many =
    let e : Executed = listed_of p start (Some cycle) listed in
    ap (λ (m : Machine). Some m.state) h.plain
    ∙ sym (ap (λ (b : Bool). if b then Some (state_after (g_of p start) (state_of start.state) e.harts) else None) (sym h.up ∙ up))
    ∙ standing-by p start listed cycles cycle seen enough is many

pub state_by-down : (p : Parameters) (start : Start) (listed : List Dated) (cycles cycle : ℕ) (r : Replay) (seen : List Taken)
    → IsReplay p start (listed_of p start (Some cycle) listed) r → r.up ≡ false
    → cycle ≤ cycles → listed ≡ dated_of seen → cycles ≡ length seen
    → None ≡ state_by (g_of p start) (state_of start.state) cycle seen
state_by-down p start listed cycles cycle r seen h down enough is many =
    let e : Executed = listed_of p start (Some cycle) listed in
    sym (ap (λ (b : Bool). if b then Some (state_after (g_of p start) (state_of start.state) e.harts) else None) (sym h.up ∙ down))
    ∙ standing-by p start listed cycles cycle seen enough is many

-- ---- at a count

-- below the start there is none
pub state_at-early : (g : Setting) (s : State) (count : ℕ) (seen : List Taken) → count < s.count → None ≡ state_at g s count seen
state_at-early g s count seen less =
    sym (ap (λ (b : Bool). if b then None else state_along g s (count - s.count) (executed g s (changes_of seen)).harts) (lt-ltb count s.count less))

along : (p : Parameters) (start : Start) (listed : List Dated) (count : ℕ) (seen : List Taken)
    → (state_of start.state).count ≤ count → listed ≡ dated_of seen
    → state_along (g_of p start) (state_of start.state) (count - (state_of start.state).count) (listed_of p start None listed).harts
    ≡ state_at (g_of p start) (state_of start.state) count seen
along p start listed count seen late is =
    let g : Setting = g_of p start in
    let s : State = state_of start.state in
    ap (λ (e : Executed). state_along g s (count - s.count) e.harts) (ap (listed_of p start None) is ∙ listed-all g s seen)
    ∙ sym (ap (λ (b : Bool). if b then None else state_along g s (count - s.count) (executed g s (changes_of seen)).harts) (le-ltb count s.count late))

-- beyond what was kept there is none
pub state_at-beyond : (p : Parameters) (start : Start) (listed : List Dated) (count : ℕ) (r : Replay) (seen : List Taken)
    → IsReplay p start (listed_of p start None listed) r → length r.harts.items < count - (state_of start.state).count
    → (state_of start.state).count ≤ count → listed ≡ dated_of seen
    → None ≡ state_at (g_of p start) (state_of start.state) count seen
state_at-beyond p start listed count r seen h less late is =
    let g : Setting = g_of p start in
    let s : State = state_of start.state in
    let harts : List ℕ = (listed_of p start None listed).harts in
    let few : length harts < count - s.count = omega (arith, less, ap length h.harts) in
    sym (ap (λ (b : Bool). if b then None else Some (state_after g s (take (count - s.count) harts))) (lt-ltb (length harts) (count - s.count) few))
    ∙ along p start listed count seen late is

-- within it is the state after the first of its turns
pub state_at-within : (p : Parameters) (start : Start) (listed : List Dated) (count : ℕ) (r : Replay) (m : Machine) (seen : List Taken)
    → IsReplay p start (listed_of p start None listed) r → count - (state_of start.state).count ≤ length r.harts.items
    → IsPlainAt p start (take (count - (state_of start.state).count) r.harts.items) m
    → (state_of start.state).count ≤ count → listed ≡ dated_of seen
    → Some m.state ≡ state_at (g_of p start) (state_of start.state) count seen
state_at-within p start listed count r m seen h most plain late is =
    let g : Setting = g_of p start in
    let s : State = state_of start.state in
    let harts : List ℕ = (listed_of p start None listed).harts in
    let many : count - s.count ≤ length harts = omega (arith, most, ap length h.harts) in
    ap (λ (x : Machine). Some x.state) plain
    ∙ ap (λ (l : List ℕ). Some (state_after g s (take (count - s.count) l))) h.harts
    ∙ sym (ap (λ (b : Bool). if b then None else Some (state_after g s (take (count - s.count) harts))) (le-ltb (length harts) (count - s.count) many))
    ∙ along p start listed count seen late is
