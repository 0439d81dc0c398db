-- Before room is secured, what the instruction in hand is to write is what the plain machine's writes.
use Rattle.std.proofs.Common.{◌≡◌, ℕ, ◌+◌, ◌-◌, ◌==◌, Bool, true, false, if◌then◌else◌, List, length, refl, sym, ◌∙◌, ap, subst}
use Rattle.thy_block.specs.declared.block.Block.{Block}
use Rattle.thy_block.specs.declared.parameters.Parameters.{Parameters}
use Rattle.thy_block.specs.Geometry.{console_room}
use Rattle.thy_block.specs.declared.span.Span.{Span}
use Rattle.thy_block.specs.Flat.{memory_bytes}
use Rattle.thy_block.specs.Spans.{head_len, rest_of}
use Rattle.thy_block.proofs.MemoryLaws.{length-memory_bytes, length-console_bytes}
use Rattle.thy_isa.specs.declared.state.CallState.{CallState}
use Rattle.thy_isa.specs.declared.state.Effect.{Effect}
use Rattle.thy_isa.specs.Moves.{moves_of}
use Rattle.thy_isa.specs.OnBlocks.{setting_for, state_from, calls_in, effect_in}
use Rattle.thy_isa.specs.Step.{State, call_state_of, effect_at}
use Rattle.thy_isa.proofs.BlockLaws.{effect_in-flat}
use Rattle.thy_cache.specs.Contents.{dirty_count}
use Rattle.thy_hart.specs.Epoch.{exhausted}
use Rattle.thy_hart.specs.declared.hand.Hand.{Hand}
use Rattle.thy_hart.specs.declared.hand.Hand.TheVariants.{Nothing, Reading, Securing, Writing, Retiring}
use Rattle.thy_hart.specs.HartState.{HartState, blocks_of, has_written}
use Rattle.thy_hart.specs.Outcomes.{Given, begun, written_on, fetched, is_short, dropped, room_secured, acted_by}
use Rattle.thy_hart.specs.Moments.{Moment, memory_of, brings_line}
use Rattle.thy_hart.specs.OneStep.{current, hart_after}
use Rattle.thy_hart.specs.Laws.{IsSized, Follows}
use Rattle.thy_computer.specs.Origin.{Origin}
use Rattle.thy_computer.specs.Stores.{stored_by}
use Rattle.thy_scheme.specs.Sound.{IsToWrite}

-- ---- the plain machine's

-- what a hart over the blocks of a state is to write, if it has nothing in hand
abbrev pub stored_in : List ℕ → HartState → List Block → Span
stored_in input h memory = (moves_of h.cpu.regs (calls_in h.geometry h.cpu (length input)) (effect_in h.geometry h.cpu memory)).to

module _ (input : List ℕ) (h : HartState) (memory : List Block) (sized : IsSized h memory) where
  abbrev calls_with : ℕ → ℕ → CallState
  calls_with len size = record (calls_in h.geometry h.cpu (length input)) {
    console_len = len;
    room = console_room h.geometry - len;
    size = size;
  }

  calls_same : call_state_of (setting_for h.geometry input) (state_from h.geometry h.cpu memory) ≡ calls_in h.geometry h.cpu (length input)
  unfolding state_from
  calls_same =
      ap (λ n. calls_with n (length (memory_bytes h.geometry memory)))
      (length-console_bytes h.geometry memory h.cpu.console_len sized.range sized.blocks sized.console)
      ∙ ap (calls_with h.cpu.console_len) (length-memory_bytes h.geometry memory sized.blocks)

  regs_same : (state_from h.geometry h.cpu memory).regs ≡ h.cpu.regs
  unfolding state_from
  regs_same = refl

  stored_there : (o : Origin) → o.geometry ≡ h.geometry → o.input ≡ input
      → stored_by o (state_from h.geometry h.cpu memory) ≡ stored_in input h memory
  unfolding stored_by
  stored_there o geometry same =
      let s : State = state_from h.geometry h.cpu memory in
      ap (λ (p : Parameters). (moves_of s.regs (call_state_of (setting_for p o.input) s) (effect_at p.base s)).to) geometry
      ∙ ap (λ (i : List ℕ). (moves_of s.regs (call_state_of (setting_for h.geometry i) s) (effect_at h.geometry.base s)).to) same
      ∙ ap (λ (c : CallState). (moves_of s.regs c (effect_at h.geometry.base s)).to) calls_same
      ∙ ap (λ (e : Effect). (moves_of s.regs (calls_in h.geometry h.cpu (length input)) e).to)
      (sym (effect_in-flat h.geometry input h.cpu memory sized.range sized.blocks sized.console))
      ∙ ap (λ (x : List ℕ). (moves_of x (calls_in h.geometry h.cpu (length input)) (effect_in h.geometry h.cpu memory)).to) regs_same

pub current-is : (h : HartState) (memory : List Block) → current h memory ≡ state_from h.geometry h.cpu memory
unfolding current
current-is h memory = refl

-- with nothing in hand it is at the plain machine's state
stored_next : (o : Origin) (h : HartState) (memory : List Block) (now : State) → o.geometry ≡ h.geometry → Follows o.input now h memory
    → h.hand ≡ Nothing
    → stored_by o now ≡ stored_in o.input h memory
stored_next o h memory now geometry f none =
    let here : now ≡ state_from h.geometry h.cpu memory = sym (f.current (ap has_written none)) ∙ current-is h memory in
    ap (stored_by o) here ∙ stored_there o.input h memory f.sized o geometry refl

-- ---- a step

begun_writes : (stored : Span) (e : Effect) (from to : Span) → to ≡ stored → IsToWrite stored (begun e from to)
unfolding begun
begun_writes stored e from to is = by_len (from.len == 0) (to.len == 0) refl
  where
    by_len : (a b : Bool) → (to.len == 0) ≡ b
        → IsToWrite stored (if a then (if b then Retiring e false else Securing e to) else Reading e from to)
    by_len true true none = tt
    by_len true false some = (is, some)
    by_len false b some = is

fetched_writes : (stored : Span) (input : List ℕ) (memory : List Block) (h : HartState) → stored ≡ stored_in input h memory
    → IsToWrite stored (fetched input memory h).hand
unfolding fetched
fetched_writes stored input memory h is =
    let e = effect_in h.geometry h.cpu memory in
    let moves = moves_of h.cpu.regs (calls_in h.geometry h.cpu (length input)) e in
    begun_writes stored e moves.from moves.to (sym is)

secured_writes : (stored : Span) (free : ℕ) (way : Bool) (dirty : ℕ) (e : Effect) (to : Span) (h : HartState) → IsToWrite stored h.hand
    → IsToWrite stored (room_secured free way dirty e to h).hand
unfolding room_secured
secured_writes stored free way dirty e to h w = by_room (is_short free dirty to) way
  where
    by_room : (short under : Bool)
        → IsToWrite stored (if short then (if under then h else dropped (exhausted free dirty (blocks_of to) h.epoch) h) else record h { hand = Writing e to 0 }).hand
    by_room true true = w
    by_room true false = tt
    by_room false under = tt

written_writes : (stored : Span) (e : Effect) (to : Span) (done : ℕ) → IsToWrite stored (written_on e to done)
unfolding written_on
written_writes stored e to done = by_len (to.len == 0)
  where
    by_len : (a : Bool) → IsToWrite stored (if a then Retiring e true else Writing e to done)
    by_len true = tt
    by_len false = tt

acted_writes : (stored : Span) (g : Given) (dirty : ℕ) (memory : List Block) (h : HartState) (hand : Hand) → h.hand ≡ hand
    → IsToWrite stored hand
    → (hand ≡ Nothing → stored ≡ stored_in g.input h memory) → IsToWrite stored (acted_by g dirty memory h hand).hand
acted_writes stored g dirty memory h Nothing is w next = fetched_writes stored g.input memory h (next refl)
acted_writes stored g dirty memory h (Reading e from to) is w next = begun_writes stored e (rest_of from) to w
acted_writes stored g dirty memory h (Securing e to) is w next =
    secured_writes stored g.free g.under_way dirty e to h (subst (IsToWrite stored) (sym is) w)
acted_writes stored g dirty memory h (Writing e to done) is w next = written_writes stored e (rest_of to) (done + head_len to)
acted_writes stored g dirty memory h (Retiring e wrote) is w next = tt

-- what a step leaves in hand is to write it too
pub hand_writes : (o : Origin) (g : Given) (m : Moment) (now : State) → o.geometry ≡ m.hart.geometry → g.input ≡ o.input
    → Follows o.input now m.hart (memory_of m) → IsToWrite (stored_by o now) m.hart.hand
    → IsToWrite (stored_by o now) (hart_after g m).hand
hand_writes o g m now geometry input f w = by_line (brings_line m)
  where
    acted : IsToWrite (stored_by o now) (acted_by g (dirty_count m.cache) (memory_of m) m.hart m.hart.hand).hand
    acted = acted_writes (stored_by o now) g (dirty_count m.cache) (memory_of m) m.hart m.hart.hand refl w
        (λ none. stored_next o m.hart (memory_of m) now geometry f none ∙ ap (λ i. stored_in i m.hart (memory_of m)) (sym input))

    by_line : (b : Bool)
        → IsToWrite (stored_by o now) (if b then m.hart else acted_by g (dirty_count m.cache) (memory_of m) m.hart m.hart.hand).hand
    by_line true = w
    by_line false = acted
