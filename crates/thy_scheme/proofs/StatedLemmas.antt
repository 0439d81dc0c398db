-- What the hart's answer tells of the epoch and of the room.
use Rattle.std.proofs.Common.{◌≡◌, ◌⊎◌, ℕ, ◌+◌, ◌==◌, ◌≤◌, Bool, true, false, if◌then◌else◌, Option, Some, None, is_some, List, [], length, refl, sym, ◌∙◌, ap, subst, inl, inr, arith}
use Rattle.std.proofs.lemmas.Bool.{ltb-true}
use Rattle.thy_block.specs.declared.block.Block.{Block}
use Rattle.thy_block.specs.declared.cause.EndCause.{EndCause}
use Rattle.thy_block.specs.declared.cause.EndCause.TheVariants.{Length, Exhausted, Ended}
use Rattle.thy_hart.specs.Epoch.{over_after, retired_once, exhausted}
use Rattle.thy_block.specs.declared.span.Span.{Span}
use Rattle.thy_block.specs.Spans.{head_len, rest_of}
use Rattle.thy_isa.specs.declared.state.Effect.{Effect}
use Rattle.thy_isa.specs.OnBlocks.{calls_in, effect_in}
use Rattle.thy_isa.specs.Moves.{moves_of}
use Rattle.thy_isa.specs.Step.{is_running}
use Rattle.thy_hart.specs.declared.hand.Hand.{Hand}
use Rattle.thy_hart.specs.declared.hand.Hand.TheVariants.{Nothing, Reading, Securing, Writing, Retiring}
use Rattle.thy_hart.specs.declared.hand.HartStep.{HartStep}
use Rattle.thy_hart.specs.declared.hand.HartStep.TheVariants.{Moved, Retired, Waiting, Over}
use Rattle.thy_hart.specs.HartState.{HartState, block_for, blocks_of, secured, has_secured}
use Rattle.thy_hart.specs.Outcomes.{Given, begun, written_on, fetched, is_short, room_secured, room_answer, cpu_retired, retired, over_or_retired, acted_by, answer_by}
use Rattle.thy_hart.specs.Moments.{Moment, memory_of, is_missing, brings_line}
use Rattle.thy_hart.specs.OneStep.{hart_after, answer_to}
use Rattle.thy_hart.proofs.HandLemmas.{written_by, blocks_of-two, blocks_of-most}
use Rattle.thy_cache.specs.Contents.{dirty_count}
use Rattle.thy_computer.specs.CoreStep.{IsShort}
use Rattle.thy_computer.specs.NextActor.{Shortage}
use Rattle.thy_scheme.specs.Machine.{short_of}
use Rattle.thy_scheme.specs.Sound.{IsFresh}
use Rattle.thy_scheme.proofs.EpochLemmas.{two_blocks}

-- an instruction retired, and the epoch counts it
pub record IsRetired (b : Bool) (old new : HartState) (over : Option EndCause) : Type 0 where
  pub epoch : new.epoch ≡ retired_once (is_running new.cpu.status) old.epoch
  pub over_is : new.epoch.over ≡ over
  pub touches : b ≡ false

-- what is kept of a fresh epoch
abbrev pub KeepsFresh : Hand → Hand → Type 0
KeepsFresh old new =
    (d e : ℕ) (r s : Bool) → IsFresh old d r → (secured old ≡ 0 → e ≤ d) → (d ≡ 0 → s ≡ r) → IsFresh new e s

abbrev pub shortage : ℕ → ℕ → ℕ → Shortage
shortage free dirty need = record { free = free; dirty = dirty; need = need }

pub record IsExhausted (g : Given) (dirty free d need : ℕ) (old new : HartState) : Type 0 where
  pub epoch : new.epoch ≡ exhausted free d need old.epoch
  pub short : short_of g.free dirty old.hand ≡ Some (shortage free d need)
  pub is_short : IsShort free d need
  pub idle : g.under_way ≡ false

-- no further entry is secured, and the instruction has secured its entries exactly if it had before
pub record KeepsEntries (old new : Hand) : Type 0 where
  pub entries : secured new ≤ secured old
  pub once : has_secured new ≡ has_secured old

-- entries are secured for what is to be written
pub record TakesEntries (old new : Hand) : Type 0 where
  pub effect : Effect
  pub span : Span
  pub was : old ≡ Securing effect span
  pub becomes : new ≡ Writing effect span 0

-- what a step that moves on makes of the entries of the instruction in hand
abbrev pub EntriesBy : Hand → Hand → Type 0
EntriesBy old new = KeepsEntries old new ⊎ TakesEntries old new

pub record IsMoved (g : Given) (dirty : ℕ) (old new : HartState) : Type 0 where
  pub epoch : new.epoch ≡ old.epoch
  pub enough : short_of g.free dirty old.hand ≡ None
  pub fresh : KeepsFresh old.hand new.hand
  pub entries : EntriesBy old.hand new.hand

pub record IsWaiting (g : Given) (dirty : ℕ) (old : HartState) : Type 0 where
  pub way : g.under_way ≡ true
  pub short : is_some (short_of g.free dirty old.hand) ≡ true

abbrev pub StatesOver : EndCause → Bool → Given → ℕ → HartState → HartState → Type 0
StatesOver Length b g dirty old new = IsRetired b old new (Some Length)
StatesOver (Exhausted free d need) b g dirty old new = IsExhausted g dirty free d need old new
StatesOver Ended b g dirty old new = IsRetired b old new (Some Ended)

abbrev pub Stated : HartStep → Bool → Given → ℕ → HartState → HartState → Type 0
Stated Moved b g dirty old new = IsMoved g dirty old new
Stated Retired b g dirty old new = IsRetired b old new None
Stated Waiting b g dirty old new = IsWaiting g dirty old
Stated (Over cause) b g dirty old new = StatesOver cause b g dirty old new

-- ---- freshness

abbrev CarriesOn : Hand → Type 0
CarriesOn new = (e : ℕ) (s : Bool) → e ≡ 0 → s ≡ true → IsFresh new e s

fresh-begun : (e : Effect) (from to : Span) → CarriesOn (begun e from to)
unfolding begun
fresh-begun e from to = by_len (from.len == 0) (to.len == 0)
  where
    by_len : (a b : Bool) → CarriesOn (if a then (if b then Retiring e false else Securing e to) else Reading e from to)
    by_len true true = λ d s z t. tt
    by_len true false = λ d s z t. (z, t)
    by_len false b = λ d s z t. (z, t)

-- a hand before room is secured
abbrev IsEarly : Hand → Type 0
IsEarly h = (d : ℕ) (r : Bool) → IsFresh h d r → (d ≡ 0) × (r ≡ true)

early : (old new : Hand) → secured old ≡ 0 → IsEarly old → CarriesOn new → KeepsFresh old new
early old new none is on = λ d e r s f tidy rests.
    let z : d ≡ 0 = (is d r f).0 in
    on e s (let l = tidy none in omega (arith, z, l)) (rests z ∙ (is d r f).1)

-- a hand to which nothing happens stays fresh
fresh-same : (h : Hand) → KeepsFresh h h
fresh-same Nothing = early Nothing Nothing refl (λ d r f. f) (λ e s z t. (z, t))
fresh-same (Reading e from to) = early (Reading e from to) (Reading e from to) refl (λ d r f. f) (λ _ s z t. (z, t))
fresh-same (Securing e to) = early (Securing e to) (Securing e to) refl (λ d r f. f) (λ _ s z t. (z, t))
fresh-same (Writing e to done) = λ d _ r s f tidy rests. tt
fresh-same (Retiring e wrote) = λ d _ r s f tidy rests. tt

fresh-written : (e : Effect) (to : Span) (done : ℕ) (d : ℕ) (s : Bool) → IsFresh (written_on e to done) d s
unfolding written_on
fresh-written e to done d s = by_len (to.len == 0)
  where
    by_len : (a : Bool) → IsFresh (if a then Retiring e true else Writing e to done) d s
    by_len true = tt
    by_len false = tt

-- ---- entries

-- an effect that begins or continues after a read secures none
entries-begun : (old : Hand) (e : Effect) (from to : Span) → has_secured old ≡ false → KeepsEntries old (begun e from to)
unfolding begun
entries-begun old e from to had-not = by_len (from.len == 0) (to.len == 0)
  where
    by_len : (a b : Bool) → KeepsEntries old (if a then (if b then Retiring e false else Securing e to) else Reading e from to)
    by_len true true = record { entries = omega arith; once = sym had-not }
    by_len true false = record { entries = omega arith; once = sym had-not }
    by_len false b = record { entries = omega arith; once = sym had-not }

-- an effect that continues after a written block secures no further entry
entries-written : (old : Hand) (e : Effect) (to : Span) (done now : ℕ) → old ≡ Writing e to done
    → KeepsEntries old (written_on e (rest_of to) now)
entries-written old e to done now is =
    written_by (λ hand. KeepsEntries old hand) e (rest_of to) now
    (λ some. record { entries = omega (arith, ap secured is, blocks_of-two to some, blocks_of-most (rest_of to)); once = sym (ap has_secured is) })
    (λ end. record { entries = omega arith; once = sym (ap has_secured is) })

entries-same : (h : Hand) → KeepsEntries h h
entries-same h = record { entries = omega arith; once = refl }

-- ---- each micro-step

fetched-entries : (input : List ℕ) (memory : List Block) (h : HartState) → h.hand ≡ Nothing
    → KeepsEntries h.hand (fetched input memory h).hand
unfolding fetched
fetched-entries input memory h none =
    let e = effect_in h.geometry h.cpu memory in
    let moves = moves_of h.cpu.regs (calls_in h.geometry h.cpu (length input)) e in
    entries-begun h.hand e moves.from moves.to (ap has_secured none)

fetched-on : (input : List ℕ) (memory : List Block) (h : HartState) → CarriesOn (fetched input memory h).hand
unfolding fetched
fetched-on input memory h =
    let e = effect_in h.geometry h.cpu memory in
    let moves = moves_of h.cpu.regs (calls_in h.geometry h.cpu (length input)) e in
    fresh-begun e moves.from moves.to

fetched-stated : (b : Bool) (g : Given) (dirty : ℕ) (m : Moment) → m.hart.hand ≡ Nothing
    → IsMoved g dirty m.hart (fetched g.input (memory_of m) m.hart)
unfolding fetched
fetched-stated b g dirty m none = record {
  epoch = refl;
  enough = ap (short_of g.free dirty) none;
  fresh =
      let next = (fetched g.input (memory_of m) m.hart).hand in
      subst (λ h. KeepsFresh h next) (sym none) (early Nothing next refl (λ d r f. f) (fetched-on g.input (memory_of m) m.hart));
  entries = inl (fetched-entries g.input (memory_of m) m.hart none);
}

over-never : (running : Bool) (span retired : ℕ) (b : Bool) (g : Given) (dirty : ℕ) (old new : HartState)
    → new.epoch ≡ retired_once (is_running new.cpu.status) old.epoch → b ≡ false → new.epoch.over ≡ over_after running span retired
    → Stated (over_or_retired (over_after running span retired)) b g dirty old new
over-never running span count b g dirty old new e touches is = by_length running (count == span) is
  where
    by_length : (run last : Bool) → new.epoch.over ≡ (if run then (if last then Some Length else None) else Some Ended)
        → Stated (over_or_retired (if run then (if last then Some Length else None) else Some Ended)) b g dirty old new
    by_length true true is = record { epoch = e; over_is = is; touches = touches }
    by_length true false is = record { epoch = e; over_is = is; touches = touches }
    by_length false last is = record { epoch = e; over_is = is; touches = touches }

blocks_some : (to : Span) → 1 ≤ blocks_of to
blocks_some to = by_len ((rest_of to).len == 0)
  where
    by_len : (a : Bool) → 1 ≤ (if a then 1 else 2)
    by_len true = omega arith
    by_len false = omega arith

secured-stated : (b : Bool) (g : Given) (dirty : ℕ) (h : HartState) (e : Effect) (to : Span) → h.hand ≡ Securing e to
    → Stated (room_answer g.free g.under_way dirty to) b g dirty h (room_secured g.free g.under_way dirty e to h)
unfolding room_answer room_secured
secured-stated b g dirty h e to is = by_room (is_short g.free dirty to) refl g.under_way refl
  where
    by_room : (short : Bool) → is_short g.free dirty to ≡ short → (way : Bool) → g.under_way ≡ way
        → Stated (if short then (if way then Waiting else Over (Exhausted g.free dirty (blocks_of to))) else Moved) b g dirty h
        (if short then (if way then h else record h { epoch = exhausted g.free dirty (blocks_of to) h.epoch; hand = Nothing; bytes = [] })
        else record h { hand = Writing e to 0 })
    by_room true s true w = record {
      way = w;
      short = ap (λ x. is_some (short_of g.free dirty x)) is
          ∙ ap (λ t. is_some (if t then Some (shortage g.free dirty (blocks_of to)) else None)) s;
    }
    by_room true s false w = record {
      epoch = refl;
      short = ap (short_of g.free dirty) is ∙ ap (λ t. if t then Some (shortage g.free dirty (blocks_of to)) else None) s;
      is_short = record { short = ltb-true _ _ s; some = blocks_some to; most = two_blocks to };
      idle = w;
    }
    by_room false s way w = record {
      epoch = refl;
      enough = ap (short_of g.free dirty) is ∙ ap (λ t. if t then Some (shortage g.free dirty (blocks_of to)) else None) s;
      fresh = λ d _ r _ f tidy rests. tt;
      entries = inr (record { effect = e; span = to; was = is; becomes = refl });
    }

acted-stated : (g : Given) (m : Moment) (hand : Hand) → m.hart.hand ≡ hand → brings_line m ≡ false
    → Stated (answer_by g (dirty_count m.cache) m.hart hand) (brings_line m) g (dirty_count m.cache) m.hart
    (acted_by g (dirty_count m.cache) (memory_of m) m.hart hand)
acted-stated g m Nothing is touches = fetched-stated (brings_line m) g (dirty_count m.cache) m is
acted-stated g m (Reading e from to) is touches = record {
  epoch = refl;
  enough = ap (short_of g.free (dirty_count m.cache)) is;
  fresh = subst (λ h. KeepsFresh h (begun e (rest_of from) to)) (sym is)
      (early (Reading e from to) (begun e (rest_of from) to) refl (λ d r f. f) (fresh-begun e (rest_of from) to));
  entries = inl (entries-begun m.hart.hand e (rest_of from) to (ap has_secured is));
}
acted-stated g m (Securing e to) is touches = secured-stated (brings_line m) g (dirty_count m.cache) m.hart e to is
acted-stated g m (Writing e to done) is touches = record {
  epoch = refl;
  enough = ap (short_of g.free (dirty_count m.cache)) is;
  fresh = λ d x r s f tidy rests. fresh-written e (rest_of to) _ x s;
  entries = inl (entries-written m.hart.hand e to done (done + head_len to) is);
}
acted-stated g m (Retiring e wrote) is touches =
    over-never (is_running (cpu_retired g.input e m.hart).status) m.hart.epoch.span (m.hart.epoch.retired + 1) (brings_line m) g
    (dirty_count m.cache) m.hart (retired g.input e m.hart) refl touches refl

-- an instruction that secures its entries brings no line
pub securing-brings : (m : Moment) (e : Effect) (to : Span) → m.hart.hand ≡ Securing e to → brings_line m ≡ false
securing-brings m e to is = ap (λ h. is_missing m.cache (block_for m.hart.geometry m.hart.cpu h)) is

-- a line is brought only for a hand that has no shortage
brought-short : (g : Given) (m : Moment) (dirty : ℕ) (hand : Hand) → m.hart.hand ≡ hand → brings_line m ≡ true
    → short_of g.free dirty hand ≡ None
brought-short g m dirty Nothing is b = refl
brought-short g m dirty (Reading e from to) is b = refl
brought-short g m dirty (Securing e to) is b =
    let no : brings_line m ≡ false = securing-brings m e to is in
    absurd (cc)
brought-short g m dirty (Writing e to done) is b = refl
brought-short g m dirty (Retiring e wrote) is b = refl

pub stated : (g : Given) (m : Moment) → Stated (answer_to g m) (brings_line m) g (dirty_count m.cache) m.hart (hart_after g m)
stated g m = by_line (brings_line m) refl
  where
    by_line : (b : Bool) → brings_line m ≡ b
        → Stated (if b then Moved else answer_by g (dirty_count m.cache) m.hart m.hart.hand) (brings_line m) g (dirty_count m.cache) m.hart
        (if b then m.hart else acted_by g (dirty_count m.cache) (memory_of m) m.hart m.hart.hand)
    by_line true e = record {
      epoch = refl;
      enough = brought-short g m (dirty_count m.cache) m.hart.hand refl e;
      fresh = fresh-same m.hart.hand;
      entries = inl (entries-same m.hart.hand);
    }
    by_line false e = acted-stated g m m.hart.hand refl e
