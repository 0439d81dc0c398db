-- What the hart's step makes of the machine, by its answer.
use Rattle.std.proofs.Common.{◌≡◌, ℕ, ◌+◌, ◌-◌, ◌==◌, ◌<◌, ◌≤◌, Bool, true, false, if◌then◌else◌, nat_lt, Option, Some, None, is_some, refl, sym, ◌∙◌, ap, ap₂, subst, arith, inl, inr, add-zero, []}
use Rattle.std.proofs.lemmas.Bool.{cases_eq}
use Rattle.thy_block.specs.declared.cause.EndCause.{EndCause}
use Rattle.thy_block.specs.declared.cause.EndCause.TheVariants.{Length, Exhausted, Ended}
use Rattle.thy_block.specs.declared.parameters.Parameters.{Parameters}
use Rattle.thy_block.specs.Device.{Device}
use Rattle.thy_cache.specs.Contents.{Contents, dirty_count}
use Rattle.thy_hart.specs.Epoch.{Epoch, over_after, retired_once, exhausted, HasRetired}
use Rattle.thy_block.specs.declared.span.Span.{Span}
use Rattle.thy_isa.specs.declared.state.Effect.{Effect}
use Rattle.thy_isa.specs.OnBlocks.{setting_for}
use Rattle.thy_isa.specs.Step.{state_with, fronted, is_running, step}
use Rattle.thy_hart.specs.declared.hand.Hand.{Hand}
use Rattle.thy_hart.specs.declared.hand.Hand.TheVariants.{Nothing, Reading, Securing, Writing, Retiring}
use Rattle.thy_hart.specs.declared.hand.HartStep.{HartStep}
use Rattle.thy_hart.specs.declared.hand.HartStep.TheVariants.{Moved, Retired, Waiting, Over}
use Rattle.thy_hart.specs.HartState.{HartState, secured, has_secured, blocks_of}
use Rattle.thy_hart.specs.Outcomes.{Given}
use Rattle.thy_hart.specs.Moments.{Moment, moment, brings_line, left_behind, moves_left}
use Rattle.thy_hart.specs.OneStep.{current, ComesNearer, HasCome, answer_to}
use Rattle.thy_hart.specs.Laws.{Follows, state_after}
use Rattle.thy_hart.proofs.FollowLaws.{follows-on}
use Rattle.thy_computer.specs.declared.did.Did.TheVariants.{Moved as DidMove, Retired as DidRetire}
use Rattle.thy_computer.specs.declared.view.Phase.TheVariants.{Run}
use Rattle.thy_computer.specs.declared.view.View.{View}
use Rattle.thy_computer.specs.Action.{Rest, Acts}
use Rattle.thy_computer.specs.CoreStep.{busier, over_at}
use Rattle.thy_computer.specs.Dram.{WritesBlock}
use Rattle.thy_computer.specs.Kind.{without_memory}
use Rattle.thy_computer.specs.Origin.{Origin, turn_at, at, runs_at}
use Rattle.thy_computer.specs.Pace.{Gauge}
use Rattle.thy_computer.specs.Stores.{blocks_in, stored_by, UsesEntries, SecuresEntries, Dirties}
use Rattle.thy_computer.specs.NextActor.{Advances, Shortage, HandsOn, begun_by, over_by}
use Rattle.thy_computer.specs.Work.{MovesOn}
use Rattle.thy_scheme.specs.Scheme.{SchemeOf}
use Rattle.thy_scheme.specs.Calls.{owed_in}
use Rattle.thy_scheme.specs.SchemeStore.{held_by_scheme}
use Rattle.thy_scheme.specs.Machine.{Machine, cpu_fronted, run_view, view_of, moment_of, memory_of, pressure_of, short_of, moves_begun, moves_while, gauge_in, gauge_of}
use Rattle.thy_scheme.specs.Pace.{instructions_left, flushes_left, hart_left, cycles_left}
use Rattle.thy_scheme.specs.Sound.{OpenNow, IsToWrite, IsFresh, StartsFresh}
use Rattle.thy_scheme.specs.MachineExact.{given_to, found_by}
use Rattle.thy_scheme.specs.MachineCalls.{IsAsked, HartCall, begun_by_hart, hart_did, after_hart}
use Rattle.thy_scheme.specs.Rows.{At, HartGoes, HartAdvances, HartSimulates, HartHandsOn}
use Rattle.thy_scheme.proofs.AtLemmas.{at-hart, at-count, count-current, status-current, processor-fronted}
use Rattle.thy_scheme.proofs.BegunLaws.{count-fronted, status-fronted, cpu-count, cpu-status, writes_nothing, is-begun}
use Rattle.thy_scheme.proofs.EpochLemmas.{retired-on, few-begun}
use Rattle.thy_scheme.proofs.HandLaws.{hand_writes}
use Rattle.thy_scheme.proofs.WorkLaws.{moves_over}
use Rattle.thy_scheme.proofs.Facts.{view-run, sound-run, holds-run, is-going}
use Rattle.thy_scheme.proofs.StatedLemmas.{shortage, IsRetired, KeepsEntries, TakesEntries, EntriesBy, IsMoved, IsExhausted, IsWaiting, Stated, securing-brings, stated}
use Rattle.thy_scheme.proofs.HartRow.{hart_on, IsOn, is-on, IsNext, simulates-next}
use Rattle.thy_scheme.proofs.FlushRow.{flushes_most}

-- ---- the view, by the parts of the hart that it shows

abbrev view_by : {S : Type 0} → Machine S → Epoch → ℕ → ℕ → View
view_by m e count lap = record (run_view m) { epoch = e.number; count = count; retired = e.retired; spent = m.spent + 1; lap = lap; over = e.over }

view-is : {S : Type 0} (m : Machine S) (e f : Epoch) (i j a b : ℕ) → e ≡ f → i ≡ j → a ≡ b → view_by m e i a ≡ view_by m f j b
view-is m e f i j a b se si sa = ap (λ x. view_by m x i a) se ∙ ap (λ x. view_by m f x a) si ∙ ap (view_by m f j) sa

-- ---- cycles that are left

left-going : {S : Type 0} (K : SchemeOf S) (p : Parameters) (m : Machine S) (n : Device) → m.hart.epoch.over ≡ None
    → cycles_left K p m n ≡ K.engine_left m.scheme + K.promotions_left m.scheme + owed_in K m.scheme n
    + (instructions_left m.begun (moment_of K m n) + K.most_free p + K.most_merges p)
left-going K p m n e = ap (λ x. K.engine_left m.scheme + K.promotions_left m.scheme + owed_in K m.scheme n + hart_left K p x m n) e

left-over : {S : Type 0} (K : SchemeOf S) (p : Parameters) (m : Machine S) (n : Device) (cause : EndCause) → m.hart.epoch.over ≡ Some cause
    → cycles_left K p m n ≡ K.engine_left m.scheme + K.promotions_left m.scheme + owed_in K m.scheme n + flushes_left (K.most_merges p)
    (dirty_count m.cache) (K.merges_left m.scheme)
left-over K p m n cause e = ap (λ x. K.engine_left m.scheme + K.promotions_left m.scheme + owed_in K m.scheme n + hart_left K p x m n) e

-- the instruction's, if it moved
instructions-moved : (before now : Option ℕ) (old new : Moment) → new.hart.epoch ≡ old.hart.epoch
    → moves_begun now (moves_left new) + 1 ≤ moves_begun before (moves_left old)
    → instructions_left now new + 1 ≤ instructions_left before old
instructions-moved before now old new e l =
    let same : new.hart.epoch.span - new.hart.epoch.retired - 1 ≡ old.hart.epoch.span - old.hart.epoch.retired - 1 =
    ap (λ (x : Epoch). x.span - x.retired - 1) e in
    omega (arith, same, l)

instructions-same : (before now : Option ℕ) (old new : Moment) → new.hart.epoch ≡ old.hart.epoch
    → moves_begun now (moves_left new) ≤ moves_begun before (moves_left old)
    → instructions_left now new ≤ instructions_left before old
instructions-same before now old new e l =
    let same : new.hart.epoch.span - new.hart.epoch.retired - 1 ≡ old.hart.epoch.span - old.hart.epoch.retired - 1 =
    ap (λ (x : Epoch). x.span - x.retired - 1) e in
    omega (arith, same, l)

-- fewer instructions are left after one was retired, if the epoch goes on
instructions-retired : (before now : Option ℕ) (old new : Moment) (b : Bool) → new.hart.epoch ≡ retired_once b old.hart.epoch
    → old.hart.epoch.retired + 1 < old.hart.epoch.span → instructions_left now new + 1 ≤ instructions_left before old
instructions-retired before now old new b e l =
    let same : new.hart.epoch.span - new.hart.epoch.retired - 1 ≡ old.hart.epoch.span - (old.hart.epoch.retired + 1) - 1 =
    ap (λ (x : Epoch). x.span - x.retired - 1) e in
    omega (arith, same, l, few-begun now new)

-- ---- what an instruction is short of

is-short-of : (free dirty : ℕ) (h : Hand) (s : Shortage) → short_of free dirty h ≡ Some s → (s.free ≡ free) × (s.dirty ≡ dirty)
is-short-of free dirty Nothing s e = absurd (cc)
is-short-of free dirty (Reading x from to) s e = absurd (cc)
is-short-of free dirty (Securing x to) s e = by_room (nat_lt free (dirty + blocks_of to)) e
  where
    by_room : (b : Bool) → (if b then Some (shortage free dirty (blocks_of to)) else None) ≡ Some s → (s.free ≡ free) × (s.dirty ≡ dirty)
    by_room true e = let is : shortage free dirty (blocks_of to) ≡ s = cc in
        (ap (λ (x : Shortage). x.free) (sym is), ap (λ (x : Shortage). x.dirty) (sym is))
    by_room false e = absurd (cc)
is-short-of free dirty (Writing x to done) s e = absurd (cc)
is-short-of free dirty (Retiring x wrote) s e = absurd (cc)

-- an epoch that is fresh then has stored nothing
fresh-short : (free dirty : ℕ) (h : Hand) (s : Shortage) (d : ℕ) (r : Bool) → short_of free dirty h ≡ Some s → IsFresh h d r
    → (d ≡ 0) × (r ≡ true)
fresh-short free dirty Nothing s d r e f = f
fresh-short free dirty (Reading x from to) s d r e f = f
fresh-short free dirty (Securing x to) s d r e f = f
fresh-short free dirty (Writing x to done) s d r e f = absurd (cc)
fresh-short free dirty (Retiring x wrote) s d r e f = absurd (cc)

-- a hand that is short of entries has nothing secured
short-secured : (free dirty : ℕ) (h : Hand) (s : Shortage) → short_of free dirty h ≡ Some s → secured h ≡ 0
short-secured free dirty Nothing s e = refl
short-secured free dirty (Reading x from to) s e = refl
short-secured free dirty (Securing x to) s e = refl
short-secured free dirty (Writing x to done) s e = absurd (cc)
short-secured free dirty (Retiring x wrote) s e = refl

-- a hand that is short of entries has a move left
short-moves : (free dirty : ℕ) (h : Hand) (s : Shortage) → short_of free dirty h ≡ Some s → 1 ≤ left_behind h
short-moves free dirty Nothing s e = absurd (cc)
short-moves free dirty (Reading x from to) s e = absurd (cc)
short-moves free dirty (Securing x to) s e = omega arith
short-moves free dirty (Writing x to done) s e = absurd (cc)
short-moves free dirty (Retiring x wrote) s e = absurd (cc)

-- ---- Moved

moved-acts : {S : Type 0} (K : SchemeOf S) (s : S) (n : Device) (t : S) (new : Device) → IsAsked K s n t new → new.down ≡ false
    → Acts DidMove n new
moved-acts K s n t new asked up = elim asked as (λ _. Acts DidMove n new) [
  | inl same ↦ record { action = Rest; asked = tt; left = same.1 }
  | inr access ↦ record { action = access.action; asked = access.access; left = (access.succeeds up).left }
]

moved-spent : {S : Type 0} (K : SchemeOf S) (p : Parameters) (m : Machine S) (n : Device) (hart lap : ℕ) (last : Option ℕ) (h : HartState)
    (c : Contents) (t : S) (new : Device)
    → m.hart.epoch.over ≡ None → h.epoch ≡ m.hart.epoch → K.engine_left t ≤ K.engine_left m.scheme → K.promotions_left t ≡ 0
    → (K.holding t new).owed ≤ (K.holding m.scheme n).owed → K.owed_later t ≤ K.owed_later m.scheme
    → moves_left (found_by K hart m n) ≤ moves_begun m.begun (moves_left (moment_of K m n))
    → ComesNearer (found_by K hart m n) (moment h c (held_by_scheme K t new))
    → cycles_left K p (hart_on hart false lap last h c t m) new + 1 ≤ cycles_left K p m n
moved-spent K p m n hart lap last h c t new going e engine promotions owed later fewer nearer =
    let next = hart_on hart false lap last h c t m in
    elim nearer as (λ _. cycles_left K p next new + 1 ≤ cycles_left K p m n) [
      | inl less ↦
          let i = instructions-moved m.begun (Some hart) (moment_of K m n) (moment h c (held_by_scheme K t new)) e (omega (arith, less, fewer)) in
          omega (arith, left-going K p m n going, left-going K p next new (ap (λ (x : Epoch). x.over) e ∙ going), engine, promotions, owed, later, i)
      | inr same ↦
          let i = instructions-same m.begun (Some hart) (moment_of K m n) (moment h c (held_by_scheme K t new)) e (omega (arith, same.0, fewer)) in
          omega (arith, left-going K p m n going, left-going K p next new (ap (λ (x : Epoch). x.over) e ∙ going), engine, promotions, same.1, later, i)
    ]

-- while the epoch goes on, the moves left are the instruction's moves
going-moves : (over : Option EndCause) (begun : Option ℕ) (x : Moment) → over ≡ None
    → moves_while over begun x ≡ moves_begun begun (moves_left x)
going-moves over begun x going = ap (λ o. moves_while o begun x) going

-- a copy that is owed no more was written
copy-wrote : {S : Type 0} (K : SchemeOf S) (s : S) (n : Device) (t : S) (new : Device) → IsAsked K s n t new → new.down ≡ false
    → (K.holding t new).owed + 1 ≤ (K.holding s n).owed → WritesBlock n new (K.dram s) (K.dram t)
copy-wrote K s n t new asked up less = elim asked as (λ _. WritesBlock n new (K.dram s) (K.dram t)) [
  | inl same ↦ absurd (let kept : (K.holding t new).owed ≡ (K.holding s n).owed =
      ap₂ (λ x (d : Device). (K.holding x d).owed) same.0 same.1 in omega (arith, less, kept))
  | inr access ↦ (access.succeeds up).copies less
]

-- the hart that moved got something done
moved-done : {S : Type 0} (K : SchemeOf S) (m : Machine S) (n : Device) (hart lap : ℕ) (last : Option ℕ) (h : HartState) (c : Contents)
    (t : S) (new : Device) → m.hart.epoch.over ≡ None → h.epoch.over ≡ None → IsAsked K m.scheme n t new → new.down ≡ false
    → moves_left (found_by K hart m n) ≤ moves_begun m.begun (moves_left (moment_of K m n))
    → ComesNearer (found_by K hart m n) (moment h c (held_by_scheme K t new))
    → MovesOn (gauge_in K Run m n) (gauge_in K Run (hart_on hart false lap last h c t m) new)
    (WritesBlock n new (K.dram m.scheme) (K.dram t))
moved-done K m n hart lap last h c t new going over asked up fewer nearer =
    let next = hart_on hart false lap last h c t m in
    let was = going-moves m.hart.epoch.over m.begun (moment_of K m n) going in
    let now = going-moves h.epoch.over (Some hart) (moment h c (held_by_scheme K t new)) over in
    let old = moves_left (found_by K hart m n) in
    let most = moves_begun m.begun (moves_left (moment_of K m n)) in
    elim nearer as (λ _. MovesOn (gauge_in K Run m n) (gauge_in K Run next new) (WritesBlock n new (K.dram m.scheme) (K.dram t))) [
      | inl less ↦ inl (omega (arith, was, now, less, fewer))
      | inr same ↦ elim (cases_eq old most)
          as (λ _. MovesOn (gauge_in K Run m n) (gauge_in K Run next new) (WritesBlock n new (K.dram m.scheme) (K.dram t))) [
            | inl all ↦ inr (now ∙ same.0 ∙ all ∙ sym was, same.1, copy-wrote K m.scheme n t new asked up same.1)
            | inr other ↦ inl (omega (arith, was, now, same.0, other, fewer))
          ]
    ]

moves-on : (old new : Gauge) (W : Type 0) → MovesOn old new W → new.moves ≤ old.moves
moves-on old new W on = elim on as (λ _. new.moves ≤ old.moves) [
  | inl less ↦ omega (arith, less)
  | inr same ↦ omega (arith, same.0)
]

-- ---- the lines that are dirty

-- once an instruction has ended nothing is secured
ended-entries : {S : Type 0} (K : SchemeOf S) (m : Machine S) (n : Device) (hart lap : ℕ) (last : Option ℕ) (h : HartState) (c : Contents)
    (t : S) (new : Device) → h.hand ≡ Nothing → dirty_count c ≤ dirty_count m.cache + (secured m.hart.hand - secured h.hand)
    → dirty_count c + K.free m.scheme ≤ dirty_count m.cache + (secured m.hart.hand - secured h.hand) + K.free t
    → UsesEntries (run_view m) (pressure_of K m) (pressure_of K (hart_on hart true lap last h c t m)) (gauge_of K m n)
    (gauge_of K (hart_on hart true lap last h c t m) new)
ended-entries K m n hart lap last h c t new gone tidy room =
    let none : secured h.hand ≡ 0 = ap secured gone in
    record {
      entries = omega (arith, none);
      lines = omega (arith, none, tidy);
      room = λ run. omega (arith, none, room);
      once = λ some. absurd (some refl);
    }

-- what is to be written next lies in the same number of blocks as what the plain machine's instruction stores
blocks-stored : (stored : Span) (e : Effect) (to : Span) (hand : Hand) → IsToWrite stored hand → hand ≡ Securing e to
    → blocks_of to ≡ blocks_in stored
blocks-stored stored e to hand writes is =
    let w : IsToWrite stored (Securing e to) = subst (IsToWrite stored) is writes in
    sym (ap (λ (b : Bool). if b then 0 else blocks_of to) w.1) ∙ ap blocks_in w.0

module _ {S : Type 0} (K : SchemeOf S) (o : Origin) (m : Machine S) (n : Device) (hart lap : ℕ) (last : Option ℕ) (h : HartState)
    (c : Contents) (t : S) (new : Device)
    (tidy : dirty_count c ≤ dirty_count m.cache + (secured m.hart.hand - secured h.hand))
    (room : dirty_count c + K.free m.scheme ≤ dirty_count m.cache + (secured m.hart.hand - secured h.hand) + K.free t)
    (left : (e : Effect) (to : Span) → m.hart.hand ≡ Securing e to → t ≡ m.scheme) where
  -- the machine after a step that has not ended an instruction
  abbrev stepped : Machine S
  stepped = hart_on hart false lap last h c t m

  -- an instruction that goes on
  goes-entries : KeepsEntries m.hart.hand h.hand
      → UsesEntries (run_view m) (pressure_of K m) (pressure_of K stepped) (gauge_of K m n) (gauge_of K stepped new)
  goes-entries kept =
      let less = kept.entries in
      record { entries = omega (arith, less); lines = omega (arith, less, tidy); room = λ run. omega (arith, less, room); once = λ some. kept.once }

  -- an instruction that secures entries is begun
  takes-entries : ((b : ℕ) → m.begun ≡ Some b → b ≡ hart) → (m.begun ≡ None → m.hart.hand ≡ Nothing)
      → IsToWrite (stored_by o (fronted hart (at o m.hart.cpu.count))) m.hart.hand → TakesEntries m.hart.hand h.hand
      → SecuresEntries o (run_view m) (pressure_of K m) (pressure_of K stepped) (gauge_of K m n) (gauge_of K stepped new)
  takes-entries own rests writes taken =
      let zero : secured m.hart.hand ≡ 0 = ap secured taken.was in
      record {
        hart = hart;
        is_begun = begun_is m.begun refl;
        none = omega (arith, zero);
        entries = ap (λ k. dirty_count c + k)
            (ap secured taken.becomes
            ∙ blocks-stored (stored_by o (fronted hart (at o m.hart.cpu.count))) taken.effect taken.span m.hart.hand writes taken.was);
        lines = omega (arith, zero, tidy);
        free = omega (arith, ap K.free (left taken.effect taken.span taken.was));
        had_not = ap has_secured taken.was;
        has = ap has_secured taken.becomes;
      }
    where
      begun_is : (begun : Option ℕ) → m.begun ≡ begun → m.begun ≡ Some hart
      begun_is None is = absurd (let no : Nothing ≡ Securing taken.effect taken.span = sym (rests is) ∙ taken.was in cc)
      begun_is (Some b) is = is ∙ ap Some (own b is)

  -- what a step that moves on makes of them
  moved-dirties : ((b : ℕ) → m.begun ≡ Some b → b ≡ hart) → (m.begun ≡ None → m.hart.hand ≡ Nothing)
      → IsToWrite (stored_by o (fronted hart (at o m.hart.cpu.count))) m.hart.hand → EntriesBy m.hart.hand h.hand
      → Dirties o (run_view m) DidMove (pressure_of K m) (pressure_of K stepped) (gauge_of K m n) (gauge_of K stepped new)
  moved-dirties own rests writes entries =
      elim entries as (λ _. Dirties o (run_view m) DidMove (pressure_of K m) (pressure_of K stepped) (gauge_of K m n) (gauge_of K stepped new)) [
        | inl kept ↦ inl (goes-entries kept)
        | inr taken ↦ inr (refl, takes-entries own rests writes taken)
      ]

-- what the step leaves in hand is to write what it was to write
step-writes : {S : Type 0} (K : SchemeOf S) (o : Origin) (cycles : ℕ) (m : Machine S) (n : Device) (hart : ℕ) (h : HartState) (c : Contents)
    (t : S) (new : Device) (s : HartStep)
    → At K o cycles m n → HartAdvances K o m n hart → HartCall K (given_to K o m) (begun_by_hart hart m) n h c t new s
    → IsToWrite (stored_by o (fronted hart (at o m.hart.cpu.count))) h.hand
step-writes K o cycles m n hart h c t new s at-m turn hs =
    let run = sound-run K o cycles m n at-m.sound turn.goes.phase in
    let begun = is-begun K o m n hart run (is-going K o cycles m n at-m turn.goes).going turn.own in
    subst (λ (x : HartState). IsToWrite (stored_by o (fronted hart (at o m.hart.cpu.count))) x.hand) (sym hs.is_step.hart)
    (hand_writes o (given_to K o m) (found_by K hart m n) (fronted hart (at o m.hart.cpu.count))
    (sym at-m.sound.geometry) refl begun.follows begun.writes)

moved-next : {S : Type 0} (K : SchemeOf S) (o : Origin) (cycles : ℕ) (m : Machine S) (n : Device) (hart : ℕ) (h : HartState) (c : Contents)
    (t : S) (new : Device)
    → At K o cycles m n → HartAdvances K o m n hart → HartCall K (given_to K o m) (begun_by_hart hart m) n h c t new Moved
    → IsMoved (given_to K o m) (dirty_count m.cache) (begun_by_hart hart m).hart h
    → IsNext K o cycles m n hart false (m.lap + 0) m.last DidMove h c t new
moved-next K o cycles m n hart h c t new at-m turn hs mv =
    let w = hs.is_step in
    let run = sound-run K o cycles m n at-m.sound turn.goes.phase in
    let going = is-going K o cycles m n at-m turn.goes in
    let begun = is-begun K o m n hart run going.going turn.own in
    let on = is-on K o cycles m n hart h c t new Moved at-m turn hs in
    let cpu = w.leads.cpu in
    let count : h.cpu.count ≡ m.hart.cpu.count = ap (λ x. x.count) cpu ∙ begun.count in
    let over : h.epoch.over ≡ None = ap (λ (x : Epoch). x.over) mv.epoch ∙ going.going in
    let writes = step-writes K o cycles m n hart h c t new Moved at-m turn hs in
    let done = moved-done K m n hart (m.lap + 0) m.last h c t new going.going over hs.asked on.up begun.moves w.nears in
    let left : (e : Effect) (to : Span) → m.hart.hand ≡ Securing e to → t ≡ m.scheme
    = λ e to is. (hs.untouched (securing-brings (found_by K hart m n) e to is)).0 in
    let f = follows-on (given_to K o m) (found_by K hart m n) (moment h c (held_by_scheme K t new)) Moved (fronted hart (at o m.hart.cpu.count))
    (ap is_running begun.status ∙ run.counted.running ∙ going.runs) w begun.follows in
    record {
      number = ap (λ (x : Epoch). x.number) mv.epoch;
      span = ap (λ (x : Epoch). x.span) mv.epoch;
      retired = subst (λ (x : Epoch). HasRetired x.span x.retired x.over) (sym mv.epoch) run.epoch.retired;
      hand = λ not-none. absurd (not-none over);
      rests = λ ends. absurd (cc);
      ends = λ not-none. absurd (not-none over);
      opened = subst (λ x. OpenNow x (Some hart) c h (K.holding t new).open_page) (sym over) w.ready.opened;
      counted = record {
        start = subst (λ i. o.start.count ≤ i) (sym count) run.counted.start;
        count = subst (λ i. (at o i).count ≡ i) (sym count) run.counted.count;
        processor = ap (λ x. state_with (cpu_fronted hart x) [] []) cpu ∙ ap (λ x. state_with x [] []) begun.processor
            ∙ run.counted.processor ∙ ap (λ i. without_memory (at o i)) (sym count);
        running = ap (λ x. is_running x.status) cpu ∙ ap is_running begun.status ∙ run.counted.running ∙ ap (runs_at o) (sym count);
      };
      follows = subst (λ i. Follows o.input (fronted hart (at o i)) h (memory_of K (hart_on hart false (m.lap + 0) m.last h c t m) new))
          (sym count) f;
      live = λ _. subst (λ i. runs_at o i ≡ true) (sym count) going.runs;
      fresh =
          let old : m.hart.epoch.retired ≡ 0 → IsFresh m.hart.hand (dirty_count m.cache) (K.storeless m.scheme)
          = subst (λ x. StartsFresh x m.hart.epoch.retired m.hart.hand (dirty_count m.cache) (K.storeless m.scheme)) going.going run.paced.fresh in
          let tidy : secured m.hart.hand ≡ 0 → dirty_count c ≤ dirty_count m.cache = λ none. omega (arith, hs.tidy, none) in
          subst (λ x. StartsFresh x h.epoch.retired h.hand (dirty_count c) (K.storeless t)) (sym over)
          (λ zero. mv.fresh (dirty_count m.cache) (dirty_count c) (K.storeless m.scheme) (K.storeless t)
          (old (sym (ap (λ (x : Epoch). x.retired) mv.epoch) ∙ zero)) tidy hs.rests);
      strides = λ idle ends. absurd (ends over);
      writes = subst (λ i. IsToWrite (stored_by o (fronted hart (at o i))) h.hand) (sym count) writes;
      spent = moved-spent K o.geometry m n hart (m.lap + 0) m.last h c t new going.going mv.epoch on.engine
          (on.holds.promotions on.whole) w.owed on.owed_later begun.moves w.nears;
      done = done;
      moves = λ e. moves-on (gauge_in K Run m n) (gauge_in K Run (hart_on hart false (m.lap + 0) m.last h c t m) new)
          (WritesBlock n new (K.dram m.scheme) (K.dram t)) done;
      owed = w.owed;
      step = (turn.goes.phase, going.going, going.runs, inl (view-is m h.epoch m.hart.epoch h.cpu.count m.hart.cpu.count (m.lap + 0) m.lap mv.epoch count (add-zero m.lap)));
      acts = moved-acts K m.scheme n t new hs.asked on.up;
      retires = λ e. absurd (cc);
      exhausts = λ _. over ∙ sym (ap over_by mv.enough);
      dirties = moved-dirties K o m n hart (m.lap + 0) m.last h c t new hs.tidy on.taken left turn.own run.front.rests begun.writes mv.entries;
    }

-- ---- the epoch is exhausted

exhausted-once : {S : Type 0} (K : SchemeOf S) (o : Origin) (cycles : ℕ) (m : Machine S) (n : Device) (d : ℕ) (free dd need : ℕ)
    → At K o cycles m n → HartGoes K o m n → K.under_way m.scheme ≡ false
    → short_of (K.free m.scheme) d m.hart.hand ≡ Some (shortage free dd need)
    → free < dd + need → need ≤ 2 → d ≡ dirty_count m.cache → m.idle ≡ true → 1 ≤ m.hart.epoch.retired
exhausted-once K o cycles m n d free dd need at-m turn way short less few same idle =
    elim (cases_eq m.hart.epoch.retired 0) as (λ _. 1 ≤ m.hart.epoch.retired) [
      | inl zero ↦
          let run = sound-run K o cycles m n at-m.sound turn.phase in
          let going = is-going K o cycles m n at-m turn in
          let old : m.hart.epoch.retired ≡ 0 → IsFresh m.hart.hand (dirty_count m.cache) (K.storeless m.scheme)
          = subst (λ x. StartsFresh x m.hart.epoch.retired m.hart.hand (dirty_count m.cache) (K.storeless m.scheme)) going.going run.paced.fresh in
          let fresh = fresh-short (K.free m.scheme) d m.hart.hand (shortage free dd need) (dirty_count m.cache)
          (K.storeless m.scheme) short (old zero) in
          let is = is-short-of (K.free m.scheme) d m.hart.hand (shortage free dd need) short in
          let room = (holds-run K at-m.lawful o cycles m n at-m.sound turn.phase).room (run.paced.sealed_storeless idle) fresh.1 way in
          omega (arith, room, is.0, is.1, fresh.0, less, few, same)
      | inr some ↦ omega (arith, some)
    ]

over-spent : {S : Type 0} (K : SchemeOf S) (o : Origin) (m : Machine S) (n : Device) (hart lap : ℕ) (last : Option ℕ) (h : HartState)
    (c : Contents) (t : S) (new : Device) (cause : EndCause)
    → m.hart.epoch.over ≡ None → h.epoch.over ≡ Some cause → IsOn K o m n h c t new → (K.holding t new).owed ≤ (K.holding m.scheme n).owed
    → cycles_left K o.geometry (hart_on hart true lap last h c t m) new + 1 ≤ cycles_left K o.geometry m n
over-spent K o m n hart lap last h c t new cause going over on owed =
    let flushes = flushes_most (K.most_merges o.geometry) (dirty_count c) (K.merges_left t) on.holds.bounded.merges in
    omega (arith, left-going K o.geometry m n going, left-over K o.geometry (hart_on hart true lap last h c t m) new cause over, flushes, on.engine, on.holds.promotions on.whole, owed, on.owed_later, on.room, on.holds.bounded.free)

exhausted-next : {S : Type 0} (K : SchemeOf S) (o : Origin) (cycles : ℕ) (m : Machine S) (n : Device) (hart : ℕ) (h : HartState)
    (c : Contents) (t : S) (new : Device) (free dd need : ℕ) → At K o cycles m n → HartAdvances K o m n hart
    → HartCall K (given_to K o m) (begun_by_hart hart m) n h c t new (Over (Exhausted free dd need))
    → IsExhausted (given_to K o m) (dirty_count m.cache) free dd need (begun_by_hart hart m).hart h
    → IsNext K o cycles m n hart true (m.lap + 0) m.last DidMove h c t new
exhausted-next K o cycles m n hart h c t new free dd need at-m turn hs ex =
    let w = hs.is_step in
    let run = sound-run K o cycles m n at-m.sound turn.goes.phase in
    let going = is-going K o cycles m n at-m turn.goes in
    let begun = is-begun K o m n hart run going.going turn.own in
    let on = is-on K o cycles m n hart h c t new (Over (Exhausted free dd need)) at-m turn hs in
    let cpu = w.leads.cpu in
    let count : h.cpu.count ≡ m.hart.cpu.count = ap (λ x. x.count) cpu ∙ begun.count in
    let shown : (cpu_fronted hart h.cpu).count ≡ m.hart.cpu.count = cpu-count hart h.cpu ∙ count in
    let over : h.epoch.over ≡ Some (Exhausted free dd need) = ap (λ (x : Epoch). x.over) ex.epoch in
    let was = going-moves m.hart.epoch.over m.begun (moment_of K m n) going.going in
    let now : moves_while h.epoch.over None (moment_of K (hart_on hart true (m.lap + 0) m.last h c t m) new) ≡ 0 =
    moves_over Run h.epoch.over None (Exhausted free dd need) (moment_of K (hart_on hart true (m.lap + 0) m.last h c t m) new) over in
    let some = short-moves (K.free m.scheme) (dirty_count m.cache) m.hart.hand (shortage free dd need) ex.short in
    let done : MovesOn (gauge_in K Run m n) (gauge_in K Run (hart_on hart true (m.lap + 0) m.last h c t m) new)
    (WritesBlock n new (K.dram m.scheme) (K.dram t)) =
    inl (omega (arith, was, now, some, begun.moves)) in
    let within : m.hart.epoch.retired < m.hart.epoch.span =
    subst (HasRetired m.hart.epoch.span m.hart.epoch.retired) going.going run.epoch.retired in
    let f = follows-on (given_to K o m) (found_by K hart m n) (moment h c (held_by_scheme K t new)) (Over (Exhausted free dd need))
    (fronted hart (at o m.hart.cpu.count))
    (ap is_running begun.status ∙ run.counted.running ∙ going.runs) w begun.follows in
    record {
      number = ap (λ (x : Epoch). x.number) ex.epoch;
      span = ap (λ (x : Epoch). x.span) ex.epoch;
      retired = subst (λ (x : Epoch). HasRetired x.span x.retired x.over) (sym ex.epoch)
          (within, record { short = ex.is_short.short; some = ex.is_short.some; few = ex.is_short.most });
      hand = λ _. w.leads.hand;
      rests = λ _. w.leads.hand;
      ends = λ _. refl;
      opened = subst (λ x. OpenNow x None c h (K.holding t new).open_page) (sym over) (inl w.closed);
      counted = record {
        start = subst (λ i. o.start.count ≤ i) (sym shown) run.counted.start;
        count = subst (λ i. (at o i).count ≡ i) (sym shown) run.counted.count;
        processor = ap (λ x. state_with (cpu_fronted hart x) [] []) cpu ∙ ap (λ x. state_with x [] []) begun.processor
            ∙ run.counted.processor ∙ ap (λ i. without_memory (at o i)) (sym shown);
        running = ap is_running (cpu-status hart h.cpu) ∙ ap (λ x. is_running x.status) cpu ∙ ap is_running begun.status
            ∙ run.counted.running ∙ ap (runs_at o) (sym shown);
      };
      follows = subst (λ i. Follows o.input (fronted hart (at o i)) h (memory_of K (hart_on hart true (m.lap + 0) m.last h c t m) new))
          (sym count) f;
      live = λ none. absurd (cc);
      fresh = subst (λ x. StartsFresh x h.epoch.retired h.hand (dirty_count c) (K.storeless t)) (sym over)
          (λ zero.
          let old : m.hart.epoch.retired ≡ 0 → IsFresh m.hart.hand (dirty_count m.cache) (K.storeless m.scheme)
          = subst (λ x. StartsFresh x m.hart.epoch.retired m.hart.hand (dirty_count m.cache) (K.storeless m.scheme)) going.going run.paced.fresh in
          let was = old (sym (ap (λ (x : Epoch). x.retired) ex.epoch) ∙ zero) in
          let clean = fresh-short (K.free m.scheme) (dirty_count m.cache) m.hart.hand (shortage free dd need) (dirty_count m.cache)
          (K.storeless m.scheme) ex.short was in
          let unsecured = short-secured (K.free m.scheme) (dirty_count m.cache) m.hart.hand (shortage free dd need) ex.short in
          let tidy = hs.tidy in
          (omega (arith, tidy, unsecured, clean.0), hs.rests clean.0 ∙ clean.1));
      strides = λ idle ends.
          (let some = exhausted-once K o cycles m n
          (dirty_count m.cache) free dd need at-m turn.goes ex.idle ex.short ex.is_short.short ex.is_short.most refl idle in
          omega (arith, some, ap (λ (x : Epoch). x.retired) ex.epoch));
      writes = writes_nothing (stored_by o (fronted hart (at o h.cpu.count))) h.hand w.leads.hand;
      spent = over-spent K o m n hart (m.lap + 0) m.last h c t new (Exhausted free dd need) going.going over on w.owed;
      done = done;
      moves = λ e. moves-on (gauge_in K Run m n) (gauge_in K Run (hart_on hart true (m.lap + 0) m.last h c t m) new)
          (WritesBlock n new (K.dram m.scheme) (K.dram t)) done;
      owed = w.owed;
      step = (turn.goes.phase, going.going, going.runs, inr (free, dd, need, ex.is_short, view-is m h.epoch (exhausted free dd need m.hart.epoch) (cpu_fronted hart h.cpu).count m.hart.cpu.count (m.lap + 0) m.lap ex.epoch shown (add-zero m.lap)));
      acts = moved-acts K m.scheme n t new hs.asked on.up;
      retires = λ e. absurd (cc);
      exhausts = λ _. over ∙ sym (ap over_by ex.short);
      dirties = inl (ended-entries K m n hart (m.lap + 0) m.last h c t new w.leads.hand hs.tidy on.taken);
    }

-- ---- an instruction retires, of the hart whose turn it is

runs-on : (running : Bool) (span retired : ℕ) → over_after running span retired ≡ None → running ≡ true
runs-on true span retired e = refl
runs-on false span retired e = absurd (cc)

over-same : (o : Origin) (running : Bool) (span retired now : ℕ) → running ≡ runs_at o now → span ≡ o.geometry.epoch
    → over_after running span retired ≡ over_at o retired now
over-same o running span retired now runs same =
    ap (λ b. over_after b span retired) runs ∙ ap (λ x. over_after (runs_at o now) x retired) same

fresh-retired : (over : Option EndCause) (retired : ℕ) (h : Hand) (d : ℕ) (r : Bool) → 1 ≤ retired → StartsFresh over retired h d r
fresh-retired None retired h d r some = λ zero. absurd (omega (arith, some, zero))
fresh-retired (Some cause) retired h d r some = λ zero. absurd (omega (arith, some, zero))

opened-retired : (over : Option EndCause) (c : Contents) (h : HartState) (page : Option ℕ) → page ≡ None → OpenNow over None c h page
opened-retired None c h page closed = closed
opened-retired (Some cause) c h page closed = inl closed

retired-next : {S : Type 0} (K : SchemeOf S) (o : Origin) (cycles : ℕ) (m : Machine S) (n : Device) (hart : ℕ) (h : HartState)
    (c : Contents) (t : S) (new : Device) (s : HartStep) (over : Option EndCause)
    → At K o cycles m n → HartAdvances K o m n hart → HartCall K (given_to K o m) (begun_by_hart hart m) n h c t new s
    → IsRetired (brings_line (found_by K hart m n)) (begun_by_hart hart m).hart h over
    → HasCome o.input (begun_by_hart hart m).hart (memory_of K m n) h (memory_of K (hart_on hart true (m.lap + 1) (Some hart) h c t m) new)
    → (K.holding t new).open_page ≡ None
    → Follows o.input (step (setting_for m.hart.geometry o.input) (fronted hart (at o m.hart.cpu.count))) h
    (memory_of K (hart_on hart true (m.lap + 1) (Some hart) h c t m) new)
    → turn_at o m.hart.cpu.count ≡ hart → IsNext K o cycles m n hart true (m.lap + 1) (Some hart) (DidRetire hart) h c t new
retired-next K o cycles m n hart h c t new s over at-m turn hs rt come closed f mine =
    let w = hs.is_step in
    let run = sound-run K o cycles m n at-m.sound turn.goes.phase in
    let going = is-going K o cycles m n at-m turn.goes in
    let begun = is-begun K o m n hart run going.going turn.own in
    let on = is-on K o cycles m n hart h c t new s at-m turn hs in
    let k = m.hart.cpu.count in
    let memory = memory_of K (hart_on hart true (m.lap + 1) (Some hart) h c t m) new in
    let next : step (setting_for m.hart.geometry o.input) (fronted hart (at o k)) ≡ fronted hart (at o (k + 1))
    = ap (λ (p : Parameters). step (setting_for p o.input) (fronted hart (at o k))) at-m.sound.geometry
    ∙ sym (at-hart o k hart run.counted.start mine) in
    let is : current h memory ≡ fronted hart (at o (k + 1)) =
    come.current ∙ begun.follows.coming (ap is_running begun.status ∙ run.counted.running ∙ going.runs) ∙ next in
    let count-at : (at o (k + 1)).count ≡ k + 1 = at-count o k hart run.counted.start mine run.counted.count going.runs in
    let count : h.cpu.count ≡ k + 1 = sym (count-current h memory) ∙ ap (λ x. x.count) is ∙ count-fronted hart (at o (k + 1)) ∙ count-at in
    let shown : (cpu_fronted hart h.cpu).count ≡ k + 1 = cpu-count hart h.cpu ∙ count in
    let running : is_running h.cpu.status ≡ runs_at o (k + 1) = ap is_running (sym (status-current h memory))
    ∙ ap (λ x. is_running x.status) is ∙ ap is_running (status-fronted hart (at o (k + 1))) in
    let within : m.hart.epoch.retired < m.hart.epoch.span =
    subst (HasRetired m.hart.epoch.span m.hart.epoch.retired) going.going run.epoch.retired in
    let has : HasRetired h.epoch.span h.epoch.retired h.epoch.over
    = subst (λ (x : Epoch). HasRetired x.span x.retired x.over) (sym rt.epoch)
    (retired-on (is_running h.cpu.status) m.hart.epoch.span m.hart.epoch.retired within) in
    let over-after : h.epoch.over ≡ over_after (is_running h.cpu.status) m.hart.epoch.span (m.hart.epoch.retired + 1) =
    ap (λ (x : Epoch). x.over) rt.epoch in
    record {
      number = ap (λ (x : Epoch). x.number) rt.epoch;
      span = ap (λ (x : Epoch). x.span) rt.epoch;
      retired = has;
      hand = λ _. come.hand;
      rests = λ _. come.hand;
      ends = λ _. refl;
      opened = opened-retired h.epoch.over c h (K.holding t new).open_page closed;
      counted = record {
        start = omega (arith, run.counted.start, shown);
        count = subst (λ x. (at o x).count ≡ x) (sym shown) count-at;
        processor = processor-fronted hart h memory (at o (k + 1)) is ∙ ap (λ x. without_memory (at o x)) (sym shown);
        running = ap is_running (cpu-status hart h.cpu) ∙ running ∙ ap (runs_at o) (sym shown);
      };
      follows = subst (λ x. Follows o.input (fronted hart (at o x)) h memory) (sym count) (subst (λ x. Follows o.input x h memory) next f);
      live = λ none. ap (runs_at o) count ∙ sym running
          ∙ runs-on (is_running h.cpu.status) m.hart.epoch.span (m.hart.epoch.retired + 1) (sym over-after ∙ none);
      fresh = fresh-retired h.epoch.over h.epoch.retired h.hand (dirty_count c) (K.storeless t)
          (omega (arith, ap (λ (x : Epoch). x.retired) rt.epoch));
      strides = λ idle ends. omega (arith, ap (λ (x : Epoch). x.retired) rt.epoch);
      writes = subst (IsToWrite (stored_by o (fronted hart (at o h.cpu.count)))) (sym come.hand) tt;
      spent = retired-spent over rt has going.going on w.owed;
      done = tt;
      moves = λ e. absurd (cc);
      owed = w.owed;
      step = record {
        turn = mine;
        phase = turn.goes.phase;
        over = going.going;
        runs = going.runs;
        becomes =
            view-is m h.epoch (retired_once (is_running h.cpu.status) m.hart.epoch) (cpu_fronted hart h.cpu).count (k + 1) (m.lap + 1)
            (m.lap + 1) rt.epoch shown refl
            ∙ ap (λ x. record (busier (run_view m)) { count = k + 1; retired = m.hart.epoch.retired + 1; lap = m.lap + 1; over = x })
            (over-same o (is_running h.cpu.status) m.hart.epoch.span (m.hart.epoch.retired + 1) (k + 1) running run.epoch.span);
      };
      acts = record { action = Rest; asked = refl; left = (hs.untouched rt.touches).1 };
      retires = λ _. ap K.dram (hs.untouched rt.touches).0;
      exhausts = λ e. absurd (cc);
      dirties = inl (ended-entries K m n hart (m.lap + 1) (Some hart) h c t new come.hand hs.tidy on.taken);
    }
  where
    retired-spent : (over : Option EndCause) → IsRetired (brings_line (found_by K hart m n)) (begun_by_hart hart m).hart h over
        → HasRetired h.epoch.span h.epoch.retired h.epoch.over
        → m.hart.epoch.over ≡ None → IsOn K o m n h c t new → (K.holding t new).owed ≤ (K.holding m.scheme n).owed
        → cycles_left K o.geometry (hart_on hart true (m.lap + 1) (Some hart) h c t m) new + 1 ≤ cycles_left K o.geometry m n
    retired-spent None rt has going on owed =
        let less : h.epoch.retired < h.epoch.span = subst (HasRetired h.epoch.span h.epoch.retired) rt.over_is has in
        let i = instructions-retired m.begun None (moment_of K m n) (moment_of K (hart_on hart true (m.lap + 1) (Some hart) h c t m) new)
        (is_running h.cpu.status) rt.epoch
        (omega (arith, less, ap (λ (x : Epoch). x.retired) rt.epoch, ap (λ (x : Epoch). x.span) rt.epoch)) in
        omega (arith, left-going K o.geometry m n going, left-going K o.geometry (hart_on hart true (m.lap + 1) (Some hart) h c t m) new rt.over_is, on.engine, on.holds.promotions on.whole, owed, on.owed_later, i)
    retired-spent (Some cause) rt has going on owed = over-spent K o m n hart (m.lap + 1) (Some hart) h c t new cause going rt.over_is on owed

-- ---- by the answer

stated-step : {S : Type 0} (K : SchemeOf S) (g : Given) (m : Machine S) (n : Device) (h : HartState) (c : Contents) (t : S)
    (new : Device) (s : HartStep)
    → HartCall K g m n h c t new s → Stated s (brings_line (moment_of K m n)) g (dirty_count m.cache) m.hart h
stated-step K g m n h c t new s hs =
    let old = moment_of K m n in
    subst (λ x. Stated x (brings_line old) g (dirty_count m.cache) m.hart h) (sym hs.is_step.says)
    (subst (Stated (answer_to g old) (brings_line old) g (dirty_count m.cache) m.hart) (sym hs.is_step.hart) (stated g old))

follows-step : {S : Type 0} (K : SchemeOf S) (o : Origin) (cycles : ℕ) (m : Machine S) (n : Device) (hart : ℕ) (h : HartState)
    (c : Contents) (t : S) (new : Device) (s : HartStep)
    → At K o cycles m n → HartAdvances K o m n hart → HartCall K (given_to K o m) (begun_by_hart hart m) n h c t new s
    → Follows o.input (state_after s (fronted hart (at o m.hart.cpu.count)) (step (setting_for m.hart.geometry o.input)
    (fronted hart (at o m.hart.cpu.count)))) h (memory_of K (hart_on hart true (m.lap + 1) (Some hart) h c t m) new)
follows-step K o cycles m n hart h c t new s at-m turn hs =
    let run = sound-run K o cycles m n at-m.sound turn.goes.phase in
    let going = is-going K o cycles m n at-m turn.goes in
    let begun = is-begun K o m n hart run going.going turn.own in
    follows-on (given_to K o m) (found_by K hart m n) (moment h c (held_by_scheme K t new)) s (fronted hart (at o m.hart.cpu.count))
    (ap is_running begun.status ∙ run.counted.running ∙ going.runs) hs.is_step begun.follows

no-wait : {S : Type 0} (K : SchemeOf S) (o : Origin) (cycles : ℕ) (m : Machine S) (n : Device) (hart : ℕ) → At K o cycles m n
    → HartGoes K o m n → IsWaiting (given_to K o m) (dirty_count m.cache) (begun_by_hart hart m).hart → ⊥
no-wait K o cycles m n hart at-m turn wait =
    let going = is-going K o cycles m n at-m turn in
    let no : is_some (short_of (K.free m.scheme) (dirty_count m.cache) m.hart.hand) ≡ false = ap is_some (going.enough wait.way) in
    let yes = wait.short in
    cc

-- the turn at the view's count is that at the hart's
turn-here : {S : Type 0} (K : SchemeOf S) (o : Origin) (m : Machine S) (n : Device) (hart : ℕ) → m.phase ≡ Run
    → turn_at o (view_of K o m n).count ≡ hart → turn_at o m.hart.cpu.count ≡ hart
turn-here K o m n hart phase mine = subst (λ (v : View). turn_at o v.count ≡ hart) (view-run K o m n phase) mine

pub hart-simulates : {S : Type 0} (K : SchemeOf S) → HartSimulates K
hart-simulates {S} K o cycles m n hart h c t new Moved at-m turn hs mine =
    simulates-next K o cycles m n hart false (m.lap + 0) m.last DidMove h c t new Moved at-m turn hs (inl refl)
    (moved-next K o cycles m n hart h c t new at-m turn hs (stated-step K (given_to K o m) (begun_by_hart hart m) n h c t new Moved hs))
hart-simulates {S} K o cycles m n hart h c t new Retired at-m turn hs mine =
    simulates-next K o cycles m n hart true (m.lap + 1) (Some hart) (DidRetire hart) h c t new Retired at-m turn hs (inr refl)
    (retired-next K o cycles m n hart h c t new Retired None at-m turn hs
    (stated-step K (given_to K o m) (begun_by_hart hart m) n h c t new Retired hs)
    hs.is_step.leads hs.is_step.closed (follows-step K o cycles m n hart h c t new Retired at-m turn hs)
    (turn-here K o m n hart turn.goes.phase mine))
hart-simulates {S} K o cycles m n hart h c t new Waiting at-m turn hs mine =
    absurd (no-wait K o cycles m n hart at-m turn.goes (stated-step K (given_to K o m) (begun_by_hart hart m) n h c t new Waiting hs))
hart-simulates {S} K o cycles m n hart h c t new (Over Length) at-m turn hs mine =
    simulates-next K o cycles m n hart true (m.lap + 1) (Some hart) (DidRetire hart) h c t new (Over Length) at-m turn hs (inr refl)
    (retired-next K o cycles m n hart h c t new (Over Length) (Some Length) at-m turn hs
    (stated-step K (given_to K o m) (begun_by_hart hart m) n h c t new (Over Length) hs)
    hs.is_step.leads hs.is_step.closed (follows-step K o cycles m n hart h c t new (Over Length) at-m turn hs)
    (turn-here K o m n hart turn.goes.phase mine))
hart-simulates {S} K o cycles m n hart h c t new (Over (Exhausted free dd need)) at-m turn hs mine =
    simulates-next K o cycles m n hart true (m.lap + 0) m.last DidMove h c t new (Over (Exhausted free dd need)) at-m turn hs (inl refl)
    (exhausted-next K o cycles m n hart h c t new free dd need at-m turn hs
    (stated-step K (given_to K o m) (begun_by_hart hart m) n h c t new (Over (Exhausted free dd need)) hs))
hart-simulates {S} K o cycles m n hart h c t new (Over Ended) at-m turn hs mine =
    simulates-next K o cycles m n hart true (m.lap + 1) (Some hart) (DidRetire hart) h c t new (Over Ended) at-m turn hs (inr refl)
    (retired-next K o cycles m n hart h c t new (Over Ended) (Some Ended) at-m turn hs
    (stated-step K (given_to K o m) (begun_by_hart hart m) n h c t new (Over Ended) hs)
    hs.is_step.leads hs.is_step.closed (follows-step K o cycles m n hart h c t new (Over Ended) at-m turn hs)
    (turn-here K o m n hart turn.goes.phase mine))

-- ---- whose instruction is begun then

-- by the hand that a hart's step left in hand, and what it was short of
hands-by : {S : Type 0} (K : SchemeOf S) (o : Origin) (cycles : ℕ) (m : Machine S) (n : Device) (hart : ℕ) (h : HartState) (c : Contents)
    (t : S) (new : Device) (s : HartStep) → At K o cycles m n → HartAdvances K o m n hart
    → Stated s (brings_line (found_by K hart m n)) (given_to K o m) (dirty_count m.cache) (begun_by_hart hart m).hart h
    → HandsOn (Advances hart) (hart_did hart s) (pressure_of K m) (pressure_of K (after_hart hart s h c t m))
hands-by K o cycles m n hart h c t new Moved at-m turn mv =
    record { begun_is = ap (λ x. begun_by x hart) (sym mv.enough); last_is = refl }
hands-by K o cycles m n hart h c t new Retired at-m turn rt = record { begun_is = refl; last_is = refl }
hands-by K o cycles m n hart h c t new Waiting at-m turn wait = absurd (no-wait K o cycles m n hart at-m turn.goes wait)
hands-by K o cycles m n hart h c t new (Over Length) at-m turn rt = record { begun_is = refl; last_is = refl }
hands-by K o cycles m n hart h c t new (Over (Exhausted free dd need)) at-m turn ex =
    record { begun_is = ap (λ x. begun_by x hart) (sym ex.short); last_is = refl }
hands-by K o cycles m n hart h c t new (Over Ended) at-m turn rt = record { begun_is = refl; last_is = refl }

pub hart-hands-on : {S : Type 0} (K : SchemeOf S) → HartHandsOn K
hart-hands-on K o cycles m n hart h c t new s at-m turn hs =
    hands-by K o cycles m n hart h c t new s at-m turn
    (stated-step K (given_to K o m) (begun_by_hart hart m) n h c t new s hs)
