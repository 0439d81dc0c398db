-- While a machine is calm each pick is a hart's, and it stays calm until a line is brought or the epoch is over.
use Rattle.std.proofs.Common.{◌≡◌, ℕ, ◌==◌, ◌&&◌, ◌||◌, not, Bool, true, false, if◌then◌else◌, Option, Some, None, is_some, is_none, Result, Ok, Err, refl, sym, ◌∙◌, ap, subst, inl, inr}
use Rattle.std.proofs.lemmas.Bool.{and_parts, and_from, eqb-true}
use Rattle.thy_block.specs.declared.cause.EndCause.{EndCause}
use Rattle.thy_block.specs.declared.mix.Pick.{Pick}
use Rattle.thy_block.specs.declared.mix.Pick.TheVariants.{Hart, Second, Engine, NvmDrain, DramDrain}
use Rattle.thy_block.specs.declared.nvm.NvmError.{NvmError}
use Rattle.thy_block.specs.Device.{Device}
use Rattle.thy_block.proofs.BasicLemmas.{not_some}
use Rattle.thy_cache.specs.Contents.{Contents, dirty_count}
use Rattle.thy_hart.specs.Epoch.{Epoch}
use Rattle.thy_hart.specs.declared.hand.HartStep.{HartStep}
use Rattle.thy_hart.specs.declared.hand.HartStep.TheVariants.{Moved, Retired, Waiting, Over}
use Rattle.thy_hart.specs.HartState.{HartState}
use Rattle.thy_hart.specs.Moments.{Moment, moment, brings_line}
use Rattle.thy_hart.specs.OneStep.{IsStep, answer_to}
use Rattle.thy_hart.specs.Outcomes.{Given}
use Rattle.thy_computer.specs.declared.did.Did.{Did}
use Rattle.thy_computer.specs.declared.did.Stall.{Stall}
use Rattle.thy_computer.specs.declared.did.Stall.TheVariants.{Sealing, Waiting as IsWaiting}
use Rattle.thy_computer.specs.declared.view.Phase.{Phase}
use Rattle.thy_computer.specs.declared.view.Phase.TheVariants.{Boot, Run, Halt}
use Rattle.thy_computer.specs.NextActor.{Nvm, Dram, Checkpoint, Advances, advancing}
use Rattle.thy_computer.specs.Views.{is_halt}
use Rattle.thy_scheme.specs.declared.scheme_store.SchemeStore.{SchemeStore}
use Rattle.thy_scheme.specs.SchemeStore.{held_by_scheme}
use Rattle.thy_scheme.specs.Scheme.{SchemeOf}
use Rattle.thy_core.specs.declared.parts.MachineParts.{MachineParts}
use Rattle.thy_core.specs.MachineParts.{machine_of}
use Rattle.thy_core.specs.Turns.{stopped_now, waits_now, stall_now, hart_of, hart_now, engine_now, actor_now}
use Rattle.thy_core.specs.Calm.{is_calm, KnowsCalm, is_over}
use Rattle.thy_core.specs.Cycles.{noted}
use Rattle.thy_scheme.specs.Machine.{Machine, moment_of, shortage_of}
use Rattle.thy_scheme.specs.MachineCalls.{ends_by, begun_by_hart, after_hart}
use Rattle.thy_scheme.proofs.StatedLemmas.{Stated, stated}
use Rattle.thy_core.proofs.CycleLaws.{CalledOnce}

-- ---- what is known of a calm machine

pub is_false : (b : Bool) → not b ≡ true → b ≡ false
is_false true e = absurd (cc)
is_false false e = refl

none_by : {A : Type 0} (x : Option A) → is_none x ≡ true → x ≡ None
none_by None e = refl
none_by (Some a) e = absurd (cc)

-- nothing is left to be done before a seal, if nothing keeps the hart and no checkpoint is under way
nothing_left : (waits over promoting : Bool) → waits ≡ false
    → (if waits then Some IsWaiting else (if over || promoting then Some Sealing else None)) ≡ None → (over ≡ false) × (promoting ≡ false)
nothing_left true over promoting w e = absurd (cc)
nothing_left false true promoting w e = absurd (cc)
nothing_left false false true w e = absurd (cc)
nothing_left false false false w e = (refl, refl)

pub record IsCalm {S : Type 0} (K : SchemeOf S) (m : Machine S) : Type 0 where
  pub idle : K.under_way m.scheme ≡ false
  pub settled : K.queued m.scheme ≡ 0
  pub free : stall_now K m.phase m ≡ None

pub calm_parts : {S : Type 0} (K : SchemeOf S) (m : Machine S) → is_calm K m ≡ true → IsCalm K m
calm_parts K m e =
    let first = and_parts (not (K.under_way m.scheme)) (K.queued m.scheme == 0 && is_none (stall_now K m.phase m)) e in
    let second = and_parts (K.queued m.scheme == 0) (is_none (stall_now K m.phase m)) first.1 in
    record {
      idle = is_false (K.under_way m.scheme) first.0;
      settled = eqb-true (K.queued m.scheme) 0 second.0;
      free = none_by (stall_now K m.phase m) second.1;
    }

-- nothing waits for a checkpoint if none is under way
waits_not : {S : Type 0} (K : SchemeOf S) (m : Machine S) → K.under_way m.scheme ≡ false → waits_now K m ≡ false
waits_not K m idle = ap (λ (way : Bool). way && (not K.overlaps || is_some m.hart.epoch.over || is_some (shortage_of K m) || stopped_now K m)) idle

-- if nothing stalls the hart, the machine executes
runs : {S : Type 0} (K : SchemeOf S) (m : Machine S) (phase : Phase) → stall_now K phase m ≡ None → phase ≡ Run
runs K m Boot e = absurd (cc)
runs K m Run e = refl
runs K m Halt e = absurd (cc)

-- the epoch goes on, and nothing is promoted
goes_on : {S : Type 0} (K : SchemeOf S) (m : Machine S) → IsCalm K m → (is_some m.hart.epoch.over ≡ false) × (K.promoting m.scheme ≡ false)
goes_on K m calm =
    nothing_left (waits_now K m) (is_some m.hart.epoch.over) (K.promoting m.scheme) (waits_not K m calm.idle)
    (ap (λ (phase : Phase). stall_now K phase m) (sym (runs K m m.phase calm.free)) ∙ calm.free)

-- a calm machine executes, and its epoch goes on
pub calm_runs : {S : Type 0} (K : SchemeOf S) (m : Machine S) → is_calm K m ≡ true → m.phase ≡ Run
calm_runs K m calm = runs K m m.phase (calm_parts K m calm).free

pub calm_over : {S : Type 0} (K : SchemeOf S) (m : Machine S) → is_calm K m ≡ true → m.hart.epoch.over ≡ None
calm_over K m calm = not_some m.hart.epoch.over (goes_on K m (calm_parts K m calm)).0

-- ---- whose turn a pick is then

module _ {S : Type 0} (K : SchemeOf S) (m : Machine S) (calm : is_calm K m ≡ true) where
  calm_hart : (pick : Pick) → hart_now K pick m ≡ Advances (hart_of K pick m)
  calm_hart pick = ap (λ (stall : Option Stall). advancing stall (hart_of K pick m)) (calm_parts K m calm).free

  calm_engine : (phase : Phase) → engine_now K Engine phase m ≡ Advances (hart_of K Engine m)
  calm_engine Boot = calm_hart Engine
  calm_engine Halt = calm_hart Engine
  calm_engine Run = ap (λ (way : Bool). if way then Checkpoint else hart_now K Engine m) (calm_parts K m calm).idle ∙ calm_hart Engine

  -- while no write is queued in the NVM, a hart advances at every pick
  pub calm_turn : (pick : Pick) (nvm : ℕ) → nvm ≡ 0 → actor_now K pick nvm m ≡ Advances (hart_of K pick m)
  calm_turn Hart nvm empty = calm_hart Hart
  calm_turn Second nvm empty = calm_hart Second
  calm_turn Engine nvm empty = calm_engine m.phase
  calm_turn NvmDrain nvm empty = ap (λ (queued : ℕ). if queued == 0 then hart_now K NvmDrain m else Nvm) empty ∙ calm_hart NvmDrain
  calm_turn DramDrain nvm empty =
      ap (λ (queued : ℕ). if queued == 0 then hart_now K DramDrain m else Dram) (calm_parts K m calm).settled ∙ calm_hart DramDrain

-- ---- how long it stays so

-- while the scheme is left alone and the epoch goes on
pub calm_on : {S : Type 0} (K : SchemeOf S) (m next : Machine S) → IsCalm K m → next.scheme ≡ m.scheme → next.phase ≡ m.phase
    → next.hart.epoch.over ≡ None
    → is_calm K next ≡ true
calm_on K m next calm scheme phase none =
    let idle : K.under_way next.scheme ≡ false = ap K.under_way scheme ∙ calm.idle in
    let settled : K.queued next.scheme ≡ 0 = ap K.queued scheme ∙ calm.settled in
    let whole : K.promoting next.scheme ≡ false = ap K.promoting scheme ∙ (goes_on K m calm).1 in
    let free : stall_now K next.phase next ≡ None =
    ap (λ (p : Phase). stall_now K p next) (phase ∙ runs K m m.phase calm.free)
    ∙ ap (λ (waits : Bool). if waits then Some IsWaiting else (if is_some next.hart.epoch.over || K.promoting next.scheme then Some Sealing else None)) (waits_not K next idle)
    ∙ ap (λ (over : Option EndCause). if is_some over || K.promoting next.scheme then Some Sealing else None) none
    ∙ ap (λ (promoting : Bool). if promoting then Some Sealing else None) whole in
    and_from (not (K.under_way next.scheme)) (K.queued next.scheme == 0 && is_none (stall_now K next.phase next)) (ap not idle)
    (and_from (K.queued next.scheme == 0) (is_none (stall_now K next.phase next)) (ap (λ (queued : ℕ). queued == 0) settled)
    (ap (λ (stall : Option Stall). is_none stall) free))

-- a step that does not end the epoch leaves it going on; it waits only for a checkpoint that is under way
still : (step : HartStep) (b : Bool) (g : Given) (dirty : ℕ) (old new : HartState) → Stated step b g dirty old new → is_over step ≡ false
    → g.under_way ≡ false → old.epoch.over ≡ None → new.epoch.over ≡ None
still Moved b g dirty old new t e idle none = ap (λ (x : Epoch). x.over) t.epoch ∙ none
still Retired b g dirty old new t e idle none = t.over_is
still Waiting b g dirty old new t e idle none = absurd (let way = t.way in cc)
still (Over cause) b g dirty old new t e idle none = absurd (cc)

pub goes_after : (g : Given) (old new : Moment) (step : HartStep) → IsStep g old new step → is_over step ≡ false → g.under_way ≡ false
    → old.hart.epoch.over ≡ None
    → new.hart.epoch.over ≡ None
goes_after g old new step s goes idle none =
    let stated_by : Stated step (brings_line old) g (dirty_count old.cache) old.hart new.hart =
    subst (λ (x : HartStep). Stated x (brings_line old) g (dirty_count old.cache) old.hart new.hart) (sym s.says)
    (subst (Stated (answer_to g old) (brings_line old) g (dirty_count old.cache) old.hart) (sym s.hart) (stated g old)) in
    still step (brings_line old) g (dirty_count old.cache) old.hart new.hart stated_by goes idle none

-- a store that is still marked as calm was not asked for anything
once_kept : {S N : Type 0} (K : SchemeOf S) (device : N → Device) (a b : SchemeStore S) (x y : N) → CalledOnce K device a x b y
    → b.calm ≡ true → b ≡ a
once_kept K device a b x y (inl same) marked = same.0
once_kept K device a b x y (inr once) marked = absurd (let un = once.unmarked in cc)

-- a machine that is marked as calm after a step of a hart is calm
pub calm_kept : {S N : Type 0} (K : SchemeOf S) (device : N → Device) (p begun next : MachineParts S) (b : SchemeStore S) (x y : N)
    (hart : ℕ) (step : HartStep) (h : HartState) (c : Contents) (g : Given)
    → KnowsCalm K p → machine_of begun ≡ begun_by_hart hart (machine_of p) → begun.store ≡ p.store → CalledOnce K device begun.store x b y
    → IsStep g (moment_of K (machine_of begun) (device x)) (moment h c (held_by_scheme K b.scheme (device y))) step
    → g.under_way ≡ K.under_way begun.store.scheme
    → machine_of next ≡ after_hart hart step h c b.scheme (machine_of begun) → next.store.calm ≡ (not (is_over step) && b.calm)
    → KnowsCalm K next
calm_kept {S = S} K device p begun next b x y hart step h c g known parts store once is_step way is noted_calm = λ marked.
    let m = machine_of p in
    let old = moment_of K (machine_of begun) (device x) in
    let both = and_parts (not (is_over step)) b.calm (sym noted_calm ∙ marked) in
    let kept : b ≡ p.store = once_kept K device begun.store b x y once both.1 ∙ store in
    let calm : IsCalm K m = calm_parts K m (known (ap (λ (s : SchemeStore S). s.calm) (sym kept) ∙ both.1)) in
    let none : m.hart.epoch.over ≡ None = not_some m.hart.epoch.over (goes_on K m calm).0 in
    let over : h.epoch.over ≡ None =
    goes_after g old (moment h c (held_by_scheme K b.scheme (device y))) step is_step (is_false (is_over step) both.0)
    (way ∙ ap (λ (s : SchemeStore S). K.under_way s.scheme) store ∙ calm.idle)
    (ap (λ (n : Machine S). n.hart.epoch.over) parts ∙ none) in
    calm_on K m (machine_of next) calm
    (ap (λ (n : Machine S). n.scheme) is ∙ ap (λ (s : SchemeStore S). s.scheme) kept)
    (ap (λ (n : Machine S). n.phase) is ∙ ap (λ (n : Machine S). n.phase) parts)
    (ap (λ (n : Machine S). n.hart.epoch.over) is ∙ over)

-- a step after which its instruction goes on does not end the epoch
pub moves_on : (step : HartStep) (calm : Bool) → ends_by step ≡ false → calm ≡ (not (is_over step) && calm)
moves_on Moved calm e = refl
moves_on Retired calm e = refl
moves_on Waiting calm e = refl
moves_on (Over cause) calm e = absurd (cc)

-- ---- what is noted of a cycle

module _ {S : Type 0} (K : SchemeOf S) where
  stall_noted : (m : Machine S) (phase : Phase) → stall_now K phase (record m { failed = true }) ≡ stall_now K phase m
  stall_noted m Boot = refl
  stall_noted m Run = refl
  stall_noted m Halt = refl

  calm_noted : (taken : Result Did NvmError) (m : Machine S) → is_calm K (noted taken m) ≡ is_calm K m
  calm_noted (Ok did) m = refl
  calm_noted (Err e) m = ap (λ (stall : Option Stall). not (K.under_way m.scheme) && (K.queued m.scheme == 0 && is_none stall))
      (stall_noted m m.phase)

  pub knows_noted : (p next : MachineParts S) (taken : Result Did NvmError) → KnowsCalm K p → next.store ≡ p.store
      → machine_of next ≡ noted taken (machine_of p) → KnowsCalm K next
  knows_noted p next taken known store is = λ marked.
      ap (is_calm K) is ∙ calm_noted taken (machine_of p) ∙ known (ap (λ (s : SchemeStore S). s.calm) (sym store) ∙ marked)

  -- a machine that is not marked as calm need not be calm
  pub knows_nothing : (p : MachineParts S) → p.store.calm ≡ false → KnowsCalm K p
  knows_nothing p unmarked = λ marked. absurd (cc)

-- a hart that runs does not halt
pub not_halted : (before behind : Phase) → before ≡ Run → behind ≡ before → false ≡ (not (is_halt before) && is_halt behind)
not_halted before behind run same = ap (λ (p : Phase). not (is_halt p) && is_halt p) (sym run)
    ∙ ap (λ (p : Phase). not (is_halt before) && is_halt p) (sym same)
