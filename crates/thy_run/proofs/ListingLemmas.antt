-- The turns that the loop lists are the turns of the instructions since the latest seal.
use Rattle.std.proofs.Common.{◌≡◌, ◌⊎◌, ℕ, ◌+◌, ◌-◌, ◌<◌, ◌≤◌, ◌==◌, Bool, true, false, if◌then◌else◌, List, [], ◌∷◌, ◌++◌, length, drop, Option, None, refl, sym, ◌∙◌, ap, subst, inl, inr, arith}
use Rattle.std.proofs.lemmas.List.{length-append, length-drop, drop_all, drop-append-le, nil_from_length}
use Rattle.thy_block.specs.declared.cause.EndCause.{EndCause}
use Rattle.thy_block.specs.declared.mark.Mark.{Mark}
use Rattle.thy_layout.specs.declared.engine_step.EngineStep.{EngineStep}
use Rattle.thy_layout.specs.declared.engine_step.EngineStep.TheVariants.{Idle, Copied, PageBlock, StateBlock, TableBlock, Barrier, CommitWritten, Committed as EngineCommitted}
use Rattle.thy_text.specs.Marks.{Marks}
use Rattle.thy_computer.specs.declared.did.Did.{Did}
use Rattle.thy_computer.specs.declared.did.Did.TheVariants.{Boot, Loaded, Restarted, Refused, Moved, Retired, Flushed, Merged, Sealed, Promoted, Engine, Committed, NvmDrained, DramDrained, Nothing}
use Rattle.thy_computer.specs.declared.view.Phase.{Phase}
use Rattle.thy_computer.specs.declared.view.Phase.TheVariants.{Boot as BootPhase, Run}
use Rattle.thy_computer.specs.declared.view.View.{View}
use Rattle.thy_computer.specs.CoreStep.{busier, BootsTo, MovesTo, EngineTo, CoreStep}
use Rattle.thy_computer.specs.Origin.{Origin}
use Rattle.thy_computer.specs.WithTurns.{with_turns, count_of, reach_in, reach}
use Rattle.thy_run.specs.Going.{HasItsTurns, last_turns, list_after, HasRoomToList}
use Rattle.thy_run.specs.Promises.{EndsWithTurns}
use Rattle.thy_run.specs.World.{turns_after, turns_behind}
use Rattle.thy_run.proofs.Fitting.{OverFits, BootFits, Follows, RunFits, FitsIn, Fits}
use Rattle.thy_run.proofs.Leading.{Leads}

-- ---- lists

-- an epoch that begins has no turn
pub last_none : (turns : List ℕ) → last_turns 0 turns ≡ []
last_none turns = drop_all (length turns - 0) turns (omega arith)

-- neither has a run of one hart
pub none_last : (many : ℕ) → last_turns many [] ≡ []
none_last many = drop_all (0 - many) [] (omega arith)

-- the last turns of a list with one more
last_more : (many hart : ℕ) (turns : List ℕ) → last_turns (many + 1) (turns ++ hart ∷ []) ≡ last_turns many turns ++ hart ∷ []
last_more many hart turns =
    let one_more : length (turns ++ hart ∷ []) ≡ length turns + 1 = length-append turns (hart ∷ []) in
    let e : length (turns ++ hart ∷ []) - (many + 1) ≡ length turns - many = omega (arith, one_more) in
    ap (λ n. drop n (turns ++ hart ∷ [])) e ∙ drop-append-le (length turns - many) turns (hart ∷ []) (omega arith)

length-last : (many : ℕ) (turns : List ℕ) → length (last_turns many turns) ≤ many
length-last many turns = omega (arith, length-drop (length turns - many) turns)

-- ---- how many instructions of the epoch are retired

same_boots : (v next : View) → BootsTo v next → next.retired ≡ v.retired
same_boots v next to = elim to as (λ _. next.retired ≡ v.retired) [
  | inl e ↦ ap (λ (w : View). w.retired) e
  | inr e ↦ ap (λ (w : View). w.retired) e.1
]

same_moves : (v next : View) → MovesTo v next → next.retired ≡ v.retired
same_moves v next to = elim to as (λ _. next.retired ≡ v.retired) [
  | inl e ↦ ap (λ (w : View). w.retired) e
  | inr e ↦ ap (λ (w : View). w.retired) e.4
]

same_busy : (v next : View) → next ≡ busier v → next.retired ≡ v.retired
same_busy v next e = ap (λ (w : View). w.retired) e

same_engine : (v next : View) (step : EngineStep) → EngineTo step v next → next.retired ≡ v.retired
same_engine v next Idle e = absurd e
same_engine v next Copied e = same_busy v next e
same_engine v next PageBlock e = same_busy v next e
same_engine v next StateBlock e = same_busy v next e
same_engine v next TableBlock e = same_busy v next e
same_engine v next Barrier e = same_busy v next e
same_engine v next CommitWritten e = ap (λ (w : View). w.retired) e.2
same_engine v next (EngineCommitted epoch) e = absurd e

-- in a boot no instruction of the epoch is retired
boot_none : (p : Origin) (v : View) (m : Marks) → Fits p v m → v.phase ≡ BootPhase → v.retired ≡ 0
boot_none p v m h is = let f : BootFits p v m = subst (FitsIn p v m) is h in f.retired

-- ---- one cycle

module _ (o : Origin) (turns : List ℕ) (v next : View) (m : Marks) (l : List ℕ) (all : HasItsTurns (with_turns o turns) v)
    (h : Fits (with_turns o turns) v m)
    (listed : l ≡ last_turns v.retired turns) where
  -- with one hart no turn is listed
  one_hart : (o.geometry.harts == 1) ≡ true → turns ≡ []
  one_hart one = nil_from_length turns (all ∙ ap (λ (b : Bool). if b then 0 else reach v - o.start.count) one)

  same_list : next.retired ≡ v.retired → l ≡ last_turns next.retired turns
  same_list e = listed ∙ ap (λ n. last_turns n turns) (sym e)

  retired_list : (hart : ℕ) → next.retired ≡ v.retired + 1 → (b : Bool) → (o.geometry.harts == 1) ≡ b
      → (if b then l else l ++ hart ∷ []) ≡ last_turns next.retired (if b then turns else turns ++ hart ∷ [])
  retired_list hart more true one =
      let none : turns ≡ [] = one_hart one in
      listed ∙ ap (last_turns v.retired) none ∙ none_last v.retired ∙ sym (ap (last_turns next.retired) none ∙ none_last next.retired)
  retired_list hart more false two =
      ap (λ (x : List ℕ). x ++ hart ∷ []) listed ∙ sym (ap (λ n. last_turns n (turns ++ hart ∷ [])) more ∙ last_more v.retired hart turns)

  -- the list has the last turns once a cycle is done, if it had them before
  pub listed_next : (did : Did) → CoreStep (with_turns o (turns_after o.geometry.harts turns did)) v did next
      → list_after did (turns_after o.geometry.harts l did) ≡ last_turns next.retired (turns_after o.geometry.harts turns did)
  listed_next (Retired hart) s = retired_list hart (ap (λ (w : View). w.retired) s.becomes) (o.geometry.harts == 1) refl
  listed_next (Sealed epoch count cause) s =
      sym (ap (λ n. last_turns n turns) (ap (λ (w : View). w.retired) s.becomes) ∙ last_none turns)
  listed_next (Restarted epoch count) s =
      same_list (ap (λ (w : View). w.retired) s.becomes ∙ sym (boot_none (with_turns o turns) v m h s.phase))
  listed_next Boot s = same_list (same_boots v next s.1)
  listed_next Loaded s = same_list (ap (λ (w : View). w.retired) s.becomes)
  listed_next (Refused bad) s = same_list (ap (λ (w : View). w.retired) s.3)
  listed_next Moved s = same_list (same_moves v next s.3)
  listed_next Flushed s = same_list (same_busy v next s.1)
  listed_next Merged s = same_list (same_busy v next s.1)
  listed_next Promoted s = same_list (same_busy v next s.1)
  listed_next (Engine step) s = same_list (same_engine v next step s.1)
  listed_next (Committed epoch overlapped) s = same_list (ap (λ (w : View). w.retired) s.becomes)
  listed_next NvmDrained s = same_list (ap (λ (w : View). w.retired) s)
  listed_next DramDrained s = same_list (ap (λ (w : View). w.retired) s)
  listed_next Nothing s = same_list (ap (λ (w : View). w.retired) s.1)

  -- ---- an epoch's end

  -- the list has the turns after the committed checkpoint
  pub listed_behind : (epoch count : ℕ) (cause : EndCause) → Leads (with_turns o turns) v m
      → CoreStep (with_turns o turns) v (Sealed epoch count cause) next
      → turns_behind (with_turns o turns) v.done ≡ l
  listed_behind epoch count cause leads s = by_harts (o.geometry.harts == 1) refl
    where
      f : RunFits (with_turns o turns) v m
      f = subst (FitsIn (with_turns o turns) v m) s.phase h

      since : v.count ≡ f.mark.count + v.retired
      since = let follows : Follows (with_turns o turns) v f.mark None =
          subst (Follows (with_turns o turns) v f.mark) s.unsealed f.follows in follows.2

      from : o.start.count ≤ f.mark.count
      from = (leads.kept f.mark f.kept).late

      behind : turns_behind (with_turns o turns) v.done ≡ drop (f.mark.count - o.start.count) turns
      behind = ap (λ (d : Option Mark). drop (count_of d - o.start.count) turns) f.done

      here : reach v ≡ v.count
      here = ap (λ (p : Phase). reach_in p v) s.phase

      by_harts : (b : Bool) → (o.geometry.harts == 1) ≡ b → turns_behind (with_turns o turns) v.done ≡ l
      by_harts true one =
          let none : turns ≡ [] = one_hart one in
          behind ∙ ap (drop (f.mark.count - o.start.count)) none ∙ drop_all (f.mark.count - o.start.count) [] (omega arith)
          ∙ sym (listed ∙ ap (last_turns v.retired) none ∙ none_last v.retired)
      by_harts false two =
          let many : length turns ≡ reach v - o.start.count = all ∙ ap (λ (b : Bool). if b then 0 else reach v - o.start.count) two in
          let e : f.mark.count - o.start.count ≡ length turns - v.retired = omega (arith, many, here, since, from) in
          behind ∙ ap (λ n. drop n turns) e ∙ sym listed

  -- the list of turns is reported at an epoch's end alone
  pub ends_with : (did : Did) → Leads (with_turns o turns) v m → CoreStep (with_turns o (turns_after o.geometry.harts turns did)) v did next
      → EndsWithTurns (with_turns o (turns_after o.geometry.harts turns did)) v did (turns_after o.geometry.harts l did)
  ends_with (Sealed epoch count cause) leads s = listed_behind epoch count cause leads s
  ends_with Boot leads s = tt
  ends_with Loaded leads s = tt
  ends_with (Restarted epoch count) leads s = tt
  ends_with (Refused bad) leads s = tt
  ends_with Moved leads s = tt
  ends_with (Retired hart) leads s = tt
  ends_with Flushed leads s = tt
  ends_with Merged leads s = tt
  ends_with Promoted leads s = tt
  ends_with (Engine step) leads s = tt
  ends_with (Committed epoch overlapped) leads s = tt
  ends_with NvmDrained leads s = tt
  ends_with DramDrained leads s = tt
  ends_with Nothing leads s = tt

-- ---- room

retired_room : (p : Origin) (v : View) (m : Marks) → v.phase ≡ Run → v.over ≡ None → Fits p v m → v.retired < p.geometry.epoch
retired_room p v m is none h =
    let f : RunFits p v m = subst (FitsIn p v m) is h in
    subst (OverFits p v.retired v.count) none f.over

-- there is room for the turn of an instruction that retires
pub list_room : (o : Origin) (turns t : List ℕ) (v next : View) (m : Marks) (l : List ℕ) (room : ℕ) (did : Did)
    → Fits (with_turns o turns) v m
    → l ≡ last_turns v.retired turns → (o.geometry.harts ≡ 1) ⊎ (o.geometry.epoch ≤ room) → CoreStep (with_turns o t) v did next
    → HasRoomToList o.geometry.harts l room did
list_room o turns t v next m l room (Retired hart) h listed (inl one) s = inl one
list_room o turns t v next m l room (Retired hart) h listed (inr long) s =
    let few : v.retired < o.geometry.epoch = retired_room (with_turns o turns) v m s.phase s.over h in
    let many : length l ≡ length (last_turns v.retired turns) = ap length listed in
    inr (omega (arith, few, many, length-last v.retired turns, long))
list_room o turns t v next m l room Boot h listed r s = tt
list_room o turns t v next m l room Loaded h listed r s = tt
list_room o turns t v next m l room (Restarted epoch count) h listed r s = tt
list_room o turns t v next m l room (Refused bad) h listed r s = tt
list_room o turns t v next m l room Moved h listed r s = tt
list_room o turns t v next m l room Flushed h listed r s = tt
list_room o turns t v next m l room Merged h listed r s = tt
list_room o turns t v next m l room Promoted h listed r s = tt
list_room o turns t v next m l room (Sealed epoch count cause) h listed r s = tt
list_room o turns t v next m l room (Engine step) h listed r s = tt
list_room o turns t v next m l room (Committed epoch overlapped) h listed r s = tt
list_room o turns t v next m l room NvmDrained h listed r s = tt
list_room o turns t v next m l room DramDrained h listed r s = tt
list_room o turns t v next m l room Nothing h listed r s = tt
