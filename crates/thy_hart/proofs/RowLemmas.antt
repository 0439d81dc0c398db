-- A row of micro-steps, and the steps that they are; processor and epoch stay while an instruction moves on.
use Rattle.std.proofs.Common.{◌≡◌, ℕ, suc, ◌+◌, Bool, true, false, if◌then◌else◌, nat_lt, IfSome, List, [], ◌∷◌, length, replicate, Option, Some, None, refl, sym, ◌∙◌, ap, subst, arith}
use Rattle.std.proofs.lemmas.List.{length-replicate}
use Rattle.thy_block.specs.declared.block.Block.{Block}
use Rattle.thy_block.specs.declared.cause.EndCause.{EndCause}
use Rattle.thy_block.specs.Device.{zero_block}
use Rattle.thy_block.specs.Geometry.{memory_blocks}
use Rattle.thy_block.specs.Store.{Holding}
use Rattle.thy_cache.specs.Contents.{Contents, dirty_count}
use Rattle.thy_cache.specs.Flat.{flat}
use Rattle.thy_hart.specs.declared.hand.Hand.{Hand}
use Rattle.thy_hart.specs.declared.hand.Hand.TheVariants.{Nothing, Reading, Securing, Writing, Retiring}
use Rattle.thy_hart.specs.declared.hand.HartStep.{HartStep}
use Rattle.thy_hart.specs.declared.hand.HartStep.TheVariants.{Moved, Waiting, Over}
use Rattle.thy_hart.specs.declared.hand.MicroStep.{MicroStep}
use Rattle.thy_hart.specs.declared.hand.MicroStep.TheVariants.{Taken}
use Rattle.thy_hart.specs.HartState.{HartState, IsSoundHart, blocks_of, next_block}
use Rattle.thy_hart.specs.Outcomes.{Given, fetched, room_secured, room_answer, over_or_retired, epoch_retired, acted_by, answer_by}
use Rattle.thy_hart.specs.MicroSteps.{IsActed, IsMicroStep, ActsAll}
use Rattle.thy_hart.specs.Moments.{moment, IsReady}
use Rattle.thy_hart.specs.OneStep.{IsStep}
use Rattle.thy_hart.specs.Rows.{moved_then, Takes}
use Rattle.thy_hart.proofs.StepLaws.{hit_not_missing, IsStep-acted}

-- ---- a row, from its first micro-step

-- what is next of the instruction moves it on, whatever else is found
pub moved-on : (g : Given) (c d : Contents) (old new : HartState) (hand : Hand) (m : MicroStep) (step : HartStep) → m ≡ Taken step
    → old.hand ≡ hand
    → answer_by g (dirty_count c) old hand ≡ Moved → IsActed g c d old new m → IsActed g c d old new (Taken Moved)
moved-on g c d old new hand m step taken is moves acts =
    let here : IsActed g c d old new (Taken step) = subst (IsActed g c d old new) taken acts in
    subst (λ (s : HartStep). IsActed g c d old new (Taken s)) (here.1.says ∙ ap (answer_by g (dirty_count c) old) is ∙ moves) here

first_by : (g : Given) (c d e : Contents) (h k l : HartState) (moved : ℕ) (last : Option HartStep) → IsActed g c d h k (Taken Moved)
    → IsSoundHart k
    → ActsAll g d k (moved_then moved last) e l → ActsAll g c h (moved_then (suc moved) last) e l
first_by g c d e h k l moved None acts sound rest = (d, k, acts, sound, rest)
first_by g c d e h k l moved (Some s) acts sound rest = (d, k, acts, sound, rest)

-- one that moved the instruction on comes first
pub ActsAll-first : (g : Given) (c d e : Contents) (h k l : HartState) (moved : ℕ) (last : Option HartStep)
    → IsActed g c d h k (Taken Moved) → IsSoundHart k
    → ActsAll g d k (moved_then moved last) e l → ActsAll g c h (moved_then (moved + 1) last) e l
ActsAll-first g c d e h k l moved last acts sound rest =
    let one : suc moved ≡ moved + 1 = omega arith in
    subst (λ (n : ℕ). ActsAll g c h (moved_then n last) e l) one (first_by g c d e h k l moved last acts sound rest)

-- the last one may follow, or none
pub ActsAll-last : (g : Given) (c : Contents) (h k : HartState) (last : Option HartStep)
    → IfSome last (λ step. (t : Given) (x : Contents) → IsActed t x x h k (Taken step))
    → (last ≡ None → k ≡ h) → IsSoundHart k → ActsAll g c h (moved_then 0 last) c k
ActsAll-last g c h k None acts left sound = (refl, left refl)
ActsAll-last g c h k (Some s) acts left sound = (c, k, acts g c, sound, (refl, refl))

-- ---- the steps that they are

pub Takes-acted : (g : Given) (held : Holding) → g.free ≡ held.free → (steps : List HartStep) (c d : Contents) (h k : HartState)
    → IsSoundHart h → IsReady (moment h c held)
    → ActsAll g c h steps d k → Takes g held h c steps k d
Takes-acted g held free [] c d h k sound ready all = (all.1, all.0)
Takes-acted g held free (s ∷ rest) c d h k sound ready all =
    let e : Contents = all.0 in
    let l : HartState = all.1 in
    let step : IsStep g (moment h c held) (moment l e held) s = IsStep-acted g h l c e held s free sound ready all.2.0 all.2.1 in (
      l,
      e,
      hit_not_missing c (next_block h) all.2.0,
      step,
      Takes-acted g held free rest e d l k all.3 step.ready all.4,
    )

-- ---- processor and epoch stay while the instruction moves on

pub record Stays (old new : HartState) : Type 0 where
  pub cpu : new.cpu ≡ old.cpu
  pub epoch : new.epoch ≡ old.epoch

not_retired : (o : Option EndCause) → Moved ≡ over_or_retired o → ⊥
not_retired None h = cc h
not_retired (Some cause) h = cc h

room_by : (short under_way : Bool) (x y z : HartState) (o : EndCause)
    → Moved ≡ (if short then (if under_way then Waiting else Over o) else Moved)
    → Stays x z → Stays x (if short then (if under_way then x else y) else z)
room_by true true x y z o h stays = cc h
room_by true false x y z o h stays = cc h
room_by false under_way x y z o h stays = stays

-- by what is in hand
stays_by : (g : Given) (dirty : ℕ) (memory : List Block) (old : HartState) (hand : Hand) → Moved ≡ answer_by g dirty old hand
    → Stays old (acted_by g dirty memory old hand)
unfolding fetched room_secured room_answer
stays_by g dirty memory old Nothing h = record { cpu = refl; epoch = refl }
stays_by g dirty memory old (Reading e from to) h = record { cpu = refl; epoch = refl }
stays_by g dirty memory old (Securing e to) h =
    room_by (nat_lt g.free (dirty + blocks_of to)) g.under_way old _ _ _ h (record { cpu = refl; epoch = refl })
stays_by g dirty memory old (Writing e to done) h = record { cpu = refl; epoch = refl }
stays_by g dirty memory old (Retiring e wrote) h = absurd (not_retired (epoch_retired g.input e old).over h)

pub IsActed-stays : (g : Given) (c d : Contents) (old new : HartState) → IsActed g c d old new (Taken Moved) → Stays old new
IsActed-stays g c d old new acts =
    let step : IsMicroStep g c d old new Moved = acts.1 in
    let blocks : List Block = replicate (memory_blocks old.geometry) zero_block in
    let whole : length blocks ≡ memory_blocks old.geometry = length-replicate (memory_blocks old.geometry) zero_block in
    subst (Stays old) (sym (step.hart blocks whole)) (stays_by g (dirty_count c) (flat c blocks) old old.hand step.says)
