use Rattle.std.proofs.Common.{[], refl, ◌∙◌, ap, subst, arith}
use Rattle.thy_hart.specs.Epoch.{Epoch}
use Rattle.thy_isa.specs.declared.state.CpuState.{CpuState}
use Rattle.thy_hart.specs.declared.hand.Hand.{Hand}
use Rattle.thy_hart.specs.declared.hand.Hand.TheVariants.{Writing}
use Rattle.thy_hart.specs.declared.hand.HartStep.{HartStep}
use Rattle.thy_hart.specs.declared.hand.MicroStep.TheVariants.{Taken}
use Rattle.thy_hart.specs.HartState.{HartState}
use Rattle.thy_hart.specs.Outcomes.{given}
use Rattle.thy_hart.specs.InHand.{span_of, store_of, hand_by, hart_state_of}
use Rattle.thy_hart.specs.MicroSteps.{IsActed}
use Rattle.thy_hart.proofs.RowLemmas.{moved-on, ActsAll-first, ActsAll-last, IsActed-stays}
use Rattle.thy_hart.proofs.micro_steps.HartParts.store_on.Goals as goal

pub store-requires-clause-stage : goal.store-requires-clause-stage
store-requires-clause-stage g c = c.room.ensures.stage c.in-Moved.is

pub retire_next-requires-clause-count : goal.retire_next-requires-clause-count
retire_next-requires-clause-count g c =
    let t = given [] c.args.free c.args.under_way in
    let i = c.args.self.now.hand in
    let h : HartState = hart_state_of c.args.self.now in
    let k : HartState = hart_state_of c.room.new.self in
    let l : HartState = hart_state_of c.store.new.self in
    let x = c.args.cache.now in
    let d = c.store.new.cache in
    let room = subst (λ (s : HartStep). IsActed t x x h k (Taken s)) c.in-Moved.is (c.room.ensures.acts []) in
    let j = c.room.new.self.hand in
    let hand : Hand = Writing (store_of j) (span_of j.access) 0 in
    let store = moved-on t x d k l hand c.store.result c.in-Taken.field-0 c.in-Taken.is
    (ap (λ st. hand_by st j) (c.room.ensures.stage c.in-Moved.is)) refl (c.store.ensures.acts t) in
    omega (arith, c.requires.count, ap (λ (y : CpuState). y.count) (IsActed-stays t x x h k room).cpu, ap (λ (y : CpuState). y.count) (IsActed-stays t x d k l store).cpu)

pub retire_next-requires-clause-alone : goal.retire_next-requires-clause-alone
retire_next-requires-clause-alone g c = λ yes.
    let t = given [] c.args.free c.args.under_way in
    let i = c.args.self.now.hand in
    let h : HartState = hart_state_of c.args.self.now in
    let k : HartState = hart_state_of c.room.new.self in
    let l : HartState = hart_state_of c.store.new.self in
    let x = c.args.cache.now in
    let d = c.store.new.cache in
    let room = subst (λ (s : HartStep). IsActed t x x h k (Taken s)) c.in-Moved.is (c.room.ensures.acts []) in
    let j = c.room.new.self.hand in
    let hand : Hand = Writing (store_of j) (span_of j.access) 0 in
    let store = moved-on t x d k l hand c.store.result c.in-Taken.field-0 c.in-Taken.is
    (ap (λ st. hand_by st j) (c.room.ensures.stage c.in-Moved.is)) refl (c.store.ensures.acts t) in
    ap (λ (y : CpuState). y.other) (IsActed-stays t x d k l store).cpu ∙ ap (λ (y : CpuState). y.other) (IsActed-stays t x x h k room).cpu
    ∙ c.requires.alone yes

pub retire_next-requires-clause-going : goal.retire_next-requires-clause-going
retire_next-requires-clause-going g c =
    let t = given [] c.args.free c.args.under_way in
    let i = c.args.self.now.hand in
    let h : HartState = hart_state_of c.args.self.now in
    let k : HartState = hart_state_of c.room.new.self in
    let l : HartState = hart_state_of c.store.new.self in
    let x = c.args.cache.now in
    let d = c.store.new.cache in
    let room = subst (λ (s : HartStep). IsActed t x x h k (Taken s)) c.in-Moved.is (c.room.ensures.acts []) in
    let j = c.room.new.self.hand in
    let hand : Hand = Writing (store_of j) (span_of j.access) 0 in
    let store = moved-on t x d k l hand c.store.result c.in-Taken.field-0 c.in-Taken.is
    (ap (λ st. hand_by st j) (c.room.ensures.stage c.in-Moved.is)) refl (c.store.ensures.acts t) in
    ap (λ (y : Epoch). y.over) (IsActed-stays t x d k l store).epoch ∙ ap (λ (y : Epoch). y.over) (IsActed-stays t x x h k room).epoch
    ∙ c.requires.going

pub returns-in-Taken-clause-acts : goal.returns-in-Taken-clause-acts
returns-in-Taken-clause-acts g c = λ input.
    let t = given input c.args.free c.args.under_way in
    let i = c.args.self.now.hand in
    let h : HartState = hart_state_of c.args.self.now in
    let k : HartState = hart_state_of c.room.new.self in
    let l : HartState = hart_state_of c.store.new.self in
    let x = c.args.cache.now in
    let d = c.store.new.cache in
    let room = subst (λ (s : HartStep). IsActed t x x h k (Taken s)) c.in-Moved.is (c.room.ensures.acts input) in
    let j = c.room.new.self.hand in
    let hand : Hand = Writing (store_of j) (span_of j.access) 0 in
    let store = moved-on t x d k l hand c.store.result c.in-Taken.field-0 c.in-Taken.is
    (ap (λ st. hand_by st j) (c.room.ensures.stage c.in-Moved.is)) refl (c.store.ensures.acts t) in
    let n : HartState = hart_state_of c.retire_next.new.self in
    let last = c.retire_next.result in
    ActsAll-first t x x d h k n 1 last room c.room.ensures.sound.hart
    (ActsAll-first t x d d k l n 0 last store c.store.ensures.sound.hart
    (ActsAll-last t d l n last c.retire_next.ensures.acts (λ none. ap hart_state_of (c.retire_next.ensures.left none)) c.retire_next.ensures.sound.hart))

pub returns-in-Missing-clause-acts : goal.returns-in-Missing-clause-acts
returns-in-Missing-clause-acts g c = λ input.
    let t = given input c.args.free c.args.under_way in
    let i = c.args.self.now.hand in
    let h : HartState = hart_state_of c.args.self.now in
    let k : HartState = hart_state_of c.room.new.self in
    let l : HartState = hart_state_of c.store.new.self in
    let x = c.args.cache.now in
    let d = c.store.new.cache in
    let room = subst (λ (s : HartStep). IsActed t x x h k (Taken s)) c.in-Moved.is (c.room.ensures.acts input) in
    let missing = subst (IsActed t x d k l) c.in-Missing.is (c.store.ensures.acts t) in
    (x, k, room, c.room.ensures.sound.hart, (missing.3, missing.2))

-- room was not secured
pub returns-in_default-clause-acts : goal.returns-in_default-clause-acts
returns-in_default-clause-acts g c = λ input.
    (c.args.cache.now, hart_state_of c.room.new.self, c.room.ensures.acts input, c.room.ensures.sound.hart, (refl, refl))
