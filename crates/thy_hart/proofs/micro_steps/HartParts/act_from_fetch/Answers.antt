use Rattle.std.proofs.Common.{refl, ◌∙◌, ap, subst, arith}
use Rattle.thy_hart.specs.Epoch.{Epoch}
use Rattle.thy_isa.specs.declared.state.CpuState.{CpuState}
use Rattle.thy_hart.specs.declared.hand.Hand.TheVariants.{Nothing}
use Rattle.thy_hart.specs.HartState.{HartState}
use Rattle.thy_hart.specs.Outcomes.{given}
use Rattle.thy_hart.specs.InHand.{hand_by, hart_state_of}
use Rattle.thy_hart.specs.MicroSteps.{IsActed}
use Rattle.thy_hart.proofs.RowLemmas.{moved-on, ActsAll-first, IsActed-stays}
use Rattle.thy_hart.proofs.micro_steps.HartParts.act_from_fetch.Goals as goal

pub act_fetched-moved-requires-clause-count : goal.act_fetched-moved-requires-clause-count
act_fetched-moved-requires-clause-count g c =
    let t = given c.args.input.now c.args.free c.args.under_way in
    let i = c.args.self.now.hand in
    let h : HartState = hart_state_of c.args.self.now in
    let k : HartState = hart_state_of c.fetch.new.self in
    let x = c.args.cache.now in
    let d = c.fetch.new.cache in
    let acts = moved-on t x d h k Nothing c.fetch.result c.in-Taken.field-0 c.in-Taken.is (ap (λ st. hand_by st i) c.requires.stage) refl
    (c.fetch.ensures.acts c.args.free c.args.under_way) in
    omega (arith, c.requires.count, ap (λ (y : CpuState). y.count) (IsActed-stays t x d h k acts).cpu)

pub act_fetched-moved-requires-clause-alone : goal.act_fetched-moved-requires-clause-alone
act_fetched-moved-requires-clause-alone g c = λ yes.
    let t = given c.args.input.now c.args.free c.args.under_way in
    let i = c.args.self.now.hand in
    let h : HartState = hart_state_of c.args.self.now in
    let k : HartState = hart_state_of c.fetch.new.self in
    let x = c.args.cache.now in
    let d = c.fetch.new.cache in
    let acts = moved-on t x d h k Nothing c.fetch.result c.in-Taken.field-0 c.in-Taken.is (ap (λ st. hand_by st i) c.requires.stage) refl
    (c.fetch.ensures.acts c.args.free c.args.under_way) in
    ap (λ (y : CpuState). y.other) (IsActed-stays t x d h k acts).cpu ∙ c.requires.alone yes

pub act_fetched-moved-requires-clause-going : goal.act_fetched-moved-requires-clause-going
act_fetched-moved-requires-clause-going g c =
    let t = given c.args.input.now c.args.free c.args.under_way in
    let i = c.args.self.now.hand in
    let h : HartState = hart_state_of c.args.self.now in
    let k : HartState = hart_state_of c.fetch.new.self in
    let x = c.args.cache.now in
    let d = c.fetch.new.cache in
    let acts = moved-on t x d h k Nothing c.fetch.result c.in-Taken.field-0 c.in-Taken.is (ap (λ st. hand_by st i) c.requires.stage) refl
    (c.fetch.ensures.acts c.args.free c.args.under_way) in
    ap (λ (y : Epoch). y.over) (IsActed-stays t x d h k acts).epoch ∙ c.requires.going

pub returns-in-Taken-clause-acts : goal.returns-in-Taken-clause-acts
returns-in-Taken-clause-acts g c =
    let t = given c.args.input.now c.args.free c.args.under_way in
    let i = c.args.self.now.hand in
    let h : HartState = hart_state_of c.args.self.now in
    let k : HartState = hart_state_of c.fetch.new.self in
    let x = c.args.cache.now in
    let d = c.fetch.new.cache in
    let acts = moved-on t x d h k Nothing c.fetch.result c.in-Taken.field-0 c.in-Taken.is (ap (λ st. hand_by st i) c.requires.stage) refl
    (c.fetch.ensures.acts c.args.free c.args.under_way) in
    ActsAll-first t x d c.act_fetched-moved.new.cache h k (hart_state_of c.act_fetched-moved.new.self) c.act_fetched-moved.result.0
    c.act_fetched-moved.result.1 acts c.fetch.ensures.sound.hart
    (c.act_fetched-moved.ensures.acts c.args.input.now)

pub returns-in-Missing-clause-acts : goal.returns-in-Missing-clause-acts
returns-in-Missing-clause-acts g c =
    let t = given c.args.input.now c.args.free c.args.under_way in
    let i = c.args.self.now.hand in
    let h : HartState = hart_state_of c.args.self.now in
    let k : HartState = hart_state_of c.fetch.new.self in
    let x = c.args.cache.now in
    let d = c.fetch.new.cache in
    let missing = subst (IsActed t x d h k) c.in-Missing.is (c.fetch.ensures.acts c.args.free c.args.under_way) in
    (missing.3, missing.2)

pub returns-in-Missing-clause-left : goal.returns-in-Missing-clause-left
returns-in-Missing-clause-left g c = λ none.
    let t = given c.args.input.now c.args.free c.args.under_way in
    let i = c.args.self.now.hand in
    let h : HartState = hart_state_of c.args.self.now in
    let k : HartState = hart_state_of c.fetch.new.self in
    let x = c.args.cache.now in
    let d = c.fetch.new.cache in
    let missing = subst (IsActed t x d h k) c.in-Missing.is (c.fetch.ensures.acts c.args.free c.args.under_way) in
    (refl, missing.2, missing.3)
