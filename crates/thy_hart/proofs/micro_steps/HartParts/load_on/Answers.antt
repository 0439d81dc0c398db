use Rattle.std.proofs.Common.{false, [], refl, ◌∙◌, ap, subst, arith}
use Rattle.thy_hart.specs.Epoch.{Epoch}
use Rattle.thy_block.specs.Spans.{span}
use Rattle.thy_isa.specs.declared.state.CpuState.{CpuState}
use Rattle.thy_hart.specs.declared.hand.Hand.{Hand}
use Rattle.thy_hart.specs.declared.hand.Hand.TheVariants.{Reading}
use Rattle.thy_hart.specs.HartState.{HartState}
use Rattle.thy_hart.specs.Outcomes.{given}
use Rattle.thy_hart.specs.InHand.{span_of, load_of, hand_by, hart_state_of}
use Rattle.thy_hart.specs.MicroSteps.{IsActed}
use Rattle.thy_hart.proofs.RowLemmas.{moved-on, ActsAll-first, ActsAll-last, IsActed-stays}
use Rattle.thy_hart.proofs.micro_steps.HartParts.load_on.Goals as goal

pub retire_next-requires-clause-count : goal.retire_next-requires-clause-count
retire_next-requires-clause-count g c =
    let i = c.args.self.now.hand in
    let hand : Hand = Reading (load_of i) (span_of i.access) (span 0 0) in
    let t = given [] 0 false in
    let h : HartState = hart_state_of c.args.self.now in
    let k : HartState = hart_state_of c.load.new.self in
    let acts = moved-on t c.args.cache.now c.load.new.cache h k hand c.load.result c.in-Taken.field-0 c.in-Taken.is
    (ap (λ st. hand_by st i) c.requires.stage) refl (c.load.ensures.acts t) in
    omega (arith, c.requires.count, ap (λ (x : CpuState). x.count) (IsActed-stays t c.args.cache.now c.load.new.cache h k acts).cpu)

pub retire_next-requires-clause-alone : goal.retire_next-requires-clause-alone
retire_next-requires-clause-alone g c = λ yes.
    let i = c.args.self.now.hand in
    let hand : Hand = Reading (load_of i) (span_of i.access) (span 0 0) in
    let t = given [] 0 false in
    let h : HartState = hart_state_of c.args.self.now in
    let k : HartState = hart_state_of c.load.new.self in
    let acts = moved-on t c.args.cache.now c.load.new.cache h k hand c.load.result c.in-Taken.field-0 c.in-Taken.is
    (ap (λ st. hand_by st i) c.requires.stage) refl (c.load.ensures.acts t) in
    ap (λ (x : CpuState). x.other) (IsActed-stays t c.args.cache.now c.load.new.cache h k acts).cpu ∙ c.requires.alone yes

pub retire_next-requires-clause-going : goal.retire_next-requires-clause-going
retire_next-requires-clause-going g c =
    let i = c.args.self.now.hand in
    let hand : Hand = Reading (load_of i) (span_of i.access) (span 0 0) in
    let t = given [] 0 false in
    let h : HartState = hart_state_of c.args.self.now in
    let k : HartState = hart_state_of c.load.new.self in
    let acts = moved-on t c.args.cache.now c.load.new.cache h k hand c.load.result c.in-Taken.field-0 c.in-Taken.is
    (ap (λ st. hand_by st i) c.requires.stage) refl (c.load.ensures.acts t) in
    ap (λ (x : Epoch). x.over) (IsActed-stays t c.args.cache.now c.load.new.cache h k acts).epoch ∙ c.requires.going

pub returns-in-Taken-clause-acts : goal.returns-in-Taken-clause-acts
returns-in-Taken-clause-acts g c = λ t.
    let i = c.args.self.now.hand in
    let hand : Hand = Reading (load_of i) (span_of i.access) (span 0 0) in
    let h : HartState = hart_state_of c.args.self.now in
    let k : HartState = hart_state_of c.load.new.self in
    let l : HartState = hart_state_of c.retire_next.new.self in
    let d = c.load.new.cache in
    let acts = moved-on t c.args.cache.now d h k hand c.load.result c.in-Taken.field-0 c.in-Taken.is
    (ap (λ st. hand_by st i) c.requires.stage) refl (c.load.ensures.acts t) in
    ActsAll-first t c.args.cache.now d d h k l 0 c.retire_next.result acts c.load.ensures.sound.hart
    (ActsAll-last t d k l c.retire_next.result c.retire_next.ensures.acts
    (λ none. ap hart_state_of (c.retire_next.ensures.left none)) c.retire_next.ensures.sound.hart)

pub returns-in-Missing-clause-acts : goal.returns-in-Missing-clause-acts
returns-in-Missing-clause-acts g c = λ t.
    let missing = subst (IsActed t c.args.cache.now c.load.new.cache (hart_state_of c.args.self.now) (hart_state_of c.load.new.self))
    c.in-Missing.is (c.load.ensures.acts t) in
    (missing.3, missing.2)
