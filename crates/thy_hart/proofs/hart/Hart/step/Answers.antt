use Rattle.std.proofs.Common.{sym, subst, arith}
use Rattle.thy_hart.specs.declared.hand.HartStep.TheVariants.{Moved}
use Rattle.thy_hart.specs.Bring.{BringsBy, IsBrought}
use Rattle.thy_cache.specs.Contents.{victim_of}
use Rattle.thy_hart.specs.Moments.{moment}
use Rattle.thy_hart.specs.OneStep.{IsStep}
use Rattle.thy_hart.specs.Outcomes.{given}
use Rattle.thy_hart.specs.HartState.{HartState, IsSoundHart}
use Rattle.thy_hart.specs.InHand.{hart_state_of}
use Rattle.thy_hart.specs.MicroSteps.{IsActed}
use Rattle.thy_hart.proofs.StepLaws.{next_block-inside, IsStep-brought, IsStep-acted, called-none, called-line}
use Rattle.thy_hart.proofs.hart.Hart.step.Goals as goal
use Rattle.thy_hart.proofs.hart.Hart.step.Goals.{in-Taken, in-Missing+in-Ok, in-Missing+in-Err}

pub bring-requires-clause-inside : goal.bring-requires-clause-inside
bring-requires-clause-inside g c =
    let h : HartState = c.args.self.now in
    let sound : IsSoundHart h = subst IsSoundHart c.self.view_is c.self.invariant.hart in
    let k : HartState = hart_state_of c.act.new.self in
    let t = given c.args.input.now c.args.free c.args.under_way in
    let acts = subst (λ x. IsActed t c.args.cache.now c.act.new.cache x k c.act.result) c.self.view_is c.act.ensures.acts in
    let missing = rw c.in-Missing.is at acts in
    omega (arith, next_block-inside h c.in-Missing.b sound missing.0, c.requires.ready.blocks)

pub returns-clause-step : goal.returns-clause-step
returns-clause-step g c =
    let h : HartState = c.args.self.now in
    let k : HartState = hart_state_of c.act.new.self in
    let t = given c.args.input.now c.args.free c.args.under_way in
    let held = g.S.BlockStore.holding c.args.store.now c.args.nvm.now in
    let sound : IsSoundHart h = subst IsSoundHart c.self.view_is c.self.invariant.hart in
    let acts = subst (λ x. IsActed t c.args.cache.now c.act.new.cache x k c.act.result) c.self.view_is c.act.ensures.acts in
    elim c.match-act.branch [
      | in-Taken w ↦
          let taken = rw w.in-Taken.is at acts in
          rw (w.result-is, w.cache-is, w.store-is, w.nvm-is)
          (IsStep-acted t h k c.args.cache.now c.act.new.cache held w.in-Taken.step c.requires.free sound c.requires.ready taken.0 taken.1)
      | in-Missing+in-Ok w ↦
          let missing = rw w.in-Missing.is at acts in
          let now = g.S.BlockStore.holding w.bring.new.store w.bring.new.nvm in
          let brought = rw w.in-Ok.is at w.bring.ensures.brought in
          let here = subst (λ x. IsBrought w.in-Missing.b x held w.bring.new.cache now) missing.3 brought in
          rw (w.result-is, w.cache-is, w.store-is, w.nvm-is)
          (subst (λ x. IsStep t (moment h c.args.cache.now held) (moment x w.bring.new.cache now) Moved) (sym missing.2)
          (IsStep-brought t w.in-Missing.b h c.args.cache.now w.bring.new.cache held now c.requires.ready missing.0 missing.1 here))
      | in-Missing+in-Err w ↦ rw w.result-is tt
    ]

-- a line is brought exactly if the micro-step misses one
pub returns-clause-called : goal.returns-clause-called
returns-clause-called g c =
    let h : HartState = c.args.self.now in
    let k : HartState = hart_state_of c.act.new.self in
    let t = given c.args.input.now c.args.free c.args.under_way in
    let loads = g.S.BlockStore.loads in
    let stores = g.S.BlockStore.stores in
    let old = moment h c.args.cache.now (g.S.BlockStore.holding c.args.store.now c.args.nvm.now) in
    let acts = subst (λ x. IsActed t c.args.cache.now c.act.new.cache x k c.act.result) c.self.view_is c.act.ensures.acts in
    elim c.match-act.branch [
      | in-Taken w ↦
          let taken = rw w.in-Taken.is at acts in
          rw (w.result-is, w.cache-is, w.store-is, w.nvm-is)
          (called-none loads stores old c.act.new.cache c.args.store.now c.args.nvm.now c.args.store.now c.args.nvm.now taken.0)
      | in-Missing+in-Ok w ↦
          let missing = rw w.in-Missing.is at acts in
          let called = rw w.in-Ok.is at w.bring.ensures.called in
          let here = subst (λ x. BringsBy loads stores (victim_of x w.in-Missing.b) w.in-Missing.b x w.bring.new.cache
          c.args.store.now c.args.nvm.now w.bring.new.store w.bring.new.nvm) missing.3 called in
          rw (w.result-is, w.cache-is, w.store-is, w.nvm-is)
          (called-line loads stores w.in-Missing.b old w.bring.new.cache c.args.store.now c.args.nvm.now w.bring.new.store w.bring.new.nvm
          missing.0 missing.1 here)
      | in-Missing+in-Err w ↦ rw w.result-is tt
    ]
