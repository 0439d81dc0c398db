use Rattle.std.proofs.Common.{◌≡◌, ◌<◌, ◌^◌, true, false, sym, ◌∙◌, ap, subst, arith}
use Rattle.thy_isa.specs.declared.state.Effect.{Effect}
use Rattle.thy_isa.specs.Moves.{number_in}
use Rattle.thy_isa.specs.Step.{finished}
use Rattle.thy_hart.specs.declared.hand.Hand.TheVariants.{Retiring}
use Rattle.thy_hart.specs.InHand.{load_of, bytes_by, hand_by, hart_state_of}
use Rattle.thy_hart.proofs.InHandLemmas.{finished-loaded, finished-other, number-jump, number-set, number-store}
use Rattle.thy_hart.proofs.MicroStepLemmas.{IsActed-retired}
use Rattle.thy_hart.proofs.micro_steps.HartParts.retire_next.Goals as goal

pub retire-requires-clause-number : goal.retire-requires-clause-number
retire-requires-clause-number g c = λ calls.
    let i = c.args.self.now.hand in
    finished-other c.args.self.now.cpu c.jump-effect.result _ (bytes_by i.stage i) calls c.jump-effect.ensures
    (number-jump i.pc (bytes_by i.stage i))

pub retire-requires-in-Sets-clause-number : goal.retire-requires-in-Sets-clause-number
retire-requires-in-Sets-clause-number g c = λ calls.
    let i = c.args.self.now.hand in
    finished-other c.args.self.now.cpu c.set-effect.result _ (bytes_by i.stage i) calls c.set-effect.ensures
    (number-set i.rd i.pc i.value (bytes_by i.stage i))

pub retire-requires-in-Loaded-clause-number : goal.retire-requires-in-Loaded-clause-number
retire-requires-in-Loaded-clause-number g c = λ calls.
    let i = c.args.self.now.hand in
    let cpu = c.args.self.now.cpu in
    let fits : i.value < 2 ^ 64 = omega (arith, c.number-number.ensures, c.number-number.type_inv) in
    let load = finished-loaded cpu i.rd i.access.1 i.extend i.pc i.address i.value calls fits in
    let here = subst (λ bytes. finished cpu (load_of i) i.value calls ≡ finished cpu (load_of i) (number_in (load_of i) bytes) calls)
    (sym (ap (λ st. bytes_by st i) c.in-Loaded.is)) load in
    let effect = subst (λ e. finished cpu e i.value calls ≡ finished cpu e (number_in e (bytes_by i.stage i)) calls)
    (sym c.load-effect.ensures) here in
    subst (λ n. finished cpu c.load-effect.result n calls ≡ finished cpu c.load-effect.result
    (number_in c.load-effect.result (bytes_by i.stage i)) calls)
    (sym c.number-number.ensures) effect

pub retire-requires-in-Stored-clause-number : goal.retire-requires-in-Stored-clause-number
retire-requires-in-Stored-clause-number g c = λ calls.
    let i = c.args.self.now.hand in
    finished-other c.args.self.now.cpu c.store-effect.result _ (bytes_by i.stage i) calls c.store-effect.ensures
    (number-store i.access.1 i.pc i.address i.value (bytes_by i.stage i))

pub returns-in-Jumps-clause-acts : goal.returns-in-Jumps-clause-acts
returns-in-Jumps-clause-acts g c = λ t d.
    let i = c.args.self.now.hand in
    IsActed-retired t d (hart_state_of c.args.self.now) (hart_state_of c.retire.new.self) c.jump-effect.result false c.retire.result
    (ap (λ st. hand_by st i) c.in-Jumps.is ∙ ap (λ (e : Effect). Retiring e false) (sym c.jump-effect.ensures))
    (c.retire.ensures.hart t.input) (c.retire.ensures.says t.input)

pub returns-in-Sets-clause-acts : goal.returns-in-Sets-clause-acts
returns-in-Sets-clause-acts g c = λ t d.
    let i = c.args.self.now.hand in
    IsActed-retired t d (hart_state_of c.args.self.now) (hart_state_of c.retire-in-Sets.new.self) c.set-effect.result false c.retire-in-Sets.result
    (ap (λ st. hand_by st i) c.in-Sets.is ∙ ap (λ (e : Effect). Retiring e false) (sym c.set-effect.ensures))
    (c.retire-in-Sets.ensures.hart t.input) (c.retire-in-Sets.ensures.says t.input)

pub returns-in-Loaded-clause-acts : goal.returns-in-Loaded-clause-acts
returns-in-Loaded-clause-acts g c = λ t d.
    let i = c.args.self.now.hand in
    IsActed-retired t d (hart_state_of c.args.self.now)
    (hart_state_of c.retire-in-Loaded.new.self) c.load-effect.result false c.retire-in-Loaded.result
    (ap (λ st. hand_by st i) c.in-Loaded.is ∙ ap (λ (e : Effect). Retiring e false) (sym c.load-effect.ensures))
    (c.retire-in-Loaded.ensures.hart t.input) (c.retire-in-Loaded.ensures.says t.input)

pub returns-in-Stored-clause-acts : goal.returns-in-Stored-clause-acts
returns-in-Stored-clause-acts g c = λ t d.
    let i = c.args.self.now.hand in
    IsActed-retired t d (hart_state_of c.args.self.now)
    (hart_state_of c.retire-in-Stored.new.self) c.store-effect.result true c.retire-in-Stored.result
    (ap (λ st. hand_by st i) c.in-Stored.is ∙ ap (λ (e : Effect). Retiring e true) (sym c.store-effect.ensures))
    (c.retire-in-Stored.ensures.hart t.input) (c.retire-in-Stored.ensures.says t.input)
