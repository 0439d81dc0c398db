use Rattle.std.proofs.Common.{◌≡◌, ◌<◌, ◌^◌, sym, ap, subst, arith}
use Rattle.thy_isa.specs.Moves.{number_in}
use Rattle.thy_isa.specs.Step.{finished}
use Rattle.thy_hart.specs.Outcomes.{given}
use Rattle.thy_hart.specs.InHand.{load_of, bytes_by}
use Rattle.thy_hart.proofs.InHandLemmas.{finished-loaded, finished-other, number-jump, number-set, number-store}
use Rattle.thy_hart.proofs.micro_steps.HartParts.act.Goals as goal

pub retire-requires-clause-number : goal.retire-requires-clause-number
retire-requires-clause-number g c = λ calls.
    let i = c.args.self.now.hand in
    finished-other c.args.self.now.cpu c.jump-effect.result _ (bytes_by i.stage i) calls c.jump-effect.ensures
    (number-jump i.pc (bytes_by i.stage i))

pub retire-requires-in-Sets-clause-number : goal.retire-requires-in-Sets-clause-number
retire-requires-in-Sets-clause-number g c = λ calls.
    let i = c.args.self.now.hand in
    finished-other c.args.self.now.cpu c.set-effect.result _ (bytes_by i.stage i) calls c.set-effect.ensures
    (number-set i.rd i.pc i.value (bytes_by i.stage i))

pub retire-requires-in-Loaded-clause-number : goal.retire-requires-in-Loaded-clause-number
retire-requires-in-Loaded-clause-number g c = λ calls.
    let i = c.args.self.now.hand in
    let cpu = c.args.self.now.cpu in
    let fits : i.value < 2 ^ 64 = omega (arith, c.number-number.ensures, c.number-number.type_inv) in
    let load = finished-loaded cpu i.rd i.access.1 i.extend i.pc i.address i.value calls fits in
    let here = subst (λ bytes. finished cpu (load_of i) i.value calls ≡ finished cpu (load_of i) (number_in (load_of i) bytes) calls)
    (sym (ap (λ st. bytes_by st i) c.in-Loaded.is)) load in
    let effect = subst (λ e. finished cpu e i.value calls ≡ finished cpu e (number_in e (bytes_by i.stage i)) calls)
    (sym c.load-effect.ensures) here in
    subst (λ n. finished cpu c.load-effect.result n calls ≡ finished cpu c.load-effect.result
    (number_in c.load-effect.result (bytes_by i.stage i)) calls)
    (sym c.number-number.ensures) effect

pub retire-requires-in-Stored-clause-number : goal.retire-requires-in-Stored-clause-number
retire-requires-in-Stored-clause-number g c = λ calls.
    let i = c.args.self.now.hand in
    finished-other c.args.self.now.cpu c.store-effect.result _ (bytes_by i.stage i) calls c.store-effect.ensures
    (number-store i.access.1 i.pc i.address i.value (bytes_by i.stage i))

pub returns-in-Idle-clause-acts : goal.returns-in-Idle-clause-acts
returns-in-Idle-clause-acts g c = c.fetch.ensures.acts c.args.free c.args.under_way

pub returns-in-Loads-clause-acts : goal.returns-in-Loads-clause-acts
returns-in-Loads-clause-acts g c = c.load.ensures.acts (given c.args.input.now c.args.free c.args.under_way)

pub returns-in-Stores-clause-acts : goal.returns-in-Stores-clause-acts
returns-in-Stores-clause-acts g c = c.store.ensures.acts (given c.args.input.now c.args.free c.args.under_way)

pub returns-in-Secures-clause-acts : goal.returns-in-Secures-clause-acts
returns-in-Secures-clause-acts g c = c.room.ensures.acts c.args.input.now
