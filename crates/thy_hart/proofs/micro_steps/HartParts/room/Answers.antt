use Rattle.std.proofs.Common.{◌≡◌, ℕ, refl, sym, ap, subst}
use Rattle.thy_block.specs.declared.span.Span.{Span}
use Rattle.thy_hart.specs.declared.hand.MicroStep.TheVariants.{Taken}
use Rattle.thy_hart.specs.declared.in_hand.Stage.TheVariants.{Secures}
use Rattle.thy_hart.specs.HartState.{HartState, IsSoundHart}
use Rattle.thy_hart.specs.Outcomes.{given, room_secured, room_answer}
use Rattle.thy_hart.specs.InHand.{span_of, store_of, at_stage, hart_state_of}
use Rattle.thy_hart.specs.MicroSteps.{IsActed}
use Rattle.thy_hart.proofs.HandLemmas.{room_secured-sound}
use Rattle.thy_hart.proofs.MicroStepLemmas.{IsActed-secured}
use Rattle.thy_hart.proofs.micro_steps.HartParts.room.Goals as goal

pub returns-clause-acts : goal.returns-clause-acts
returns-clause-acts g c = λ input.
    let i = c.args.self.now.hand in
    let s : Span = span_of i.access in
    let t = given input c.args.free c.args.under_way in
    let new : HartState = hart_state_of c.secure.new.self in
    subst (λ (h : HartState). IsActed t c.args.cache.now c.args.cache.now h new (Taken c.secure.result))
    (ap (λ st. at_stage st c.args.self.now) (sym c.requires.stage))
    (IsActed-secured t c.args.cache.now (at_stage Secures c.args.self.now) new (store_of i) s c.secure.result refl
    (subst (λ (d : ℕ). new ≡ room_secured c.args.free c.args.under_way d (store_of i) s (at_stage Secures c.args.self.now)) c.dirty.ensures c.secure.ensures.hart)
    (subst (λ (d : ℕ). c.secure.result ≡ room_answer c.args.free c.args.under_way d s) c.dirty.ensures c.secure.ensures.says))

pub returns-clause-sound : goal.returns-clause-sound
returns-clause-sound g c =
    let i = c.args.self.now.hand in
    let old : HartState = at_stage Secures c.args.self.now in
    let sound : IsSoundHart old = subst (λ st. IsSoundHart (at_stage st c.args.self.now)) c.requires.stage c.requires.sound.hart in
    record {
      hart = room_secured-sound c.args.free c.dirty.result c.args.under_way (store_of i) (span_of i.access) old (hart_state_of c.secure.new.self)
          sound sound.in_hand c.secure.ensures.hart;
      pieces = c.secure.ensures.pieces;
    }
