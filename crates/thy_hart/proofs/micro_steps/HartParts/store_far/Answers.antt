use Rattle.std.proofs.Common.{◌≡◌, true, length, refl, sym, ◌∙◌, ap, subst}
use Rattle.thy_cache.specs.Contents.{hits}
use Rattle.thy_block.specs.declared.span.Span.{Span}
use Rattle.thy_block.specs.Spans.{first_block}
use Rattle.thy_hart.specs.declared.hand.Hand.TheVariants.{Writing}
use Rattle.thy_hart.specs.declared.hand.HartStep.TheVariants.{Moved}
use Rattle.thy_hart.specs.declared.hand.MicroStep.TheVariants.{Taken}
use Rattle.thy_hart.specs.declared.in_hand.Stage.TheVariants.{Stores}
use Rattle.thy_hart.specs.HartState.{HartState, IsInHand}
use Rattle.thy_hart.specs.InHand.{span_of, store_of, hand_by, bytes_by, at_stage, hart_state_of}
use Rattle.thy_hart.specs.MicroSteps.{IsActed}
use Rattle.thy_hart.proofs.MicroStepLemmas.{found_hits, IsMicroStep-write, IsActed-taken}
use Rattle.thy_hart.proofs.micro_steps.HartParts.store_far.Goals as goal

pub returns-in-Some-clause-acts : goal.returns-in-Some-clause-acts
returns-in-Some-clause-acts c =
    let i = c.args.self.now.hand in
    let s : Span = span_of i.access in
    let old : HartState = at_stage Stores c.args.self.now in
    let new : HartState = hart_state_of c.store_at.new.self in
    let found = found_hits c.args.cache.now c.first_block-b.result c.find.result c.in-Some.location c.find.ensures.hit c.in-Some.is in
    let hit = subst (λ b. hits c.args.cache.now b ≡ true) (c.first_block-b.ensures ∙ ap first_block c.span.ensures.span) found in
    let writing = subst (λ st. IsInHand c.args.self.now.geometry (hand_by st i) (length (bytes_by st i))) c.requires.stage
    c.requires.sound.hart.in_hand in
    λ t. subst (λ h. IsActed t c.args.cache.now c.store_at.new.cache h new (Taken Moved))
    (ap (λ st. at_stage st c.args.self.now) (sym c.requires.stage))
    (IsActed-taken t c.args.cache.now c.store_at.new.cache old new (first_block s) (Writing (store_of i) s 0) refl refl hit
    (IsMicroStep-write t c.args.cache.now c.store_at.new.cache old new (store_of i) s 0 refl writing c.store_at.ensures.hart
    c.store_at.ensures.memory c.store_at.ensures.agree c.store_at.ensures.room c.store_at.ensures.sized c.store_at.ensures.cache))
