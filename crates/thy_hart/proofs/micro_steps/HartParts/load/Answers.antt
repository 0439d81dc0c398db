use Rattle.std.proofs.Common.{◌≡◌, true, refl, sym, ◌∙◌, ap, subst}
use Rattle.thy_cache.specs.Contents.{hits}
use Rattle.thy_block.specs.declared.span.Span.{Span}
use Rattle.thy_block.specs.Spans.{span, first_block}
use Rattle.thy_hart.specs.declared.hand.Hand.TheVariants.{Reading}
use Rattle.thy_hart.specs.declared.hand.HartStep.TheVariants.{Moved}
use Rattle.thy_hart.specs.declared.hand.MicroStep.TheVariants.{Taken}
use Rattle.thy_hart.specs.declared.in_hand.Stage.TheVariants.{Loads}
use Rattle.thy_hart.specs.HartState.{HartState}
use Rattle.thy_hart.specs.InHand.{span_of, load_of, at_stage, hart_state_of}
use Rattle.thy_hart.specs.MicroSteps.{IsActed}
use Rattle.thy_hart.proofs.MicroStepLemmas.{IsMicroStep-read, IsActed-taken}
use Rattle.thy_hart.proofs.micro_steps.HartParts.load.Goals as goal

pub returns-in-Some-clause-acts : goal.returns-in-Some-clause-acts
returns-in-Some-clause-acts g c =
    let i = c.args.self.now.hand in
    let s : Span = span_of i.access in
    let old : HartState = at_stage Loads c.args.self.now in
    let new : HartState = hart_state_of c.load_at.new.self in
    let found = rw c.in-Some.is at c.latest.ensures.hit in
    let hit = subst (λ b. hits c.args.cache.now b ≡ true) (c.first_block-b.ensures ∙ ap first_block c.span.ensures.span) found in
    λ t. subst (λ h. IsActed t c.args.cache.now c.load_at.new.cache h new (Taken Moved))
    (ap (λ st. at_stage st c.args.self.now) (sym c.requires.stage))
    (IsActed-taken t c.args.cache.now c.load_at.new.cache old new (first_block s) (Reading (load_of i) s (span 0 0)) refl refl hit
    (IsMicroStep-read t c.args.cache.now c.load_at.new.cache old new (load_of i) s (span 0 0) refl c.load_at.ensures.hart
    c.load_at.ensures.unsecured c.load_at.ensures.lines c.load_at.ensures.cache))

pub returns-in-None-clause-acts : goal.returns-in-None-clause-acts
returns-in-None-clause-acts g c = λ t.
    subst (IsActed t c.args.cache.now c.load_far-step.new.cache (hart_state_of c.args.self.now) (hart_state_of c.load_far-step.new.self))
    (sym c.came.ensures)
    (c.load_far-step.ensures.acts t)
