use Rattle.std.proofs.Common.{◌≡◌, true, ap, sym, subst}
use Rattle.thy_cache.specs.Contents.{hits}
use Rattle.thy_isa.specs.declared.state.Effect.TheVariants.{Trap}
use Rattle.thy_hart.specs.HartState.{HartState, secured, IsSoundHart}
use Rattle.thy_hart.specs.Outcomes.{given}
use Rattle.thy_hart.specs.InHand.{hand_by, hart_state_of}
use Rattle.thy_hart.specs.MicroSteps.{IsFetchedSpan, IsActed}
use Rattle.thy_hart.proofs.HandLemmas.{begun_with-sound, begun_with-unsecured}
use Rattle.thy_hart.proofs.MicroStepLemmas.{IsActed-fetched, IsActed-trapped}
use Rattle.thy_hart.proofs.micro_steps.HartParts.fetch.Goals as goal

pub returns-in-Some-clause-acts : goal.returns-in-Some-clause-acts
returns-in-Some-clause-acts g c =
    let old : HartState = hart_state_of c.args.self.now in
    let at = subst (IsFetchedSpan old.geometry old.cpu) c.in-Ok.is c.fetched_span.ensures in
    let hit = rw c.in-Some.is at c.latest.ensures.hit in
    λ free under_way. IsActed-fetched (given c.args.input.now free under_way) c.args.cache.now c.fetch_at.new.cache old
    (hart_state_of c.fetch_at.new.self)
    c.in-Ok.at (ap (λ s. hand_by s c.args.self.now.hand) c.requires.stage) at
    (subst (λ b. hits c.args.cache.now b ≡ true) c.first_block.ensures hit) c.fetch_at.ensures.hart c.fetch_at.ensures.unsecured
    c.fetch_at.ensures.lines c.fetch_at.ensures.cache

pub returns-in-None-clause-acts : goal.returns-in-None-clause-acts
returns-in-None-clause-acts g c = λ free under_way.
    subst (IsActed (given c.args.input.now free under_way) c.args.cache.now c.fetch_far-step.new.cache (hart_state_of c.args.self.now)
    (hart_state_of c.fetch_far-step.new.self))
    (sym c.came.ensures) (c.fetch_far-step.ensures.acts free under_way)

pub returns-in-Err-clause-acts : goal.returns-in-Err-clause-acts
returns-in-Err-clause-acts g c =
    let old : HartState = hart_state_of c.args.self.now in
    let new : HartState = hart_state_of c.begin_trap.new.self in
    let at = subst (IsFetchedSpan old.geometry old.cpu) c.in-Err.is c.fetched_span.ensures in
    λ free under_way. IsActed-trapped (given c.args.input.now free under_way) c.args.cache.now old new c.in-Err.cause
    (ap (λ s. hand_by s c.args.self.now.hand) c.requires.stage) at c.begin_trap.ensures.hart
    (subst (λ (h : HartState). secured h.hand ≡ 0) (sym c.begin_trap.ensures.hart) (begun_with-unsecured c.args.input.now (Trap c.in-Err.cause) old))

pub returns-in-Err-clause-sound : goal.returns-in-Err-clause-sound
returns-in-Err-clause-sound g c =
    let old : HartState = hart_state_of c.args.self.now in
    record {
      hart = subst IsSoundHart (sym c.begin_trap.ensures.hart)
          (begun_with-sound c.args.input.now (Trap c.in-Err.cause) old c.requires.sound.hart.range tt);
      pieces = c.begin_trap.ensures.pieces;
    }
