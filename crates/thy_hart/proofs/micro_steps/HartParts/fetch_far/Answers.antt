use Rattle.std.proofs.Common.{◌≡◌, true, ap, subst}
use Rattle.thy_cache.specs.Contents.{hits}
use Rattle.thy_hart.specs.HartState.{HartState}
use Rattle.thy_hart.specs.Outcomes.{given}
use Rattle.thy_hart.specs.InHand.{hand_by, hart_state_of}
use Rattle.thy_hart.proofs.MicroStepLemmas.{found_hits, IsActed-fetched}
use Rattle.thy_hart.proofs.micro_steps.HartParts.fetch_far.Goals as goal

pub returns-in-Some-clause-acts : goal.returns-in-Some-clause-acts
returns-in-Some-clause-acts c =
    let old : HartState = hart_state_of c.args.self.now in
    let hit = found_hits c.args.cache.now c.first_block.result c.find.result c.in-Some.location c.find.ensures.hit c.in-Some.is in
    λ free under_way. IsActed-fetched (given c.args.input.now free under_way) c.args.cache.now c.fetch_at.new.cache old
    (hart_state_of c.fetch_at.new.self)
    c.args.at (ap (λ s. hand_by s c.args.self.now.hand) c.requires.stage) c.requires.at
    (subst (λ b. hits c.args.cache.now b ≡ true) c.first_block.ensures hit) c.fetch_at.ensures.hart c.fetch_at.ensures.unsecured
    c.fetch_at.ensures.lines c.fetch_at.ensures.cache
