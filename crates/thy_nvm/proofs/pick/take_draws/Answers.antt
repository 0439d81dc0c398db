use Rattle.std.proofs.Common.{◌≡◌, length, sym, ap, subst, ◌∙◌}
use Rattle.thy_block.specs.Device.{Crash}
use Rattle.thy_nvm.specs.Pick.{landing}
use Rattle.thy_nvm.proofs.PickLemmas.{Crash-drawn, Crash-made, length-torn}
use Rattle.thy_nvm.proofs.pick.take_draws.Goals as goal

pub returns-then-whole-clause-left : goal.returns-then-whole-clause-left
returns-then-whole-clause-left c =
    subst (Crash (landing c.args.whole c.args.ring.now)) (sym (ap (λ r. r.image) c.draw_places.ensures))
    (Crash-drawn c.args.seed (landing c.args.whole c.args.ring.now))

pub returns-else-whole-clause-left : goal.returns-else-whole-clause-left
returns-else-whole-clause-left c =
    let same : length c.tear_places.new.ring.image ≡ length c.args.ring.now.image =
    ap (λ r. length r.image) c.tear_places.ensures.ring ∙ length-torn c.args.seed 0 c.args.ring.now.image c.args.ring.now.queue in
    subst (λ w. Crash (landing w c.args.ring.now) c.tear_places.new.ring.image) (sym c.if-whole.false)
    (Crash-made c.args.ring.now c.tear_places.new.ring.image same c.tear_places.ensures.made)
