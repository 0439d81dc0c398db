use Rattle.std.proofs.Common.{◌≡◌, Bool, List, true, false, not, refl, subst}
use Rattle.thy_block.specs.declared.nvm.Write.{Write}
use Rattle.thy_sweep.specs.Repeats.{StaysSince}
use Rattle.sweep.proofs.account.Kept.look.Goals as goal

yes_of : (b : Bool) → not b ≡ false → b ≡ true
yes_of true e = refl
yes_of false e = absurd (cc)

pub returns-then-self : goal.returns-then-self
returns-then-self g c = record { queue = refl; first = refl; before = λ e. e; stays = λ e. absurd (cc (e, c.if-self.true)) }

pub returns : goal.returns
returns g c = record {
  queue = refl;
  first = refl;
  before = λ e. c.if-self.false;
  stays = λ e.
      subst (λ (q : List Write). StaysSince q c.args.self.now.first (g.N.Nvm.device c.args.nvm.now)) c.as_slice.ensures.value
      (c.is_still-still.ensures.stays (yes_of c.is_still-still.result e));
}
