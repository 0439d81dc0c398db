use Rattle.std.proofs.Common.{sym, ◌∙◌, arith}
use Rattle.thy_isa.specs.Step.{state_of}
use Rattle.thy_shadow_parts.proofs.FirstLemmas.{place_at}
use Rattle.thy_schemes.proofs.shadow.fills.RelistFills.first_place.Goals as goal

pub pool-requires-clause-page : goal.pool-requires-clause-page
pool-requires-clause-page c = omega (arith, c.requires.inside)

pub returns : goal.returns
returns c =
    c.pool.ensures.place
    ∙ sym (place_at c.args.geometry.now (state_of c.args.state.now) c.requires.start.geometry c.args.b c.requires.inside)
