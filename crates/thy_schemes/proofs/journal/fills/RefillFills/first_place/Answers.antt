use Rattle.std.proofs.Common.{sym, ◌∙◌}
use Rattle.thy_isa.specs.Step.{state_of}
use Rattle.thy_journal_parts.proofs.FirstLemmas.{home_at}
use Rattle.thy_schemes.proofs.journal.fills.RefillFills.first_place.Goals as goal

pub returns : goal.returns
returns c =
    c.home.ensures.place
    ∙ sym (home_at c.args.geometry.now (state_of c.args.state.now) c.requires.start.geometry c.args.b c.requires.inside)
