use Rattle.std.proofs.Common.{sym, ◌∙◌}
use Rattle.thy_isa.specs.Step.{state_of}
use Rattle.thy_thynvm_parts.proofs.StartLemmas.{first_place}
use Rattle.thy_thynvm_parts.proofs.start.first_place.Goals as goal

pub returns : goal.returns
returns c = c.home.ensures.place ∙ sym (first_place c.args.geometry.now (state_of c.args.state.now) c.requires.start c.args.b c.requires.inside)
