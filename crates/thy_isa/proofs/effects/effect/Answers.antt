use Rattle.std.proofs.Common.{rules}
use Rattle.thy_isa.specs.Effects.{effect_of}
use Rattle.thy_isa.proofs.effects.effect.Goals as goal

pub returns-in-Jalr : goal.returns-in-Jalr
unfolding effect_of
returns-in-Jalr c = search rules
