-- A step leaves memory as long as it was.
use Rattle.std.proofs.Common.{◌≡◌, length}
use Rattle.thy_isa.specs.Step.{State, Setting, performed, advanced, effect_at}
use Rattle.thy_isa.proofs.AccessLaws.{effect_at-within}
use Rattle.thy_isa.proofs.StorableLaws.{length-memory_by}

pub advanced-size : (g : Setting) (s : State) → length (advanced g s).memory ≡ length s.memory
unfolding advanced performed
advanced-size g s = length-memory_by g s (effect_at g.base s) (effect_at-within g.base s)
