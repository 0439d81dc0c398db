use Rattle.std.proofs.Common.{◌*◌}
use Rattle.std.proofs.Math.Nat.{mod-add-mod}
use Rattle.thy_block.specs.Lcg.{lcg_next}
use Rattle.thy_block.proofs.lcg.next_state.Goals as goal

pub returns : goal.returns
unfolding lcg_next
returns c = mod-add-mod (c.args.state * 6364136223846793005) 18446744073709551616 1442695040888963407
