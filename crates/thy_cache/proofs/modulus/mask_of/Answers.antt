use Rattle.thy_cache.proofs.MaskLemmas.{IsMaskOf-power}
use Rattle.thy_cache.proofs.modulus.mask_of.Goals as goal

pub returns-then-power-number : goal.returns-then-power-number
returns-then-power-number c =
    IsMaskOf-power c.args.number c.next_power_of_two-power.result c.next_power_of_two-power.ensures.power c.if-power-number.true
