use Rattle.std.proofs.Common.{◌≤◌, length, drop, sym, ◌∙◌, ap, arith}
use Rattle.std.proofs.lemmas.List.{at_drop_all}
use Rattle.thy_dram.specs.Jumps.{after_bits}
use Rattle.thy_dram.proofs.JumpLemmas.{after_bits-zero, after_bits-block}
use Rattle.thy_dram.proofs.jumps.state_at.Goals as goal

pub returns-then-left-eq0 : goal.returns-then-left-eq0
returns-then-left-eq0 c =
    let rest = drop c.loop-power.power-index c.args.powers.now in
    sym (ap (λ n. after_bits rest n c.loop-power.state) c.if-left-eq0.true ∙ after_bits-zero rest c.loop-power.state)
    ∙ c.loop-power.invariant
    ∙ ap (λ js. after_bits js c.args.at c.args.seed) c.requires
    ∙ after_bits-block c.args.at c.args.seed c.ranges.at.fits

pub returns : goal.returns
returns c =
    let over : length c.args.powers.now ≤ c.loop-power.power-index = omega arith in
    sym (at_drop_all (λ js. after_bits js c.loop-power.left c.loop-power.state) c.args.powers.now c.loop-power.power-index over)
    ∙ c.loop-power.invariant
    ∙ ap (λ js. after_bits js c.args.at c.args.seed) c.requires
    ∙ after_bits-block c.args.at c.args.seed c.ranges.at.fits
