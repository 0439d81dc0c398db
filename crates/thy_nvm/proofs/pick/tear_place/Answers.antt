use Rattle.std.proofs.Common.{◌≡◌, length, sym, ap, subst, ◌∙◌, arith}
use Rattle.std.proofs.lemmas.List.{get_or-set_same}
use Rattle.thy_block.specs.Device.{IsMadeOf, possible, queued_for, block_at, zero_block}
use Rattle.thy_block.proofs.CrashLemmas.{Contains-stands}
use Rattle.thy_block.proofs.MadeLemmas.{IsMadeOf-one}
use Rattle.thy_dram.specs.Held.{device_of, put_at}
use Rattle.thy_nvm.proofs.PickLemmas.{torn_at-none, torn_seed-none}
use Rattle.thy_nvm.proofs.pick.tear_place.Goals as goal

pub returns-then-count-gt0-clause-ring : goal.returns-then-count-gt0-clause-ring
returns-then-count-gt0-clause-ring c = c.put.ensures ∙ ap (put_at c.args.ring.now c.args.at) c.tear_block-torn.ensures.block

pub returns-then-count-gt0-clause-made : goal.returns-then-count-gt0-clause-made
returns-then-count-gt0-clause-made c =
    subst (λ b. IsMadeOf (possible (device_of c.args.ring.now) c.args.at) b)
    (sym (ap (λ r. block_at r.image c.args.at) c.put.ensures ∙ get_or-set_same c.args.ring.now.image c.args.at c.tear_block-torn.result zero_block c.requires))
    c.tear_block-torn.ensures.made

pub returns-else-count-gt0-clause-ring : goal.returns-else-count-gt0-clause-ring
returns-else-count-gt0-clause-ring c =
    let none : length (queued_for c.args.ring.now.queue c.args.at) ≡ 0 = omega arith in
    sym (torn_at-none c.args.draws.now c.args.at c.args.ring.now none)

pub returns-else-count-gt0-clause-draws : goal.returns-else-count-gt0-clause-draws
returns-else-count-gt0-clause-draws c =
    let none : length (queued_for c.args.ring.now.queue c.args.at) ≡ 0 = omega arith in
    sym (torn_seed-none c.args.draws.now (queued_for c.args.ring.now.queue c.args.at) none)

pub returns-else-count-gt0-clause-made : goal.returns-else-count-gt0-clause-made
returns-else-count-gt0-clause-made c =
    IsMadeOf-one (possible (device_of c.args.ring.now) c.args.at) (block_at c.args.ring.now.image c.args.at)
    (Contains-stands (device_of c.args.ring.now) c.args.at)
