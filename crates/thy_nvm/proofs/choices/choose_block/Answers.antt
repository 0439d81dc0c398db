use Rattle.std.proofs.Common.{◌<◌, ◌+◌, ◌%◌, length, Contains, sym, ap, subst, ◌∙◌, arith}
use Rattle.std.proofs.lemmas.List.Elements.{Contains-get_or}
use Rattle.thy_block.specs.Device.{possible, block_at}
use Rattle.thy_dram.specs.Held.{device_of, choice_at}
use Rattle.thy_nvm.specs.Chosen.{number_at}
use Rattle.thy_nvm.proofs.choices.choose_block.Goals as goal

pub returns-clause-block : goal.returns-clause-block
returns-clause-block c =
    c.choice.ensures
    ∙ ap (λ n. choice_at c.args.ring.now c.args.at (n % (c.args.count + 1))) c.next.ensures.number
    ∙ ap (λ n. choice_at c.args.ring.now c.args.at (number_at c.args.choices.now 0 % (n + 1))) c.requires.count

pub returns-clause-one_of : goal.returns-clause-one_of
returns-clause-one_of c =
    let inside : c.next.result % (c.args.count + 1) < length (possible (device_of c.args.ring.now) c.args.at) = omega (arith, c.requires.count) in
    subst (λ b. Contains (possible (device_of c.args.ring.now) c.args.at) b) (sym c.choice.ensures)
    (Contains-get_or (possible (device_of c.args.ring.now) c.args.at) (c.next.result % (c.args.count + 1))
    (block_at c.args.ring.now.image c.args.at) inside)
