use Rattle.std.proofs.Common.{◌≡◌, ◌<◌, ◌-◌, length, refl, sym, ap, subst, ◌∙◌, arith}
use Rattle.thy_block.specs.Device.{IsMadeOf, possible, queued_for, block_at}
use Rattle.thy_block.proofs.CrashLemmas.{Contains-stands}
use Rattle.thy_block.proofs.MadeLemmas.{IsMadeOf-one}
use Rattle.thy_dram.specs.Held.{device_of}
use Rattle.thy_nvm.specs.Pick.{torn_on, after_draws}
use Rattle.thy_nvm.proofs.PickLemmas.{torn_on-step, torn_on-none, torn_block-some, after_draws-step, after_draws-none, torn_seed-some}
use Rattle.thy_nvm.proofs.pick.tear_block.Goals as goal

pub loop-k-init : goal.loop-k-init
loop-k-init c = record {
  words = refl;
  state = refl;
  made = subst (λ b. IsMadeOf (possible (device_of c.args.ring.now) c.args.at) b) (sym c.choice-torn.ensures)
      (IsMadeOf-one (possible (device_of c.args.ring.now) c.args.at) (block_at c.args.ring.now.image c.args.at)
      (Contains-stands (device_of c.args.ring.now) c.args.at));
}

pub loop-k-preserved : goal.loop-k-preserved
loop-k-preserved c =
    let l : c.loop-k.k < 8 = omega arith in
    record {
      words =
          torn_on-step c.loop-k.k c.loop-k.draws c.draw_block-chosen.new.draws (block_at c.args.ring.now.image c.args.at)
          (queued_for c.args.ring.now.queue c.args.at)
          c.draw_block-chosen.result c.loop-k.torn c.replace_word-torn.result l c.draw_block-chosen.ensures.block
          c.draw_block-chosen.ensures.draws c.replace_word-torn.ensures.word
          ∙ c.loop-k.invariant.words;
      state = after_draws-step c.loop-k.k c.loop-k.draws c.draw_block-chosen.new.draws l c.draw_block-chosen.ensures.draws
          ∙ c.loop-k.invariant.state;
      made = c.replace_word-torn.ensures.made (possible (device_of c.args.ring.now) c.args.at) c.draw_block-chosen.ensures.one_of
          c.loop-k.invariant.made;
    }

pub returns-clause-block : goal.returns-clause-block
returns-clause-block c =
    let block = block_at c.args.ring.now.image c.args.at in
    let queued = queued_for c.args.ring.now.queue c.args.at in
    let some : 0 < length (queued_for c.args.ring.now.queue c.args.at) = omega (arith, c.requires.count, c.requires.some) in
    let done : 8 - c.loop-k.k ≡ 0 = omega arith in
    sym (torn_on-none c.loop-k.k c.loop-k.draws block queued c.loop-k.torn)
    ∙ ap (λ n. torn_on n c.loop-k.k c.loop-k.draws block queued c.loop-k.torn) (sym done)
    ∙ c.loop-k.invariant.words
    ∙ ap (torn_on 8 0 c.args.draws.now block queued) c.choice-torn.ensures
    ∙ sym (torn_block-some c.args.draws.now block queued some)

pub returns-clause-draws : goal.returns-clause-draws
returns-clause-draws c =
    let some : 0 < length (queued_for c.args.ring.now.queue c.args.at) = omega (arith, c.requires.count, c.requires.some) in
    let done : 8 - c.loop-k.k ≡ 0 = omega arith in
    sym (after_draws-none c.loop-k.draws)
    ∙ ap (λ n. after_draws n c.loop-k.draws) (sym done)
    ∙ c.loop-k.invariant.state
    ∙ sym (torn_seed-some c.args.draws.now (queued_for c.args.ring.now.queue c.args.at) some)

pub returns-clause-made : goal.returns-clause-made
returns-clause-made c = c.loop-k.invariant.made
