use Rattle.std.proofs.Common.{◌≡◌, ◌<◌, ◌*◌, ℕ, length, drop, sym, ap, ◌∙◌, arith}
use Rattle.std.proofs.lemmas.List.{set-get_or}
use Rattle.thy_block.specs.Device.{possible, block_at, queued_for, zero_block}
use Rattle.thy_block.proofs.CrashLemmas.{Contains-stands}
use Rattle.thy_block.proofs.MadeLemmas.{IsMadeOf-one}
use Rattle.thy_dram.specs.Held.{device_of}
use Rattle.thy_nvm.specs.Chosen.{one_if_any}
use Rattle.thy_nvm.proofs.ChosenLemmas.{one_if_any-some, one_if_any-none, chosen-none}
use Rattle.thy_nvm.proofs.choices.choose_place.Goals as goal

pub returns-then-count-gt0-clause-ring : goal.returns-then-count-gt0-clause-ring
returns-then-count-gt0-clause-ring c = record {
  block = c.choose_words-chosen.result;
  made = c.choose_words-chosen.ensures.made;
  words = c.choose_words-chosen.ensures.words;
  is = c.put.ensures;
}

pub returns-then-count-gt0-clause-taken : goal.returns-then-count-gt0-clause-taken
returns-then-count-gt0-clause-taken c =
    let some : 0 < length (queued_for c.args.ring.now.queue c.args.at) = omega arith in
    let eight : 8 ≡ 8 * one_if_any (queued_for c.args.ring.now.queue c.args.at)
    = omega (arith, one_if_any-some (queued_for c.args.ring.now.queue c.args.at) some) in
    c.choose_words-chosen.ensures.taken ∙ ap (λ (n : ℕ). drop n c.args.choices.now) eight

pub returns-else-count-gt0-clause-ring : goal.returns-else-count-gt0-clause-ring
returns-else-count-gt0-clause-ring c =
    let ring = c.args.ring.now in
    let none : length (queued_for c.args.ring.now.queue c.args.at) ≡ 0 = omega arith in
    record {
      block = block_at ring.image c.args.at;
      made = IsMadeOf-one (possible (device_of ring) c.args.at) (block_at ring.image c.args.at) (Contains-stands (device_of ring) c.args.at);
      words = chosen-none c.args.choices.now ring c.args.at none;
      is = ap (λ i. record ring { image = i }) (sym (set-get_or ring.image c.args.at zero_block));
    }

pub returns-else-count-gt0-clause-taken : goal.returns-else-count-gt0-clause-taken
returns-else-count-gt0-clause-taken c =
    let none : length (queued_for c.args.ring.now.queue c.args.at) ≡ 0 = omega arith in
    let zero : 0 ≡ 8 * one_if_any (queued_for c.args.ring.now.queue c.args.at)
    = omega (arith, one_if_any-none (queued_for c.args.ring.now.queue c.args.at) none) in
    ap (λ (n : ℕ). drop n c.args.choices.now) zero
