use Rattle.std.proofs.Common.{◌≡◌, ℕ, drop, refl, sym, ap, subst, ◌∙◌, inl, inr, arith}
use Rattle.std.proofs.lemmas.Bool.{cases_eq}
use Rattle.thy_block.specs.Device.{IsMadeOf, possible, block_at, word_bytes}
use Rattle.thy_block.proofs.CrashLemmas.{Contains-stands}
use Rattle.thy_block.proofs.MadeLemmas.{IsMadeOf-one}
use Rattle.thy_dram.specs.Held.{device_of}
use Rattle.thy_nvm.specs.Chosen.{number_at, chosen_at}
use Rattle.thy_nvm.proofs.ChosenLemmas.{number-first, numbers-more}
use Rattle.thy_nvm.proofs.choices.choose_words.Goals as goal

pub loop-k-init : goal.loop-k-init
loop-k-init c = record {
  words = λ i l. absurd (omega arith);
  taken = refl;
  made = subst (λ b. IsMadeOf (possible (device_of c.args.ring.now) c.args.at) b) (sym c.choice-chosen.ensures)
      (IsMadeOf-one (possible (device_of c.args.ring.now) c.args.at) (block_at c.args.ring.now.image c.args.at)
      (Contains-stands (device_of c.args.ring.now) c.args.at));
}

pub loop-k-preserved : goal.loop-k-preserved
loop-k-preserved c =
    let k = c.loop-k.k in
    let ring = c.args.ring.now in
    let at = c.args.at in
    let start = c.args.choices.now in
    let new = c.replace_word-chosen.result in
    let number : number_at c.loop-k.choices 0 ≡ number_at c.args.choices.now c.loop-k.k
    = number-first c.args.choices.now c.loop-k.choices c.loop-k.k c.loop-k.invariant.taken in
    record {
      words = λ i l. elim (cases_eq i k) as (λ _. word_bytes new i ≡ word_bytes (chosen_at ring at (number_at start i)) i) [
        | inl e ↦
            subst (λ (j : ℕ). word_bytes new j ≡ word_bytes (chosen_at ring at (number_at start j)) j) (sym e)
            (c.replace_word-chosen.ensures.there
            ∙ ap (λ b. word_bytes b k) (c.choose_block-from.ensures.block ∙ ap (chosen_at ring at) number))
        | inr ne ↦ c.replace_word-chosen.ensures.others i ne ∙ c.loop-k.invariant.words i (omega (arith, l, ne))
      ];
      taken = c.choose_block-from.ensures.taken ∙ numbers-more start c.loop-k.choices k c.loop-k.invariant.taken;
      made = c.replace_word-chosen.ensures.made (possible (device_of ring) at) c.choose_block-from.ensures.one_of c.loop-k.invariant.made;
    }

pub returns-clause-words : goal.returns-clause-words
returns-clause-words c = λ i l. c.loop-k.invariant.words i (omega (arith, l))

pub returns-clause-taken : goal.returns-clause-taken
returns-clause-taken c =
    let all : c.loop-k.k ≡ 8 = omega arith in
    c.loop-k.invariant.taken ∙ ap (λ (n : ℕ). drop n c.args.choices.now) all

pub returns-clause-made : goal.returns-clause-made
returns-clause-made c = c.loop-k.invariant.made
