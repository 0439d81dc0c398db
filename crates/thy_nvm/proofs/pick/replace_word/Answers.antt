use Rattle.std.proofs.Common.{◌≡◌, ◌+◌, ◌-◌, ◌*◌, length, take, drop, sym, ap, subst, ◌∙◌, arith}
use Rattle.thy_block.specs.Blocks.{overwritten}
use Rattle.thy_block.specs.Device.{word_bytes, IsMadeOf}
use Rattle.thy_block.specs.declared.block.Block.{Block}
use Rattle.thy_nvm.proofs.PickLemmas.{IsMadeOf-put, word-put, other_word-put}
use Rattle.thy_nvm.proofs.pick.replace_word.Goals as goal

pub returns-clause-word : goal.returns-clause-word
returns-clause-word c =
    let eight : 8 * c.args.k + 8 - 8 * c.args.k ≡ 8 = omega arith in
    c.put.ensures ∙ ap (λ n. overwritten (8 * c.args.k) (take n (drop (8 * c.args.k) c.args.from.now.0)) c.args.block.now) eight

pub returns-clause-there : goal.returns-clause-there
returns-clause-there c =
    let long : length c.args.block.now.0 ≡ 64 = omega arith in
    let long_from : length c.args.from.now.0 ≡ 64 = omega arith in
    ap (λ (b : Block). word_bytes b c.args.k) (returns-clause-word c)
    ∙ word-put c.args.block.now c.args.from.now c.args.k long long_from c.requires

pub returns-clause-others : goal.returns-clause-others
returns-clause-others c = λ i ne.
    let long : length c.args.block.now.0 ≡ 64 = omega arith in
    let long_from : length c.args.from.now.0 ≡ 64 = omega arith in
    ap (λ (b : Block). word_bytes b i) (returns-clause-word c)
    ∙ other_word-put c.args.block.now c.args.from.now c.args.k long long_from c.requires i ne

pub returns-clause-made : goal.returns-clause-made
returns-clause-made c = λ blocks inside made.
    let long : length c.args.block.now.0 ≡ 64 = omega arith in
    let long_from : length c.args.from.now.0 ≡ 64 = omega arith in
    subst (IsMadeOf blocks) (sym (returns-clause-word c))
    (IsMadeOf-put c.args.block.now c.args.from.now c.args.k long long_from c.requires blocks inside made)
