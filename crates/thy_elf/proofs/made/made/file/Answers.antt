use Rattle.std.proofs.Common.{◌≡◌, ◌∙◌, ap, length, arith}
use Rattle.std.proofs.lemmas.Result.{IfOk-weaker}
use Rattle.thy_block.specs.Bytes.{bytes_of}
use Rattle.thy_block.specs.declared.bytes.Bytes.{Bytes}
use Rattle.thy_elf.specs.MadeFile.{made_file, file_of}
use Rattle.thy_elf.proofs.FileLemmas.{length-made_file}
use Rattle.thy_elf.proofs.ProgramLemmas.{length-made_words}
use Rattle.thy_elf.proofs.made.made.file.Goals as goal

pub small_file-requires : goal.small_file-requires
small_file-requires c =
    let words = c.as_slice.ensures.value ∙ c.in_ok-words.ensures in
    let all = length-made_words c.args.n in
    omega (arith, ap length words, all)

pub returns-clause-file : goal.returns-clause-file
unfolding made_file
returns-clause-file c =
    let words = c.as_slice.ensures.value ∙ c.in_ok-words.ensures in
    IfOk-weaker c.small_file.result (λ (f : Bytes). bytes_of f ≡ file_of c.as_slice.result.now)
    (λ (f : Bytes). bytes_of f ≡ made_file c.args.n)
    (λ f e. e ∙ ap file_of words) c.small_file.ensures

pub returns-clause-len : goal.returns-clause-len
unfolding made_file
returns-clause-len c =
    let words = c.as_slice.ensures.value ∙ c.in_ok-words.ensures in
    IfOk-weaker c.small_file.result (λ (f : Bytes). bytes_of f ≡ file_of c.as_slice.result.now)
    (λ (f : Bytes). length (bytes_of f) ≡ 24148)
    (λ f e. ap length (e ∙ ap file_of words) ∙ length-made_file c.args.n) c.small_file.ensures
