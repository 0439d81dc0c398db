use Rattle.thy_elf.proofs.ProgramLemmas.{words_joined}
use Rattle.thy_elf.proofs.made.program.words.Goals as goal

pub returns : goal.returns
returns c =
    words_joined c.args.n _ _ _ _ _ _ c.opening.ensures c.closing.ensures c.in_ok-words.ensures.items c.in_ok-push_all.ensures
    c.in_ok-push_stores.ensures c.in_ok-push_all-2.ensures
