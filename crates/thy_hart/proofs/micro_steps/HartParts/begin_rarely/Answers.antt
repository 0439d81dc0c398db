use Rattle.thy_hart.proofs.FetchLemmas.{tested}
use Rattle.thy_hart.proofs.micro_steps.HartParts.begin_rarely.Goals as goal

pub begin-requires-clause-inside : goal.begin-requires-clause-inside
begin-requires-clause-inside c =
    tested c.args.self.now.geometry c.numbers-base.result c.program_size-size.result c.args.self.now.cpu.other
    c.word_effect-meant.result c.within-effect.result
    c.numbers-base.ensures.same c.program_size-size.ensures.size c.within-effect.ensures
