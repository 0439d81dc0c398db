use Rattle.std.proofs.Common.{◌∙◌, Option, sym, ap, slice_index}
use Rattle.thy_isa.specs.declared.state.OtherHart.{OtherHart}
use Rattle.thy_layout.specs.Cpu.{second_words}
use Rattle.thy_layout.proofs.CpuLemmas.{second_words-none}
use Rattle.thy_layout.proofs.cpu.other_word.Goals as goal

pub returns-in-Some : goal.returns-in-Some
returns-in-Some c = c.second_word.ensures ∙ sym (ap (λ (o : Option OtherHart). slice_index (second_words o) c.args.i) c.in-Some.is)

pub returns-in-None : goal.returns-in-None
returns-in-None c = sym (ap (λ (o : Option OtherHart). slice_index (second_words o) c.args.i) c.in-None.is ∙ second_words-none c.args.i)
