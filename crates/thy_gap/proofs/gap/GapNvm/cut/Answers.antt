use Rattle.std.proofs.lemmas.Grind.{common_steps}
use Rattle.std.proofs.Common.{sym, arith}
use Rattle.thy_gap.proofs.SoundLemmas.{fitted_where_cut, cut_seen}
use Rattle.thy_gap.proofs.gap.GapNvm.cut.Goals as goal

pub invariant_of-self : goal.invariant_of-self
invariant_of-self g c =
    (cut_seen c.self.invariant c.args.pick
    (g.N.Nvm.device c.cut.new.self) c.registers_kept-registers.result c.counted_on-self-inside.result c.moves_on-self-inside.result
    (fitted_where_cut c.self.invariant (rw (sym c.self.view_is) at c.requires)) c.cut.ensures.cut c.registers_kept-registers.ensures
    c.counted_on-self-inside.ensures c.moves_on-self-inside.ensures).1

pub returns-clause-cut : goal.returns-clause-cut
returns-clause-cut g c =
    rw (sym c.self.view_is)
    (cut_seen c.self.invariant c.args.pick
    (g.N.Nvm.device c.cut.new.self) c.registers_kept-registers.result c.counted_on-self-inside.result c.moves_on-self-inside.result
    (fitted_where_cut c.self.invariant (rw (sym c.self.view_is) at c.requires)) c.cut.ensures.cut c.registers_kept-registers.ensures
    c.counted_on-self-inside.ensures c.moves_on-self-inside.ensures).0

pub returns-clause-registers : goal.returns-clause-registers
returns-clause-registers g c = grind (arith, common_steps)
