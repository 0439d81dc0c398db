use Rattle.std.proofs.Common.{if◌then◌else◌, ap, sym, arith, [], map}
use Rattle.std.proofs.lemmas.Bool.{ne_eqb}
use Rattle.thy_block.proofs.CrashLemmas.{Crash-image}
use Rattle.thy_gap.specs.Seen.{unmapped}
use Rattle.thy_gap.proofs.CutLemmas.{unmapped-left, Crash-seen}
use Rattle.thy_gap.proofs.SoundLemmas.{line_seen, registers_turned}
use Rattle.thy_gap.proofs.gap.Gap.recall_meaning.Goals as goal

pub returns-clause-image : goal.returns-clause-image
returns-clause-image g c =
    rw (sym c.self.view_is)
    (λ some. unmapped-left c.self.inside.registers c.self.inside.cuts (g.N.Nvm.device c.self.inside.inner) (g.N.Nvm.device c.self.inside.inner).image
    (c.self.invariant.fitted (line_seen c.self.invariant 0 some)) (Crash-image (g.N.Nvm.device c.self.inside.inner)))

pub returns-clause-crash : goal.returns-clause-crash
returns-clause-crash g c =
    rw (sym c.self.view_is)
    (λ some image left.
    let lines = Crash-seen c.self.inside.registers c.self.inside.cuts (g.N.Nvm.device c.self.inside.inner) image
    (c.self.invariant.fitted (line_seen c.self.invariant 0 some)) left in
    record { same_length = lines.same_length; each = lines.each })

pub returns-clause-left : goal.returns-clause-left
returns-clause-left g c =
    rw (sym c.self.view_is)
    (λ some. ap (λ t. if t then [] else map unmapped (g.N.Nvm.device c.self.inside.inner).left)
    (sym (ne_eqb c.self.inside.registers.lines 0 (λ e. omega (arith, e, line_seen c.self.invariant 0 some)))))

pub returns-clause-moves : goal.returns-clause-moves
returns-clause-moves g c = rw (sym c.self.view_is) (λ some up few. registers_turned c.self.invariant some up few)
