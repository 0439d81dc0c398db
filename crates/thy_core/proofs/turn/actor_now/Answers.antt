use Rattle.std.proofs.Common.{◌==◌, length, sym, ◌∙◌, ap}
use Rattle.std.proofs.lemmas.Bool.{and_parts, eqb-true}
use Rattle.thy_computer.specs.NextActor.{Advances}
use Rattle.thy_core.specs.MachineParts.{machine_of}
use Rattle.thy_core.proofs.CalmLaws.{calm_turn}
use Rattle.thy_core.proofs.turn.actor_now.Goals as goal

pub returns-then-only_harts : goal.returns-then-only_harts
returns-then-only_harts g c =
    let queued = length (g.N.Nvm.device c.args.nvm.now).queue in
    let both = and_parts c.args.m.now.store.calm (queued == 0) (sym c.only_harts.ensures ∙ c.if-only_harts.true) in
    ap Advances c.hart_of.ensures
    ∙ sym (calm_turn g.S.Scheme.scheme (machine_of c.args.m.now) (c.requires.known both.0) c.args.pick queued (eqb-true queued 0 both.1))
