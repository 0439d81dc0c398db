use Rattle.std.proofs.Common.{refl}
use Rattle.thy_block.specs.declared.parameters.SchemeName.TheVariants.{Thynvm, Journal, Shadow}
use Rattle.thy_outcome.specs.Answering.{around, nvm_of}
use Rattle.thy_files.proofs.RestoringLaws.{reads_by}
use Rattle.thy_cli.proofs.ClaimLaws.{ClaimSeen-answered}
use Rattle.thy_cli.proofs.top.observed.Goals as goal

pub carry_out-requires-clause-thynvm : goal.carry_out-requires-clause-thynvm
carry_out-requires-clause-thynvm g c = reads_by _ Thynvm (λ p ceiling image. refl) (λ p. refl)

pub carry_out-requires-clause-journal : goal.carry_out-requires-clause-journal
carry_out-requires-clause-journal g c = reads_by _ Journal (λ p ceiling image. refl) (λ p. refl)

pub carry_out-requires-clause-shadow : goal.carry_out-requires-clause-shadow
carry_out-requires-clause-shadow g c = reads_by _ Shadow (λ p ceiling image. refl) (λ p. refl)

pub returns : goal.returns
returns g c =
    let before = around (g.H.Shelf.stock c.args.shelf.now) c.args.nvm.now (g.T.Sink.stream c.args.terminal.now)
    (g.R.Sink.stream c.args.report.now) in
    let after = around (g.H.Shelf.stock c.carry_out.new.shelf) c.carry_out.new.nvm (g.T.Sink.stream c.carry_out.new.terminal)
    (g.R.Sink.stream c.carry_out.new.report) in
    ClaimSeen-answered _ (nvm_of g.N.Nvm.device) g.O.Observer.has_seen g.O.Observer.has_seen_last _ before after
    c.carry_out.result c.carry_out.new.observer
    c.carry_out.ensures.0 c.carry_out.ensures.1
