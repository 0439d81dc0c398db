use Rattle.std.proofs.Common.{◌≡◌, sym, ◌∙◌, subst}
use Rattle.thy_block.specs.Device.{Device}
use Rattle.thy_isa.specs.Step.{State, state_of}
use Rattle.thy_checkpoint.specs.declared.boot_stage.Stage.{Stage}
use Rattle.thy_checkpoint.specs.declared.boot_stage.Stage.TheVariants.{Reads, Migrates}
use Rattle.thy_checkpoint.specs.Boot.{Booting}
use Rattle.thy_checkpoint.specs.Steps.{CanStepAt}
use Rattle.thy_checkpoint.proofs.ActLemmas.{takes_read, takes_migration}
use Rattle.thy_checkpoint.proofs.boot.Boot.take_next.Goals as goal

pub returns-in-Reads : goal.returns-in-Reads
returns-in-Reads g c =
    let n : Device = g.N.Nvm.device c.args.nvm.now in
    let b : Booting = c.args.self.now in
    let s : State = state_of c.args.start.now.state in
    let is : b.stage ≡ Reads c.in-Reads.at = sym c.stage.ensures ∙ c.in-Reads.is in
    takes_read g.F.Fills.filling g.met.F.Fills.lawful c.read_next.result s c.in-Reads.at n b c.args.control.now
    (g.N.Nvm.device c.read_next.new.nvm) c.read_next.new.self c.read_next.new.control is c.requires.fits
    (subst (λ (q : Stage). CanStepAt g.F.Fills.filling q s n b c.args.control.now) is c.requires.can)
    c.read_next.ensures.goes c.read_next.ensures.fills c.read_next.ensures.block c.read_next.ensures.boot
    c.read_next.ensures.control c.read_next.ensures.nvm

pub returns-in-Migrates : goal.returns-in-Migrates
returns-in-Migrates g c =
    let n : Device = g.N.Nvm.device c.args.nvm.now in
    let b : Booting = c.args.self.now in
    let s : State = state_of c.args.start.now.state in
    let is : b.stage ≡ Migrates c.in-Migrates.round = sym c.stage.ensures ∙ c.in-Migrates.is in
    takes_migration g.F.Fills.filling g.met.F.Fills.lawful c.migrate.result s c.in-Migrates.round n b c.args.control.now
    (g.N.Nvm.device c.migrate.new.nvm) c.migrate.new.self is c.requires.fits
    (subst (λ (q : Stage). CanStepAt g.F.Fills.filling q s n b c.args.control.now) is c.requires.can)
    c.migrate.ensures.boot c.migrate.ensures.kept c.migrate.ensures.nvm
