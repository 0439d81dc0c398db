use Rattle.thy_thynvm_parts.specs.Design.{thynvm_design}
use Rattle.thy_thynvm_parts.proofs.PartsLemmas.{are_parts}
use Rattle.thy_thynvm_parts.specs.Scheme.{thynvm_scheme}
use Rattle.thy_scheme_parts.proofs.BootStepLemmas.{may-step}
use Rattle.thy_test_support.proofs.BootLemmas.{below-boots}
use Rattle.thy_machine_tests.proofs.CallLemmas.{boots-on, boot-fails-on, boot-stays, boot-made}
use Rattle.thy_machine_tests.proofs.scheme.WaitingSchemeScheme.boot_step.Goals as goal

pub take_boot_step-requires-clause-can : goal.take_boot_step-requires-clause-can
take_boot_step-requires-clause-can g c =
    let can = c.requires.boots in
    may-step thynvm_design are_parts c.args.start.now c.args.self.now.below (g.N.Nvm.device c.args.nvm.now)
    (record { o = can.o; begins = can.begins; booting = below-boots thynvm_scheme can.o c.args.self.now (g.N.Nvm.device c.args.nvm.now) can.booting })

pub take_boot_step-requires-clause-fits : goal.take_boot_step-requires-clause-fits
take_boot_step-requires-clause-fits g c = c.requires.boots.booting.boots.below.boot

pub take_boot_step-requires-clause-up : goal.take_boot_step-requires-clause-up
take_boot_step-requires-clause-up g c = c.requires.boots.booting.up

pub returns-clause-ok : goal.returns-clause-ok
returns-clause-ok g c = λ o begins booting.
    boots-on o c.args.start.now c.args.self.now c.take_boot_step.new.self (g.N.Nvm.device c.args.nvm.now)
    (g.N.Nvm.device c.take_boot_step.new.nvm) begins booting c.take_boot_step.ensures.sound c.take_boot_step.result c.take_boot_step.ensures.takes

pub returns-clause-err : goal.returns-clause-err
returns-clause-err g c = λ o begins booting.
    boot-fails-on o c.args.start.now c.args.self.now c.take_boot_step.new.self (g.N.Nvm.device c.args.nvm.now)
    (g.N.Nvm.device c.take_boot_step.new.nvm) begins booting c.take_boot_step.ensures.sound c.take_boot_step.result c.take_boot_step.ensures.takes

pub returns-clause-left : goal.returns-clause-left
returns-clause-left g c =
    boot-stays c.args.start.now c.args.self.now c.take_boot_step.new.self (g.N.Nvm.device c.args.nvm.now)
    (g.N.Nvm.device c.take_boot_step.new.nvm) c.take_boot_step.result c.take_boot_step.ensures.takes

pub returns-clause-frame : goal.returns-clause-frame
returns-clause-frame g c = c.take_boot_step.ensures.takes.below.steps.frame

pub returns-clause-cause : goal.returns-clause-cause
returns-clause-cause g c = c.take_boot_step.ensures.takes.below.steps.cause

pub returns-clause-exact : goal.returns-clause-exact
returns-clause-exact g c =
    boot-made c.args.start.now c.args.self.now c.take_boot_step.new.self (g.N.Nvm.device c.args.nvm.now)
    (g.N.Nvm.device c.take_boot_step.new.nvm) c.take_boot_step.result c.take_boot_step.ensures.takes
