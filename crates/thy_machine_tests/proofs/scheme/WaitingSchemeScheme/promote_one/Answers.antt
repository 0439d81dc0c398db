use Rattle.thy_block.specs.Device.{Device}
use Rattle.thy_scheme_parts.specs.Calls.{promoted}
use Rattle.thy_thynvm_parts.specs.Design.{thynvm_design}
use Rattle.thy_composed_scheme.proofs.CallLemmas.{promoted_then}
use Rattle.thy_test_support.specs.Waiting.{Waiting}
use Rattle.thy_machine_tests.specs.Calls.{Below, with_below}
use Rattle.thy_machine_tests.proofs.CallLemmas.{promotes-none, promotes-on, promotion-fails, promotion-stays}
use Rattle.thy_machine_tests.proofs.scheme.WaitingSchemeScheme.promote_one.Goals as goal

pub promote_next-requires-clause-sized : goal.promote_next-requires-clause-sized
promote_next-requires-clause-sized g c = c.requires.stands.stands.sound.below.held.moment.sized

pub promote_next-requires-clause-up : goal.promote_next-requires-clause-up
promote_next-requires-clause-up g c = c.requires.stands.stands.up

pub returns-clause-ok : goal.returns-clause-ok
returns-clause-ok g c = λ some o k stands.
    promotes-on o k c.args.self.now c.promote_next.new.self (g.N.Nvm.device c.args.nvm.now) (g.N.Nvm.device c.promote_next.new.nvm)
    c.promote_next.result some c.promote_next.ensures.promotes c.promote_next.ensures.reads stands

pub returns-clause-none : goal.returns-clause-none
returns-clause-none g c = λ none.
    promotes-none c.args.self.now c.promote_next.new.self (g.N.Nvm.device c.args.nvm.now) (g.N.Nvm.device c.promote_next.new.nvm)
    c.promote_next.result none c.promote_next.ensures.promotes c.promote_next.ensures.some c.promote_next.ensures.reads

pub returns-clause-err : goal.returns-clause-err
returns-clause-err g c =
    promotion-fails (g.N.Nvm.device c.args.nvm.now) (g.N.Nvm.device c.promote_next.new.nvm) c.promote_next.result c.promote_next.ensures.reads

pub returns-clause-left : goal.returns-clause-left
returns-clause-left g c =
    let w : Waiting Below = c.args.self.now in
    let n : Device = g.N.Nvm.device c.args.nvm.now in
    promotion-stays w c.promote_next.new.self (with_below (promoted thynvm_design w.below n) w) c.promote_next.result c.promote_next.ensures.promotes

pub returns-clause-exact : goal.returns-clause-exact
returns-clause-exact g c =
    let w : Waiting Below = c.args.self.now in
    let n : Device = g.N.Nvm.device c.args.nvm.now in
    promoted_then (with_below (promoted thynvm_design w.below n) w) w c.promote_next.new.self n (g.N.Nvm.device c.promote_next.new.nvm)
    c.promote_next.result c.promote_next.ensures.promotes c.promote_next.ensures.reads
