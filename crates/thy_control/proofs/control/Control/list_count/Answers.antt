use Rattle.std.proofs.Common.{◌<◌, sym, subst, arith, refl}
use Rattle.thy_control.specs.State.{State, AreSoundTables}
use Rattle.thy_control.specs.Boot.{IsBooting, HaveTables}
use Rattle.thy_control.specs.CheckpointTables.{tables0}
use Rattle.thy_control.proofs.BootLemmas.{AreSoundTables-count, IsBooting-count, HaveTables-count, count_put_is}
use Rattle.thy_control.proofs.control.Control.list_count.Goals as goal

pub set_last-requires-clause-page : goal.set_last-requires-clause-page
set_last-requires-clause-page c =
    let inside : c.args.page < c.self.inside.geometry.pages
    = subst (λ (t : State). c.args.page < t.p.pages) (sym c.self.view_is) c.requires.may.page in
    omega (arith, inside, c.self.invariant.tables.counts.size)

pub set_last-requires-clause-count : goal.set_last-requires-clause-count
set_last-requires-clause-count c = c.requires.may.within

pub invariant_of-self : goal.invariant_of-self
invariant_of-self c =
    let sound = AreSoundTables-count c.args.page c.args.count _ c.self.invariant.tables
    c.requires.may.within in
    record {
      tables = subst AreSoundTables
          (sym (count_put_is refl c.args.page c.args.count c.set_last.ensures)) sound;
      marks = c.self.invariant.marks;
      cursors = c.self.invariant.cursors;
    }

pub returns : goal.returns
returns c =
    let s : State = c.args.self.now in
    let state = count_put_is c.self.view_is c.args.page c.args.count c.set_last.ensures in
    record {
      state = state;
      booting = subst IsBooting (sym state)
          (IsBooting-count c.args.page c.args.count s c.requires.booting);
      tables = subst (λ (t : State). HaveTables t (tables0 s)) (sym state)
          (HaveTables-count c.args.page c.args.count s c.requires.booting);
    }
