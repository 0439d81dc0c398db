use Rattle.std.proofs.Common.{◌∷◌, [], sym, ◌∙◌, ap, subst, refl, append-nil}
use Rattle.std.specs.Prelude.{Option, IfSome}
use Rattle.thy_block.specs.Device.{Device}
use Rattle.thy_gap.specs.Seen.{seen_as}
use Rattle.thy_nvm.specs.Calls.{is_listed}
use Rattle.thy_nvm.specs.Pick.{picked}
use Rattle.thy_run.specs.Going.{origin_of}
use Rattle.thy_sweep.specs.Lying.{Lying, lying}
use Rattle.thy_sweep.specs.declared.trial.room.Found.{Found}
use Rattle.thy_sweep.specs.Rooms.{ListsPick, number_by}
use Rattle.thy_sweep.specs.Trials.{IsTried}
use Rattle.sweep.specs.Rows.{AreApart}
use Rattle.sweep.specs.Sweeping.{most_cycles}
use Rattle.sweep.proofs.RowLemmas.{HasTried-none, apart-one, listed-last}
use Rattle.sweep.proofs.trying.note_pick.Goals as goal

pub returns-in-None-clause-tried : goal.returns-in-None-clause-tried
returns-in-None-clause-tried g c =
    let n : Device = g.N.OverMemory.memory c.args.nvm.now in
    let d : Lying = lying g.N.OverMemory.levels (g.N.OverMemory.memory c.args.nvm.now) (g.N.Nvm.device c.args.nvm.now) in
    let pick = c.args.pick in
    let before = c.args.numbers.now.items in
    let after = c.try_pick.new.numbers.items in
    let l = subst (λ (x : Option Found). ListsPick pick n before after x) c.in-None.is c.in_ok-trial.ensures.listed in
    record {
      tries = [];
      has = HasTried-none g.M.Computer.kind c.args.part c.args.plan.now d c.args.mix.now c.args.row.now;
      are = tt;
      lists = l.0 ∙ sym (append-nil before);
      known = ap (is_listed (number_by pick n)) l.0 ∙ l.1;
      apart = λ whole apart. subst AreApart (sym l.0) apart;
    }

pub returns-in-Ok-clause-tried : goal.returns-in-Ok-clause-tried
returns-in-Ok-clause-tried g c =
    let K = g.M.Computer.kind in
    let plan = c.args.plan.now in
    let n : Device = g.N.OverMemory.memory c.args.nvm.now in
    let d : Lying = lying g.N.OverMemory.levels (g.N.OverMemory.memory c.args.nvm.now) (g.N.Nvm.device c.args.nvm.now) in
    let pick = c.args.pick in
    let image = picked n.whole pick n.image n.queue in
    let f : Found = c.in-Some.found in
    let before = c.args.numbers.now.items in
    let after = c.try_pick.new.numbers.items in
    let l = subst (λ (x : Option Found). ListsPick pick n before after x) c.in-Some.is c.in_ok-trial.ensures.listed in
    record {
      tries = record { pick = pick; image = image; booted = f.booted; state = f.state } ∷ [];
      has = record {
        each = (
          λ w at few.
              subst (λ (x : Option Found). IfSome x (λ y. IsTried K (origin_of plan) pick c.args.part (seen_as d.levels image) w most_cycles y.booted y.state)) c.in-Some.is
              (c.in_ok-trial.ensures.tried w at few),
          tt,
        );
        leads = c.in-Ok.ensures.leads;
        tried = c.note.ensures.tried;
        first = c.note.ensures.first;
        last = c.note.ensures.last;
        queued = c.note.ensures.queued;
        images = c.note.ensures.images;
      };
      are = ((refl, refl), tt);
      lists = l.0;
      known = ap (is_listed (number_by pick n)) l.0 ∙ listed-last (number_by pick n) before;
      apart = λ whole apart. subst AreApart (sym l.0) (apart-one (number_by pick n) before apart (l.1 whole));
    }
