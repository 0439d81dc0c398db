use Rattle.std.proofs.Common.{◌≡◌, ◌+◌, ◌<◌, ℕ, true, sym, ◌∙◌, ap, subst, refl, arith}
use Rattle.thy_block.specs.Device.{Device}
use Rattle.thy_computer.specs.declared.did.Stepped.{Stepped}
use Rattle.thy_computer.specs.Advances.{IsOthersCycle}
use Rattle.thy_run.specs.declared.progress.Progress.{Progress}
use Rattle.thy_run.specs.Due.{IsQuiet}
use Rattle.thy_run.specs.Going.{HasDrawn, IsStepped}
use Rattle.thy_run.specs.Quiet.{IsLed, PassesTo, PassedTo}
use Rattle.thy_run.specs.Seeing.{Watched}
use Rattle.thy_run.proofs.QuietLemmas.{IsLed-advanced, IsLed-passed, IsLed-row, IsLed-rowless, AreQuietBelow-on, IsRowEnd-on, drawn_on}
use Rattle.thy_run.proofs.SeeingLemmas.{CanSee-watched}
use Rattle.thy_run.proofs.quiet.run_quiet.Goals as goal
use Rattle.thy_run.proofs.quiet.run_quiet.Goals.{in-Advanced+else-not-stays_quiet, in-Left+in_default}

-- ---- cycles in a row

pub pass_row-taken-requires-clause-watched : goal.pass_row-taken-requires-clause-watched
pass_row-taken-requires-clause-watched g c =
    let h = c.requires.watched in
    let led = c.loop-now.invariant.led h.0 h.1 h.2 h.3 in
    (h.0, led.turns, led.goes, led.watched)

pub pass_row-taken-requires-clause-end : goal.pass_row-taken-requires-clause-end
pass_row-taken-requires-clause-end g c =
    let h = c.requires.watched in
    let led = c.loop-now.invariant.led h.0 h.1 h.2 h.3 in
    IsRowEnd-on c.args.plan.now c.args.progress.now c.loop-now.progress c.quiet_below-below.result c.row_end-end.result led.uncut
    led.fresh c.quiet_below-below.ensures
    c.row_end-end.ensures.limit c.row_end-end.ensures.below

pub pass_row-taken-requires-clause-few : goal.pass_row-taken-requires-clause-few
pass_row-taken-requires-clause-few g c =
    let limit : c.numbers-limit.result.limit ≡ c.args.plan.now.geometry.limit = ap (λ p. p.limit) c.numbers-limit.ensures.same in
    subst (λ (l : ℕ). c.loop-now.now < l) limit c.loop-now-test.true

-- ---- a cycle on its own

-- the run continues, but for the pick that was drawn
pub advance-requires-clause-drawn : goal.advance-requires-clause-drawn
advance-requires-clause-drawn g c =
    let h = c.requires.watched in
    let led = IsLed-rowless g.M.Computer.kind g.O.Observer.has_seen c.args.plan.now h.0 c.args.progress.now c.loop-now.progress
    c.pass_row-taken.new.progress (g.N.Nvm.device c.loop-now.nvm)
    c.args.done c.loop-now.now c.pass_row-taken.result c.loop-now.observer c.pass_row-taken.new.observer c.if-taken-gt0.false
    c.pass_row-taken.ensures.leads (c.loop-now.invariant.led h.0 h.1 h.2 h.3) in (
      h.0,
      led.turns,
      drawn_on g.M.Computer.kind c.args.plan.now h.0 c.pass_row-taken.new.progress
          (g.N.Nvm.device c.loop-now.nvm) c.loop-now.now led.turns c.harts-harts.result c.next-pick.new.self c.next-pick.result
          c.harts-harts.ensures.harts c.next-pick.ensures.pick c.next-pick.ensures.after led.goes,
    )

pub see-requires : goal.see-requires
see-requires g c =
    let h = c.requires.watched in
    let led = IsLed-rowless g.M.Computer.kind g.O.Observer.has_seen c.args.plan.now h.0 c.args.progress.now c.loop-now.progress
    c.pass_row-taken.new.progress (g.N.Nvm.device c.loop-now.nvm)
    c.args.done c.loop-now.now c.pass_row-taken.result c.loop-now.observer c.pass_row-taken.new.observer c.if-taken-gt0.false
    c.pass_row-taken.ensures.leads (c.loop-now.invariant.led h.0 h.1 h.2 h.3) in
    CanSee-watched g.M.Computer.kind g.O.Observer.has_seen c.args.plan.now h.0 c.pass_row-taken.new.progress
    (g.N.Nvm.device c.loop-now.nvm) c.loop-now.now led.turns c.pass_row-taken.new.observer led.watched

-- no cut fell since the loop began
pub stays_quiet-requires : goal.stays_quiet-requires
stays_quiet-requires g c =
    let h = c.requires.watched in
    let plan = c.args.plan.now in
    let p = c.pass_row-taken.new.progress in
    let led = IsLed-rowless g.M.Computer.kind g.O.Observer.has_seen c.args.plan.now h.0 c.args.progress.now c.loop-now.progress
    c.pass_row-taken.new.progress (g.N.Nvm.device c.loop-now.nvm)
    c.args.done c.loop-now.now c.pass_row-taken.result c.loop-now.observer c.pass_row-taken.new.observer c.if-taken-gt0.false
    c.pass_row-taken.ensures.leads (c.loop-now.invariant.led h.0 h.1 h.2 h.3) in
    let d = drawn_on g.M.Computer.kind plan h.0 p
    (g.N.Nvm.device c.loop-now.nvm) c.loop-now.now led.turns c.harts-harts.result c.next-pick.new.self c.next-pick.result
    c.harts-harts.ensures.harts c.next-pick.ensures.pick c.next-pick.ensures.after led.goes in
    let same = (c.in-Advanced.ensures.advances h.0 led.turns d).same in
    AreQuietBelow-on plan.config.cuts c.args.progress.now c.advance.new.progress c.quiet_below-below.result
    (ap (λ (y : Progress g.row.M.Denot). y.passed) same ∙ led.uncut) (ap (λ (y : Progress g.row.M.Denot). y.fresh) same ∙ led.fresh)
    c.quiet_below-below.ensures

-- a hart advanced, and there is something to report
pub returns-then-not-stays_quiet : goal.returns-then-not-stays_quiet
returns-then-not-stays_quiet g c = λ fitted turns goes w.
    let K = g.M.Computer.kind in
    let plan = c.args.plan.now in
    let p = c.pass_row-taken.new.progress in
    let n = g.N.Nvm.device c.loop-now.nvm in
    let led = IsLed-rowless g.M.Computer.kind g.O.Observer.has_seen c.args.plan.now fitted c.args.progress.now c.loop-now.progress
    c.pass_row-taken.new.progress (g.N.Nvm.device c.loop-now.nvm)
    c.args.done c.loop-now.now c.pass_row-taken.result c.loop-now.observer c.pass_row-taken.new.observer c.if-taken-gt0.false
    c.pass_row-taken.ensures.leads (c.loop-now.invariant.led fitted turns goes w) in
    let limit : c.numbers-limit.result.limit ≡ plan.geometry.limit = ap (λ p. p.limit) c.numbers-limit.ensures.same in
    let q : Progress g.row.M.Denot = record p { mix = c.next-pick.new.self } in
    let next = c.advance.new.progress in
    let m = g.N.Nvm.device c.advance.new.nvm in
    let d = drawn_on K plan fitted p n c.loop-now.now led.turns c.harts-harts.result c.next-pick.new.self c.next-pick.result
    c.harts-harts.ensures.harts c.next-pick.ensures.pick c.next-pick.ensures.after led.goes in
    let came = c.in-Advanced.ensures.advances in
    record {
      progress = p;
      device = n;
      led = led;
      stops = (
        subst (λ (l : ℕ). c.loop-now.now < l) limit c.loop-now-test.true,
        subst (λ (r : Stepped). IsStepped K plan p next n m c.loop-now.now led.turns r) (sym c.stepped.ensures) (came fitted led.turns d),
        λ quiet. absurd (
            let yes : c.stays_quiet.result ≡ true = (c.stays_quiet.ensures c.in-Advanced.advance).1
            (subst (λ (r : Stepped). IsQuiet plan.config.cuts next r (c.loop-now.now + 1)) c.stepped.ensures quiet) in
            let no = c.if-not-stays_quiet.true in
            cc
            ),
      );
    }

-- the cycle is another actor's: nothing was done before it
pub pass_other-requires-clause-drawn : goal.pass_other-requires-clause-drawn
pass_other-requires-clause-drawn g c =
    let K = g.M.Computer.kind in
    let plan = c.args.plan.now in
    let p = c.pass_row-taken.new.progress in
    let n = g.N.Nvm.device c.loop-now.nvm in
    let h = c.requires.watched in
    let led = IsLed-rowless g.M.Computer.kind g.O.Observer.has_seen c.args.plan.now h.0 c.args.progress.now c.loop-now.progress
    c.pass_row-taken.new.progress (g.N.Nvm.device c.loop-now.nvm)
    c.args.done c.loop-now.now c.pass_row-taken.result c.loop-now.observer c.pass_row-taken.new.observer c.if-taken-gt0.false
    c.pass_row-taken.ensures.leads (c.loop-now.invariant.led h.0 h.1 h.2 h.3) in
    let q : Progress g.row.M.Denot = record p { mix = c.next-pick.new.self } in
    let next = c.advance.new.progress in
    let m = g.N.Nvm.device c.advance.new.nvm in
    let d = drawn_on K plan h.0 p n c.loop-now.now led.turns c.harts-harts.result c.next-pick.new.self c.next-pick.result
    c.harts-harts.ensures.harts c.next-pick.ensures.pick c.next-pick.ensures.after led.goes in
    let left = c.in-Left.ensures.advances h.0 led.turns d in (
      h.0,
      led.turns,
      subst (λ (x : Progress g.row.M.Denot). HasDrawn K plan h.0 x m c.loop-now.now led.turns c.next-pick.result) (sym left.0)
          (subst (λ (x : Device). HasDrawn K plan h.0 q x c.loop-now.now led.turns c.next-pick.result) (sym left.1) d),
    )

pub pass_other-requires-clause-others : goal.pass_other-requires-clause-others
pass_other-requires-clause-others g c =
    let K = g.M.Computer.kind in
    let plan = c.args.plan.now in
    let p = c.pass_row-taken.new.progress in
    let n = g.N.Nvm.device c.loop-now.nvm in
    let h = c.requires.watched in
    let led = IsLed-rowless g.M.Computer.kind g.O.Observer.has_seen c.args.plan.now h.0 c.args.progress.now c.loop-now.progress
    c.pass_row-taken.new.progress (g.N.Nvm.device c.loop-now.nvm)
    c.args.done c.loop-now.now c.pass_row-taken.result c.loop-now.observer c.pass_row-taken.new.observer c.if-taken-gt0.false
    c.pass_row-taken.ensures.leads (c.loop-now.invariant.led h.0 h.1 h.2 h.3) in
    let q : Progress g.row.M.Denot = record p { mix = c.next-pick.new.self } in
    let next = c.advance.new.progress in
    let m = g.N.Nvm.device c.advance.new.nvm in
    let d = drawn_on K plan h.0 p n c.loop-now.now led.turns c.harts-harts.result c.next-pick.new.self c.next-pick.result
    c.harts-harts.ensures.harts c.next-pick.ensures.pick c.next-pick.ensures.after led.goes in
    let left = c.in-Left.ensures.advances h.0 led.turns d in
    subst (λ (x : Progress g.row.M.Denot). IsOthersCycle K c.next-pick.result x.machine m) (sym left.0)
    (subst (λ (x : Device). IsOthersCycle K c.next-pick.result q.machine x) (sym left.1) (c.advance.ensures.others c.in-Left.is))

pub pass_other-requires-clause-unseen : goal.pass_other-requires-clause-unseen
pass_other-requires-clause-unseen g c =
    let h = c.requires.watched in
    let led = IsLed-rowless g.M.Computer.kind g.O.Observer.has_seen c.args.plan.now h.0 c.args.progress.now c.loop-now.progress
    c.pass_row-taken.new.progress (g.N.Nvm.device c.loop-now.nvm)
    c.args.done c.loop-now.now c.pass_row-taken.result c.loop-now.observer c.pass_row-taken.new.observer c.if-taken-gt0.false
    c.pass_row-taken.ensures.leads (c.loop-now.invariant.led h.0 h.1 h.2 h.3) in
    CanSee-watched g.M.Computer.kind g.O.Observer.has_seen c.args.plan.now h.0 c.pass_row-taken.new.progress
    (g.N.Nvm.device c.loop-now.nvm) c.loop-now.now led.turns c.pass_row-taken.new.observer led.watched

pub pass_other-requires-clause-few : goal.pass_other-requires-clause-few
pass_other-requires-clause-few g c =
    let limit : c.numbers-limit.result.limit ≡ c.args.plan.now.geometry.limit = ap (λ p. p.limit) c.numbers-limit.ensures.same in
    subst (λ (l : ℕ). c.loop-now.now < l) limit c.loop-now-test.true

-- the cycle after quiet ones has something to report, or failed
pub returns-in-Some : goal.returns-in-Some
returns-in-Some g c = λ fitted turns goes w.
    let K = g.M.Computer.kind in
    let S = g.O.Observer.has_seen in
    let plan = c.args.plan.now in
    let p = c.pass_row-taken.new.progress in
    let n = g.N.Nvm.device c.loop-now.nvm in
    let o = c.pass_row-taken.new.observer in
    let led = IsLed-rowless g.M.Computer.kind g.O.Observer.has_seen c.args.plan.now fitted c.args.progress.now c.loop-now.progress
    c.pass_row-taken.new.progress (g.N.Nvm.device c.loop-now.nvm)
    c.args.done c.loop-now.now c.pass_row-taken.result c.loop-now.observer c.pass_row-taken.new.observer c.if-taken-gt0.false
    c.pass_row-taken.ensures.leads (c.loop-now.invariant.led fitted turns goes w) in
    let q : Progress g.row.M.Denot = record p { mix = c.next-pick.new.self } in
    let left_to = c.advance.new.progress in
    let left_m = g.N.Nvm.device c.advance.new.nvm in
    let next = c.pass_other.new.progress in
    let m = g.N.Nvm.device c.pass_other.new.nvm in
    let d = drawn_on K plan fitted p n c.loop-now.now led.turns c.harts-harts.result c.next-pick.new.self c.next-pick.result
    c.harts-harts.ensures.harts c.next-pick.ensures.pick c.next-pick.ensures.after led.goes in
    let left = c.in-Left.ensures.advances fitted led.turns d in
    let passed = subst (λ (x : Device). PassesTo K S plan q next x m c.loop-now.now c.next-pick.result o c.pass_other.new.observer c.pass_other.result) left.1
    (subst (λ (x : Progress g.row.M.Denot). PassesTo K S plan x next left_m m c.loop-now.now c.next-pick.result o c.pass_other.new.observer c.pass_other.result) left.0 c.pass_other.ensures) fitted led.turns d in
    let stops = subst (λ x. PassedTo K S plan p next n m c.loop-now.now led.turns o c.pass_other.new.observer x) c.in-Some.is passed in
    record {
      progress = p;
      device = n;
      led = record {
        turns = led.turns;
        goes = led.goes;
        watched = subst (Watched K S plan fitted p n c.loop-now.now led.turns) (sym stops.1) led.watched;
        unlisted = led.unlisted;
        uncut = led.uncut;
        fresh = led.fresh;
        more = led.more;
      };
      stops = stops.0;
    }

-- the step failed
pub returns-in-Failed : goal.returns-in-Failed
returns-in-Failed g c = λ fitted turns goes w.
    let plan = c.args.plan.now in
    let p = c.pass_row-taken.new.progress in
    let n = g.N.Nvm.device c.loop-now.nvm in
    let led = IsLed-rowless g.M.Computer.kind g.O.Observer.has_seen c.args.plan.now fitted c.args.progress.now c.loop-now.progress
    c.pass_row-taken.new.progress (g.N.Nvm.device c.loop-now.nvm)
    c.args.done c.loop-now.now c.pass_row-taken.result c.loop-now.observer c.pass_row-taken.new.observer c.if-taken-gt0.false
    c.pass_row-taken.ensures.leads (c.loop-now.invariant.led fitted turns goes w) in
    let limit : c.numbers-limit.result.limit ≡ plan.geometry.limit = ap (λ p. p.limit) c.numbers-limit.ensures.same in
    let d = drawn_on g.M.Computer.kind plan fitted p n c.loop-now.now led.turns c.harts-harts.result c.next-pick.new.self c.next-pick.result
    c.harts-harts.ensures.harts c.next-pick.ensures.pick c.next-pick.ensures.after led.goes in
    record {
      progress = p;
      device = n;
      led = led;
      stops = (subst (λ (l : ℕ). c.loop-now.now < l) limit c.loop-now-test.true, c.in-Failed.ensures.advances fitted led.turns d);
    }

-- the limit is reached
pub returns : goal.returns
returns g c = λ fitted turns goes w.
    let limit : c.numbers-limit.result.limit ≡ c.args.plan.now.geometry.limit = ap (λ p. p.limit) c.numbers-limit.ensures.same in
    record {
      progress = c.loop-now.progress;
      device = g.N.Nvm.device c.loop-now.nvm;
      led =
          let end : c.loop-now.now ≡ c.numbers-limit.result.limit =
          omega (arith, c.loop-now-test.false, c.loop-now.invariant.few, limit, c.requires.few) in
          subst (λ (k : ℕ). IsLed g.M.Computer.kind g.O.Observer.has_seen c.args.plan.now fitted c.args.progress.now c.loop-now.progress
          (g.N.Nvm.device c.loop-now.nvm) c.args.done k c.loop-now.observer) end
          (c.loop-now.invariant.led fitted turns goes w);
      stops = (limit, refl, refl);
    }

-- a quiet cycle was done, and the loop goes on
pub loop-now-preserved : goal.loop-now-preserved
loop-now-preserved g c = record {
  led = λ fitted turns goes w.
      let K = g.M.Computer.kind in
      let laws = g.met.M.Computer.lawful in
      let S = g.O.Observer.has_seen in
      let plan = c.args.plan.now in
      let p = c.pass_row-taken.new.progress in
      let n = g.N.Nvm.device c.loop-now.nvm in
      let k = c.loop-now.now in
      let o = c.pass_row-taken.new.observer in
      let led = IsLed-rowless g.M.Computer.kind g.O.Observer.has_seen c.args.plan.now fitted c.args.progress.now c.loop-now.progress
      c.pass_row-taken.new.progress (g.N.Nvm.device c.loop-now.nvm)
      c.args.done c.loop-now.now c.pass_row-taken.result c.loop-now.observer c.pass_row-taken.new.observer c.if-taken-gt0.false
      c.pass_row-taken.ensures.leads (c.loop-now.invariant.led fitted turns goes w) in
      let q : Progress g.row.M.Denot = record p { mix = c.next-pick.new.self } in
      let q' = c.advance.new.progress in
      let m' = g.N.Nvm.device c.advance.new.nvm in
      let d = drawn_on K plan fitted p n k led.turns c.harts-harts.result c.next-pick.new.self c.next-pick.result
      c.harts-harts.ensures.harts c.next-pick.ensures.pick c.next-pick.ensures.after led.goes in
      let Now : Progress g.row.M.Denot → g.row.N.Denot → g.row.O.Denot → Type 0 =
      λ x y z. IsLed K S plan fitted c.args.progress.now x (g.N.Nvm.device y) c.args.done (k + 1) z in
      let x = c.match-advance in
      elim x.branch [
        | in-Advanced+else-not-stays_quiet v ↦
            let a = v.in-Advanced.advance in
            let came = v.in-Advanced.ensures.advances in
            let h : Now q' c.advance.new.nvm v.see.new.self =
            IsLed-advanced K laws S plan fitted c.args.progress.now p q' n m' c.args.done k a v.stepped-in-Advanced.result o v.see.new.self
            c.requires.planned led (came fitted led.turns d)
            ((v.stays_quiet.ensures a).0 v.if-not-stays_quiet.false) v.stepped-in-Advanced.ensures v.see.ensures in
            subst (λ y. Now y x.nvm x.observer) (sym v.progress-is)
            (subst (λ y. Now q' y x.observer) (sym v.nvm-is)
            (subst (λ y. Now q' c.advance.new.nvm y) (sym v.observer-is) h))
        | in-Left+in_default v ↦
            let next = v.pass_other.new.progress in
            let m = g.N.Nvm.device v.pass_other.new.nvm in
            let o' = v.pass_other.new.observer in
            let left = v.in-Left.ensures.advances fitted led.turns d in
            let passed = subst (λ (y : Device). PassesTo K S plan q next y m k c.next-pick.result o o' v.pass_other.result) left.1
            (subst (λ (y : Progress g.row.M.Denot). PassesTo K S plan y next m' m k c.next-pick.result o o' v.pass_other.result) left.0
            v.pass_other.ensures) fitted led.turns d in
            let quiet = subst (λ y. PassedTo K S plan p next n m k led.turns o o' y) v.in_default.is passed in
            let h : Now next v.pass_other.new.nvm o' =
            IsLed-passed K laws S plan fitted c.args.progress.now p next n m c.args.done k o o' c.requires.planned led quiet in
            subst (λ y. Now y x.nvm x.observer) (sym v.progress-is)
            (subst (λ y. Now next y x.observer) (sym v.nvm-is)
            (subst (λ y. Now next v.pass_other.new.nvm y) (sym v.observer-is) h))
      ];
  few =
      let limit : c.numbers-limit.result.limit ≡ c.args.plan.now.geometry.limit = ap (λ p. p.limit) c.numbers-limit.ensures.same in
      omega (arith, c.loop-now-test.true, limit);
}

-- cycles were taken in a row, and the loop goes on
pub loop-now-preserved-then-taken-gt0 : goal.loop-now-preserved-then-taken-gt0
loop-now-preserved-then-taken-gt0 g c = record {
  led = λ fitted turns goes w.
      IsLed-row g.M.Computer.kind g.O.Observer.has_seen c.args.plan.now fitted c.args.progress.now c.loop-now.progress
      c.pass_row-taken.new.progress (g.N.Nvm.device c.loop-now.nvm)
      c.args.done c.loop-now.now c.pass_row-taken.result c.loop-now.observer c.pass_row-taken.new.observer
      (c.loop-now.invariant.led fitted turns goes w) c.pass_row-taken.ensures.leads;
  few = c.pass_row-taken.ensures.few;
}
