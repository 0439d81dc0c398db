use Rattle.std.proofs.Common.{◌≡◌, ◌<◌, ℕ, suc, ◌+◌, ◌-◌, ◌==◌, ◌⊎◌, if◌then◌else◌, [], ◌∷◌, ◌++◌, length, Option, refl, sym, ◌∙◌, ap, subst, arith}
use Rattle.thy_block.specs.declared.mix.Mix.{Mix}
use Rattle.thy_block.specs.declared.mix.Pick.{Pick}
use Rattle.thy_block.specs.Bytes.{bytes_of, room_of}
use Rattle.thy_block.specs.Mix.{mix_pick, mix_next}
use Rattle.thy_computer.specs.declared.did.Advance.TheVariants.{Moved, Retired}
use Rattle.thy_computer.specs.Advances.{row_by, SimulatesRow}
use Rattle.thy_run.specs.declared.progress.Progress.{Progress}
use Rattle.thy_run.specs.Picks.{after_picks}
use Rattle.thy_run.specs.Quiet.{IsLed}
use Rattle.thy_run.specs.Watching.{CanSee}
use Rattle.thy_run.proofs.QuietLemmas.{AreQuietBelow-on, IsLed-none, IsLed-advanced, IsStepped-row, fewer, room-row, row_moved}
use Rattle.thy_run.proofs.PicksLemmas.{after_picks-more}
use Rattle.thy_run.proofs.AdvanceLemmas.{can_step}
use Rattle.thy_run.proofs.SeeingLemmas.{CanSee-watched}
use Rattle.thy_run.proofs.quiet.pass_row.Goals as goal

-- no cycle is taken
pub returns-then-now-end-clause-leads : goal.returns-then-now-end-clause-leads
returns-then-now-end-clause-leads g c = λ fitted turns goes w.
    IsLed-none g.M.Computer.kind g.O.Observer.has_seen c.args.plan.now fitted c.args.progress.now
    (g.N.Nvm.device c.args.nvm.now) c.args.now turns c.args.observer.now goes w

pub advance_on-row-requires : goal.advance_on-row-requires
advance_on-row-requires g c =
    let h = c.requires.watched in
    can_step g.M.Computer.kind g.met.M.Computer.lawful c.args.plan.now h.0 c.args.progress.now
    (g.N.Nvm.device c.args.nvm.now) c.args.now h.1 c.requires.planned h.2
    (fewer c.args.plan.now c.args.now c.requires.planned c.requires.few)

-- ---- the cycles that move on

pub loop-seen-init : goal.loop-seen-init
loop-seen-init g c = λ fitted turns goes w.
    let K = g.M.Computer.kind in
    let S = g.O.Observer.has_seen in
    let plan = c.args.plan.now in
    let p = c.args.progress.now in
    let n = g.N.Nvm.device c.args.nvm.now in
    let row = c.advance_on-row.result in
    let pick : c.next-pick.result ≡ mix_pick plan.geometry.harts p.mix =
    c.next-pick.ensures.pick ∙ ap (λ (h : ℕ). mix_pick h p.mix) c.harts-harts.ensures.harts in
    let left : row.moved ≡ row.moved - 0 = omega arith in
    record {
      between = p.machine;
      led = IsLed-none K S plan fitted p n c.args.now turns c.args.observer.now goes w;
      row = subst (λ (many : ℕ). SimulatesRow K plan.start (mix_pick plan.geometry.harts p.mix)
          (row_by many row.retired) p.machine c.advance_on-row.new.self n) left
          (subst (λ (x : Pick). SimulatesRow K plan.start x (row_by row.moved row.retired) p.machine c.advance_on-row.new.self n) pick
          c.advance_on-row.ensures.steps);
    }

pub see-requires : goal.see-requires
see-requires g c =
    let K = g.M.Computer.kind in
    let S = g.O.Observer.has_seen in
    let plan = c.args.plan.now in
    let p = c.args.progress.now in
    let n = g.N.Nvm.device c.args.nvm.now in
    let i = c.loop-seen.seen in
    let k = c.args.now + i in
    let o = c.loop-seen.observer in
    let h = c.requires.watched in
    let here = c.loop-seen.invariant h.0 h.1 h.2 h.3 in
    CanSee-watched K S plan h.0 (record p { machine = here.between; mix = after_picks plan.geometry.harts i p.mix }) n k
    here.led.turns o here.led.watched

pub loop-seen-preserved : goal.loop-seen-preserved
loop-seen-preserved g c = λ fitted turns goes w.
    let K = g.M.Computer.kind in
    let laws = g.met.M.Computer.lawful in
    let S = g.O.Observer.has_seen in
    let plan = c.args.plan.now in
    let p = c.args.progress.now in
    let n = g.N.Nvm.device c.args.nvm.now in
    let end = c.advance_on-row.new.self in
    let i = c.loop-seen.seen in
    let k = c.args.now + i in
    let o = c.loop-seen.observer in
    let retired = c.advance_on-row.result.retired in
    let here = c.loop-seen.invariant fitted turns goes w in
    let left : c.advance_on-row.result.moved - i ≡ suc (c.advance_on-row.result.moved - (i + 1)) = omega (arith, c.loop-seen-test.true) in
    let drawn = after_picks plan.geometry.harts i p.mix in
    let q : Progress g.row.M.Denot = record p { machine = here.between; mix = drawn } in
    let row = row_moved K plan.start (mix_pick plan.geometry.harts drawn) (c.advance_on-row.result.moved - (i + 1)) retired here.between end n
    (subst (λ (many : ℕ). SimulatesRow K plan.start (mix_pick plan.geometry.harts drawn) (row_by many retired) here.between end n) left here.row) in
    let mix = after_picks-more plan.geometry.harts i p.mix in
    let next : Progress g.row.M.Denot = record p { machine = row.0; mix = mix_next plan.geometry.harts drawn } in
    let few : k < plan.geometry.limit =
    omega (arith, c.requires.end.limit c.args.now c.if-now-end.false, c.advance_on-row.ensures.few, c.loop-seen-test.true) in
    let soon : k + 1 < c.args.now + 6 = omega (arith, c.advance_on-row.ensures.few, c.loop-seen-test.true) in
    let stepped = IsStepped-row K laws plan fitted q n k here.led.turns row.0 Moved p.turns c.requires.planned here.led.goes few row.1 refl
    (omega arith) in
    let quiet = AreQuietBelow-on plan.config.cuts p next (c.args.now + 6) here.led.uncut here.led.fresh
    (c.requires.end.quiet c.args.now c.if-now-end.false) Moved (k + 1) soon in
    let led : IsLed K S plan fitted p next n c.args.now (k + 1) c.see.new.self =
    IsLed-advanced K laws S plan fitted p q next n n c.args.now k Moved c.stepped.result o c.see.new.self c.requires.planned here.led
    stepped quiet c.stepped.ensures c.see.ensures in
    let more : k + 1 ≡ c.args.now + (i + 1) = omega arith in
    record {
      between = row.0;
      led = subst (λ (many : ℕ). IsLed K S plan fitted p
          (record p { machine = row.0; mix = after_picks plan.geometry.harts (i + 1) p.mix }) n c.args.now many c.see.new.self) more
          (subst (λ (y : Mix). IsLed K S plan fitted p (record p { machine = row.0; mix = y }) n c.args.now (k + 1) c.see.new.self) mix led);
      row = row.2 (mix_pick plan.geometry.harts (after_picks plan.geometry.harts (i + 1) p.mix));
    }

-- ---- the last one

-- none retires an instruction
pub returns-in-None-clause-leads : goal.returns-in-None-clause-leads
returns-in-None-clause-leads g c = λ fitted turns goes w.
    let K = g.M.Computer.kind in
    let S = g.O.Observer.has_seen in
    let plan = c.args.plan.now in
    let p = c.args.progress.now in
    let n = g.N.Nvm.device c.args.nvm.now in
    let end = c.advance_on-row.new.self in
    let i = c.loop-seen.seen in
    let k = c.args.now + i in
    let o = c.loop-seen.observer in
    let retired = c.advance_on-row.result.retired in
    let moves = c.advance_on-row.result.moved in
    let here = c.loop-seen.invariant fitted turns goes w in
    let drawn = after_picks plan.geometry.harts i p.mix in
    let none : moves - i ≡ 0 = omega (arith, c.loop-seen-test.false) in
    let all : i ≡ moves = omega (arith, c.loop-seen-test.false, c.loop-seen.auto.seen-end) in
    let last : k ≡ c.args.now + moves = omega (arith, c.loop-seen-test.false, c.loop-seen.auto.seen-end) in
    let same : end ≡ here.between =
    subst (λ (r : Option ℕ). SimulatesRow K plan.start (mix_pick plan.geometry.harts drawn) (row_by 0 r) here.between end n) c.in-None.is
    (subst (λ (many : ℕ). SimulatesRow K plan.start (mix_pick plan.geometry.harts drawn) (row_by many retired) here.between end n) none here.row) in
    let mix : drawn ≡ c.pass_picks.new.mix =
    ap (λ (j : ℕ). after_picks plan.geometry.harts j p.mix) all
    ∙ sym (c.pass_picks.ensures ∙ ap (λ (h : ℕ). after_picks h moves p.mix) c.harts-harts.ensures.harts) in
    subst (λ (many : ℕ). IsLed K S plan fitted p (record p { machine = end; mix = c.pass_picks.new.mix }) n c.args.now many o) last
    (subst (λ (y : Mix). IsLed K S plan fitted p (record p { machine = end; mix = y }) n c.args.now k o) mix
    (subst (λ (m : g.row.M.Denot). IsLed K S plan fitted p (record p { machine = m; mix = drawn }) n c.args.now k o) (sym same) here.led))

-- one does
pub list_hart-requires : goal.list_hart-requires
list_hart-requires g c =
    let K = g.M.Computer.kind in
    let laws = g.met.M.Computer.lawful in
    let plan = c.args.plan.now in
    let p = c.args.progress.now in
    let n = g.N.Nvm.device c.args.nvm.now in
    let end = c.advance_on-row.new.self in
    let i = c.loop-seen.seen in
    let k = c.args.now + i in
    let retired = c.advance_on-row.result.retired in
    let moves = c.advance_on-row.result.moved in
    let h = c.requires.watched in
    let here = c.loop-seen.invariant h.0 h.1 h.2 h.3 in
    let hart = c.in-Some.hart in
    let drawn = after_picks plan.geometry.harts i p.mix in
    let none : moves - i ≡ 0 = omega (arith, c.loop-seen-test.false) in
    let few : k < plan.geometry.limit =
    omega (arith, c.requires.end.limit c.args.now c.if-now-end.false, c.advance_on-row.ensures.few, c.loop-seen.auto.seen-end) in
    let row = subst (λ (r : Option ℕ). SimulatesRow K plan.start (mix_pick plan.geometry.harts drawn) (row_by 0 r) here.between end n) c.in-Some.is
    (subst (λ (many : ℕ). SimulatesRow K plan.start (mix_pick plan.geometry.harts drawn) (row_by many retired) here.between end n) none here.row) in
    subst (λ (many : ℕ). (many ≡ 1) ⊎ (length (bytes_of p.turns) < room_of p.turns)) (sym c.harts-harts.ensures.harts)
    (room-row K laws plan h.0 (record p { machine = here.between; mix = drawn }) n k here.led.turns row.0
    (Retired hart) c.requires.planned here.led.goes few row.1)

pub see-requires-in-Some : goal.see-requires-in-Some
see-requires-in-Some g c =
    let K = g.M.Computer.kind in
    let S = g.O.Observer.has_seen in
    let plan = c.args.plan.now in
    let p = c.args.progress.now in
    let n = g.N.Nvm.device c.args.nvm.now in
    let i = c.loop-seen.seen in
    let k = c.args.now + i in
    let o = c.loop-seen.observer in
    let h = c.requires.watched in
    let here = c.loop-seen.invariant h.0 h.1 h.2 h.3 in
    let last : k + 1 ≡ c.args.now + c.advance_on-row.result.moved + 1 = omega (arith, c.loop-seen-test.false, c.loop-seen.auto.seen-end) in
    subst (CanSee S o) last
    (CanSee-watched K S plan h.0 (record p { machine = here.between; mix = after_picks plan.geometry.harts i p.mix }) n k here.led.turns o here.led.watched)

pub returns-in-Some-clause-leads : goal.returns-in-Some-clause-leads
returns-in-Some-clause-leads g c = λ fitted turns goes w.
    let K = g.M.Computer.kind in
    let laws = g.met.M.Computer.lawful in
    let S = g.O.Observer.has_seen in
    let plan = c.args.plan.now in
    let p = c.args.progress.now in
    let n = g.N.Nvm.device c.args.nvm.now in
    let end = c.advance_on-row.new.self in
    let i = c.loop-seen.seen in
    let k = c.args.now + i in
    let o = c.loop-seen.observer in
    let retired = c.advance_on-row.result.retired in
    let moves = c.advance_on-row.result.moved in
    let here = c.loop-seen.invariant fitted turns goes w in
    let hart = c.in-Some.hart in
    let drawn = after_picks plan.geometry.harts i p.mix in
    let q : Progress g.row.M.Denot = record p { machine = here.between; mix = drawn } in
    let none : moves - i ≡ 0 = omega (arith, c.loop-seen-test.false) in
    let all : i + 1 ≡ moves + 1 = omega (arith, c.loop-seen-test.false, c.loop-seen.auto.seen-end) in
    let few : k < plan.geometry.limit =
    omega (arith, c.requires.end.limit c.args.now c.if-now-end.false, c.advance_on-row.ensures.few, c.loop-seen.auto.seen-end) in
    let soon : k + 1 < c.args.now + 6 = omega (arith, c.advance_on-row.ensures.few, c.loop-seen.auto.seen-end) in
    let row = subst (λ (r : Option ℕ). SimulatesRow K plan.start (mix_pick plan.geometry.harts drawn) (row_by 0 r) here.between end n) c.in-Some.is
    (subst (λ (many : ℕ). SimulatesRow K plan.start (mix_pick plan.geometry.harts drawn) (row_by many retired) here.between end n) none here.row) in
    let mix : mix_next plan.geometry.harts drawn ≡ c.pass_picks-in-Some.new.mix =
    after_picks-more plan.geometry.harts i p.mix ∙ ap (λ (j : ℕ). after_picks plan.geometry.harts j p.mix) all
    ∙ sym (c.pass_picks-in-Some.ensures ∙ ap (λ (h : ℕ). after_picks h (moves + 1) p.mix) c.harts-harts.ensures.harts) in
    let listed = c.list_hart.ensures.turns
    ∙ ap (λ (h : ℕ). if h == 1 then bytes_of p.turns else bytes_of p.turns ++ hart ∷ []) c.harts-harts.ensures.harts in
    let next : Progress g.row.M.Denot = record p { machine = row.0; mix = mix_next plan.geometry.harts drawn; turns = c.list_hart.new.turns } in
    let stepped = IsStepped-row K laws plan fitted q n k here.led.turns row.0
    (Retired hart) c.list_hart.new.turns c.requires.planned here.led.goes few row.1 listed c.list_hart.ensures.room in
    let quiet = AreQuietBelow-on plan.config.cuts p next (c.args.now + 6) here.led.uncut here.led.fresh
    (c.requires.end.quiet c.args.now c.if-now-end.false) (Retired hart) (k + 1) soon in
    let led : IsLed K S plan fitted p next n c.args.now (k + 1) c.see-in-Some.new.self =
    IsLed-advanced K laws S plan fitted p q next n n c.args.now k
    (Retired hart) c.stepped-in-Some.result o c.see-in-Some.new.self c.requires.planned here.led stepped quiet c.stepped-in-Some.ensures
    c.see-in-Some.ensures in
    let last : k + 1 ≡ c.args.now + (moves + 1) = omega (arith, c.loop-seen-test.false, c.loop-seen.auto.seen-end) in
    subst (λ (many : ℕ). IsLed K S plan fitted p (record p { machine = end; mix = c.pass_picks-in-Some.new.mix; turns = c.list_hart.new.turns }) n c.args.now many c.see-in-Some.new.self) last
    (subst (λ (y : Mix). IsLed K S plan fitted p (record p { machine = end; mix = y; turns = c.list_hart.new.turns }) n c.args.now (k + 1) c.see-in-Some.new.self) mix
    (subst (λ (m : g.row.M.Denot). IsLed K S plan fitted p (record next { machine = m }) n c.args.now (k + 1) c.see-in-Some.new.self)
    (sym (row.2 (mix_pick plan.geometry.harts drawn))) led))

pub returns-in-Some-clause-few : goal.returns-in-Some-clause-few
returns-in-Some-clause-few g c = omega (arith, c.requires.end.limit c.args.now c.if-now-end.false, c.advance_on-row.ensures.few)
