use Rattle.std.proofs.Common.{◌≡◌, ℕ, ap, refl, subst, arith}
use Rattle.thy_observe.specs.Accesses.{last_cycle, nowhere}
use Rattle.thy_observe.proofs.AccessLemmas.{HasAccesses-stops, HasAccesses-whole, IsLogged-first, IsLogged-more, IsLogged-same}
use Rattle.thy_observe.proofs.accesses.list_accesses.Goals as goal

pub loop-done-init : goal.loop-done-init
loop-done-init g c =
    IsLogged-first g.M.Computer.kind g.met.M.Computer.lawful c.args.plan.now c.in-Ok.progress (g.N.Nvm.device c.args.nvm.now.inner) c.args.window c.new-rows.result.items
    c.requires.planned c.requires.fitted c.in-Ok.ensures c.new-rows.ensures.items

-- the run continues after the list was begun again
pub single-requires-clause-running : goal.single-requires-clause-running
single-requires-clause-running g c =
    let device = g.N.Nvm.device in
    let l = c.loop-done in
    let h = IsLogged-same g.M.Computer.kind c.args.plan.now (device c.args.nvm.now.inner) c.args.window l.progress (device l.nvm.inner) l.done l.under_way l.rows.items
    l.invariant (device c.begin_list.new.self.inner) (ap device c.begin_list.ensures.inner) in
    (device c.args.nvm.now.inner, h.turns, nowhere, nowhere, h.running)

pub single-requires-clause-few : goal.single-requires-clause-few
single-requires-clause-few g c =
    let limit : c.numbers.result.limit ≡ c.args.plan.now.geometry.limit = ap (λ p. p.limit) c.numbers.ensures.same in
    omega (arith, c.loop-done-test.true, c.last_cycle-last.ensures.within, limit)

pub loop-done-preserved : goal.loop-done-preserved
loop-done-preserved g c =
    let K = g.M.Computer.kind in
    let device = g.N.Nvm.device in
    let fitted = device c.args.nvm.now.inner in
    let l = c.loop-done in
    let n = device c.begin_list.new.self.inner in
    let h = IsLogged-same K c.args.plan.now fitted c.args.window l.progress (device l.nvm.inner) l.done l.under_way l.rows.items l.invariant n
    (ap device c.begin_list.ensures.inner) in
    IsLogged-more K c.args.plan.now fitted c.args.window l.progress n l.done l.under_way l.rows.items h c.single.new.progress (device c.single.new.nvm.inner)
    c.in-Goes.stepped c.in_ok-calls.calls.now c.under_way_then-under_way.result c.add_cycle.new.rows.items
    (c.in-Goes.ensures fitted h.turns nowhere nowhere h.running) c.under_way_then-under_way.ensures c.in-Ok-add_cycle.ensures

pub returns-in-Stops : goal.returns-in-Stops
returns-in-Stops g c =
    let K = g.M.Computer.kind in
    let device = g.N.Nvm.device in
    let fitted = device c.args.nvm.now.inner in
    let l = c.loop-done in
    let n = device c.begin_list.new.self.inner in
    let h = IsLogged-same K c.args.plan.now fitted c.args.window l.progress (device l.nvm.inner) l.done l.under_way l.rows.items l.invariant n
    (ap device c.begin_list.ensures.inner) in
    HasAccesses-stops K c.args.plan.now fitted c.args.window l.progress n l.done l.under_way l.rows.items h (record {
      device = device c.single.new.nvm.inner;
      ending = _;
      ends = c.in-Stops.ensures fitted h.turns nowhere nowhere h.running;
      next = refl;
    })

pub returns : goal.returns
returns g c =
    let device = g.N.Nvm.device in
    let l = c.loop-done in
    let limit : c.numbers.result.limit ≡ c.args.plan.now.geometry.limit = ap (λ p. p.limit) c.numbers.ensures.same in
    let last : l.done ≡ c.last_cycle-last.result = omega (arith, c.loop-done-test.false, l.auto.done-end) in
    let of : c.last_cycle-last.result ≡ last_cycle c.args.window.last c.args.plan.now.geometry.limit =
    subst (λ (n : ℕ). c.last_cycle-last.result ≡ last_cycle c.args.window.last n) limit c.last_cycle-last.ensures.last in
    let done : l.done ≡ last_cycle c.args.window.last c.args.plan.now.geometry.limit = omega (arith, last, of) in
    HasAccesses-whole g.M.Computer.kind c.args.plan.now (device c.args.nvm.now.inner) c.args.window l.progress (device l.nvm.inner) l.done l.under_way l.rows.items
    l.invariant done
