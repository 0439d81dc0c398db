use Rattle.std.proofs.Common.{◌≡◌, ◌∷◌, ◌++◌, [], ℕ, ◌∙◌, subst, sym, refl, arith}
use Rattle.thy_observe.specs.declared.changes.Change.{Change}
use Rattle.thy_observe.specs.declared.replay.Replay.{Replay}
use Rattle.thy_observe.specs.Replaying.{AddsOne, IsReplay, executed_by, pc_in}
use Rattle.thy_observe.proofs.ReplayLemmas.{IsReplay-one}
use Rattle.thy_observe.proofs.replay.follow.Goals as goal

pub returns-in_ok-step-in-Retired : goal.returns-in_ok-step-in-Retired
returns-in_ok-step-in-Retired c = λ e h.
    let p = c.args.geometry.now in
    let start = c.args.start.now in
    let hart = c.in-Retired.hart in
    let old = c.args.replay in
    let new : Replay = record { plain = c.step.new.plain; harts = c.push.new.self; counts = c.count_one.new.counts; up = old.up } in
    let pc : c.pc_of.result ≡ pc_in hart old.plain.state = c.pc_of.ensures in
    let adds = subst (λ (a : ℕ). AddsOne old.counts new.counts a) pc c.in_ok-count_one-in-Retired.ensures in
    let harts : new.harts.items ≡ old.harts.items ++ hart ∷ [] = grind (arith, c.push.ensures.items, c.is_err.ensures.value, c.if-is_err.false) in
    subst (λ (change : Change). IsReplay p start (executed_by p start e change) new) (sym c.in-Retired.is)
    (IsReplay-one p start e hart old new harts c.in_ok-step-in-Retired.ensures adds refl h)
