use Rattle.std.proofs.Common.{◌≡◌, ◌-◌, ◌<◌, ◌≤◌, List, ℕ, length, take, ◌∙◌, ap, subst, arith}
use Rattle.thy_isa.specs.Step.{state_of}
use Rattle.thy_observe.specs.Replaying.{IsPlainAt}
use Rattle.thy_observe.proofs.StateLemmas.{state_at-beyond, state_at-within}
use Rattle.thy_observe.proofs.replay.state_at.Goals as goal

pub returns-then-len-most : goal.returns-then-len-most
returns-then-len-most c = λ seen is.
    let less : length c.in_ok-replay.replay.harts.items < c.args.count - (state_of c.args.start.now.state).count = omega arith in
    state_at-beyond c.args.geometry.now c.args.start.now c.args.listed.now c.args.count c.in_ok-replay.replay seen
    c.in_ok-replay.ensures less c.if-count-start.false is

pub returns : goal.returns
returns c = λ seen is.
    let p = c.args.geometry.now in
    let start = c.args.start.now in
    let harts : List ℕ = c.in_ok-replay.replay.harts.items in
    let most : ℕ = c.args.count - (state_of start.state).count in
    let enough : most ≤ length harts = omega arith in
    let first : c.first_of.result.now ≡ take most harts = c.first_of.ensures ∙ ap (take most) c.as_slice.ensures.value in
    state_at-within p start c.args.listed.now c.args.count c.in_ok-replay.replay c.in_ok-plain.plain seen
    c.in_ok-replay.ensures enough (subst (λ (l : List ℕ). IsPlainAt p start l c.in_ok-plain.plain) first c.in_ok-plain.ensures)
    c.if-count-start.false is
