use Rattle.std.proofs.Common.{◌≡◌, ◌&&◌, ℕ, ◌-◌, ◌<◌, ◌≤◌, ◌^◌, nat_le, nat_lt, min, sym, ◌∙◌, ap, arith}
use Rattle.std.proofs.lemmas.Bool.{and_parts, leb-true}
use Rattle.thy_sweep.specs.Choices.{count_of}
use Rattle.sweep.proofs.trying.count_for.Goals as goal

-- a number below a last value is not that
exact : (a m k all : ℕ) → k ≡ min a m → k ≤ all → all < m → k ≡ a
exact a m k all is few small = omega (arith, is, few, small)

pub returns-clause-count : goal.returns-clause-count
returns-clause-count c =
    let k = c.count-count.result in
    let few : k ≤ c.args.all
    = leb-true k c.args.all (and_parts (nat_lt 0 c.args.all) (nat_le k c.args.all) (sym c.is_wanted-wanted.ensures ∙ c.if-not-wanted.false)).1 in
    let small : c.args.all < 2 ^ 128 - 1 = omega (arith, c.ranges.all.fits) in
    exact (count_of c.args.choices.now) (2 ^ 128 - 1) k c.args.all c.count-count.ensures few small

pub returns-clause-some : goal.returns-clause-some
returns-clause-some c =
    ap (λ k. nat_lt 0 c.args.all && nat_le k c.args.all) (sym c.count-count.ensures) ∙ sym c.is_wanted-wanted.ensures ∙ c.if-not-wanted.false

pub returns-then-not-wanted-clause-none : goal.returns-then-not-wanted-clause-none
returns-then-not-wanted-clause-none c =
    ap (λ k. nat_lt 0 c.args.all && nat_le k c.args.all) (sym c.count-count.ensures) ∙ sym c.is_wanted-wanted.ensures ∙ c.if-not-wanted.true
