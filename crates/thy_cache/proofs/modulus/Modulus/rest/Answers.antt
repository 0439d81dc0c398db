use Rattle.std.proofs.Common.{ℕ, ◌%◌, ◌∙◌, ap, arith}
use Rattle.std.proofs.Math.Nat.{mod-lt}
use Rattle.thy_cache.specs.Modulus.{IsMaskOf}
use Rattle.thy_cache.proofs.modulus.Modulus.rest.Goals as goal

pub returns-in-Some-clause-rest : goal.returns-in-Some-clause-rest
returns-in-Some-clause-rest c =
    let masks : IsMaskOf c.self.inside.number c.in-Some.mask = rw c.in-Some.is at c.self.invariant.masked in
    masks c.args.n ∙ ap (λ (m : ℕ). c.args.n % m) c.self.view_is

pub returns-in-Some-clause-below : goal.returns-in-Some-clause-below
returns-in-Some-clause-below c =
    let masks : IsMaskOf c.self.inside.number c.in-Some.mask = rw c.in-Some.is at c.self.invariant.masked in
    omega (arith, masks c.args.n, mod-lt c.args.n c.self.invariant.some, c.self.view_is)

pub returns-in-None-clause-below : goal.returns-in-None-clause-below
returns-in-None-clause-below c = omega (arith, mod-lt c.args.n c.self.invariant.some, c.self.view_is)
