use Rattle.std.proofs.Common.{◌≡◌, ◌+◌, ◌-◌, ℕ, ◌∙◌, ap, arith, Some}
use Rattle.thy_gap.specs.declared.registers.Registers.{Registers}
use Rattle.thy_gap.specs.Lines.{unstepped}
use Rattle.thy_gap.proofs.LineLemmas.{line_at-some, unplaced, unstepped-cases, wrapped-cases}
use Rattle.thy_gap.proofs.registers.Registers.line.Goals.{then-place-self, else-place-self}
use Rattle.thy_gap.proofs.registers.Registers.line.Goals as goal

pub returns-then-turned-self : goal.returns-then-turned-self
returns-then-turned-self c =
    let r : Registers = c.args.self.now in
    let y : ℕ = c.args.place in
    let turned : c.if-place-self.turned ≡ unstepped r.gap y = elim c.if-place-self.branch as (λ _. c.if-place-self.turned ≡ unstepped r.gap y) [
      | then-place-self w ↦ omega (arith, w.turned-is, w.if-place-self.true, unstepped-cases r.gap y)
      | else-place-self w ↦ omega (arith, w.turned-is, w.if-place-self.false, unstepped-cases r.gap y)
    ] in
    let e : unplaced r y ≡ c.if-place-self.turned + (r.lines - r.start) =
    omega (arith, turned, c.if-turned-self.true, c.requires.whole.start, wrapped-cases r.lines (unstepped r.gap y + (r.lines - r.start))) in
    line_at-some r y c.requires.other c.requires.within ∙ ap (λ (x : ℕ). Some x) e

pub returns-else-turned-self : goal.returns-else-turned-self
returns-else-turned-self c =
    let r : Registers = c.args.self.now in
    let y : ℕ = c.args.place in
    let turned : c.if-place-self.turned ≡ unstepped r.gap y = elim c.if-place-self.branch as (λ _. c.if-place-self.turned ≡ unstepped r.gap y) [
      | then-place-self w ↦ omega (arith, w.turned-is, w.if-place-self.true, unstepped-cases r.gap y)
      | else-place-self w ↦ omega (arith, w.turned-is, w.if-place-self.false, unstepped-cases r.gap y)
    ] in
    let e : unplaced r y ≡ c.if-place-self.turned - r.start =
    omega (arith, turned, c.if-turned-self.false, c.requires.whole.start, wrapped-cases r.lines (unstepped r.gap y + (r.lines - r.start))) in
    line_at-some r y c.requires.other c.requires.within ∙ ap (λ (x : ℕ). Some x) e
