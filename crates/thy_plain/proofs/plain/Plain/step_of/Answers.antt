use Rattle.std.proofs.Common.{rules, ◌<◌, ◌≤◌, length, ap, sym, ◌∙◌, arith}
use Rattle.std.proofs.lemmas.Bool.Decides.{nat_tests}
use Rattle.thy_plain.specs.Machine.{setting_of, stepped, stepped_by}
use Rattle.thy_plain.proofs.HeldLaws.{stepped-first, stepped-there}
use Rattle.thy_plain.proofs.plain.Plain.step_of.Goals.{then-hart-eq0, else-hart-eq0}
use Rattle.thy_plain.proofs.plain.Plain.step_of.Goals as goal

pub returns-then-harts-hart : goal.returns-then-harts-hart
returns-then-harts-hart c =
    let none : 0 < c.args.hart → length c.self.inside.state.processor.harts ≤ c.args.hart = λ some. elim c.if-hart-eq0.branch [
      | then-hart-eq0 w ↦ grind (arith, nat_tests, some, w.if-hart-eq0.true)
      | else-hart-eq0 w ↦ grind (arith, nat_tests, w.harts.ensures, w.value-is, c.if-harts-hart.true)
    ] in
    c.step.ensures
    ∙ ap stepped (sym c.self.view_is)
    ∙ stepped-first c.args.hart (setting_of c.self.inside.setup) c.self.inside.state c.requires.hart c.self.invariant.3 none
    ∙ ap (stepped_by c.args.hart) c.self.view_is

pub returns-else-harts-hart : goal.returns-else-harts-hart
returns-else-harts-hart c =
    stepped-there c.args.hart (setting_of c.self.inside.setup) c.self.inside.state c.take_step.new.state c.requires.hart
    (search rules) c.take_step.ensures.seat c.take_step.ensures.state
    ∙ ap (stepped_by c.args.hart) c.self.view_is
