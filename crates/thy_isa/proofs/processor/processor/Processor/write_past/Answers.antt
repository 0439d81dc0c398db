use Rattle.std.proofs.Common.{◌<◌, List, take, rules, ap, ◌∙◌}
use Rattle.thy_isa.specs.declared.processor.processor.HartOf.{HartOf}
use Rattle.thy_isa.specs.Processor.{after_write}
use Rattle.thy_isa.proofs.BankLaws.{take-written_by}
use Rattle.thy_isa.proofs.processor.processor.Processor.write_past.Goals as goal

pub returns-then-self-gt1-clause-processor : goal.returns-then-self-gt1-clause-processor
returns-then-self-gt1-clause-processor c =
    let p = c.self.inside in
    let h = c.args.hart in
    let there : h < p.harts = search rules in
    ap (λ (l : List HartOf). record { harts = l; cursor = p.cursor; brk = p.brk; floor = p.floor; count = p.count; status = p.status })
    (ap (take p.harts) c.lose_others.ensures ∙ take-written_by c.args.at c.args.len h p.harts p.banks there)
    ∙ ap (after_write c.args.at c.args.len h) c.self.view_is
