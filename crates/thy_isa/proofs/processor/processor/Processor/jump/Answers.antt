use Rattle.std.proofs.Common.{◌<◌, List, rules, ap, ◌∙◌, arith}
use Rattle.thy_isa.specs.declared.processor.processor.HartOf.{HartOf}
use Rattle.thy_isa.specs.Processor.{ProcessorState, hart_at, with_hart}
use Rattle.thy_isa.proofs.BankLaws.{had-at, had-put}
use Rattle.thy_isa.proofs.processor.processor.Processor.jump.Goals as goal

pub returns : goal.returns
returns c =
    let p = c.self.inside in
    let h = c.args.hart in
    let there : h < p.harts = search rules in
    ap (λ (l : List HartOf). record { harts = l; cursor = p.cursor; brk = p.brk; floor = p.floor; count = p.count; status = p.status })
    (had-put h p.harts p.banks _ _ there (ap (λ (x : HartOf). record x { pc = c.args.pc }) (had-at h p.harts p.banks c.index-self-hart.result there (omega (arith, there, c.self.invariant)))))
    ∙ ap (λ (q : ProcessorState). with_hart h (record (hart_at q.harts h) { pc = c.args.pc }) q) c.self.view_is
