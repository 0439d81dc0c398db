use Rattle.std.proofs.Common.{ℕ, ◌<◌, List, get_or, rules, ap, ◌∙◌, arith}
use Rattle.thy_isa.specs.Regs.{regs_with}
use Rattle.thy_isa.specs.declared.processor.processor.HartOf.{HartOf}
use Rattle.thy_isa.specs.Processor.{ProcessorState, hart_at, with_hart}
use Rattle.thy_isa.proofs.BankLaws.{had-at, had-put}
use Rattle.thy_isa.proofs.processor.processor.Processor.set.Goals as goal

pub returns : goal.returns
returns c =
    let p = c.self.inside in
    let h = c.args.hart in
    let there : h < p.harts = search rules in
    let same = had-at h p.harts p.banks c.index-self-hart.result there (omega (arith, there, c.self.invariant)) in
    ap (λ (l : List HartOf). record { harts = l; cursor = p.cursor; brk = p.brk; floor = p.floor; count = p.count; status = p.status })
    (had-put h p.harts p.banks _ _ there
    (ap (λ (r : List ℕ). record { pc = c.args.pc; regs = r; reserved = (get_or p.banks h c.index-self-hart.result).reserved }) c.set.ensures
    ∙ ap (λ (x : HartOf). record x { pc = c.args.pc; regs = regs_with x.regs c.args.rd c.args.value }) same))
    ∙ ap (λ (q : ProcessorState). let x = hart_at q.harts h in with_hart h (record x { pc = c.args.pc; regs = regs_with x.regs c.args.rd c.args.value }) q)
    c.self.view_is
