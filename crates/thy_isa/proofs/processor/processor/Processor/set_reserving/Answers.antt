use Rattle.std.proofs.Common.{ℕ, ◌<◌, List, rules, ap, ◌∙◌, arith}
use Rattle.thy_isa.specs.Regs.{regs_with}
use Rattle.thy_isa.specs.declared.processor.processor.HartOf.{HartOf}
use Rattle.thy_isa.specs.Processor.{ProcessorState, hart_at, with_hart}
use Rattle.thy_isa.proofs.BankLaws.{had-at, had-put}
use Rattle.thy_isa.proofs.processor.processor.Processor.set_reserving.Goals as goal

pub returns : goal.returns
returns c =
    let p = c.self.inside in
    let h = c.args.hart in
    let there : h < p.harts = search rules in
    let same = had-at h p.harts p.banks c.index-self-hart.result there (omega (arith, there, c.self.invariant)) in
    let set_in : HartOf → HartOf =
    λ x. record { pc = c.args.pc; regs = regs_with x.regs c.args.rd c.args.value; reserved = c.args.reserved } in
    ap (λ (l : List HartOf). record { harts = l; cursor = p.cursor; brk = p.brk; floor = p.floor; count = p.count; status = p.status })
    (had-put h p.harts p.banks _ _ there
    (ap (λ (r : List ℕ). record { pc = c.args.pc; regs = r; reserved = c.args.reserved }) c.set.ensures ∙ ap set_in same))
    ∙ ap (λ (q : ProcessorState). with_hart h (set_in (hart_at q.harts h)) q) c.self.view_is
