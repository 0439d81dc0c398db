use Rattle.std.proofs.Common.{◌-◌, ◌<◌, ◌^◌, sym, ap, ◌∙◌, arith}
use Rattle.thy_block.specs.Geometry.{program_size}
use Rattle.thy_block.specs.Spans.{span}
use Rattle.thy_isa.specs.Step.{fetch_fault}
use Rattle.thy_hart.proofs.FetchLemmas.{turned-below, fetched-offset}
use Rattle.thy_hart.proofs.micro_steps.HartParts.fetched_span.Goals as goal

pub returns-then-turned-words : goal.returns-then-turned-words
returns-then-turned-words c =
    let p = c.args.self.now.geometry in
    let pc = c.pc-pc.result in
    let fits : pc < 2 ^ 64 = omega arith in
    let size : c.program_size-words.result < 2 ^ 64 = omega arith in
    let low = turned-below c.program_size-words.result _ size c.if-turned-words.true in
    let at = fetched-offset p c.numbers-base.result c.program_size-words.result pc c.requires.range c.numbers-base.ensures.same
    c.program_size-words.ensures.size fits low.0 low.1 in
    (sym (ap (fetch_fault p.base (program_size p)) c.pc-pc.ensures) ∙ at.0, at.1 ∙ ap (λ n. span (n - p.base) 4) c.pc-pc.ensures)
