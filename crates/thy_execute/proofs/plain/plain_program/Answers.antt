use Rattle.std.proofs.Common.{◌≡◌, sym, subst}
use Rattle.std.specs.Result.{IfErr}
use Rattle.thy_block.specs.Outside.{Stock}
use Rattle.thy_outcome.specs.Sources.{file, ProgramDue}
use Rattle.thy_outcome.proofs.ShelfLemmas.{stock_same}
use Rattle.thy_execute.proofs.plain.plain_program.Goals as goal

pub returns-in-Err-clause-refusal : goal.returns-in-Err-clause-refusal
returns-in-Err-clause-refusal g c = λ job h. c.in-Err.ensures.refusal job h.reads

pub returns-in-Ok-clause-refusal : goal.returns-in-Ok-clause-refusal
returns-in-Ok-clause-refusal g c = λ job h.
    let old : Stock = g.H.Shelf.stock c.args.shelf.now in
    let new : Stock = g.H.Shelf.stock c.fetch_both.new.shelf in
    let same : new ≡ old = stock_same old new c.in-Ok.ensures.held c.in-Ok.ensures.calm in
    subst (λ s. IfErr c.program_of.result (ProgramDue (file c.args.name.now) job old s)) (sym same)
    (c.program_of.ensures.refusal (file c.args.name.now) job old tt
    (record { numbers = h.numbers; in_range = c.requires; both = c.in-Ok.ensures.fetched job h.reads }))
