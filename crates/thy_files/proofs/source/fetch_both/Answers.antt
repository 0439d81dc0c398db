use Rattle.std.proofs.Common.{◌≡◌, sym, subst}
use Rattle.thy_block.specs.Bytes.{bytes_of}
use Rattle.thy_block.specs.Outside.{Stock}
use Rattle.thy_outcome.specs.Kept.{named}
use Rattle.thy_outcome.specs.Sources.{AreBytesOf, ProgramDue}
use Rattle.thy_outcome.proofs.ShelfLemmas.{stock_same}
use Rattle.thy_files.proofs.source.fetch_both.Goals as goal

pub returns-in-Err-clause-refusal : goal.returns-in-Err-clause-refusal
returns-in-Err-clause-refusal g c = λ job reads. c.in-Err.ensures.refusal job

pub returns-in-Err-input_bytes-clause-refusal : goal.returns-in-Err-input_bytes-clause-refusal
returns-in-Err-input_bytes-clause-refusal g c = λ job reads.
    let old : Stock = g.H.Shelf.stock c.args.shelf.now in
    let middle : Stock = g.H.Shelf.stock c.source_bytes.new.shelf in
    let same : middle ≡ old = stock_same old middle c.in-Ok.ensures.held c.in-Ok.ensures.calm in
    subst (λ s. ProgramDue (named c.args.source) job s (g.H.Shelf.stock c.input_bytes.new.shelf) c.in-Err-input_bytes.refusal) same
    (c.in-Err-input_bytes.ensures.refusal (named c.args.source) job (bytes_of c.in-Ok.bytes) reads
    (subst (λ s. AreBytesOf (named c.args.source) s (bytes_of c.in-Ok.bytes)) (sym same) c.in-Ok.ensures.bytes))
