use Rattle.std.proofs.Common.{Ok, ◌∙◌}
use Rattle.thy_block.specs.Bytes.{bytes_of}
use Rattle.thy_elf.specs.Image.{contents_of}
use Rattle.thy_files.proofs.BeginningLemmas.{IsProgramOf-read, bytes_read}
use Rattle.thy_files.proofs.source.program_of.Goals as goal

pub returns-in-Ok-clause-program : goal.returns-in-Ok-clause-program
returns-in-Ok-clause-program c = λ source job stock elf h.
    IsProgramOf-read source job stock c.args.geometry c.args.fetched c.in-Ok.image elf h
    (bytes_read job (bytes_of c.args.fetched.bytes) c.as_slice.result.now c.args.geometry c.numbers-base.result c.program_size.result
    (Ok (contents_of c.in-Ok.image))
    h.numbers c.numbers-base.ensures.same c.as_slice.ensures c.program_size.ensures.size c.in-Ok.ensures.image)
    (c.in-Ok.ensures.len ∙ c.program_size.ensures.size)
