use Rattle.std.proofs.Common.{refl}
use Rattle.thy_files.proofs.BeginningLemmas.{Begins-entry}
use Rattle.thy_files.proofs.beginning.from_entry.Goals as goal

pub start_of-requires : goal.start_of-requires
start_of-requires c = c.in-Ok.ensures.size

pub returns-clause-begins : goal.returns-clause-begins
returns-clause-begins c = λ source elf job stock h.
    Begins-entry source job stock c.in-Ok.program _ (c.in-Ok.ensures.program source job stock elf h)
    c.start_of.ensures.state c.start_of.ensures.storable refl refl c.new.ensures.items
