use Rattle.std.proofs.Common.{ap, length, refl, subst, arith}
use Rattle.std.specs.List.{All}
use Rattle.thy_isa.specs.Storable.{IsByte}
use Rattle.thy_elf.specs.Image.{contents_of}
use Rattle.thy_machine_tests.proofs.PoweredLemmas.{IsOrigin-start}
use Rattle.thy_machine_tests.proofs.machine.start_for.Goals as goal

pub returns-clause-origin : goal.returns-clause-origin
returns-clause-origin g c =
    IsOrigin-start _ (contents_of c.expect-image.result) c.numbers-numbers.ensures.in_range c.start_of.ensures.state c.start_of.ensures.storable
    (record { bytes = subst (All IsByte) c.as_slice.ensures c.recall_are_bytes.ensures; size = omega (arith, ap length c.new-input.ensures) }) refl c.requires.harts
