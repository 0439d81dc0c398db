use Rattle.std.specs.Io.KnownBytes.{Keeps}
use Rattle.thy_out.proofs.counted_reader.read_on.Given as goal

abbrev pub invariant-loop : goal.invariant-loop
invariant-loop g l = Keeps (g.F.Read.remaining l.initial.from) (g.F.Read.remaining l.from)
