use Rattle.std.proofs.Common.{◌≡◌, take, drop}
use Rattle.thy_block.specs.Bytes.{bytes_of}
use Rattle.thy_block.specs.Flat.{flat}
use Rattle.thy_core.specs.MachineParts.{machine_of}
use Rattle.thy_core.specs.Reading.{blocks_in}
use Rattle.thy_core.proofs.reading.read_blocks.Given as goal

abbrev pub invariant-loop-i : goal.invariant-loop-i
invariant-loop-i g l = record {
  same : g.N.Nvm.device l.nvm ≡ g.N.Nvm.device l.fn.nvm;
  bytes : bytes_of l.bytes
      ≡ flat (drop l.first (take l.i (blocks_in g.S.Scheme.scheme l.version (machine_of l.m) (g.N.Nvm.device l.fn.nvm))));
}
