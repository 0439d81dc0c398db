use Rattle.std.proofs.Common.{◌≡◌, ◌++◌, take, drop}
use Rattle.thy_dram.specs.Draws.{bytes_over, after_bytes}
use Rattle.thy_dram.proofs.draws.fill_bytes.Given as goal

abbrev pub invariant-loop-byte : goal.invariant-loop-byte
invariant-loop-byte l = record {
  bytes : take l.byte-index l.bytes ++ bytes_over l.draws (drop l.byte-index l.bytes) ≡ bytes_over l.initial.draws l.initial.bytes;
  draws : after_bytes l.draws (drop l.byte-index l.bytes) ≡ after_bytes l.initial.draws l.initial.bytes;
}
