use Rattle.std.proofs.Common.{◌<◌, ◌/◌, ◌^◌, arith}
use Rattle.std.proofs.lemmas.Nat.{one_shl, and_mask}
use Rattle.thy_elf.proofs.made.encode.bits.Goals as goal

-- the mask `(1 << count) - 1` keeps the low `count` bits
pub returns : goal.returns
returns c =
    let below : c.args.count < 64 = omega (arith, c.requires.count) in
    rw (one_shl c.args.count 64 below) (and_mask (c.args.number / 2 ^ c.args.low) c.args.count)
