use Rattle.std.proofs.Common.{◌<◌, ◌/◌, ◌^◌}
use Rattle.std.proofs.lemmas.Nat.{one_shl, and_mask}
use Rattle.thy_isa.proofs.decoding.bits.Goals as goal

-- the mask `(1 << count) - 1` keeps the low `count` bits
pub returns : goal.returns
returns c =
    let below : c.args.count < 32 = c.requires.count in
    rw (one_shl c.args.count 32 below) (and_mask (c.args.word / 2 ^ c.args.low) c.args.count)
