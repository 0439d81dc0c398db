use Rattle.std.proofs.Common.{◌/◌}
use Rattle.thy_shadow_parts.proofs.CommitLemmas.{filled-inside}
use Rattle.thy_shadow_parts.proofs.PhaseLemmas.{next_filled}
use Rattle.thy_schemes.proofs.shadow.checkpoints.RelistCheckpoints.write_body.Goals as goal

pub write_frame-requires-clause-frame : goal.write_frame-requires-clause-frame
write_frame-requires-clause-frame g c =
    let s = c.args.control.now in
    let k = c.args.k in
    filled-inside s (k / 64) c.requires.stands.sound (next_filled s k k c.requires.next).1
