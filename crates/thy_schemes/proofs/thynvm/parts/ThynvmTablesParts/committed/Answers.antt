use Rattle.std.proofs.Common.{sym}
use Rattle.thy_block.specs.Device.{block_at}
use Rattle.thy_control.specs.State.{penult_of}
use Rattle.thy_thynvm_parts.specs.Design.{penults}
use Rattle.thy_schemes.proofs.ThynvmBlockLemmas.{small_penult, penult_at, ok_same}
use Rattle.thy_schemes.proofs.thynvm.parts.ThynvmTablesParts.committed.Goals as goal

pub committed-requires-clause-block : goal.committed-requires-clause-block
committed-requires-clause-block g c = small_penult c.args.control.now (g.N.Nvm.device c.args.nvm.now) c.args.b c.requires.inside

pub returns-clause-ok : goal.returns-clause-ok
returns-clause-ok g c =
    let s = c.args.control.now in
    let n = g.N.Nvm.device c.args.nvm.now in
    ok_same c.committed.result (penult_of s n c.args.b) (block_at (penults s n) c.args.b) c.committed.ensures.ok
    (sym (penult_at s n c.args.b (small_penult s n c.args.b c.requires.inside)))
