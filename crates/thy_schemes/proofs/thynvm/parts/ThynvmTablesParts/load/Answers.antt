use Rattle.std.proofs.Common.{sym}
use Rattle.thy_block.specs.Device.{block_at}
use Rattle.thy_control.specs.State.{work_of}
use Rattle.thy_thynvm_parts.specs.Filling.{loads}
use Rattle.thy_schemes.proofs.ThynvmBlockLemmas.{small, work_at, ok_same}
use Rattle.thy_schemes.proofs.thynvm.parts.ThynvmTablesParts.load.Goals as goal

pub load-requires-clause-block : goal.load-requires-clause-block
load-requires-clause-block g c = small c.args.control.now (g.N.Nvm.device c.args.nvm.now) c.args.b c.requires.inside

pub returns-clause-ok : goal.returns-clause-ok
returns-clause-ok g c =
    let s = c.args.control.now in
    let n = g.N.Nvm.device c.args.nvm.now in
    ok_same c.load.result (work_of s n c.args.b) (block_at (loads s n) c.args.b) c.load.ensures.ok
    (sym (work_at s n c.args.b (small s n c.args.b c.requires.inside)))
