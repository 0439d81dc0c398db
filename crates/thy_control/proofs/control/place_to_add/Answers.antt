use Rattle.std.proofs.Common.{sym, refl}
use Rattle.thy_table.specs.BlockEntry.{new_entry}
use Rattle.thy_control.specs.Keys.{block_key}
use Rattle.thy_control.proofs.FindLemmas.{index_for-with_new}
use Rattle.thy_control.proofs.control.place_to_add.Goals as goal

pub returns : goal.returns
returns c =
    sym (index_for-with_new block_key new_entry (λ n. refl) c.args.btt.now c.args.b c.in-Some.i c.requires.unlisted (sym c.in-Some.ensures.place))
