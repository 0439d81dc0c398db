use Rattle.std.proofs.Common.{refl}
use Rattle.thy_sweep.proofs.over_memory.GapRefMutMemNvmOverMemory.recall_lying.Goals as goal

pub returns : goal.returns
returns c = record {
  direct = λ e. absurd (cc e);
  image = c.recall_meaning.ensures.image c.requires.some;
  crash = λ g h. c.recall_meaning.ensures.crash c.requires.some g (record { same_length = h.same_length; each = h.each });
  whole = refl;
  blocks = c.recall_size.ensures.blocks;
  queue_room = refl;
}
