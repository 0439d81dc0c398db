use Rattle.std.proofs.Common.{◌≡◌, ◌-◌, ◌≤◌, false, length, take}
use Rattle.thy_block.specs.Outside.{Grew}
use Rattle.thy_out.proofs.target.Target.write.Given as goal

abbrev pub invariant-loop-done : goal.invariant-loop-done
invariant-loop-done g l = record {
  within : l.done ≤ length l.piece;
  taken : Grew l.initial.self.taken l.self.taken (take l.done l.piece);
  calm : l.self.failures ≡ l.initial.self.failures;
  unflushed : l.self.flushed ≡ false;
  unsynced : l.self.synced ≡ false;
  counted : l.self.count ≡ l.initial.self.count;
}

abbrev pub decreases-loop-done : goal.decreases-loop-done
decreases-loop-done g l = length l.piece - l.done
