-- What a store acts, from what the pool's call ensures.
use Rattle.std.proofs.Common.{◌≡◌, ℕ, Result, Ok, Err, OnOk, OnErr}
use Rattle.thy_block.specs.declared.block.Block.{Block}
use Rattle.thy_block.specs.declared.nvm.NvmError.{NvmError}
use Rattle.thy_block.specs.declared.store.Stored.{Stored}
use Rattle.thy_block.specs.Device.{Device, IsFramed, CountsFault}
use Rattle.thy_computer.specs.Action.{IsAfter, FailsTo}
use Rattle.thy_checkpoint.specs.Progress.{Acts}
use Rattle.thy_shadow_parts.specs.State.{State}
use Rattle.thy_shadow_parts.specs.Stores.{StoreCase, Into, Fill, Copy, after_store, store_action, store_case}

-- no store writes the NVM
same_leaves : (case : StoreCase) (b : ℕ) (s : State) (n m : Device) → m ≡ n → IsAfter (store_action case b s) n m
same_leaves (Into j) b s n m same = same
same_leaves (Fill j) b s n m same = same
same_leaves (Copy j k) b s n m same = same

-- a block was stored, or a copy made that has to come first
pub store_acts : (b : ℕ) (block : Block) (s : State) (n : Device) (r : Result Stored NvmError) (t : State) (m : Device)
    → OnOk r (t ≡ after_store b block n s) → OnOk r (m ≡ n) → OnErr r (t ≡ s) → OnErr r (FailsTo (store_action (store_case b s) b s) n m)
    → IsFramed n m → CountsFault r n.faults m.faults → Acts (store_action (store_case b s) b s) (after_store b block n s) r s n t m
store_acts b block s n (Ok x) t m pool same kept failed framed cause = record {
  control = pool;
  device = same_leaves (store_case b s) b s n m same;
  kept = tt;
  failed = tt;
  frame = framed;
  cause = cause;
}
store_acts b block s n (Err e) t m pool same kept failed framed cause = record {
  control = tt;
  device = tt;
  kept = kept;
  failed = failed;
  frame = framed;
  cause = cause;
}
