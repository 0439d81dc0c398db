-- A load acts on the NVM once, and its failure is counted.
use Rattle.std.proofs.Common.{◌≡◌, ℕ, ◌<◌, true, false, length, Result, Ok, Err, OnOk, OnErr, refl, ap, ◌∙◌, inl, arith}
use Rattle.std.proofs.lemmas.Result.{on_err_weaker}
use Rattle.thy_block.specs.declared.block.Block.{Block}
use Rattle.thy_block.specs.declared.nvm.NvmError.{NvmError}
use Rattle.thy_block.specs.Counts.{Rose}
use Rattle.thy_block.specs.Device.{Device, HasFailed, IsFramed, failed_calls, CountsFault, CountsOneFault}
use Rattle.thy_block.proofs.DeviceLemmas.{counts_once}
use Rattle.thy_computer.specs.Action.{ReadAt}
use Rattle.thy_scheme.specs.Scheme.{SchemeOf}
use Rattle.thy_scheme.specs.Calls.{IsOneAccess}
use Rattle.thy_scheme.specs.Laws.{IsLawful}

pub load_once : {S : Type 0} (K : SchemeOf S) (l : IsLawful K) (s : S) (n new : Device) (b : ℕ) (result : Result Block NvmError)
    → b < length (K.holding s n).blocks → K.stays s n s new → IsFramed n new → OnOk result (new ≡ n) → OnErr result (HasFailed n new)
    → IsOneAccess K s n s new
load_once K l s n new b (Ok block) inside stays frame same failed =
    let up : new.down ≡ false = ap (λ (d : Device). d.down) same ∙ l.up s n b inside in
    record {
      action = ReadAt b;
      access = tt;
      succeeds = λ alive. record {
        left = same;
        dram = inl refl;
        queue = omega (arith, ap (λ (d : Device). length d.queue) same);
        copies = λ less. absurd (let kept : (K.holding s new).owed ≡ (K.holding s n).owed =
            ap (λ (d : Device). (K.holding s d).owed) same in omega (arith, less, kept));
      };
      fails = λ dead. absurd (cc);
      frame = frame;
      stays = stays;
    }
load_once K l s n new b (Err e) inside stays frame same failed = record {
  action = ReadAt b;
  access = tt;
  succeeds = λ alive. absurd (let dead = failed.down in cc);
  fails = λ dead. failed;
  frame = frame;
  stays = stays;
}

-- a load that leaves the NVM up has left it as it was
pub load_leaves : {T : Type 0} (n new : Device) (result : Result T NvmError) → OnOk result (new ≡ n) → OnErr result (HasFailed n new)
    → new.down ≡ false → new ≡ n
load_leaves n new (Ok x) same failed up = same
load_leaves n new (Err e) same failed up = absurd (let down = failed.down in cc)

-- a call that failed is counted
pub failure_counts : {T : Type 0} (result : Result T NvmError) (n new : Device) → OnOk result (new.down ≡ false)
    → CountsFault result n.faults new.faults
    → new.down ≡ true → Rose n.faults new.faults
failure_counts (Ok x) n new up counts dead = absurd (cc)
failure_counts (Err e) n new up counts dead = counts

-- a load that succeeds leaves the NVM up
pub load_up : {S : Type 0} (K : SchemeOf S) (l : IsLawful K) (s : S) (n new : Device) (b : ℕ) (result : Result Block NvmError)
    → b < length (K.holding s n).blocks → OnOk result (new ≡ n) → OnOk result (new.down ≡ false)
load_up K l s n new b (Ok block) inside same = ap (λ (d : Device). d.down) same ∙ l.up s n b inside
load_up K l s n new b (Err e) inside same = tt

pub load_counts : {S : Type 0} (K : SchemeOf S) (l : IsLawful K) (s : S) (n new : Device) (b : ℕ) (result : Result Block NvmError)
    → b < length (K.holding s n).blocks → OnOk result (new ≡ n) → OnErr result (HasFailed n new)
    → CountsOneFault result (failed_calls n) (failed_calls new)
load_counts K l s n new b result inside same failed =
    counts_once result n new (l.up s n b inside) (load_up K l s n new b result inside same)
    (on_err_weaker result (λ (f : HasFailed n new). f.down) failed)
