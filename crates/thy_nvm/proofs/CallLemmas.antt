-- What the calls of a device in memory leave.
use Rattle.std.proofs.Common.{◌≡◌, ℕ, ◌+◌, ◌&&◌, if◌then◌else◌, take, drop, refl, sym, ◌∙◌, ap, subst, arith}
use Rattle.std.proofs.Math.Seq.{take-add}
use Rattle.std.proofs.lemmas.List.{drop-drop}
use Rattle.std.specs.Prelude.{Option, Some, None, Result, Ok, Err, OnOk, OnErr, is_err, is_some}
use Rattle.thy_block.specs.declared.block.Block.{Block}
use Rattle.thy_block.specs.declared.nvm.NvmError.{NvmError}
use Rattle.thy_block.specs.Counts.{next}
use Rattle.thy_block.specs.Device.{Device, CountsBy, own_count, CountsNothing, HoldsNoMore, HasFailed, HasFailedToSettle, HasFailedToWrite, IsFramed, IsSettled, Plain, Wear, applied, landed, drained, is_worn, at_rest, with_queued}
use Rattle.thy_block.proofs.DeviceLemmas.{length-applied, length-landed, applied-append, no_more-with_queued}
use Rattle.thy_dram.specs.Held.{Held, as_device}
use Rattle.thy_nvm.specs.declared.call_faults.Fault.{Fault}
use Rattle.thy_nvm.specs.declared.call_faults.Fault.TheVariants.{Undone, Late}
use Rattle.thy_nvm.specs.DeviceInMemory.{InMemory, on_device, left_after}

-- one write more has landed
pub drained-landed : (k : ℕ) (r : Held) → as_device drained (as_device (landed k) r) ≡ as_device (landed (k + 1)) r
drained-landed k r =
    let image : applied (applied r.image (take k r.queue)) (take 1 (drop k r.queue)) ≡ applied r.image (take (k + 1) r.queue)
    = sym (applied-append r.image (take k r.queue) (take 1 (drop k r.queue))) ∙ ap (applied r.image) (sym (take-add k 1 r.queue)) in
    ap (λ i. record r { image = i; queue = drop 1 (drop k r.queue) }) image
    ∙ ap (λ q. record r { image = applied r.image (take (k + 1) r.queue); queue = q }) (drop-drop 1 k r.queue)

-- what a call leaves that fails, if failing late makes nothing more possible
pub HasFailed-left : {T : Type 0} (done : InMemory → InMemory) (late : Device → Device) (fault : Option Fault)
    (result : Result T NvmError) (old : Device) (m new : InMemory)
    → m.device ≡ old → ((n : Device) → HoldsNoMore n (late n)) → ((n : Device) → CountsNothing n (late n)) → is_err result ≡ is_some fault
    → new ≡ left_after fault done late m → OnErr result (HasFailed old new.device)
HasFailed-left done late None (Ok x) old m new same no_more counts fails leaves = search
HasFailed-left done late None (Err e) old m new same no_more counts fails leaves = absurd (cc)
HasFailed-left done late (Some f) (Ok x) old m new same no_more counts fails leaves = absurd (cc)
HasFailed-left done late (Some Undone) (Err e) old m new same no_more counts fails leaves =
    subst (λ (n : Device). HasFailed n new.device) same
    (subst (λ (i : InMemory). HasFailed m.device i.device) (sym leaves)
    (record { down = refl; no_more = λ x b h. h; counts = record { writes = refl; wear = refl } }))
HasFailed-left done late (Some Late) (Err e) old m new same no_more counts fails leaves =
    subst (λ (n : Device). HasFailed n new.device) same
    (subst (λ (i : InMemory). HasFailed m.device i.device) (sym leaves) (record {
      down = refl;
      no_more = no_more m.device;
      counts = record { writes = (counts m.device).writes; wear = (counts m.device).wear };
    }))

-- a write that fails leaves nothing new possible except its own block, if one that fails late makes nothing else
-- possible
pub HasFailedToWrite-left : {T : Type 0} (at : ℕ) (block : Block) (done : InMemory → InMemory) (late : Device → Device)
    (fault : Option Fault)
    (result : Result T NvmError) (old : Device) (m new : InMemory)
    → m.device ≡ old → ((n : Device) → HoldsNoMore (with_queued at block n) (late n)) → ((n : Device) → CountsNothing n (late n))
    → is_err result ≡ is_some fault → new ≡ left_after fault done late m
    → OnErr result (HasFailedToWrite at block old new.device)
HasFailedToWrite-left at block done late None (Ok x) old m new same no_more counts fails leaves = search
HasFailedToWrite-left at block done late None (Err e) old m new same no_more counts fails leaves = absurd (cc)
HasFailedToWrite-left at block done late (Some f) (Ok x) old m new same no_more counts fails leaves = absurd (cc)
HasFailedToWrite-left at block done late (Some Undone) (Err e) old m new same no_more counts fails leaves =
    subst (λ (n : Device). HasFailedToWrite at block n new.device) same
    (subst (λ (i : InMemory). HasFailedToWrite at block m.device i.device) (sym leaves)
    (record { down = refl; no_more = no_more-with_queued m.device at block; counts = record { writes = refl; wear = refl } }))
HasFailedToWrite-left at block done late (Some Late) (Err e) old m new same no_more counts fails leaves =
    subst (λ (n : Device). HasFailedToWrite at block n new.device) same
    (subst (λ (i : InMemory). HasFailedToWrite at block m.device i.device) (sym leaves) (record {
      down = refl;
      no_more = no_more m.device;
      counts = record { writes = (counts m.device).writes; wear = (counts m.device).wear };
    }))

-- a barrier of a plain device makes no write of its own
pub plain_count : (n : Device) → n.wear ≡ Plain → CountsBy n.wear n.writes (own_count n) n.writes
plain_count n plain =
    subst (λ (w : Wear). CountsBy w n.writes (own_count n) n.writes) (sym plain)
    (sym (ap (λ (w : Wear). if is_worn w && n.whole then next (next n.writes) else n.writes) plain))

pub IsSettled-left : {T : Type 0} (late : Device → Device) (fault : Option Fault) (result : Result T NvmError)
    (old : Device) (m new : InMemory)
    → m.device ≡ old → m.device.wear ≡ Plain → is_err result ≡ is_some fault → new ≡ left_after fault (on_device at_rest) late m
    → OnOk result (IsSettled old new.device)
IsSettled-left late None (Ok x) old m new same plain fails leaves =
    subst (λ (n : Device). IsSettled n new.device) same
    (subst (λ (i : InMemory). IsSettled m.device i.device) (sym leaves) (record { count = plain_count m.device plain; device = refl }))
IsSettled-left late (Some f) (Ok x) old m new same plain fails leaves = absurd (cc)
IsSettled-left late fault (Err e) old m new same plain fails leaves = tt

-- what a barrier leaves that fails
pub HasFailedToSettle-left : {T : Type 0} (done : InMemory → InMemory) (late : Device → Device) (fault : Option Fault)
    (result : Result T NvmError) (old : Device) (m new : InMemory)
    → m.device ≡ old → ((n : Device) → HoldsNoMore n (late n)) → ((n : Device) → CountsNothing n (late n)) → is_err result ≡ is_some fault
    → new ≡ left_after fault done late m → OnErr result (HasFailedToSettle old new.device)
HasFailedToSettle-left done late fault (Ok x) old m new same no_more counts fails leaves = tt
HasFailedToSettle-left {T = T} done late fault (Err e) old m new same no_more counts fails leaves =
    let f : HasFailed old new.device = HasFailed-left {T = T} done late fault (Err e) old m new same no_more counts fails leaves in
    record { down = f.down; no_more = f.no_more; writes = omega (arith, f.counts.writes); wear = f.counts.wear }

-- what a call leaves keeps what only a fit and a cut change, if what it does keeps that, and what it does if it fails late
pub IsFramed-left : (done : InMemory → InMemory) (late : Device → Device) (fault : Option Fault) (old : Device) (m new : InMemory)
    → m.device ≡ old → ((i : InMemory) → IsFramed i.device (done i).device) → ((n : Device) → IsFramed n (late n))
    → new ≡ left_after fault done late m → IsFramed old new.device
IsFramed-left done late None old m new same framed framed_late leaves =
    subst (λ (n : Device). IsFramed n new.device) same (subst (λ (i : InMemory). IsFramed m.device i.device) (sym leaves) (framed m))
IsFramed-left done late (Some Undone) old m new same framed framed_late leaves =
    subst (λ (n : Device). IsFramed n new.device) same
    (subst (λ (i : InMemory). IsFramed m.device i.device) (sym leaves)
    (record { blocks = refl; left = refl; picks = refl; queue_room = refl; left_room = refl; fits = refl; lent = refl; whole = refl }))
IsFramed-left done late (Some Late) old m new same framed framed_late leaves =
    let f = framed_late m.device in
    subst (λ (n : Device). IsFramed n new.device) same
    (subst (λ (i : InMemory). IsFramed m.device i.device) (sym leaves)
    (record { blocks = f.blocks; left = f.left; picks = f.picks; queue_room = f.queue_room; left_room = f.left_room; fits = f.fits; lent = f.lent; whole = f.whole }))

-- a barrier keeps what only a fit and a cut change
pub IsFramed-settled : (n : Device) → IsFramed n (at_rest n)
IsFramed-settled n = record {
  blocks = length-applied n.image n.queue;
  left = refl;
  picks = refl;
  queue_room = refl;
  left_room = refl;
  fits = refl;
  lent = refl;
  whole = refl;
}

-- writes that land keep what only a fit and a cut change
pub IsFramed-landed : (k : ℕ) (n : Device) → IsFramed n (landed k n)
IsFramed-landed k n = record {
  blocks = length-landed k n;
  left = refl;
  picks = refl;
  queue_room = refl;
  left_room = refl;
  fits = refl;
  lent = refl;
  whole = refl;
}
