-- With counts that obey their laws a device obeys all laws, whatever it says of its wear.
use Rattle.std.proofs.Common.{◌≡◌, ℕ, ◌≤◌, Bool, true, false, refl, ap, inl}
use Rattle.thy_block.specs.Counts.{next}
use Rattle.thy_block.specs.Device.{Device, Unsaid, Crash, CutsWear, IsCut, IsSettled, HasFailed, HasFailedToSettle, HasFailedToWrite, Settles}
use Rattle.thy_layout.specs.Laws.{counted_as, DevicesMaySayNothing}

counted_crash : (n m : Device) (count : ℕ) → Crash n m.image → Crash (counted_as count n) m.image
counted_crash n m count c = record { same_length = c.same_length; each = c.each }

unsaid_cut : (down : Bool) → CutsWear down Unsaid Unsaid
unsaid_cut true = inl refl
unsaid_cut false = refl

pub devices_may_say_nothing : DevicesMaySayNothing
devices_may_say_nothing n m count later = record {
  fit = λ shape start is. ap (counted_as 0) is;
  write = λ at block is. ap (counted_as (next count)) is;
  drain = λ is. ap (counted_as count) is;
  barrier = λ is no_less. record { count = no_less; device = ap (counted_as later) is };
  cut = λ pick c. record { crash = counted_crash n m count c.crash; wear = unsaid_cut n.down; device = ap (counted_as count) c.device };
  failed = λ f. record { down = f.down; no_more = f.no_more; counts = record { writes = refl; wear = refl } };
  failed_write = λ at block f. record { down = f.down; no_more = f.no_more; counts = record { writes = refl; wear = refl } };
  failed_barrier = λ f no_less. record { down = f.down; no_more = f.no_more; writes = no_less; wear = refl };
}
