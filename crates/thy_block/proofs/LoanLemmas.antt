-- A device that is lent, after calls that keep what only a fit and a cut change.
use Rattle.std.proofs.Common.{◌≡◌, List, drop, slice_index_or, ap}
use Rattle.std.specs.Borrow.{GName}
use Rattle.thy_block.specs.Device.{Device, IsFramed, lent_by}

-- the loan is the same
pub same_loan : (name other : GName) (old new : Device) → IsFramed (lent_by name old) (lent_by other new) → other ≡ name
same_loan name other old new f = ap (λ (names : List GName). slice_index_or names 0 name) f.lent

-- if a loan is framed, the device within it is framed too
pub framed_within : (name other : GName) (old new : Device) → IsFramed (lent_by name old) (lent_by other new) → IsFramed old new
framed_within name other old new f = record {
  blocks = f.blocks;
  left = f.left;
  picks = f.picks;
  queue_room = f.queue_room;
  left_room = f.left_room;
  fits = f.fits;
  lent = ap (drop 1) f.lent;
  whole = f.whole;
}
