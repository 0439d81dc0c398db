-- Part of the claim.
-- What controller and NVM hold together, seen as a store of blocks.
use Rattle.std.specs.Prelude.{◌==◌, ◌&&◌, not, if◌then◌else◌, Bool, [], length}
use Rattle.thy_block.specs.Device.{Device, failed_calls}
use Rattle.thy_block.specs.Store.{Holding}
use Rattle.thy_checkpoint.specs.Filling.{layout_at}
use Rattle.thy_scheme_parts.specs.Design.{DesignOf}

-- the NVM has its size and is up, and is what the controller keeps of it
abbrev pub is_held : {C : Type 0} → DesignOf C → C → Device → Bool
is_held D c n = D.parts.agrees c n && (length n.image == (layout_at D.filling (D.filling.p c)).image_blocks && not n.down)

-- what a load of each block gives, and what stores there is room for
abbrev pub holding_of : {C : Type 0} → DesignOf C → C → Device → Holding
holding_of D c n = record {
  blocks = if is_held D c n then D.filling.loads c n else [];
  faults = failed_calls n;
  free = D.parts.free c;
  ready = not (D.parts.pages.promoting c) && not n.down;
  open_page = D.parts.open_page c;
  owed = D.parts.owed c;
}
