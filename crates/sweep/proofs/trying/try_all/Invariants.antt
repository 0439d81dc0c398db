use Rattle.std.proofs.Common.{take}
use Rattle.thy_sweep.specs.Images.{crash_images}
use Rattle.thy_sweep.specs.Lying.{lying}
use Rattle.thy_sweep.specs.Rooms.{HasRoomFor}
use Rattle.sweep.specs.Rows.{TriesImages}
use Rattle.sweep.proofs.trying.try_all.Given as goal

-- there is room for the next image, and those so far were tried
abbrev pub invariant-loop-number : goal.invariant-loop-number
invariant-loop-number g l = record {
  room : HasRoomFor l.plan (g.N.OverMemory.memory l.nvm) l.room;
  tried : TriesImages g.M.Computer.kind l.part l.plan (lying g.N.OverMemory.levels (g.N.OverMemory.memory l.nvm) (g.N.Nvm.device l.nvm)) l.mix
      (take l.number (crash_images (g.N.OverMemory.memory l.nvm))) l.initial.row l.row;
}
