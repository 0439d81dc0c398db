use Rattle.thy_sweep.specs.Lying.{lying}
use Rattle.thy_sweep.specs.Rooms.{HasRoomFor}
use Rattle.sweep.proofs.RowLemmas.{IsTrying}
use Rattle.sweep.proofs.trying.try_picks.Given as goal

-- there is room for the next image, and the images of the picks so far were tried
abbrev pub invariant-loop-i : goal.invariant-loop-i
invariant-loop-i g l = record {
  room : HasRoomFor l.plan (g.N.OverMemory.memory l.nvm) l.room;
  trying : IsTrying g.M.Computer.kind l.plan (lying g.N.OverMemory.levels (g.N.OverMemory.memory l.nvm) (g.N.Nvm.device l.nvm)) l.mix l.asked l.i l.numbers.items l.initial.row l.row;
}
