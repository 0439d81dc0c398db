use Rattle.thy_control.proofs.FrameLemmas.{HoldAll-framed}
use Rattle.thy_control.proofs.laws.loaded_frames_hold_all.Goals as goal

pub returns : goal.returns
returns c = HoldAll-framed
