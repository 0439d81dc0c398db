-- What is left of the checkpoint under way, as the searches find it, and as every block has it.
use Rattle.std.specs.Prelude.{◌≡◌, None}
use Rattle.thy_control.specs.State.{State, AreSoundTables}
use Rattle.thy_control.specs.Copies.{next_copy}
use Rattle.thy_control.specs.Pages.{next_page}
use Rattle.thy_control.specs.Stays.{AreCopied}

-- no copy and no page block comes next
pub record HasNoneLeft (s : State) : Type 0 where
  pub copies : next_copy s ≡ None
  pub pages : next_page s ≡ None

-- if no copy and no page block comes next, every block is copied and written
abbrev pub NoneLeftIsCopied : Type 0
NoneLeftIsCopied = (s : State) → HasNoneLeft s → AreCopied s

-- if every block is copied and written, nothing is left
abbrev pub CopiedHasNoneLeft : Type 0
CopiedHasNoneLeft = (s : State) → AreSoundTables s → AreCopied s → HasNoneLeft s
