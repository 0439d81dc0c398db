use Rattle.std.proofs.Common.{ℕ, Option, List, ◌++◌, ◌∙◌, ap₂}
use Rattle.thy_observe.specs.declared.trap.Trap.{Trap}
use Rattle.observe.specs.HeadText.{trap_text}
use Rattle.observe.proofs.head.plain_text.Goals as goal

pub returns : goal.returns
returns c = λ base last h.
    c.in_ok-add_trap.ensures
    ∙ ap₂ (λ (old : List ℕ) (trap : Option Trap). old ++ trap_text 1 trap) c.new-text.ensures.bytes (c.trap.ensures base last h)
