use Rattle.std.proofs.Common.{◌≡◌, length, sym, ap, ◌∙◌, subst, arith}
use Rattle.thy_block.specs.Bytes.{bytes_of}
use Rattle.thy_isa.specs.Step.{State}
use Rattle.thy_plain.specs.Held.{state_at}
use Rattle.thy_plain.specs.Machine.{setting_of}
use Rattle.thy_plain.specs.Window.{HasWords, IsWindow}
use Rattle.thy_plain.proofs.StepLemmas.{advanced-size}
use Rattle.thy_plain.proofs.plain.Plain.advance.Goals as goal

pub invariant_of-self : goal.invariant_of-self
invariant_of-self c =
    let setup = c.self.inside.setup in
    let same : length (bytes_of c.advance.new.state.memory) ≡ length (bytes_of c.self.inside.state.memory) =
    ap (λ (s : State). length s.memory) c.advance.ensures.state ∙ advanced-size (setting_of setup) (state_at 0 c.self.inside.state) in (
      omega (arith, c.self.invariant.0, c.advance.ensures.room),
      subst (λ n. IsWindow setup.base n setup.window) (sym same) c.self.invariant.1,
      subst (λ n. HasWords setup.base n setup.words) (sym same) c.self.invariant.2,
      c.advance.ensures.seat,
    )
