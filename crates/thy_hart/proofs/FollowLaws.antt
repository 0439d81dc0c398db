-- The steps of the hart follow the steps of the plain machine.
use Rattle.std.proofs.Common.{◌≡◌, ℕ, true, false, List, sym, ◌∙◌, ap, subst}
use Rattle.thy_block.specs.declared.block.Block.{Block}
use Rattle.thy_block.specs.declared.cause.EndCause.{EndCause}
use Rattle.thy_block.specs.declared.cause.EndCause.TheVariants.{Length, Exhausted, Ended}
use Rattle.thy_block.specs.declared.parameters.Parameters.{Parameters}
use Rattle.thy_block.specs.Geometry.{IsInRange}
use Rattle.thy_cache.proofs.FlatLemmas.{length-flat}
use Rattle.thy_isa.specs.OnBlocks.{setting_for}
use Rattle.thy_isa.specs.Step.{State, is_running, step, crossed}
use Rattle.thy_isa.proofs.BlockLaws.{state_from-step}
use Rattle.thy_isa.proofs.HartLaws.{blocks-cross}
use Rattle.thy_hart.specs.declared.hand.Hand.TheVariants.{Nothing}
use Rattle.thy_hart.specs.declared.hand.HartStep.{HartStep}
use Rattle.thy_hart.specs.declared.hand.HartStep.TheVariants.{Moved, Retired, Waiting, Over}
use Rattle.thy_hart.specs.HartState.{HartState, has_written}
use Rattle.thy_hart.specs.Outcomes.{Given}
use Rattle.thy_hart.specs.Moments.{Moment, memory_of}
use Rattle.thy_hart.specs.OneStep.{current, coming_by, coming, IsOnTheWay, HasCome, IsDropped, IsUnmoved, Leads, LeadsOver, StaysWritten, IsStep}
use Rattle.thy_hart.specs.Laws.{IsSized, Follows, state_after, state_over, hart_crossed, CrossesOn}

-- with nothing in hand the next state is to come
pub next-coming : (input : List ℕ) (h : HartState) (memory : List Block) → IsSized h memory → h.hand ≡ Nothing
    → is_running h.cpu.status ≡ true
    → coming input h memory ≡ step (setting_for h.geometry input) (current h memory)
unfolding coming current
next-coming input h memory s none running =
    ap (coming_by input h memory) none ∙ state_from-step h.geometry input h.cpu memory s.range s.blocks s.console running

sized-after : (g : Given) (old new : Moment) (s : HartStep) → IsStep g old new s → IsSized old.hart (memory_of old)
    → IsSized new.hart (memory_of new)
sized-after g old new s w sized = record {
  range = subst IsInRange (sym w.fixed) sized.range;
  blocks = length-flat new.cache new.held.blocks ∙ w.ready.blocks;
  console = w.console sized.console;
}

module _ (input : List ℕ) (now : State) (old new : HartState) (before after : List Block) where
  -- the instruction in hand continues
  on_the_way : Follows input now old before → IsSized new after → new.geometry ≡ old.geometry → IsOnTheWay input old before new after
      → (has_written new.hand ≡ false → after ≡ before) → (has_written new.hand ≡ false → has_written old.hand ≡ false)
      → Follows input now new after
  unfolding current
  on_the_way f sized fixed way clean written = record {
    sized = sized;
    current = λ not.
        ap (λ (p : Parameters). current (record new { geometry = p }) after) fixed
        ∙ ap (λ c. current (record old { cpu = c }) after) way.cpu
        ∙ ap (current old) (clean not)
        ∙ f.current (written not);
    coming = λ running.
        way.coming
        ∙ f.coming (sym (ap (λ (c : _). is_running c.status) way.cpu) ∙ running)
        ∙ ap (λ (p : Parameters). step (setting_for p input) now) (sym fixed);
  }

  -- after an instruction retired, the hart follows the plain machine
  has_come : is_running old.cpu.status ≡ true → Follows input now old before → IsSized new after → HasCome input old before new after
      → Follows input (step (setting_for old.geometry input) now) new after
  has_come runs f sized come =
      let is : current new after ≡ step (setting_for old.geometry input) now = come.current ∙ f.coming runs in
      record {
        sized = sized;
        current = λ _. is;
        coming = λ running. next-coming input new after sized come.hand running ∙ ap (step (setting_for new.geometry input)) is;
      }

  -- after an instruction was dropped, the hart follows the plain machine
  was_dropped : Follows input now old before → IsSized new after → new.geometry ≡ old.geometry → IsDropped old before new after
      → Follows input now new after
  unfolding current
  was_dropped f sized fixed drop =
      let is : current new after ≡ now
      = ap (λ (p : Parameters). current (record new { geometry = p }) after) fixed
      ∙ ap (λ c. current (record old { cpu = c }) after) drop.cpu
      ∙ ap (current old) drop.memory
      ∙ f.current drop.unwritten in
      record {
        sized = sized;
        current = λ _. is;
        coming = λ running. next-coming input new after sized drop.hand running ∙ ap (step (setting_for new.geometry input)) is;
      }

  unmoved : Follows input now old before → IsUnmoved old before new after → Follows input now new after
  unmoved f same =
      subst (λ h. Follows input now h after) (sym same.hart) (subst (Follows input now old) (sym same.memory) f)

follows-over : (cause : EndCause) (input : List ℕ) (now : State) (old new : HartState) (before after : List Block)
    → is_running old.cpu.status ≡ true → Follows input now old before
    → IsSized new after → new.geometry ≡ old.geometry → LeadsOver cause input old before new after
    → Follows input (state_over cause now (step (setting_for old.geometry input) now)) new after
follows-over Length input now old new before after runs f sized fixed leads = has_come input now old new before after runs f sized leads
follows-over (Exhausted free dirty need) input now old new before after runs f sized fixed leads =
    was_dropped input now old new before after f sized fixed leads
follows-over Ended input now old new before after runs f sized fixed leads = has_come input now old new before after runs f sized leads

follows-by : (s : HartStep) (input : List ℕ) (now : State) (old new : HartState) (before after : List Block)
    → is_running old.cpu.status ≡ true → Follows input now old before
    → IsSized new after → new.geometry ≡ old.geometry → Leads s input old before new after → (has_written new.hand ≡ false → after ≡ before)
    → StaysWritten s old.hand new.hand → Follows input (state_after s now (step (setting_for old.geometry input) now)) new after
follows-by Moved input now old new before after runs f sized fixed leads clean written =
    on_the_way input now old new before after f sized fixed leads clean written
follows-by Retired input now old new before after runs f sized fixed leads clean written = has_come input now old new before after runs f sized leads
follows-by Waiting input now old new before after runs f sized fixed leads clean written = unmoved input now old new before after f leads
follows-by (Over cause) input now old new before after runs f sized fixed leads clean written =
    follows-over cause input now old new before after runs f sized fixed leads

pub follows-on : (g : Given) (old new : Moment) (s : HartStep) (now : State) → is_running old.hart.cpu.status ≡ true → IsStep g old new s
    → Follows g.input now old.hart (memory_of old)
    → Follows g.input (state_after s now (step (setting_for old.hart.geometry g.input) now)) new.hart (memory_of new)
follows-on g old new s now runs w f =
    follows-by s g.input now old.hart new.hart (memory_of old) (memory_of new) runs f
    (sized-after g old new s w f.sized) w.fixed w.leads w.clean w.written

-- ---- the other hart comes to the front

pub crosses-on : CrossesOn
unfolding current
crosses-on input now h memory none f =
    let unwritten : has_written h.hand ≡ false = ap has_written none in
    let sized : IsSized (hart_crossed h) memory = record { range = f.sized.range; blocks = f.sized.blocks; console = f.sized.console } in
    let is : current (hart_crossed h) memory ≡ crossed now = blocks-cross h.geometry h.cpu memory ∙ ap crossed (f.current unwritten) in
    record {
      sized = sized;
      current = λ _. is;
      coming = λ running. next-coming input (hart_crossed h) memory sized none running ∙ ap (step (setting_for h.geometry input)) is;
    }
