use Rattle.std.proofs.Common.{ℕ, List, take, ◌∙◌, sym, ap, arith}
use Rattle.std.proofs.lemmas.List.{take_more}
use Rattle.thy_block.specs.Bytes.{bytes_of}
use Rattle.thy_isa.specs.OnBlocks.{setting_for}
use Rattle.thy_isa.specs.Step.{state_of}
use Rattle.thy_plain.specs.Machine.{in_state}
use Rattle.thy_observe.specs.Replaying.{state_after}
use Rattle.thy_observe.proofs.ReplayLemmas.{plain-one}
use Rattle.thy_observe.proofs.replay.at_turns.Goals as goal

pub loop-i-preserved : goal.loop-i-preserved
loop-i-preserved c =
    let p = c.args.geometry.now in
    let start = c.args.start.now in
    let harts = c.args.harts.now in
    let input = bytes_of start.input in
    c.in_ok-step.ensures
    ∙ plain-one p start (take c.loop-i.i harts) _ c.loop-i.plain c.loop-i.invariant
    ∙ ap (λ (hs : List ℕ). in_state p (state_after (setting_for p input) (state_of start.state) hs) input) (sym (take_more harts c.loop-i.i 0 (omega arith)))
