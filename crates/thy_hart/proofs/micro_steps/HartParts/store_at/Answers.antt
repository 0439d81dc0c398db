use Rattle.std.proofs.Common.{◌+◌, sym, ap}
use Rattle.thy_block.specs.declared.span.Span.{Span}
use Rattle.thy_block.specs.Spans.{head_len}
use Rattle.thy_hart.specs.declared.hand.Hand.{Hand}
use Rattle.thy_hart.specs.declared.in_hand.Stage.TheVariants.{Stores}
use Rattle.thy_hart.specs.HartState.{HartState}
use Rattle.thy_hart.specs.InHand.{span_of, store_of, at_stage}
use Rattle.thy_hart.proofs.HandLemmas.{written_on-whole}
use Rattle.thy_hart.proofs.micro_steps.HartParts.store_at.Goals as goal

pub returns-clause-hart : goal.returns-clause-hart
returns-clause-hart g c =
    let s : Span = span_of c.args.self.now.hand.access in
    let old : HartState = at_stage Stores c.args.self.now in
    ap (λ (hand : Hand). record old { hand = hand }) (sym (written_on-whole (store_of c.args.self.now.hand) s (0 + head_len s) c.put_value.ensures.whole))
