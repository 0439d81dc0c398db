use Rattle.std.proofs.Common.{◌+◌, length, ◌∙◌, ap}
use Rattle.thy_block.specs.declared.span.Span.{Span}
use Rattle.thy_block.specs.Spans.{rest_of}
use Rattle.thy_hart.specs.Outcomes.{written_on}
use Rattle.thy_hart.proofs.HandLemmas.{write-sound}
use Rattle.thy_hart.proofs.micro_steps.HartParts.write_piece.Goals as goal

pub returns-clause-sound : goal.returns-clause-sound
returns-clause-sound c = record {
  range = c.requires.range;
  in_hand = write-sound c.args.self.now.geometry c.args.effect c.args.to c.args.done
      (length c.args.self.now.hand.bytes.items) c.written_on-self.result
      c.requires.writing
      (c.written_on-self.ensures
      ∙ ap (λ (s : Span). written_on c.args.effect s (c.args.done + c.head_len-len.result)) c.rest.ensures
      ∙ ap (λ n. written_on c.args.effect (rest_of c.args.to) (c.args.done + n)) c.head_len-len.ensures.len);
}
