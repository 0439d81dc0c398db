use Rattle.std.proofs.Common.{◌∙◌, ap}
use Rattle.thy_cache.specs.Contents.{read_from}
use Rattle.thy_block.specs.declared.span.Span.{Span}
use Rattle.thy_hart.specs.Outcomes.{begun}
use Rattle.thy_hart.specs.HartState.{secured}
use Rattle.thy_hart.proofs.HandLemmas.{read-sound, begun-unsecured}
use Rattle.thy_hart.proofs.micro_steps.HartParts.read_piece.Goals as goal

pub returns-clause-sound : goal.returns-clause-sound
returns-clause-sound c = record {
  range = c.requires.range;
  in_hand = read-sound c.args.self.now.geometry c.args.effect c.args.from c.args.to c.block_in.result.now c.args.self.now.hand.bytes.items
      c.take_head.new.piece.items c.begun-self.result
      c.requires.reading c.take_head.ensures (c.begun-self.ensures ∙ ap (λ (s : Span). begun c.args.effect s c.args.to) c.rest.ensures);
}

pub returns-clause-unsecured : goal.returns-clause-unsecured
returns-clause-unsecured c = ap secured c.begun-self.ensures ∙ begun-unsecured c.args.effect c.rest.result c.args.to

pub returns-clause-cache : goal.returns-clause-cache
returns-clause-cache c = c.touch.ensures.cache ∙ ap (λ b. read_from b c.args.cache.now) c.first_block-b.ensures
