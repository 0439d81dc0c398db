use Rattle.std.proofs.Common.{◌≡◌, true, length, refl, subst}
use Rattle.thy_cache.specs.Contents.{hits}
use Rattle.thy_block.specs.Spans.{first_block}
use Rattle.thy_hart.specs.declared.hand.Hand.TheVariants.{Writing}
use Rattle.thy_hart.specs.HartState.{HartState, IsInHand}
use Rattle.thy_hart.specs.InHand.{pieces_of}
use Rattle.thy_hart.proofs.MicroStepLemmas.{found_hits, IsMicroStep-write, IsActed-taken}
use Rattle.thy_hart.proofs.micro_steps.HartParts.write_pieces.Goals as goal

pub returns-in-Some-clause-acts : goal.returns-in-Some-clause-acts
returns-in-Some-clause-acts c =
    let old : HartState = pieces_of c.args.self.now in
    let new : HartState = pieces_of c.write_piece.new.self in
    let found = found_hits c.args.cache.now c.first_block.result c.find.result c.in-Some.location c.find.ensures.hit c.in-Some.is in
    let hit = subst (λ b. hits c.args.cache.now b ≡ true) c.first_block.ensures found in
    let writing = subst (λ hand. IsInHand old.geometry hand (length old.bytes)) c.requires.hand c.requires.sound.in_hand in
    λ t. IsActed-taken t c.args.cache.now c.write_piece.new.cache old new (first_block c.args.to)
    (Writing c.args.effect c.args.to c.args.done) c.requires.hand refl hit
    (IsMicroStep-write t c.args.cache.now c.write_piece.new.cache old new c.args.effect c.args.to c.args.done c.requires.hand writing c.write_piece.ensures.hart
    c.write_piece.ensures.memory c.write_piece.ensures.agree c.write_piece.ensures.room c.write_piece.ensures.sized c.write_piece.ensures.cache)
