use Rattle.std.proofs.Common.{◌≡◌, true, refl, subst}
use Rattle.thy_cache.specs.Contents.{hits}
use Rattle.thy_block.specs.Spans.{first_block}
use Rattle.thy_hart.specs.declared.hand.Hand.TheVariants.{Reading}
use Rattle.thy_hart.specs.HartState.{HartState}
use Rattle.thy_hart.specs.InHand.{pieces_of}
use Rattle.thy_hart.proofs.MicroStepLemmas.{found_hits, IsMicroStep-read, IsActed-taken}
use Rattle.thy_hart.proofs.micro_steps.HartParts.read_pieces.Goals as goal

pub returns-in-Some-clause-acts : goal.returns-in-Some-clause-acts
returns-in-Some-clause-acts c =
    let old : HartState = pieces_of c.args.self.now in
    let new : HartState = pieces_of c.read_piece.new.self in
    let found = found_hits c.args.cache.now c.first_block.result c.find.result c.in-Some.location c.find.ensures.hit c.in-Some.is in
    let hit = subst (λ b. hits c.args.cache.now b ≡ true) c.first_block.ensures found in
    λ t. IsActed-taken t c.args.cache.now c.read_piece.new.cache old new (first_block c.args.from)
    (Reading c.args.effect c.args.from c.args.to) c.requires.hand refl hit
    (IsMicroStep-read t c.args.cache.now c.read_piece.new.cache old new c.args.effect c.args.from c.args.to c.requires.hand c.read_piece.ensures.hart
    c.read_piece.ensures.unsecured c.read_piece.ensures.lines c.read_piece.ensures.cache)
