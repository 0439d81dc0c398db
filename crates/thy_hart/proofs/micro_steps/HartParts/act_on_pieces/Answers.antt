use Rattle.std.proofs.Common.{length, subst}
use Rattle.thy_hart.specs.Outcomes.{given}
use Rattle.thy_hart.specs.HartState.{IsInHand}
use Rattle.thy_hart.specs.InHand.{pieces_of}
use Rattle.thy_hart.proofs.HandLemmas.{room_secured-sound}
use Rattle.thy_hart.proofs.micro_steps.HartParts.act_on_pieces.Goals as goal

pub returns-in-Securing-clause-sound : goal.returns-in-Securing-clause-sound
returns-in-Securing-clause-sound c =
    room_secured-sound c.args.free c.dirty.result c.args.under_way c.in-Securing.effect c.in-Securing.to (pieces_of c.args.self.now)
    (pieces_of c.secure_pieces.new.self)
    c.requires.sound (subst (λ hand. IsInHand c.args.self.now.geometry hand (length c.args.self.now.hand.bytes.items)) c.in-Securing.is
    c.requires.sound.in_hand) c.secure_pieces.ensures.hart

pub returns-in-Reading-clause-acts : goal.returns-in-Reading-clause-acts
returns-in-Reading-clause-acts c = c.read_pieces.ensures.acts (given c.args.input.now c.args.free c.args.under_way)

pub returns-in-Writing-clause-acts : goal.returns-in-Writing-clause-acts
returns-in-Writing-clause-acts c = c.write_pieces.ensures.acts (given c.args.input.now c.args.free c.args.under_way)
