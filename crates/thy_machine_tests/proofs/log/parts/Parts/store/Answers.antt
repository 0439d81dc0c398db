use Rattle.std.proofs.Common.{refl, ◌∙◌, ap}
use Rattle.thy_journal_parts.specs.State.{State}
use Rattle.thy_machine_tests.proofs.LogLemmas.{AreParts-on, p_stored}
use Rattle.thy_machine_tests.proofs.log.parts.Parts.store.Goals as goal

pub invariant_of-self : goal.invariant_of-self
invariant_of-self g c =
    AreParts-on c.self.inside.geometry c.self.inside.log c.store.new.self c.self.inside.engine c.self.inside.nvm.device c.self.inside.nvm.device c.self.inside.cuts
    c.self.invariant (ap (λ (s : State). s.p) c.store.ensures ∙ p_stored c.args.b c.args.block.now c.self.inside.log) c.recall_sound.ensures refl
    (record { blocks = refl; left = refl; picks = refl; queue_room = refl; left_room = refl; fits = refl; lent = refl; whole = refl })
