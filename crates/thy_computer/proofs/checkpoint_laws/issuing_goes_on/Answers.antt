use Rattle.thy_computer.proofs.IssuingLemmas.{issuing_begins, slot_goes_on, elsewhere_keeps, drain_keeps}
use Rattle.thy_computer.proofs.checkpoint_laws.issuing_goes_on.Goals as goal

pub returns-clause-begins : goal.returns-clause-begins
returns-clause-begins c = issuing_begins

pub returns-clause-slot : goal.returns-clause-slot
returns-clause-slot c = λ image_blocks parts old new memory k placed h l is. slot_goes_on image_blocks parts old new memory k placed h l is

pub returns-clause-elsewhere : goal.returns-clause-elsewhere
returns-clause-elsewhere c = λ image_blocks parts old new memory k x block placed h most elsewhere is. elsewhere_keeps image_blocks parts
    old new memory k placed h x block most elsewhere is

pub returns-clause-drain : goal.returns-clause-drain
returns-clause-drain c = λ image_blocks parts old new memory k placed h is. drain_keeps image_blocks parts old new memory k placed h is
