use Rattle.thy_shadow_parts.proofs.TableLemmas.{target_lowest, target_free}
use Rattle.thy_shadow_parts.proofs.CountLemmas.{room}
use Rattle.thy_shadow_parts.proofs.pool_laws.frames_go_to_free_pages.Goals as goal

pub returns-clause-room : goal.returns-clause-room
returns-clause-room c = room

pub returns-clause-free : goal.returns-clause-free
returns-clause-free c = λ s j q x h goes lists. target_free s h j q goes x lists

pub returns-clause-lowest : goal.returns-clause-lowest
returns-clause-lowest c = λ s j q r h goes below. target_lowest s j q r h goes below
