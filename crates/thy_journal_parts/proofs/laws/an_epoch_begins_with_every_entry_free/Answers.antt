use Rattle.std.proofs.Common.{◌∙◌, ap}
use Rattle.thy_block.specs.declared.parameters.Parameters.{Parameters}
use Rattle.thy_scheme_parts.proofs.WaitLemmas.{rests_idle, first_has_room}
use Rattle.thy_journal_parts.specs.Design.{journal_design}
use Rattle.thy_journal_parts.proofs.DesignLemmas.{is_design}
use Rattle.thy_journal_parts.proofs.laws.an_epoch_begins_with_every_entry_free.Goals as goal

pub returns-clause-free : goal.returns-clause-free
returns-clause-free c o k s n stands storeless idle =
    rests_idle journal_design o k s n stands.sound storeless idle
    ∙ stands.sound.held.moment.sound.size
    ∙ ap (λ (p : Parameters). p.btt) stands.sound.held.geometry

pub returns-clause-room : goal.returns-clause-room
returns-clause-room c = first_has_room journal_design is_design (λ sealed s rests. rests)
