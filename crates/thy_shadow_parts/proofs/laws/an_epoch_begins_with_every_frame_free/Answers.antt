use Rattle.std.proofs.Common.{◌∙◌, ap}
use Rattle.thy_block.specs.declared.parameters.Parameters.{Parameters}
use Rattle.thy_scheme_parts.proofs.WaitLemmas.{rests_idle, first_has_room}
use Rattle.thy_shadow_parts.specs.Design.{shadow_design}
use Rattle.thy_shadow_parts.proofs.DesignLemmas.{is_design}
use Rattle.thy_shadow_parts.proofs.laws.an_epoch_begins_with_every_frame_free.Goals as goal

pub returns-clause-free : goal.returns-clause-free
returns-clause-free c o k s n stands storeless idle =
    rests_idle shadow_design o k s n stands.sound storeless idle
    ∙ stands.sound.held.moment.sound.frames_size
    ∙ ap (λ (p : Parameters). p.ptt) stands.sound.held.geometry

pub returns-clause-room : goal.returns-clause-room
returns-clause-room c = first_has_room shadow_design is_design (λ sealed s rests. rests)
