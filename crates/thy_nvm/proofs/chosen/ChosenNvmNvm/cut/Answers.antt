use Rattle.std.proofs.Common.{subst}
use Rattle.thy_nvm.specs.Chosen.{Choosing, HasCutAsChosen}
use Rattle.thy_nvm.proofs.chosen.ChosenNvmNvm.cut.Goals as goal

pub returns-else-lands_whole-clause-chosen : goal.returns-else-lands_whole-clause-chosen
returns-else-lands_whole-clause-chosen c = λ torn.
    let new : Choosing = record { nvm = c.cut_as_chosen.new.self; numbers = c.cut_as_chosen.new.choices } in
    subst (λ (s : Choosing). HasCutAsChosen s new) c.self.view_is
    (record { words = c.cut_as_chosen.ensures.words; numbers = c.cut_as_chosen.ensures.taken; calls = c.cut_as_chosen.ensures.calls })
