-- Part of the claim.
-- The result of an order, and of a call.
use Rattle.std.specs.Prelude.{◌≡◌, ◌⊎◌, ℕ, List, Ok}
use Rattle.thy_base.specs.declared.arguments.words.WordsError.{WordsError}
use Rattle.thy_base.specs.Settings.{Order, run, resume, bench, compare, plain, make, settings_of}
use Rattle.thy_outcome.specs.declared.answer.Answer.{Answer}
use Rattle.thy_outcome.specs.declared.refusal.Refusal.TheVariants.{Words}
use Rattle.thy_outcome.specs.Answering.{Around, NvmOf, IsRefused, MakeAnswered, PlainAnswered, RunAnswered, WordsDue, outside_of}
use Rattle.thy_outcome.specs.Comparing.{CompareAnswered}
use Rattle.thy_outcome.specs.Machines.{Choice}
use Rattle.thy_outcome.specs.Sources.{file, made, image}

-- the arguments are refused, and shelf and device are left alone
abbrev pub WordsRefused : {N : Type 0} → NvmOf N → List (List ℕ) → Around N → Around N → Answer → Type 0
WordsRefused d words before after a =
    (e : WordsError) × WordsDue words e × (after.shelf ≡ before.shelf) × (after.nvm ≡ before.nvm)
    × IsRefused (Words e) (outside_of d before) (outside_of d after) a

-- the result of an order: a run of a source on the machine of the job's scheme, runs of one by each scheme, one on the
-- plain machine, or a made program
abbrev pub OrderAnswered : {N : Type 0} → Choice → NvmOf N → Order → Around N → Around N → Answer → Type 0
OrderAnswered c d (run name job) before after a =
    RunAnswered (c job.config.scheme).kind (file name) job (outside_of d before) (outside_of d after) a
OrderAnswered c d (bench n job) before after a =
    RunAnswered (c job.config.scheme).kind (made n) job (outside_of d before) (outside_of d after) a
OrderAnswered c d (resume name job) before after a =
    RunAnswered (c job.config.scheme).kind (image name) job (outside_of d before) (outside_of d after) a
OrderAnswered c d (compare name job) before after a = CompareAnswered c d name job before after a
OrderAnswered c d (plain name job) before after a = PlainAnswered name job (outside_of d before) (outside_of d after) a
OrderAnswered c d (make n name) before after a = MakeAnswered n name (outside_of d before) (outside_of d after) a

-- The result of a call: the arguments are refused, or they give an order, and this is its result.
abbrev pub Answered : {N : Type 0} → Choice → NvmOf N → List (List ℕ) → Around N → Around N → Answer → Type 0
Answered c d words before after a =
    WordsRefused d words before after a
    ⊎ ((order : Order) × (settings_of words ≡ Ok order) × OrderAnswered c d order before after a)
