-- The counts by cause as text.
use Rattle.std.specs.Prelude.{◌≡◌, ℕ, if◌then◌else◌, Bool, ◌==◌, Option, Some, None, List, [], ◌∷◌, ◌++◌, length, get_or, count_by, codes}
use Rattle.std.specs.Fmt.{decimal}
use Rattle.std.specs.List.{flat_map}
use Rattle.thy_block.specs.Counts.{next}
use Rattle.thy_run.specs.Watching.{Taken}
use Rattle.thy_text.specs.Event.{Event}
use Rattle.thy_observe.specs.declared.causes.Cause.{Cause}
use Rattle.thy_observe.specs.declared.causes.Cause.TheVariants.{Boot, Instruction, Meanwhile, Flush, Merge, Seal, Promotion, Copy, Home, Page, Processor, Table, Commit, Barrier, NvmDrain, DramDrain, Nothing}
use Rattle.thy_observe.specs.declared.counting.Calls.{Calls}
use Rattle.thy_observe.specs.declared.epochs.End.{End}
use Rattle.thy_observe.specs.declared.epochs.End.TheVariants as end
use Rattle.thy_observe.specs.declared.epochs.Row.{Row}
use Rattle.thy_observe.specs.declared.watch.Watch.{Watch}
use Rattle.thy_observe.specs.Causes.{all_causes, cause_index, how_many_by}
use Rattle.thy_observe.specs.Epochs.{account_of, last_row, with_last}
use Rattle.thy_observe.specs.Kinds.{has_waited}
use Rattle.thy_observe.specs.Watched.{IsWatch}
use Rattle.observe.specs.declared.beginning.Begun.{Begun}
use Rattle.observe.specs.declared.options.Options.{Options}
use Rattle.observe.specs.declared.head.Asked.{Asked}
use Rattle.observe.specs.HeadText.{IsHead}
use Rattle.observe.specs.Sections.{HasSections}
use Rattle.observe.specs.StateText.{rows_from}

-- ---- how many cycles there were of each cause

abbrev pub cause_name : Cause → List ℕ
cause_name Boot = codes "boot"
cause_name Instruction = codes "instructions"
cause_name Meanwhile = codes "meanwhile"
cause_name Flush = codes "flushes"
cause_name Merge = codes "merges"
cause_name Seal = codes "seals"
cause_name Promotion = codes "promotions"
cause_name Copy = codes "copies"
cause_name Home = codes "homes"
cause_name Page = codes "pages"
cause_name Processor = codes "processor"
cause_name Table = codes "tables"
cause_name Commit = codes "commits"
cause_name Barrier = codes "barriers"
cause_name NvmDrain = codes "nvmdrains"
cause_name DramDrain = codes "dramdrains"
cause_name Nothing = codes "nothing"

-- the line of a number: the name of what it counts, and the number
abbrev pub count_row : (name : List ℕ) (count : ℕ) → List ℕ
count_row name count = name ++ (codes " " ++ (decimal count ++ codes "\n"))

-- a head line, a line for each cause, and one for the cycles in which the engine took the turn of a hart that waits
abbrev pub causes_by : (Cause → ℕ) → (waiting : ℕ) → List ℕ
causes_by count waiting =
    codes "causes\n" ++ (flat_map (λ c. count_row (cause_name c) (count c)) all_causes ++ count_row (codes "waiting") waiting)

-- the section of the causes of these cycles
abbrev pub causes_text : List Taken → List ℕ
causes_text seen = causes_by (λ c. how_many_by (cause_index c) seen) (count_by has_waited seen)

-- ---- the same of each stretch of the cycles

abbrev pub tab : List ℕ
tab = 9 ∷ []

-- the column of the epoch that executes in a stretch: none in a boot
abbrev pub epoch_cell : Option ℕ → List ℕ
epoch_cell None = codes "-"
epoch_cell (Some epoch) = decimal epoch

abbrev pub end_name : End → List ℕ
end_name end.Boot = codes "boot"
end_name end.Seal = codes "seal"
end_name end.Cut = codes "cut"
end_name end.Run = codes "run"

-- the columns of numbers, each after a tab
abbrev pub number_cells : List ℕ → List ℕ
number_cells ns = flat_map (λ n. tab ++ decimal n) ns

-- the columns of a stretch's first and last cycle, and of how it ended
abbrev pub span_cells : Row → List ℕ
span_cells r = tab ++ (decimal (next r.before) ++ (tab ++ (decimal r.to ++ (tab ++ end_name r.end))))

-- the row of a stretch: its epoch, its cycles and end, and then its numbers
abbrev pub epoch_row : Row → List ℕ
epoch_row r = (epoch_cell r.epoch ++ span_cells r) ++ (number_cells r.causes ++ (tab ++ (decimal r.waiting ++ codes "\n")))

-- a head line, and a line with the names of the columns
abbrev pub epochs_head : List ℕ
epochs_head =
    (codes "epochs\nepoch" ++ (tab ++ (codes "from" ++ (tab ++ (codes "to" ++ (tab ++ codes "end"))))))
    ++ (flat_map (λ c. tab ++ cause_name c) all_causes ++ (tab ++ codes "waiting\n"))

-- the section of the stretches: a row for each that has ended, and for the open one if there is one
abbrev pub epochs_by : List Row → Option Row → List ℕ
epochs_by rows last = epochs_head ++ flat_map epoch_row (with_last rows last)

-- the section of the stretches of these cycles
abbrev pub epochs_text : List Taken → List ℕ
epochs_text seen = epochs_by (account_of seen).rows (last_row (account_of seen))

-- ---- how many writes each place of the NVM has taken

-- the line of a place of the NVM; none if it has taken no write
abbrev pub wear_row : List ℕ → ℕ → List ℕ
wear_row wear at =
    let count = get_or wear at 0 in
    if count == 0 then [] else decimal at ++ (codes " " ++ (decimal count ++ codes "\n"))

-- a head line, and a line for each place that has taken a write, by rising number
abbrev pub wear_text : List ℕ → List ℕ
wear_text wear = codes "wear\n" ++ rows_from (wear_row wear) 0 (length wear)

abbrev pub wear_part : Bool → List ℕ → List ℕ
wear_part asked wear = if asked then wear_text wear else []

-- ---- all that is asked for

abbrev pub causes_part : Bool → List Taken → List ℕ
causes_part asked seen = if asked then causes_text seen else []

abbrev pub epochs_part : Bool → List Taken → List ℕ
epochs_part asked seen = if asked then epochs_text seen else []

-- what is counted in these cycles, if it is asked for
abbrev pub counts_text : Options → List Taken → List ℕ
counts_text o seen = causes_part o.causes seen ++ epochs_part o.epochs seen

-- a text is made so of the cycles that a watch has seen
abbrev pub AreOf : (List Taken → List ℕ) → Watch → List ℕ → Type 0
AreOf text w part = (seen : List Taken) → IsWatch w seen → part ≡ text seen

abbrev pub AreCountsOf : Options → Watch → List ℕ → Type 0
AreCountsOf o w part = AreOf (counts_text o) w part

-- what an NVM has counted: its calls, and the writes of each place
pub record NvmCounts : Type 0 where
  pub calls : Calls
  pub wear : List ℕ

abbrev pub nvm_counts : Calls → List ℕ → NvmCounts
nvm_counts calls wear = record { calls = calls; wear = wear }

-- what an NVM has counted, by what two functions say of it
abbrev pub counts_of : {N : Type 0} → (N → Calls) → (N → List ℕ) → N → NvmCounts
counts_of calls wear n = nvm_counts (calls n) (wear n)

-- a whole text: what every text begins with, with what is asked for in addition, what is counted, and how many writes each place
-- has taken
pub record HasWhole (asked : Asked) (events : List Event) (options : Options) (begun : Option Begun) (w : Watch) (n : NvmCounts)
    (whole : List ℕ) : Type 0 where
  pub head : List ℕ
  pub is_head : IsHead asked w.tally n.calls events head
  pub text : List ℕ
  pub sections : HasSections options begun w.changes head text
  pub counted : List ℕ
  pub counts : AreCountsOf options w counted
  pub splits : whole ≡ text ++ (counted ++ wear_part options.wear n.wear)
