-- Part of the claim.
-- The lines of a report, as bytes.
use Rattle.std.specs.Prelude.{ℕ, ◌==◌, if◌then◌else◌, Bool, true, false, List, [], ◌∷◌, ◌++◌, codes, count_by}
use Rattle.std.specs.Fmt.{decimal}
use Rattle.hex.specs.Hex.{encode_lower}
use Rattle.sha2.specs.Sha256.{sha256}
use Rattle.thy_block.specs.declared.cause.EndCause.{EndCause}
use Rattle.thy_block.specs.declared.cause.EndCause.TheVariants.{Length, Exhausted, Ended as EndedCause}
use Rattle.thy_isa.specs.declared.state.Status.{Status}
use Rattle.thy_isa.specs.declared.state.Status.TheVariants.{Running, Exited, Trapped}
use Rattle.thy_text.specs.declared.reporting.Reporting.{Reporting}
use Rattle.thy_text.specs.Event.{Event, Scheme, EpochEnd, Commit, Cut, Restart, Reload, Ended}

-- texts one after another
abbrev pub joined : List (List ℕ) → List ℕ
joined [] = []
joined (part ∷ parts) = part ++ joined parts

-- a line feed
abbrev pub line_feed : List ℕ
line_feed = 10 ∷ []

-- how many of these turns are a hart's
abbrev pub turns_by : ℕ → List ℕ → ℕ
turns_by hart turns = count_by (λ t. t == hart) turns

-- the end of an epoch's line: with two harts, how many instructions each retired
abbrev pub harts_parts : (harts : ℕ) → List ℕ → List (List ℕ)
harts_parts harts turns =
    if harts == 1 then line_feed ∷ []
    else codes " harts " ∷ decimal (turns_by 0 turns) ∷ codes " " ∷ decimal (turns_by 1 turns) ∷ line_feed ∷ []

-- why an epoch ended, and with two harts how many instructions each retired
abbrev pub cause_parts : (harts : ℕ) → EndCause → List ℕ → List (List ℕ)
cause_parts harts Length turns = codes "length" ∷ harts_parts harts turns
cause_parts harts (Exhausted free dirty need) turns =
    codes "exhausted " ∷ decimal free ∷ codes " " ∷ decimal dirty ∷ codes " " ∷ decimal need ∷ harts_parts harts turns
cause_parts harts EndedCause turns = codes "end" ∷ harts_parts harts turns

-- the line of memory's digest: its SHA-256, in hexadecimal digits of lower case
abbrev pub memory_line : List ℕ → List ℕ
memory_line memory = joined (codes "memory " ∷ encode_lower (sha256 memory) ∷ line_feed ∷ [])

-- the line of memory's digest, if digests are reported
abbrev pub digest_line : Bool → List ℕ → List ℕ
digest_line false memory = []
digest_line true memory = memory_line memory

-- a word, a number, and the count of a state; after it memory's digest, if digests are reported
abbrev pub state_lines : Bool → List ℕ → ℕ → ℕ → List ℕ → List ℕ
state_lines digest word number count memory =
    joined (word ∷ decimal number ∷ codes " at " ∷ decimal count ∷ line_feed ∷ []) ++ digest_line digest memory

-- how the program ended, after this many instructions; a program that still runs has no line
abbrev pub ended_lines : Bool → Status → ℕ → List ℕ → List ℕ
ended_lines digest Running count memory = []
ended_lines digest (Exited value) count memory = state_lines digest (codes "exit ") value count memory
ended_lines digest (Trapped cause) count memory = state_lines digest (codes "trap ") cause count memory

-- an epoch's end, in parts
abbrev pub epoch_end_parts : (harts epoch count : ℕ) → EndCause → List ℕ → List (List ℕ)
epoch_end_parts harts epoch count cause turns =
    codes "epoch " ∷ decimal epoch ∷ codes " ends at " ∷ decimal count ∷ codes " by " ∷ cause_parts harts cause turns

-- the line of what happened, and after a restart and an end memory's digest, if digests are reported
abbrev pub line_of : Reporting → Event → List ℕ
line_of reporting (EpochEnd epoch count cause turns) = joined (epoch_end_parts reporting.harts epoch count cause turns)
line_of reporting (Commit epoch cycle overlapped) =
    joined (codes "commit " ∷ decimal epoch ∷ codes " overlapped " ∷ decimal overlapped ∷ line_feed ∷ [])
line_of reporting (Cut index cycle) =
    joined (codes "cut " ∷ decimal index ∷ codes " at cycle " ∷ decimal cycle ∷ line_feed ∷ [])
line_of reporting (Restart epoch count state) = state_lines reporting.digest (codes "restart ") epoch count state.memory
line_of reporting (Scheme number) = []
line_of reporting Reload = joined (codes "reload" ∷ line_feed ∷ [])
line_of reporting (Ended status count cycle state) = ended_lines reporting.digest status count state.memory

-- the lines of all that happened
abbrev pub report_of : Reporting → List Event → List ℕ
report_of reporting [] = []
report_of reporting (v ∷ vs) = line_of reporting v ++ report_of reporting vs

-- the line of a made program: its number and its length
abbrev pub made_of : ℕ → ℕ → List ℕ
made_of number length = joined (codes "made " ∷ decimal number ∷ codes " " ∷ decimal length ∷ line_feed ∷ [])
