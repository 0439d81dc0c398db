-- What is asked for by the options between OUT and the command.
use Rattle.std.specs.Prelude.{◌≡◌, ◌≢◌, ℕ, ◌<◌, ◌≤◌, Bool, true, false, List, [], ◌∷◌, codes, if◌then◌else◌, Option, Some, None, is_some, unwrap_or, option_map, nat_lt, not, ◌&&◌}
use Rattle.std.specs.Str.{bytes_eq}
use Rattle.std.specs.String.{string_bytes}
use Rattle.thy_base.specs.Numbers.{number_in, numbers_in, is_list}
use Rattle.sweep.specs.declared.asked.Asked.{Asked}
use Rattle.sweep.specs.declared.asked.Given.{Given}
use Rattle.sweep.specs.declared.asked.Unasked.{Unasked}
use Rattle.sweep.specs.declared.asked.Unasked.TheVariants.{Memory}
use Rattle.sweep.specs.declared.asked.Name.{Name}
use Rattle.sweep.specs.declared.asked.Name.TheVariants.{From, To, Step, Tears, All, Compare}
use Rattle.thy_sweep.specs.declared.trial.part.Part.{Part}
use Rattle.thy_sweep.specs.declared.trial.part.Part.TheVariants.{State, Processor}

-- the texts that are given for options, and whether blocks may be torn
pub record Texts : Type 0 where
  pub from : Option (List ℕ)
  pub to : Option (List ℕ)
  pub step : Option (List ℕ)
  pub tears : Option (List ℕ)
  pub all : Option (List ℕ)
  pub compare : Option (List ℕ)
  pub torn : Bool

abbrev pub no_texts : Texts
no_texts = record { from = None; to = None; step = None; tears = None; all = None; compare = None; torn = false }

abbrev pub texts_of : Given → Texts
texts_of g = record {
  from = option_map string_bytes g.from;
  to = option_map string_bytes g.to;
  step = option_map string_bytes g.step;
  tears = option_map string_bytes g.tears;
  all = option_map string_bytes g.all;
  compare = option_map string_bytes g.compare;
  torn = g.torn;
}

-- ---- how they are read

-- the option of a word that a text follows
abbrev pub option_named : List ℕ → Option Name
option_named word =
    if bytes_eq word (codes "--from") then Some From
    else if bytes_eq word (codes "--to") then Some To
    else if bytes_eq word (codes "--step") then Some Step
    else if bytes_eq word (codes "--tears") then Some Tears
    else if bytes_eq word (codes "--all") then Some All
    else if bytes_eq word (codes "--compare") then Some Compare
    else None

-- a word says that blocks may be torn
abbrev pub is_flag : List ℕ → Bool
is_flag word = bytes_eq word (codes "--torn")

abbrev pub text_given : Texts → Name → Option (List ℕ)
text_given t From = t.from
text_given t To = t.to
text_given t Step = t.step
text_given t Tears = t.tears
text_given t All = t.all
text_given t Compare = t.compare

abbrev pub with_text : Texts → Name → List ℕ → Texts
with_text t From text = record t { from = Some text }
with_text t To text = record t { to = Some text }
with_text t Step text = record t { step = Some text }
with_text t Tears text = record t { tears = Some text }
with_text t All text = record t { all = Some text }
with_text t Compare text = record t { compare = Some text }

abbrev pub with_flag : Texts → Texts
with_flag t = record t { torn = true }

-- an option that was not given before is taken out of the arguments with its text, where it follows the program's name
pub record TakesText (name : Name) (t : Texts) (words : List (List ℕ)) (u : Texts) (left : List (List ℕ)) : Type 0 where
  pub program : List ℕ
  pub word : List ℕ
  pub text : List ℕ
  pub rest : List (List ℕ)
  pub was : words ≡ program ∷ word ∷ text ∷ rest
  pub is : left ≡ program ∷ rest
  pub fresh : text_given t name ≡ None
  pub keeps : u ≡ with_text t name text

-- the flag is, if it was not given before
pub record TakesFlag (t : Texts) (words : List (List ℕ)) (u : Texts) (left : List (List ℕ)) : Type 0 where
  pub program : List ℕ
  pub word : List ℕ
  pub rest : List (List ℕ)
  pub was : words ≡ program ∷ word ∷ rest
  pub is : left ≡ program ∷ rest
  pub fresh : t.torn ≡ false
  pub keeps : u ≡ with_flag t

-- Options are taken out of these arguments one by one. These are their texts so far, and the arguments that are left.
pub data Takes (words : List (List ℕ)) : Texts → List (List ℕ) → Type 0 where
  NoneYet : Takes words no_texts words
  OneText : (t u : Texts) (name : Name) (program word : List ℕ) (rest left : List (List ℕ)) → Takes words t (program ∷ word ∷ rest)
      → option_named word ≡ Some name → TakesText name t (program ∷ word ∷ rest) u left → Takes words u left
  OneFlag : (t u : Texts) (program word : List ℕ) (rest left : List (List ℕ)) → Takes words t (program ∷ word ∷ rest)
      → is_flag word ≡ true → TakesFlag t (program ∷ word ∷ rest) u left → Takes words u left

-- no option follows the program's name
abbrev pub LeavesNone : List (List ℕ) → Type 0
LeavesNone [] = Unit {0}
LeavesNone (program ∷ []) = Unit {0}
LeavesNone (program ∷ word ∷ rest) = (option_named word ≡ None) × (is_flag word ≡ false)

-- all options were taken
pub record TakesAll (words : List (List ℕ)) (t : Texts) (left : List (List ℕ)) : Type 0 where
  pub takes : Takes words t left
  pub none : LeavesNone left

-- ---- what they ask for

-- the number that is given, if one is
abbrev pub number_given : Option (List ℕ) → Option ℕ
number_given None = None
number_given (Some text) = number_in text

-- the picks whose images are tried: those that are given; none if every image is asked for; else the first four
abbrev pub picks_given : Option (List ℕ) → Option ℕ → List ℕ
picks_given (Some text) all = numbers_in text
picks_given None (Some all) = []
picks_given None None = 0 ∷ 1 ∷ 2 ∷ 3 ∷ []

-- how much is compared: all of a state, if nothing else is asked for
abbrev pub compared_given : Option (List ℕ) → Part
compared_given None = State
compared_given (Some text) = if bytes_eq text (codes "registers") then Processor else State

-- These texts ask for this. Without them it is after every cycle from the first one on.
pub record IsAskedBy (t : Texts) (a : Asked) : Type 0 where
  pub from : a.from ≡ unwrap_or (number_given t.from) 1
  pub to : a.to ≡ number_given t.to
  pub step : a.step ≡ unwrap_or (number_given t.step) 1
  pub picks : a.picks.items ≡ picks_given t.tears (number_given t.all)
  pub all : a.all ≡ unwrap_or (number_given t.all) 0
  pub torn : a.torn ≡ t.torn
  pub compared : a.compared ≡ compared_given t.compare

-- a number is not given, or can be read
abbrev pub is_read : Option (List ℕ) → Bool
is_read None = true
is_read (Some text) = is_some (number_in text)

abbrev pub is_list_read : Option (List ℕ) → Bool
is_list_read None = true
is_list_read (Some text) = is_list text

-- nothing is given of what is compared, or the one word that there is
abbrev pub is_word_known : Option (List ℕ) → Bool
is_word_known None = true
is_word_known (Some text) = bytes_eq text (codes "registers")

-- Texts that are accepted can be read. Numbers are above 0, the last cycle is none before the first one, and every image of torn
-- blocks is not asked for.
pub record AreAccepted (t : Texts) (a : Asked) : Type 0 where
  pub from_read : is_read t.from ≡ true
  pub to_read : is_read t.to ≡ true
  pub step_read : is_read t.step ≡ true
  pub tears_read : is_list_read t.tears ≡ true
  pub all_read : is_read t.all ≡ true
  pub word_known : is_word_known t.compare ≡ true
  pub some_from : 0 < a.from
  pub some_step : 0 < a.step
  pub some_all : number_given t.all ≢ Some 0
  pub order : (last : ℕ) → a.to ≡ Some last → a.from ≤ last
  pub whole : t.torn ≡ true → number_given t.all ≡ None

-- a number is not given, or is above 0
abbrev pub is_above_zero : Option ℕ → Bool
is_above_zero None = true
is_above_zero (Some n) = nat_lt 0 n

-- a last cycle is not given, or is not before the first one
abbrev pub is_from_on : ℕ → Option ℕ → Bool
is_from_on first None = true
is_from_on first (Some last) = not (nat_lt last first)

-- texts can be accepted
abbrev pub is_acceptable : Texts → Bool
is_acceptable t =
    is_read t.from && (is_read t.to && (is_read t.step && (is_list_read t.tears && (is_read t.all && (is_word_known t.compare
    && (is_above_zero (number_given t.from) && (is_above_zero (number_given t.to)
    && (is_from_on (unwrap_or (number_given t.from) 1) (number_given t.to)
    && (is_above_zero (number_given t.step) && (is_above_zero (number_given t.all)
    && not (t.torn && is_some (number_given t.all))))))))))))

-- memory ran out
abbrev pub is_short : Unasked → Bool
is_short (Memory e) = true
is_short e = false

-- the options in these arguments ask for this, and these are left
pub record IsAskedIn (words : List (List ℕ)) (a : Asked) (left : List (List ℕ)) : Type 0 where
  pub texts : Texts
  pub takes : TakesAll words texts left
  pub is_asked : IsAskedBy texts a
  pub accepted : AreAccepted texts a
