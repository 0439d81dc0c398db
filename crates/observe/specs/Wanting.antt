-- What is asked for by the arguments after OUT, the program's name first: of OUT in addition, and of the NVM.
use Rattle.std.specs.Prelude.{◌≡◌, ◌⊎◌, ℕ, zero, suc, ◌==◌, nat_lt, Bool, true, false, ◌||◌, ◌&&◌, not, is_none, unwrap_or, List, [], ◌∷◌, ◌++◌, codes, if◌then◌else◌, Option, Some, None, Result, Ok, Err}
use Rattle.std.specs.Fmt.{decimal}
use Rattle.std.specs.Str.{bytes_eq}
use Rattle.thy_block.specs.Outside.{Stream}
use Rattle.thy_text.specs.declared.closing.Closing.TheVariants.{Memory as ClosingMemory}
use Rattle.thy_text.specs.Closings.{closing_of}
use Rattle.thy_base.specs.Numbers.{number_in}
use Rattle.thy_observe.specs.declared.tracing.Window.{Window}
use Rattle.thy_outcome.specs.Answering.{Closes}
use Rattle.observe.specs.declared.options.Options.{Options}
use Rattle.observe.specs.declared.options.WindowFault.{WindowFault}
use Rattle.observe.specs.declared.options.WindowFault.TheVariants.{First, Last}
use Rattle.observe.specs.declared.options.Wish.{Wish}
use Rattle.observe.specs.declared.options.Wish.TheVariants.{Pcs, State, StateAt, Trace, TraceFrom, TraceTo, Causes, Epochs, Wear, Torn, AccessesFrom, AccessesTo}

-- ---- the options, a row each in every table

-- the option that a word names, if it names one
abbrev pub wish_of : List ℕ → Option Wish
wish_of word =
    if bytes_eq word (codes "--pcs") then Some Pcs
    else if bytes_eq word (codes "--state") then Some State
    else if bytes_eq word (codes "--state-at") then Some StateAt
    else if bytes_eq word (codes "--trace") then Some Trace
    else if bytes_eq word (codes "--trace-from") then Some TraceFrom
    else if bytes_eq word (codes "--trace-to") then Some TraceTo
    else if bytes_eq word (codes "--causes") then Some Causes
    else if bytes_eq word (codes "--epochs") then Some Epochs
    else if bytes_eq word (codes "--wear") then Some Wear
    else if bytes_eq word (codes "--torn") then Some Torn
    else if bytes_eq word (codes "--accesses-from") then Some AccessesFrom
    else if bytes_eq word (codes "--accesses-to") then Some AccessesTo
    else None

-- an option takes a number, which follows it
abbrev pub takes_number : Wish → Bool
takes_number Pcs = false
takes_number State = true
takes_number StateAt = true
takes_number Trace = false
takes_number TraceFrom = true
takes_number TraceTo = true
takes_number Causes = false
takes_number Epochs = false
takes_number Wear = false
takes_number Torn = false
takes_number AccessesFrom = true
takes_number AccessesTo = true

-- an option is given already
abbrev pub has : Options → Wish → Bool
has o Pcs = o.pcs
has o State = not (is_none o.state)
has o StateAt = not (is_none o.state_at)
has o Trace = o.trace
has o TraceFrom = not (is_none o.trace_from)
has o TraceTo = not (is_none o.trace_to)
has o Causes = o.causes
has o Epochs = o.epochs
has o Wear = o.wear
has o Torn = o.torn
has o AccessesFrom = not (is_none o.accesses_from)
has o AccessesTo = not (is_none o.accesses_to)

-- the options with one more, and with its number if it takes one
abbrev pub with_wish : Options → Wish → ℕ → Options
with_wish o Pcs n = record o { pcs = true }
with_wish o State n = record o { state = Some n }
with_wish o StateAt n = record o { state_at = Some n }
with_wish o Trace n = record o { trace = true }
with_wish o TraceFrom n = record o { trace_from = Some n }
with_wish o TraceTo n = record o { trace_to = Some n }
with_wish o Causes n = record o { causes = true }
with_wish o Epochs n = record o { epochs = true }
with_wish o Wear n = record o { wear = true }
with_wish o Torn n = record o { torn = true }
with_wish o AccessesFrom n = record o { accesses_from = Some n }
with_wish o AccessesTo n = record o { accesses_to = Some n }

-- the line that refuses a number of an option that can't be read
abbrev pub word_line : Wish → List ℕ
word_line Pcs = codes "word pcs\n"
word_line State = codes "word state\n"
word_line StateAt = codes "word state-at\n"
word_line Trace = codes "word trace\n"
word_line TraceFrom = codes "word trace-from\n"
word_line TraceTo = codes "word trace-to\n"
word_line Causes = codes "word causes\n"
word_line Epochs = codes "word epochs\n"
word_line Wear = codes "word wear\n"
word_line Torn = codes "word torn\n"
word_line AccessesFrom = codes "word accesses-from\n"
word_line AccessesTo = codes "word accesses-to\n"

abbrev pub no_options : Options
no_options = record {
  pcs = false;
  state = None;
  state_at = None;
  trace = false;
  trace_from = None;
  trace_to = None;
  causes = false;
  epochs = false;
  wear = false;
  torn = false;
  accesses_from = None;
  accesses_to = None;
}

-- how many options there are
abbrev pub most_options : ℕ
most_options = 12

-- something is asked for that is found out by executing the run again
abbrev pub asks : Options → Bool
asks o = o.pcs || (not (is_none o.state) || (not (is_none o.state_at) || o.trace))

-- something is asked for that is counted while a machine runs
abbrev pub counts : Options → Bool
counts o = o.causes || (o.epochs || o.wear)

-- something is asked for that a machine is needed for
abbrev pub needs_run : Options → Bool
needs_run o = asks o || counts o

-- ---- the window of the trace

-- a first or a last count of the trace is given
abbrev pub has_bound : Options → Bool
has_bound o = not (is_none o.trace_from) || not (is_none o.trace_to)

-- a bound is given of a trace that is not asked for
abbrev pub lacks_trace : Options → Bool
lacks_trace o = has_bound o && not o.trace

-- the counts of the trace that are asked for: if no bound is given, all
abbrev pub window_of : Options → Window
window_of o = record { first = unwrap_or o.trace_from 1; last = o.trace_to }

-- the last count is below the first one
abbrev pub last_fault : (first : ℕ) → Option ℕ → Option WindowFault
last_fault first None = None
last_fault first (Some last) = if nat_lt last first then Some (Last last) else None

-- the bound of the trace that is refused, if one is: counts begin with 1, and rise
abbrev pub window_fault : Options → Option WindowFault
window_fault o =
    let w = window_of o in
    if w.first == 0 then Some First else last_fault w.first w.last

-- the line that refuses a bound of the trace
abbrev pub window_line : WindowFault → List ℕ
window_line First = codes "value trace-from 0\n"
window_line (Last last) = codes "value trace-to " ++ (decimal last ++ codes "\n")

-- a bound of the trace is refused: its line is reported, or that memory ran out for it
abbrev pub IsWindowRefused : WindowFault → Stream → Stream → (status : ℕ) → Type 0
IsWindowRefused fault old new status =
    (Closes (window_line fault) old new × (status ≡ 2)) ⊎ (Closes (closing_of ClosingMemory) old new × (status ≡ 9))

-- ---- how they are read

-- what is asked for and the arguments that are left, or the option whose number can't be read
abbrev pub Reading : Type 0
Reading = Result (Options × List (List ℕ)) Wish

abbrev pub numbered : Options → Wish → Option ℕ → List (List ℕ) → Reading
numbered o wish None left = Err wish
numbered o wish (Some n) left = Ok (with_wish o wish n, left)

-- an option after the program's name is taken, with its number if it takes one; without one it is left
abbrev pub taken : Options → Wish → (name word : List ℕ) → List (List ℕ) → Reading
taken o wish name word [] = if takes_number wish then Ok (o, name ∷ word ∷ []) else Ok (with_wish o wish 0, name ∷ [])
taken o wish name word (next ∷ rest) =
    if takes_number wish then numbered o wish (number_in next) (name ∷ rest) else Ok (with_wish o wish 0, name ∷ next ∷ rest)

-- an option that is given again is left, where a command has to be
abbrev pub taken_once : Options → Wish → (name word : List ℕ) → List (List ℕ) → Reading
taken_once o wish name word rest = if has o wish then Ok (o, name ∷ word ∷ rest) else taken o wish name word rest

-- a word that is no option is left too
abbrev pub taken_if : Options → Option Wish → (name word : List ℕ) → List (List ℕ) → Reading
taken_if o None name word rest = Ok (o, name ∷ word ∷ rest)
taken_if o (Some wish) name word rest = taken_once o wish name word rest

abbrev pub take_one : Options → List (List ℕ) → Reading
take_one o [] = Ok (o, [])
take_one o (name ∷ []) = Ok (o, name ∷ [])
take_one o (name ∷ word ∷ rest) = taken_if o (wish_of word) name word rest

abbrev pub then_more : Reading → (Options → List (List ℕ) → Reading) → Reading
then_more (Ok p) more = more p.0 p.1
then_more (Err wish) more = Err wish

-- n options are taken, or all that there are
abbrev pub take_many : ℕ → Options → List (List ℕ) → Reading
take_many zero o words = Ok (o, words)
take_many (suc n) o words = then_more (take_one o words) (take_many n)

-- all options are taken, each once
abbrev pub options_in : List (List ℕ) → Reading
options_in words = take_many most_options no_options words

-- what was read of the arguments is this, and these are left
abbrev pub IsReading : Reading → Result Options Wish → List (List ℕ) → Type 0
IsReading reading (Ok o) left = reading ≡ Ok (o, left)
IsReading reading (Err wish) left = reading ≡ Err wish
