-- The instructions of a run as text.
use Rattle.std.specs.Prelude.{ℕ, false, List, [], ◌∷◌, ◌++◌, codes, Option, Some, None}
use Rattle.std.specs.Fmt.{decimal, digits}
use Rattle.std.specs.List.{flat_map}
use Rattle.thy_observe.specs.declared.tracing.Access.{Access}
use Rattle.thy_observe.specs.declared.tracing.Traced.{Traced}

-- the word of an instruction, or that there is none
abbrev pub word_text : Option ℕ → List ℕ
word_text None = codes " -"
word_text (Some word) = codes " " ++ digits 16 false word

-- what an instruction loaded or stored, if it did: the address, how many bytes, and their number
abbrev pub access_text : Option Access → List ℕ
access_text None = []
access_text (Some a) =
    codes " " ++ (digits 16 false a.at ++ (codes " " ++ (decimal a.width ++ (codes " " ++ digits 16 false a.value))))

-- the cycle in which an instruction retired, its hart, and its address
abbrev pub head_text : Traced → List ℕ
head_text t = decimal t.cycle ++ (codes " " ++ (decimal t.hart ++ (codes " " ++ digits 16 false t.pc)))

-- the line of an instruction
abbrev pub trace_row : Traced → List ℕ
trace_row t = head_text t ++ (word_text t.word ++ (access_text t.access ++ codes "\n"))

-- a line for each instruction, or for none
abbrev pub trace_rows : List Traced → List ℕ
trace_rows [] = codes "none\n"
trace_rows (t ∷ rows) = flat_map trace_row (t ∷ rows)

-- the section of the instructions: a head line, and their lines
abbrev pub trace_text : List Traced → List ℕ
trace_text rows = codes "trace\n" ++ trace_rows rows
