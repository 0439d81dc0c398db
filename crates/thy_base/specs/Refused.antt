-- What becomes of an error of `clap`, and which refusals ask for no memory.
use Rattle.std.specs.Prelude.{Bool, true, false, if◌then◌else◌, alloc_error, ◌≢◌, Result, Err}
use Rattle.clap.specs.declared.error.kind.ErrorKind.{ErrorKind}
use Rattle.clap.specs.declared.error.kind.ErrorKind.TheVariants.{OutOfMemory}
use Rattle.thy_base.specs.declared.config.Field.{Field}
use Rattle.thy_base.specs.declared.arguments.words.WordsError.{WordsError}
use Rattle.thy_base.specs.declared.arguments.words.WordsError.TheVariants.{Usage, Word, Memory}

abbrev pub is_out_of_memory : ErrorKind → Bool
is_out_of_memory OutOfMemory = true
is_out_of_memory _ = false

-- out of memory stays out of memory; every other kind of error means invalid usage
abbrev pub refused : ErrorKind → WordsError
refused kind = if is_out_of_memory kind then Memory alloc_error else Usage

-- memory does not run out if there is no command, or a field is unreadable: both are found without it
abbrev pub NeedsMemory : {A : Type 0} → Result A WordsError → WordsError → Type 0
NeedsMemory asked (Memory e) = (asked ≢ Err Usage) × ((f : Field) → asked ≢ Err (Word f))
NeedsMemory asked e = Unit {0}
