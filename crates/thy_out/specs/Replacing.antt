-- What a put makes of the files of the system.
use Rattle.std.specs.Prelude.{◌≡◌, ℕ, Bool, true, false, if◌then◌else◌, Result, Ok, Err}
use Rattle.std.specs.declared.io.ErrorKind.{ErrorKind}
use Rattle.std.specs.declared.io.ErrorKind.TheVariants.{PermissionDenied, ReadOnlyFilesystem, InvalidFilename, AlreadyExists, ResourceBusy, Unsupported}
use Rattle.thy_block.specs.Counts.{next}
use Rattle.thy_out.specs.declared.disk.Replaced.{Replaced}
use Rattle.thy_out.specs.declared.disk.Replaced.TheVariants.{Done, Refused, Failed}

-- the files of the system: how many times bytes were put, and how many times that failed at a call
pub record Tally : Type 0 where
  pub puts : ℕ
  pub failures : ℕ

abbrev pub one_done : Tally → Tally
one_done tally = record tally { puts = next tally.puts }

abbrev pub one_failed : Tally → Tally
one_failed tally = record tally { failures = next tally.failures }

-- a put counts as done if it succeeds, and as failed if it does not
abbrev pub counted : {E : Type 0} → Tally → Result Unit E → Tally
counted tally (Ok done) = one_done tally
counted tally (Err e) = one_failed tally

-- an error of this kind says that the system does not let a file be made, or renamed, in this place
abbrev pub refuses : ErrorKind → Bool
refuses PermissionDenied = true
refuses ReadOnlyFilesystem = true
refuses InvalidFilename = true
refuses AlreadyExists = true
refuses ResourceBusy = true
refuses Unsupported = true
refuses _ = false

-- what an error makes of a put by a new file
abbrev pub ended_by : ErrorKind → Replaced
ended_by kind = if refuses kind then Refused kind else Failed

-- a put is refused only with an error that means so, and then counts neither as done nor as failed
abbrev pub CountsAs : Tally → Tally → Replaced → Type 0
CountsAs old new Done = new ≡ one_done old
CountsAs old new (Refused kind) = (refuses kind ≡ true) × (new ≡ old)
CountsAs old new Failed = new ≡ one_failed old
