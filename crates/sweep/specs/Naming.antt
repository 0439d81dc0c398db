-- Which orders can be swept, and which names OUT may have.
use Rattle.std.specs.Prelude.{◌≡◌, ℕ, nat_lt, Bool, true, false, ◌||◌, ◌&&◌, is_some, List, [], length, Option, Some, None}
use Rattle.std.specs.Str.{bytes_eq}
use Rattle.thy_base.specs.Settings.{Job, Order, run, resume, bench, compare, plain, make}

-- OUT is this name
abbrev pub is_name : List ℕ → Option (List ℕ) → Bool
is_name out None = false
is_name out (Some name) = bytes_eq name out

-- a job has options that a sweep has not
abbrev pub is_cut : Job → Bool
is_cut job = (nat_lt 0 (length job.config.cuts) || nat_lt 0 (length job.config.tears)) || is_some job.save

-- it has, or levelled wear over blocks that may be torn, or OUT is the name of its input
abbrev pub is_barred : List ℕ → Bool → Job → Bool
is_barred out torn job = (is_name out job.input || is_cut job) || (torn && nat_lt 0 job.config.gap)

-- an order is refused because of OUT or of an option, or because it does not run the machine once
abbrev pub is_refused : List ℕ → Bool → Order → Bool
is_refused out torn (run file job) = bytes_eq file out || is_barred out torn job
is_refused out torn (resume image job) = bytes_eq image out || is_barred out torn job
is_refused out torn (bench n job) = is_barred out torn job
is_refused out torn (compare file job) = true
is_refused out torn (plain file job) = true
is_refused out torn (make n name) = true

-- a job's run has no cuts
abbrev pub IsUncutJob : Job → Type 0
IsUncutJob job = job.config.cuts ≡ []

-- an order that runs the machine once, without cuts
abbrev pub IsUncut : Order → Type 0
IsUncut (run file job) = IsUncutJob job
IsUncut (resume image job) = IsUncutJob job
IsUncut (bench n job) = IsUncutJob job
IsUncut (compare file job) = ⊥
IsUncut (plain file job) = ⊥
IsUncut (make n name) = ⊥
