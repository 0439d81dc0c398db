-- Part of the claim.
-- How many cycles an epoch may still spend.
use Rattle.std.specs.Prelude.{ℕ, ◌+◌, ◌-◌, ◌*◌, ◌==◌, if◌then◌else◌, Option, Some, None}
use Rattle.thy_block.specs.declared.cause.EndCause.{EndCause}
use Rattle.thy_block.specs.declared.parameters.Parameters.{Parameters}
use Rattle.thy_block.specs.Device.{Device}
use Rattle.thy_cache.specs.Contents.{dirty_count}
use Rattle.thy_hart.specs.Moments.{Moment, moves_left}
use Rattle.thy_scheme.specs.Scheme.{SchemeOf}
use Rattle.thy_scheme.specs.Calls.{owed_in}
use Rattle.thy_scheme.specs.Machine.{Machine, moves_begun, moment_of}

-- moves left of the instruction in hand, or the next one, and of those that the epoch has after it: each has at most 16
abbrev pub instructions_left : Option ℕ → Moment → ℕ
instructions_left begun m = moves_begun begun (moves_left m) + 1 + 17 * (m.hart.epoch.span - m.hart.epoch.retired - 1)

-- how many flushes and merges are left: while lines are dirty, the greatest number of merges counts
abbrev pub flushes_left : ℕ → ℕ → ℕ → ℕ
flushes_left most dirty merges = if dirty == 0 then merges else dirty + most

-- what is left to the hart: instructions until the epoch is over, and flushes and merges after them
abbrev pub hart_left : {S : Type 0} → SchemeOf S → Parameters → Option EndCause → Machine S → Device → ℕ
hart_left K p None m n = instructions_left m.begun (moment_of K m n) + K.most_free p + K.most_merges p
hart_left K p (Some cause) m n = flushes_left (K.most_merges p) (dirty_count m.cache) (K.merges_left m.scheme)

-- how many cycles are left of the epoch, without its seal
abbrev pub cycles_left : {S : Type 0} → SchemeOf S → Parameters → Machine S → Device → ℕ
cycles_left K p m n =
    K.engine_left m.scheme + K.promotions_left m.scheme + owed_in K m.scheme n + hart_left K p m.hart.epoch.over m n

-- an epoch spends less than this
abbrev pub most_spent : {S : Type 0} → SchemeOf S → Parameters → ℕ
most_spent K p =
    1 + K.most_engine p + K.most_promotions p + K.most_owed p + 17 * p.epoch + K.most_free p + K.most_merges p
