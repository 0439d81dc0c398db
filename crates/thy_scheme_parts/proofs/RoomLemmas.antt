-- The first instruction of an epoch has room.
use Rattle.std.proofs.Common.{◌≡◌, ℕ, ◌+◌, ◌<◌, ◌≤◌, nat_lt, Bool, true, false, if◌then◌else◌, Option, Some, None, refl, subst, ltb-true, arith}
use Rattle.thy_block.specs.declared.cause.EndCause.{EndCause}
use Rattle.thy_block.specs.Device.{Device}
use Rattle.thy_cache.specs.Contents.{dirty_count}
use Rattle.thy_hart.specs.declared.hand.Hand.{Hand}
use Rattle.thy_hart.specs.declared.hand.Hand.TheVariants.{Nothing, Reading, Securing, Writing, Retiring}
use Rattle.thy_hart.specs.HartState.{blocks_of}
use Rattle.thy_hart.proofs.HandLemmas.{blocks_of-most}
use Rattle.thy_computer.specs.declared.view.Phase.{Phase}
use Rattle.thy_computer.specs.Origin.{Origin}
use Rattle.thy_computer.specs.NextActor.{Shortage}
use Rattle.thy_scheme.specs.CheckpointMarks.{CheckpointMarks}
use Rattle.thy_scheme.specs.Scheme.{SchemeOf}
use Rattle.thy_scheme.specs.Machine.{short_of}
use Rattle.thy_scheme.specs.Sound.{SoundIn, SoundRun, IsFresh, StartsFresh}
use Rattle.thy_scheme_parts.specs.Schemes.{FirstHasRoom}

abbrev shortage : ℕ → ℕ → ℕ → Shortage
shortage free dirty need = record { free = free; dirty = dirty; need = need }

-- with two entries free, and no line dirty, there is room for the blocks of any instruction
no-shortage : (free dirty : ℕ) (storeless : Bool) (h : Hand) → IsFresh h dirty storeless → (storeless ≡ true → 2 ≤ free)
    → short_of free dirty h ≡ None
no-shortage free dirty storeless Nothing fresh room = refl
no-shortage free dirty storeless (Reading e from to) fresh room = refl
no-shortage free dirty storeless (Securing e to) fresh room = by_room (nat_lt free (dirty + blocks_of to)) refl
  where
    by_room : (less : Bool) → nat_lt free (dirty + blocks_of to) ≡ less
        → (if less then Some (shortage free dirty (blocks_of to)) else None) ≡ None
    by_room true less =
        let below : free < dirty + blocks_of to = ltb-true free (dirty + blocks_of to) less in
        let clean : dirty ≡ 0 = fresh.0 in
        absurd (omega (arith, below, clean, room fresh.1, blocks_of-most to))
    by_room false less = refl
no-shortage free dirty storeless (Writing e to done) fresh room = refl
no-shortage free dirty storeless (Retiring e wrote) fresh room = refl

-- an epoch's first instruction has room over a scheme of which two entries are free if nothing was stored since the
-- last seal and nothing is under way
pub first-room : {S : Type 0} (K : SchemeOf S)
    → ((o : Origin) (k : CheckpointMarks) (s : S) (n : Device)
    → K.is_sound o k s n → K.storeless s ≡ true → K.under_way s ≡ false → 2 ≤ K.free s)
    → FirstHasRoom K
first-room K two o cycles m n sound runs going zero idle =
    let run : SoundRun K o m n = subst (λ (phase : Phase). SoundIn K o phase m n) runs sound.moment in
    let dirty : ℕ = dirty_count m.cache in
    let fresh : m.hart.epoch.retired ≡ 0 → IsFresh m.hart.hand dirty (K.storeless m.scheme)
    = subst (λ (over : Option EndCause). StartsFresh over m.hart.epoch.retired m.hart.hand dirty (K.storeless m.scheme))
    going run.paced.fresh in
    no-shortage (K.free m.scheme) dirty (K.storeless m.scheme) m.hart.hand (fresh zero)
    (λ storeless. two o m.marks m.scheme n run.checkpoints storeless idle)
