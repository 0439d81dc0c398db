-- What stays safe.
use Rattle.std.proofs.Common.{◌≡◌, ◌⊎◌, Option, Some, None, inl, inr}
use Rattle.thy_block.specs.declared.mark.Mark.{Mark}
use Rattle.thy_block.specs.Device.{Device, HasFailed, HasFailedToSettle, IsFramed}
use Rattle.thy_block.proofs.CrashLemmas.{Crash-failed, Crash-unsettled}
use Rattle.thy_layout.specs.Decoded.{Decoded, Nothing as NothingFound, Refused as RefusedImage, At, Reading}
use Rattle.thy_block.specs.Marks.{mark}
use Rattle.thy_computer.specs.Origin.{Origin}
use Rattle.thy_computer.specs.Safe.{ceiling, Safe, IsOneOf, SameIsNoDoubt}

module _ (read : Reading) (o : Origin) (kept doubt : Option Mark) (old new : Device) (safe : Safe read o kept doubt old) where
  -- a call that failed makes nothing more possible, unless it was a write
  pub Safe-failed : HasFailed old new → IsFramed old new → Safe read o kept doubt new
  Safe-failed failed framed = λ g c. safe g (Crash-failed failed framed c)

  pub Safe-unsettled : HasFailedToSettle old new → IsFramed old new → Safe read o kept doubt new
  Safe-unsettled failed framed = λ g c. safe g (Crash-unsettled failed framed c)

-- safe with no doubt is safe with any
pub Safe-doubt : (read : Reading) (o : Origin) (kept doubt : Option Mark) (n : Device) → Safe read o kept None n → Safe read o kept doubt n
Safe-doubt read o kept doubt n safe = λ g c. more (read o.geometry ceiling g) (safe g c)
  where
    more : (d : Decoded) → IsOneOf o kept None d → IsOneOf o kept doubt d
    more NothingFound h = h
    more (RefusedImage bad) h = h
    more (At epoch state) h = (elim h.0 as (λ _. (kept ≡ Some (mark epoch state.count)) ⊎ (doubt ≡ Some (mark epoch state.count))) [ inl e ↦ inl e | inr e ↦ absurd (cc) ], h.1)

-- doubt between a mark and itself is none
pub Safe-same : SameIsNoDoubt
Safe-same read o m n safe = λ g c. less (read o.geometry ceiling g) (safe g c)
  where
    less : (d : Decoded) → IsOneOf o (Some m) (Some m) d → IsOneOf o (Some m) None d
    less NothingFound h = h
    less (RefusedImage bad) h = h
    less (At epoch state) h = (elim h.0 as (λ _. (Some m ≡ Some (mark epoch state.count)) ⊎ (None ≡ Some (mark epoch state.count))) [ inl e ↦ inl e | inr e ↦ inl e ], h.1)
