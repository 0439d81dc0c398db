-- Part of the claim.
-- How the images that the cuts left determine the restarts after them.
use Rattle.std.specs.Prelude.{◌≡◌, ◌≢◌, ℕ, ◌<◌, List, [], ◌∷◌, Option, Some, None}
use Rattle.thy_block.specs.declared.block.Block.{Block}
use Rattle.thy_layout.specs.Decoded.{Decoded, Nothing, At}
use Rattle.thy_text.specs.Event.{Event, Cut, Restart, Reload}

-- what a restart can find: what the latest image means, and the cycle of the cut that left it if no event came since
pub record Found : Type 0 where
  pub means : Decoded
  pub just : Option ℕ

abbrev pub found : Decoded → Option ℕ → Found
found means just = record { means = means; just = just }

-- if no event came since a cut, and cycles were done since, the image has a checkpoint
abbrev pub HasLeft : ℕ → Found → Type 0
HasLeft cycle s = (at : ℕ) → s.just ≡ Some at → at < cycle → s.means ≢ Nothing

-- A restart has the epoch and the state of the latest image. The file is loaded again only directly after a cut that
-- left no checkpoint. Directly after a cut no epoch ends, none is committed, and the run does not end.
abbrev pub FitsFound : Found → Event → Type 0
FitsFound s (Restart epoch count state) = s.means ≡ At epoch state
FitsFound s Reload = (s.means ≡ Nothing) × ((at : ℕ) × (s.just ≡ Some at))
FitsFound s event = s.just ≡ None

-- Each cut among the events leaves the next image, and each other event fits what a restart can find; what is there
-- at the end satisfies `ends`.
abbrev pub AllFit : (List Block → Decoded) → (Found → Type 0) → Found → List Event → List (List Block) → Type 0
AllFit read ends s [] left = (left ≡ []) × ends s
AllFit read ends s (Cut index cycle ∷ vs) [] = ⊥
AllFit read ends s (Cut index cycle ∷ vs) (g ∷ left) = HasLeft cycle s × AllFit read ends (found (read g) (Some cycle)) vs left
AllFit read ends s (v ∷ vs) left = FitsFound s v × AllFit read ends (found s.means None) vs left
