-- What there is to be found, as cycles and cuts add to events and images.
use Rattle.std.proofs.Common.{◌≡◌, ℕ, suc, Some, None, List, [], ◌∷◌, ◌++◌, length, refl, ap}
use Rattle.thy_block.specs.declared.block.Block.{Block}
use Rattle.thy_layout.specs.Decoded.{Decoded}
use Rattle.thy_text.specs.Event.{Event, Scheme, EpochEnd, Commit, Cut, Restart, Reload, Ended}
use Rattle.thy_run.specs.Cuts.{cuts_among}
use Rattle.thy_run.specs.Images.{Found, found, HasLeft, AllFit}

-- more events after some, and the images of the cuts among them
pub AllFit-append : (read : List Block → Decoded) (P Q : Found → Type 0) (s : Found) (vs ws : List Event) (left more : List (List Block))
    → ((t : Found) → P t → AllFit read Q t ws more) → AllFit read P s vs left → AllFit read Q s (vs ++ ws) (left ++ more)
AllFit-append read P Q s [] ws [] more next (none, p) = next s p
AllFit-append read P Q s [] ws (g ∷ left) more next (none, p) = absurd (cc)
AllFit-append read P Q s (Cut index cycle ∷ vs) ws [] more next h = absurd h
AllFit-append read P Q s (Cut index cycle ∷ vs) ws (g ∷ left) more next h =
    (h.0, AllFit-append read P Q (found (read g) (Some cycle)) vs ws left more next h.1)
AllFit-append read P Q s (EpochEnd epoch count cause turns ∷ vs) ws left more next h =
    (h.0, AllFit-append read P Q (found s.means None) vs ws left more next h.1)
AllFit-append read P Q s (Commit epoch cycle overlapped ∷ vs) ws left more next h =
    (h.0, AllFit-append read P Q (found s.means None) vs ws left more next h.1)
AllFit-append read P Q s (Restart epoch count state ∷ vs) ws left more next h =
    (h.0, AllFit-append read P Q (found s.means None) vs ws left more next h.1)
AllFit-append read P Q s (Reload ∷ vs) ws left more next h = (h.0, AllFit-append read P Q (found s.means None) vs ws left more next h.1)
AllFit-append read P Q s (Scheme number ∷ vs) ws left more next h = (h.0, AllFit-append read P Q (found s.means None) vs ws left more next h.1)
AllFit-append read P Q s (Ended status count cycle state ∷ vs) ws left more next h =
    (h.0, AllFit-append read P Q (found s.means None) vs ws left more next h.1)

-- if the last event is not a cut, nothing has to hold of what a cut left
has_left : (cycles : ℕ) (d : Decoded) → HasLeft cycles (found d None)
has_left cycles d = λ at e. absurd (cc)

module _ (read : List Block → Decoded) (P : Found → Type 0) where
  -- another predicate at the end
  pub AllFit-ends : (Q : Found → Type 0) (s : Found) (vs : List Event) (left : List (List Block)) → ((t : Found) → P t → Q t)
      → AllFit read P s vs left → AllFit read Q s vs left
  AllFit-ends Q s [] left next (none, p) = (none, next s p)
  AllFit-ends Q s (Cut index cycle ∷ vs) [] next h = absurd h
  AllFit-ends Q s (Cut index cycle ∷ vs) (g ∷ left) next h = (h.0, AllFit-ends Q (found (read g) (Some cycle)) vs left next h.1)
  AllFit-ends Q s (EpochEnd epoch count cause turns ∷ vs) left next h = (h.0, AllFit-ends Q (found s.means None) vs left next h.1)
  AllFit-ends Q s (Commit epoch cycle overlapped ∷ vs) left next h = (h.0, AllFit-ends Q (found s.means None) vs left next h.1)
  AllFit-ends Q s (Restart epoch count state ∷ vs) left next h = (h.0, AllFit-ends Q (found s.means None) vs left next h.1)
  AllFit-ends Q s (Reload ∷ vs) left next h = (h.0, AllFit-ends Q (found s.means None) vs left next h.1)
  AllFit-ends Q s (Scheme number ∷ vs) left next h = (h.0, AllFit-ends Q (found s.means None) vs left next h.1)
  AllFit-ends Q s (Ended status count cycle state ∷ vs) left next h = (h.0, AllFit-ends Q (found s.means None) vs left next h.1)

  -- the first of some events, no cut among them
  pub AllFit-part : (cycles : ℕ) (s : Found) (vs ws : List Event) (left : List (List Block)) → AllFit read P s (vs ++ ws) left
      → cuts_among vs ≡ [] → HasLeft cycles s → AllFit read (HasLeft cycles) s vs []
  AllFit-part cycles s [] ws left h uncut last = (refl, last)
  AllFit-part cycles s (Cut index cycle ∷ vs) ws left h uncut last = absurd (cc)
  AllFit-part cycles s (EpochEnd epoch count cause turns ∷ vs) ws left h uncut last =
      (h.0, AllFit-part cycles (found s.means None) vs ws left h.1 uncut (has_left cycles s.means))
  AllFit-part cycles s (Commit epoch cycle overlapped ∷ vs) ws left h uncut last =
      (h.0, AllFit-part cycles (found s.means None) vs ws left h.1 uncut (has_left cycles s.means))
  AllFit-part cycles s (Restart epoch count state ∷ vs) ws left h uncut last =
      (h.0, AllFit-part cycles (found s.means None) vs ws left h.1 uncut (has_left cycles s.means))
  AllFit-part cycles s (Reload ∷ vs) ws left h uncut last =
      (h.0, AllFit-part cycles (found s.means None) vs ws left h.1 uncut (has_left cycles s.means))
  AllFit-part cycles s (Scheme number ∷ vs) ws left h uncut last =
      (h.0, AllFit-part cycles (found s.means None) vs ws left h.1 uncut (has_left cycles s.means))
  AllFit-part cycles s (Ended status count cycle state ∷ vs) ws left h uncut last =
      (h.0, AllFit-part cycles (found s.means None) vs ws left h.1 uncut (has_left cycles s.means))

  -- there is one image for each cut
  pub AllFit-many : (s : Found) (vs : List Event) (left : List (List Block)) → AllFit read P s vs left
      → length left ≡ length (cuts_among vs)
  AllFit-many s [] left h = ap length h.0
  AllFit-many s (Cut index cycle ∷ vs) [] h = absurd h
  AllFit-many s (Cut index cycle ∷ vs) (g ∷ left) h = ap (λ n. suc n) (AllFit-many (found (read g) (Some cycle)) vs left h.1)
  AllFit-many s (EpochEnd epoch count cause turns ∷ vs) left h = AllFit-many (found s.means None) vs left h.1
  AllFit-many s (Commit epoch cycle overlapped ∷ vs) left h = AllFit-many (found s.means None) vs left h.1
  AllFit-many s (Restart epoch count state ∷ vs) left h = AllFit-many (found s.means None) vs left h.1
  AllFit-many s (Reload ∷ vs) left h = AllFit-many (found s.means None) vs left h.1
  AllFit-many s (Scheme number ∷ vs) left h = AllFit-many (found s.means None) vs left h.1
  AllFit-many s (Ended status count cycle state ∷ vs) left h = AllFit-many (found s.means None) vs left h.1
