-- What a machine reports in the boot, and what a power cut leaves of it.
use Rattle.std.proofs.Common.{◌≡◌, ◌⊎◌, ℕ, ◌&&◌, Bool, true, false, inl, inr, Some, is_none, refl, sym, ◌∙◌, ap, subst}
use Rattle.thy_block.specs.Device.{Device}
use Rattle.thy_computer.specs.declared.view.Phase.{Phase}
use Rattle.thy_computer.specs.declared.view.Phase.TheVariants.{Boot, Run, Halt}
use Rattle.thy_computer.specs.Origin.{Origin}
use Rattle.thy_computer.specs.Views.{is_boot, loads}
use Rattle.thy_scheme.specs.Laws.{IsLawful}
use Rattle.thy_scheme.specs.Scheme.{SchemeOf}
use Rattle.thy_scheme.specs.Machine.{Machine, run_view, view_in, view_of, has_read_in, has_read_of}
use Rattle.thy_scheme.specs.Sound.{SoundIn, Sound}

module _ {S : Type 0} (K : SchemeOf S) (l : IsLawful K) (o : Origin) where
  -- at a moment the scheme is one of the run's geometry
  geometry_in : (m : Machine S) (n : Device) (phase : Phase) → n.down ≡ false → SoundIn K o phase m n → K.is_of o.geometry m.scheme
  geometry_in m n Boot up s = (l.boot_holds o m.scheme n (record { boots = s.boots; up = up })).of_geometry
  geometry_in m n Run up s = (l.run_holds o m.marks m.scheme n (record { sound = s.checkpoints; up = up })).of_geometry
  geometry_in m n Halt up s = (l.run_holds o m.marks m.scheme n (record { sound = s.checkpoints; up = up })).of_geometry

  pub geometry_is : (k : ℕ) (m : Machine S) (n : Device) → Sound K o k m n → K.is_of o.geometry m.scheme
  geometry_is k m n s = geometry_in m n m.phase s.up s.moment

pub loading_boot : {S : Type 0} (K : SchemeOf S) (o : Origin) (k : ℕ) (m : Machine S) (n : Device) (loading : Bool) → m.phase ≡ Boot
    → Sound K o k m n
    → ((p : Origin) (v : Device) → K.boots p m.scheme v → loading ≡ (K.has_read m.scheme && loads (K.boot_view p m.scheme v)))
    → loading ≡ (has_read_of K m && loads (view_of K o m n))
loading_boot K o k m n loading e s shown_loading =
    let boots = subst (λ phase. SoundIn K o phase m n) e s.moment in
    shown_loading o n boots.boots ∙ ap (λ phase. has_read_in K phase m && loads (view_in K o phase m n)) (sym e)

loading_at : {S : Type 0} (K : SchemeOf S) (o : Origin) (m : Machine S) (n : Device) (phase : Phase) → m.phase ≡ phase
    → has_read_in K phase m ≡ true → (view_in K o phase m n) ≡ run_view m → is_boot phase ≡ false
    → false ≡ (has_read_of K m && loads (view_of K o m n))
loading_at K o m n phase e read view behind =
    sym (ap (λ p. has_read_in K p m && loads (view_in K o p m n)) e
    ∙ ap (λ r. r && loads (view_in K o phase m n)) read
    ∙ ap loads view
    ∙ ap (λ p. is_boot p && is_none (Some m.marks.done)) e
    ∙ ap (λ b. b && is_none (Some m.marks.done)) behind)

pub loading_behind : {S : Type 0} (K : SchemeOf S) (o : Origin) (m : Machine S) (n : Device) → (m.phase ≡ Run) ⊎ (m.phase ≡ Halt)
    → false ≡ (has_read_of K m && loads (view_of K o m n))
loading_behind K o m n (inl e) = loading_at K o m n Run e refl refl refl
loading_behind K o m n (inr e) = loading_at K o m n Halt e refl refl refl
