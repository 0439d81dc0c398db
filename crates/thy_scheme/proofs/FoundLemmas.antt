-- In the boot of a checkpoint that was found no mark is sealed.
use Rattle.std.proofs.Common.{◌≡◌, Some, None, sym, ◌∙◌, ap, inl, inr}
use Rattle.thy_block.specs.declared.mark.Mark.{Mark}
use Rattle.thy_computer.specs.declared.view.View.{View}
use Rattle.thy_computer.specs.Origin.{Origin}
use Rattle.thy_scheme.specs.Boots.{IsBootView}

pub found_unsealed : (o : Origin) (v : View) (m : Mark) → IsBootView o v → v.done ≡ Some m → v.sealed ≡ None
found_unsealed o v m shown found = elim shown as (λ _. v.sealed ≡ None) [
  | inl f ↦ ap (λ (w : View). w.sealed) f.1
  | inr l ↦ elim l.1 as (λ _. v.sealed ≡ None) [
    | inl e ↦ absurd (let both : None ≡ Some m = sym (ap (λ (w : View). w.done) e) ∙ found in cc)
    | inr e ↦ absurd (let both : None ≡ Some m = sym (ap (λ (w : View). w.done) e) ∙ found in cc)
  ]
]
