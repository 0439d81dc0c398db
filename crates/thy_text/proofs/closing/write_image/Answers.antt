use Rattle.std.proofs.Common.{◌≡◌, ◌∷◌, [], ℕ, List, refl, codes}
use Rattle.thy_layout.specs.Refusals.{number_of, name_of}
use Rattle.thy_layout.specs.declared.bad_image.BadImage.{BadImage}
use Rattle.thy_text.specs.Closings.{entries_of, image_parts, refusal_parts}
use Rattle.thy_text.proofs.Rewording.{wrote-as}
use Rattle.thy_text.proofs.closing.write_image.Goals as goal

-- the line of an image, if its parts are known
image_is : (bad : BadImage) (number : ℕ) (name reported : List ℕ) → number ≡ number_of bad → name ≡ name_of bad → reported ≡ entries_of bad
    → refusal_parts (codes "image ") number name reported ≡ image_parts bad
image_is bad number name reported a b c = rw (a, b, c) refl

pub returns-in-None : goal.returns-in-None
returns-in-None g c =
    wrote-as c.write_refusal.result _ _ _ _
    (image_is c.args.bad _ _ [] c.number-place.ensures c.name-called.ensures c.in-None.ensures) c.write_refusal.ensures

pub returns-in-One : goal.returns-in-One
returns-in-One g c =
    wrote-as c.write_refusal_at.result _ _ _ _
    (image_is c.args.bad _ _ (c.in-One.i ∷ []) c.number-place.ensures c.name-called.ensures c.in-One.ensures) c.write_refusal_at.ensures

pub returns-in-Two : goal.returns-in-Two
returns-in-Two g c =
    wrote-as c.write_image_at_two.result _ _ _ _
    (image_is c.args.bad _ _ (c.in-Two.i ∷ c.in-Two.k ∷ []) c.number-place.ensures c.name-called.ensures c.in-Two.ensures) c.write_image_at_two.ensures
