-- Which blocks do not decide what an image means.
use Rattle.std.proofs.Common.{◌≡◌, ◌≢◌, ℕ, ◌≤◌, Bool, true, false, List, [], ◌∷◌, ◌++◌, Contains, refl, sym, subst, inl, inr, arith}
use Rattle.std.proofs.lemmas.List.Elements.{Contains-append_cases}
use Rattle.thy_block.specs.declared.block.Block.{Block}
use Rattle.thy_block.specs.Device.{block_at}
use Rattle.thy_block.proofs.BasicLemmas.{not_in_none, not_first}
use Rattle.thy_layout.specs.Commit.{is_zero}
use Rattle.thy_layout.specs.Layout.{Layout, slot_places, memory_places, slot_in, looked_by, parts_of}
use Rattle.thy_layout.proofs.LayoutLemmas.{looked_nothing, looked_parts}

pub nothing_looked : (l : Layout) (image : List Block) (x : ℕ) → is_zero (block_at image 1) ≡ true → x ≢ 1
    → Contains (1 ∷ looked_by l image) x → ⊥
nothing_looked l image x z other inside =
    let one : 1 ≢ x = λ e. other (sym e) in
    let only : Contains (1 ∷ 1 ∷ []) x = subst (λ (xs : List ℕ). Contains (1 ∷ xs) x) (looked_nothing l image z) inside in
    not_in_none x (not_first x 1 [] one (not_first x 1 (1 ∷ []) one only))

-- after the commit block those do that are neither in the slot nor places of memory
module _ (l : Layout) (image : List Block) (x : ℕ) (far : 2 ≤ x) (no_slot : Contains (slot_places l (block_at image 1)) x → ⊥)
    (no_memory : Contains (memory_places l (block_at image 1) (slot_in l image)) x → ⊥) where
  abbrev rest : List ℕ
  rest = slot_places l (block_at image 1) ++ memory_places l (block_at image 1) (slot_in l image)

  not_in_parts : Contains (1 ∷ parts_of l image) x → ⊥
  not_in_parts inside =
      let one : 1 ≢ x = λ e. omega (arith, far, e) in
      let none : 0 ≢ x = λ e. omega (arith, far, e) in
      elim (Contains-append_cases (slot_places l (block_at image 1)) (memory_places l (block_at image 1) (slot_in l image)) x
      (not_first x 1 rest one (not_first x 0 (1 ∷ rest) none (not_first x 1 (0 ∷ 1 ∷ rest) one inside)))) as (λ _. ⊥) [
        | inl a ↦ no_slot a
        | inr b ↦ no_memory b
      ]

  by_commit : (zeros : Bool) → is_zero (block_at image 1) ≡ zeros → Contains (1 ∷ looked_by l image) x → ⊥
  by_commit true z inside = nothing_looked l image x z (λ e. omega (arith, far, e)) inside
  by_commit false z inside = not_in_parts (subst (λ (xs : List ℕ). Contains (1 ∷ xs) x) (looked_parts l image z) inside)

  pub not_looked : Contains (1 ∷ looked_by l image) x → ⊥
  not_looked inside = by_commit (is_zero (block_at image 1)) refl inside
