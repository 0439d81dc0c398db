-- The first refusal of demands after demands.
use Rattle.std.proofs.Common.{◌≡◌, ℕ, ◌+◌, ◌-◌, ◌<◌, ◌≤◌, List, ◌++◌, Option, Some, None, refl, ap, subst, ◌∙◌}
use Rattle.std.specs.Option.{option_or}
use Rattle.std.specs.List.{flat_map, range_with_len}
use Rattle.thy_block.specs.Demands.{Demand, first_fault}
use Rattle.thy_block.proofs.DemandLemmas.{first_fault-append}
use Rattle.thy_elf.specs.declared.error.ElfError.{ElfError}
use Rattle.thy_elf.specs.declared.error.ElfError.TheVariants.{Memory}
use Rattle.thy_elf.specs.Refusal.{IsRefusal}
use Rattle.thy_elf.specs.Image.{Contents, refused_or, IsCause}
use Rattle.thy_elf.proofs.IndexLemmas.{indices_step, indices_end, indices_start}

-- the first refusal of the demands from index k on is the first one at k, or else the first one after k
pub demands_step : (demands : ℕ → List (Demand ElfError)) (k n : ℕ) → k < n
    → first_fault (flat_map demands (range_with_len k (n - k))) ≡ option_or (first_fault (demands k))
    (first_fault (flat_map demands (range_with_len (k + 1) (n - (k + 1)))))
demands_step demands k n h =
    ap (λ ks. first_fault (flat_map demands ks)) (indices_step k n h)
    ∙ first_fault-append (demands k) (flat_map demands (range_with_len (k + 1) (n - (k + 1))))

pub demands_end : (demands : ℕ → List (Demand ElfError)) (k n : ℕ) → n ≤ k → first_fault (flat_map demands (range_with_len k (n - k))) ≡ None
demands_end demands k n h = ap (λ ks. first_fault (flat_map demands ks)) (indices_end k n h)

pub demands_start : (demands : ℕ → List (Demand ElfError)) (n : ℕ)
    → first_fault (flat_map demands (range_with_len 0 (n - 0))) ≡ first_fault (flat_map demands (range_with_len 0 n))
demands_start demands n = ap (λ ks. first_fault (flat_map demands ks)) (indices_start n)

-- if the header gives no reason, the rest decides
pub first_fault_after : (xs ys : List (Demand ElfError)) → first_fault xs ≡ None → first_fault (xs ++ ys) ≡ first_fault ys
first_fault_after xs ys h = first_fault-append xs ys ∙ ap (λ o. option_or o (first_fault ys)) h

-- if the header gives a reason, it is the first
pub first_fault_before : (xs ys : List (Demand ElfError)) (e : ElfError) → first_fault xs ≡ Some e → first_fault (xs ++ ys) ≡ Some e
first_fault_before xs ys e h = first_fault-append xs ys ∙ ap (λ o. option_or o (first_fault ys)) h

-- a refusal is the cause of the error that answers it
due_cause : (contents : Contents) (e : ElfError) → IsRefusal e → IsCause (refused_or (Some e) contents) e
due_cause contents (Memory e) refusal = absurd refusal
due_cause contents _ refusal = refl

-- the first refusal of a file is the cause of its error
pub cause_of : (first : Option ElfError) (contents : Contents) (e : ElfError) → Some e ≡ first → IsRefusal e
    → IsCause (refused_or first contents) e
cause_of first contents e is refusal = subst (λ o. IsCause (refused_or o contents) e) is (due_cause contents e refusal)
