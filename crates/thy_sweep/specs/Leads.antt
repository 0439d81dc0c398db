-- What a sweep keeps of the boots of one cycle: to which checkpoint they led, how many, and how long they took.
use Rattle.std.specs.Prelude.{◌≡◌, ℕ, ◌-◌, ◌^◌, ◌<◌, ◌≤◌, ◌==◌, ◌&&◌, min, max, Bool, true, false, if◌then◌else◌, List, [], ◌∷◌, ◌++◌, length, All, Contains, Option, Some, None}
use Rattle.thy_block.specs.declared.mark.Mark.{Mark}
use Rattle.thy_block.specs.Counts.{next}
use Rattle.thy_sweep.specs.declared.lead.Booted.{Booted}
use Rattle.thy_sweep.specs.declared.lead.Lead.{Lead}

-- whether two boots led to the same checkpoint, or both to none
abbrev pub is_same : Option Mark → Option Mark → Bool
is_same None None = true
is_same (Some a) (Some b) = a.epoch == b.epoch && a.count == b.count
is_same None (Some b) = false
is_same (Some a) None = false

-- how many cycles each of the boots had that led to a checkpoint
abbrev pub cycles_to : Option Mark → List Booted → List ℕ
cycles_to mark [] = []
cycles_to mark (b ∷ bs) = if is_same mark b.mark then b.cycles ∷ cycles_to mark bs else cycles_to mark bs

-- a lead has how many these are, the least of them and the most
pub record Counts (cycles : List ℕ) (l : Lead) : Type 0 where
  pub times : l.times ≡ length cycles
  pub is_least : Contains cycles l.least
  pub least : All (λ n. l.least ≤ n) cycles
  pub is_most : Contains cycles l.most
  pub most : All (λ n. n ≤ l.most) cycles

-- the lead has the count of the boots that led to its checkpoint, and their least and most cycles
abbrev pub IsLeadOf : List Booted → Lead → Type 0
IsLeadOf boots l = Counts (cycles_to l.mark boots) l

-- whether a checkpoint is listed
abbrev pub lists : Option Mark → List Lead → Bool
lists mark [] = false
lists mark (l ∷ ls) = if is_same l.mark mark then true else lists mark ls

-- no checkpoint is listed twice
abbrev pub AreApart : List Lead → Type 0
AreApart [] = Unit {0}
AreApart (l ∷ ls) = (lists l.mark ls ≡ false) × AreApart ls

-- each checkpoint to which a boot led is listed, once, with its boots
pub record AreLeadsOf (boots : List Booted) (leads : List Lead) : Type 0 where
  pub each : All (IsLeadOf boots) leads
  pub every : All (λ (b : Booted). lists b.mark leads ≡ true) boots
  pub apart : AreApart leads

-- ---- one boot more

-- the first of the boots of a checkpoint
abbrev pub first_lead : Booted → Lead
first_lead b = record { mark = b.mark; times = 1; least = b.cycles; most = b.cycles }

-- one boot more of a checkpoint
abbrev pub with_boot : Booted → Lead → Lead
with_boot b l = record l { times = next l.times; least = min l.least b.cycles; most = max l.most b.cycles }

-- the leads, with one more boot of the lead that has its checkpoint
abbrev pub counted_in : Booted → List Lead → List Lead
counted_in b [] = []
counted_in b (l ∷ ls) = if is_same l.mark b.mark then with_boot b l ∷ ls else l ∷ counted_in b ls

-- the leads with one more boot: counted if its checkpoint is listed, or else listed
abbrev pub noted : Booted → List Lead → List Lead
noted b leads = if lists b.mark leads then counted_in b leads else leads ++ first_lead b ∷ []

-- whatever boots are noted, the leads are theirs
abbrev pub LeadsAreOfBoots : Type 0
LeadsAreOfBoots =
    AreLeadsOf [] []
    × ((boots : List Booted) (leads : List Lead) (b : Booted) → length boots < 2 ^ 64 - 1 → AreLeadsOf boots leads
    → AreLeadsOf (boots ++ b ∷ []) (noted b leads))
