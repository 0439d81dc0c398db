-- The leads of boots, and one boot more.
use Rattle.std.proofs.Common.{◌≡◌, ℕ, suc, ◌+◌, ◌-◌, ◌^◌, ◌<◌, ◌≤◌, ◌==◌, ◌&&◌, min, max, true, false, if◌then◌else◌, List, [], ◌∷◌, ◌++◌, length, take, drop, slice_set, get_or, All, Contains, Option, Some, None, refl, sym, ◌∙◌, ap, subst, inl, inr, arith}
use Rattle.std.proofs.lemmas.Bool.{cases_lt, eq-eqb}
use Rattle.std.proofs.lemmas.List.{append-nil, length_push, at_drop_more, set_split}
use Rattle.std.proofs.lemmas.List.Elements.{All-nil, All-cons, All-head, All-tail, All-push, All-weaker, Contains-push, Contains-append_left}
use Rattle.std.proofs.lemmas.Grind.{common_steps}
use Rattle.thy_block.specs.declared.mark.Mark.{Mark}
use Rattle.thy_sweep.specs.declared.lead.Booted.{Booted}
use Rattle.thy_sweep.specs.declared.lead.Lead.{Lead}
use Rattle.thy_sweep.specs.Leads.{is_same, cycles_to, Counts, IsLeadOf, lists, AreApart, AreLeadsOf, first_lead, with_boot, counted_in, noted, LeadsAreOfBoots}

-- ---- the same checkpoint

is_same-refl : (a : Option Mark) → is_same a a ≡ true
is_same-refl None = refl
is_same-refl (Some a) = ap (λ t. t && a.count == a.count) (eq-eqb a.epoch a.epoch refl) ∙ eq-eqb a.count a.count refl

is_same-sound : (a b : Option Mark) → is_same a b ≡ true → a ≡ b
is_same-sound None None e = refl
is_same-sound None (Some b) e = absurd (cc)
is_same-sound (Some a) None e = absurd (cc)
is_same-sound (Some a) (Some b) e = grind (arith, common_steps, e)

-- ---- one boot more

-- the boots that led to a checkpoint, with one more boot
cycles_to-push : (mark : Option Mark) (boots : List Booted) (b : Booted)
    → cycles_to mark (boots ++ b ∷ []) ≡ cycles_to mark boots ++ (if is_same mark b.mark then b.cycles ∷ [] else [])
cycles_to-push mark [] b = refl
cycles_to-push mark (x ∷ xs) b = elim (is_same mark x.mark)
    as (λ t. (if t then x.cycles ∷ cycles_to mark (xs ++ b ∷ []) else cycles_to mark (xs ++ b ∷ []))
    ≡ (if t then x.cycles ∷ cycles_to mark xs else cycles_to mark xs) ++ (if is_same mark b.mark then b.cycles ∷ [] else [])) [
      | true ↦ ap (λ ns. x.cycles ∷ ns) (cycles_to-push mark xs b)
      | false ↦ cycles_to-push mark xs b
    ]

cycles_to-here : (mark : Option Mark) (boots : List Booted) (b : Booted) → is_same mark b.mark ≡ true
    → cycles_to mark (boots ++ b ∷ []) ≡ cycles_to mark boots ++ b.cycles ∷ []
cycles_to-here mark boots b same = cycles_to-push mark boots b ∙ ap (λ t. cycles_to mark boots ++ (if t then b.cycles ∷ [] else [])) same

cycles_to-elsewhere : (mark : Option Mark) (boots : List Booted) (b : Booted) → is_same mark b.mark ≡ false
    → cycles_to mark (boots ++ b ∷ []) ≡ cycles_to mark boots
cycles_to-elsewhere mark boots b other =
    cycles_to-push mark boots b ∙ ap (λ t. cycles_to mark boots ++ (if t then b.cycles ∷ [] else [])) other ∙ append-nil (cycles_to mark boots)

-- no more boots led to a checkpoint than there are
length-cycles_to : (mark : Option Mark) (boots : List Booted) → length (cycles_to mark boots) ≤ length boots
length-cycles_to mark [] = omega arith
length-cycles_to mark (x ∷ xs) = elim (is_same mark x.mark)
    as (λ t. length (if t then x.cycles ∷ cycles_to mark xs else cycles_to mark xs) ≤ suc (length xs)) [
      | true ↦ omega (arith, length-cycles_to mark xs)
      | false ↦ omega (arith, length-cycles_to mark xs)
    ]

-- ---- what a lead counts

-- one number more
least_of : (cs : List ℕ) (l n : ℕ) → Contains cs l → Contains (cs ++ n ∷ []) (min l n)
least_of cs l n is = elim (cases_lt l n) as (λ _. Contains (cs ++ n ∷ []) (min l n)) [
  | inl less ↦ let e : min l n ≡ l = omega arith in subst (Contains (cs ++ n ∷ [])) (sym e) (Contains-append_left cs (n ∷ []) l is)
  | inr more ↦ let e : min l n ≡ n = omega arith in subst (Contains (cs ++ n ∷ [])) (sym e) (Contains-push cs n)
]

most_of : (cs : List ℕ) (l n : ℕ) → Contains cs l → Contains (cs ++ n ∷ []) (max l n)
most_of cs l n is = elim (cases_lt n l) as (λ _. Contains (cs ++ n ∷ []) (max l n)) [
  | inl less ↦ let e : max l n ≡ l = omega arith in subst (Contains (cs ++ n ∷ [])) (sym e) (Contains-append_left cs (n ∷ []) l is)
  | inr more ↦ let e : max l n ≡ n = omega arith in subst (Contains (cs ++ n ∷ [])) (sym e) (Contains-push cs n)
]

Counts-more : (cs : List ℕ) (l : Lead) (b : Booted) → length cs < 2 ^ 64 - 1 → Counts cs l → Counts (cs ++ b.cycles ∷ []) (with_boot b l)
Counts-more cs l b few c = record {
  times = omega (arith, c.times, few, length_push cs b.cycles);
  is_least = least_of cs l.least b.cycles c.is_least;
  least =
      All-push (λ n. min l.least b.cycles ≤ n) cs b.cycles
      (All-weaker (λ n. l.least ≤ n) (λ n. min l.least b.cycles ≤ n) (λ n h. omega (arith, h)) cs c.least) (omega arith);
  is_most = most_of cs l.most b.cycles c.is_most;
  most =
      All-push (λ n. n ≤ max l.most b.cycles) cs b.cycles
      (All-weaker (λ n. n ≤ l.most) (λ n. n ≤ max l.most b.cycles) (λ n h. omega (arith, h)) cs c.most) (omega arith);
}

-- a lead counts one more boot that led to its checkpoint
IsLeadOf-here : (boots : List Booted) (l : Lead) (b : Booted) → length boots < 2 ^ 64 - 1 → is_same l.mark b.mark ≡ true → IsLeadOf boots l
    → IsLeadOf (boots ++ b ∷ []) (with_boot b l)
IsLeadOf-here boots l b few same is =
    subst (λ cs. Counts cs (with_boot b l)) (sym (cycles_to-here l.mark boots b same))
    (Counts-more (cycles_to l.mark boots) l b (omega (arith, few, length-cycles_to l.mark boots)) is)

-- a lead does not count a boot that led elsewhere
IsLeadOf-elsewhere : (boots : List Booted) (l : Lead) (b : Booted) → is_same l.mark b.mark ≡ false → IsLeadOf boots l → IsLeadOf (boots ++ b ∷ []) l
IsLeadOf-elsewhere boots l b other is = subst (λ cs. Counts cs l) (sym (cycles_to-elsewhere l.mark boots b other)) is

-- a new lead has the count of the first boot that led to its checkpoint
IsLeadOf-first : (boots : List Booted) (b : Booted) → cycles_to b.mark boots ≡ [] → IsLeadOf (boots ++ b ∷ []) (first_lead b)
IsLeadOf-first boots b none =
    let one : cycles_to b.mark (boots ++ b ∷ []) ≡ b.cycles ∷ []
    = cycles_to-here b.mark boots b (is_same-refl b.mark) ∙ ap (λ cs. cs ++ b.cycles ∷ []) none in
    subst (λ cs. Counts cs (first_lead b)) (sym one)
    (record {
      times = refl;
      is_least = Contains-push [] b.cycles;
      least = All-cons (λ n. b.cycles ≤ n) b.cycles [] (omega arith) (All-nil (λ n. b.cycles ≤ n));
      is_most = Contains-push [] b.cycles;
      most = All-cons (λ n. n ≤ b.cycles) b.cycles [] (omega arith) (All-nil (λ n. n ≤ b.cycles));
    })

-- ---- which checkpoints are listed

-- the head of a list is another checkpoint, and so is each of the rest
first_other : (mark : Option Mark) (l : Lead) (ls : List Lead) → lists mark (l ∷ ls) ≡ false → is_same l.mark mark ≡ false
first_other mark l ls none = elim (is_same l.mark mark) as (λ t. (if t then true else lists mark ls) ≡ false → t ≡ false) [
  | true ↦ λ e. e
  | false ↦ λ e. refl
] none

rest_other : (mark : Option Mark) (l : Lead) (ls : List Lead) → lists mark (l ∷ ls) ≡ false → lists mark ls ≡ false
rest_other mark l ls none = elim (is_same l.mark mark) as (λ t. (if t then true else lists mark ls) ≡ false → lists mark ls ≡ false) [
  | true ↦ λ e. absurd (cc)
  | false ↦ λ e. e
] none

lists-counted : (mark : Option Mark) (b : Booted) (ls : List Lead) → lists mark (counted_in b ls) ≡ lists mark ls
lists-counted mark b [] = refl
lists-counted mark b (l ∷ ls) = elim (is_same l.mark b.mark)
    as (λ t. lists mark (if t then with_boot b l ∷ ls else l ∷ counted_in b ls) ≡ (if is_same l.mark mark then true else lists mark ls)) [
      | true ↦ refl
      | false ↦ ap (λ t. if is_same l.mark mark then true else t) (lists-counted mark b ls)
    ]

lists-push : (mark : Option Mark) (ls : List Lead) (l : Lead) → lists mark (ls ++ l ∷ []) ≡ (if lists mark ls then true else is_same l.mark mark)
lists-push mark [] l = elim (is_same l.mark mark) as (λ t. (if t then true else false) ≡ t) [ true ↦ refl | false ↦ refl ]
lists-push mark (x ∷ xs) l = elim (is_same x.mark mark)
    as (λ t. (if t then true else lists mark (xs ++ l ∷ [])) ≡ (if (if t then true else lists mark xs) then true else is_same l.mark mark)) [
      | true ↦ refl
      | false ↦ lists-push mark xs l
    ]

-- a boot whose checkpoint is not listed is counted nowhere
pub counted_unlisted : (b : Booted) (ls : List Lead) → lists b.mark ls ≡ false → counted_in b ls ≡ ls
counted_unlisted b [] none = refl
counted_unlisted b (l ∷ ls) none =
    ap (λ t. if t then with_boot b l ∷ ls else l ∷ counted_in b ls) (first_other b.mark l ls none)
    ∙ ap (λ rest. l ∷ rest) (counted_unlisted b ls (rest_other b.mark l ls none))

pub noted_unlisted : (b : Booted) (ls : List Lead) → lists b.mark ls ≡ false → noted b ls ≡ ls ++ first_lead b ∷ []
noted_unlisted b ls none = ap (λ t. if t then counted_in b ls else ls ++ first_lead b ∷ []) none

-- a boot whose checkpoint is listed at place i, and nowhere before, is counted there
pub counted_at : (b : Booted) (ls : List Lead) (i : ℕ) (d : Lead) → i < length ls → is_same (get_or ls i d).mark b.mark ≡ true
    → take i ls ++ counted_in b (drop i ls) ≡ slice_set ls i (with_boot b (get_or ls i d))
counted_at b ls i d inside same =
    let l : Lead = get_or ls i d in
    let next : suc i ≡ i + 1 = omega arith in
    let here : counted_in b (drop i ls) ≡ with_boot b l ∷ drop (i + 1) ls
    = at_drop_more (counted_in b) ls i d inside
    ∙ ap (λ t. if t then with_boot b l ∷ drop (i + 1) ls else l ∷ counted_in b (drop (i + 1) ls)) same in
    ap (λ rest. take i ls ++ rest) here ∙ ap (λ n. take i ls ++ with_boot b l ∷ drop n ls) (sym next)
    ∙ sym (set_split ls i (with_boot b l) inside)

-- ---- the leads of one boot more

-- none of these leads is of the boot's checkpoint
each-elsewhere : (boots : List Booted) (b : Booted) (ls : List Lead) → lists b.mark ls ≡ false → All (IsLeadOf boots) ls
    → All (IsLeadOf (boots ++ b ∷ [])) ls
each-elsewhere boots b [] none each = All-nil (IsLeadOf (boots ++ b ∷ []))
each-elsewhere boots b (l ∷ ls) none each =
    All-cons (IsLeadOf (boots ++ b ∷ [])) l ls
    (IsLeadOf-elsewhere boots l b (first_other b.mark l ls none) (All-head (IsLeadOf boots) l ls each))
    (each-elsewhere boots b ls (rest_other b.mark l ls none) (All-tail (IsLeadOf boots) l ls each))

each-counted : (boots : List Booted) (b : Booted) (ls : List Lead) → length boots < 2 ^ 64 - 1 → AreApart ls → All (IsLeadOf boots) ls
    → All (IsLeadOf (boots ++ b ∷ [])) (counted_in b ls)
each-counted boots b [] few apart each = All-nil (IsLeadOf (boots ++ b ∷ []))
each-counted boots b (l ∷ ls) few apart each =
    elim (is_same l.mark b.mark)
    as (λ t. is_same l.mark b.mark ≡ t → All (IsLeadOf (boots ++ b ∷ [])) (if t then with_boot b l ∷ ls else l ∷ counted_in b ls)) [
      | true ↦ λ e.
          let rest : lists b.mark ls ≡ false = ap (λ m. lists m ls) (sym (is_same-sound l.mark b.mark e)) ∙ apart.0 in
          All-cons (IsLeadOf (boots ++ b ∷ [])) (with_boot b l) ls (IsLeadOf-here boots l b few e (All-head (IsLeadOf boots) l ls each))
          (each-elsewhere boots b ls rest (All-tail (IsLeadOf boots) l ls each))
      | false ↦ λ e.
          All-cons (IsLeadOf (boots ++ b ∷ [])) l (counted_in b ls) (IsLeadOf-elsewhere boots l b e (All-head (IsLeadOf boots) l ls each))
          (each-counted boots b ls few apart.1 (All-tail (IsLeadOf boots) l ls each))
    ] refl

apart-counted : (b : Booted) (ls : List Lead) → AreApart ls → AreApart (counted_in b ls)
apart-counted b [] apart = tt
apart-counted b (l ∷ ls) apart = elim (is_same l.mark b.mark) as (λ t. AreApart (if t then with_boot b l ∷ ls else l ∷ counted_in b ls)) [
  | true ↦ apart
  | false ↦ (lists-counted l.mark b ls ∙ apart.0, apart-counted b ls apart.1)
]

is_same-turned : (a b : Option Mark) → is_same a b ≡ false → is_same b a ≡ false
is_same-turned a b other = elim (is_same b a) as (λ t. is_same b a ≡ t → t ≡ false) [
  | true ↦ λ e. let both : is_same a b ≡ true = ap (λ m. is_same m b) (sym (is_same-sound b a e)) ∙ is_same-refl b in absurd (cc)
  | false ↦ λ e. refl
] refl

apart-push : (b : Booted) (ls : List Lead) → lists b.mark ls ≡ false → AreApart ls → AreApart (ls ++ first_lead b ∷ [])
apart-push b [] none apart = (refl, tt)
apart-push b (l ∷ ls) none apart = (
  lists-push l.mark ls (first_lead b) ∙ ap (λ t. if t then true else is_same b.mark l.mark) apart.0
      ∙ is_same-turned l.mark b.mark (first_other b.mark l ls none),
  apart-push b ls (rest_other b.mark l ls none) apart.1,
)

-- if a checkpoint is not listed, no boot led to it
no_boots_to : (boots : List Booted) (ls : List Lead) (mark : Option Mark) → All (λ (x : Booted). lists x.mark ls ≡ true) boots → lists mark ls ≡ false
    → cycles_to mark boots ≡ []
no_boots_to [] ls mark every none = refl
no_boots_to (x ∷ xs) ls mark every none =
    elim (is_same mark x.mark) as (λ t. is_same mark x.mark ≡ t → (if t then x.cycles ∷ cycles_to mark xs else cycles_to mark xs) ≡ []) [
      | true ↦ λ e.
          let listed : lists mark ls ≡ true
          = ap (λ m. lists m ls) (is_same-sound mark x.mark e) ∙ All-head (λ (x : Booted). lists x.mark ls ≡ true) x xs every in
          absurd (cc)
      | false ↦ λ e. no_boots_to xs ls mark (All-tail (λ (x : Booted). lists x.mark ls ≡ true) x xs every) none
    ] refl

AreLeadsOf-counted : (boots : List Booted) (ls : List Lead) (b : Booted) → length boots < 2 ^ 64 - 1 → lists b.mark ls ≡ true → AreLeadsOf boots ls
    → AreLeadsOf (boots ++ b ∷ []) (counted_in b ls)
AreLeadsOf-counted boots ls b few listed are = record {
  each = each-counted boots b ls few are.apart are.each;
  every =
      All-push (λ (x : Booted). lists x.mark (counted_in b ls) ≡ true) boots b
      (All-weaker (λ (x : Booted). lists x.mark ls ≡ true) (λ (x : Booted). lists x.mark (counted_in b ls) ≡ true)
      (λ x h. lists-counted x.mark b ls ∙ h) boots are.every)
      (lists-counted b.mark b ls ∙ listed);
  apart = apart-counted b ls are.apart;
}

AreLeadsOf-listed : (boots : List Booted) (ls : List Lead) (b : Booted) → lists b.mark ls ≡ false → AreLeadsOf boots ls
    → AreLeadsOf (boots ++ b ∷ []) (ls ++ first_lead b ∷ [])
AreLeadsOf-listed boots ls b none are = record {
  each =
      All-push (IsLeadOf (boots ++ b ∷ [])) ls (first_lead b) (each-elsewhere boots b ls none are.each)
      (IsLeadOf-first boots b (no_boots_to boots ls b.mark are.every none));
  every =
      All-push (λ (x : Booted). lists x.mark (ls ++ first_lead b ∷ []) ≡ true) boots b
      (All-weaker (λ (x : Booted). lists x.mark ls ≡ true) (λ (x : Booted). lists x.mark (ls ++ first_lead b ∷ []) ≡ true)
      (λ x h. lists-push x.mark ls (first_lead b) ∙ ap (λ t. if t then true else is_same b.mark x.mark) h) boots are.every)
      (lists-push b.mark ls (first_lead b) ∙ ap (λ t. if t then true else is_same b.mark b.mark) none ∙ is_same-refl b.mark);
  apart = apart-push b ls none are.apart;
}

pub leads_are_of_boots : LeadsAreOfBoots
leads_are_of_boots = (
  record { each = All-nil (IsLeadOf []); every = All-nil (λ (x : Booted). lists x.mark [] ≡ true); apart = tt },
  λ boots ls b few are.
      elim (lists b.mark ls) as (λ t. lists b.mark ls ≡ t → AreLeadsOf (boots ++ b ∷ []) (if t then counted_in b ls else ls ++ first_lead b ∷ [])) [
        | true ↦ λ e. AreLeadsOf-counted boots ls b few e are
        | false ↦ λ e. AreLeadsOf-listed boots ls b e are
      ] refl,
)
