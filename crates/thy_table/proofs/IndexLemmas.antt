-- The parts of a table after each change.
use Rattle.std.proofs.Common.{◌≡◌, ◌≢◌, ℕ, ◌+◌, ◌-◌, ◌*◌, ◌/◌, ◌%◌, ◌^◌, ◌<◌, ◌≤◌, if◌then◌else◌, Bool, true, false, cond, List, [], length, get_or, slice_set, replicate, Option, Some, None, is_none, is_some, IsSome, All, ◌↔◌, min, refl, sym, ◌∙◌, ap, inl, inr, arith}
use Rattle.std.specs.List.{position, count_by}
use Rattle.std.specs.Prelude.{eqb}
use Rattle.std.proofs.lemmas.Bool.{cases_Bool, cases_eq, cases_lt, eqb-true, eq-eqb}
use Rattle.std.proofs.lemmas.List.{length-set, length-replicate, get_or-replicate, get_or-set_same, get_or-set_other, get_or_past, get_or_default, get_or_read}
use Rattle.std.proofs.lemmas.List.Sums.{sum_by-set, sum_by-le, get_or-le-sum_by}
use Rattle.std.proofs.lemmas.List.Folds.{sum_by-replicate}
use Rattle.std.proofs.lemmas.List.Quantifiers.{position-Some}
use Rattle.thy_table.specs.Listing.{listing, lists, leads, indexed_at, IsLastOf, IsSoundTable, IsListing}
use Rattle.thy_table.proofs.FirstLemmas.{position-first, position-none, none-position}

-- what is not none is some
pub is_some-not_none : {X : Type 0} (o : Option X) → is_none o ≡ false → is_some o ≡ true
is_some-not_none None h = cc
is_some-not_none (Some x) h = refl

pub is_none-not_some : {X : Type 0} (o : Option X) → is_some o ≡ true → is_none o ≡ false
is_none-not_some None h = cc
is_none-not_some (Some x) h = refl

pub None-is_some : {X : Type 0} (o : Option X) → is_some o ≡ false → o ≡ None
None-is_some None e = refl
None-is_some (Some x) e = cc

pub None-is_none : {X : Type 0} (o : Option X) → is_none o ≡ true → o ≡ None
None-is_none None h = refl
None-is_none (Some x) h = cc

abbrev pub one_if : Bool → ℕ
one_if t = cond t 1 0

-- a free entry counts as one
abbrev pub free_one : {X : Type 0} → Option X → ℕ
free_one o = one_if (is_none o)

-- if no place is free, none counts as free
pub count-none : {X : Type 0} (es : List (Option X)) → position is_none es ≡ None → count_by is_none es ≡ 0
count-none es e =
    let none : All (λ o. free_one o ≤ 0) es = λ k d l.
    let is : is_none (get_or es k d) ≡ false = ap is_none (get_or_default es k d None l) ∙ none-position is_none None es e k l in
    omega (arith, ap one_if is) in
    omega (arith, sum_by-le free_one 0 es none)

-- an index is free exactly if the count is above 0
pub some-counted : {X : Type 0} (es : List (Option X)) (o : Option ℕ) → position is_none es ≡ o → IsSome o ↔ (0 < count_by is_none es)
some-counted es None e = (λ h. (cc), λ l. absurd (omega (arith, l, count-none es e)))
some-counted es (Some i) e =
    let first = position-Some is_none es i None e in
    (λ _. omega (arith, get_or-le-sum_by free_one es i None first.0, ap one_if first.1), λ _. refl)

module _ {E : Type 0} (key : E → ℕ) where
  -- what lists a number is an entry whose key it is
  pub lists-some : (n : ℕ) (o : Option E) → lists key n o ≡ true → (e : E) × (o ≡ Some e) × (key e ≡ n)
  lists-some n None h = cc
  lists-some n (Some e) h = (e, refl, eqb-true (key e) n h)

  pub lists-key : (n : ℕ) (o : Option E) (e : E) → o ≡ Some e → key e ≡ n → lists key n o ≡ true
  lists-key n o e s k = ap (lists key n) s ∙ eq-eqb (key e) n k

  -- one entry lists one number
  pub lists-key_of : (n : ℕ) (o : Option E) (e : E) → lists key n o ≡ true → o ≡ Some e → key e ≡ n
  lists-key_of n o e h s = eqb-true (key e) n (sym (ap (lists key n) s) ∙ h)

  -- an entry that lists a number stands inside the table
  pub lists-inside : (es : List (Option E)) (i n : ℕ) → lists key n (get_or es i None) ≡ true → i < length es
  lists-inside es i n h = elim (cases_lt i (length es)) as (λ _. i < length es) [
    | inl l ↦ l
    | inr l ↦ let none : false ≡ true = sym (ap (lists key n) (get_or_past es i None l)) ∙ h in cc
  ]

  pub leads-key : (g : ℕ) (o : Option E) (e : E) → o ≡ Some e → key e / 16 ≡ g → leads key g o ≡ true
  leads-key g o e s k = ap (leads key g) s ∙ eq-eqb (key e / 16) g k

  -- a leader leads one group
  pub leads-one : (g h : ℕ) (o : Option E) → leads key g o ≡ true → leads key h o ≡ true → g ≡ h
  leads-one g h None a b = cc
  leads-one g h (Some e) a b = sym (eqb-true (key e / 16) g a) ∙ eqb-true (key e / 16) h b

  -- a leader stands inside the table
  pub leads-inside : (es : List (Option E)) (i g : ℕ) → leads key g (get_or es i None) ≡ true → i < length es
  leads-inside es i g h = elim (cases_lt i (length es)) as (λ _. i < length es) [
    | inl l ↦ l
    | inr l ↦ let none : false ≡ true = sym (ap (leads key g) (get_or_past es i None l)) ∙ h in cc
  ]

  -- the index of a table whose every entry is free is sound
  pub IsSoundTable-empty : (size numbers : ℕ) → size ≤ 2 ^ 32
      → IsSoundTable key (replicate size None) numbers (replicate (numbers / 16 + 1) 0) (replicate size (replicate 16 0)) 0 size
  IsSoundTable-empty size numbers small =
      let es : List (Option E) = replicate size None in
      let all_none : (i : ℕ) → get_or es i None ≡ None = λ i. elim (cases_lt i size) as (λ _. get_or es i None ≡ None) [
        | inl l ↦ get_or-replicate size i None None l
        | inr l ↦ get_or_past es i None (omega (arith, l, length-replicate {A = Option E} size None))
      ] in
      let none : (i n : ℕ) → lists key n (get_or es i None) ≡ true → 1 ≤ 0
      = λ i n h. (let both : false ≡ true = sym (ap (lists key n) (all_none i)) ∙ h in cc) in
      record {
        listed = λ i n h. absurd (omega (arith, none i n h));
        led = λ i n h. absurd (omega (arith, none i n h));
        inside = λ i n h. absurd (omega (arith, none i n h));
        groups = omega (arith, length-replicate {A = ℕ} (numbers / 16 + 1) 0);
        wide = λ i l. ap length (get_or-replicate {A = List ℕ} size i (replicate 16 0) []
            (omega (arith, l, length-replicate {A = List ℕ} size (replicate 16 0)))) ∙ length-replicate {A = ℕ} 16 0;
        as_many = length-replicate {A = List ℕ} size (replicate 16 0) ∙ sym (length-replicate {A = Option E} size None);
        full_below = λ i l. absurd (omega (arith, l));
        counted = omega (arith, sum_by-replicate (free_one {X = E}) size None);
        few = omega (arith, small, length-replicate {A = Option E} size None);
      }

  module _ (es : List (Option E)) (numbers : ℕ) (leaders : List ℕ) (places : List (List ℕ)) (lowest free : ℕ)
      (sound : IsSoundTable key es numbers leaders places lowest free) where
    -- a number is listed by no other entry than the one at which the index has it
    alone : (n k : ℕ) → k ≢ indexed_at leaders places n → lists key n (get_or es k None) ≡ false
    alone n k other = elim (cases_Bool (lists key n (get_or es k None))) as (λ _. lists key n (get_or es k None) ≡ false) [
      | inl t ↦ absurd (other (sym (sound.listed k n t)))
      | inr f ↦ f
    ]

    -- a number is where the index has it, if the entry there lists it
    pub position-indexed : (n : ℕ) → lists key n (get_or es (indexed_at leaders places n) None) ≡ true
        → position (lists key n) es ≡ Some (indexed_at leaders places n)
    position-indexed n here = let i = indexed_at leaders places n in
        position-first (lists key n) None es i (lists-inside es i n here) here (λ k l. alone n k (λ s. absurd (omega (arith, l, s))))

    -- a number is nowhere, if the entry at which the index has it does not list it
    pub position-unindexed : (n : ℕ) → lists key n (get_or es (indexed_at leaders places n) None) ≡ false → position (lists key n) es ≡ None
    position-unindexed n here = position-none (lists key n) None es
        (λ k l. elim (cases_eq k (indexed_at leaders places n)) as (λ _. lists key n (get_or es k None) ≡ false) [
          | inl s ↦ ap (λ j. lists key n (get_or es j None)) s ∙ here
          | inr o ↦ alone n k o
        ])

    position-listed : (i n : ℕ) → lists key n (get_or es i None) ≡ true → position (lists key n) es ≡ Some i
    position-listed i n h =
        let at : indexed_at leaders places n ≡ i = sound.listed i n h in
        position-indexed n (ap (λ j. lists key n (get_or es j None)) at ∙ h) ∙ ap Some at

    -- no number is listed twice
    pub IsListing-sound : IsListing key (listing es numbers)
    IsListing-sound = record { found = position-listed; inside = sound.inside }

    -- the group of a number that can be listed is one of the index
    pub group-inside : (n : ℕ) → n < numbers → n / 16 < length leaders
    group-inside n l = omega (arith, sound.groups)

    -- the group of an entry is one of the index, and has a leader
    pub group-here : (i : ℕ) (e : E) → get_or es i None ≡ Some e → key e / 16 < length leaders
    group-here i e was = group-inside (key e) (sound.inside i (key e) (lists-key (key e) (get_or es i None) e was refl))

    pub leader-read : (i : ℕ) (e : E) (n c : ℕ) → get_or es i None ≡ Some e → n ≡ key e → c ≡ get_or leaders (n / 16) c
        → get_or leaders (key e / 16) 0 ≡ c
    leader-read i e n c was is read = sym (get_or_read leaders (key e / 16) c (group-here i e was) (read ∙ ap (λ m. get_or leaders (m / 16) c) is) 0)

    pub leads-here : (i : ℕ) (e : E) → get_or es i None ≡ Some e
        → leads key (key e / 16) (get_or es (get_or leaders (key e / 16) 0) None) ≡ true
    leads-here i e was = sound.led i (key e) (lists-key (key e) (get_or es i None) e was refl)

    pub leader-here : (i : ℕ) (e : E) → get_or es i None ≡ Some e → get_or leaders (key e / 16) 0 < length places
    leader-here i e was = omega (arith, leads-inside es (get_or leaders (key e / 16) 0) (key e / 16) (leads-here i e was), sound.as_many)

    -- the leader of a group with one more entry is inside the table
    pub leader_with-inside : (i g q : ℕ) → i < length es
        → q ≡ (if leads key g (get_or es (get_or leaders g 0) None) then get_or leaders g 0 else i) → q < length places
    leader_with-inside i g q inside chosen =
        let c = get_or leaders g 0 in
        elim (cases_Bool (leads key g (get_or es c None))) as (λ _. q < length places) [
          | inl h ↦
              let is : q ≡ c = chosen ∙ ap (λ (b : Bool). if b then c else i) h in
              omega (arith, is, leads-inside es c g h, sound.as_many)
          | inr f ↦
              let is : q ≡ i = chosen ∙ ap (λ (b : Bool). if b then c else i) f in
              omega (arith, is, inside, sound.as_many)
        ]

    -- another leader of a group, with the places of the group's numbers; the other groups have theirs
    module _ (now : List (Option E)) (g q : ℕ) (group : List ℕ) (room : g < length leaders) (inside : q < length places)
        (leading : leads key g (get_or now q None) ≡ true)
        (own : (j n : ℕ) → lists key n (get_or now j None) ≡ true → n / 16 ≡ g → get_or group (n % 16) 0 ≡ j)
        (old : (j n : ℕ) → lists key n (get_or now j None) ≡ true → n / 16 ≢ g → lists key n (get_or es j None) ≡ true)
        (stays : (j n : ℕ) → lists key n (get_or now j None) ≡ true → n / 16 ≢ g
        → leads key (n / 16) (get_or now (get_or leaders (n / 16) 0) None) ≡ true) where
      module _ (j n : ℕ) (h : lists key n (get_or now j None) ≡ true) where
        pub led-with : leads key (n / 16) (get_or now (get_or (slice_set leaders g q) (n / 16) 0) None) ≡ true
        led-with = elim (cases_eq (n / 16) g) as (λ _. leads key (n / 16) (get_or now (get_or (slice_set leaders g q) (n / 16) 0) None) ≡ true) [
          | inl s ↦
              let at : get_or (slice_set leaders g q) (n / 16) 0 ≡ q =
              ap (λ m. get_or (slice_set leaders g q) m 0) s ∙ get_or-set_same leaders g q 0 room in
              ap (λ m. leads key m (get_or now (get_or (slice_set leaders g q) (n / 16) 0) None)) s
              ∙ ap (λ m. leads key g (get_or now m None)) at ∙ leading
          | inr o ↦ ap (λ m. leads key (n / 16) (get_or now m None)) (get_or-set_other leaders g (n / 16) q 0 o) ∙ stays j n h o
        ]

        pub listed-with : indexed_at (slice_set leaders g q) (slice_set places q group) n ≡ j
        listed-with = elim (cases_eq (n / 16) g) as (λ _. indexed_at (slice_set leaders g q) (slice_set places q group) n ≡ j) [
          | inl s ↦
              let at : get_or (slice_set leaders g q) (n / 16) 0 ≡ q =
              ap (λ m. get_or (slice_set leaders g q) m 0) s ∙ get_or-set_same leaders g q 0 room in
              ap (λ m. get_or (get_or (slice_set places q group) m []) (n % 16) 0) at
              ∙ ap (λ ps. get_or ps (n % 16) 0) (get_or-set_same places q group [] inside) ∙ own j n h s
          | inr o ↦
              let c = get_or leaders (n / 16) 0 in
              let other : c ≢ q = λ s. o (leads-one (n / 16) g (get_or now q None)
              (sym (ap (λ m. leads key (n / 16) (get_or now m None)) s) ∙ stays j n h o) leading) in
              ap (λ m. get_or (get_or (slice_set places q group) m []) (n % 16) 0) (get_or-set_other leaders g (n / 16) q 0 o)
              ∙ ap (λ ps. get_or ps (n % 16) 0) (get_or-set_other places q c group [] other) ∙ sound.listed j n (old j n h o)
        ]

      pub wide-with : length group ≡ 16 → (i : ℕ) → i < length (slice_set places q group)
          → length (get_or (slice_set places q group) i []) ≡ 16
      wide-with sixteen i l = elim (cases_eq i q) as (λ _. length (get_or (slice_set places q group) i []) ≡ 16) [
        | inl s ↦ ap (λ m. length (get_or (slice_set places q group) m [])) s ∙ ap length (get_or-set_same places q group [] inside) ∙ sixteen
        | inr o ↦ ap length (get_or-set_other places q i group [] o) ∙ sound.wide i (omega (arith, l, length-set places q group))
      ]

    -- no place below the lowest is free
    pub none_free_below : (k : ℕ) → k < lowest → is_none (get_or es k None) ≡ false
    none_free_below k l = is_none-not_some (get_or es k None) (sound.full_below k l)

    -- if the count of free entries is 0, none is free
    pub none-free : free ≡ 0 → position is_none es ≡ None
    none-free e = position-none is_none None es
        (λ k l. elim (cases_Bool (is_none (get_or es k None))) as (λ _. is_none (get_or es k None) ≡ false) [
          | inl t ↦ let none : 1 ≤ 0 = omega (arith, e, sound.counted, get_or-le-sum_by free_one es k None l, ap one_if t) in absurd (omega arith)
          | inr f ↦ f
        ])

    -- after an entry was put in the place of one with its key
    pub IsSoundTable-set : (i : ℕ) (e : E) → lists key (key e) (get_or es i None) ≡ true
        → IsSoundTable key (slice_set es i (Some e)) numbers leaders places lowest free
    IsSoundTable-set i e was =
        let inside : i < length es = lists-inside es i (key e) was in
        let is = lists-some (key e) (get_or es i None) was in
        let now : get_or (slice_set es i (Some e)) i None ≡ Some e = get_or-set_same es i (Some e) None inside in
        let lists_same : (j n : ℕ) → lists key n (get_or (slice_set es i (Some e)) j None) ≡ lists key n (get_or es j None)
        = λ j n. elim (cases_eq j i) as (λ _. lists key n (get_or (slice_set es i (Some e)) j None) ≡ lists key n (get_or es j None)) [
          | inl s ↦
              ap (λ k. lists key n (get_or (slice_set es i (Some e)) k None)) s ∙ ap (lists key n) now
              ∙ ap (λ m. eqb m n) (sym is.2) ∙ sym (ap (lists key n) is.1) ∙ sym (ap (λ k. lists key n (get_or es k None)) s)
          | inr o ↦ ap (lists key n) (get_or-set_other es i j (Some e) None o)
        ] in
        let leads_same : (j g : ℕ) → leads key g (get_or (slice_set es i (Some e)) j None) ≡ leads key g (get_or es j None)
        = λ j g. elim (cases_eq j i) as (λ _. leads key g (get_or (slice_set es i (Some e)) j None) ≡ leads key g (get_or es j None)) [
          | inl s ↦
              ap (λ k. leads key g (get_or (slice_set es i (Some e)) k None)) s ∙ ap (leads key g) now
              ∙ ap (λ m. eqb (m / 16) g) (sym is.2) ∙ sym (ap (leads key g) is.1) ∙ sym (ap (λ k. leads key g (get_or es k None)) s)
          | inr o ↦ ap (leads key g) (get_or-set_other es i j (Some e) None o)
        ] in
        record {
          listed = λ j n h. sound.listed j n (sym (lists_same j n) ∙ h);
          led = λ j n h. leads_same (get_or leaders (n / 16) 0) (n / 16) ∙ sound.led j n (sym (lists_same j n) ∙ h);
          inside = λ j n h. sound.inside j n (sym (lists_same j n) ∙ h);
          groups = sound.groups;
          wide = sound.wide;
          as_many = sound.as_many ∙ sym (length-set es i (Some e));
          full_below = λ j l. elim (cases_eq j i) as (λ _. is_some (get_or (slice_set es i (Some e)) j None) ≡ true) [
            | inl s ↦ ap is_some (ap (λ k. get_or (slice_set es i (Some e)) k None) s ∙ now)
            | inr o ↦ ap is_some (get_or-set_other es i j (Some e) None o) ∙ sound.full_below j l
          ];
          counted = omega (arith, sound.counted, sum_by-set free_one es i (Some e) None inside, ap free_one is.1);
          few = omega (arith, sound.few, length-set es i (Some e));
        }

    -- the lowest free place serves as the one below which none is free
    pub IsSoundTable-lowest : (i : ℕ) → position is_none es ≡ Some i → IsSoundTable key es numbers leaders places i free
    IsSoundTable-lowest i lowest_free = record {
      listed = sound.listed;
      led = sound.led;
      inside = sound.inside;
      groups = sound.groups;
      wide = sound.wide;
      as_many = sound.as_many;
      full_below = λ j l. is_some-not_none (get_or es j None) ((position-Some is_none es i None lowest_free).2 j l);
      counted = sound.counted;
      few = sound.few;
    }

    -- if a place is free, the count is above 0
    pub some-free : (i : ℕ) → i < length es → get_or es i None ≡ None → 0 < free
    some-free i inside was = omega (arith, sound.counted, get_or-le-sum_by free_one es i None inside, ap free_one was)

    -- after an entry was put in a free place, with the old leader of its group or that place as leader
    pub IsSoundTable-put : (i : ℕ) (e : E) (raised q : ℕ) → i < length es → get_or es i None ≡ None → position (lists key (key e)) es ≡ None
        → key e < numbers
        → q ≡ (if leads key (key e / 16) (get_or es (get_or leaders (key e / 16) 0) None) then get_or leaders (key e / 16) 0 else i)
        → ((j : ℕ) → j < raised → j ≢ i → j < lowest)
        → IsSoundTable key (slice_set es i (Some e)) numbers (slice_set leaders (key e / 16) q)
        (slice_set places q (slice_set (get_or places q []) (key e % 16) i)) raised (free - 1)
    IsSoundTable-put i e raised q inside was unlisted room chosen below =
        let g = key e / 16 in
        let now = slice_set es i (Some e) in
        let c = get_or leaders g 0 in
        let here : get_or now i None ≡ Some e = get_or-set_same es i (Some e) None inside in
        let back : (j n : ℕ) → j ≢ i → lists key n (get_or now j None) ≡ true → lists key n (get_or es j None) ≡ true
        = λ j n o h. sym (ap (lists key n) (get_or-set_other es i j (Some e) None o)) ∙ h in
        -- a free entry leads no group
        let not_led : (k m : ℕ) → leads key m (get_or es k None) ≡ true → k ≢ i
        = λ k m h s. (let both : false ≡ true = sym (ap (leads key m) (ap (λ j. get_or es j None) s ∙ was)) ∙ h in cc) in
        let still : (k m : ℕ) → leads key m (get_or es k None) ≡ true → leads key m (get_or now k None) ≡ true
        = λ k m h. ap (leads key m) (get_or-set_other es i k (Some e) None (not_led k m h)) ∙ h in
        -- the old leader, if there is one
        let kept : leads key g (get_or es c None) ≡ true → q ≡ c = λ h. chosen ∙ ap (λ (b : Bool). if b then c else i) h in
        let leading : leads key g (get_or now q None) ≡ true
        = elim (cases_Bool (leads key g (get_or es c None))) as (λ _. leads key g (get_or now q None) ≡ true) [
          | inl h ↦ ap (λ k. leads key g (get_or now k None)) (kept h) ∙ still c g h
          | inr f ↦
              let new : q ≡ i = chosen ∙ ap (λ (b : Bool). if b then c else i) f in
              ap (λ k. leads key g (get_or now k None)) new ∙ leads-key g (get_or now i None) e here refl
        ] in
        let in_places : q < length places = omega (arith, leads-inside now q g leading, length-set es i (Some e), sound.as_many) in
        let group = slice_set (get_or places q []) (key e % 16) i in
        let sixteen : length (get_or places q []) ≡ 16 = sound.wide q in_places in
        let own : (j n : ℕ) → lists key n (get_or now j None) ≡ true → n / 16 ≡ g → get_or group (n % 16) 0 ≡ j
        = λ j n h s. elim (cases_eq j i) as (λ _. get_or group (n % 16) 0 ≡ j) [
          | inl r ↦
              let is : key e ≡ n = lists-key_of n _ e h (ap (λ k. get_or now k None) r ∙ here) in
              ap (λ m. get_or group (m % 16) 0) (sym is) ∙ get_or-set_same (get_or places q []) (key e % 16) i 0 (omega (arith, sixteen)) ∙ sym r
          | inr o ↦
              let before : lists key n (get_or es j None) ≡ true = back j n o h in
              let other : n ≢ key e = λ r. (let both : None ≡ Some j =
              sym unlisted ∙ ap (λ m. position (lists key m) es) (sym r) ∙ position-listed j n before in cc) in
              let apart : n % 16 ≢ key e % 16 = λ r. other (omega (arith, r, s)) in
              let leads_c : leads key g (get_or es c None) ≡ true
              = sym (ap (λ m. leads key m (get_or es (get_or leaders m 0) None)) s) ∙ sound.led j n before in
              get_or-set_other (get_or places q []) (key e % 16) (n % 16) i 0 apart
              ∙ ap (λ k. get_or (get_or places k []) (n % 16) 0) (kept leads_c ∙ ap (λ m. get_or leaders m 0) (sym s)) ∙ sound.listed j n before
        ] in
        let old : (j n : ℕ) → lists key n (get_or now j None) ≡ true → n / 16 ≢ g → lists key n (get_or es j None) ≡ true
        = λ j n h o. back j n (λ r. o (ap (λ m. m / 16) (sym (lists-key_of n _ e h (ap (λ k. get_or now k None) r ∙ here))))) h in
        let stays : (j n : ℕ) → lists key n (get_or now j None) ≡ true → n / 16 ≢ g
        → leads key (n / 16) (get_or now (get_or leaders (n / 16) 0) None) ≡ true
        = λ j n h o. still (get_or leaders (n / 16) 0) (n / 16) (sound.led j n (old j n h o)) in
        let room_group : g < length leaders = group-inside (key e) room in
        record {
          listed = listed-with now g q group room_group in_places leading own old stays;
          led = led-with now g q group room_group in_places leading own old stays;
          inside = λ j n h. elim (cases_eq j i) as (λ _. n < numbers) [
            | inl r ↦ let is : key e ≡ n = lists-key_of n _ e h (ap (λ k. get_or now k None) r ∙ here) in omega (arith, is, room)
            | inr o ↦ sound.inside j n (back j n o h)
          ];
          groups = omega (arith, sound.groups, length-set leaders g q);
          wide = wide-with now g q group room_group in_places leading own old stays (length-set (get_or places q []) (key e % 16) i ∙ sixteen);
          as_many = length-set places q group ∙ sound.as_many ∙ sym (length-set es i (Some e));
          full_below = λ j l. elim (cases_eq j i) as (λ _. is_some (get_or now j None) ≡ true) [
            | inl s ↦ ap is_some (ap (λ k. get_or now k None) s ∙ here)
            | inr o ↦ ap is_some (get_or-set_other es i j (Some e) None o) ∙ sound.full_below j (below j l o)
          ];
          counted = omega (arith, sound.counted, sum_by-set free_one es i (Some e) None inside, ap free_one was);
          few = omega (arith, sound.few, length-set es i (Some e));
        }

    -- after another entry took over to lead a group
    pub IsSoundTable-led : (g q : ℕ) → leads key g (get_or es q None) ≡ true → leads key g (get_or es (get_or leaders g 0) None) ≡ true
        → g < length leaders
        → IsSoundTable key es numbers (slice_set leaders g q) (slice_set places q (get_or places (get_or leaders g 0) [])) lowest free
    IsSoundTable-led g q leading leads_c room =
        let c = get_or leaders g 0 in
        let group = get_or places c [] in
        let in_places : q < length places = omega (arith, leads-inside es q g leading, sound.as_many) in
        let c_inside : c < length places = omega (arith, leads-inside es c g leads_c, sound.as_many) in
        let own : (j n : ℕ) → lists key n (get_or es j None) ≡ true → n / 16 ≡ g → get_or group (n % 16) 0 ≡ j
        = λ j n h s. ap (λ m. get_or (get_or places (get_or leaders m 0) []) (n % 16) 0) (sym s) ∙ sound.listed j n h in
        let old : (j n : ℕ) → lists key n (get_or es j None) ≡ true → n / 16 ≢ g → lists key n (get_or es j None) ≡ true = λ j n h o. h in
        let stays : (j n : ℕ) → lists key n (get_or es j None) ≡ true → n / 16 ≢ g
        → leads key (n / 16) (get_or es (get_or leaders (n / 16) 0) None) ≡ true
        = λ j n h o. sound.led j n h in
        record {
          listed = listed-with es g q group room in_places leading own old stays;
          led = led-with es g q group room in_places leading own old stays;
          inside = sound.inside;
          groups = omega (arith, sound.groups, length-set leaders g q);
          wide = wide-with es g q group room in_places leading own old stays (sound.wide c c_inside);
          as_many = length-set places q group ∙ sound.as_many;
          full_below = sound.full_below;
          counted = sound.counted;
          few = sound.few;
        }

    -- after an entry was cleared that leads no other entry
    pub IsSoundTable-clear : (i : ℕ) (e : E) → get_or es i None ≡ Some e
        → ((j n : ℕ) → j ≢ i → lists key n (get_or es j None) ≡ true → n / 16 ≡ key e / 16 → get_or leaders (key e / 16) 0 ≢ i)
        → IsSoundTable key (slice_set es i None) numbers leaders places (min lowest i) (free + 1)
    IsSoundTable-clear i e was follows =
        let now = slice_set es i None in
        let inside : i < length es = lists-inside es i (key e) (lists-key (key e) (get_or es i None) e was refl) in
        let here : get_or now i None ≡ None = get_or-set_same es i None None inside in
        let other : (j n : ℕ) → lists key n (get_or now j None) ≡ true → j ≢ i
        = λ j n h s. (let both : false ≡ true = sym (ap (lists key n) (ap (λ k. get_or now k None) s ∙ here)) ∙ h in cc) in
        let old : (j n : ℕ) → lists key n (get_or now j None) ≡ true → lists key n (get_or es j None) ≡ true
        = λ j n h. sym (ap (lists key n) (get_or-set_other es i j None None (other j n h))) ∙ h in
        record {
          listed = λ j n h. sound.listed j n (old j n h);
          led = λ j n h.
              let c = get_or leaders (n / 16) 0 in
              let leading : leads key (n / 16) (get_or es c None) ≡ true = sound.led j n (old j n h) in
              let away : c ≢ i = λ s.
              (let same : key e / 16 ≡ n / 16
              = leads-one (key e / 16) (n / 16) (get_or es i None) (leads-key (key e / 16) (get_or es i None) e was refl)
              (sym (ap (λ k. leads key (n / 16) (get_or es k None)) s) ∙ leading) in
              follows j n (other j n h) (old j n h) (sym same) (ap (λ m. get_or leaders m 0) same ∙ s)) in
              ap (leads key (n / 16)) (get_or-set_other es i c None None away) ∙ leading;
          inside = λ j n h. sound.inside j n (old j n h);
          groups = sound.groups;
          wide = sound.wide;
          as_many = sound.as_many ∙ sym (length-set es i None);
          full_below = λ j l.
              let apart : j ≢ i = λ s. absurd (omega arith) in
              ap is_some (get_or-set_other es i j None None apart) ∙ sound.full_below j (omega arith);
          counted = omega (arith, sound.counted, sum_by-set free_one es i None None inside, ap free_one was);
          few = omega (arith, sound.few, length-set es i None);
        }

    -- if no other entry at the leader's places lists a number of the group, none does
    pub none-follows : (i g : ℕ) → IsLastOf key g es (get_or places (get_or leaders g 0) []) (get_or leaders g 0) i
        → (j n : ℕ) → j ≢ i → lists key n (get_or es j None) ≡ true → n / 16 ≢ g
    none-follows i g last j n other h s =
        let group = get_or places (get_or leaders g 0) [] in
        let at : get_or group (n % 16) 0 ≡ j = ap (λ m. get_or (get_or places (get_or leaders m 0) []) (n % 16) 0) (sym s) ∙ sound.listed j n h in
        let number : 16 * g + n % 16 ≡ n = omega (arith, s) in
        let none : lists key (16 * g + n % 16) (get_or es (get_or group (n % 16) 0) None) ≡ false
        = last.1 (n % 16) (omega arith) (λ r. other (sym at ∙ r)) in
        let both : false ≡ true
        = sym none ∙ ap (λ m. lists key m (get_or es (get_or group (n % 16) 0) None)) number ∙ ap (λ k. lists key n (get_or es k None)) at ∙ h in cc

  -- after an entry was cleared, and another leads its group if any lists a number of it
  pub IsSoundTable-cleared : (es : List (Option E)) (numbers : ℕ) (leaders : List ℕ) (places : List (List ℕ)) (lowest free : ℕ)
      → IsSoundTable key es numbers leaders places lowest free
      → (i : ℕ) (e : E) (q : ℕ) → get_or es i None ≡ Some e → leads key (key e / 16) (get_or es q None) ≡ true
      → (q ≡ i → IsLastOf key (key e / 16) es (get_or places (get_or leaders (key e / 16) 0) []) (get_or leaders (key e / 16) 0) i)
      → IsSoundTable key (slice_set es i None) numbers (slice_set leaders (key e / 16) q)
      (slice_set places q (get_or places (get_or leaders (key e / 16) 0) [])) (min lowest i) (free + 1)
  IsSoundTable-cleared es numbers leaders places lowest free sound i e q was leading last =
      let g = key e / 16 in
      let room : g < length leaders = group-here es numbers leaders places lowest free sound i e was in
      IsSoundTable-clear es numbers (slice_set leaders g q) (slice_set places q (get_or places (get_or leaders g 0) [])) lowest free
      (IsSoundTable-led es numbers leaders places lowest free sound g q leading
      (leads-here es numbers leaders places lowest free sound i e was) room) i e was
      (λ j n other h s r.
      let same : q ≡ i = sym (get_or-set_same leaders g q 0 room) ∙ r in
      none-follows es numbers leaders places lowest free sound i g (last same) j n other h s)
