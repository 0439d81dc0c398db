-- What is kept of the rows of a sweep.
use Rattle.std.proofs.Common.{◌≡◌, ℕ, ◌+◌, Bool, ◌||◌, true, false, Option, Some, None, List, [], ◌∷◌, ◌++◌, refl, sym, ◌∙◌, ap, subst, inl, inr, ◌⊎◌, ◌≤◌, arith}
use Rattle.std.specs.Prelude.{IfSome, is_some, option_map}
use Rattle.std.specs.List.{AllByRecursion}
use Rattle.std.proofs.lemmas.Bool.{MatchBool-at_false, cases_lt}
use Rattle.thy_block.specs.declared.block.Block.{Block}
use Rattle.thy_block.specs.declared.mix.Mix.{Mix}
use Rattle.thy_block.specs.declared.nvm.Write.{Write}
use Rattle.thy_block.specs.Device.{Device}
use Rattle.thy_run.specs.declared.plan.Plan.{Plan}
use Rattle.thy_run.specs.declared.progress.Progress.{Progress}
use Rattle.thy_run.specs.Going.{origin_of, given_of, world_at}
use Rattle.thy_run.specs.Seeing.{IsDoneBy}
use Rattle.thy_run.specs.World.{World, Ran}
use Rattle.thy_sweep.specs.declared.sums.Sums.{Sums}
use Rattle.thy_sweep.specs.Lying.{LiesOn, lying}
use Rattle.thy_sweep.specs.Repeats.{ActedOnce, IsAsBefore, IsSeen, recounted}
use Rattle.thy_sweep.specs.Sums.{no_rows, with_row}
use Rattle.thy_computer.specs.declared.did.Stepped.{Stepped}
use Rattle.thy_computer.specs.Action.{Action, Rest, ReadAt, WriteAt, Barrier, Drain, IsAfter}
use Rattle.thy_computer.specs.Kind.{KindOf}
use Rattle.sweep.specs.declared.account.Account.{Account}
use Rattle.sweep.specs.declared.account.Kept.{Kept}
use Rattle.sweep.specs.declared.asked.Asked.{Asked}
use Rattle.sweep.specs.declared.row.Row.{Row}
use Rattle.sweep.proofs.RowLemmas.{asked-extended}
use Rattle.sweep.specs.Kept.{IsRowAt, IsRowOf, sums_of, closed_into, differs_in, differs_of, differs_into, extended, IsInOpen, IsInOne, StaysThrough, LooksTo, HasRows}
use Rattle.sweep.specs.Findings.{has}
use Rattle.sweep.specs.Still.{IsKept, IsLooked}

sums-append : (rs ss : List Row) (s : Sums) → sums_of (rs ++ ss) s ≡ sums_of ss (sums_of rs s)
sums-append [] ss s = refl
sums-append (r ∷ rs) ss s = sums-append rs ss (with_row r.to_count s r.leads.items)

differs-append : (rs ss : List Row) (b : Bool) → differs_of (rs ++ ss) b ≡ differs_of ss (differs_of rs b)
differs-append [] ss b = refl
differs-append (r ∷ rs) ss b = differs-append rs ss (b || differs_in r)

all-append : {X : Type 0} (P : X → Type 0) (xs ys : List X) → AllByRecursion P xs → AllByRecursion P ys → AllByRecursion P (xs ++ ys)
all-append P [] ys here there = there
all-append P (x ∷ xs) ys here there = (here.0, all-append P xs ys here.1 there)

-- the open row, if there is one
abbrev opened : Option Row → List Row
opened None = []
opened (Some r) = r ∷ []

closes : (o : Option Row) (s : Sums) → closed_into o s ≡ sums_of (opened o) s
closes None s = refl
closes (Some r) s = refl

differs-closes : (o : Option Row) (b : Bool) → differs_into o b ≡ differs_of (opened o) b
differs-closes None b = refl
differs-closes (Some r) b = refl

differs-extended : (cycle count : ℕ) (o : Option Row) (b : Bool) → differs_into (option_map (extended cycle count) o) b ≡ differs_into o b
differs-extended cycle count None b = refl
differs-extended cycle count (Some r) b = refl

-- what holds of the open row, if there is one
some-weaker : (P Q : Row → Type 0) (o : Option Row) → ((r : Row) → P r → Q r) → IfSome o P → IfSome o Q
some-weaker P Q None weaker h = tt
some-weaker P Q (Some r) weaker h = weaker r h

-- ---- cycles in rows

in-left : (k : ℕ) (rs ss : List Row) → IsInOne k rs → IsInOne k (rs ++ ss)
in-left k [] ss h = absurd h
in-left k (r ∷ rs) ss (inl h) = inl h
in-left k (r ∷ rs) ss (inr h) = inr (in-left k rs ss h)

in-right : (k : ℕ) (rs ss : List Row) → IsInOne k ss → IsInOne k (rs ++ ss)
in-right k [] ss h = h
in-right k (r ∷ rs) ss h = inr (in-right k rs ss h)

in-opened : (k : ℕ) (o : Option Row) → IsInOpen k o → IsInOne k (opened o)
in-opened k None h = absurd h
in-opened k (Some r) h = inl h

-- a row that is extended has the cycles that it had, and those since
in-extended : (k cycle count : ℕ) (o : Option Row) → k ≤ cycle → IsInOpen k o → IsInOpen k (option_map (extended cycle count) o)
in-extended k cycle count None few h = absurd h
in-extended k cycle count (Some r) few h = (h.0, few)

-- ---- a device that is as it was

acted_by : (action : Action) (n new : Device) → IsAfter action n new → ActedOnce n new
acted_by Rest n new e = inl e
acted_by (ReadAt place) n new e = inl e
acted_by (WriteAt place block) n new e = inr (inl (record { at = place; block = block; left = e }))
acted_by Barrier n new e = inr (inr (inl e.device))
acted_by Drain n new e = inr (inr (inr e))

-- a cycle of a run acts on its device once
pub acted_once : {M : Type 0} (K : KindOf M) (plan : Plan) (p next : Progress M) (n new : Device) (done : ℕ) (turns reported : List ℕ) (r : Stepped)
    → IsDoneBy K plan p next n new done turns reported r → ActedOnce n new
acted_once {M = M} K plan p next n new done turns reported r (c, by_step, falls) =
    let acts = c.steps.is_step.acts in
    let same : world_at next new (done + 1) reported ≡ c.between = MatchBool-at_false _ _ falls c.cut in
    subst (ActedOnce n) (ap (λ (w : World M). w.device) (sym same)) (acted_by acts.action n c.between.device acts.left)

since : (a b c : Device) → IsAsBefore a b → IsAsBefore b c → IsAsBefore a c
since a b c one two = two ∙ ap (λ (x : Device). recounted x c) one

still_seen : (queue : List Write) (first : Block) (n new : Device) → IsAsBefore n new → IsSeen queue first n → IsSeen queue first new
still_seen queue first n new same seen =
    subst (λ (x : Device). IsSeen queue first x) (sym same) (record { queued = seen.queued; landed = seen.landed })

-- a device that was looked at, and has not changed, is as it was
looked_stays : (old new : Kept) (n now : Device) → IsLooked old new now → IsKept old n → ActedOnce n now → new.changed ≡ false → IsAsBefore n now
looked_stays old new n now looked kept acted e =
    let seen : IsSeen old.queue.items old.first n = kept (looked.before e) in
    looked.stays e n
    (subst (λ (b : Block). IsSeen new.queue.items b n) (sym looked.first) (subst (λ (q : List Write). IsSeen q old.first n) (sym looked.queue) seen)) acted

looked_kept : (old new : Kept) (n now : Device) → IsLooked old new now → IsKept old n → ActedOnce n now → IsKept new now
looked_kept old new n now looked kept acted e =
    let seen : IsSeen old.queue.items old.first n = kept (looked.before e) in
    still_seen new.queue.items new.first n now (looked_stays old new n now looked kept acted e)
    (subst (λ (b : Block). IsSeen new.queue.items b n) (sym looked.first) (subst (λ (q : List Write). IsSeen q old.first n) (sym looked.queue) seen))

module _ {M : Type 0} (K : KindOf M) (plan : Plan) (fitted : Device) (levels : Bool) (a : Asked) where
  -- A row is one of the run, and began before. Unless it has changed, the device is as it was after the row's first cycle, and
  -- was so after each cycle since.
  pub record IsOpenRow (k : Kept) (done : ℕ) (n : Device) (row : Row) : Type 0 where
    pub is_row : IsRowOf K plan fitted levels a row
    pub early : row.first ≤ done
    pub same : k.changed ≡ false → IsAsBefore is_row.world.device n
    pub through : k.changed ≡ false → StaysThrough K plan fitted is_row.world.device row.first done

  -- each row is one of the run, each cycle that is asked for is in one, and what is kept is of the open row's device
  pub record IsKeeping (done : ℕ) (account : Account) (n : Device) : Type 0 where
    pub closed : List Row
    pub each : AllByRecursion (IsRowOf K plan fitted levels a) closed
    pub sums : account.sums ≡ sums_of closed no_rows
    pub current : IfSome account.current (IsOpenRow account.kept done n)
    pub kept : IsKept account.kept n
    pub differs : account.differs ≡ differs_into account.current (differs_of closed false)
    pub covers : (k : ℕ) → 1 ≤ k → k ≤ done → has a k ≡ true → IsInOpen k account.current ⊎ IsInOne k closed

  pub HasRows-kept : (done : ℕ) (account : Account) (n : Device) → IsKeeping done account n → HasRows K plan fitted levels a done account
  HasRows-kept done account n h = record {
    closed = h.closed;
    each = h.each;
    sums = h.sums;
    current = some-weaker (IsOpenRow account.kept done n) (IsRowOf K plan fitted levels a) account.current (λ r x. x.is_row) h.current;
    differs = h.differs;
    covers = h.covers;
  }

  -- one cycle more
  through-on : (n : Device) (first done : ℕ) (w : World M) → StaysThrough K plan fitted n first done → Ran K (origin_of plan) (given_of plan fitted) (done + 1) w
      → IsAsBefore n w.device → StaysThrough K plan fitted n first (done + 1)
  through-on n first done w so_far ran same k late few =
      elim (cases_lt k (done + 1)) as (λ _. (x : World M) × Ran K (origin_of plan) (given_of plan fitted) k x × IsAsBefore n x.device) [
        | inl before ↦ so_far k late (omega (arith, before))
        | inr after ↦
            (let e : done + 1 ≡ k = omega (arith, few, after) in
            (w, subst (λ (i : ℕ). Ran K (origin_of plan) (given_of plan fitted) i w) e ran, same))
      ]

  -- a row with one cycle more says the same of its first cycle
  row-extended : (cycle count : ℕ) (row : Row) → (h : IsRowOf K plan fitted levels a row) → StaysThrough K plan fitted h.world.device row.first cycle
      → IsRowOf K plan fitted levels a (extended cycle count row)
  row-extended cycle count row h through = record {
    world = h.world;
    ran = h.ran;
    memory = h.memory;
    lies = h.lies;
    says = record {
      queued = h.says.queued;
      images = h.says.images;
      before = record h.says.before { last = cycle };
      empty = h.says.empty;
      untried = h.says.untried;
      tried = asked-extended K plan (lying levels h.memory h.world.device) h.world.mix a h.says.before row cycle count h.says.tried;
    };
    stays = through;
  }

  module _ (k next : Kept) (n : Device) (w : World M) (done : ℕ) (ran : Ran K (origin_of plan) (given_of plan fitted) (done + 1) w)
      (looked : IsLooked k next w.device) (kept : IsKept k n) (acted : ActedOnce n w.device) where
    -- the open row's device is as it was, also after this cycle
    same-on : (row : Row) (o : IsOpenRow k done n row) → next.changed ≡ false → IsAsBefore o.is_row.world.device w.device
    same-on row o e =
        since o.is_row.world.device n w.device (o.same (looked.before e)) (looked_stays k next n w.device looked kept acted e)

    through-next : (row : Row) (o : IsOpenRow k done n row) → next.changed ≡ false
        → StaysThrough K plan fitted o.is_row.world.device row.first (done + 1)
    through-next row o e = through-on o.is_row.world.device row.first done w (o.through (looked.before e)) ran (same-on row o e)

    -- the open row is one still after a cycle
    open-stays : (row : Row) → IsOpenRow k done n row → IsOpenRow next (done + 1) w.device row
    open-stays row o = record {
      is_row = o.is_row;
      early = omega (arith, o.early);
      same = λ e. same-on row o e;
      through = λ e. through-next row o e;
    }

    open-extended : (count : ℕ) (o : Option Row) → next.changed ≡ false → IfSome o (IsOpenRow k done n)
        → IfSome (option_map (extended (done + 1) count) o) (IsOpenRow next (done + 1) w.device)
    unfolding row-extended
    open-extended count None e h = tt
    open-extended count (Some row) e h = record {
      is_row = row-extended (done + 1) count row h.is_row (through-next row h e);
      early = omega (arith, h.early);
      same = λ _. same-on row h e;
      through = λ _. through-next row h e;
    }

  -- the cycle is one of the row's
  in-now : (done count : ℕ) (k : Kept) (n : Device) (o : Option Row) → is_some o ≡ true → IfSome o (IsOpenRow k done n)
      → IsInOpen (done + 1) (option_map (extended (done + 1) count) o)
  in-now done count k n None some h = absurd (cc)
  in-now done count k n (Some row) some h = (omega (arith, h.early), omega arith)

  all-opened : (k : Kept) (done : ℕ) (n : Device) (o : Option Row) → IfSome o (IsOpenRow k done n) → AllByRecursion (IsRowOf K plan fitted levels a) (opened o)
  all-opened k done n None h = tt
  all-opened k done n (Some row) h = (h.is_row, tt)

  -- before the first cycle
  pub IsKeeping-none : (account : Account) (n : Device) → account.current ≡ None → account.sums ≡ no_rows → account.kept.changed ≡ true
      → account.differs ≡ false → IsKeeping 0 account n
  IsKeeping-none account n none fresh changed same = record {
    closed = [];
    each = tt;
    sums = fresh;
    current = subst (λ (o : Option Row). IfSome o (IsOpenRow account.kept 0 n)) (sym none) tt;
    kept = λ e. absurd (let both : true ≡ false = sym changed ∙ e in cc);
    differs = same ∙ ap (λ (o : Option Row). differs_into o false) (sym none);
    covers = λ k some few wanted. absurd (omega (arith, some, few));
  }

  -- after one more
  pub IsKeeping-looked : (n memory new : Device) (mix : Mix) (done : ℕ) (w : World M) (old next : Account)
      → Ran K (origin_of plan) (given_of plan fitted) (done + 1) w → w.device ≡ new → w.mix ≡ mix → ActedOnce n new → IsKeeping done old n
      → LooksTo K plan (lying levels memory new) mix a (done + 1) old next → IsKeeping (done + 1) next new
  IsKeeping-looked n memory new mix done w old next ran device mixes acted h (inl keeps) =
      let looked : IsLooked old.kept next.kept w.device = subst (IsLooked old.kept next.kept) (sym device) keeps.looked in
      let once : ActedOnce n w.device = subst (ActedOnce n) (sym device) acted in
      record {
        closed = h.closed;
        each = h.each;
        sums = keeps.sums ∙ h.sums;
        current =
            subst (λ (d : Device). IfSome next.current (IsOpenRow next.kept (done + 1) d)) device
            (elim keeps.stays as (λ _. IfSome next.current (IsOpenRow next.kept (done + 1) w.device)) [
              | inl same ↦
                  subst (λ (o : Option Row). IfSome o (IsOpenRow next.kept (done + 1) w.device)) (sym same.0)
                  (some-weaker (IsOpenRow old.kept done n) (IsOpenRow next.kept (done + 1) w.device) old.current
                  (open-stays old.kept next.kept n w done ran looked h.kept once) h.current)
              | inr x ↦
                  subst (λ (o : Option Row). IfSome o (IsOpenRow next.kept (done + 1) w.device)) (sym x.more)
                  (open-extended old.kept next.kept n w done ran looked h.kept once x.count old.current x.same h.current)
            ]);
        kept = looked_kept old.kept next.kept n new keeps.looked h.kept acted;
        differs =
            keeps.differs ∙ h.differs
            ∙ (elim keeps.stays as (λ _. differs_into old.current (differs_of h.closed false) ≡ differs_into next.current (differs_of h.closed false)) [
              | inl same ↦ ap (λ (o : Option Row). differs_into o (differs_of h.closed false)) (sym same.0)
              | inr x ↦
                  sym (differs-extended (done + 1) x.count old.current (differs_of h.closed false))
                  ∙ ap (λ (o : Option Row). differs_into o (differs_of h.closed false)) (sym x.more)
            ]);
        covers = λ k some few wanted.
            elim keeps.stays as (λ _. IsInOpen k next.current ⊎ IsInOne k h.closed) [
              | inl same ↦
                  elim (cases_lt k (done + 1)) as (λ _. IsInOpen k next.current ⊎ IsInOne k h.closed) [
                    | inl before ↦
                        subst (λ (o : Option Row). IsInOpen k o ⊎ IsInOne k h.closed) (sym same.0) (h.covers k some (omega (arith, before)) wanted)
                    | inr after ↦
                        (let e : k ≡ done + 1 = omega (arith, few, after) in
                        let no : has a k ≡ false = ap (has a) e ∙ same.1 in
                        absurd (cc (no, wanted)))
                  ]
              | inr x ↦
                  subst (λ (o : Option Row). IsInOpen k o ⊎ IsInOne k h.closed) (sym x.more)
                  (elim (cases_lt k (done + 1)) as (λ _. IsInOpen k (option_map (extended (done + 1) x.count) old.current) ⊎ IsInOne k h.closed) [
                    | inl before ↦
                        elim (h.covers k some (omega (arith, before)) wanted)
                        as (λ _. IsInOpen k (option_map (extended (done + 1) x.count) old.current) ⊎ IsInOne k h.closed) [
                          | inl here ↦ inl (in-extended k (done + 1) x.count old.current few here)
                          | inr there ↦ inr there
                        ]
                    | inr after ↦
                        (let e : done + 1 ≡ k = omega (arith, few, after) in
                        inl (subst (λ (i : ℕ). IsInOpen i (option_map (extended (done + 1) x.count) old.current)) e
                        (in-now done x.count old.kept n old.current x.some h.current)))
                  ])
            ];
      }
  IsKeeping-looked n memory new mix done w old next ran device mixes acted h (inr o) =
      let here : Ran K (origin_of plan) (given_of plan fitted) o.row.first w
      = subst (λ (k : ℕ). Ran K (origin_of plan) (given_of plan fitted) k w) (sym o.first) ran in
      let alone : StaysThrough K plan fitted w.device o.row.first (done + 1) = λ k late few.
      (let e : done + 1 ≡ k = omega (arith, late, few, o.first) in
      (w, subst (λ (i : ℕ). Ran K (origin_of plan) (given_of plan fitted) i w) e ran, refl)) in
      record {
        closed = h.closed ++ opened old.current;
        each = all-append (IsRowOf K plan fitted levels a) h.closed (opened old.current) h.each (all-opened old.kept done n old.current h.current);
        sums = o.sums ∙ closes old.current old.sums ∙ ap (sums_of (opened old.current)) h.sums ∙ sym (sums-append h.closed (opened old.current) no_rows);
        current =
            subst (λ (x : Option Row). IfSome x (IsOpenRow next.kept (done + 1) new)) (sym o.opened)
            (record {
              is_row = record {
                world = w;
                ran = here;
                memory = memory;
                lies = subst (LiesOn levels memory) (sym device) o.lies;
                says =
                    subst (λ (d : Device). IsRowAt K plan (lying levels memory d) w.mix a o.row) (sym device)
                    (subst (λ (x : Mix). IsRowAt K plan (lying levels memory new) x a o.row) (sym mixes) o.says);
                stays = subst (λ (k : ℕ). StaysThrough K plan fitted w.device o.row.first k) (sym o.last) alone;
              };
              early = omega (arith, o.first);
              same = λ _. subst (IsAsBefore w.device) device refl;
              through = λ _. alone;
            });
        kept = o.kept;
        differs =
            o.differs ∙ ap (λ b. b || differs_in o.row) (h.differs ∙ differs-closes old.current (differs_of h.closed false) ∙ sym (differs-append h.closed (opened old.current) false))
            ∙ ap (λ (x : Option Row). differs_into x (differs_of (h.closed ++ opened old.current) false)) (sym o.opened);
        covers = λ k some few wanted.
            elim (cases_lt k (done + 1)) as (λ _. IsInOpen k next.current ⊎ IsInOne k (h.closed ++ opened old.current)) [
              | inl before ↦
                  elim (h.covers k some (omega (arith, before)) wanted) as (λ _. IsInOpen k next.current ⊎ IsInOne k (h.closed ++ opened old.current)) [
                    | inl in_open ↦ inr (in-right k h.closed (opened old.current) (in-opened k old.current in_open))
                    | inr in_one ↦ inr (in-left k h.closed (opened old.current) in_one)
                  ]
              | inr after ↦
                  inl (subst (λ (x : Option Row). IsInOpen k x) (sym o.opened) (omega (arith, o.first, after), omega (arith, o.last, few)))
            ];
      }
