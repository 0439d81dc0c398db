-- Engine and controller belong together after every item, which takes one of the cycles that are left.
use Rattle.std.proofs.Common.{◌≡◌, ℕ, ◌+◌, ◌<◌, ◌≤◌, Bool, true, false, if◌then◌else◌, Option, Some, None, refl, sym, ◌∙◌, ap, subst, arith}
use Rattle.thy_layout.specs.AreLayouts.{AreLayouts}
use Rattle.thy_layout.specs.Commit.{commit_of}
use Rattle.thy_checkpoint.specs.declared.engine_stage.EngineStage.{EngineStage}
use Rattle.thy_checkpoint.specs.declared.engine_stage.EngineStage.TheVariants.{Idle, Body, InRound, Tail}
use Rattle.thy_computer.specs.declared.round.Round.{Round}
use Rattle.thy_computer.specs.declared.round.Round.TheVariants.{Write, Settle, Commit, Confirm}
use Rattle.thy_computer.specs.Round.{IsInRound, round_left}
use Rattle.thy_computer.proofs.RoundLemmas.{next_by, round_most}
use Rattle.thy_block.specs.declared.parameters.Parameters.{Parameters}
use Rattle.thy_checkpoint.specs.Filling.{FillingOf, IsFilling}
use Rattle.thy_checkpoint.proofs.LoadLemmas.{slot_inside as all_inside}
use Rattle.thy_checkpoint.specs.Cycles.{after_commit_left, left_at, most_cycles, CyclesAreFew, ItemsCount, ItemsFit}
use Rattle.thy_checkpoint.specs.Items.{ItemsOf, AreItems, Resting, Making, Made, Applying}
use Rattle.thy_checkpoint.specs.Progress.{Progress, phase_of, layout_of, slot_blocks, slot_place, Fits, Item, RoundItem, body_or_slot, tail_or_release, item, next_after, control_after, is_under_way}

-- engine and controller belong together at a stage outside the round
fits_at : {C : Type 0} (F : FillingOf C) (I : ItemsOf C) (e : Progress) (q : EngineStage) (d : C)
    → F.p d ≡ e.p → ((r : Round) → q ≡ InRound r → IsInRound (slot_blocks F e) r) → I.stands (phase_of q) d
    → Fits F I (record e { stage = q }) d
fits_at F I e q d same inside stands = record { same_p = same; inside = inside; stands = stands }

module _ {C : Type 0} (F : FillingOf C) (I : ItemsOf C) (a : AreItems F I) (e : Progress) (c : C) (same : F.p c ≡ e.p) where
  abbrev FitsAfter : Item → Type 0
  FitsAfter i = Fits F I (record e { stage = next_after F I e i }) (control_after I i c)

  -- engine and controller belong together in the round
  fits_in : (r : Round) → IsInRound (slot_blocks F e) r → I.stands Made c → Fits F I (record e { stage = InRound r }) c
  fits_in r inside made =
      fits_at F I e (InRound r) c same (λ j at. let is : r ≡ j = cc in subst (λ (x : Round). IsInRound (slot_blocks F e) x) is inside) made

  after_commit : (tail : Bool) → F.p (I.committed c) ≡ F.p c → I.stands (if tail then Applying 0 else Resting) (I.committed c)
      → Fits F I (record e { stage = if tail then Tail 0 else Idle }) (I.committed c)
  after_commit true to stands = fits_at F I e (Tail 0) (I.committed c) (to ∙ same) (λ j at. cc) stands
  after_commit false to stands = fits_at F I e Idle (I.committed c) (to ∙ same) (λ j at. cc) stands

  fits_round : (r : Round) → I.stands Made c → FitsAfter (RoundItem r)
  fits_round (Write k) made =
      next_by (λ (q : Round). Fits F I (record e { stage = InRound q }) c) k (slot_blocks F e) (λ more. fits_in (Write (k + 1)) more made)
      (λ last. fits_in Settle tt made)
  fits_round Settle made = fits_in Commit tt made
  fits_round Commit made = fits_in Confirm tt made
  fits_round Confirm made = let to = a.commits c made in after_commit I.has_tail to.same_p to.stands

  fits_body : (from : ℕ) (o : Option ℕ) → I.body_next c from ≡ o → I.stands (Making from) c → FitsAfter (body_or_slot o)
  fits_body from None next stands = fits_round (Write 0) (a.body_ends c from stands next)
  fits_body from (Some k) next stands =
      let on = a.body_onwards c from k stands next in
      let to = a.body c k on.1 on.0 in
      fits_at F I e (Body (k + 1)) (I.body_after c k) (to.same_p ∙ same) (λ j at. cc) to.stands

  fits_tail : (from : ℕ) (o : Option ℕ) → I.tail_next c from ≡ o → I.stands (Applying from) c → FitsAfter (tail_or_release o)
  fits_tail from None next stands =
      let to = a.releases c from stands next in fits_at F I e Idle (I.released c) (to.same_p ∙ same) (λ j at. cc) to.stands
  fits_tail from (Some k) next stands =
      let on = a.tail_onwards c from k stands next in
      let to = a.tail c k on.2 on.1 in
      fits_at F I e (Tail (k + 1)) (I.tail_after c k) (to.same_p ∙ same) (λ j at. cc) to.stands

  fits_after : (q : EngineStage) → I.stands (phase_of q) c → FitsAfter (item I q c)
  fits_after Idle stands = fits_at F I e Idle c same (λ j at. cc) stands
  fits_after (Body from) stands = fits_body from (I.body_next c from) refl stands
  fits_after (InRound r) stands = fits_round r stands
  fits_after (Tail from) stands = fits_tail from (I.tail_next c from) refl stands

  -- ---- cycles

  abbrev left : Item → ℕ
  left i = left_at F I e (next_after F I e i) (control_after I i c)

  counts_commit : (tail : Bool)
      → left_at F I e (if tail then Tail 0 else Idle) (I.committed c) + 1 ≤ 1 + (if tail then I.tail_left e.p 0 + 1 else 0)
  counts_commit true = omega arith
  counts_commit false = omega arith

  counts_round : (r : Round) → IsInRound (slot_blocks F e) r
      → left (RoundItem r) + 1 ≤ round_left (slot_blocks F e) r + after_commit_left I e.p
  counts_round (Write k) inside =
      next_by (λ (q : Round). round_left (slot_blocks F e) q + after_commit_left I e.p + 1
      ≤ round_left (slot_blocks F e) (Write k) + after_commit_left I e.p) k (slot_blocks F e)
      (λ more. omega (arith, inside)) (λ last. omega (arith, inside))
  counts_round Settle inside = omega arith
  counts_round Commit inside = omega arith
  counts_round Confirm inside = counts_commit I.has_tail

  counts_body : (from : ℕ) (o : Option ℕ) → 0 < slot_blocks F e → I.body_next c from ≡ o → I.stands (Making from) c
      → left (body_or_slot o) + 1 ≤ I.body_left c from + (round_left (slot_blocks F e) (Write 0) + after_commit_left I e.p)
  counts_body from None some next stands = let first = counts_round (Write 0) some in omega (arith, first)
  counts_body from (Some k) some next stands = let one = a.body_counts c from k stands next in omega (arith, one)

  counts_tail : (from : ℕ) (o : Option ℕ) → I.tail_next c from ≡ o → I.stands (Applying from) c
      → left (tail_or_release o) + 1 ≤ I.tail_left e.p from + 1
  counts_tail from None next stands = omega arith
  counts_tail from (Some k) next stands =
      let one = subst (λ p. I.tail_left p (k + 1) + 1 ≤ I.tail_left p from) same (a.tail_counts c from k stands next) in omega (arith, one)

  counts : (q : EngineStage) → ((r : Round) → q ≡ InRound r → IsInRound (slot_blocks F e) r) → 0 < slot_blocks F e → I.stands (phase_of q) c
      → is_under_way q ≡ true
      → left (item I q c) + 1 ≤ left_at F I e q c
  counts Idle inside some stands way = cc
  counts (Body from) inside some stands way = counts_body from (I.body_next c from) some refl stands
  counts (InRound r) inside some stands way = counts_round r (inside r refl)
  counts (Tail from) inside some stands way = counts_tail from (I.tail_next c from) refl stands

module _ {C : Type 0} (F : FillingOf C) where
  -- a block of the slot is within the image
  pub slot_inside : IsFilling F → (e : Progress) (k : ℕ) → k < slot_blocks F e → slot_place F e k < (layout_of F e).image_blocks
  slot_inside laws e k below = let whole = all_inside F laws e.p (commit_of e.epoch) in omega (arith, whole, below)

  pub items_fit : (I : ItemsOf C) → AreItems F I → ItemsFit F I
  items_fit I a e c fits = fits_after F I a e c fits.same_p e.stage fits.stands

  -- after an item, the engine fits the controller, with this stage and this controller
  pub fits_then : (I : ItemsOf C) → AreItems F I → (e : Progress) (c d : C) (f : Progress) (stage : EngineStage) → Fits F I e c
      → stage ≡ next_after F I e (item I e.stage c) → d ≡ control_after I (item I e.stage c) c → f ≡ record e { stage = stage }
      → Fits F I f d
  fits_then I a e c d f stage fits goes control is =
      subst (λ (x : Progress). Fits F I x d) (sym is)
      (subst (λ (q : EngineStage). Fits F I (record e { stage = q }) d) (sym goes)
      (subst (λ (x : C). Fits F I (record e { stage = next_after F I e (item I e.stage c) }) x) (sym control) (items_fit I a e c fits)))

  -- a slot has the processor's record, so it has a block
  some_slot : AreLayouts F.layouts → (e : Progress) → 0 < slot_blocks F e
  some_slot laid e = let whole = (laid.slot e.p (commit_of e.epoch)).record_inside in omega (arith, whole)

  pub items_count : (I : ItemsOf C) → AreLayouts F.layouts → AreItems F I → ItemsCount F I
  items_count I laid a e c fits way = counts F I a e c fits.same_p e.stage fits.inside (some_slot laid e) fits.stands way

-- ---- a checkpoint takes few

-- after the commit of a scheme whose tail is written there is that, and a barrier
after_tail : {C : Type 0} (I : ItemsOf C) (p : Parameters) → I.has_tail ≡ true → after_commit_left I p ≡ I.tail_left p 0 + 1
after_tail I p follows = ap (λ (t : Bool). if t then I.tail_left p 0 + 1 else 0) follows

module _ {C : Type 0} (F : FillingOf C) (I : ItemsOf C) (laid : AreLayouts F.layouts) (a : AreItems F I) (e : Progress) (c : C)
    (same : F.p c ≡ e.p) where
  few : (q : EngineStage) → I.stands (phase_of q) c → left_at F I e q c ≤ most_cycles F I e.p
  few Idle stands = omega arith
  few (Body from) stands =
      let body = subst (λ p. I.body_left c from ≤ I.most_body p) same (a.body_most c from stands) in
      let slot = (laid.slot e.p (commit_of e.epoch)).most in
      omega (arith, body, slot)
  few (InRound r) stands = let slot = (laid.slot e.p (commit_of e.epoch)).most in omega (arith, slot, round_most (slot_blocks F e) r)
  few (Tail from) stands =
      let tail = a.tail_most e.p from in
      let follows = after_tail I e.p (a.tail_follows c from stands) in
      omega (arith, tail, follows)

pub cycles_are_few : {C : Type 0} (F : FillingOf C) (I : ItemsOf C) → AreLayouts F.layouts → AreItems F I → CyclesAreFew F I
cycles_are_few F I laid a e c fits = few F I laid a e c fits.same_p e.stage fits.stands
