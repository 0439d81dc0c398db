-- Two runs of the same rules are one.
use Rattle.std.proofs.Common.{◌≡◌, ℕ, zero, suc, ◌+◌, ◌-◌, ◌<◌, ◌==◌, ◌&&◌, ◌||◌, not, is_some, Bool, true, false, if◌then◌else◌, List, [], ◌∷◌, ◌++◌, length, Option, Some, None, MatchBool, slice_index_or, length-append, refl, sym, ◌∙◌, ap, ap₂, subst, inl, arith}
use Rattle.std.proofs.lemmas.Bool.{true≢false}
use Rattle.std.proofs.lemmas.List.{get_or_append_left, get_or_at}
use Rattle.thy_block.specs.declared.block.Block.{Block}
use Rattle.thy_block.specs.declared.mark.Mark.{Mark}
use Rattle.thy_block.specs.declared.mix.Mix.{Mix}
use Rattle.thy_block.specs.declared.mix.Pick.{Pick}
use Rattle.thy_block.specs.declared.mix.Pick.TheVariants.{Hart, Second, Engine as EnginePick, NvmDrain, DramDrain}
use Rattle.thy_base.specs.Config.{IsRising}
use Rattle.thy_block.specs.Device.{Device, Wear, CutsWear, cut_to, says}
use Rattle.thy_block.specs.Mix.{mix_pick}
use Rattle.thy_block.proofs.RangeLemmas.{epoch_least}
use Rattle.thy_text.specs.Event.{Event}
use Rattle.thy_text.specs.Marks.{Marks}
use Rattle.thy_computer.specs.declared.did.Did.{Did}
use Rattle.thy_computer.specs.declared.did.Stall.{Stall}
use Rattle.thy_computer.specs.declared.did.Stall.TheVariants.{Sealing, Waiting}
use Rattle.thy_computer.specs.declared.did.Stepped.{Stepped}
use Rattle.thy_computer.specs.declared.view.Phase.{Phase}
use Rattle.thy_computer.specs.declared.view.Phase.TheVariants.{Boot, Run, Halt}
use Rattle.thy_computer.specs.declared.view.View.{View}
use Rattle.thy_computer.specs.Kind.{KindOf, IsLawful}
use Rattle.thy_computer.specs.Origin.{Origin, IsOrigin}
use Rattle.thy_computer.specs.Safe.{ceiling}
use Rattle.thy_computer.specs.WithTurns.{with_turns, AgreeBelow, reach, reach_in}
use Rattle.thy_computer.specs.NextActor.{Actor, Checkpoint, Nvm, Dram, Pressure, has_stopped, stall_in, advancing, hart_at, hart_actor, engine_actor, actor_of, stall_at}
use Rattle.thy_computer.specs.Views.{halts}
use Rattle.thy_computer.proofs.ActionLemmas.{says-after, says-cut}
use Rattle.thy_computer.proofs.TurnLaws.{AgreeBelow-less}
use Rattle.thy_run.specs.Alike.{AreLeftAlike, TwoRunsAreOne, TwoRunsShowOne}
use Rattle.thy_run.specs.Laws.{marks_of}
use Rattle.thy_run.specs.Watching.{Taken, taken, taken_in, IsListed}
use Rattle.thy_run.specs.World.{World, line, seen, turns_after, turns_kept, after_step, TakesStep, is_due, cut_off, IsCutOff, tear, Cycle, Given, IsFirst, Ran}
use Rattle.thy_run.proofs.Fitting.{Fits, FitsIn, Follows}
use Rattle.thy_run.proofs.AgreeingTurnsLaws.{runs_agree}
use Rattle.thy_run.proofs.StepFrames.{TakesStep-framed}
use Rattle.thy_run.proofs.WorldLaws.{Good, Good-ran}

-- ---- a turn is the same by all turns that agree so far

module _ (o : Origin) (turns : List ℕ) (v : View) (p : Pressure) where
  stopped_with_turns : (d : Mark) (sealed : Option Mark) → Follows o v d sealed → AgreeBelow o turns v.count
      → has_stopped (with_turns o turns) sealed ≡ has_stopped o sealed
  stopped_with_turns d None follows agree = refl
  stopped_with_turns d (Some m) follows agree =
      ap not (runs_agree o turns m.count (AgreeBelow-less o turns m.count v.count (omega (arith, follows.1)) agree))

  stall_with_turns : (phase : Phase) (m : Marks) → FitsIn o v m phase → AgreeBelow o turns (reach_in phase v)
      → stall_in (with_turns o turns) phase v p ≡ stall_in o phase v p
  stall_with_turns Boot m fits agree = refl
  stall_with_turns Run m fits agree =
      ap
      (λ (b : Bool).
      if p.under_way && (p.barred || is_some v.over || is_some p.short || (b && not p.promotes)) then Some Waiting
      else (if is_some v.over || p.promotes then Some Sealing else None))
      (stopped_with_turns fits.mark v.sealed fits.follows agree)
  stall_with_turns Halt m fits agree = refl

  module _ (same : stall_in (with_turns o turns) v.phase v p ≡ stall_in o v.phase v p) where
    hart_with_turns : (pick : Pick) → hart_actor (with_turns o turns) pick v p ≡ hart_actor o pick v p
    hart_with_turns pick = ap (λ (s : Option Stall). advancing s (hart_at o.geometry.harts pick p)) same

    engine_with_turns : (phase : Phase) → engine_actor (with_turns o turns) EnginePick phase v p ≡ engine_actor o EnginePick phase v p
    engine_with_turns Boot = hart_with_turns EnginePick
    engine_with_turns Run = ap (λ (a : Actor). if p.under_way then Checkpoint else a) (hart_with_turns EnginePick)
    engine_with_turns Halt = hart_with_turns EnginePick

    turn_same : (pick : Pick) (nvm : ℕ) → actor_of (with_turns o turns) pick nvm v p ≡ actor_of o pick nvm v p
    turn_same Hart nvm = hart_with_turns Hart
    turn_same Second nvm = hart_with_turns Second
    turn_same EnginePick nvm = engine_with_turns v.phase
    turn_same NvmDrain nvm = ap (λ (a : Actor). if nvm == 0 then a else Nvm) (hart_with_turns NvmDrain)
    turn_same DramDrain nvm = ap (λ (a : Actor). if p.dram == 0 then a else Dram) (hart_with_turns DramDrain)

  pub actor_with_turns : (m : Marks) (pick : Pick) (nvm : ℕ) → Fits o v m → AgreeBelow o turns (reach v)
      → actor_of (with_turns o turns) pick nvm v p ≡ actor_of o pick nvm v p
  actor_with_turns m pick nvm fits agree = turn_same (stall_with_turns v.phase m fits agree) pick nvm

-- ---- a step

module _ {M : Type 0} (K : KindOf M) (laws : IsLawful K) (o : Origin) (w : World M)
    (fits : Fits (line o w) (seen K o w) (marks_of o w.events)) (said : says w.device.wear ≡ true) where
  abbrev actor_in : World M → Actor
  actor_in x = actor_of (line o x) (mix_pick o.geometry.harts w.mix) (length w.device.queue) (K.view (line o x) w.machine w.device)
      (K.pressure w.machine)

  -- whose turn it is
  actor_is : (x : World M) → TakesStep K o w x → actor_in x ≡ actor_in w
  actor_is x step =
      ap (λ (v : View). actor_of (line o x) (mix_pick o.geometry.harts w.mix) (length w.device.queue) v (K.pressure w.machine)) step.alike
      ∙ actor_with_turns (line o w) x.turns (seen K o w) (K.pressure w.machine) (marks_of o w.events) (mix_pick o.geometry.harts w.mix)
      (length w.device.queue) fits step.agree

  -- what it makes
  makes_in : (x : World M) (step : TakesStep K o w x) → K.makes (line o x) (actor_in w) w.machine w.device step.r.did x.machine x.device
  makes_in x step =
      subst (λ (a : Actor). K.makes (line o x) a w.machine w.device step.r.did x.machine x.device) (actor_is x step) step.is_step.exact

  module _ (x y : World M) (a : TakesStep K o w x) (b : TakesStep K o w y) where
    outcome : (a.r.did ≡ b.r.did) × (x.machine ≡ y.machine) × (x.device ≡ y.device)
    outcome = laws.one_outcome o x.turns y.turns (actor_in w) w.machine x.machine y.machine w.device x.device y.device a.r.did b.r.did
        (makes_in x a) (makes_in y b) (inl said)

    turns_once : x.turns ≡ y.turns
    turns_once = a.turns_are ∙ ap (turns_after o.geometry.harts w.turns) outcome.0 ∙ sym b.turns_are

    pub step_once : x ≡ y
    step_once =
        a.next_is
        ∙ ap₂ (λ (m : M) (n : Device). after_step K o w m n x.turns a.r.did) outcome.1 outcome.2
        ∙ ap₂ (λ (t : List ℕ) (d : Did). after_step K o w y.machine y.device t d) turns_once outcome.0
        ∙ sym b.next_is

    -- what is reported of it
    stall_once : a.r.stall ≡ b.r.stall
    stall_once = a.is_step.turn.1 ∙ ap stall_at (actor_is x a ∙ sym (actor_is y b)) ∙ sym b.is_step.turn.1

    ended_once : a.r.ended ≡ b.r.ended
    ended_once =
        a.is_step.ended
        ∙ ap (λ (v : View). halts v (seen K o x)) (a.alike ∙ sym b.alike)
        ∙ ap (λ (z : World M). halts (K.view (line o y) w.machine w.device) (seen K o z)) step_once
        ∙ sym b.is_step.ended

    pub report_once : a.r ≡ b.r
    report_once =
        ap (λ (d : Did). record a.r { did = d }) outcome.0
        ∙ ap (λ (s : Option Stall). record a.r { did = b.r.did; stall = s }) stall_once
        ∙ ap (λ (e : Bool). record b.r { ended = e }) ended_once

-- ---- a cut

image_at : (n : Device) (left : List (List Block)) (g : List Block) → n.left ≡ left ++ g ∷ [] → slice_index_or n.left (length left) [] ≡ g
image_at n left g is = ap (λ (gs : List (List Block)). slice_index_or gs (length left) []) is ∙ get_or_at left g [] [] (length left) refl

one_more : (n : Device) (left : List (List Block)) (g : List Block) → n.left ≡ left ++ g ∷ [] → length left < length n.left
one_more n left g is = omega (arith, ap length is, length-append left (g ∷ []))

wear_kept : (down : Bool) (old new : Wear) → down ≡ false → CutsWear down old new → new ≡ old
wear_kept false old new up left = left
wear_kept true old new up left = absurd (true≢false up)

module _ {M : Type 0} (K : KindOf M) (laws : IsLawful K) (o : Origin) (pick : ℕ) (w x y : World M) (a : IsCutOff K o pick w x)
    (b : IsCutOff K o pick w y)
    (up : w.device.down ≡ false) (alike : AreLeftAlike x.device.left y.device.left) where
  left_x : x.device.left ≡ w.device.left ++ x.device.image ∷ []
  left_x = ap (λ (n : Device). n.left) a.cut.device

  left_y : y.device.left ≡ w.device.left ++ y.device.image ∷ []
  left_y = ap (λ (n : Device). n.left) b.cut.device

  image_once : x.device.image ≡ y.device.image
  image_once =
      sym (image_at x.device w.device.left x.device.image left_x)
      ∙ alike (length w.device.left) (one_more x.device w.device.left x.device.image left_x) (one_more y.device w.device.left y.device.image left_y)
      ∙ image_at y.device w.device.left y.device.image left_y

  wear_once : x.device.wear ≡ y.device.wear
  wear_once =
      wear_kept w.device.down w.device.wear x.device.wear up a.cut.wear ∙ sym (wear_kept w.device.down w.device.wear y.device.wear up b.cut.wear)

  device_once : x.device ≡ y.device
  device_once = a.cut.device ∙ ap₂ (cut_to w.device pick) image_once wear_once ∙ sym b.cut.device

  turns_kept_once : x.turns ≡ y.turns
  turns_kept_once = a.kept ∙ ap (λ (g : List Block). turns_kept o w.turns (K.decode o.geometry ceiling g)) image_once ∙ sym b.kept

  pub cut_once : x ≡ y
  cut_once =
      a.next_is
      ∙ ap₂ (λ (m : M) (n : Device). cut_off w m n x.turns)
      (laws.powered_once o.geometry x.machine y.machine a.powered b.powered (a.dram ∙ sym b.dram)) device_once
      ∙ ap (cut_off w y.machine y.device) turns_kept_once
      ∙ sym b.next_is

-- ---- a cycle

due_once : {M : Type 0} (K : KindOf M) → IsLawful K → (o : Origin) (pick : ℕ) (w x y : World M) (due : Bool)
    → MatchBool due (IsCutOff K o pick w x) (x ≡ w) → MatchBool due (IsCutOff K o pick w y) (y ≡ w)
    → w.device.down ≡ false → AreLeftAlike x.device.left y.device.left → x ≡ y
due_once K laws o pick w x y true a b up alike = cut_once K laws o pick w x y a b up alike
due_once K laws o pick w x y false a b up alike = a ∙ sym b

-- the images that were left before it are left after it
record Leaves (old new : List (List Block)) : Type 0 where
  longer : (i : ℕ) → i < length old → i < length new
  same : (i : ℕ) → i < length old → slice_index_or new i [] ≡ slice_index_or old i []

leaves_all : (old new : List (List Block)) → new ≡ old → Leaves old new
leaves_all old new is = record {
  longer = λ i l. omega (arith, l, ap length is);
  same = λ i l. ap (λ (gs : List (List Block)). slice_index_or gs i []) is;
}

leaves_more : (old new : List (List Block)) (g : List Block) → new ≡ old ++ g ∷ [] → Leaves old new
leaves_more old new g is = record {
  longer = λ i l. omega (arith, l, ap length is, length-append old (g ∷ []));
  same = λ i l. ap (λ (gs : List (List Block)). slice_index_or gs i []) is ∙ get_or_append_left old (g ∷ []) [] i l;
}

due_leaves : {M : Type 0} (K : KindOf M) (o : Origin) (pick : ℕ) (w x : World M) (due : Bool)
    → MatchBool due (IsCutOff K o pick w x) (x ≡ w) → Leaves w.device.left x.device.left
due_leaves K o pick w x true cut = leaves_more w.device.left x.device.left x.device.image (ap (λ (n : Device). n.left) cut.cut.device)
due_leaves {M = M} K o pick w x false is = leaves_all w.device.left x.device.left (ap (λ (z : World M). z.device.left) is)

cycle_leaves : {M : Type 0} (K : KindOf M) (o : Origin) (cuts tears : List ℕ) (w x : World M) → Cycle K o cuts tears w x
    → Leaves w.device.left x.device.left
cycle_leaves K o cuts tears w x c =
    subst (λ (left : List (List Block)). Leaves left x.device.left) (TakesStep-framed K o w c.between c.steps).left
    (due_leaves K o (tear tears c.between.passed) c.between x (is_due K o cuts c.between) c.cut)

alike_before : (a b x y : List (List Block)) → Leaves a x → Leaves b y → AreLeftAlike x y → AreLeftAlike a b
alike_before a b x y h k alike i l m = sym (h.same i l) ∙ alike i (h.longer i l) (k.longer i m) ∙ k.same i m

module _ {M : Type 0} (K : KindOf M) (laws : IsLawful K) (o : Origin) (cuts tears : List ℕ) (w x y : World M)
    (fits : Fits (line o w) (seen K o w) (marks_of o w.events)) (said : says w.device.wear ≡ true) (a : Cycle K o cuts tears w x)
    (b : Cycle K o cuts tears w y) where
  between_once : a.between ≡ b.between
  between_once = step_once K laws o w fits said a.between b.between a.steps b.steps

  pub cycle_once : AreLeftAlike x.device.left y.device.left → x ≡ y
  cycle_once alike =
      due_once K laws o (tear tears b.between.passed) b.between x y (is_due K o cuts b.between)
      (subst (λ (z : World M). MatchBool (is_due K o cuts z) (IsCutOff K o (tear tears z.passed) z x) (x ≡ z)) between_once a.cut)
      b.cut (laws.up _ _ b.between.machine b.between.device b.steps.is_step.at_next) alike

  pub taken_once : x ≡ y → taken_in K o cuts tears w x a ≡ taken_in K o cuts tears w y b
  taken_once same =
      ap₂ (λ (r : Stepped) (z : World M). taken r (length z.events - length w.events) (is_due K o cuts a.between))
      (report_once K laws o w fits said a.between b.between a.steps b.steps) same
      ∙ ap (λ (z : World M). taken b.steps.r (length y.events - length w.events) (is_due K o cuts z)) between_once

due_says : {M : Type 0} (K : KindOf M) (o : Origin) (pick : ℕ) (w x : World M) (due : Bool)
    → MatchBool due (IsCutOff K o pick w x) (x ≡ w) → says x.device.wear ≡ says w.device.wear
due_says K o pick w x true cut = says-cut w.device.down w.device.wear x.device.wear cut.cut.wear
due_says {M = M} K o pick w x false is = ap (λ (z : World M). says z.device.wear) is

cycle_says : {M : Type 0} (K : KindOf M) (o : Origin) (cuts tears : List ℕ) (w x : World M) → Cycle K o cuts tears w x
    → says x.device.wear ≡ says w.device.wear
cycle_says K o cuts tears w x c =
    due_says K o (tear tears c.between.passed) c.between x (is_due K o cuts c.between) c.cut
    ∙ says-after c.steps.is_step.acts.action w.device c.between.device c.steps.is_step.acts.left

-- ---- runs

abbrev world : {M : Type 0} → M → Device → Mix → ℕ → ℕ → Bool → List Event → List ℕ → World M
world m n mix passed cycles fresh events turns = record {
  machine = m;
  device = n;
  mix = mix;
  passed = passed;
  cycles = cycles;
  fresh = fresh;
  events = events;
  turns = turns;
}

first_once : {M : Type 0} (K : KindOf M) → IsLawful K → (o : Origin) (given : Given) (v w : World M) → IsFirst K o given v
    → IsFirst K o given w → v ≡ w
first_once {M = M} K laws o given v w a b =
    ap₂ (λ (m : M) (n : Device). world m n v.mix v.passed v.cycles v.fresh v.events v.turns)
    (laws.powered_once o.geometry v.machine w.machine a.powered b.powered (a.dram ∙ sym b.dram)) (a.device ∙ sym b.device)
    ∙ ap (λ (mix : Mix). world w.machine w.device mix v.passed v.cycles v.fresh v.events v.turns) (a.mix ∙ sym b.mix)
    ∙ ap₂ (λ (passed cycles : ℕ). world w.machine w.device w.mix passed cycles v.fresh v.events v.turns) (a.passed ∙ sym b.passed)
    (a.cycles ∙ sym b.cycles)
    ∙ ap (λ (fresh : Bool). world w.machine w.device w.mix w.passed w.cycles fresh v.events v.turns) (a.fresh ∙ sym b.fresh)
    ∙ ap₂ (λ (events : List Event) (turns : List ℕ). world w.machine w.device w.mix w.passed w.cycles w.fresh events turns)
    (a.events ∙ sym b.events) (a.unlisted ∙ sym b.unlisted)

module _ {M : Type 0} (K : KindOf M) (laws : IsLawful K) (o : Origin) (given : Given) (origin : IsOrigin o)
    (rising : IsRising 0 given.config.cuts)
    (says_first : says given.fitted.wear ≡ true) where
  fits_ran : (k : ℕ) (w : World M) → Ran K o given k w → Fits (line o w) (seen K o w) (marks_of o w.events)
  fits_ran k w ran =
      let good : Good K o given.config.cuts w = Good-ran K o given k w (epoch_least o.geometry origin.geometry) rising ran in good.stands.fits

  said_ran : (k : ℕ) (w : World M) → Ran K o given k w → says w.device.wear ≡ true
  said_ran zero w first = ap (λ (n : Device). says n.wear) first.device ∙ says_first
  said_ran (suc k) w (x, ran, c) = cycle_says K o given.config.cuts given.config.tears x w c ∙ said_ran k x ran

  pub runs_once : (k : ℕ) (v w : World M) → Ran K o given k v → Ran K o given k w → AreLeftAlike v.device.left w.device.left → v ≡ w
  runs_once zero v w a b alike = first_once K laws o given v w a b
  runs_once (suc k) v w (x, ran, c) (y, other, d) alike =
      let before : x ≡ y = runs_once k x y ran other
      (alike_before x.device.left y.device.left v.device.left w.device.left
      (cycle_leaves K o given.config.cuts given.config.tears x v c) (cycle_leaves K o given.config.cuts given.config.tears y w d) alike) in
      cycle_once K laws o given.config.cuts given.config.tears y v w (fits_ran k y other) (said_ran k y other)
      (subst (λ (z : World M). Cycle K o given.config.cuts given.config.tears z v) before c) d alike

  listed_ran : (k : ℕ) (w : World M) (list : List Taken) → IsListed K o given k w list → Ran K o given k w
  listed_ran zero w list l = l.0
  listed_ran (suc k) w list (x, earlier, c, l, is) = (x, listed_ran k x earlier l, c)

  -- the cycles that were seen, along one world before the last of them
  more_once : (k : ℕ) (x y v w : World M) (earlier others : List Taken) (c : Cycle K o given.config.cuts given.config.tears x v)
      (d : Cycle K o given.config.cuts given.config.tears y w) → x ≡ y → v ≡ w → earlier ≡ others → Ran K o given k y
      → earlier ++ taken_in K o given.config.cuts given.config.tears x v c ∷ []
      ≡ others ++ taken_in K o given.config.cuts given.config.tears y w d ∷ []
  more_once k x y v w earlier others c d before after lists ran =
      ap₂ (λ (ts : List Taken) (t : Taken). ts ++ t ∷ []) lists (taken_at x (sym before) c)
    where
      taken_at : (z : World M) → y ≡ z → (e : Cycle K o given.config.cuts given.config.tears z v)
          → taken_in K o given.config.cuts given.config.tears z v e ≡ taken_in K o given.config.cuts given.config.tears y w d
      taken_at z is =
          subst
          (λ (u : World M). (e : Cycle K o given.config.cuts given.config.tears u v)
          → taken_in K o given.config.cuts given.config.tears u v e ≡ taken_in K o given.config.cuts given.config.tears y w d)
          is (λ e. taken_once K laws o given.config.cuts given.config.tears y v w (fits_ran k y ran) (said_ran k y ran) e d after)

  pub lists_once : (k : ℕ) (v w : World M) (list other : List Taken) → IsListed K o given k v list → IsListed K o given k w other
      → AreLeftAlike v.device.left w.device.left → list ≡ other
  lists_once zero v w list other a b alike = a.1 ∙ sym b.1
  lists_once (suc k) v w list other (x, earlier, c, l, is) (y, others, d, m, same) alike =
      let left : AreLeftAlike x.device.left y.device.left
      = alike_before x.device.left y.device.left v.device.left w.device.left
      (cycle_leaves K o given.config.cuts given.config.tears x v c) (cycle_leaves K o given.config.cuts given.config.tears y w d) alike in
      let ran : Ran K o given k y = listed_ran k y others m in
      let before : x ≡ y = runs_once k x y (listed_ran k x earlier l) ran left in
      let after : v ≡ w = runs_once (suc k) v w (x, listed_ran k x earlier l, c) (y, ran, d) alike in
      is ∙ more_once k x y v w earlier others c d before after (lists_once k x y earlier others l m left) ran ∙ sym same

pub two_runs_are_one : {M : Type 0} (K : KindOf M) → IsLawful K → TwoRunsAreOne K
two_runs_are_one K laws o given k v w origin rising said a b alike = runs_once K laws o given origin rising said k v w a b alike

pub two_runs_show_one : {M : Type 0} (K : KindOf M) → IsLawful K → TwoRunsShowOne K
two_runs_show_one K laws o given k v w list other origin rising said a b alike =
    lists_once K laws o given origin rising said k v w list other a b alike
