-- Steps of a hart in a row are cycles of a calm machine, whatever the picks are.
use Rattle.std.proofs.Common.{◌≡◌, ℕ, zero, suc, ◌+◌, ◌==◌, Bool, true, false, if◌then◌else◌, List, [], ◌∷◌, ◌++◌, length, replicate, Option, Some, None, Result, Ok, refl, sym, ◌∙◌, ap, subst, inl, arith}
use Rattle.std.specs.Prelude.{unwrap_or}
use Rattle.std.specs.Option.{option_map}
use Rattle.thy_isa.specs.declared.state.CpuState.{CpuState}
use Rattle.thy_isa.specs.Step.{exchanged, cpu_crossed}
use Rattle.thy_block.specs.declared.parameters.Parameters.{Parameters}
use Rattle.thy_block.specs.declared.mix.Pick.{Pick}
use Rattle.thy_block.specs.declared.nvm.NvmError.{NvmError}
use Rattle.thy_block.specs.Device.{Device}
use Rattle.thy_block.specs.Store.{Holding}
use Rattle.thy_cache.specs.Contents.{Contents}
use Rattle.thy_hart.specs.declared.hand.Hand.TheVariants.{Nothing}
use Rattle.thy_hart.specs.declared.hand.HartStep.{HartStep}
use Rattle.thy_hart.specs.declared.hand.HartStep.TheVariants.{Moved}
use Rattle.thy_hart.specs.HartState.{HartState, next_block}
use Rattle.thy_hart.specs.Moments.{moment, brings_line}
use Rattle.thy_hart.specs.OneStep.{IsStep}
use Rattle.thy_hart.specs.Outcomes.{Given, given}
use Rattle.thy_hart.specs.Rows.{moved_then, Takes}
use Rattle.thy_layout.specs.declared.start.Start.{Start}
use Rattle.thy_computer.specs.declared.did.Advance.{Advance}
use Rattle.thy_computer.specs.declared.did.Advance.TheVariants as hart
use Rattle.thy_computer.specs.declared.did.Did.{Did}
use Rattle.thy_computer.specs.Advances.{did_of, stepped_of, SimulatesRow}
use Rattle.thy_computer.specs.Kind.{Simulates}
use Rattle.thy_computer.specs.Origin.{Origin}
use Rattle.thy_computer.specs.NextActor.{Advances, begins}
use Rattle.thy_scheme.specs.Laws.{IsLawful}
use Rattle.thy_scheme.specs.Scheme.{SchemeOf}
use Rattle.thy_scheme.specs.SchemeStore.{held_by_scheme}
use Rattle.thy_scheme.specs.MachineCalls.{cpu_begun, IsBelow, HartCall, below_by, below_after, retires_by, begun_by_hart, after_hart}
use Rattle.thy_scheme.specs.Kind.{kind_over}
use Rattle.thy_scheme.specs.Machine.{Machine, moment_of}
use Rattle.thy_scheme.proofs.BegunLaws.{ended-hand, cpu-fronted-twice}
use Rattle.thy_core.specs.Calm.{is_calm}
use Rattle.thy_core.specs.Cycles.{HasStart, HasTaken, HasReported, reported}
use Rattle.thy_core.specs.Row.{advance_by, advances_by, after_row, ends_epoch, ends_last, put_back}
use Rattle.thy_core.specs.Turns.{hart_of}
use Rattle.thy_core.proofs.CalmLaws.{calm_parts, calm_on, calm_over, calm_runs, calm_turn, goes_after, not_halted}
use Rattle.thy_core.proofs.CycleLaws.{framed_same, given_is, hart_cycle}
use Rattle.thy_core.proofs.TakenLaws.{reported_steps}

-- what a step did, as the view names it
did_by_hart : (number : ℕ) (retires : Bool)
    → did_of (if retires then hart.Retired number else hart.Moved) ≡ (if retires then did_of (hart.Retired number) else did_of hart.Moved)
did_by_hart number true = refl
did_by_hart number false = refl

-- a hart whose instruction is begun is the hart of each pick
stays_hart : (one : Bool) (x number : ℕ) → (if one then 0 else x) ≡ number → (if one then 0 else number) ≡ number
stays_hart true x number is = is
stays_hart false x number is = refl

-- what a step did, from what is reported of it
pub advance_is : (number : ℕ) (retires : Bool) (a : Advance)
    → did_of a ≡ (if retires then did_of (hart.Retired number) else did_of hart.Moved)
    → (if retires then hart.Retired number else hart.Moved) ≡ a
advance_is number true (hart.Retired x) is = cc
advance_is number true hart.Moved is = absurd (cc)
advance_is number false (hart.Retired x) is = absurd (cc)
advance_is number false hart.Moved is = refl

-- one more that moved
pub moved-more : (moved : ℕ) → replicate (moved + 1) hart.Moved ≡ replicate moved hart.Moved ++ hart.Moved ∷ []
moved-more moved = ap (λ (k : ℕ). replicate k hart.Moved) e ∙ more moved
  where
    e : moved + 1 ≡ suc moved
    e = omega arith

    more : (k : ℕ) → replicate (suc k) hart.Moved ≡ replicate k hart.Moved ++ hart.Moved ∷ []
    more zero = refl
    more (suc k) = ap (λ (others : List Advance). hart.Moved ∷ others) (more k)

-- a hart that is alone is so when its instruction is begun
fronted-alone : (b : Bool) (c : CpuState) → c.other ≡ None → (if b then c else cpu_crossed c).other ≡ None
fronted-alone true c is = is
fronted-alone false c is = ap (option_map (exchanged c.pc c.regs)) is

pub begun-alone : (number : ℕ) (begun : Option ℕ) (c : CpuState) → c.other ≡ None → (cpu_begun number begun c).other ≡ None
begun-alone number None c is = fronted-alone (number == 0) c is
begun-alone number (Some other) c is = is

-- ---- how the instruction ends

-- nothing is in hand once it has ended
pub row_hand : (g : Given) (held : Holding) (moved : ℕ) (last : Option HartStep) (h k : HartState) (c d : Contents) → ends_last last ≡ true
    → Takes g held h c (moved_then moved last) k d → k.hand ≡ Nothing
row_hand g held zero None h k c d ends all = absurd (cc)
row_hand g held zero (Some s) h k c d ends (l, e, there, step, (same, used)) = ap (λ (x : HartState). x.hand) same ∙ ended-hand s step ends
row_hand g held (suc moved) None h k c d ends all = absurd (cc)
row_hand g held (suc moved) (Some s) h k c d ends (l, e, there, step, others) = row_hand g held moved (Some s) l k e d ends others

-- ---- how long the epoch goes on

over_row : (g : Given) (held : Holding) (moved : ℕ) (last : Option HartStep) (h k : HartState) (c d : Contents) → g.under_way ≡ false
    → h.epoch.over ≡ None
    → ends_epoch last ≡ false → Takes g held h c (moved_then moved last) k d → k.epoch.over ≡ None
over_row g held zero None h k c d idle none goes (same, used) = ap (λ (x : HartState). x.epoch.over) same ∙ none
over_row g held zero (Some s) h k c d idle none goes (l, e, there, step, (same, used)) =
    ap (λ (x : HartState). x.epoch.over) same ∙ goes_after g (moment h c held) (moment l e held) s step goes idle none
over_row g held (suc moved) None h k c d idle none goes (l, e, there, step, others) =
    over_row g held moved None l k e d idle (goes_after g (moment h c held) (moment l e held) Moved step refl idle none) goes others
over_row g held (suc moved) (Some s) h k c d idle none goes (l, e, there, step, others) =
    over_row g held moved (Some s) l k e d idle (goes_after g (moment h c held) (moment l e held) Moved step refl idle none) goes others

-- ---- the cycles

module _ {S : Type 0} (K : SchemeOf S) (l : IsLawful K) (start : Start) (n : Device) (number : ℕ) (input : List ℕ)
    (from : (o : Origin) → HasStart start o → o.input ≡ input)
    (empty : length n.queue ≡ 0) where
  -- what the hart is handed
  abbrev hands : Machine S → Given
  hands m = given input (K.free m.scheme) false

  abbrev held : Machine S → Holding
  held m = held_by_scheme K m.scheme n

  -- the machine as the step finds it
  abbrev found : Machine S → Machine S
  found m = begun_by_hart number m

  -- a step that brings no line leaves another cache below the hart, and nothing else
  one_below : (m : Machine S) (h : HartState) (c : Contents) (s : HartStep) → brings_line (moment_of K (found m) n) ≡ false
      → IsStep (hands m) (moment_of K (found m) n) (moment h c (held m)) s → IsBelow (below_after K (found m) n) n c m.scheme n
  one_below m h c s there step =
      subst (λ (brings : Bool). IsBelow (below_by K brings (next_block (found m).hart) (found m) n) n c m.scheme n) (sym there)
      (record { cache_is = step.used there; scheme_is = refl; nvm_is = refl })

  one_call : (m : Machine S) (h : HartState) (c : Contents) (s : HartStep) (other : List ℕ) → is_calm K m ≡ true → other ≡ input
      → brings_line (moment_of K (found m) n) ≡ false → IsStep (hands m) (moment_of K (found m) n) (moment h c (held m)) s
      → HartCall K (given other (K.free m.scheme) (K.under_way m.scheme)) (found m) n h c m.scheme n s
  one_call m h c s other calm i there step =
      let same = given_is input other (K.free m.scheme) (K.free m.scheme) false (K.under_way m.scheme) i refl (sym (calm_parts K m calm).idle) in
      let is_step = subst (λ (g : Given). IsStep g (moment_of K (found m) n) (moment h c (held m)) s) same step in
      record {
        is_step = is_step;
        asked = inl (refl, refl);
        stays = l.stays_same m.scheme n;
        untouched = λ none. (refl, refl);
        tidy = is_step.tidy;
        rests = λ clean. refl;
        below = one_below m h c s there step;
      }

  one_cycle : (pick : Pick) (m : Machine S) (h : HartState) (c : Contents) (s : HartStep) → is_calm K m ≡ true → hart_of K pick m ≡ number
      → brings_line (moment_of K (found m) n) ≡ false → IsStep (hands m) (moment_of K (found m) n) (moment h c (held m)) s
      → Simulates (kind_over K) start pick m (after_hart number s h c m.scheme m) n n (Ok (stepped_of (advance_by number s)))
  one_cycle pick m h c s calm mine there step =
      let a : Advance = advance_by number s in
      let next : Machine S = after_hart number s h c m.scheme m in
      let done : Result Did NvmError = Ok (did_of a) in
      let taken : HasTaken K (HasStart start) (Advances number) m n next n done = record {
        simulates = λ o cycles starts at turn.
            hart_cycle K o cycles m n at number h c m.scheme n s next (did_of a) turn
            (one_call m h c s o.input calm (from o starts) there step) refl (did_by_hart number (retires_by s));
        fails = λ o cycles starts at turn. tt;
        frame = framed_same n;
        cause = refl;
      } in
      let says : HasReported K (HasStart start) (Advances number) m n next n (Ok (stepped_of a)) = record {
        cycle = done;
        behind = next;
        taken = taken;
        next_is = refl;
        result_is = ap (λ ended. reported None ended done) (not_halted m.phase next.phase (calm_runs K m calm) refl);
      } in
      let turn = sym (calm_turn K m calm pick (length n.queue) empty ∙ ap Advances mine) in
      reported_steps K l start pick (length n.queue) (Advances number) m next n n (Ok (stepped_of a)) refl turn says

  -- a machine after the steps, by what it has counted
  abbrev counted : Option HartStep → HartState → Contents → Machine S → ℕ → ℕ → Machine S
  counted None h c m spent lap = record m { hart = h; cache = c; spent = spent; lap = lap; begun = Some number }
  counted (Some s) h c m spent lap = after_hart number s h c m.scheme (record m { spent = spent; lap = lap })

  pub counted-row : (moved : ℕ) (last : Option HartStep) (h : HartState) (c : Contents) (m : Machine S)
      → after_row number moved last (record m { hart = h; cache = c }) ≡ counted last h c m (m.spent + moved) m.lap
  counted-row moved None h c m = refl
  counted-row moved (Some s) h c m = refl

  -- while the instruction goes on, the machine stays calm, and each pick is the same hart's
  calm_moved : (m : Machine S) (h : HartState) (c : Contents) → is_calm K m ≡ true
      → IsStep (hands m) (moment_of K (found m) n) (moment h c (held m)) Moved
      → is_calm K (after_hart number Moved h c m.scheme m) ≡ true
  calm_moved m h c calm step =
      calm_on K m (after_hart number Moved h c m.scheme m) (calm_parts K m calm) refl refl
      (goes_after (hands m) (moment_of K (found m) n) (moment h c (held m)) Moved step refl refl (calm_over K m calm))

  mine_moved : (pick later : Pick) (m : Machine S) (h : HartState) (c : Contents) → hart_of K pick m ≡ number → h.geometry ≡ m.hart.geometry
      → hart_of K later (after_hart number Moved h c m.scheme m) ≡ number
  mine_moved pick later m h c mine fixed =
      ap (λ (p : Parameters). if p.harts == 1 then 0 else number) fixed
      ∙ stays_hart (m.hart.geometry.harts == 1) (unwrap_or m.begun (begins pick m.last)) number mine

  pub row_from : (moved : ℕ) (last : Option HartStep) (pick : Pick) (m next : Machine S) (h : HartState) (c : Contents) → is_calm K m ≡ true
      → hart_of K pick m ≡ number
      → (moved ≡ 0 → last ≡ None → found m ≡ m) → Takes (hands m) (held m) (found m).hart m.cache (moved_then moved last) h c
      → next ≡ counted last h c (found m) (m.spent + moved) m.lap
      → SimulatesRow (kind_over K) start pick (advances_by number moved last) m next n
  row_from zero None pick m next h c calm mine here (same, used) is =
      let e : m.spent + zero ≡ m.spent = omega arith in
      is ∙ ap (λ (x : HartState). counted None x c (found m) (m.spent + zero) m.lap) same
      ∙ ap (λ (x : Contents). counted None (found m).hart x (found m) (m.spent + zero) m.lap) used
      ∙ ap (λ (x : ℕ). counted None (found m).hart m.cache (found m) x m.lap) e ∙ here refl refl
  row_from zero (Some s) pick m next h c calm mine here (k, d, there, step, (same, used)) is = (
    after_hart number s k d m.scheme m,
    one_cycle pick m k d s calm mine there step,
    λ later.
        let e : m.spent + zero ≡ m.spent = omega arith in
        is ∙ ap (λ (x : ℕ). after_hart number s h c m.scheme (record m { spent = x })) e
        ∙ ap (λ (x : HartState). after_hart number s x c m.scheme m) same
        ∙ ap (λ (x : Contents). after_hart number s k x m.scheme m) used,
  )
  row_from (suc moved) None pick m next h c calm mine here (k, d, there, step, others) is =
      let between : Machine S = after_hart number Moved k d m.scheme m in
      let e : m.spent + suc moved ≡ (m.spent + 1) + moved = omega arith in
      let f : m.lap ≡ m.lap + 0 = omega arith in (
        between,
        one_cycle pick m k d Moved calm mine there step,
        λ later.
            row_from moved None later between next h c (calm_moved m k d calm step) (mine_moved pick later m k d mine step.fixed)
            (λ first none. refl) others
            (is ∙ ap (λ (x : ℕ). counted None h c (found m) x m.lap) e ∙ ap (λ (x : ℕ). counted None h c (found m) ((m.spent + 1) + moved) x) f),
      )
  row_from (suc moved) (Some s) pick m next h c calm mine here (k, d, there, step, others) is =
      let between : Machine S = after_hart number Moved k d m.scheme m in
      let e : m.spent + suc moved ≡ (m.spent + 1) + moved = omega arith in
      let f : m.lap ≡ m.lap + 0 = omega arith in (
        between,
        one_cycle pick m k d Moved calm mine there step,
        λ later.
            row_from moved (Some s) later between next h c (calm_moved m k d calm step) (mine_moved pick later m k d mine step.fixed)
            (λ first none. refl) others
            (is ∙ ap (λ (x : ℕ). counted (Some s) h c (found m) x m.lap) e
            ∙ ap (λ (x : ℕ). counted (Some s) h c (found m) ((m.spent + 1) + moved) x) f),
      )

  -- a machine after a row that did not end the epoch is calm
  pub row_calm : (moved spent lap : ℕ) (last : Option HartStep) (m next : Machine S) (h : HartState) (c : Contents) → is_calm K m ≡ true
      → ends_epoch last ≡ false
      → Takes (hands m) (held m) (found m).hart m.cache (moved_then moved last) h c → next ≡ counted last h c (found m) spent lap
      → is_calm K next ≡ true
  row_calm moved spent lap None m next h c calm goes all is =
      ap (is_calm K) is
      ∙ calm_on K m (counted None h c (found m) spent lap) (calm_parts K m calm) refl refl
      (over_row (hands m) (held m) moved None (found m).hart h m.cache c refl (calm_over K m calm) goes all)
  row_calm moved spent lap (Some s) m next h c calm goes all is =
      ap (is_calm K) is
      ∙ calm_on K m (counted (Some s) h c (found m) spent lap) (calm_parts K m calm) refl refl
      (over_row (hands m) (held m) moved (Some s) (found m).hart h m.cache c refl (calm_over K m calm) goes all)

  -- no step of a row fails
  pub row_failed : (last : Option HartStep) (h : HartState) (c : Contents) (m : Machine S) (spent lap : ℕ)
      → (counted last h c m spent lap).failed ≡ m.failed
  row_failed None h c m spent lap = refl
  row_failed (Some s) h c m spent lap = refl

-- ---- no step was taken

-- the machine is as before its instruction was begun
pub put-back : {S : Type 0} (number : ℕ) (m : Machine S) (begun : Option ℕ) → m.begun ≡ begun → ((b : ℕ) → begun ≡ Some b → b ≡ number)
    → put_back number begun (begun_by_hart number m) ≡ m
put-back {S = S} number m None is own =
    ap (λ (b : Option ℕ). put_back number None (begun_by_hart number (record m { begun = b }))) is
    ∙ ap (λ c. record m { hart = record m.hart { cpu = c }; begun = None }) (cpu-fronted-twice number m.hart.cpu)
    ∙ ap (λ (b : Option ℕ). record m { begun = b }) (sym is)
put-back {S = S} number m (Some b) is own =
    ap (λ (x : Option ℕ). begun_by_hart number (record m { begun = x })) is
    ∙ ap (λ (x : ℕ). record m { begun = Some x }) (sym (own b refl))
    ∙ ap (λ (x : Option ℕ). record m { begun = x }) (sym is)
