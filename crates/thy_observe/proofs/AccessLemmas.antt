-- The accesses of one cycle more.
use Rattle.std.proofs.Common.{◌≡◌, ℕ, suc, ◌+◌, ◌<◌, Bool, false, List, [], ◌∷◌, ◌++◌, length, take, get_or, refl, sym, ◌∙◌, ap, subst, inl, inr, arith}
use Rattle.std.specs.List.{flat_map}
use Rattle.std.proofs.lemmas.List.{flat_map_more, map-append, take_more}
use Rattle.std.proofs.lemmas.List.Sums.{fold-append}
use Rattle.thy_block.specs.Device.{Device}
use Rattle.thy_computer.specs.declared.did.Did.{Did}
use Rattle.thy_computer.specs.declared.did.Stepped.{Stepped}
use Rattle.thy_computer.specs.Kind.{KindOf, IsLawful}
use Rattle.thy_run.specs.declared.ending.Ending.{Ending}
use Rattle.thy_run.specs.declared.plan.Plan.{Plan}
use Rattle.thy_run.specs.declared.progress.Progress.{Progress}
use Rattle.thy_run.specs.declared.singles.SingleCycle.TheVariants.{Goes}
use Rattle.thy_run.specs.Going.{IsPlanned, given_of, origin_of, world_at}
use Rattle.thy_run.specs.Rounds.{IsFitted, IsStarted, RunEnds, Running}
use Rattle.thy_run.specs.Sending.{sinks}
use Rattle.thy_run.specs.Singles.{SingleMade}
use Rattle.thy_run.specs.Watching.{Taken, IsListed, taken_in}
use Rattle.thy_run.proofs.StartLemmas.{Running-first}
use Rattle.thy_observe.specs.declared.accesses.Accessed.{Accessed}
use Rattle.thy_observe.specs.declared.listing.Call.{Call}
use Rattle.thy_observe.specs.declared.tracing.Window.{Window}
use Rattle.thy_observe.specs.Accesses.{HasAccesses, Heard, Log, StopsAfter, accesses_at, accesses_of, first_log, last_cycle, log_of, logged, nowhere, takens}
use Rattle.thy_observe.specs.Causes.{under_way_after_cut, under_way_after_step, under_way_then}

-- the rows of one element more of a list
pub rows-more : {X Y : Type 0} (f : X → List Y) (old now next : List Y) (xs : List X) (i : ℕ) (d : X) → i < length xs
    → now ≡ old ++ flat_map f (take i xs) → next ≡ now ++ f (get_or xs i d) → next ≡ old ++ flat_map f (take (i + 1) xs)
rows-more {X = X} {Y = Y} f old now next xs i d less h is =
    is ∙ ap (λ (t : List Y). t ++ f (get_or xs i d)) h ∙ flat_map_more f old (take i xs) (get_or xs i d)
    ∙ ap (λ (l : List X). old ++ flat_map f l) (sym (take_more xs i d less))

log-one : (w : Window) (heard : List Heard) (h : Heard) → log_of w (heard ++ h ∷ []) ≡ logged w (log_of w heard) h
log-one w heard h = fold-append (logged w) first_log heard (h ∷ [])

takens-one : (heard : List Heard) (h : Heard) → takens (heard ++ h ∷ []) ≡ takens heard ++ h.taken ∷ []
takens-one heard h = map-append (λ (x : Heard). x.taken) heard (h ∷ [])

-- a run continues, and the accesses of its cycles up to here are listed
pub record IsLogged {M : Type 0} (K : KindOf M) (plan : Plan) (fitted : Device) (w : Window) (p : Progress M) (n : Device) (done : ℕ) (b : Bool) (rows : List Accessed)
    : Type 0 where
  pub turns : List ℕ
  pub running : Running K plan fitted p n done turns nowhere nowhere nowhere nowhere
  pub heard : List Heard
  pub listed : IsListed K (origin_of plan) (given_of plan fitted) done (world_at p n done turns) (takens heard)
  pub cycles : (log_of w heard).cycles ≡ done
  pub under_way : b ≡ (log_of w heard).under_way
  pub rows_are : rows ≡ accesses_of w heard

-- before its first cycle
pub IsLogged-first : {M : Type 0} (K : KindOf M) (laws : IsLawful K) (plan : Plan) (p : Progress M) (n : Device) (w : Window) (rows : List Accessed)
    → IsPlanned plan → IsFitted K plan n → IsStarted K plan p → rows ≡ [] → IsLogged K plan n w p n 0 false rows
IsLogged-first K laws plan p n w rows planned fits started none =
    let running : Running K plan n p n 0 [] nowhere nowhere nowhere nowhere = Running-first K laws plan p n nowhere nowhere planned fits started in
    record { turns = []; running = running; heard = []; listed = (running.goes.ran, refl); cycles = refl; under_way = refl; rows_are = none }

module _ {M : Type 0} (K : KindOf M) (plan : Plan) (fitted : Device) (w : Window) (p : Progress M) (n : Device) (done : ℕ) (b : Bool) (rows : List Accessed)
    (h : IsLogged K plan fitted w p n done b rows) where
  -- with one cycle more, in which these calls were listed
  pub IsLogged-more : (next : Progress M) (new : Device) (x : Stepped) (calls : List Call) (c : Bool) (more : List Accessed)
      → SingleMade K plan fitted p next n new done h.turns nowhere nowhere (sinks nowhere nowhere) (Goes x)
      → c ≡ under_way_after_cut (under_way_after_step b x.did) false → more ≡ rows ++ accesses_at w b (done + 1) x.did calls
      → IsLogged K plan fitted w next new (done + 1) c more
  IsLogged-more next new x calls c more (reported, running, (cycle, by, fell)) under is =
      let t : Taken =
      taken_in K (origin_of plan) plan.config.cuts plan.config.tears (world_at p n done h.turns) (world_at next new (done + 1) reported) cycle in
      let one : Heard = record { taken = t; calls = calls } in
      let did : t.stepped.did ≡ x.did = ap (λ (s : Stepped). s.did) by in
      let log : log_of w (h.heard ++ one ∷ []) ≡ logged w (log_of w h.heard) one = log-one w h.heard one in
      let e : suc done ≡ done + 1 = omega arith in
      record {
        turns = reported;
        running = running;
        heard = h.heard ++ one ∷ [];
        listed =
            subst (λ (j : ℕ). IsListed K (origin_of plan) (given_of plan fitted) j (world_at next new (done + 1) reported) (takens (h.heard ++ one ∷ []))) e
            (world_at p n done h.turns, takens h.heard, cycle, h.listed, takens-one h.heard one);
        cycles = ap (λ (l : Log). l.cycles) log ∙ ap (λ (k : ℕ). k + 1) h.cycles;
        under_way =
            under
            ∙ ap (λ (d : Did). under_way_after_cut (under_way_after_step b d) false) (sym did)
            ∙ ap (λ (f : Bool). under_way_after_cut (under_way_after_step b t.stepped.did) f) (sym fell)
            ∙ ap (λ (u : Bool). under_way_then u t) h.under_way
            ∙ sym (ap (λ (l : Log). l.under_way) log);
        rows_are =
            is
            ∙ ap (λ (l : List Accessed). l ++ accesses_at w b (done + 1) x.did calls) h.rows_are
            ∙ ap (λ (u : Bool). accesses_of w h.heard ++ accesses_at w u (done + 1) x.did calls) h.under_way
            ∙ ap (λ (k : ℕ). accesses_of w h.heard ++ accesses_at w (log_of w h.heard).under_way (k + 1) x.did calls) (sym h.cycles)
            ∙ ap (λ (d : Did). accesses_of w h.heard ++ accesses_at w (log_of w h.heard).under_way ((log_of w h.heard).cycles + 1) d calls) (sym did)
            ∙ sym (ap (λ (l : Log). l.rows) log);
      }

  -- over a device that is the same
  pub IsLogged-same : (m : Device) → m ≡ n → IsLogged K plan fitted w p m done b rows
  IsLogged-same m same = subst (λ (d : Device). IsLogged K plan fitted w p d done b rows) (sym same) h

  -- the listed accesses are a window's, once its last cycle is done
  pub HasAccesses-whole : done ≡ last_cycle w.last plan.geometry.limit → HasAccesses K plan fitted w rows
  HasAccesses-whole last = record {
    cycles = done;
    world = world_at p n done h.turns;
    heard = h.heard;
    listed = h.listed;
    whole = inl last;
    rows_are = h.rows_are;
  }

  -- or if the run stops with the next one
  pub HasAccesses-stops : StopsAfter K plan fitted done → HasAccesses K plan fitted w rows
  HasAccesses-stops stops = record {
    cycles = done;
    world = world_at p n done h.turns;
    heard = h.heard;
    listed = h.listed;
    whole = inr stops;
    rows_are = h.rows_are;
  }
