-- A run without cuts, one cycle at a time.
use Rattle.std.proofs.Common.{◌≡◌, ℕ, zero, suc, ◌+◌, ◌<◌, ◌≤◌, Bool, true, false, ◌&&◌, ◌==◌, nat_lt, List, [], ◌∷◌, ◌++◌, length, refl, sym, ◌∙◌, ap, subst, arith}
use Rattle.std.specs.Prelude.{slice_index}
use Rattle.std.proofs.lemmas.Bool.{ltb-true, and_parts}
use Rattle.thy_block.specs.Device.{Device}
use Rattle.thy_block.specs.Outside.{Stream, Took}
use Rattle.thy_text.specs.Event.{Event}
use Rattle.thy_text.specs.Lines.{report_of}
use Rattle.thy_computer.specs.Kind.{KindOf, IsLawful}
use Rattle.thy_computer.specs.Origin.{Origin}
use Rattle.thy_computer.specs.declared.did.Stepped.{Stepped}
use Rattle.thy_run.specs.declared.ending.Stop.TheVariants.{Nvm}
use Rattle.thy_run.specs.declared.plan.Plan.{Plan}
use Rattle.thy_run.specs.declared.progress.Progress.{Progress}
use Rattle.thy_run.specs.Due.{IsQuiet}
use Rattle.thy_run.specs.Going.{origin_of, given_of, reporting_of, turns_then, world_at, IsPlanned, GoesOn, IsStepped, IsStuck}
use Rattle.thy_run.specs.Laws.{released_of}
use Rattle.thy_run.specs.Rounds.{Running, RunEnds, ending_of}
use Rattle.thy_run.specs.Seeing.{IsDoneBy}
use Rattle.thy_run.specs.Watching.{Taken, IsListed, taken_in}
use Rattle.thy_run.specs.World.{World, Given, Ran}
use Rattle.thy_run.proofs.AdvanceLemmas.{IsBroken-stuck, quiet_goes}
use Rattle.thy_run.proofs.OutcomeLemmas.{ComesTo-unlisted}
use Rattle.thy_run.proofs.QuietLemmas.{passes_on}
use Rattle.thy_run.proofs.SeeingLemmas.{length-listed}

module _ {M : Type 0} (K : KindOf M) where
  -- the cycles of a run are listed somewhere
  listed_of : (o : Origin) (given : Given) (k : ℕ) (w : World M) → Ran K o given k w → (seen : List Taken) × IsListed K o given k w seen
  listed_of o given zero w first = ([], (first, refl))
  listed_of o given (suc k) w (before, ran, c) =
      let earlier = listed_of o given k before ran in
      (earlier.0 ++ taken_in K o given.config.cuts given.config.tears before w c ∷ [], (before, earlier.0, c, earlier.1, refl))

  -- the list has one for each done cycle
  pub cycles_of : (plan : Plan) (fitted : Device) (p : Progress M) (n : Device) (k : ℕ) (turns : List ℕ)
      → GoesOn K plan fitted p n k turns
      → (seen : List Taken) × IsListed K (origin_of plan) (given_of plan fitted) k (world_at p n k turns) seen
  cycles_of plan fitted p n k turns goes = listed_of (origin_of plan) (given_of plan fitted) k (world_at p n k turns) goes.ran

  pub cycles_long : (plan : Plan) (fitted : Device) (p : Progress M) (n : Device) (k : ℕ) (turns : List ℕ)
      (goes : GoesOn K plan fitted p n k turns)
      → k + 1 ≡ length (cycles_of plan fitted p n k turns goes).0 + 1
  cycles_long plan fitted p n k turns goes =
      let seen = cycles_of plan fitted p n k turns goes in
      let e : length seen.0 ≡ k = length-listed K (origin_of plan) (given_of plan fitted) k (world_at p n k turns) seen.0 seen.1 in
      omega (arith, e)

-- if no cut is listed, none falls
pub none_due : (cuts : List ℕ) (passed cycle : ℕ) → cuts ≡ [] → (nat_lt passed (length cuts) && slice_index cuts passed == cycle) ≡ true → ⊥
none_due [] passed cycle none due =
    let never : passed < 0 = ltb-true passed 0 (and_parts (nat_lt passed 0) (slice_index [] passed == cycle) due).0 in
    absurd (omega (arith, never))
none_due (c ∷ cs) passed cycle none due = absurd (cc)

module _ {M : Type 0} (K : KindOf M) (laws : IsLawful K) (plan : Plan) (fitted : Device) (p next : Progress M) (n new : Device) (done : ℕ)
    (turns : List ℕ) (t0 t r0 r : Stream)
    (planned : IsPlanned plan) (running : Running K plan fitted p n done turns t0 t r0 r) where
  -- a cycle that has nothing to report
  pub Running-quiet : (x : Stepped) → IsStepped K plan p next n new done turns x → IsQuiet plan.config.cuts next x (done + 1)
      → (after : List ℕ) × Running K plan fitted next new (done + 1) after t0 t r0 r × IsDoneBy K plan p next n new done turns after x
  Running-quiet x stepped quiet =
      let passes = quiet_goes K laws plan fitted p n done turns planned running.goes next new x stepped quiet in
      let unlisted : next.events ≡ p.events = ap (λ (y : Progress M). y.events) stepped.same in (
        turns_then plan turns x.did,
        record {
          goes = passes_on K plan fitted p next n new done turns x running.goes passes;
          shown_all = subst (λ (l : List Event). Took t0 t (released_of (origin_of plan) l)) (sym unlisted) running.shown_all;
          read_all = subst (λ (l : List Event). Took r0 r (report_of (reporting_of plan) l)) (sym unlisted) running.read_all;
        },
        (passes.0.cycle, passes.0.by_step, passes.0.has_fallen),
      )

  -- one whose step failed
  pub RunEnds-stuck : done < plan.geometry.limit → IsStuck K plan p next n new turns
      → RunEnds K plan fitted new (ending_of Nvm next done) t0 t r0 r
  RunEnds-stuck few stuck =
      (ComesTo-unlisted K plan fitted p next n new done turns turns Nvm t0 t r0 r running few (ap (λ (y : Progress M). y.events) stuck.same)
      (IsBroken-stuck K plan fitted p next n new done turns running.goes stuck)).0
