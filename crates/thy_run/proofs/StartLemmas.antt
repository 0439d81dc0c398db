-- A run before its first cycle, and one at its limit.
use Rattle.std.proofs.Common.{◌≡◌, ℕ, ◌+◌, false, Option, Some, None, List, [], refl, sym, ◌∙◌, ap, subst, inl, arith}
use Rattle.thy_block.specs.declared.mark.Mark.{Mark}
use Rattle.thy_block.specs.declared.bytes.Bytes.{Bytes}
use Rattle.thy_block.specs.declared.mix.Mix.{Mix}
use Rattle.thy_block.specs.Mix.{mix_start}
use Rattle.thy_block.specs.Device.{Device}
use Rattle.thy_block.specs.Places.{dram_blocks}
use Rattle.thy_dram.specs.Contents.{fresh}
use Rattle.thy_block.specs.Outside.{Stream}
use Rattle.thy_computer.specs.Kind.{KindOf, IsLawful}
use Rattle.thy_text.specs.Event.{Event}
use Rattle.thy_text.specs.Lines.{report_of}
use Rattle.thy_computer.specs.declared.view.View.{View}
use Rattle.thy_computer.specs.Booting.{found_first, first_view, view_of_image}
use Rattle.thy_computer.specs.Views.{is_halt, doubt_of}
use Rattle.thy_computer.specs.Origin.{Origin}
use Rattle.thy_computer.specs.Safe.{Safe}
use Rattle.thy_run.specs.Cuts.{has_ended}
use Rattle.thy_run.specs.Laws.{released_of}
use Rattle.thy_run.specs.World.{IsFirst, seen}
use Rattle.thy_run.specs.declared.ending.Stop.TheVariants.{Memory, Limit}
use Rattle.thy_run.specs.declared.plan.Plan.{Plan}
use Rattle.thy_run.specs.declared.progress.Progress.{Progress}
use Rattle.thy_run.specs.Going.{origin_of, given_of, world_at, IsPlanned, reporting_of}
use Rattle.thy_run.specs.Sending.{Delivered}
use Rattle.thy_run.specs.Rounds.{IsFitted, IsStarted, Running, RunEndsAt, first_progress}
use Rattle.thy_run.proofs.AdvanceLemmas.{good_of}
use Rattle.thy_run.proofs.ListingLemmas.{none_last}
use Rattle.thy_run.proofs.OutcomeLemmas.{Took-none, delivered_all}
use Rattle.thy_block.proofs.RangeLemmas.{limit_least}

-- the view with which a run begins has nothing in doubt
first_doubt : (o : Origin) (kept : Option Mark) → doubt_of (view_of_image o.start.count (found_first o kept)) ≡ None
first_doubt o None = refl
first_doubt o (Some m) = refl

-- power comes on for the first time
pub first_of : {M : Type 0} (K : KindOf M) (laws : IsLawful K) → (plan : Plan) (m : M) (t : Bytes) (n : Device) → IsPlanned plan
    → K.powered plan.geometry m
    → K.dram m ≡ fresh (dram_blocks plan.geometry) plan.geometry.dramq → IsFitted K plan n
    → IsFirst K (origin_of plan) (given_of plan n) (world_at (first_progress plan m t) n 0 [])
first_of {M = M} K laws plan m t n planned powered zeros f =
    let o : Origin = origin_of plan in
    let law = laws.begins o m f.shape f.start f.before planned.origin powered f.fits in
    let at_first : K.is_at o 0 m n = subst (K.is_at o 0 m) (sym f.is_fitted) law.0 in
    let view : K.view o m n ≡ first_view o = ap (K.view o m) f.is_fitted ∙ law.1 in
    let S : View → Type 0 = λ v. Safe K.decode o v.done (doubt_of v) n in
    record {
      unlisted = refl;
      device = refl;
      powered = powered;
      dram = zeros;
      at_moment = at_first;
      found = view;
      safe = subst (λ (d : Option Mark). Safe K.decode o (first_view o).done d n) (first_doubt o o.kept)
          (subst S view (laws.is_safe o 0 m n at_first));
      left = ap (λ (d : Device). d.left) f.is_fitted;
      picks = ap (λ (d : Device). d.picks) f.is_fitted;
      empty = ap (λ (d : Device). d.queue) f.is_fitted;
      mix = refl;
      passed = refl;
      cycles = refl;
      fresh = refl;
      events = refl;
    }

first_going : (o : Origin) (kept : Option Mark) → is_halt (view_of_image o.start.count (found_first o kept)).phase ≡ false
first_going o None = refl
first_going o (Some m) = refl

-- a progress is the first one, whatever made its schedule and its list of events
pub first_is : {M : Type 0} (plan : Plan) (m : M) (t : Bytes) (mix : Mix) (events : List Event) → mix ≡ mix_start plan.config.mix
    → events ≡ []
    → record (first_progress plan m t) { mix = mix; events = events } ≡ first_progress plan m t
first_is plan m t mix events by none =
    ap (λ (x : Mix). record (first_progress plan m t) { mix = x; events = events }) by
    ∙ ap (λ (e : List Event). record (first_progress plan m t) { events = e }) none

-- the loop before its first cycle
pub Running-first : {M : Type 0} (K : KindOf M) (laws : IsLawful K) → (plan : Plan) (p : Progress M) (n : Device) (t r : Stream)
    → IsPlanned plan → IsFitted K plan n
    → IsStarted K plan p → Running K plan n p n 0 [] t t r r
Running-first {M = M} K laws plan p n t r planned f started =
    let o : Origin = origin_of plan in
    let first = first_of K laws plan p.machine p.turns n planned started.powered started.dram f in
    let here : Running K plan n (first_progress plan p.machine p.turns) n 0 [] t t r r = record {
      goes = record {
        ran = first;
        going = ap (λ v. is_halt v.phase) first.found ∙ first_going o o.kept;
        listed = started.empty ∙ sym (none_last (seen K o (world_at (first_progress plan p.machine p.turns) n 0 [])).retired);
        turns_room = started.room;
        released = refl;
        room = ap (λ (d : Device). d.left_room) f.is_fitted ∙ ap (λ c. c + 1) f.cuts;
        faults = refl;
        on_terminal = refl;
        on_report = refl;
      };
      shown_all = Took-none t;
      read_all = Took-none r;
    } in
    subst (λ (x : Progress M). Running K plan n x n 0 [] t t r r) (sym started.first) here

-- a run for whose machine no memory was found
pub RunEnds-unpowered : {M : Type 0} (K : KindOf M) (laws : IsLawful K)
    → (plan : Plan) (events : List Event) (b : Bytes) (n : Device) (t r : Stream) → IsPlanned plan → IsFitted K plan n → events ≡ []
    → RunEndsAt K plan n n (record { stop = Memory; events = events; cycles = 0; terminal_failed = false; report_failed = false }) t t r r
    (world_at (first_progress plan (laws.powers plan.geometry).0 b) n 0 [])
RunEnds-unpowered K laws plan events b n t r planned f none = (
  record {
    stopped = record {
      last = world_at (first_progress plan (laws.powers plan.geometry).0 b) n 0 [];
      ran = first_of K laws plan (laws.powers plan.geometry).0 b n planned (laws.powers plan.geometry).1 (laws.powers plan.geometry).2 f;
      at_stop = inl (refl, (none, refl));
    };
    few = omega arith;
    settled = [];
    is_settled = refl;
    shown_all = record { more = []; unsent = []; is_text = ap (released_of (origin_of plan)) none; whole = λ _. refl; middle = t; took = Took-none t; sent = Took-none t };
    read_all = subst (λ (vs : List Event). Delivered false false [] (report_of (reporting_of plan) vs) r r) (sym none)
        (delivered_all false [] r r refl (Took-none r));
    stop_fits = (omega (arith, limit_least plan.geometry planned.origin.geometry), refl);
  },
  refl,
)

-- a run ends when the limit's number of cycles is done
pub RunEnds-limit : {M : Type 0} (K : KindOf M)
    → (plan : Plan) (fit : Device) (p : Progress M) (n : Device) (k : ℕ) (turns : List ℕ) (limit : ℕ) (t0 t r0 r : Stream) → IsPlanned plan
    → Running K plan fit p n k turns t0 t r0 r → k ≡ limit
    → limit ≡ plan.geometry.limit
    → RunEndsAt K plan fit n (record { stop = Limit; events = p.events; cycles = limit; terminal_failed = p.terminal_failed; report_failed = p.report_failed }) t0 t r0 r (world_at p n k turns)
RunEnds-limit {M = M} K plan fit p n k turns limit t0 t r0 r planned running same limit_is =
    let o : Origin = origin_of plan in
    let going : has_ended p.events ≡ false = (good_of K plan fit p n k turns planned running.goes).stands.ended ∙ running.goes.going in
    let here : RunEndsAt K plan fit n (record { stop = Limit; events = p.events; cycles = k; terminal_failed = p.terminal_failed; report_failed = p.report_failed }) t0 t r0 r (world_at p n k turns) = (
      record {
        stopped = record { last = world_at p n k turns; ran = running.goes.ran; at_stop = (refl, refl) };
        few = omega (arith, same, limit_is);
        settled = p.events;
        is_settled = refl;
        shown_all = delivered_all p.terminal_failed (released_of o p.events) t0 t running.goes.on_terminal running.shown_all;
        read_all = delivered_all p.report_failed (report_of (reporting_of plan) p.events) r0 r running.goes.on_report running.read_all;
        stop_fits = (same ∙ limit_is, going, (running.goes.on_terminal, running.goes.on_report), running.goes.faults);
      },
      refl,
    ) in
    subst (λ c. RunEndsAt K plan fit n (record { stop = Limit; events = p.events; cycles = c; terminal_failed = p.terminal_failed; report_failed = p.report_failed }) t0 t r0 r (world_at p n k turns)) same here
