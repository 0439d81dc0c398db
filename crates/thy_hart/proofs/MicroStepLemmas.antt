-- Each micro-step whose block hits acts as is said, whatever store is below the cache.
use Rattle.std.proofs.Common.{◌≡◌, ℕ, ◌+◌, ◌≤◌, Bool, true, false, if◌then◌else◌, nat_lt, length, drop, Option, Some, None, is_some, Ok, Err, refl, sym, ◌∙◌, ap, subst, arith}
use Rattle.std.proofs.lemmas.Bool.Decides.{nat_tests}
use Rattle.thy_block.specs.Geometry.{memory_blocks}
use Rattle.thy_cache.specs.declared.line.LineLocation.{LineLocation}
use Rattle.thy_cache.specs.Contents.{Contents, hits, dirty_count, read_from, KeepsSize}
use Rattle.thy_cache.specs.Flat.{flat, AgreesStill, KeepsLines}
use Rattle.thy_block.specs.declared.span.Span.{Span}
use Rattle.thy_block.specs.Spans.{first_block, head_len}
use Rattle.thy_isa.specs.declared.state.Cause.{Cause}
use Rattle.thy_isa.specs.declared.state.Effect.{Effect}
use Rattle.thy_isa.specs.declared.state.Effect.TheVariants.{Trap}
use Rattle.thy_isa.specs.Moves.{outgoing}
use Rattle.thy_hart.specs.declared.hand.Hand.{Hand}
use Rattle.thy_hart.specs.declared.hand.Hand.TheVariants.{Nothing, Reading, Securing, Writing, Retiring}
use Rattle.thy_hart.specs.declared.hand.HartStep.{HartStep}
use Rattle.thy_hart.specs.declared.hand.HartStep.TheVariants.{Moved}
use Rattle.thy_hart.specs.declared.hand.MicroStep.TheVariants.{Missing, Taken}
use Rattle.thy_hart.specs.HartState.{HartState, block_for, fetched_block, next_block, blocks_of, secured, IsWriting}
use Rattle.thy_hart.specs.Outcomes.{Given, begun_with, fetched, block_written, room_secured, room_answer, retired, over_or_retired, epoch_retired, acted_by, answer_by, memory_by, touched, written_by, cache_by}
use Rattle.thy_hart.specs.MicroSteps.{IsFetchedSpan, HitsNext, FetchesIn, ReadsIn, WritesIn, IsMicroStep, IsActed}
use Rattle.thy_hart.proofs.FetchLemmas.{effect_trapped, fetched_some, fetched_not}
use Rattle.thy_hart.proofs.HandLemmas.{written_on-secured}

pub IsMicroStep-fetch : (g : Given) (c d : Contents) (old new : HartState) → old.hand ≡ Nothing → FetchesIn g.input c old new
    → secured new.hand ≡ 0 → KeepsLines c d
    → d ≡ touched c (fetched_block old.geometry old.cpu) → IsMicroStep g c d old new Moved
IsMicroStep-fetch g c d old new is fetches unsecured lines cache = record {
  hart = λ blocks whole. fetches blocks whole ∙ ap (acted_by g (dirty_count c) (flat c blocks) old) (sym is);
  says = ap (answer_by g (dirty_count c) old) (sym is);
  memory = λ blocks whole. lines.flat blocks ∙ ap (memory_by old.bytes (flat c blocks)) (sym is);
  agree = lines.agree;
  room = λ room. omega (arith, lines.dirty, unsecured, room);
  tidy = omega (arith, lines.dirty);
  cache = cache ∙ ap (cache_by c old) (sym is);
  untouched = λ none. cache ∙ ap (touched c) (sym (ap (block_for old.geometry old.cpu) is) ∙ none);
  sized = lines.sized;
}

pub IsMicroStep-read : (g : Given) (c d : Contents) (old new : HartState) (e : Effect) (from to : Span) → old.hand ≡ Reading e from to
    → ReadsIn c e from to old new
    → secured new.hand ≡ 0 → KeepsLines c d → d ≡ read_from (first_block from) c → IsMicroStep g c d old new Moved
IsMicroStep-read g c d old new e from to is reads unsecured lines cache = record {
  hart = λ blocks whole. reads blocks whole ∙ ap (acted_by g (dirty_count c) (flat c blocks) old) (sym is);
  says = ap (answer_by g (dirty_count c) old) (sym is);
  memory = λ blocks whole. lines.flat blocks ∙ ap (memory_by old.bytes (flat c blocks)) (sym is);
  agree = lines.agree;
  room = λ room. omega (arith, lines.dirty, unsecured, room);
  tidy = omega (arith, lines.dirty);
  cache = cache ∙ ap (cache_by c old) (sym is);
  untouched = λ none. let e = sym (ap (block_for old.geometry old.cpu) is) ∙ none in cc e;
  sized = lines.sized;
}

pub IsMicroStep-write : (g : Given) (c d : Contents) (old new : HartState) (e : Effect) (to : Span) (done : ℕ) → old.hand ≡ Writing e to done
    → IsWriting old.geometry e to done (length old.bytes) → new ≡ block_written e to done old
    → WritesIn (memory_blocks old.geometry) c d to (drop done (outgoing e old.bytes)) → AgreesStill c d → dirty_count d ≤ dirty_count c + 1
    → KeepsSize c d
    → d ≡ written_by c to (drop done (outgoing e old.bytes)) → IsMicroStep g c d old new Moved
IsMicroStep-write g c d old new e to done is writing hart memory agree dirty sized cache = record {
  hart = λ blocks whole. hart ∙ ap (acted_by g (dirty_count c) (flat c blocks) old) (sym is);
  says = ap (answer_by g (dirty_count c) old) (sym is);
  memory = λ blocks whole. memory blocks whole ∙ ap (memory_by old.bytes (flat c blocks)) (sym is);
  agree = agree;
  room = λ room. omega (arith, room, dirty, ap secured is, ap (λ (h : HartState). secured h.hand) hart, written_on-secured e to (done + head_len to) writing.span_to.short);
  tidy = omega (arith, dirty, ap secured is, ap (λ (h : HartState). secured h.hand) hart, written_on-secured e to (done + head_len to) writing.span_to.short);
  cache = cache ∙ ap (cache_by c old) (sym is);
  untouched = λ none. let e = sym (ap (block_for old.geometry old.cpu) is) ∙ none in cc e;
  sized = sized;
}

-- ---- whether its line is there

pub found_hits : (c : Contents) (b : ℕ) (found : Option LineLocation) (location : LineLocation) → is_some found ≡ hits c b
    → found ≡ Some location → hits c b ≡ true
found_hits c b found location hit is = sym hit ∙ ap is_some is

pub missing_hits : (c : Contents) (b : ℕ) (found : Option LineLocation) → is_some found ≡ hits c b → found ≡ None → hits c b ≡ false
missing_hits c b found hit is = sym hit ∙ ap is_some is

hits_next : (c : Contents) (old : HartState) (b : ℕ) → next_block old ≡ Some b → hits c b ≡ true → HitsNext c (next_block old)
hits_next c old b is hit = subst (HitsNext c) (sym is) hit

kept : (c : Contents) → KeepsLines c c
kept c = record { peeks = λ x. refl; hits = λ x. refl; flat = λ blocks. refl; agree = λ blocks a. a; dirty = refl; sized = λ sets ways h. h }

-- ---- a fetch

block_fetched : (old : HartState) (at : Span) → old.hand ≡ Nothing → IsFetchedSpan old.geometry old.cpu (Ok at)
    → next_block old ≡ Some (first_block at)
block_fetched old at is h = ap (block_for old.geometry old.cpu) is ∙ fetched_some old.geometry old.cpu at h

pub IsActed-fetched : (g : Given) (c d : Contents) (old new : HartState) (at : Span) → old.hand ≡ Nothing
    → IsFetchedSpan old.geometry old.cpu (Ok at)
    → hits c (first_block at) ≡ true → FetchesIn g.input c old new → secured new.hand ≡ 0 → KeepsLines c d → d ≡ read_from (first_block at) c
    → IsActed g c d old new (Taken Moved)
IsActed-fetched g c d old new at is h hit fetches unsecured lines cache = (
  hits_next c old (first_block at) (block_fetched old at is h) hit,
  IsMicroStep-fetch g c d old new is fetches unsecured lines (cache ∙ ap (touched c) (sym (fetched_some old.geometry old.cpu at h))),
)

pub IsActed-fetch-missing : (g : Given) (c : Contents) (old : HartState) (at : Span) → old.hand ≡ Nothing
    → IsFetchedSpan old.geometry old.cpu (Ok at)
    → hits c (first_block at) ≡ false → IsActed g c c old old (Missing (first_block at))
IsActed-fetch-missing g c old at is h miss = (block_fetched old at is h, miss, refl, refl)

pub IsActed-trapped : (g : Given) (c : Contents) (old new : HartState) (cause : Cause) → old.hand ≡ Nothing
    → IsFetchedSpan old.geometry old.cpu (Err cause)
    → new ≡ begun_with g.input (Trap cause) old → secured new.hand ≡ 0 → IsActed g c c old new (Taken Moved)
unfolding fetched
IsActed-trapped g c old new cause is h traps unsecured =
    let none = ap (block_for old.geometry old.cpu) is ∙ fetched_not old.geometry old.cpu cause h in
    let fetches : FetchesIn g.input c old new =
    λ blocks whole. traps ∙ ap (λ e. begun_with g.input e old) (sym (effect_trapped old.geometry old.cpu (flat c blocks) cause h)) in (
      subst (HitsNext c) (sym none) tt,
      IsMicroStep-fetch g c c old new is fetches unsecured (kept c) (ap (touched c) (sym (fetched_not old.geometry old.cpu cause h))),
    )

-- ---- a block that is read or written

pub IsActed-taken : (g : Given) (c d : Contents) (old new : HartState) (b : ℕ) (hand : Hand) → old.hand ≡ hand
    → block_for old.geometry old.cpu hand ≡ Some b
    → hits c b ≡ true → IsMicroStep g c d old new Moved → IsActed g c d old new (Taken Moved)
IsActed-taken g c d old new b hand is for hit step = (hits_next c old b (ap (block_for old.geometry old.cpu) is ∙ for) hit, step)

pub IsActed-missing : (g : Given) (c : Contents) (old : HartState) (b : ℕ) (hand : Hand) → old.hand ≡ hand
    → block_for old.geometry old.cpu hand ≡ Some b
    → hits c b ≡ false → IsActed g c c old old (Missing b)
IsActed-missing g c old b hand is for miss = (ap (block_for old.geometry old.cpu) is ∙ for, miss, refl, refl)

-- ---- an instruction that retires

pub IsActed-retired : (g : Given) (c : Contents) (old new : HartState) (e : Effect) (wrote : Bool) (step : HartStep)
    → old.hand ≡ Retiring e wrote
    → new ≡ retired g.input e old → step ≡ over_or_retired (epoch_retired g.input e old).over → IsActed g c c old new (Taken step)
IsActed-retired g c old new e wrote step is hart says = (
  subst (HitsNext c) (sym (ap (block_for old.geometry old.cpu) is)) tt,
  record {
    hart = λ blocks whole. hart ∙ ap (acted_by g (dirty_count c) (flat c blocks) old) (sym is);
    says = says ∙ ap (answer_by g (dirty_count c) old) (sym is);
    memory = λ blocks whole. ap (memory_by old.bytes (flat c blocks)) (sym is);
    agree = λ blocks a. a;
    room = λ room. omega (arith, room, ap (λ (h : HartState). secured h.hand) hart);
    tidy = omega arith;
    cache = ap (cache_by c old) (sym is);
    untouched = λ _. refl;
    sized = λ sets ways h. h;
  },
)

-- ---- room that is secured

room_by : (P : HartState → Type 0) (b : Bool) (x y : HartState) → (b ≡ true → P x) → (b ≡ false → P y) → P (if b then x else y)
room_by P true x y p q = p refl
room_by P false x y p q = q refl

enough : (free need : ℕ) → nat_lt free need ≡ false → need ≤ free
enough free need h = grind (arith, nat_tests)

secured-room : (free dirty : ℕ) (under_way : Bool) (e : Effect) (to : Span) (old : HartState) → secured old.hand ≡ 0 → dirty ≤ free
    → dirty + secured (room_secured free under_way dirty e to old).hand ≤ free
unfolding room_secured
secured-room free dirty under_way e to old none room =
    let P : HartState → Type 0 = λ h. dirty + secured h.hand ≤ free in
    room_by P (nat_lt free (dirty + blocks_of to)) _ _
    (λ _. room_by P under_way old _ (λ _. omega (arith, none, room)) (λ _. omega (arith, room)))
    (λ e. omega (arith, enough free (dirty + blocks_of to) e))

pub IsActed-secured : (g : Given) (c : Contents) (old new : HartState) (e : Effect) (to : Span) (step : HartStep) → old.hand ≡ Securing e to
    → new ≡ room_secured g.free g.under_way (dirty_count c) e to old → step ≡ room_answer g.free g.under_way (dirty_count c) to
    → IsActed g c c old new (Taken step)
IsActed-secured g c old new e to step is hart says =
    let none : secured old.hand ≡ 0 = ap secured is in (
      subst (HitsNext c) (sym (ap (block_for old.geometry old.cpu) is)) tt,
      record {
        hart = λ blocks whole. hart ∙ ap (acted_by g (dirty_count c) (flat c blocks) old) (sym is);
        says = says ∙ ap (answer_by g (dirty_count c) old) (sym is);
        memory = λ blocks whole. ap (memory_by old.bytes (flat c blocks)) (sym is);
        agree = λ blocks a. a;
        room = λ room. omega (
          arith,
          secured-room g.free (dirty_count c) g.under_way e to old none (omega (arith, room)),
          ap (λ (h : HartState). secured h.hand) hart,
        );
        tidy = omega arith;
        cache = ap (cache_by c old) (sym is);
        untouched = λ _. refl;
        sized = λ sets ways h. h;
      },
    )
