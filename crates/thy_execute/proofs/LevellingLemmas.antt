-- The device that a run sees, and the one that is handed back.
use Rattle.std.proofs.Common.{◌≡◌, ℕ, ◌+◌, ◌<◌, ◌==◌, if◌then◌else◌, Bool, true, false, Option, Some, None, List, [], ◌∷◌, ◌++◌, length, map, take, drop, refl, sym, ◌∙◌, ap, subst, inl, inr, arith, slice_index_or}
use Rattle.std.specs.Borrow.{GName}
use Rattle.std.proofs.lemmas.Bool.{ne_eqb}
use Rattle.std.proofs.lemmas.List.{length-append, length-map, take_all, take-append-le, take-map}
use Rattle.thy_block.specs.declared.block.Block.{Block}
use Rattle.thy_base.specs.declared.config.Config.{Config}
use Rattle.thy_block.specs.declared.nvm.FitError.{FitError}
use Rattle.thy_block.specs.declared.nvm.FitError.TheVariants.{Failed, Memory}
use Rattle.thy_block.specs.declared.outside.PutError.{PutError}
use Rattle.thy_block.specs.Counts.{next}
use Rattle.thy_block.specs.Device.{Device, Crash, HasFailedToFit, IsCut, lent_by, Wear, Plain, Levels, Unsaid}
use Rattle.thy_block.specs.Outside.{Stock}
use Rattle.thy_block.proofs.LoanLemmas.{framed_within, same_loan}
use Rattle.thy_block.specs.Flat.{flat}
use Rattle.thy_gap.specs.declared.registers.Registers.{Registers}
use Rattle.thy_gap.specs.Lines.{no_lines}
use Rattle.thy_gap.specs.Meaning.{ImageMeansSeen, CrashMeansSeen, LeftMeansSeen, RegistersMeanMoves}
use Rattle.thy_gap.specs.Levelled.{looks, wear_over}
use Rattle.thy_gap.specs.Seen.{unmapped}
use Rattle.thy_gap.proofs.SeenLemmas.{length-unmap}
use Rattle.thy_layout.specs.Decoded.{Decoded}
use Rattle.thy_text.specs.Event.{Event, Scheme, EpochEnd, Commit, Cut, Restart, Reload, Ended}
use Rattle.thy_run.proofs.EveryLemmas.{every-cut}
use Rattle.thy_computer.specs.Kind.{KindOf}
use Rattle.thy_computer.specs.Origin.{Origin}
use Rattle.thy_computer.specs.Safe.{ceiling}
use Rattle.thy_run.specs.Every.{every_of}
use Rattle.thy_run.specs.Cuts.{cuts_among}
use Rattle.thy_run.specs.Images.{Found, found, HasLeft, AllFit}
use Rattle.thy_run.specs.Laws.{Promise, found_at_start}
use Rattle.thy_run.specs.World.{Given}
use Rattle.thy_outcome.specs.declared.answer.Ran.{Ran}
use Rattle.thy_outcome.specs.Answering.{Outside, with_device, IsRunOf, IsSafeFor, given_for}
use Rattle.thy_outcome.specs.Levelling.{through, images_of_save, IsFoundAs, IsLeftAs, IsHandedBack, PutsThrough}
use Rattle.thy_execute.specs.Planning.{HasStayed, RunOverSeen}
use Rattle.thy_outcome.specs.Kept.{answer_of}
use Rattle.thy_outcome.specs.Saving.{IsPut, SavesUnder, saves, save_pick}
use Rattle.thy_outcome.specs.Sources.{ProgramSource, IsProgram, origin_for}
use Rattle.thy_base.specs.Settings.{Job}
use Rattle.thy_run.specs.Watching.{Taken}
use Rattle.thy_outcome.specs.Watching.{HasSeenOf}

-- ---- what images are to a run

through-direct : (gap : ℕ) → gap ≡ 0 → (g : List Block) → through gap g ≡ g
through-direct gap none g = ap (λ k. if k == 0 then g else unmapped g) none

through-levelled : (gap : ℕ) → 0 < gap → (g : List Block) → through gap g ≡ unmapped g
through-levelled gap some g = ap (λ b. if b then g else unmapped g) (ne_eqb gap 0 (λ e. omega (arith, e, some)))

map_same : (f : List Block → List Block) → ((g : List Block) → f g ≡ g) → (gs : List (List Block)) → map f gs ≡ gs
map_same f same [] = refl
map_same f same (g ∷ gs) = ap (λ h. h ∷ map f gs) (same g) ∙ ap (λ hs. g ∷ hs) (map_same f same gs)

map_both : (f h : List Block → List Block) → ((g : List Block) → f g ≡ h g) → (gs : List (List Block)) → map f gs ≡ map h gs
map_both f h same [] = refl
map_both f h same (g ∷ gs) = ap (λ x. x ∷ map f gs) (same g) ∙ ap (λ xs. h g ∷ xs) (map_both f h same gs)

-- ---- without a gap

pub IsFoundAs-direct : (gap : ℕ) (n : Device) → IsFoundAs gap n n
IsFoundAs-direct gap n = record { direct = λ none. refl; faults = refl; fits = refl; whole = refl }

pub IsLeftAs-direct : (gap : ℕ) (n : Device) → gap ≡ 0 → IsLeftAs gap n n
IsLeftAs-direct gap n none = record {
  direct = λ e. refl;
  image = through-direct gap none n.image;
  crash = λ g c. subst (Crash n) (sym (through-direct gap none g)) c;
  left = map_same (through gap) (through-direct gap none) n.left;
  picks = refl;
  queue_room = refl;
  left_room = refl;
  down = refl;
  faults = refl;
  fits = refl;
  whole = refl;
  writes = refl;
  moved = λ some plain. absurd (some none);
}

-- ---- with one, over a device that is lent

-- lines before they are fitted
pub IsFoundAs-levelled : (gap every since moves : ℕ) (name : GName) (n : Device) → 0 < gap
    → IsFoundAs gap n (looks every since moves no_lines (lent_by name n))
IsFoundAs-levelled gap every since moves name n some =
    record { direct = λ none. absurd (omega (arith, none, some)); faults = refl; fits = refl; whole = refl }

-- a cut leaves the same of a device that is lent
crash_lent : (name : GName) (n : Device) (g : List Block) → Crash n g → Crash (lent_by name n) g
crash_lent name n g c = record { same_length = c.same_length; each = c.each }

-- over a plain device a gap says after how many writes it moves a line; so it does so as often as it said before
pub every-levelled : (w v : Wear) (every since moves before some many : ℕ) → w ≡ Plain
    → every_of (wear_over w every since moves) ≡ every_of (wear_over v before some many) → every ≡ before
every-levelled Plain Plain every since moves before some many plain same = cc
every-levelled Plain (Levels e s m) every since moves before some many plain same = absurd (cc)
every-levelled Plain Unsaid every since moves before some many plain same = absurd (cc)
every-levelled (Levels e s m) v every since moves before some many plain same = absurd (cc)
every-levelled Unsaid v every since moves before some many plain same = absurd (cc)

pub IsLeftAs-levelled : (gap every since moves : ℕ) (name : GName) (r : Registers) (n : Device) → 0 < gap
    → 0 < length (looks every since moves r (lent_by name n)).image
    → ImageMeansSeen (lent_by name n) (looks every since moves r (lent_by name n))
    → CrashMeansSeen (lent_by name n) (looks every since moves r (lent_by name n))
    → LeftMeansSeen (lent_by name n) (looks every since moves r (lent_by name n))
    → RegistersMeanMoves (lent_by name n) (looks every since moves r (lent_by name n)) moves
    → (n.wear ≡ Plain → every ≡ gap)
    → IsLeftAs gap n (looks every since moves r (lent_by name n))
IsLeftAs-levelled gap every since moves name r n some lines image crash left moved gaps =
    let fitted : (r.lines == 0) ≡ false = ne_eqb r.lines 0 (λ e. omega (arith, e, lines, length-unmap r n.image)) in
    record {
      direct = λ none. absurd (omega (arith, none, some));
      image = through-levelled gap some n.image ∙ image lines;
      crash = λ g c. subst (Crash (looks every since moves r (lent_by name n))) (sym (through-levelled gap some g))
          (crash lines g (crash_lent name n g c));
      left = map_both (through gap) unmapped (through-levelled gap some) n.left ∙ left lines;
      picks = ap (λ b. if b then [] else n.picks) fitted;
      queue_room = refl;
      left_room = ap (λ b. if b then 0 else n.left_room) fitted;
      down = refl;
      faults = refl;
      fits = refl;
      whole = refl;
      writes = refl;
      moved = λ more plain. record {
        since = since;
        moves = moves;
        says = ap (λ (w : Wear). wear_over w every since moves) plain ∙ ap (λ (e : ℕ). Levels e since moves) (gaps plain);
        registers = λ up few. moved lines up few;
      };
    }

-- ---- a fit that failed

abbrev within : Device → Device
within n = record n { lent = drop 1 n.lent }

-- a fit that failed failed on the device that is lent
pub failed_within : (e : FitError) (name other : GName) (old new : Device) → HasFailedToFit e (lent_by name old) (lent_by other new)
    → HasFailedToFit e old new
failed_within Failed name other old new (failed, framed, rose) = (
  record { down = failed.down; no_more = failed.no_more; counts = record { writes = failed.counts.writes; wear = failed.counts.wear } },
  framed_within name other (record old { fits = next old.fits }) new framed,
  rose,
)
failed_within (Memory e) name other old new (inl same) = inl (ap within same)
failed_within (Memory e) name other old new (inr same) = inr (ap within same)

-- the loan is the same after a fit that failed
pub same_loan_failed : (e : FitError) (name other : GName) (old new : Device) → HasFailedToFit e (lent_by name old) (lent_by other new)
    → other ≡ name
same_loan_failed Failed name other old new (failed, framed, rose) = same_loan name other (record old { fits = next old.fits }) new framed
same_loan_failed (Memory e) name other old new (inl same) = ap (λ (n : Device). slice_index_or n.lent 0 name) same
same_loan_failed (Memory e) name other old new (inr same) = ap (λ (n : Device). slice_index_or n.lent 0 name) same

-- ---- what is so known of the device that is handed back

-- images that fit the events fit them by what they mean
AllFit-map : (f : List Block → List Block) (read : List Block → Decoded) (cycles : ℕ) (s : Found) (events : List Event)
    (left : List (List Block)) → AllFit read (HasLeft cycles) s events (map f left)
    → AllFit (λ g. read (f g)) (HasLeft cycles) s events left
AllFit-map f read cycles s [] [] h = (refl, h.1)
AllFit-map f read cycles s [] (g ∷ left) h = absurd (let none : f g ∷ map f left ≡ [] = h.0 in cc)
AllFit-map f read cycles s (Cut index cycle ∷ vs) [] h = h
AllFit-map f read cycles s (Cut index cycle ∷ vs) (g ∷ left) h = (h.0, AllFit-map f read cycles (found (read (f g)) (Some cycle)) vs left h.1)
AllFit-map f read cycles s (EpochEnd epoch count cause turns ∷ vs) left h = (h.0, AllFit-map f read cycles (found s.means None) vs left h.1)
AllFit-map f read cycles s (Commit epoch cycle overlapped ∷ vs) left h = (h.0, AllFit-map f read cycles (found s.means None) vs left h.1)
AllFit-map f read cycles s (Restart epoch count state ∷ vs) left h = (h.0, AllFit-map f read cycles (found s.means None) vs left h.1)
AllFit-map f read cycles s (Reload ∷ vs) left h = (h.0, AllFit-map f read cycles (found s.means None) vs left h.1)
AllFit-map f read cycles s (Scheme number ∷ vs) left h = (h.0, AllFit-map f read cycles (found s.means None) vs left h.1)
AllFit-map f read cycles s (Ended status count cycle state ∷ vs) left h = (h.0, AllFit-map f read cycles (found s.means None) vs left h.1)

-- what a save leaves after the images of a run
record AreImages (saved : ℕ) (stood left : Device) : Type 0 where
  first : take (length stood.left) left.left ≡ stood.left
  many : length left.left ≡ length stood.left + saved

images_none : (stood left : Device) → left ≡ stood → AreImages 0 stood left
images_none stood left same = record {
  first = ap (λ (n : Device). take (length stood.left) n.left) same ∙ take_all (length stood.left) stood.left (omega arith);
  many = omega (arith, ap (λ (n : Device). length n.left) same);
}

images_one : (pick : ℕ) (stood left : Device) → IsCut pick stood left → AreImages 1 stood left
images_one pick stood left cut =
    let is : left.left ≡ stood.left ++ left.image ∷ [] = ap (λ (n : Device). n.left) cut.device in
    record {
      first = ap (take (length stood.left)) is ∙ take-append-le (length stood.left) stood.left (left.image ∷ []) (omega arith)
          ∙ take_all (length stood.left) stood.left (omega arith);
      many = ap length is ∙ length-append stood.left (left.image ∷ []);
    }

images_of : (name : Option (List ℕ)) (due : Bool) (c : Config) (stood left : Device) (old new : Stock) (why : Option PutError)
    → SavesUnder name due c stood left old new why
    → AreImages (images_of_save name due) stood left
images_of (Some name) true c stood left old new why h = images_one (save_pick c) stood left h.0
images_of (Some name) false c stood left old new why h = images_none stood left h.0
images_of None true c stood left old new why h = images_none stood left h.0
images_of None false c stood left old new why h = images_none stood left h.0

IsHandedBack-left : {M : Type 0} (K : KindOf M) (o : Origin) (given : Given) (gap cycles saved : ℕ) (events : List Event)
    (handed stood left : Device) → IsLeftAs gap handed left
    → AreImages saved stood left → Promise K o given cycles events stood → IsSafeFor K o events left
    → IsHandedBack K o gap cycles events saved handed
IsHandedBack-left K o given gap cycles saved events handed stood left is images promise safe =
    let k : ℕ = length (cuts_among events) in
    let many : length stood.left ≡ k = promise.room.kept in
    let mine : map (through gap) (take k handed.left) ≡ stood.left =
    sym (take-map (through gap) k handed.left) ∙ ap (take k) is.left ∙ ap (λ i. take i left.left) (sym many) ∙ images.first in
    record {
      safe_at_return = λ g c. safe (through gap g) (is.crash g c);
      restarts_decode =
          AllFit-map (through gap) (K.decode o.geometry ceiling) cycles (found_at_start o) events (take k handed.left)
          (subst (AllFit (K.decode o.geometry ceiling) (HasLeft cycles) (found_at_start o) events) (sym mine) promise.restarts_decode);
      images = omega (arith, sym (length-map handed.left (through gap)), ap length is.left, images.many, many);
    }

PutsThrough-saved : (gap : ℕ) (name : Option (List ℕ)) (due : Bool) (c : Config) (handed stood left : Device) (old new : Stock)
    (why : Option PutError) → IsLeftAs gap handed left
    → SavesUnder name due c stood left old new why → PutsThrough gap name due handed old new why
PutsThrough-saved gap (Some name) true c handed stood left old new why is h = subst (λ g. IsPut name (flat g) old new why) (sym is.image) h.1
PutsThrough-saved gap (Some name) false c handed stood left old new why is h = (h.1, h.2)
PutsThrough-saved gap None true c handed stood left old new why is h = (h.1, h.2)
PutsThrough-saved gap None false c handed stood left old new why is h = (h.1, h.2)

-- a run over the device that it sees is one over the device that was handed in
pub RunOverSeen-seen : {M O : Type 0} (K : KindOf M) (has_seen : O → List Taken → Type 0) (source : ProgramSource) (job : Job)
    (before : Outside) (program : IsProgram source job before.shelf) (after : Outside) (found left : Device) (ran : Ran) (observer : O)
    → IsFoundAs job.config.gap before.device found → IsLeftAs job.config.gap after.device left
    → ((h : IsRunOf K source job (with_device found before) program (with_device left after) (answer_of ran)) × (h.ending.stop ≡ ran.stop)
    × HasSeenOf K has_seen source job (with_device found before) program (with_device left after) (answer_of ran) h observer)
    → RunOverSeen K has_seen source job before program after ran observer
RunOverSeen-seen K has_seen source job before program after found left ran observer is_found is_left (run, stops, has) = (
  record {
    found = found;
    left = left;
    is_found = is_found;
    is_left = is_left;
    seen = run;
    back =
        IsHandedBack-left K (origin_for job program.begins program.input) (given_for K job program.begins found) job.config.gap ran.cycles
        (images_of_save job.save (saves run.ending.stop)) ran.events after.device run.stood left is_left
        (images_of job.save (saves run.ending.stop) job.config run.stood left before.shelf after.shelf run.why run.saved) run.promise run.safe;
    put = PutsThrough-saved job.config.gap job.save
        (saves run.ending.stop) job.config after.device run.stood left before.shelf after.shelf run.why is_left run.saved;
  },
  stops,
  has,
)

-- ---- blocks and loans

stayed_saved : (name : Option (List ℕ)) (due : Bool) (c : Config) (stood left : Device) (old new : Stock) (why : Option PutError)
    → SavesUnder name due c stood left old new why → HasStayed stood left
stayed_saved (Some name) true c stood left old new why h = record {
  blocks = h.0.crash.same_length;
  lent = ap (λ (n : Device). n.lent) h.0.device;
  every = every-cut stood.down stood.wear left.wear h.0.wear;
}
stayed_saved (Some name) false c stood left old new why h = record {
  blocks = ap (λ (n : Device). length n.image) h.0;
  lent = ap (λ (n : Device). n.lent) h.0;
  every = ap (λ (n : Device). every_of n.wear) h.0;
}
stayed_saved None true c stood left old new why h = record {
  blocks = ap (λ (n : Device). length n.image) h.0;
  lent = ap (λ (n : Device). n.lent) h.0;
  every = ap (λ (n : Device). every_of n.wear) h.0;
}
stayed_saved None false c stood left old new why h = record {
  blocks = ap (λ (n : Device). length n.image) h.0;
  lent = ap (λ (n : Device). n.lent) h.0;
  every = ap (λ (n : Device). every_of n.wear) h.0;
}

-- a run and a save leave a device with the same number of blocks, reached by the same loans
pub HasStayed-ran : {M : Type 0} (K : KindOf M) (o : Origin) (given : Given) (cycles : ℕ) (events : List Event) (name : Option (List ℕ))
    (due : Bool) (c : Config) (stood left : Device) (old new : Stock) (why : Option PutError)
    → Promise K o given cycles events stood → SavesUnder name due c stood left old new why → HasStayed given.fitted left
HasStayed-ran K o given cycles events name due c stood left old new why promise saved =
    let last : HasStayed stood left = stayed_saved name due c stood left old new why saved in
    record { blocks = last.blocks ∙ promise.room.blocks; lent = last.lent ∙ promise.room.lent; every = last.every ∙ promise.room.every }
