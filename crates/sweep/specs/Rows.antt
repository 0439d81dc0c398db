-- What the images led to that were tried of one cycle, and which these are.
use Rattle.std.specs.Prelude.{◌≡◌, ℕ, ◌-◌, ◌^◌, ◌<◌, ◌==◌, ◌&&◌, min, nat_lt, nat_le, Bool, true, false, if◌then◌else◌, MatchBool, List, [], ◌∷◌, ◌++◌, length, map, slice_index_or, Option, Some, None}
use Rattle.std.specs.List.{AllByRecursion}
use Rattle.thy_block.specs.declared.block.Block.{Block}
use Rattle.thy_block.specs.declared.mix.Mix.{Mix}
use Rattle.thy_block.specs.Counts.{next}
use Rattle.thy_block.specs.Device.{Device}
use Rattle.thy_gap.specs.Seen.{seen_as}
use Rattle.thy_nvm.specs.Calls.{is_listed}
use Rattle.thy_nvm.specs.Pick.{picked}
use Rattle.thy_run.specs.declared.plan.Plan.{Plan}
use Rattle.thy_run.specs.Going.{origin_of}
use Rattle.thy_run.specs.World.{World}
use Rattle.thy_sweep.specs.declared.lead.Booted.{Booted}
use Rattle.thy_sweep.specs.declared.lead.Lead.{Lead}
use Rattle.thy_sweep.specs.Choices.{Place, chosen, count_of, places_of}
use Rattle.thy_sweep.specs.Images.{crash_images}
use Rattle.thy_sweep.specs.Leads.{noted}
use Rattle.thy_sweep.specs.Lying.{Lying}
use Rattle.thy_sweep.specs.declared.trial.part.Part.{Part}
use Rattle.thy_sweep.specs.declared.trial.part.Restored.{Restored}
use Rattle.thy_sweep.specs.Rooms.{IsRunAt, counted_at, number_by}
use Rattle.thy_sweep.specs.Trials.{FewBefore, IsTried}
use Rattle.thy_computer.specs.Kind.{KindOf}
use Rattle.sweep.specs.declared.asked.Asked.{Asked}
use Rattle.sweep.specs.declared.row.Row.{Row}
use Rattle.sweep.specs.Sweeping.{most_cycles}

-- an image of the device in memory that was tried: the pick of its DRAM, the image, how its boot ended, and what was read of the state
-- that was restored
pub record Try : Type 0 where
  pub pick : ℕ
  pub image : List Block
  pub booted : Option Booted
  pub state : Option Restored

-- it was, as what it is to the run, from each run that is here, and as much was read
abbrev pub WasTried : {M : Type 0} → KindOf M → Part → Plan → Lying → Mix → Try → Type 0
WasTried {M = M} K part plan d mix t =
    (w : World M) → IsRunAt K (origin_of plan) w d.seen mix → FewBefore w most_cycles
    → IsTried K (origin_of plan) t.pick part (seen_as d.levels t.image) w most_cycles t.booted t.state

-- a boot that ended is noted
abbrev pub noted_if : Option Booted → List Lead → List Lead
noted_if None leads = leads
noted_if (Some b) leads = noted b leads

-- the leads after the boots of these images were noted, in order
abbrev pub noted_all : List Try → List Lead → List Lead
noted_all [] leads = leads
noted_all (t ∷ ts) leads = noted_all ts (noted_if t.booted leads)

-- the number of images tried, after these
abbrev pub tried_all : List Try → ℕ → ℕ
tried_all [] tried = tried
tried_all (t ∷ ts) tried = tried_all ts (next tried)

-- Images were tried, each as after a cut of the run, and a row has their boots in addition.
pub record HasTried {M : Type 0} (K : KindOf M) (part : Part) (plan : Plan) (d : Lying) (mix : Mix) (tries : List Try) (old new : Row) : Type 0 where
  pub each : AllByRecursion (WasTried K part plan d mix) tries
  pub leads : new.leads.items ≡ noted_all tries old.leads.items
  pub tried : new.tried ≡ tried_all tries old.tried
  pub first : new.first ≡ old.first
  pub last : new.last ≡ old.last
  pub queued : new.queued ≡ old.queued
  pub images : new.images ≡ old.images

-- ---- which images are tried

-- how many picks are asked for, and the pick at a position: those that are listed; if none is, those below the number of all
abbrev pub picks_of : Asked → ℕ
picks_of a = if length a.picks.items == 0 then a.all else length a.picks.items

abbrev pub pick_of : Asked → ℕ → ℕ
pick_of a i = slice_index_or a.picks.items i i

-- the numbers of images that were tried, as they are counted
abbrev pub numbers_of : Device → List Try → List ℕ
numbers_of n = map (λ (t : Try). counted_at n t.image)

-- no number is listed twice
abbrev pub AreApart : List ℕ → Type 0
AreApart [] = Unit {0}
AreApart (k ∷ ks) = (is_listed k ks ≡ false) × AreApart ks

-- the image of a pick was tried
abbrev pub IsOfPick : Device → ℕ → Try → Type 0
IsOfPick n pick t = (t.pick ≡ pick) × (t.image ≡ picked n.whole pick n.image n.queue)

-- The image of a pick was tried, and its number is listed then; or it was not, and its number was listed already.
pub record NotesPick {M : Type 0} (K : KindOf M) (part : Part) (plan : Plan) (d : Lying) (mix : Mix) (pick : ℕ) (listed listing : List ℕ) (old new : Row) : Type 0 where
  pub tries : List Try
  pub has : HasTried K part plan d mix tries old new
  pub are : AllByRecursion (IsOfPick d.memory pick) tries
  pub lists : listing ≡ listed ++ numbers_of d.memory tries
  pub known : is_listed (number_by pick d.memory) listing ≡ true
  pub apart : d.memory.whole ≡ true → AreApart listed → AreApart listing

-- the image of a number was tried
pub record NotesNumber {M : Type 0} (K : KindOf M) (part : Part) (plan : Plan) (d : Lying) (mix : Mix) (number : ℕ) (old new : Row) : Type 0 where
  pub one : Try
  pub has : HasTried K part plan d mix (one ∷ []) old new
  pub is : one.image ≡ chosen (places_of d.memory) number d.memory.image

-- the image is one of a pick that is asked for
abbrev pub IsOfPicks : Asked → Device → ℕ → Try → Type 0
IsOfPicks a n count t = (i : ℕ) × (i < count) × IsOfPick n (pick_of a i) t

-- Of this number of picks that are asked for each image was tried, by its number, and no other. If blocks land whole, none was
-- tried twice.
pub record TriesPicks {M : Type 0} (K : KindOf M) (plan : Plan) (d : Lying) (mix : Mix) (a : Asked) (count : ℕ) (old new : Row) : Type 0 where
  pub tries : List Try
  pub has : HasTried K a.compared plan d mix tries old new
  pub every : (i : ℕ) → i < count → is_listed (number_by (pick_of a i) d.memory) (numbers_of d.memory tries) ≡ true
  pub only : AllByRecursion (IsOfPicks a d.memory count) tries
  pub apart : d.memory.whole ≡ true → AreApart (numbers_of d.memory tries)

-- these images were tried, in this order
pub record TriesImages {M : Type 0} (K : KindOf M) (part : Part) (plan : Plan) (d : Lying) (mix : Mix) (images : List (List Block)) (old new : Row) : Type 0 where
  pub tries : List Try
  pub has : HasTried K part plan d mix tries old new
  pub are : map (λ (t : Try). t.image) tries ≡ images

-- the images of these places are all to be tried: there are at most the number that is asked for
abbrev pub wants : ℕ → List Place → Bool
wants all places = nat_lt 0 all && nat_le (min (count_of places) (2 ^ 128 - 1)) all

-- the images that are asked for were tried: every one that a cut can leave, or the images of the picks
abbrev pub TriesAsked : {M : Type 0} → KindOf M → Plan → Lying → Mix → Asked → Row → Row → Type 0
TriesAsked K plan d mix a old new =
    MatchBool (wants a.all (places_of d.memory)) (TriesImages K a.compared plan d mix (crash_images d.memory) old new)
    (TriesPicks K plan d mix a (picks_of a) old new)
