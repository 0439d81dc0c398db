-- The journal is a scheme of lawful parts: what holds of its checkpoints.
use Rattle.std.proofs.Common.{◌≡◌, ◌≢◌, ℕ, ◌+◌, ◌-◌, ◌%◌, ◌^◌, ◌<◌, ◌≤◌, Bool, true, false, List, ◌∷◌, length, map, Option, Some, None, is_none, refl, sym, ◌∙◌, ap, subst, inl, inr, arith}
use Rattle.std.proofs.lemmas.List.FromFn.{length-map-range_with_len}
use Rattle.std.proofs.lemmas.List.Sums.{count_by-le-length}
use Rattle.thy_block.specs.declared.block.Block.{Block}
use Rattle.thy_block.specs.declared.parameters.Parameters.{Parameters}
use Rattle.thy_block.specs.Device.{Device, block_at, newest, written_to}
use Rattle.thy_block.specs.Geometry.{memory_blocks}
use Rattle.thy_block.proofs.BasicLemmas.{not_first}
use Rattle.thy_block.proofs.DeviceLemmas.{length-written_to}
use Rattle.thy_layout.specs.Commit.{commit_of, epoch_of}
use Rattle.thy_layout.specs.Entries.{Lists}
use Rattle.thy_layout.specs.Layout.{slot_in, looked_by}
use Rattle.thy_layout.proofs.AskingLemmas.{half}
use Rattle.thy_layout.proofs.ReadBackLemmas.{epoch_of-commit_of}
use Rattle.thy_table.specs.Listing.{free_count}
use Rattle.thy_table.proofs.ListingLaws.{free_count-all, free_count-mapped, IsListing-free}
use Rattle.thy_computer.specs.Safe.{ceiling}
use Rattle.thy_images.specs.JournalCheckpointParts.{ReadsBack, HoldsCheckpoint, memory_places}
use Rattle.thy_images.specs.JournalFree.{Target, SlotBlock, JournalBlock, HomeBlock, target_place, IsTarget, IsFree}
use Rattle.thy_images.specs.JournalLayout.{journal_layouts}
use Rattle.thy_images.specs.JournalPlaces.{slot_blocks, slot_place, first_home, image_blocks, home_place, journal_place}
use Rattle.thy_images.specs.JournalSlots.{IsTable, table_in, slot_fault}
use Rattle.thy_images.proofs.JournalFreeLemmas.{free_not_looked}
use Rattle.thy_images.proofs.JournalPartsLemmas.{slot_behind}
use Rattle.thy_images.proofs.JournalSlotLemmas.{slot_reads_back}
use Rattle.thy_journal_parts.specs.declared.entry.Listed.{Listed}
use Rattle.thy_journal_parts.specs.Holding.{works, homes}
use Rattle.thy_journal_parts.specs.Items.{next_live, block_listed}
use Rattle.thy_journal_parts.specs.Keys.{block_key, freed}
use Rattle.thy_journal_parts.specs.State.{State, IsSoundState, table_of, buffer_of, home_of, work_of}
use Rattle.thy_journal_parts.specs.Stores.{after_drain, released}
use Rattle.thy_journal_parts.proofs.DrainLemmas.{works_drained, IsSoundState-drained}
use Rattle.thy_journal_parts.proofs.StateLemmas.{IsSoundState-table, length-mapped}
use Rattle.thy_journal_parts.proofs.TableLemmas.{IsTable-table_of, live_at, live_again, live_lists}
use Rattle.thy_journal_parts.proofs.LawLemmas.{log_is_filled}
use Rattle.thy_checkpoint.specs.Items.{AreItems, GoesTo, Phase, Resting, Making, Made, Applying}
use Rattle.thy_checkpoint.specs.Progress.{Progress}
use Rattle.thy_scheme_parts.specs.IsDesign.{IsDesign, CanRecord, IsSpared}
use Rattle.thy_scheme_parts.specs.Moments.{IsMoment, Carries, Commits, SealsTo, ReadsSame, IsOwn, slot_list, parts_at}
use Rattle.thy_scheme_parts.proofs.SameLemmas.{moment_of, carried, makes_alike}
use Rattle.thy_journal_parts.specs.Design.{items_journal, holds, IsKeptBy, committed_at, rests_at, journal_design}
use Rattle.thy_journal_parts.proofs.PhaseLemmas.{aside_journal, IsAside, works_over, homes_over, journaled_over, journaled_on, journaled_past, journaled_all, journaled_reads, memory_is_work, works_home, home_on, home_past, home_reads, homes_are_works, works_reads, homes_reads}
use Rattle.thy_journal_parts.proofs.WorkLemmas.{none_left, works-released}

-- ---- items

pub released_sound : (s : State) → IsSoundState s → IsSoundState (released s)
released_sound s h =
    IsSoundState-table s.p s.table (released s).table s.dram h (length-mapped s.table) refl
    (IsListing-free block_key (released s).table (none_left s))

goes_on : (phase : Phase) (s : State) → IsSoundState s → GoesTo (journal_design).filling items_journal phase s s
goes_on phase s h = record { same_p = refl; dram = refl; stands = h }

counts : (s : State) (from k : ℕ) → IsSoundState s → next_live from s ≡ Some k → s.p.btt - (k + 1) + 1 ≤ s.p.btt - from
counts s from k sound found =
    let at = live_at s from k sound found in omega (arith, at.0, at.1)

pub items_are : AreItems (journal_design).filling items_journal
items_are = record {
  body_onwards = λ s from k sound found. (live_again s from k found, sound);
  tail_onwards = λ s from k sound found. ((live_at s from k sound found).0, live_again s from k found, sound);
  body = λ s k sound found. goes_on (Making (k + 1)) s sound;
  body_ends = λ s from sound none. sound;
  commits = λ s sound. goes_on (Applying 0) s sound;
  tail = λ s k sound found. goes_on (Applying (k + 1)) s sound;
  releases = λ s from sound none. record { same_p = refl; dram = refl; stands = released_sound s sound };
  body_counts = counts;
  tail_counts = counts;
  steps = λ p k. inl refl;
  body_most = λ s from sound. omega arith;
  tail_most = λ p from. omega arith;
  tail_follows = λ s from sound. refl;
}

-- ---- sizes

pub length-works : (s : State) (n : Device) → length (works s n) ≡ memory_blocks s.p
length-works s n = length-map-range_with_len (work_of s n) 0 (memory_blocks s.p)

pub length-homes : (s : State) (n : Device) → length (homes s n) ≡ memory_blocks s.p
length-homes s n = length-map-range_with_len (home_of s n) 0 (memory_blocks s.p)

length-committed : (phase : Phase) (s : State) (n : Device) → length (committed_at phase s n) ≡ memory_blocks s.p
length-committed (Applying from) s n = length-works s n
length-committed phase s n = length-homes s n

free-few : (s : State) → IsSoundState s → free_count s.table ≤ s.p.btt
free-few s sound = omega (arith, count_by-le-length (λ (o : Option Listed). is_none o) s.table.entries, sound.size)

-- a table has room for two stores
some-free : (s : State) → IsSoundState s → free_count s.table ≡ length s.table.entries
    → 2 ≤ free_count s.table
some-free s sound free = let range = sound.range in let size = sound.size in omega (arith, free, size)

-- ---- by phase

holds_drained : (phase : Phase) (epoch : ℕ) (s : State) (n : Device) → holds phase epoch s n → holds phase epoch (after_drain s) n
holds_drained Resting epoch s n h = tt
holds_drained phase epoch s n h = record { each = h.each }

committed_drained : (phase : Phase) (s : State) (n : Device) → committed_at phase (after_drain s) n ≡ committed_at phase s n
committed_drained (Applying from) s n = works_drained s n
committed_drained phase s n = refl

holds_reads : (phase : Phase) (epoch : ℕ) (s : State) (n m : Device) → IsSoundState s → length n.image ≡ image_blocks s.p → ReadsSame n m
    → holds phase epoch s n → holds phase epoch s m
holds_reads Resting epoch s n m sound sized r h = tt
holds_reads (Making from) epoch s n m sound sized r h = journaled_reads epoch s n sound sized m from r.reads h
holds_reads Made epoch s n m sound sized r h = journaled_reads epoch s n sound sized m s.p.btt r.reads h
holds_reads (Applying from) epoch s n m sound sized r h = home_reads s n sound sized m from r.reads h

committed_reads : (phase : Phase) (s : State) (n m : Device) → IsSoundState s → length n.image ≡ image_blocks s.p → ReadsSame n m
    → committed_at phase s m ≡ committed_at phase s n
committed_reads (Applying from) s n m sound sized r = works_reads s n sound sized m r.reads
committed_reads phase s n m sound sized r = homes_reads s n sound sized m r.reads

-- ---- an image keeps its table from one position to the next

keeps_making : (epoch from to : ℕ) (s : State) (g : List Block) → IsKeptBy (Making from) epoch s g → IsKeptBy (Making to) epoch s g
keeps_making epoch from to s g h = record { kept = h.kept; table = h.table; meant = h.meant; other = h.other; applied = tt }

keeps_applying : (epoch from to : ℕ) (s : State) (g : List Block) → IsKeptBy (Applying from) epoch s g → IsKeptBy (Applying to) epoch s g
keeps_applying epoch from to s g h = record { kept = h.kept; table = h.table; meant = h.meant; other = tt; applied = h.applied }

-- ---- what is free

spared : (s : State) (g : List Block) (epoch : ℕ) (table : List (Option ℕ)) (x : Target) → HoldsCheckpoint s.p g epoch table
    → IsTarget s.p x → IsFree epoch table x
    → target_place s.p x ≢ 0 → IsSpared journal_design s g (target_place s.p x)
spared s g epoch table x meant there free low inside =
    free_not_looked s.p g epoch table x meant there free
    (not_first (target_place s.p x) 0 (1 ∷ looked_by (journal_layouts s.p) g) (λ e. low (sym e)) inside)

-- ---- the slot

module _ (e : Progress) (s : State) (n : Device) (moment : IsMoment journal_design Made e.epoch s n)
    (can : CanRecord journal_design e s) where
  abbrev slot : List Block
  slot = slot_list journal_design e s

  below : e.epoch < 2 ^ 64
  below = let small = can.small in omega (arith, small)

  whole : IsTable e.p (table_of s)
  whole = subst (λ (p : Parameters). IsTable p (table_of s)) can.same_p (IsTable-table_of s moment.sound)

  back : ReadsBack e.p ceiling e.cpu (table_of s) e.epoch slot
  back = slot_reads_back e.p ceiling e.cpu (table_of s) e.epoch can.range can.recordable whole (omega arith) below

  epoch_is : epoch_of (commit_of e.epoch) ≡ e.epoch
  epoch_is = epoch_of-commit_of e.epoch below

  pub slot_fits : (journal_layouts e.p).slot_bad ceiling (commit_of e.epoch) slot ≡ None
  slot_fits = ap (λ (k : ℕ). slot_fault e.p ceiling k slot) epoch_is ∙ back.faultless

  pub slot_makes : (g : List Block) → block_at g 1 ≡ commit_of e.epoch → slot_in (journal_layouts e.p) g ≡ slot
      → HoldsCheckpoint s.p g e.epoch (table_of s)
  slot_makes g commit is = record {
    of_epoch = ap epoch_of commit ∙ epoch_is;
    table_is =
        subst (λ (p : Parameters). table_in p (slot_in (journal_layouts p) g) ≡ table_of s) (sym can.same_p)
        (ap (table_in e.p) is ∙ back.table_back);
    whole = IsTable-table_of s moment.sound;
  }

  -- the slot of a checkpoint is at the place of its epoch's slot
  place_is : (k : ℕ) → (journal_layouts e.p).slot_place (commit_of e.epoch) + k ≡ slot_place s.p (e.epoch % 2) + k
  place_is k =
      ap (λ (x : ℕ). slot_place e.p (x % 2) + k) epoch_is ∙ ap (λ (p : Parameters). slot_place p (e.epoch % 2) + k) (sym can.same_p)

  pub slot_spared : (g : List Block) (k : ℕ) → IsKeptBy Made e.epoch s g → k < slot_blocks e.p
      → IsSpared journal_design s g ((journal_layouts e.p).slot_place (commit_of e.epoch) + k)
  slot_spared g k keeps l =
      subst (IsSpared journal_design s g) (sym (place_is k))
      (spared s g keeps.kept keeps.table (SlotBlock (e.epoch % 2) k) keeps.meant
      (half e.epoch, subst (λ (p : Parameters). k < slot_blocks p) (sym can.same_p) l) keeps.other (λ q. omega (arith, q)))

  -- memory reads at its places by the slot as it was sealed
  pub made_reads : map (newest n) (parts_at journal_design e s).memory ≡ works s n
  made_reads =
      ap (λ (x : ℕ). map (newest n) (memory_places e.p (x % 2) (table_in e.p slot))) epoch_is
      ∙ ap (λ (t : List (Option ℕ)). map (newest n) (memory_places e.p (e.epoch % 2) t)) back.table_back
      ∙ ap (λ (p : Parameters). map (newest n) (memory_places p (e.epoch % 2) (table_of s))) (sym can.same_p)
      ∙ memory_is_work e.epoch s n moment.sound moment.sized moment.holds

-- ---- a write of the slot's own, or of the commit block

-- a write before the homes leaves memory and the journals
over_before : (epoch : ℕ) (s : State) (n : Device) → IsMoment journal_design Made epoch s n
    → (x : ℕ) (block : Block) → x < first_home s.p
    → Carries journal_design epoch Made s n Made s (written_to n x block)
over_before epoch s n moment x block low =
    let m : Device = written_to n x block in
    let aside : IsAside s x = λ b l q. omega (arith, low, q) in
    let same : works s m ≡ works s n = works_over s n moment.sized x block aside in
    let there =
    journaled_over epoch s n moment.sound moment.sized s.p.btt x block
    (λ i l q. omega (arith, low, q)) moment.holds in
    carried (moment_of moment (length-written_to n x block) moment.stands there) same same
    (homes_over s n moment.sized x block aside) (λ g h. h) (λ g h. h) (λ a b r. r) (omega arith)

own_before : (e : Progress) (p : Parameters) (x : ℕ) → p ≡ e.p → IsOwn journal_design e x
    → x < first_home p
own_before e p x same (inl commit) = omega (arith, commit)
own_before e p x same (inr (k, l, is)) =
    let epoch : ℕ = epoch_of (commit_of e.epoch) in
    let before = (slot_behind e.p (epoch % 2) k (half epoch) l).1 in
    subst (λ (q : Parameters). x < first_home q) (sym same) (omega (arith, before, is))

own_carried : (e : Progress) (s : State) (n : Device) (x : ℕ) (block : Block) → IsMoment journal_design Made e.epoch s n → s.p ≡ e.p
    → IsOwn journal_design e x
    → Carries journal_design e.epoch Made s n Made s (written_to n x block)
own_carried e s n x block moment same own =
    over_before e.epoch s n moment x block (own_before e s.p x same own)

-- ---- the body, the commit, and the tail

module _ (epoch : ℕ) (s : State) (n : Device) where
  body_carried : (i : ℕ) → IsMoment journal_design (Making i) epoch s n → next_live i s ≡ Some i
      → Carries journal_design epoch (Making i) s n (Making (i + 1)) s (written_to n (journal_place s.p (epoch % 2) i) (buffer_of s i))
  body_carried i moment found =
      let x : ℕ = journal_place s.p (epoch % 2) i in
      let m : Device = written_to n x (buffer_of s i) in
      let aside : IsAside s x = aside_journal s (epoch % 2) i in
      let same : works s m ≡ works s n = works_over s n moment.sized x (buffer_of s i) aside in
      let there = journaled_on epoch s n moment.sound moment.sized i found moment.holds in
      carried (moment_of moment (length-written_to n x (buffer_of s i)) moment.stands there) same
      same (homes_over s n moment.sized x (buffer_of s i) aside) (keeps_making epoch i (i + 1) s)
      (λ g h. h) (λ a b r. tt) (omega arith)

  body_spares : (i : ℕ) (g : List Block) → IsMoment journal_design (Making i) epoch s n
      → next_live i s ≡ Some i
      → IsKeptBy (Making i) epoch s g → IsSpared journal_design s g (journal_place s.p (epoch % 2) i)
  body_spares i g moment found keeps =
      spared s g keeps.kept keeps.table (JournalBlock (epoch % 2) i) keeps.meant (half epoch, (live_at s i i moment.sound found).1) keeps.other
      (λ q. omega (arith, q))

  body_past : (from k : ℕ) → IsMoment journal_design (Making from) epoch s n
      → next_live from s ≡ Some k
      → Carries journal_design epoch (Making from) s n (Making k) s n
  body_past from k moment found =
      let there = journaled_past epoch s n moment.sound moment.sized from k found moment.holds in
      carried (moment_of moment refl moment.stands there) refl refl refl
      (keeps_making epoch from k s) (λ g h. h) (λ a b r. tt) (omega arith)

  body_whole : (from : ℕ) → IsMoment journal_design (Making from) epoch s n
      → next_live from s ≡ None
      → Carries journal_design epoch (Making from) s n Made s n
  body_whole from moment none =
      let there = journaled_all epoch s n moment.sound moment.sized from none moment.holds in
      carried (moment_of moment refl moment.stands there) refl refl refl
      (λ g h. record { kept = h.kept; table = h.table; meant = h.meant; other = h.other; applied = tt })
      (λ g no. absurd no) (λ a b r. tt) (omega arith)

  commits_to : IsMoment journal_design Made epoch s n
      → Commits journal_design epoch s n (Applying 0) s n
  commits_to moment = record {
    moment =
        moment_of moment refl moment.stands
        (record { each = λ i b low lists. absurd (omega (arith, low)) });
    same_p = refl;
    room = refl;
    loads = refl;
    committed = refl;
    keeps = λ g meant. record { kept = epoch; table = table_of s; meant = meant; other = tt; applied = refl };
    rests = λ a b r. tt;
    free = omega arith;
    opened = inl refl;
    owed_later = omega arith;
    pages = record { whole = λ h. h; merges = omega arith; promotions = omega arith };
  }

  tail_carried : (i : ℕ) → IsMoment journal_design (Applying i) epoch s n → next_live i s ≡ Some i
      → Carries journal_design epoch (Applying i) s n (Applying (i + 1)) s (written_to n (home_place s.p (block_listed i s)) (buffer_of s i))
  tail_carried i moment found =
      let x : ℕ = home_place s.p (block_listed i s) in
      let m : Device = written_to n x (buffer_of s i) in
      let same : works s m ≡ works s n = works_home s n moment.sound moment.sized i found in
      let there = home_on s n moment.sound moment.sized i found moment.holds in
      carried (moment_of moment (length-written_to n x (buffer_of s i)) moment.stands there) same
      same same (keeps_applying epoch i (i + 1) s) (λ g h. h) (λ a b r. tt) (omega arith)

  tail_spares : (i : ℕ) (g : List Block) → IsMoment journal_design (Applying i) epoch s n
      → next_live i s ≡ Some i
      → IsKeptBy (Applying i) epoch s g → IsSpared journal_design s g (home_place s.p (block_listed i s))
  tail_spares i g moment found keeps =
      let lists = live_lists s i i moment.sound found in
      spared s g keeps.kept keeps.table (HomeBlock (block_listed i s)) keeps.meant
      ((IsTable-table_of s moment.sound).blocks i (block_listed i s) lists)
      (i, subst (λ (t : List (Option ℕ)). Lists t i (block_listed i s)) (sym keeps.applied) lists) (λ q. omega (arith, q))

  tail_past : (from k : ℕ) → IsMoment journal_design (Applying from) epoch s n
      → next_live from s ≡ Some k
      → Carries journal_design epoch (Applying from) s n (Applying k) s n
  tail_past from k moment found =
      let there = home_past s n moment.sound moment.sized from k found moment.holds in
      carried (moment_of moment refl moment.stands there) refl refl refl
      (keeps_applying epoch from k s) (λ g h. h) (λ a b r. tt) (omega arith)

  rests_released : (a : Bool) → rests_at Resting a (released s).table
  rests_released true = free_count-all (released s).table.entries (none_left s)
  rests_released false = tt

  tail_ends : (from : ℕ) → IsMoment journal_design (Applying from) epoch s n
      → next_live from s ≡ None
      → Carries journal_design epoch (Applying from) s n Resting (released s) n
  tail_ends from moment none =
      let home : homes s n ≡ works s n = homes_are_works s n moment.sound moment.sized from none moment.holds in
      let same : works (released s) n ≡ works s n = works-released s n ∙ home in
      record {
        moment = record { sound = released_sound s moment.sound; sized = moment.sized; stands = released_sound s moment.sound; holds = tt };
        same_p = refl;
        room = refl;
        loads = same;
        sealed = same;
        committed = home;
        keeps = λ g h. record { kept = h.kept; table = h.table; meant = h.meant; other = tt; applied = tt };
        makes = λ g h. h;
        rests = λ a b r. rests_released a;
        free = free_count-mapped freed s.table;
        opened = inl refl;
        owed = omega arith;
        owed_later = omega arith;
        pages = record { whole = λ h. h; merges = omega arith; promotions = omega arith };
      }

-- ---- the seal, and devices

seals_to : (before epoch : ℕ) (s : State) (n : Device) → IsMoment journal_design Resting before s n
    → SealsTo journal_design before epoch s s n
seals_to before epoch s n moment = record {
  moment =
      moment_of moment refl moment.stands
      (record { each = λ i b low lists. absurd (omega (arith, low)) });
  same_p = refl;
  dram = refl;
  loads = refl;
  sealed = refl;
  committed = refl;
  keeps = λ g next h. record {
    kept = h.kept;
    table = h.table;
    meant = h.meant;
    other = λ q. let of = h.meant.of_epoch in omega (arith, next, of, q);
    applied = tt;
  };
  rests = λ a b r. tt;
  free = omega arith;
  opened = inl refl;
}

reads_carried : (phase : Phase) (epoch : ℕ) (s : State) (n m : Device) → IsMoment journal_design phase epoch s n → ReadsSame n m
    → Carries journal_design epoch phase s n phase s m
reads_carried phase epoch s n m moment r =
    let same : works s m ≡ works s n = works_reads s n moment.sound moment.sized m r.reads in
    let there = holds_reads phase epoch s n m moment.sound moment.sized r moment.holds in
    carried (moment_of moment r.as_long moment.stands there) same same
    (committed_reads phase s n m moment.sound moment.sized r) (λ g h. h) (λ g h. h) (λ a b r. r)
    (omega arith)

drain_carried : (phase : Phase) (epoch : ℕ) (s : State) (n : Device) → IsMoment journal_design phase epoch s n
    → Carries journal_design epoch phase s n phase (after_drain s) n
drain_carried phase epoch s n moment =
    let sound : IsSoundState (after_drain s) = IsSoundState-drained s moment.sound in
    record {
      moment = record {
        sound = sound;
        sized = moment.sized;
        stands = sound;
        holds = holds_drained phase epoch s n moment.holds;
      };
      same_p = refl;
      room = refl;
      loads = works_drained s n;
      sealed = works_drained s n;
      committed = committed_drained phase s n;
      keeps = λ g h. record {
        kept = h.kept;
        table = h.table;
        meant = h.meant;
        other = h.other;
        applied = h.applied;
      };
      makes = λ g. makes_alike journal_design phase epoch s (after_drain s) g (λ h. h);
      rests = λ a b r. r;
      free = omega arith;
      opened = inl refl;
      owed = omega arith;
      owed_later = omega arith;
      pages = record { whole = λ h. h; merges = omega arith; promotions = omega arith };
    }

-- ---- all of it

pub is_design : IsDesign journal_design
is_design = record {
  fills = log_is_filled;
  items = items_are;
  in_range = λ s sound. sound.range;
  loads_length = length-works;
  committed_length = length-committed;
  dram_length = λ s sound. sound.dram_size;
  agreeing = λ phase epoch s n moment. refl;
  few = λ phase epoch s n moment. record {
    merges = omega arith;
    promotions = omega arith;
    owed = omega arith;
    free = free-few s moment.sound;
  };
  merged_all = λ s none. refl;
  promoted_all = λ s none. refl;
  rests_room = some-free;
  slot_fits = slot_fits;
  slot_makes = λ e s n g state moment can decodes commit is. slot_makes e s n moment can g commit is;
  slot_spared = λ e s n g k moment can keeps l. slot_spared e s n moment can g k keeps l;
  own_carries = own_carried;
  body_carries = body_carried;
  body_spared = body_spares;
  body_passes = body_past;
  body_ends = body_whole;
  made_reads = made_reads;
  commits = commits_to;
  tail_carries = tail_carried;
  tail_spared = tail_spares;
  tail_passes = tail_past;
  releases = tail_ends;
  seals = λ before epoch s n moment whole bare. seals_to before epoch s n moment;
  same_reads = reads_carried;
  dram_drained = drain_carried;
  drained_rest = λ s k. refl;
  drained_dram = λ s. refl;
  drained_left = λ s from. omega arith;
  rests_of_any = λ before epoch s n moment. moment_of moment refl moment.stands tt;
}
