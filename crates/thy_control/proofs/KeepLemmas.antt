-- A store keeps both checkpoints of every block, and the work of every other; done or failed, it makes nothing possible at the
-- places of the checkpoints.
use Rattle.std.proofs.Common.{◌≡◌, ◌≢◌, ℕ, ◌<◌, ◌%◌, if◌then◌else◌, refl, sym, ◌∙◌, ap, subst, inl, inr, Option, Some, None, Result, OnOk, IfOk, rules, true, false, arith, ◌⊎◌, ◌≤◌, Bool, Ok, Err, OnErr}
use Rattle.thy_block.specs.declared.block.Block.{Block}
use Rattle.thy_table.specs.declared.place.Place.{Place}
use Rattle.thy_table.specs.declared.place.Place.TheVariants.{Frame, Buffer}
use Rattle.thy_block.specs.declared.store.Stored.{Stored}
use Rattle.thy_block.specs.declared.nvm.NvmError.{NvmError}
use Rattle.thy_block.specs.Device.{Device, HasFailedToWrite, written_to, HasFailed}
use Rattle.thy_block.specs.Geometry.{memory_blocks}
use Rattle.thy_table.specs.Places.{IsPlace, in_dram, number_of, first_home, IsApart}
use Rattle.thy_table.specs.Devices.{AreSized, devices_of, read_at, written_at, Devices, NoMoreAt}
use Rattle.thy_table.proofs.MoveLemmas.{read_at-written_same, read_at-written_other, numbers_apart, no_more-written_other, no_more-failed_other}
use Rattle.thy_table.specs.Listing.{Listing, index_of, free_count}
use Rattle.thy_table.specs.declared.block_entry.BttEntry.{BttEntry}
use Rattle.thy_table.specs.declared.page_entry.Site.{Site}
use Rattle.thy_table.specs.declared.page_entry.Site.TheVariants.{AtHome, AtAlternate}
use Rattle.thy_table.specs.declared.block_entry.Version.TheVariants.{Out}
use Rattle.thy_table.specs.BlockEntry.{new_entry}
use Rattle.thy_table.specs.PageEntry.{is_framed, no_page}
use Rattle.thy_table.specs.declared.cell.Cell.{Cell}
use Rattle.thy_table.specs.declared.cell.StoreRule.{StoreRule}
use Rattle.thy_table.specs.declared.cell.StoreRule.TheVariants.{ToFrame, PendingFirst}
use Rattle.thy_table.specs.Cells.{seat_of, placed, penult, target, last, work, frame_at, Seat}
use Rattle.thy_table.specs.Sound.{IsWithin, Puts, Holds}
use Rattle.thy_table.specs.Rules.{store_rule, store_place, after_store}
use Rattle.thy_table.specs.Store.{StoreReads, LoadGives, put_by, given_by, StoreHolds, StoreGoesElsewhere, StoreLeavesTarget}
use Rattle.thy_table.specs.Checkpoint.{with_dirty}
use Rattle.thy_control.specs.Find.{index_for, with_found}
use Rattle.thy_control.specs.Keys.{block_key}
use Rattle.thy_control.specs.StoredTables.{btt_with, answer_of}
use Rattle.thy_control.specs.State.{State, AreSoundTables, IsSized, cell_of, reads}
use Rattle.thy_control.specs.Rules.{with_block, with_cell, rule_for, cell_before, devices_after, state_after, IsWholeState, StoresFree, FailsStore}
use Rattle.thy_control.specs.Versions.{KeepsCheckpoints, PutsWork, work_given}
use Rattle.thy_control.proofs.FindLemmas.{entry_for-none, by_number}
use Rattle.thy_control.proofs.StateLemmas.{IsPlace-penult, IsPlace-last, IsPlace-work, IsPlace-store, IsWithin-cell_of, IsPlace-target, IsListed, IsListed-with_block, OrDirty, cell-with_block_other, cell-with_block_same, cell-with_cell_same, cell-with_cell_other, sound-with_block, rule-with_block, entry-with_block}
use Rattle.thy_control.proofs.PutLemmas.{has_free, IsWithin-before}
use Rattle.thy_control.proofs.TablesLemmas.{owner, Owns-cell_of, owned-penult, owned-last, owned-work, owned-store, owned-apart, Owns, owned-target}
use Rattle.std.proofs.lemmas.Bool.{cases_eq}
use Rattle.thy_block.specs.Store.{page_of}
use Rattle.thy_table.specs.declared.page_entry.PttEntry.{PttEntry}
use Rattle.thy_control.specs.Stays.{HoldAll}
use Rattle.thy_block.specs.declared.parameters.Parameters.{Parameters}
use Rattle.thy_block.proofs.DeviceLemmas.{no_more-written_to_other, CrashAt-elsewhere}
use Rattle.thy_table.proofs.PlaceLemmas.{between_slots}
use Rattle.thy_dram.specs.Contents.{written}
use Rattle.thy_table.specs.declared.block_entry.Version.{Version}
use Rattle.thy_table.specs.declared.block_entry.Pending.TheVariants.{Settled}
use Rattle.thy_control.specs.Guarded.{IsPlaced, LeavesGuarded}

-- a block that is out of its entry is at the place of its page
placed-out : (s : Site) (j block i k : ℕ)
    → placed Out s (record { i = i; j = j; block = block }) ≡ placed Out s (record { i = k; j = j; block = block })
placed-out AtHome j block i k = refl
placed-out AtAlternate j block i k = refl

-- a cell with a new entry has its versions whatever place that entry gets
module _ (c : Cell) (k b : ℕ) (is_new : c.entry ≡ new_entry b) where
  pub penult-new : penult (record c { i = k }) ≡ penult c
  penult-new = subst (λ (e : BttEntry). penult (record c { entry = e; i = k }) ≡ penult (record c { entry = e })) (sym is_new)
      (placed-out c.page.place c.j b k c.i)

  pub target-new : target (record c { i = k }) ≡ target c
  target-new = subst (λ (e : BttEntry). target (record c { entry = e; i = k }) ≡ target (record c { entry = e })) (sym is_new)
      (placed-out c.page.target c.j b k c.i)

  pub last-new : last (record c { i = k }) ≡ last c
  last-new = subst (λ (e : BttEntry). last (record c { entry = e; i = k }) ≡ last (record c { entry = e })) (sym is_new)
      (ap (λ (x : Place). if c.page.busy then Frame c.j (b % 64) else x) (placed-out c.page.target c.j b k c.i))

  pub work-new : work (record c { i = k }) ≡ work c
  work-new = subst (λ (e : BttEntry). work (record c { entry = e; i = k }) ≡ work (record c { entry = e })) (sym is_new)
      (ap (λ (x : Place). if is_framed c.page then Frame c.j (b % 64) else (if c.page.busy then Frame c.j (b % 64) else x))
      (placed-out c.page.target c.j b k c.i))

btt_with-listed : (r : StoreRule) (b i : ℕ) (t : Listing BttEntry) → index_of block_key b t ≡ Some i → btt_with r b t ≡ t
btt_with-listed ToFrame b i t h = refl
btt_with-listed PendingFirst b i t h = refl
btt_with-listed r b i t h = ap (λ o. with_found block_key new_entry o b t) h

-- an entry for a block moves no version of it
pub same_start : (f : Cell → Place) (r : StoreRule) (b : ℕ) (s : State)
    → ((k : ℕ) → (cell_of s b).entry ≡ new_entry b → f (record (cell_of s b) { i = k }) ≡ f (cell_of s b))
    → f (cell_of (with_block r b s) b) ≡ f (cell_of s b)
same_start f r b s free = ap f (cell-with_block_same r b s) ∙ by_place (index_of block_key b s.btt) refl where
  by_place : (o : Option ℕ) → index_of block_key b s.btt ≡ o
      → f (record (cell_of s b) { i = index_for block_key new_entry b (btt_with r b s.btt) }) ≡ f (cell_of s b)
  by_place None h = free (index_for block_key new_entry b (btt_with r b s.btt)) (entry_for-none block_key new_entry s.btt b h)
  by_place (Some i) h = ap (λ (t : Listing BttEntry). f (record (cell_of s b) { i = index_for block_key new_entry b t }))
      (btt_with-listed r b i s.btt h)

given-answer : (r : StoreRule) (block : Block) (old : Place → Block) (c : Cell)
    → given_by r block old c ≡ work_given (answer_of r) block (old (work c))
given-answer ToFrame block old c = refl
given-answer r block old c = refl

pub or_dirty : (f : Cell → Place) → ((x : Cell) → f (with_dirty x) ≡ f x) → (r : StoreRule) (c d : Cell) → OrDirty r c d → f d ≡ f c
or_dirty f dirty r c d (inl e) = ap f e
or_dirty f dirty r c d (inr e) = ap f e.1 ∙ dirty c

-- what a store leaves, by the parts of which it is made
pub record Kept (b : ℕ) (block : Block) (s : State) (m : Device) (t : State) (n : Device) (answer : Stored) : Type 0 where
  pub checkpoints : KeepsCheckpoints s m t n
  pub work_put : PutsWork answer b block s m t n

pub Kept-after : StoreReads → (b : ℕ) (block : Block) (s : State) (n : Device) → AreSoundTables s → IsSized s n → IsWholeState s
    → b < memory_blocks s.p → 0 < free_count s.btt
    → Kept b block s n (state_after b block s n) (devices_after b block s n).nvm (answer_of (rule_for b s))
unfolding state_after devices_after cell_before
Kept-after laws b block s n t sized whole inside room =
    let r : StoreRule = rule_for b s in
    let u : State = with_block r b s in
    let c : Cell = cell_of u b in
    let place : Place = store_place r c in
    let put : Block = put_by r block (reads s n) c in
    let old : Place → Block = reads s n in
    let new : Place → Block = λ x. read_at s.p (written_at s.p place put (devices_of n s.dram)) x in
    let after : State = with_cell r (after_store r c) u in
    let listed : IsListed r b u = IsListed-with_block r b s refl (has_free s.btt room) in
    let within : IsWithin s.p (seat_of c) = IsWithin-before s b t inside in
    let there : IsPlace s.p place = IsPlace-store s.p r c within in
    let sizes : AreSized s.p (devices_of n s.dram) = record { nvm = sized.nvm; dram = t.dram_size } in
    let puts : Puts s.p place put old new = record {
      here = read_at-written_same s.p (devices_of n s.dram) place put there sizes;
      others = λ x is ne. read_at-written_other s.p (devices_of n s.dram) place x put there is sizes ne;
    } in
    let same_rule : store_rule c ≡ r = rule-with_block r b s in
    let law : LoadGives old new c (after_store r c) (given_by r block old c)
    = subst (λ (q : StoreRule). Puts s.p (store_place q c) (put_by q block old c) old new
    → LoadGives old new c (after_store q c) (given_by q block old c)) same_rule
    (laws s.p s.under_way c block old new within (sound-with_block r b s b (t.cells b inside)) (whole.whole b inside)) puts in
    let now : cell_of after b ≡ after_store r c = cell-with_cell_same r b u listed in
    let owns : owner u place ≡ Some b = owned-store r u b listed in
    let other = λ (f : Cell → Place) (dirty : (x : Cell) → f (with_dirty x) ≡ f x) (m : ℕ) (ne : m ≢ b)
    (owned : owner u (f (cell_of u m)) ≡ Some m) (is : IsPlace s.p (f (cell_of s m))).
    (let start : cell_of u m ≡ cell_of s m = cell-with_block_other r b s m ne in
    let moved : f (cell_of after m) ≡ f (cell_of u m) =
    or_dirty f dirty r (cell_of u m) (cell_of after m) (cell-with_cell_other r b u m listed ne) in
    let apart : f (cell_of s m) ≢ place = λ e. owned-apart u m b (f (cell_of u m)) place ne owned owns (ap f start ∙ e) in
    let e : new (f (cell_of after m)) ≡ old (f (cell_of s m)) = ap new (moved ∙ ap f start) ∙ puts.others (f (cell_of s m)) is apart in
    e) in
    record {
      checkpoints = record {
        penult_same = λ m l. by_number
            (λ k. new (penult (cell_of after k)) ≡ old (penult (cell_of s k))) b m
            (ap (λ (x : Cell). new (penult x)) now ∙ law.penult_same
            ∙ ap old (same_start penult r b s (λ k h. penult-new (cell_of s b) k b h)))
            (λ ne. other penult (λ x. refl) m ne (owned-penult u m (cell_of u m) (Owns-cell_of u m))
            (IsPlace-penult s.p (cell_of s m) (IsWithin-cell_of s m t l)));
        last_same = λ m l. by_number
            (λ k. new (last (cell_of after k)) ≡ old (last (cell_of s k))) b m
            (ap (λ (x : Cell). new (last x)) now ∙ law.last_same
            ∙ ap old (same_start last r b s (λ k h. last-new (cell_of s b) k b h)))
            (λ ne. other last (λ x. refl) m ne (owned-last u m (cell_of u m) (Owns-cell_of u m))
            (IsPlace-last s.p (cell_of s m) (IsWithin-cell_of s m t l)));
      };
      work_put = record {
        work_here = ap (λ (x : Cell). new (work x)) now ∙ law.work_gives ∙ given-answer r block old c
            ∙ ap (λ (x : Place). work_given (answer_of r) block (old x)) (same_start work r b s (λ k h. work-new (cell_of s b) k b h));
        work_others = λ m l ne. other work (λ x. refl) m ne (owned-work u m (cell_of u m) (Owns-cell_of u m))
            (IsPlace-work s.p (cell_of s m) (IsWithin-cell_of s m t l));
      };
    }

-- if a call's result, its state and its device are known, so is what it keeps
pub kept_by : {b : ℕ} {block : Block} {s : State} {m : Device} (t : State) (n : Device)
    (r : Result Stored NvmError) {u : State} {k : Device} {answer : Stored}
    → OnOk r (t ≡ u) → OnOk r (n ≡ k) → IfOk r (λ stored. stored ≡ answer) → Kept b block s m u k answer
    → IfOk r (λ stored. Kept b block s m t n stored)
kept_by t n r e f h kept = search rules

pub checkpoints_by : (b : ℕ) (block : Block) (s : State) (m : Device) (t : State) (n : Device)
    (r : Result Stored NvmError)
    → IfOk r (λ stored. Kept b block s m t n stored) → OnOk r (KeepsCheckpoints s m t n)
checkpoints_by b block s m t n r h = search rules

pub work_by : (b : ℕ) (block : Block) (s : State) (m : Device) (t : State) (n : Device)
    (r : Result Stored NvmError)
    → IfOk r (λ stored. Kept b block s m t n stored) → IfOk r (λ stored. PutsWork stored b block s m t n)
work_by b block s m t n r h = search rules

-- ---- after a store the places of every block hold what they have to

-- a block whose places read as before, if they matter
pub hold_same : (old new : Place → Block) (c : Cell) → new (target c) ≡ old (target c) → new (last c) ≡ old (last c)
    → new (work c) ≡ old (work c)
    → (is_framed c.page ≡ true → new (frame_at (seat_of c)) ≡ old (frame_at (seat_of c)))
    → (c.page.fresh ≡ true → new (frame_at (seat_of c)) ≡ old (frame_at (seat_of c)))
    → (c.page.busy ≡ true → new (frame_at (seat_of c)) ≡ old (frame_at (seat_of c)))
    → Holds old c → Holds new c
hold_same old new c t l w framed fresh busy h = record {
  clean = λ f d e. framed f ∙ h.clean f d e ∙ sym l;
  copied = λ k f. fresh f ∙ h.copied k f ∙ sym w;
  issued = λ b k. t ∙ h.issued b k ∙ sym (busy b);
}

-- a block whose page is dirty now
hold_dirty : (reads : Place → Block) (c : Cell) → Holds reads c → Holds reads (with_dirty c)
hold_dirty reads c h = record {
  clean = λ f d e. let no : true ≡ false = d in cc;
  copied = h.copied;
  issued = h.issued;
}

hold_or_dirty : (reads : Place → Block) (r : StoreRule) (c d : Cell) → OrDirty r c d → Holds reads c → Holds reads d
hold_or_dirty reads r c d (inl e) h = subst (λ (x : Cell). Holds reads x) (sym e) h
hold_or_dirty reads r c d (inr e) h = subst (λ (x : Cell). Holds reads x) (sym e.1) (hold_dirty reads c h)

pub IsPlace-frame_of : (s : State) (b : ℕ) → AreSoundTables s → b < memory_blocks s.p → IsPlace s.p (frame_at (seat_of (cell_of s b)))
IsPlace-frame_of s b t l = let w = IsWithin-cell_of s b t l in (w.page, omega arith)

-- a cell with another place of its entry holds the same
hold_start : (reads : Place → Block) (c d : Cell) → d.entry ≡ c.entry → d.page ≡ c.page → d.j ≡ c.j → target d ≡ target c → last d ≡ last c
    → work d ≡ work c
    → Holds reads c → Holds reads d
hold_start reads c d e p j t l w h =
    let frame : frame_at (seat_of d) ≡ frame_at (seat_of c) = ap (λ (k : ℕ). frame_at (record { i = 0; j = k; block = d.entry.block })) j
    ∙ ap (λ (x : BttEntry). frame_at (record { i = 0; j = c.j; block = x.block })) e in
    let block : d.entry.block ≡ c.entry.block = ap (λ (x : BttEntry). x.block) e in
    record {
      clean = λ f a b. ap reads frame ∙ h.clean (ap is_framed (sym p) ∙ f) (ap (λ (x : PttEntry). x.dirty) (sym p) ∙ a)
          (ap (λ (x : PttEntry). x.fresh) (sym p) ∙ b) ∙ ap reads (sym l);
      copied = λ k f. ap reads frame ∙ h.copied (omega (arith, k, ap (λ n. n % 64) block, ap (λ (x : PttEntry). x.filled) p))
          (ap (λ (x : PttEntry). x.fresh) (sym p) ∙ f) ∙ ap reads (sym w);
      issued = λ b k. ap reads t ∙ h.issued (ap (λ (x : PttEntry). x.busy) (sym p) ∙ b)
          (omega (arith, k, ap (λ n. n % 64) block, ap (λ (x : PttEntry). x.issued) p)) ∙ ap reads (sym frame);
    }

pub HoldAll-after : StoreHolds → (b : ℕ) (block : Block) (s : State) (n : Device) → AreSoundTables s → IsSized s n → IsWholeState s
    → b < memory_blocks s.p → 0 < free_count s.btt
    → HoldAll s n → HoldAll (state_after b block s n) (devices_after b block s n).nvm
unfolding state_after devices_after cell_before
HoldAll-after laws b block s n t sized whole inside room hold m l =
    let r : StoreRule = rule_for b s in
    let u : State = with_block r b s in
    let c : Cell = cell_of u b in
    let place : Place = store_place r c in
    let put : Block = put_by r block (reads s n) c in
    let old : Place → Block = reads s n in
    let new : Place → Block = λ x. read_at s.p (written_at s.p place put (devices_of n s.dram)) x in
    let after : State = with_cell r (after_store r c) u in
    let listed : IsListed r b u = IsListed-with_block r b s refl (has_free s.btt room) in
    let within : IsWithin s.p (seat_of c) = IsWithin-before s b t inside in
    let there : IsPlace s.p place = IsPlace-store s.p r c within in
    let sizes : AreSized s.p (devices_of n s.dram) = record { nvm = sized.nvm; dram = t.dram_size } in
    let puts : Puts s.p place put old new = record {
      here = read_at-written_same s.p (devices_of n s.dram) place put there sizes;
      others = λ x is ne. read_at-written_other s.p (devices_of n s.dram) place x put there is sizes ne;
    } in
    let same_rule : store_rule c ≡ r = rule-with_block r b s in
    let start : Holds old c = hold_start old (cell_of s b) c (entry-with_block r b s b) refl refl
    (same_start target r b s (λ k h. target-new (cell_of s b) k b h)) (same_start last r b s (λ k h. last-new (cell_of s b) k b h))
    (same_start work r b s (λ k h. work-new (cell_of s b) k b h)) (hold b inside) in
    let law : Holds new (after_store r c)
    = subst (λ (q : StoreRule). Puts s.p (store_place q c) (put_by q block old c) old new → Holds new (after_store q c)) same_rule
    (λ (p : Puts s.p (store_place (store_rule c) c) (put_by (store_rule c) block old c) old new). laws s.p s.under_way c block old new
    within (sound-with_block r b s b (t.cells b inside)) (whole.whole b inside) p start) puts in
    let owns : owner u place ≡ Some b = owned-store r u b listed in
    elim (cases_eq m b) as (λ _. Holds new (cell_of after m)) [
      | inl e ↦ subst (λ (k : ℕ). Holds new (cell_of after k)) (sym e)
          (subst (λ (x : Cell). Holds new x) (sym (cell-with_cell_same r b u listed)) law)
      | inr ne ↦
          let same : cell_of u m ≡ cell_of s m = cell-with_block_other r b s m ne in
          let d : Cell = cell_of s m in
          let o : Owns u m d = subst (λ (x : Cell). Owns u m x) same (Owns-cell_of u m) in
          let w = IsWithin-cell_of s m t l in
          let at = λ (x : Place) (is : IsPlace s.p x)
          (own : owner u x ≡ Some m). (let e : new x ≡ old x = puts.others x is (owned-apart u m b x place ne own owns) in e) in
          let frame = λ (listed_page : d.page ≢ no_page (page_of m)). (let e : new (frame_at (seat_of d)) ≡ old (frame_at (seat_of d)) =
          at (frame_at (seat_of d)) (IsPlace-frame_of s m t l) (o.of_page listed_page) in e) in
          let kept : Holds new d = hold_same old new d
          (at (target d) (IsPlace-target s.p d w) (owned-target u m d o)) (at (last d) (IsPlace-last s.p d w) (owned-last u m d o))
          (at (work d) (IsPlace-work s.p d w) (owned-work u m d o))
          (λ f. frame (λ e. let no : is_framed d.page ≡ false = ap is_framed e in cc))
          (λ f. frame (λ e. let no : d.page.fresh ≡ false = ap (λ (x : PttEntry). x.fresh) e in cc))
          (λ f. frame (λ e. let no : d.page.busy ≡ false = ap (λ (x : PttEntry). x.busy) e in cc))
          (hold m l) in
          hold_or_dirty new r (cell_of u m) (cell_of after m) (cell-with_cell_other r b u m listed ne)
          (subst (λ (x : Cell). Holds new x) (sym same) kept)
    ]

-- if a call's state and device are known
pub hold_by : (s : State) (m : Device) (t u : State) (n k : Device) (r : Result Stored NvmError)
    → OnOk r (t ≡ u) → OnOk r (n ≡ k) → (HoldAll s m → HoldAll u k) → OnOk r (HoldAll s m → HoldAll t n)
hold_by s m t u n k r e f h = search rules

-- ---- a store, done or failed, makes nothing possible at the places of the checkpoints

-- places of checkpoints are in the NVM
pub placed-in_nvm : (v : Version) (s : Site) (x : Seat) → in_dram (placed v s x) ≡ false
placed-in_nvm Out AtAlternate x = refl
placed-in_nvm v s x = refl

-- every place of the NVM lies after the slots of version 1
pub behind_slots : (p : Parameters) (x : Place) → in_dram x ≡ false → first_home p ≤ number_of p x
behind_slots p (Buffer i) e = cc
behind_slots p (Frame j k) e = cc
behind_slots p place e = omega arith

-- what lies apart from memory's places is none of them
pub apart_place : (p : Parameters) (place : Place) (x : ℕ) → IsPlace p place → in_dram place ≡ false → IsApart p x → x ≢ number_of p place
apart_place p place x there side (inl before) = λ same. let low = (between_slots p place there side).0 in omega (arith, low, same, before)
apart_place p place x there side (inr behind) = λ same. let high = (between_slots p place there side).1 in omega (arith, high, same, behind)

pub apart-written : (side : Bool) (at x : ℕ) (block : Block) (d : Devices) → (side ≡ false → x ≢ at)
    → NoMoreAt x d.nvm (if side then record d { dram = written d.dram at block } else record d { nvm = written_to d.nvm at block }).nvm
apart-written true at x block d other = record { no_more = λ b h. h }
apart-written false at x block d other = record { no_more = λ b h. no_more-written_to_other d.nvm at block x b (other refl) h }

pub apart-failed : (at x : ℕ) (block : Block) (m n : Device) → x ≢ at → HasFailedToWrite at block m n → NoMoreAt x m n
apart-failed at x block m n other failed = record {
  no_more = λ b h. CrashAt-elsewhere m at block x b other (failed.no_more x b h);
}

-- a store was done, or it failed
abbrev pub Outcome : ℕ → Block → State → Device → Device → Type 0
Outcome b block s m n = (n ≡ (devices_after b block s m).nvm) ⊎ FailsStore b block s m n

-- a place is none that a checkpoint has
pub record IsElsewhere (s : State) (place : Place) : Type 0 where
  pub not_penult : (k : ℕ) → penult (cell_of s k) ≢ place
  pub not_target : (k : ℕ) → IsPlaced k (cell_of s k) → target (cell_of s k) ≢ place

-- one place was written, or a read or that write failed
abbrev pub StepOutcome : State → Place → Block → Device → Device → Type 0
StepOutcome s y v m n =
    (n ≡ (written_at s.p y v (devices_of m s.dram)).nvm) ⊎ (HasFailed m n ⊎ ((in_dram y ≡ false) × HasFailedToWrite (number_of s.p y) v m n))

module _ (s : State) (y : Place) (v : Block) (m n : Device) where
  -- at every other place of the NVM nothing new is possible
  at_other : StepOutcome s y v m n → (q : Place) → IsPlace s.p y → IsPlace s.p q → in_dram q ≡ false
      → q ≢ y → NoMoreAt (number_of s.p q) m n
  at_other (inl e) q there is side ne =
      subst (λ (k : Device). NoMoreAt (number_of s.p q) m k) (sym e) (no_more-written_other s.p (devices_of m s.dram) y q v there is side ne)
  at_other (inr (inl f)) q there is side ne =
      record { no_more = λ b h. f.no_more (number_of s.p q) b h }
  at_other (inr (inr f)) q there is side ne =
      no_more-failed_other s.p m n y q v there is f.0 side ne f.1

  -- a place apart from memory's may hold no more afterwards
  apart_of : StepOutcome s y v m n → IsPlace s.p y → (x : ℕ) → IsApart s.p x → NoMoreAt x m n
  apart_of (inl e) there x l =
      subst (λ (k : Device). NoMoreAt x m k) (sym e)
      (apart-written (in_dram y) (number_of s.p y) x v (devices_of m s.dram)
      (λ side. apart_place s.p y x there side l))
  apart_of (inr (inl f)) there x l = record { no_more = λ b h. f.no_more x b h }
  apart_of (inr (inr f)) there x l =
      apart-failed (number_of s.p y) x v m n (apart_place s.p y x there f.0 l) f.1

  -- what a cut may leave of the checkpoints stays, if the place is none of theirs
  pub LeavesGuarded-elsewhere : AreSoundTables s → IsPlace s.p y → IsElsewhere s y
      → StepOutcome s y v m n → LeavesGuarded s m n
  LeavesGuarded-elsewhere t there none outcome = record {
    apart = apart_of outcome there;
    old = λ k l. at_other outcome (penult (cell_of s k)) there
        (IsPlace-penult s.p (cell_of s k) (IsWithin-cell_of s k t l))
        (placed-in_nvm (cell_of s k).entry.v0 (cell_of s k).page.place (seat_of (cell_of s k)))
        (none.not_penult k);
    next = λ k l placed. at_other outcome (target (cell_of s k)) there
        (IsPlace-target s.p (cell_of s k) (IsWithin-cell_of s k t l))
        (placed-in_nvm (cell_of s k).entry.v1 (cell_of s k).page.target (seat_of (cell_of s k)))
        (none.not_target k placed);
  }

step_of : (b : ℕ) (block : Block) (s : State) (m n : Device) → Outcome b block s m n
    → StepOutcome s (store_place (rule_for b s) (cell_before b s))
    (put_by (rule_for b s) block (reads s m) (cell_before b s)) m n
unfolding devices_after
step_of b block s m n (inl e) = inl e
step_of b block s m n (inr f) = inr (inr (f.in_nvm, f.failed))

module _ (elsewhere : StoreGoesElsewhere) (leaves : StoreLeavesTarget) (b : ℕ) (s : State) (t : AreSoundTables s) (whole : IsWholeState s)
    (inside : b < memory_blocks s.p) (room : 0 < free_count s.btt) where
  elsewhere_of : IsElsewhere s (store_place (rule_for b s) (cell_before b s))
  unfolding cell_before
  elsewhere_of =
      let r : StoreRule = rule_for b s in
      let u : State = with_block r b s in
      let c : Cell = cell_of u b in
      let place : Place = store_place r c in
      let listed : IsListed r b u = IsListed-with_block r b s refl (has_free s.btt room) in
      let same_rule : store_rule c ≡ r = rule-with_block r b s in
      let sound = sound-with_block r b s b (t.cells b inside) in
      let owns : owner u place ≡ Some b = owned-store r u b listed in
      let free = elsewhere s.under_way c sound (whole.whole b inside) in
      let not_penult : penult c ≢ place = subst (λ (q : StoreRule). penult c ≢ store_place q c) same_rule free.not_penult in
      let start0 : penult c ≡ penult (cell_of s b) = same_start penult r b s (λ k h. penult-new (cell_of s b) k b h) in
      let start1 : target c ≡ target (cell_of s b) = same_start target r b s (λ k h. target-new (cell_of s b) k b h) in
      let entry : c.entry ≡ (cell_of s b).entry = entry-with_block r b s b in
      record {
        not_penult = λ k. by_number (λ j. penult (cell_of s j) ≢ place) b k
            (λ same. not_penult (start0 ∙ same))
            (λ ne same. owned-apart u k b (penult (cell_of u k)) place ne
            (owned-penult u k (cell_of u k) (Owns-cell_of u k)) owns
            (ap penult (cell-with_block_other r b s k ne) ∙ same));
        not_target = λ k. by_number (λ j. IsPlaced j (cell_of s j)
            → target (cell_of s j) ≢ place) b k
            (λ placed same.
            let settled : c.entry.pend ≡ Settled = ap (λ (x : BttEntry). x.pend) entry
            ∙ placed.copied in
            let not_target : target c ≢ place = subst
            (λ (q : StoreRule). target c ≢ store_place q c) same_rule
            (leaves s.under_way c sound (whole.whole b inside) (λ f. cc)) in
            not_target (start1 ∙ same))
            (λ ne placed same. owned-apart u k b (target (cell_of u k)) place ne
            (owned-target u k (cell_of u k) (Owns-cell_of u k)) owns
            (ap target (cell-with_block_other r b s k ne) ∙ same));
      }

  -- the place of a store is a place
  pub there : IsPlace s.p (store_place (rule_for b s) (cell_before b s))
  there = IsPlace-store s.p (rule_for b s) (cell_before b s) (IsWithin-before s b t inside)

  -- the places of both checkpoints are places of the NVM
  penult_is : (k : ℕ) → k < memory_blocks s.p → IsPlace s.p (penult (cell_of s k))
  penult_is k l = IsPlace-penult s.p (cell_of s k) (IsWithin-cell_of s k t l)

  target_is : (k : ℕ) → k < memory_blocks s.p → IsPlace s.p (target (cell_of s k))
  target_is k l = IsPlace-target s.p (cell_of s k) (IsWithin-cell_of s k t l)

  penult_in : (k : ℕ) → in_dram (penult (cell_of s k)) ≡ false
  penult_in k = placed-in_nvm (cell_of s k).entry.v0 (cell_of s k).page.place (seat_of (cell_of s k))

  target_in : (k : ℕ) → in_dram (target (cell_of s k)) ≡ false
  target_in k = placed-in_nvm (cell_of s k).entry.v1 (cell_of s k).page.target (seat_of (cell_of s k))

  pub StoresFree-store : StoresFree b s
  StoresFree-store side =
      let place : Place = store_place (rule_for b s) (cell_before b s) in
      record {
        inside = (between_slots s.p place there side).0;
        before = (between_slots s.p place there side).1;
        old = λ k l. numbers_apart s.p place (penult (cell_of s k)) there (penult_is k l) (side ∙ sym (penult_in k)) (elsewhere_of.not_penult k);
        next = λ k l placed. numbers_apart s.p place (target (cell_of s k)) there (target_is k l) (side ∙ sym (target_in k))
            (elsewhere_of.not_target k placed);
      }

  pub LeavesGuarded-after : (block : Block) (m n : Device) → Outcome b block s m n → LeavesGuarded s m n
  LeavesGuarded-after block m n outcome =
      LeavesGuarded-elsewhere s (store_place (rule_for b s) (cell_before b s))
      (put_by (rule_for b s) block (reads s m) (cell_before b s)) m n t there
      elsewhere_of (step_of b block s m n outcome)

-- whichever way a call ended
pub guarded_by : (b : ℕ) (block : Block) (s : State) (m n : Device) (r : Result Stored NvmError)
    → OnOk r (n ≡ (devices_after b block s m).nvm) → OnErr r (FailsStore b block s m n) → (Outcome b block s m n → LeavesGuarded s m n)
    → LeavesGuarded s m n
guarded_by b block s m n (Ok x) e f h = h (inl e)
guarded_by b block s m n (Err x) e f h = h (inr f)
