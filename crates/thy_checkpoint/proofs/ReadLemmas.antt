-- What each read makes of what was read so far, whatever the layout and whatever is filled.
use Rattle.std.proofs.Common.{◌≡◌, ℕ, ◌+◌, ◌*◌, ◌<◌, ◌≤◌, Bool, true, false, if◌then◌else◌, List, [], length, refl, sym, ◌∙◌, ap, subst, arith, Option, Some, None}
use Rattle.std.specs.Option.{option_or}
use Rattle.std.proofs.lemmas.Bool.{ltb-false}
use Rattle.thy_block.specs.declared.block.Block.{Block}
use Rattle.thy_block.specs.declared.parameters.Parameters.{Parameters}
use Rattle.thy_block.specs.Device.{Device, block_at, newest}
use Rattle.thy_block.proofs.WrittenLemmas.{length-written}
use Rattle.thy_block.proofs.BasicLemmas.{none_of_two}
use Rattle.thy_block.proofs.DeviceLemmas.{newest-empty}
use Rattle.thy_layout.specs.declared.bad_image.BadImage.{BadImage}
use Rattle.thy_layout.specs.declared.layout_version.LayoutVersion.{LayoutVersion}
use Rattle.thy_layout.specs.declared.layout_version.LayoutVersion.TheVariants.{VersionOne, VersionTwo}
use Rattle.thy_block.specs.Words.{word_of}
use Rattle.thy_layout.specs.Commit.{is_zero, epoch_of, commit_magic, version_of}
use Rattle.thy_layout.proofs.CommitLemmas.{commit-written}
use Rattle.thy_layout.proofs.HeaderLemmas.{named_two}
use Rattle.thy_layout.specs.Decoded.{Nothing, Refused as IsRefused, At}
use Rattle.thy_layout.specs.Layout.{Layout, header_bad, commit_bad, state_by, slot_in, memory_in, is_sized, fault_of, refused_or_at, decode_by}
use Rattle.thy_layout.proofs.LayoutLemmas.{sized_if_long, decode_by-zero}
use Rattle.thy_computer.specs.Safe.{ceiling}
use Rattle.thy_checkpoint.specs.declared.boot_stage.Stage.{Stage}
use Rattle.thy_checkpoint.specs.declared.boot_stage.Stage.TheVariants.{Reads, Loads, Migrates, Over}
use Rattle.thy_checkpoint.specs.declared.boot_stage.ReadStage.TheVariants.{Unread, Header, Slot, Fills}
use Rattle.thy_checkpoint.specs.declared.boot_stage.End.TheVariants.{Restored}
use Rattle.thy_computer.specs.declared.round.Round.TheVariants.{Write}
use Rattle.thy_checkpoint.specs.Boot.{Booting, IsBoot, IsThere, new_boot, layout_in, slot_read, slot_fault, version_in, at_stage, refusing_or, after_commit, head_fault, after_header, after_slot, filled_by, filling_or, filling_from, has_more, gone_on, IsJudged, GoesOn}
use Rattle.thy_checkpoint.specs.Filling.{FillingOf, IsFilling, layout_at}
use Rattle.thy_checkpoint.specs.Reads.{slot_kept}
use Rattle.thy_checkpoint.specs.Recovers.{HasCommit, HasHead, HasSlot, HasListed, IsRestored, HasReadAt, HasRead}
use Rattle.thy_checkpoint.proofs.SlotLemmas.{HasSlot-more, slot_is_whole}

first_two : {X : Type 0} (a b c : Option X) (x : X) → option_or a b ≡ Some x → option_or a (option_or b c) ≡ Some x
first_two None b c x h = ap (λ o. option_or o c) h
first_two (Some y) b c x h = h

last_one : {X : Type 0} (a b c o : Option X) → a ≡ None → b ≡ None → c ≡ o → option_or a (option_or b c) ≡ o
last_one a b c o ha hb hc = ap (λ z. option_or z (option_or b c)) ha ∙ ap (λ z. option_or z c) hb ∙ hc

-- an image with a commit block, by its first fault
decode-fault : (l : Layout) (g : List Block) (commit : Block) (o : Option BadImage) → HasCommit g commit → length g ≡ l.image_blocks
    → fault_of l ceiling true (block_at g 0) commit (slot_in l g) ≡ o
    → decode_by l ceiling g ≡ refused_or_at o (epoch_of commit) (state_by l (slot_in l g) (memory_in l g))
unfolding decode_by
decode-fault l g commit o c long h =
    ap (λ (b : Block). if is_zero b then Nothing
    else refused_or_at (fault_of l ceiling (is_sized l g) (block_at g 0) b (slot_in l g)) (epoch_of b)
    (state_by l (slot_in l g) (memory_in l g))) c.is
    ∙ (λ i. if c.committed i then Nothing
    else refused_or_at ((ap (λ t. fault_of l ceiling t (block_at g 0) commit (slot_in l g)) (sized_if_long l g long) ∙ h) i)
    (epoch_of commit) (state_by l (slot_in l g) (memory_in l g)))

module _ {C : Type 0} (F : FillingOf C) where
  -- what a boot has read once it read the commit block
  pub commit-found : (n : Device) (b : Booting) (c : C) → b.stage ≡ Reads Unread → HasRead F n b c
      → HasRead F n (after_commit (newest n 1) b) c
  commit-found n b c is h = record { same_p = h.same_p; sized = h.sized; settled = h.settled; so_far = by_zero (is_zero (newest n 1)) refl } where
    fresh : F.fresh c
    fresh = subst (λ (s : Stage). HasReadAt F s n b c) is h.so_far

    there : newest n 1 ≡ block_at n.image 1
    there = newest-empty n 1 h.settled

    by_zero : (z : Bool) → is_zero (newest n 1) ≡ z
        → HasReadAt F (if z then Loads (Write 0) else Reads Header) n (after_commit (newest n 1) b) c
    by_zero true e = (fresh, decode_by-zero (layout_in F b) ceiling n.image (ap is_zero (sym there) ∙ e), refl)
    by_zero false e = (fresh, record { committed = e; is = sym there })

  -- the header
  module _ (n : Device) (b : Booting) (c : C) (is : b.stage ≡ Reads Header) (h : HasRead F n b c) where
    header_had : F.fresh c × HasCommit n.image b.commit
    header_had = subst (λ (s : Stage). HasReadAt F s n b c) is h.so_far

    by_fault : (o : Option BadImage) → head_fault (layout_in F b) (block_at n.image 0) b.commit ≡ o
        → HasReadAt F (refusing_or o (Reads (Slot 0))) n (at_stage (refusing_or o (Reads (Slot 0))) b) c
    by_fault None e =
        let both = none_of_two (header_bad (layout_in F b) (block_at n.image 0) true) (commit_bad ceiling (block_at n.image 0) b.commit) e in (
          header_had.0,
          record { commit_is = header_had.1; header_fits = both.0; commit_fits = both.1 },
          record { each = λ k less. absurd (omega (arith, less)) },
        )
    by_fault (Some bad) e =
        decode-fault (layout_in F b) n.image b.commit (Some bad) header_had.1 h.sized
        (first_two (header_bad (layout_in F b) (block_at n.image 0) true) (commit_bad ceiling (block_at n.image 0) b.commit)
        ((layout_in F b).slot_bad ceiling b.commit (slot_in (layout_in F b) n.image)) bad e)

    pub header-found : HasRead F n (at_stage (after_header (layout_in F b) (newest n 0) b) b) c
    header-found = record {
      same_p = h.same_p;
      sized = h.sized;
      settled = h.settled;
      so_far = subst (λ (x : Block). HasReadAt F (after_header (layout_in F b) x b) n (at_stage (after_header (layout_in F b) x b) b) c)
          (sym (newest-empty n 0 h.settled)) (by_fault (head_fault (layout_in F b) (block_at n.image 0) b.commit) refl);
    }

  -- the whole slot, judged: it is refused, or, listed by the controller, filled or restored
  module _ (n : Device) (b : Booting) (c : C) (laws : IsFilling F) (same : F.p c ≡ b.p) (settled : n.queue ≡ [])
      (sized : length n.image ≡ (layout_in F b).image_blocks)
      (head : HasHead (layout_in F b) n.image b.commit) (whole : slot_read F b ≡ slot_in (layout_in F b) n.image)
      (room : length b.slot ≡ 64 * (layout_in F b).most_slot) where
    abbrev l : Layout
    l = layout_in F b

    abbrev slot : List Block
    slot = slot_read F b

    meaning : (o : Option BadImage) → slot_fault F b ≡ o
        → decode_by l ceiling n.image ≡ refused_or_at o (epoch_of b.commit) (state_by l (slot_in l n.image) (memory_in l n.image))
    meaning o e =
        decode-fault l n.image b.commit o head.commit_is sized
        (last_one (header_bad l (block_at n.image 0) true) (commit_bad ceiling (block_at n.image 0) b.commit)
        (l.slot_bad ceiling b.commit (slot_in l n.image)) o
        head.header_fits head.commit_fits (ap (l.slot_bad ceiling b.commit) (sym whole) ∙ e))

    pub refused : (bad : BadImage) → slot_fault F b ≡ Some bad → decode_by l ceiling n.image ≡ IsRefused bad
    refused bad e = meaning (Some bad) e

    -- what a boot has read that fills from a position on
    pub filling-found : (from : ℕ) → slot_fault F b ≡ None → F.lists b.commit slot c → F.filled c n from
        → HasReadAt F (filling_from F from b) n b c
    filling-found from fits lists filled = by_next (F.next_fill b.p b.commit slot from) refl where
      listed : HasListed F n.image b c
      listed = record { head = head; slot_is = whole; slot_fits = fits; lists = lists }

      by_version : (v : LayoutVersion) → version_in F b ≡ v → IsRestored F n b c → F.loads c n ≡ memory_in l n.image
          → HasReadAt F (filled_by v) n b c
      by_version VersionOne is restored memory = record { restored = restored; memory = memory; room = room; version = is; first = refl }
      by_version VersionTwo is restored memory =
          let two : version_of l.scheme l.p b.commit ≡ VersionTwo = ap (λ p. version_of l.scheme p b.commit) (laws.laid.of b.p) ∙ is in
          let name : word_of b.commit 0 ≡ commit_magic VersionTwo
          = named_two l.scheme l.p (block_at n.image 0) b.commit true ceiling head.header_fits head.commit_fits two in
          record {
            restored = restored;
            stated = head.commit_is.is ∙ commit-written (block_at n.image 0) b.commit ceiling (epoch_of b.commit) head.commit_fits name refl;
          }

      by_next : (o : Option ℕ) → F.next_fill b.p b.commit slot from ≡ o → HasReadAt F (filling_or (version_in F b) o) n b c
      by_next None e =
          let none : F.next_fill (F.p c) b.commit slot from ≡ None = ap (λ p. F.next_fill p b.commit slot from) same ∙ e in
          let long : length n.image ≡ (layout_at F (F.p c)).image_blocks = sized ∙ ap (λ p. (layout_at F p).image_blocks) (sym same) in
          let slot_is : slot_in (layout_at F (F.p c)) n.image ≡ slot = ap (λ p. slot_in (layout_at F p) n.image) same ∙ sym whole in
          let ended = laws.ends c n b.commit slot from lists filled none settled long head.commit_is.is slot_is in
          let memory : F.loads c n ≡ memory_in l n.image = ended.1 ∙ ap (λ p. memory_in (layout_at F p) n.image) same in
          by_version (version_in F b) refl (record {
            listed = listed;
            whole = ended.0;
            found = meaning None fits ∙ ap (λ s. At (epoch_of b.commit) (state_by l s (memory_in l n.image))) (sym whole)
                ∙ ap (λ m. At (epoch_of b.commit) (state_by l slot m)) (sym memory);
          }) memory
      by_next (Some k) e =
          let some : F.next_fill (F.p c) b.commit slot from ≡ Some k = ap (λ p. F.next_fill p b.commit slot from) same ∙ e in
          let there = laws.next c n b.commit slot from k lists filled some in
          (listed, there.2, ap (λ p. F.next_fill p b.commit slot k) (sym same) ∙ there.3)

  -- what was read does not depend on the stage that the boot has
  pub relist : (s : Stage) (g : List Block) (b : Booting) (c : C) → HasListed F g b c → HasListed F g (at_stage s b) c
  relist s g b c h = record { head = h.head; slot_is = h.slot_is; slot_fits = h.slot_fits; lists = h.lists }

  restored_still : (s : Stage) (n : Device) (b : Booting) (c : C) → IsRestored F n b c → IsRestored F n (at_stage s b) c
  restored_still s n b c h = record { listed = relist s n.image b c h.listed; whole = h.whole; found = h.found }

  pub restage : (q s : Stage) (n : Device) (b : Booting) (c : C) → HasReadAt F q n b c → HasReadAt F q n (at_stage s b) c
  restage (Reads (Fills k)) s n b c h = (relist s n.image b c h.0, h.1, h.2)
  restage (Migrates at) s n b c h = record {
    restored = restored_still s n b c h.restored;
    memory = h.memory;
    room = h.room;
    version = h.version;
    first = h.first;
  }
  restage (Over Restored) s n b c h = record { restored = restored_still s n b c h.restored; stated = h.stated }
  restage q s n b c h = h

  -- a position was filled with what its read gave
  pub fill-found : (n : Device) (b : Booting) (c : C) (k : ℕ) → IsFilling F → length b.slot ≡ 64 * (layout_in F b).most_slot
      → b.stage ≡ Reads (Fills k) → HasRead F n b c
      → HasRead F n (at_stage (filling_from F (k + 1) b) b) (F.with_fill b.commit k (newest n (F.fill_place c b.commit k)) c)
  fill-found n b c k laws room is h =
      let had : HasReadAt F (Reads (Fills k)) n b c = subst (λ (s : Stage). HasReadAt F s n b c) is h.so_far in
      let listed : HasListed F n.image b c = had.0 in
      let some : F.next_fill (F.p c) b.commit (slot_read F b) k ≡ Some k = ap (λ p. F.next_fill p b.commit (slot_read F b) k) h.same_p ∙ had.2 in
      let long : length n.image ≡ (layout_at F (F.p c)).image_blocks = h.sized ∙ ap (λ p. (layout_at F p).image_blocks) (sym h.same_p) in
      let filled = laws.fills c n b.commit (slot_read F b) k listed.lists had.1 some h.settled long listed.head.commit_is.is in
      let d : C = F.with_fill b.commit k (newest n (F.fill_place c b.commit k)) c in
      let same : F.p d ≡ b.p = filled.2 ∙ h.same_p in
      record {
        same_p = same;
        sized = h.sized;
        settled = h.settled;
        so_far = restage (filling_from F (k + 1) b) (filling_from F (k + 1) b) n b d
            (filling-found n b d laws same h.settled h.sized listed.head listed.slot_is room (k + 1) listed.slot_fits filled.0 filled.1);
      }

  -- a block of the slot was kept, and with the last of them the slot was judged
  module _ (n : Device) (b : Booting) (c d : C) (k : ℕ) (laws : IsFilling F) (boot : IsBoot F b) (is : b.stage ≡ Reads (Slot k))
      (h : HasRead F n b c)
      (long : length (newest n ((layout_in F b).slot_place b.commit + k)).0 ≡ 64) where
    abbrev lay : Layout
    lay = layout_in F b

    abbrev block : Block
    block = newest n (lay.slot_place b.commit + k)

    abbrev w : Booting
    w = slot_kept F k n b

    had : F.fresh c × HasHead lay n.image b.commit × HasSlot lay n.image b.commit k b.slot
    had = subst (λ (s : Stage). HasReadAt F s n b c) is h.so_far

    most : lay.slot_blocks b.commit ≤ lay.most_slot
    most = (laws.laid.slot b.p b.commit).most

    inside : k < lay.slot_blocks b.commit
    inside = subst (λ (s : Stage). IsThere F b s) is boot.there

    size : length w.slot ≡ 64 * lay.most_slot
    size = length-written b.slot (64 * k) block.0 (omega (arith, boot.room, inside, most, long)) ∙ boot.room

    kept : HasSlot lay n.image b.commit (k + 1) w.slot
    kept =
        HasSlot-more lay n.image b.commit k b.slot block (omega (arith, boot.room, inside, most)) long
        (newest-empty n (lay.slot_place b.commit + k) h.settled) had.2

    whole : k + 1 ≡ lay.slot_blocks b.commit → slot_read F w ≡ slot_in lay n.image
    whole last = slot_is_whole F n.image w (k + 1) had.1.commit_is size most last kept

    judged : (o : Option BadImage) → k + 1 ≡ lay.slot_blocks b.commit → slot_fault F w ≡ o → IsJudged F o w c d
        → HasReadAt F (refusing_or o (filling_from F 0 w)) n w d
    judged None last e j =
        filling-found n w d laws (j.left.same_p ∙ h.same_p) h.settled h.sized had.1 (whole last) size 0 e j.lists
        (laws.begins d n w.commit (slot_read F w) j.lists)
    judged (Some bad) last e j = refused n w d laws (ap F.p j ∙ h.same_p) h.settled h.sized had.1 (whole last) size bad e

    go_on : (z : Bool) → has_more F k w ≡ z → GoesOn F z w c d → HasReadAt F (if z then Reads (Slot (k + 1)) else after_slot F w) n w d
    go_on true e j = (subst F.fresh (sym j) had.0, had.1, kept)
    go_on false e j =
        let past = ltb-false (k + 1) (lay.slot_blocks b.commit) e in
        judged (slot_fault F w) (omega (arith, inside, past)) refl j

    same_judged : (o : Option BadImage) → IsJudged F o w c d → F.p d ≡ F.p c
    same_judged None j = j.left.same_p
    same_judged (Some bad) j = ap F.p j

    same_after : (z : Bool) → GoesOn F z w c d → F.p d ≡ F.p c
    same_after true j = ap F.p j
    same_after false j = same_judged (slot_fault F w) j

    pub slot-found : GoesOn F (has_more F k w) w c d → HasRead F n (gone_on F k w) d
    slot-found j =
        let q : Stage = if has_more F k w then Reads (Slot (k + 1)) else after_slot F w in
        record {
          same_p = same_after (has_more F k w) j ∙ h.same_p;
          sized = h.sized;
          settled = h.settled;
          so_far = restage q q n w d (go_on (has_more F k w) refl j);
        }

  -- what a new boot has read
  pub HasRead-new : (p : Parameters) (n : Device) (c : C) → F.fresh c → F.p c ≡ p
      → length n.image ≡ (layout_in F (new_boot F p)).image_blocks → n.queue ≡ []
      → HasRead F n (new_boot F p) c
  HasRead-new p n c fresh same sized settled = record { same_p = same; sized = sized; settled = settled; so_far = fresh }
