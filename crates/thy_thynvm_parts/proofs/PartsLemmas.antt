-- The scheme thynvm is made of lawful parts: what holds when power comes on, at the end of a boot, and of all of it.
use Rattle.std.proofs.Common.{◌≡◌, ℕ, ◌<◌, [], Bool, true, false, if◌then◌else◌, List, length, refl, sym, ◌∙◌, ap, subst, arith, Option, Some, None, inl, inr}
use Rattle.std.specs.List.{range_with_len}
use Rattle.std.proofs.lemmas.Bool.{ltb-true, cases_Bool}
use Rattle.std.proofs.lemmas.List.{length-map, get_or-map, ext_get_or}
use Rattle.std.proofs.lemmas.List.FromFn.{length-range_with_len, get_or-map-range_with_len}
use Rattle.thy_block.specs.declared.block.Block.{Block}
use Rattle.thy_layout.specs.declared.layout_version.LayoutVersion.{LayoutVersion}
use Rattle.thy_layout.specs.declared.layout_version.LayoutVersion.TheVariants.{VersionTwo}
use Rattle.thy_table.specs.declared.place.Place.{Place}
use Rattle.thy_block.specs.Device.{Device, block_at, newest, zero_block}
use Rattle.thy_block.specs.Geometry.{memory_blocks, IsInRange}
use Rattle.thy_table.specs.Places.{number_of, image_blocks}
use Rattle.thy_block.proofs.DeviceLemmas.{newest-empty}
use Rattle.thy_layout.specs.Layout.{blocks_at}
use Rattle.thy_record.specs.Images.{memory_numbers, slot_in}
use Rattle.thy_record.specs.Tables.{place_of as place_in, Tables, IsTables}
use Rattle.thy_table.specs.Listing.{entry_at, passes}
use Rattle.thy_table.specs.declared.block_entry.BttEntry.{BttEntry}
use Rattle.thy_table.specs.declared.page_entry.PttEntry.{PttEntry}
use Rattle.thy_table.specs.declared.cell.Cell.{Cell}
use Rattle.thy_table.specs.Cells.{seat_of, penult}
use Rattle.thy_control.specs.Boot.{IsBooting}
use Rattle.thy_control.specs.CheckpointTables.{tables0}
use Rattle.thy_control.specs.Frees.{HasNoWork}
use Rattle.thy_control.specs.Holding.{is_promoted, promoted}
use Rattle.thy_control.specs.State.{State, AreSoundTables, cell_of, penult_of, new_state}
use Rattle.thy_control.specs.Stays.{HoldAll}
use Rattle.thy_control.proofs.MarkLemmas.{counted-some}
use Rattle.thy_control.proofs.TablesLemmas.{AreTablesOf-committed}
use Rattle.thy_control.proofs.KeepLemmas.{placed-in_nvm}
use Rattle.thy_thynvm_parts.specs.Filling.{loads, IsEmpty, filling_thynvm}
use Rattle.thy_thynvm_parts.proofs.WorkLemmas.{loads-are}
use Rattle.thy_block.specs.declared.parameters.Parameters.{Parameters}
use Rattle.thy_table.specs.BetweenCheckpoints.{NewIsSound}
use Rattle.thy_dram.specs.Contents.{Contents}
use Rattle.thy_isa.specs.Step.{State as Plain}
use Rattle.thy_layout.specs.Commit.{commit_of, epoch_of, version_of}
use Rattle.thy_layout.proofs.ReadBackLemmas.{epoch_of-commit_of}
use Rattle.thy_record.specs.Issuing.{HoldsCheckpoint}
use Rattle.thy_record.specs.Number.{scheme_number}
use Rattle.thy_record.specs.Slots.{tables_in, counts_in}
use Rattle.thy_control.proofs.NewLemmas.{AreSoundTables-new}
use Rattle.thy_computer.specs.Kind.{IsDramOf}
use Rattle.thy_checkpoint.specs.Boot.{Booting, slot_read}
use Rattle.thy_checkpoint.specs.Filling.{first_slot_of}
use Rattle.thy_checkpoint.specs.Recovers.{IsRestored}
use Rattle.thy_checkpoint.specs.Start.{CanStart}
use Rattle.thy_thynvm_parts.specs.Start.{no_tables}
use Rattle.thy_thynvm_parts.proofs.FillingLemmas.{none_listed, all_hold}
use Rattle.thy_thynvm_parts.proofs.LiveLemmas.{IsFresh-new}
use Rattle.thy_thynvm_parts.proofs.StartLemmas.{IsTables-none, counts-none, start_version, first_back}
use Rattle.thy_checkpoint.specs.Items.{Resting}
use Rattle.thy_scheme_parts.specs.AreParts.{AreParts}
use Rattle.thy_scheme_parts.specs.Powering.{EndsBoot, IsPowering}
use Rattle.thy_thynvm_parts.specs.Design.{is_promoting, penults, thynvm_design}
use Rattle.thy_thynvm_parts.proofs.DesignLemmas.{tables_drained, is_design}
use Rattle.thy_thynvm_parts.proofs.PageLemmas.{is_paging}
use Rattle.thy_thynvm_parts.proofs.StoreLemmas.{is_storing}

-- ---- memory

module _ (c : State) (n : Device) (tables : AreSoundTables c) (settled : n.queue ≡ []) where
  penult_stands : (b : ℕ) → b < memory_blocks c.p → penult_of c n b ≡ block_at n.image (number_of c.p (place_in (tables0 c) b))
  penult_stands b l =
      let x : Cell = cell_of c b in
      let there : Place = penult x in
      ap (λ (z : Bool). if z then block_at c.dram.blocks (number_of c.p there) else newest n (number_of c.p there))
      (placed-in_nvm x.entry.v0 x.page.place (seat_of x))
      ∙ newest-empty n (number_of c.p there) settled
      ∙ ap (λ (y : Place). block_at n.image (number_of c.p y)) (sym ((AreTablesOf-committed c tables).same_place b l))

  penults-are : penults c n ≡ blocks_at n.image (memory_numbers c.p (tables0 c))
  penults-are =
      let size : ℕ = memory_blocks c.p in
      let num : ℕ → ℕ = λ b. number_of c.p (place_in (tables0 c) b) in
      let size_a : length (penults c n) ≡ size = length-map (range_with_len 0 size) (penult_of c n) ∙ length-range_with_len 0 size in
      let size_n : length (memory_numbers c.p (tables0 c)) ≡ size = length-map (range_with_len 0 size) num ∙ length-range_with_len 0 size in
      let size_b : length (blocks_at n.image (memory_numbers c.p (tables0 c))) ≡ size =
      length-map (memory_numbers c.p (tables0 c)) (block_at n.image) ∙ size_n in
      ext_get_or zero_block (penults c n) (blocks_at n.image (memory_numbers c.p (tables0 c))) (size_a ∙ sym size_b)
      (λ i l.
      let inside : i < size = omega (arith, l, size_a) in
      get_or-map-range_with_len (penult_of c n) 0 size i i zero_block inside (omega arith) ∙ penult_stands i inside
      ∙ sym (get_or-map (block_at n.image) (memory_numbers c.p (tables0 c)) i 0 zero_block (omega (arith, inside, size_n))
      ∙ ap (block_at n.image) (get_or-map-range_with_len num 0 size i i 0 inside (omega arith))))

  -- a load gives the memory of the committed checkpoint
  penults-loads : IsBooting c → HoldAll c n → penults c n ≡ loads c n
  penults-loads boot holds = penults-are ∙ sym (loads-are c n tables boot holds settled AreTablesOf-committed)

-- ---- nothing was stored, and no page is being promoted

pub booting-no_work : (c : State) → IsBooting c → HasNoWork c
booting-no_work c boot = record { no_work = λ i e was. ap (λ (x : BttEntry). x.work) (boot.blocks i e was) }

no-false : false ≡ true → ⊥
no-false e = cc

pub booting-whole : (c : State) → IsBooting c → is_promoting c ≡ true → ⊥
booting-whole c boot some =
    let f = counted-some (passes is_promoted) None c.ptt.entries (ltb-true 0 (promoted c.ptt) some) in
    by_entry f.0 (entry_at c.ptt f.0) refl f.2
  where
    by_entry : (j : ℕ) (x : Option PttEntry) → entry_at c.ptt j ≡ x → passes is_promoted x ≡ true → ⊥
    by_entry j None was h = no-false h
    by_entry j (Some e) was h = no-false (sym (ap is_promoted (boot.pages j e was)) ∙ h)

not_promoting : (c : State) → IsBooting c → is_promoting c ≡ false
not_promoting c boot = elim (cases_Bool (is_promoting c)) as (λ _. is_promoting c ≡ false) [
  | inl some ↦ absurd (booting-whole c boot some)
  | inr none ↦ none
]

-- ---- power comes on

new_cells : (i j block page : ℕ) (under_way : Bool) → NewIsSound i j block page under_way
new_cells i j block page under_way = grind arith

new_empty : (p : Parameters) (dram : Contents) → IsInRange p → IsDramOf p dram → IsEmpty (new_state p dram)
new_empty p dram range is = record {
  tables = AreSoundTables-new new_cells p dram range is.blocks;
  fresh = IsFresh-new p dram;
}

-- ---- the end of a boot

-- a controller as a boot has it is at rest
ends : (c : State) (n : Device) (g : List Block) → AreSoundTables c → IsBooting c → HoldAll c n → n.queue ≡ []
    → length n.image ≡ image_blocks c.p
    → (version : LayoutVersion) (kept : ℕ) → HoldsCheckpoint c.p g version kept (tables0 c)
    → counts_in version c.p (slot_in c.p g) ≡ c.counts.lasts
    → EndsBoot thynvm_design Resting c n g
ends c n g tables boot holds settled sized version kept meant counted = record {
  moment = λ epoch. record {
    sound = tables;
    sized = sized;
    stands = record { tables = tables; way_is = boot.idle; promotes = λ p. booting-no_work c boot };
    holds = holds;
  };
  keeps = λ epoch. record { version = version; kept = kept; meant = meant; other = tt; counted = counted };
  committed = penults-loads c n tables settled boot holds;
  rests = record { no_work = booting-no_work c boot; room = λ l. absurd (no-false l) };
  closed = refl;
  whole = not_promoting c boot;
}

-- a checkpoint was restored, of either version
restored : (c : State) (n : Device) (b : Booting) → c.p ≡ b.p → n.queue ≡ [] → length n.image ≡ image_blocks b.p
    → IsRestored filling_thynvm n b c
    → EndsBoot thynvm_design Resting c n n.image
restored c n b same settled sized f =
    let slot : List Block = slot_read filling_thynvm b in
    let version : LayoutVersion = version_of scheme_number b.p b.commit in
    let meant : HoldsCheckpoint b.p n.image version (epoch_of b.commit) (tables0 c) = record {
      of_version = ap (version_of scheme_number b.p) f.listed.head.commit_is.is;
      of_epoch = ap epoch_of f.listed.head.commit_is.is;
      tables = ap (tables_in b.p) (sym f.listed.slot_is) ∙ ap (λ (q : Parameters). tables_in q slot) (sym same) ∙ sym f.listed.lists.are;
      whole = subst (λ (q : Parameters). IsTables q (tables0 c)) same (AreTablesOf-committed c f.listed.lists.tables).valid;
    } in
    let lasts : counts_in version b.p (slot_in b.p n.image) ≡ c.counts.lasts
    = ap (counts_in version b.p) (sym f.listed.slot_is)
    ∙ ap (λ (q : Parameters). counts_in (version_of scheme_number q b.commit) q slot) (sym same)
    ∙ sym f.listed.lists.counts in
    ends c n n.image f.listed.lists.tables f.listed.lists.booting f.whole settled (sized ∙ ap image_blocks (sym same)) version (epoch_of b.commit)
    (subst (λ (q : Parameters). HoldsCheckpoint q n.image version (epoch_of b.commit) (tables0 c)) (sym same) meant)
    (subst (λ (q : Parameters). counts_in version q (slot_in q n.image) ≡ c.counts.lasts) (sym same) lasts)

-- the program is loaded
loaded : (c : State) (n : Device) (g : List Block) (s : Plain) → IsEmpty c → n.queue ≡ [] → length n.image ≡ image_blocks c.p
    → CanStart c.p s
    → block_at g 1 ≡ commit_of 0 → slot_in c.p g ≡ first_slot_of filling_thynvm c.p s → EndsBoot thynvm_design Resting c n g
loaded c n g s empty settled sized can commit slot =
    let p : Parameters = c.p in
    let tables : tables0 c ≡ no_tables p = none_listed c n empty settled in
    let back = first_back p s can in
    let lasts : counts_in VersionTwo p (slot_in p g) ≡ c.counts.lasts
    = ap (counts_in VersionTwo p) slot ∙ back.counts_back ∙ counts-none p.pages ∙ sym empty.fresh.no_counts in
    let meant : HoldsCheckpoint p g VersionTwo 0 (no_tables p) = record {
      of_version = ap (version_of scheme_number p) commit ∙ start_version p;
      of_epoch = ap epoch_of commit ∙ epoch_of-commit_of 0 (omega arith);
      tables = ap (tables_in p) slot ∙ back.tables_back;
      whole = IsTables-none p;
    } in
    ends c n g empty.tables empty.fresh.booting (all_hold c n empty settled) settled sized VersionTwo 0
    (subst (λ (t : Tables). HoldsCheckpoint p g VersionTwo 0 t) (sym tables) meant) lasts

pub is_powering : IsPowering thynvm_design
is_powering = record {
  power_p = λ p dram. refl;
  power_dram = λ p dram. refl;
  power_fresh = new_empty;
  fresh_sound = λ c empty. empty.tables;
  drained_sound = tables_drained;
  keeps_room = λ c d filled. filled.room;
  restores = restored;
  begins = loaded;
}

pub are_parts : AreParts thynvm_design
are_parts = record { design = is_design; powering = is_powering; storing = is_storing; paging = is_paging }
