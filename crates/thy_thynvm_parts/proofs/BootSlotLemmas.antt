-- A slot without a fault, and a controller that lists it.
use Rattle.std.proofs.Common.{◌≡◌, ℕ, ◌+◌, ◌*◌, List, length, replicate, Option, None, sym, ◌∙◌, ap, arith, ◌<◌, ◌≤◌, ◌==◌, ◌&&◌, ◌||◌, not, nat_lt, nat_le, Bool, true, false, slice_set, slice_index_or, refl}
use Rattle.std.proofs.lemmas.List.{length-map, ext_get_or, length-set}
use Rattle.thy_block.specs.declared.block.Block.{Block}
use Rattle.thy_block.specs.declared.parameters.Parameters.{Parameters}
use Rattle.thy_layout.specs.declared.layout_version.LayoutVersion.{LayoutVersion}
use Rattle.thy_block.specs.Places.{record_blocks}
use Rattle.thy_block.proofs.BasicLemmas.{none_of_two, none_of_map}
use Rattle.thy_layout.specs.Commit.{version_of}
use Rattle.thy_record.specs.Number.{scheme_number}
use Rattle.thy_layout.specs.Slots.{second_fault}
use Rattle.thy_record.specs.Slots.{tables_in, counts_in, count_fault, slot_fault, count_byte, is_bad_count}
use Rattle.thy_record.specs.Tables.{Tables}
use Rattle.thy_layout.proofs.SlotLemmas.{length-entries_in}
use Rattle.thy_record.proofs.SlotLemmas.{slot_parts}
use Rattle.thy_control.specs.Boot.{IsBooting, with_listed_count}
use Rattle.thy_control.specs.CheckpointTables.{tables0}
use Rattle.thy_control.specs.State.{State, AreSoundTables}
use Rattle.thy_checkpoint.specs.Filling.{ListsOn}
use Rattle.thy_thynvm_parts.specs.Filling.{IsEmpty, filling_thynvm}
use Rattle.thy_thynvm_parts.specs.Listed.{HaveFirst, ListsUpTo, AsListed, with_lasts}
use Rattle.std.specs.List.{range_with_len, position}
use Rattle.std.proofs.lemmas.Bool.{ltb-false}
use Rattle.std.proofs.lemmas.List.Edits.{fill_by_more}
use Rattle.std.proofs.lemmas.List.FromFn.{fill_by_all}
use Rattle.thy_layout.specs.declared.layout_version.LayoutVersion.TheVariants.{VersionTwo}
use Rattle.thy_table.specs.Places.{count_blocks}
use Rattle.thy_layout.specs.declared.bad_image.BadImage.TheVariants.{Count}
use Rattle.thy_record.proofs.CountLemmas.{none_passes}

-- the tables of a slot have the geometry's numbers of entries
pub size_of_ptt : (p : Parameters) (slot : List Block) → length (tables_in p slot).ptt ≡ p.ptt
size_of_ptt p slot = length-entries_in slot (8 * record_blocks p + p.btt) p.ptt

pub size_of_btt : (p : Parameters) (slot : List Block) → length (tables_in p slot).btt ≡ p.btt
size_of_btt p slot = length-entries_in slot (8 * record_blocks p) p.btt

-- if it has no fault, its counts have none
pub counts_fit : (version : LayoutVersion) (p : Parameters) (ceiling epoch : ℕ) (slot : List Block)
    → slot_fault version p ceiling epoch slot ≡ None
    → count_fault version p slot ≡ None
counts_fit version p ceiling epoch slot h =
    (none_of_two (count_fault version p slot) (second_fault p slot) (slot_parts version p ceiling epoch slot h).3).0

-- a controller that lists nothing lists none of its tables
pub ListsUpTo-empty : (p : Parameters) (slot : List Block) (c : State) → c.p ≡ p → IsEmpty c → ListsUpTo 0 0 (tables_in p slot) c
ListsUpTo-empty p slot c same e = record {
  booting = e.fresh.booting;
  have = record {
    btt_length = length-map c.btt.entries _ ∙ e.tables.btt_size ∙ ap (λ (p : Parameters). p.btt) same ∙ sym (size_of_btt p slot);
    ptt_length = length-map c.ptt.entries _ ∙ e.tables.ptt_size ∙ ap (λ (p : Parameters). p.ptt) same ∙ sym (size_of_ptt p slot);
    blocks = λ k l. absurd (omega (arith, l));
    no_blocks = λ k l. e.fresh.no_blocks k;
    pages = λ k l. absurd (omega (arith, l));
    no_pages = λ k l. e.fresh.no_pages k;
  };
}

-- a controller with a slot's tables listed counts nothing yet
pub no_counts-listed : (p : Parameters) (t : Tables) (c d : State) → c.p ≡ p → IsEmpty c → AsListed p.btt p.ptt t c d
    → d.counts.lasts ≡ replicate p.pages 0
no_counts-listed p t c d same e l =
    ap (λ (x : State). x.counts.lasts) l.same ∙ e.fresh.no_counts ∙ ap (λ (q : Parameters). replicate q.pages 0) same

-- tables of which all entries are listed are these tables
all_listed : (i j : ℕ) (t u : Tables) → length t.btt ≡ i → length t.ptt ≡ j → HaveFirst i j t u → u ≡ t
all_listed i j t u bi pj h =
    ap (λ (x : List (Option ℕ)). record u { btt = x })
    (ext_get_or None u.btt t.btt h.btt_length (λ k l. h.blocks k (omega (arith, l, h.btt_length, bi))))
    ∙ ap (λ (x : List (Option ℕ)). record t { ptt = x })
    (ext_get_or None u.ptt t.ptt h.ptt_length (λ k l. h.pages k (omega (arith, l, h.ptt_length, pj))))

-- a controller with the tables and the counts of a slot lists it
pub lists_on : (p : Parameters) (commit : Block) (slot : List Block) (c d e : State) → c.p ≡ p → AsListed p.btt p.ptt (tables_in p slot) c d
    → e ≡ with_lasts (counts_in (version_of scheme_number p commit) p slot) d → IsBooting e → AreSoundTables e
    → ListsOn filling_thynvm commit slot c e
lists_on p commit slot c d e same l counted booting tables =
    let same_p : e.p ≡ c.p = ap (λ (x : State). x.p) counted ∙ ap (λ (x : State). x.p) l.same in
    let same_dram : e.dram ≡ c.dram = ap (λ (x : State). x.dram) counted ∙ ap (λ (x : State). x.dram) l.same in
    let is : p ≡ e.p = sym (same_p ∙ same) in
    record {
      lists = record {
        tables = tables;
        booting = booting;
        are = ap tables0 counted
            ∙ all_listed p.btt p.ptt (tables_in p slot) (tables0 d) (size_of_btt p slot) (size_of_ptt p slot) l.lists.have
            ∙ ap (λ (q : Parameters). tables_in q slot) is;
        counts = ap (λ (x : State). x.counts.lasts) counted ∙ ap (λ (q : Parameters). counts_in (version_of scheme_number q commit) q slot) is;
      };
      left = record {
        same_p = same_p;
        same_dram = same_dram;
        keeps = record {
          room = ap (λ x. x.room) same_dram;
          most = (let queued = ap (λ x. x.queued) same_dram in omega (arith, queued));
          counts = ap (λ (x : State). x.counts.counts) counted ∙ ap (λ (x : State). x.counts.counts) l.same;
        };
      };
    }

-- ---- its counts, given to the controller page by page

-- without a fault a count is not past 63
pub count_within : (p : Parameters) (slot : List Block) (i : ℕ) → count_fault VersionTwo p slot ≡ None → i < p.pages
    → count_byte p slot i ≤ 63
count_within p slot i none inside =
    let n = 64 * count_blocks p in
    let found = none_of_map Count (position (is_bad_count p slot) (range_with_len 0 n)) none in
    by_test (nat_lt 63 (count_byte p slot i)) refl (none_passes (is_bad_count p slot) n found i (omega arith)) where
      by_test : (t : Bool) → nat_lt 63 (count_byte p slot i) ≡ t → (t || (nat_le p.pages i && not (count_byte p slot i == 0))) ≡ false
          → count_byte p slot i ≤ 63
      by_test true e h = cc
      by_test false e h = ltb-false 63 (count_byte p slot i) e

-- a controller has the first n counts of a slot, in a list as long as memory has pages
pub record HasFirstCounts (p : Parameters) (slot : List Block) (n : ℕ) (old new : State) : Type 0 where
  pub booting : IsBooting new
  pub long : length new.counts.lasts ≡ p.pages
  pub each : (k : ℕ) → k < n → slice_index_or new.counts.lasts k 0 ≡ count_byte p slot k
  pub same : new ≡ with_lasts new.counts.lasts old

-- after one more count is listed, the controller has one more of the first counts
pub HasFirstCounts-more : (p : Parameters) (slot : List Block) (n : ℕ) (old new next : State) → n < p.pages → HasFirstCounts p slot n old new
    → next ≡ with_listed_count n (count_byte p slot n) new → IsBooting next → HasFirstCounts p slot (n + 1) old next
HasFirstCounts-more p slot n old new next inside h is booting =
    let lasts : next.counts.lasts ≡ slice_set new.counts.lasts n (count_byte p slot n) = ap (λ (x : State). x.counts.lasts) is in
    record {
      booting = booting;
      long = ap length lasts ∙ length-set new.counts.lasts n (count_byte p slot n) ∙ h.long;
      each = λ k l. ap (λ (xs : List ℕ). slice_index_or xs k 0) lasts
          ∙ fill_by_more (count_byte p slot) new.counts.lasts n 0 (omega (arith, inside, h.long)) h.each k l;
      same = is ∙ ap (with_lasts (slice_set new.counts.lasts n (count_byte p slot n))) h.same ∙ ap (λ (xs : List ℕ). with_lasts xs old) (sym lasts);
    }

-- a controller with the first n counts of a slot has all of them, if memory has at most n pages
pub all_counts : (p : Parameters) (slot : List Block) (n : ℕ) (old new : State) → p.pages ≤ n → HasFirstCounts p slot n old new
    → new ≡ with_lasts (counts_in VersionTwo p slot) old
all_counts p slot n old new all h =
    h.same ∙ ap (λ (xs : List ℕ). with_lasts xs old)
    (fill_by_all (count_byte p slot) new.counts.lasts p.pages 0 h.long (λ k l. h.each k (omega (arith, l, all))))
