-- A slot is listed in one way: with no frame filled, the map says of every page of the pool which page of memory it has.
use Rattle.std.proofs.Common.{◌≡◌, ℕ, ◌+◌, ◌-◌, ◌<◌, true, false, List, replicate, Option, Some, None, is_some, refl, sym, ◌∙◌, ap, inl, inr, arith}
use Rattle.std.proofs.lemmas.Bool.{cases_lt}
use Rattle.std.proofs.lemmas.List.{length-replicate, get_or-replicate, ext_get_or}
use Rattle.thy_block.specs.declared.block.Block.{Block}
use Rattle.thy_block.specs.declared.parameters.Parameters.{Parameters}
use Rattle.thy_checkpoint.specs.Filling.{ListsOn}
use Rattle.thy_layout.specs.Entries.{entry_at as listed_at}
use Rattle.thy_shadow_parts.specs.declared.entry.Begun.{Begun}
use Rattle.thy_shadow_parts.specs.declared.entry.Framed.{Framed}
use Rattle.thy_shadow_parts.specs.declared.entry.Held.{Held}
use Rattle.thy_shadow_parts.specs.Keys.{number_key, held}
use Rattle.thy_shadow_parts.specs.State.{State, state_in, pool_of, target, committed_table}
use Rattle.thy_shadow_parts.proofs.CommitLemmas.{held_is}
use Rattle.thy_shadow_parts.proofs.CommittingLemmas.{listing_same}
use Rattle.thy_shadow_parts.proofs.TableLemmas.{listed_at-table_by, entry_page}
use Rattle.thy_shadow_parts.specs.Filling.{IsUnframed, filling_shadow}
use Rattle.thy_images.specs.ShadowPlaces.{pool_pages}
use Rattle.thy_images.specs.ShadowSlots.{table_in}
use Rattle.thy_table.specs.Listing.{Listing, listing, entry_at}
use Rattle.thy_table.proofs.IndexLemmas.{lists-key}
use Rattle.thy_table.proofs.ListingLaws.{index_of-lists}

-- the pages of the pool by the committed map
pool_by_table : (s : State) (x : ℕ) → x < s.p.pages → pool_of s x ≡ listed_at (committed_table s) x
pool_by_table s x l = sym (listed_at-table_by s.p (pool_of s) x (omega (arith, l)) ∙ entry_page s.p (pool_of s) x l)

module _ (d e : State) (h : IsUnframed d) (k : IsUnframed e) (same : d.p ≡ e.p) (tables : committed_table d ≡ committed_table e) where
  -- an entry lists a page of memory, because no frame is filled
  of_page : (q number : ℕ) → pool_of d number ≡ Some q → number < d.p.pages
  of_page q number here = elim (cases_lt number d.p.pages) as (λ _. number < d.p.pages) [
    | inl low ↦ low
    | inr high ↦
        let is : d.p.pages + (number - d.p.pages) ≡ number = omega (arith, high) in
        let claimed : target d (number - d.p.pages) ≡ Some q = ap (pool_of d) is ∙ here in
        let both : false ≡ true
        = sym (ap is_some (h.free (number - d.p.pages))) ∙ h.state.claimed (number - d.p.pages) ∙ ap is_some claimed in
        absurd (cc)
  ]

  -- the other pool has it at the same entry
  entry_kept : (q number : ℕ) → entry_at d.pool q ≡ Some (held number) → entry_at e.pool q ≡ Some (held number)
  entry_kept q number here =
      let found : pool_of d number ≡ Some q
      = h.state.pool_once.found q number (lists-key number_key number (entry_at d.pool q) (held number) here refl) in
      let low : number < d.p.pages = of_page q number found in
      let there : pool_of e number ≡ Some q
      = pool_by_table e number (omega (arith, low, ap (λ (p : Parameters). p.pages) same))
      ∙ ap (λ (table : List (Option ℕ)). listed_at table number) (sym tables)
      ∙ sym (pool_by_table d number low)
      ∙ found in
      held_is number (entry_at e.pool q) (index_of-lists number_key e.pool number q there)

unframed_frames : (s : State) → IsUnframed s → s.frames ≡ listing (replicate s.p.ptt None) s.p.pages
unframed_frames s h =
    let entries : s.frames.entries ≡ replicate s.p.ptt None
    = ext_get_or None s.frames.entries (replicate s.p.ptt None) (h.state.frames_size ∙ sym (length-replicate s.p.ptt None))
    (λ j l. h.free j ∙ sym (get_or-replicate s.p.ptt j None None (omega (arith, l, h.state.frames_size)))) in
    ap (λ (es : List (Option Framed)). listing es s.frames.numbers) entries
    ∙ ap (listing (replicate s.p.ptt None)) h.state.frames_numbers

-- an entry of both pools, by what each has
entries_meet : (d e : State) (q : ℕ) (a b : Option Held) → entry_at d.pool q ≡ a → entry_at e.pool q ≡ b
    → ((number : ℕ) → entry_at d.pool q ≡ Some (held number) → entry_at e.pool q ≡ Some (held number))
    → ((number : ℕ) → entry_at e.pool q ≡ Some (held number) → entry_at d.pool q ≡ Some (held number))
    → entry_at d.pool q ≡ entry_at e.pool q
entries_meet d e q None None here there to from = here ∙ sym there
entries_meet d e q (Some x) b here there to from = here ∙ sym (to x.number here)
entries_meet d e q None (Some y) here there to from = from y.number there ∙ sym there

pub slot_listed_once : (c d e : State) (commit : Block) (slot : List Block)
    → ListsOn filling_shadow commit slot c d → ListsOn filling_shadow commit slot c e → d ≡ e
slot_listed_once c d e commit slot a b =
    let h : IsUnframed d = a.lists.unframed in
    let k : IsUnframed e = b.lists.unframed in
    let same : d.p ≡ e.p = a.left.same_p ∙ sym b.left.same_p in
    let tables : committed_table d ≡ committed_table e = a.lists.table ∙ ap (λ (p : Parameters). table_in p slot) same ∙ sym b.lists.table in
    let pages : pool_pages d.p ≡ pool_pages e.p = ap pool_pages same in
    let pools : d.pool ≡ e.pool
    = listing_same d.pool e.pool (h.state.pool_size ∙ pages ∙ sym k.state.pool_size) (h.state.pool_numbers ∙ pages ∙ sym k.state.pool_numbers)
    (λ q. entries_meet d e q (entry_at d.pool q) (entry_at e.pool q) refl refl
    (entry_kept d e h k same tables q) (entry_kept e d k h (sym same) (sym tables) q)) in
    let frames : d.frames ≡ e.frames
    = unframed_frames d h ∙ ap (λ (p : Parameters). listing (replicate p.ptt None) p.pages) same ∙ sym (unframed_frames e k) in
    ap (λ (p : Parameters). state_in p d.pool d.frames d.begun d.dram) same
    ∙ ap (λ (pool : Listing Held). state_in e.p pool d.frames d.begun d.dram) pools
    ∙ ap (λ (fs : Listing Framed). state_in e.p e.pool fs d.begun d.dram) frames
    ∙ ap (λ (begun : Option Begun). state_in e.p e.pool e.frames begun d.dram) (h.unbegun ∙ sym k.unbegun)
    ∙ ap (state_in e.p e.pool e.frames e.begun) (a.left.same_dram ∙ sym b.left.same_dram)
