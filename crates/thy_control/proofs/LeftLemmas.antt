-- With no copy and no page block left every block is copied and written, and the other way round.
use Rattle.std.proofs.Common.{◌≡◌, ℕ, ◌≤◌, Bool, true, false, ◌&&◌, nat_lt, refl, sym, ◌∙◌, ap, arith, Option, Some, None}
use Rattle.thy_table.specs.Listing.{Listing, passes, next_from, index_of}
use Rattle.thy_table.proofs.FirstLemmas.{none-first_from}
use Rattle.thy_block.specs.Store.{page_of}
use Rattle.thy_table.specs.declared.block_entry.Pending.{Pending}
use Rattle.thy_table.specs.declared.block_entry.Pending.TheVariants.{Settled}
use Rattle.thy_table.specs.BlockEntry.{new_entry}
use Rattle.thy_table.specs.PageEntry.{no_page}
use Rattle.thy_control.specs.Copies.{is_pending, needs_copy, next_copy, block_listed}
use Rattle.thy_control.specs.Find.{entry_for}
use Rattle.thy_control.specs.Keys.{block_key, page_key}
use Rattle.thy_control.specs.Left.{NoneLeftIsCopied, CopiedHasNoneLeft}
use Rattle.thy_control.specs.Pages.{needs_write, next_page, block_to_write}
use Rattle.thy_control.specs.State.{cell_of}
use Rattle.thy_control.proofs.CopyLemmas.{IsNext, IsNext-entry}
use Rattle.thy_control.proofs.FindLemmas.{found_entry, entry_for-none, entry_for-some}
use Rattle.thy_control.proofs.IssueLemmas.{IsDue, IsDue-entry}

-- if no live entry passes a test, and no new one, the entry of no number does
pub none-entry_for : {E : Type 0} (key : E → ℕ) (new : ℕ → E) (test : E → Bool) (t : Listing E) → next_from test 0 t ≡ None
    → ((n : ℕ) → test (new n) ≡ false) → (n : ℕ) → test (entry_for key new n t) ≡ false
none-entry_for {E} key new test t none new_fails n = by_place (index_of key n t) refl where
  by_place : (o : Option ℕ) → index_of key n t ≡ o → test (entry_for key new n t) ≡ false
  by_place None p = ap test (entry_for-none key new t n p) ∙ new_fails n
  by_place (Some i) p =
      let f = found_entry key new t n i p in
      ap test (entry_for-some key new t n i f.0 p f.1)
      ∙ sym (ap (passes test) f.1)
      ∙ none-first_from (passes test) None t.entries 0 none i (omega arith) f.3

pub not_pending : (q : Pending) → is_pending q ≡ false → q ≡ Settled
not_pending q h = grind arith

pub not_to_write : (busy : Bool) (issued : ℕ) → (busy && nat_lt issued 64) ≡ false → busy ≡ true → 64 ≤ issued
not_to_write true issued h e = grind arith
not_to_write false issued h e = cc

pub AreCopied-none : NoneLeftIsCopied
AreCopied-none s none b l = record {
  copied = not_pending (cell_of s b).entry.pend (none-entry_for block_key new_entry needs_copy s.btt none.copies (λ n. refl) b);
  written = not_to_write (cell_of s b).page.busy (cell_of s b).page.issued
      (none-entry_for page_key no_page needs_write s.ptt none.pages (λ n. refl) (page_of b));
}

pub HasNoneLeft-copied : CopiedHasNoneLeft
HasNoneLeft-copied s t copied = record { copies = no_copy (next_copy s) refl; pages = no_page_block (next_page s) refl } where
  no_copy : (o : Option ℕ) → next_copy s ≡ o → o ≡ None
  no_copy None e = refl
  no_copy (Some i) e =
      let next : IsNext s (block_listed i s) = IsNext-entry s t i e in
      absurd (next.pending (copied (block_listed i s) next.inside).copied)

  no_page_block : (o : Option ℕ) → next_page s ≡ o → o ≡ None
  no_page_block None e = refl
  no_page_block (Some j) e =
      let next : IsDue s (block_to_write j s) = IsDue-entry s t j e in
      absurd (omega (arith, (copied (block_to_write j s) next.inside).written next.busy, next.due))
