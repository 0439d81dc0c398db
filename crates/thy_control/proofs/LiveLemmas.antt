-- An entry of the block table stays live only if a checkpoint has the block in its place, or it has work.
use Rattle.std.proofs.Common.{◌≡◌, ◌≢◌, ℕ, ◌<◌, Bool, true, false, length, refl, sym, ◌∙◌, ap, subst, Option, Some, None, option_and_then, unwrap_or}
use Rattle.std.proofs.lemmas.List.{get_or-set_other}
use Rattle.thy_table.specs.Listing.{Listing, entry_at, with_entry, mapped}
use Rattle.thy_table.specs.declared.block_entry.BttEntry.{BttEntry}
use Rattle.thy_table.specs.declared.block_entry.Version.{Version}
use Rattle.thy_table.specs.declared.block_entry.Version.TheVariants.{Out, Alt}
use Rattle.thy_table.specs.declared.block_entry.Working.{Working}
use Rattle.thy_table.specs.declared.block_entry.Working.TheVariants.{NoWork, InNvm, InBuffer}
use Rattle.thy_table.specs.BlockEntry.{new_entry}
use Rattle.thy_table.specs.declared.cell.Cell.{Cell}
use Rattle.thy_table.specs.declared.cell.StoreRule.{StoreRule}
use Rattle.thy_table.specs.declared.cell.StoreRule.TheVariants.{ToFrame, PendingFirst}
use Rattle.thy_table.specs.Checkpoint.{sealed_by, committed_by}
use Rattle.thy_table.specs.Rules.{after_store}
use Rattle.thy_control.specs.Find.{with_entry_for, index_for}
use Rattle.thy_control.specs.Keys.{block_key}
use Rattle.thy_control.specs.State.{IsUsed, AreUsed}
use Rattle.thy_control.specs.StoredTables.{btt_with, btt_after}
use Rattle.thy_control.proofs.FindLemmas.{at_set, at_put, by_entry_for, index_of-new_same}
use Rattle.thy_table.proofs.ListingLaws.{entry_at-mapped}
use Rattle.thy_block.proofs.BasicLemmas.{some_same}

no-alt : Alt ≡ Out → ⊥
no-alt e = cc

-- an entry was put in a place, or cleared
pub used-set : (t : Listing BttEntry) (i : ℕ) (x : BttEntry) → i < length t.entries → IsUsed x → AreUsed t → AreUsed (with_entry i (Some x) t)
used-set t i x inside used all = at_put t i IsUsed x inside used all

pub used-cleared : (t : Listing BttEntry) (i : ℕ) → i < length t.entries → AreUsed t → AreUsed (with_entry i None t)
used-cleared t i inside all =
    at_set t i IsUsed None inside (λ e h. cc) (λ j e other was. all j e was)

-- every entry is used after a rule, if the rule leaves it so
pub used-mapped : (rule : BttEntry → Option BttEntry) (t : Listing BttEntry)
    → ((i : ℕ) (e f : BttEntry) → entry_at t i ≡ Some e → rule e ≡ Some f → IsUsed f) → AreUsed (mapped rule t)
used-mapped rule t keeps i f h = by_entry (entry_at t i) refl (sym (entry_at-mapped rule t i) ∙ h) where
  by_entry : (o : Option BttEntry) → entry_at t i ≡ o → option_and_then rule o ≡ Some f → IsUsed f
  by_entry None was g = absurd (cc)
  by_entry (Some e) was g = keeps i e f was g

-- a seal, if both checkpoints are one
pub used-sealed : (framed few : Bool) (w : Working) (v : Version) (e : BttEntry) → e.work ≡ w → e.v1 ≡ v → e.v0 ≡ e.v1 → IsUsed e
    → IsUsed (sealed_by framed w few v e)
used-sealed true few w v e is at one used = λ v0 v1. used v0 (sym one ∙ v0)
used-sealed false true NoWork Alt e is at one used = λ v0 v1. absurd (no-alt (sym at ∙ sym one ∙ v0))
used-sealed false true NoWork Out e is at one used = used
used-sealed false false NoWork v e is at one used = used
used-sealed false few w Out e is at one used = λ v0 v1. absurd (no-alt v1)
used-sealed false few w Alt e is at one used = λ v0 v1. absurd (no-alt (sym at ∙ sym one ∙ v0))

-- entries that list something stay used after a commit
pub used-committed : (v : Version) (w : Working) (e f : BttEntry) → e.work ≡ w → committed_by v w e ≡ Some f → IsUsed f
used-committed Out NoWork e f is h = absurd (cc)
used-committed Out InNvm e f is h =
    let same : record e { v0 = Out } ≡ f = cc in
    subst IsUsed same (λ v0 v1 none. let no : InNvm ≡ NoWork = sym is ∙ none in absurd (cc))
used-committed Out InBuffer e f is h =
    let same : record e { v0 = Out } ≡ f = cc in
    subst IsUsed same (λ v0 v1 none. let no : InBuffer ≡ NoWork = sym is ∙ none in absurd (cc))
used-committed Alt w e f is h =
    let same : record e { v0 = Alt } ≡ f = cc in
    subst IsUsed same (λ v0 v1. absurd (no-alt v0))

-- a block that has an entry, or is given one: every other entry was there
others-found : (t : Listing BttEntry) (b : ℕ) → AreUsed t → (j : ℕ) (e : BttEntry)
    → j ≢ index_for block_key new_entry b (with_entry_for block_key new_entry b t)
    → entry_at (with_entry_for block_key new_entry b t) j ≡ Some e → IsUsed e
others-found t b all j e =
    by_entry_for block_key new_entry (λ u. j ≢ index_for block_key new_entry b u
    → entry_at u j ≡ Some e → IsUsed e) t b
    (λ other was. all j e was)
    (λ i h f other was.
    let at : index_for block_key new_entry b (with_entry i (Some (new_entry b)) t) ≡ i
    = ap (λ o. unwrap_or o 0) (index_of-new_same block_key new_entry (λ n. refl) t b i h f) in
    all j e (sym (get_or-set_other t.entries i j (Some (new_entry b)) None
    (λ same. other (same ∙ sym at))) ∙ was))

-- a store, whose rule copies first only what is pending
pub used-stored : (r : StoreRule) (c : Cell) (b : ℕ) (t : Listing BttEntry) → AreUsed t → c.i ≡ index_for block_key new_entry b (btt_with r b t)
    → c.i < length (btt_with r b t).entries → (r ≡ PendingFirst → c.entry.v0 ≢ c.entry.v1)
    → AreUsed (btt_after r (after_store r c) (btt_with r b t))
used-stored ToFrame c b t all at inside moves = all
used-stored PendingFirst c b t all at inside moves =
    used-set t c.i (after_store PendingFirst c).entry inside (λ v0 v1. absurd (moves refl (v0 ∙ sym v1))) all
used-stored r c b t all at inside moves =
    at_set (with_entry_for block_key new_entry b t) c.i IsUsed (Some (after_store r c).entry) inside
    (λ e h. subst IsUsed (some_same (after_store r c).entry e h) (λ v0 v1 none. absurd (cc)))
    (λ j e other was. others-found t b all j e (λ same. other (same ∙ sym at)) was)
