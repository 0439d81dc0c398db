-- A seal that finds no work frees the block table at its commit.
use Rattle.std.proofs.Common.{◌≡◌, ℕ, ◌*◌, ◌≤◌, Bool, true, length, replicate, refl, sym, ◌∙◌, ap, inl, inr, arith, Option, Some, None, is_none, option_and_then}
use Rattle.std.specs.List.{count_by}
use Rattle.std.proofs.lemmas.Bool.{cases_lt, lt-ltb}
use Rattle.std.proofs.lemmas.List.{length-map, length-replicate, ext_get_or, get_or-replicate}
use Rattle.thy_table.specs.Listing.{Listing, entry_at, free_count, mapped}
use Rattle.thy_table.proofs.ListingLaws.{entry_at-mapped, free_count-mapped}
use Rattle.thy_table.specs.declared.block_entry.BttEntry.{BttEntry}
use Rattle.thy_table.specs.declared.block_entry.Version.{Version}
use Rattle.thy_table.specs.declared.block_entry.Working.{Working}
use Rattle.thy_table.specs.declared.block_entry.Working.TheVariants.{NoWork}
use Rattle.thy_table.specs.Checkpoint.{committed_entry, sealed_by, sealed_entry}
use Rattle.thy_control.specs.State.{State, AreSoundTables}
use Rattle.thy_control.specs.Seal.{is_few, block_is_framed, sealed_in, sealed_state}
use Rattle.thy_control.specs.Commit.{committed_state}
use Rattle.thy_control.specs.Frees.{HasNoWork, settled}
use Rattle.thy_control.proofs.HoldingLemmas.{all_free}

-- a rule that clears every live entry leaves all of them free
clears_all : (rule : BttEntry → Option BttEntry) (t : Listing BttEntry) → ((i : ℕ) (e : BttEntry) → entry_at t i ≡ Some e → rule e ≡ None)
    → free_count (mapped rule t) ≡ length t.entries
clears_all rule t each =
    let all : (mapped rule t).entries ≡ replicate (length t.entries) None
    = ext_get_or None (mapped rule t).entries (replicate (length t.entries) None)
    (length-map t.entries (option_and_then rule) ∙ sym (length-replicate (length t.entries) None))
    (λ i l. entry_at-mapped rule t i ∙ by_entry i (entry_at t i) refl
    ∙ sym (get_or-replicate (length t.entries) i None None (omega (arith, l, length-map t.entries (option_and_then rule))))) in
    ap (count_by is_none) all ∙ all_free (length t.entries) t.numbers
  where
    by_entry : (i : ℕ) (o : Option BttEntry) → entry_at t i ≡ o → option_and_then rule o ≡ None
    by_entry i None was = refl
    by_entry i (Some e) was = each i e was

-- if few entries are free, one without work is given up
given_up : (framed : Bool) (w : Working) (v : Version) (e : BttEntry) → w ≡ e.work → v ≡ e.v1 → e.work ≡ NoWork
    → option_and_then committed_entry (settled (sealed_by framed w true v e)) ≡ None
given_up framed w v e is_w is_v none = grind arith

-- so every entry is
module _ (s t : State) (sound : AreSoundTables s) (idle : HasNoWork s) (settles : t.btt ≡ mapped settled (sealed_state s).btt) where
  -- what becomes of an entry
  became : (i : ℕ) → entry_at t.btt i ≡ option_and_then settled (option_and_then (sealed_in (is_few s) s.ptt) (entry_at s.btt i))
  unfolding sealed_state
  became i =
      ap (λ (u : Listing BttEntry). entry_at u i) settles ∙ entry_at-mapped settled (mapped (sealed_in (is_few s) s.ptt) s.btt) i
      ∙ ap (option_and_then settled) (entry_at-mapped (sealed_in (is_few s) s.ptt) s.btt i)

  goes : is_few s ≡ true → (i : ℕ) (f : BttEntry) → entry_at t.btt i ≡ Some f → committed_entry f ≡ None
  goes few i f now = by_entry (entry_at s.btt i) refl (sym (became i) ∙ now) where
    by_entry : (o : Option BttEntry) → entry_at s.btt i ≡ o
        → option_and_then settled (option_and_then (sealed_in (is_few s) s.ptt) o) ≡ Some f → committed_entry f ≡ None
    by_entry None was h = cc
    by_entry (Some e) was h =
        let framed : Bool = block_is_framed s.ptt e.block in
        ap (option_and_then committed_entry) (sym h) ∙ ap (λ (q : Bool). option_and_then committed_entry (settled (sealed_entry framed q e))) few
        ∙ given_up framed e.work e.v1 e refl refl (idle.no_work i e was)

  as_long : length t.btt.entries ≡ s.p.btt
  unfolding sealed_state
  as_long =
      ap (λ (u : Listing BttEntry). length u.entries) settles
      ∙ length-map (mapped (sealed_in (is_few s) s.ptt) s.btt).entries (option_and_then settled)
      ∙ length-map s.btt.entries (option_and_then (sealed_in (is_few s) s.ptt)) ∙ sound.btt_size

  as_free : free_count s.btt ≤ free_count t.btt
  unfolding sealed_state
  as_free = omega (
    arith,
    free_count-mapped (sealed_in (is_few s) s.ptt) s.btt,
    free_count-mapped settled (mapped (sealed_in (is_few s) s.ptt) s.btt),
    ap free_count settles,
  )

  pub half_free : s.p.btt ≤ 2 * free_count (committed_state t).btt
  unfolding committed_state
  half_free = elim (cases_lt (2 * free_count s.btt) s.p.btt) as (λ _. s.p.btt ≤ 2 * free_count (committed_state t).btt) [
    | inl l ↦ omega (arith, clears_all committed_entry t.btt (goes (lt-ltb (2 * free_count s.btt) s.p.btt l)), as_long)
    | inr l ↦ omega (arith, l, as_free, free_count-mapped committed_entry t.btt)
  ]
