-- What is saved after each call, and what a cut leaves of it.
use Rattle.std.proofs.Common.{◌≡◌, ◌≢◌, ◌⊎◌, ℕ, ◌<◌, arith, List, [], ◌∷◌, ◌++◌, length, Contains, refl, sym, ◌∙◌, ap, subst, inl, inr}
use Rattle.std.proofs.lemmas.Bool.{cases_eq}
use Rattle.std.proofs.lemmas.List.{length-set, get_or-set_same, get_or-set_other}
use Rattle.std.proofs.lemmas.List.Elements.{Contains-push, Contains-append_left, Contains-append_right}
use Rattle.thy_block.specs.declared.block.Block.{Block}
use Rattle.thy_block.specs.Device.{Device, Crash, IsOneWordApart, HoldsNoMore, HasFailedToWrite, IsCut, IsFramed, zero_block, block_at, possible, applied, newest, with_queued, written_to, Settles}
use Rattle.thy_block.proofs.DeviceLemmas.{block_at-applied, length-applied, CrashAt-possible, CrashAt-elsewhere, possible-with_queued, no_more-written_to, length-settled, length-written_to}
use Rattle.thy_block.proofs.MadeLemmas.{IsMadeOf-either}
use Rattle.thy_layout.specs.Fixed.{IsFixed, IsEither, Reads}
use Rattle.thy_layout.specs.Saved.{Looking, Stands, IsIssued, next_image, Saved, Kept, Ready, InDoubt, IsKept, IsReady, IsInDoubt, IsSaved, guarded, IsCopy, IsCrashOfSaved}
use Rattle.thy_layout.specs.Spares.{Spares}
use Rattle.thy_layout.proofs.FixedLemmas.{block_at-fixed, IsFixed-empty, IsFixed-settled}
use Rattle.thy_layout.proofs.SparesLemmas.{Spares-settled}

-- ---- what a cut leaves

module _ (looked : Looking) (n : Device) where
  -- what stands, and has its commit block, is copied
  IsCopy-stands : (h g : List Block) → Stands looked n h → Crash n g → block_at g 1 ≡ block_at h 1 → IsCopy looked h g
  IsCopy-stands h g s c commit = record {
    as_long = c.same_length ∙ s.as_long;
    commit = commit;
    each = λ x inside. elim (cases_eq x 1) as (λ _. block_at g x ≡ block_at h x) [
      | inl e ↦ ap (block_at g) e ∙ commit ∙ sym (ap (block_at h) e)
      | inr other ↦ block_at-fixed n g x (block_at h x) (s.each x inside other) c
    ];
  }

  IsCopy-kept : (h g : List Block) → IsKept looked n h → Crash n g → IsCopy looked h g
  IsCopy-kept h g k c = IsCopy-stands h g k.stands c (block_at-fixed n g 1 (block_at h 1) k.commit c)

  pub left_of_saved : (s : Saved) (g : List Block) → IsSaved looked n s → Crash n g → IsCrashOfSaved looked s g
  left_of_saved (Kept before) g h c = IsCopy-kept before g h c
  left_of_saved (Ready before next) g h c = IsCopy-kept before g h.kept c
  left_of_saved (InDoubt before next) g h c =
      elim (h.commit.either (block_at g 1) (c.each 1)) as (λ _. IsCopy looked before g ⊎ IsCopy looked next g) [
        | inl old ↦ inl (IsCopy-stands before g h.stands c old)
        | inr new ↦ inr (IsCopy-stands next g h.next_stands c new)
      ]

  pub IsKept-empty : n.queue ≡ [] → IsKept looked n n.image
  IsKept-empty empty = record {
    stands = record { as_long = refl; each = λ x inside other. IsFixed-empty n x empty };
    commit = IsFixed-empty n 1 empty;
  }

pub IsKept-cut : (looked : Looking) (pick : ℕ) (old new : Device) → IsCut pick old new → IsKept looked new new.image
IsKept-cut looked pick old new c = IsKept-empty looked new (ap (λ n. n.queue) c.device)

-- ---- what keeps it

module _ (places : List ℕ) (old new : Device) (x : ℕ) where
  IsFixed-spared : (b : Block) → Spares places old new → Contains places x → IsFixed old x b → IsFixed new x b
  IsFixed-spared b s inside f = record { only = λ c h. f.only c (s.no_more x inside c h) }

  IsEither-spared : (a b : Block) → Spares places old new → Contains places x → IsEither old x a b → IsEither new x a b
  IsEither-spared a b s inside f = record { either = λ c h. f.either c (s.no_more x inside c h) }

Stands-spared : (looked : Looking) (places : List ℕ) (old new : Device) (h : List Block)
    → Spares places old new → ((x : ℕ) → Contains (looked h) x → Contains places x) → Stands looked old h → Stands looked new h
Stands-spared looked places old new h s among stands = record {
  as_long = s.as_long ∙ stands.as_long;
  each = λ x inside other. IsFixed-spared places old new x (block_at h x) s (among x inside) (stands.each x inside other);
}

-- the commit block is guarded, and so are the places of both images
commit_first : (places : List ℕ) → Contains (1 ∷ places) 1
commit_first places = Contains-append_left (1 ∷ []) places 1 (Contains-push [] 1)

among_rest : (places : List ℕ) (x : ℕ) → Contains places x → Contains (1 ∷ places) x
among_rest places x inside = Contains-append_right (1 ∷ []) places x inside

among_first : (places more : List ℕ) (x : ℕ) → Contains places x → Contains (1 ∷ (places ++ more)) x
among_first places more x inside = among_rest (places ++ more) x (Contains-append_left places more x inside)

among_second : (places more : List ℕ) (x : ℕ) → Contains more x → Contains (1 ∷ (places ++ more)) x
among_second places more x inside = among_rest (places ++ more) x (Contains-append_right places more x inside)

IsKept-spared : (looked : Looking) (places : List ℕ) (old new : Device) (h : List Block)
    → Spares places old new → Contains places 1 → ((x : ℕ) → Contains (looked h) x → Contains places x) → IsKept looked old h
    → IsKept looked new h
IsKept-spared looked places old new h s here among k = record {
  stands = Stands-spared looked places old new h s among k.stands;
  commit = IsFixed-spared places old new 1 (block_at h 1) s here k.commit;
}

pub IsSaved-spared : (looked : Looking) (s : Saved) (old new : Device) → IsSaved looked old s → Spares (guarded looked s) old new
    → IsSaved looked new s
IsSaved-spared looked (Kept before) old new h spares =
    IsKept-spared looked (1 ∷ looked before) old new before spares (commit_first (looked before)) (among_rest (looked before)) h
IsSaved-spared looked (Ready before next) old new h spares =
    let places : List ℕ = 1 ∷ (looked before ++ looked next) in
    record {
      kept = IsKept-spared looked places old new before spares (commit_first (looked before ++ looked next))
          (among_first (looked before) (looked next)) h.kept;
      next_stands = Stands-spared looked places old new next spares (among_second (looked before) (looked next)) h.next_stands;
    }
IsSaved-spared looked (InDoubt before next) old new h spares =
    let places : List ℕ = 1 ∷ (looked before ++ looked next) in
    record {
      stands = Stands-spared looked places old new before spares (among_first (looked before) (looked next)) h.stands;
      next_stands = Stands-spared looked places old new next spares (among_second (looked before) (looked next)) h.next_stands;
      commit = IsEither-spared places old new 1 (block_at before 1) (block_at next 1) spares (commit_first (looked before ++ looked next)) h.commit;
    }

-- ---- how a checkpoint is made

pub next_image-reads : (commit : Block) (n : Device) (x : ℕ) → x < length n.image → x ≢ 1 → block_at (next_image n commit) x ≡ newest n x
next_image-reads commit n x inside other =
    get_or-set_other (applied n.image n.queue) 1 x commit zero_block other ∙ block_at-applied n.image n.queue x inside

pub next_image-commit : (commit : Block) (n : Device) → 1 < length n.image → block_at (next_image n commit) 1 ≡ commit
next_image-commit commit n inside =
    get_or-set_same (applied n.image n.queue) 1 commit zero_block (omega (arith, length-applied n.image n.queue))

pub IsIssued-next_image : (looked : Looking) (commit : Block) (n : Device)
    → ((x : ℕ) → Contains (looked (next_image n commit)) x → x < length n.image) → IsIssued looked n (next_image n commit)
IsIssued-next_image looked commit n all_inside = record {
  as_long = sym (length-set (applied n.image n.queue) 1 commit ∙ length-applied n.image n.queue);
  each = λ x here other. record {
    inside = all_inside x here;
    newest_is = sym (next_image-reads commit n x (all_inside x here) other);
  };
}

pub IsReady-settled : (looked : Looking) (before next : List Block) (old new : Device)
    → IsKept looked old before → IsIssued looked old next → Settles old new → IsReady looked new before next
IsReady-settled looked before next old new k issued e = record {
  kept = IsSaved-spared looked (Kept before) old new k (Spares-settled (guarded looked (Kept before)) old new e);
  next_stands = subst (λ (n : Device). Stands looked n next) (sym e) (record {
    as_long = length-settled new.writes old ∙ issued.as_long;
    each = λ x inside other. IsFixed-settled new.writes old x (block_at next x) (issued.each x inside other);
  });
}

-- an image that stands still stands if no more is possible than if a commit block were queued
pub Stands-commit : (looked : Looking) (h : List Block) (block : Block) (old new : Device)
    → HoldsNoMore (with_queued 1 block old) new → length new.image ≡ length old.image → Stands looked old h → Stands looked new h
Stands-commit looked h block old new no_more same s = record {
  as_long = same ∙ s.as_long;
  each = λ x inside other. record { only = λ c held. (s.each x inside other).only c (CrashAt-elsewhere old 1 block x c other (no_more x c held)) };
}

-- a cut leaves one of the two commit blocks, if they differ in one word at most
IsEither-commit : (before block : Block) (old new : Device) → IsOneWordApart before block → IsFixed old 1 before
    → HoldsNoMore (with_queued 1 block old) new → IsEither new 1 before block
IsEither-commit before block old new apart fixed no_more = record {
  either = λ c held.
      IsMadeOf-either (possible (with_queued 1 block old) 1) before block c apart
      (λ d h. elim (possible-with_queued old 1 block 1 d h) as (λ _. (d ≡ before) ⊎ (d ≡ block)) [
        | inl was ↦ inl (fixed.only d (CrashAt-possible old 1 d was))
        | inr here ↦ inr here.1
      ])
      (no_more 1 c held).words;
}

IsInDoubt-queued : (looked : Looking) (before next : List Block) (old new : Device)
    → IsOneWordApart (block_at before 1) (block_at next 1) → IsReady looked old before next
    → HoldsNoMore (with_queued 1 (block_at next 1) old) new → length new.image ≡ length old.image → IsInDoubt looked new before next
IsInDoubt-queued looked before next old new apart r no_more same = record {
  stands = Stands-commit looked before (block_at next 1) old new no_more same r.kept.stands;
  next_stands = Stands-commit looked next (block_at next 1) old new no_more same r.next_stands;
  commit = IsEither-commit (block_at before 1) (block_at next 1) old new apart r.kept.commit no_more;
}

pub IsInDoubt-written : (looked : Looking) (before next : List Block) (old new : Device)
    → IsOneWordApart (block_at before 1) (block_at next 1) → IsReady looked old before next → new ≡ written_to old 1 (block_at next 1)
    → IsInDoubt looked new before next
IsInDoubt-written looked before next old new apart r e =
    subst (λ (n : Device). IsInDoubt looked n before next) (sym e)
    (IsInDoubt-queued looked before next old (written_to old 1 (block_at next 1)) apart r
    (no_more-written_to old 1 (block_at next 1)) (length-written_to old 1 (block_at next 1)))

pub IsInDoubt-failed : (looked : Looking) (before next : List Block) (old new : Device)
    → IsOneWordApart (block_at before 1) (block_at next 1) → IsReady looked old before next
    → HasFailedToWrite 1 (block_at next 1) old new → IsFramed old new → IsInDoubt looked new before next
IsInDoubt-failed looked before next old new apart r failed framed =
    IsInDoubt-queued looked before next old new apart r failed.no_more framed.blocks

-- a barrier keeps an image that stands and whose commit block is read, whatever was there before
pub IsKept-stood : (looked : Looking) (next : List Block) (old new : Device)
    → Stands looked old next → Reads old 1 (block_at next 1) → Settles old new → IsKept looked new next
IsKept-stood looked next old new s r e = record {
  stands = Stands-spared looked (looked next) old new next (Spares-settled (looked next) old new e) (λ x inside. inside) s;
  commit = subst (λ (n : Device). IsFixed n 1 (block_at next 1)) (sym e) (IsFixed-settled new.writes old 1 (block_at next 1) r);
}

pub IsKept-settled : (looked : Looking) (before next : List Block) (old new : Device)
    → IsInDoubt looked old before next → Reads old 1 (block_at next 1) → Settles old new → IsKept looked new next
IsKept-settled looked before next old new d r e = IsKept-stood looked next old new d.next_stands r e
