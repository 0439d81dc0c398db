-- Which checkpoints a device keeps, after each move and after a cut; and that they are all that a cut may leave.
use Rattle.std.proofs.Common.{◌≡◌, ◌⊎◌, ℕ, List, [], length, Option, Some, None, refl, sym, ◌∙◌, ap, subst, inl, inr, arith}
use Rattle.thy_block.specs.declared.block.Block.{Block}
use Rattle.thy_block.specs.declared.mark.Mark.{Mark}
use Rattle.thy_block.specs.Device.{Device, Crash, IsOneWordApart, IsCut, IsFramed, Settles, block_at, written_to}
use Rattle.thy_block.proofs.DeviceLemmas.{length-settled, length-written_to}
use Rattle.thy_layout.specs.Decoded.{Decoded, At}
use Rattle.thy_layout.specs.Saved.{Saved, Kept, Ready, InDoubt, IsCopy, IsCrashOfSaved, IsIssued, guarded}
use Rattle.thy_layout.specs.Fixed.{Reads}
use Rattle.thy_layout.specs.Spares.{Spares}
use Rattle.thy_layout.proofs.SavedLemmas.{left_of_saved, IsKept-cut, IsKept-empty, IsSaved-spared, IsReady-settled, IsInDoubt-written, IsInDoubt-failed, IsKept-settled}
use Rattle.thy_layout.proofs.SparesLemmas.{Spares-same, Spares-drained, Spares-settled, Spares-written, Spares-failed, Spares-failed_to_write, Spares-unsettled}
use Rattle.thy_computer.specs.Action.{Action, Rest, ReadAt, WriteAt, Barrier, Drain, IsLeftBy, FailsTo}
use Rattle.thy_computer.proofs.SafeLemmas.{Safe-doubt}
use Rattle.thy_computer.proofs.TurnLaws.{at-early}
use Rattle.thy_computer.specs.Booting.{boot_view, found_first, view_of_image}
use Rattle.thy_computer.specs.Origin.{Origin, IsOrigin, StartsFrom, at}
use Rattle.thy_computer.specs.Safe.{ceiling, Safe, IsOneOf}
use Rattle.thy_block.specs.Marks.{mark}
use Rattle.thy_layout.specs.Layout.{Layout, Layouts, decode_by, reading, looked_by}
use Rattle.thy_computer.specs.Keeps.{IsOf, HasKept, HasSealed, HasMarks, Keeps, doubt_in, finding_view}
use Rattle.thy_computer.specs.Moves.{Standing, IsKeeping, CommitsTo, Move, Goes, Seals, Readies, Commits, Confirms, Moves, Rests, Then, LeavesAlone}
use Rattle.thy_layout.proofs.LayoutLemmas.{decode_by-copy}

-- ---- what a cut leaves

-- a copy of a mark's checkpoint is that mark's
IsOf-copy : (o : Origin) (l : Layout) (h g : List Block) (m : Mark) → IsCopy (looked_by l) h g → IsOf o l h m → IsOf o l g m
IsOf-copy o l h g m c is = record { decodes = decode_by-copy l ceiling h g c ∙ is.decodes; counted = is.counted }

HasKept-copy : (o : Origin) (l : Layout) (h g : List Block) (kept : Option Mark) → IsCopy (looked_by l) h g → HasKept o l h kept
    → HasKept o l g kept
HasKept-copy o l h g None c t = (decode_by-copy l ceiling h g c ∙ t.0, t.1)
HasKept-copy o l h g (Some m) c is = IsOf-copy o l h g m c is

HasSealed-copy : (o : Origin) (l : Layout) (h g : List Block) (sealed : Option Mark)
    → IsCopy (looked_by l) h g → HasSealed o l h sealed → (m : Mark) × (sealed ≡ Some m) × IsOf o l g m
HasSealed-copy o l h g None c t = absurd t
HasSealed-copy o l h g (Some m) c is = (m, refl, IsOf-copy o l h g m c is)

-- an image that a cut may leave has the checkpoint of the mark kept, or of the one in doubt
abbrev IsFound : Origin → Layout → Option Mark → Option Mark → List Block → Type 0
IsFound o l kept doubt g = HasKept o l g kept ⊎ ((m : Mark) × (doubt ≡ Some m) × IsOf o l g m)

found_after : (o : Origin) (l : Layout) (s : Saved) (kept sealed : Option Mark) (g : List Block)
    → IsCrashOfSaved (looked_by l) s g → HasMarks o l s kept sealed → IsFound o l kept (doubt_in s sealed) g
found_after o l (Kept before) kept sealed g c t = inl (HasKept-copy o l before g kept c t)
found_after o l (Ready before next) kept sealed g c t = inl (HasKept-copy o l before g kept c t.0)
found_after o l (InDoubt before next) kept sealed g c t = elim c as (λ _. IsFound o l kept sealed g) [
  | inl old ↦ inl (HasKept-copy o l before g kept old t.0)
  | inr new ↦ inr (HasSealed-copy o l next g sealed new t.1)
]

found : (o : Origin) (l : Layout) (n : Device) (s : Saved) (kept sealed : Option Mark) (g : List Block)
    → Keeps o l n s kept sealed → Crash n g → IsFound o l kept (doubt_in s sealed) g
found o l n s kept sealed g k c = found_after o l s kept sealed g (left_of_saved (looked_by l) n s g k.saved c) k.meant

-- a mark's checkpoint is one of two
one_of_mark : (o : Origin) (kept doubt : Option Mark) (m : Mark) (d : Decoded)
    → d ≡ At m.epoch (at o m.count) → (at o m.count).count ≡ m.count → (kept ≡ Some m) ⊎ (doubt ≡ Some m) → IsOneOf o kept doubt d
one_of_mark o kept doubt m d decodes counted which =
    subst (IsOneOf o kept doubt) (sym decodes)
    (subst (λ (k : ℕ). (kept ≡ Some (mark m.epoch k)) ⊎ (doubt ≡ Some (mark m.epoch k))) (sym counted) which, ap (at o) (sym counted))

one_of_kept : (o : Origin) (l : Layout) (g : List Block) (kept doubt : Option Mark) → HasKept o l g kept
    → IsOneOf o kept doubt (decode_by l ceiling g)
one_of_kept o l g None doubt t = subst (IsOneOf o None doubt) (sym t.0) refl
one_of_kept o l g (Some m) doubt is = one_of_mark o (Some m) doubt m (decode_by l ceiling g) is.decodes is.counted (inl refl)

pub Safe-kept : (layouts : Layouts) (o : Origin) (n : Device) (s : Saved) (kept sealed : Option Mark)
    → Keeps o (layouts o.geometry) n s kept sealed → Safe (reading layouts) o kept (doubt_in s sealed) n
Safe-kept layouts o n s kept sealed k = λ g c.
    let l : Layout = layouts o.geometry in
    elim (found o l n s kept sealed g k c) as (λ _. IsOneOf o kept (doubt_in s sealed) (decode_by l ceiling g)) [
      | inl old ↦ one_of_kept o l g kept (doubt_in s sealed) old
      | inr new ↦ one_of_mark o kept (doubt_in s sealed) new.0 (decode_by l ceiling g) new.2.decodes new.2.counted (inr new.1)
    ]

-- what is safe for the mark in doubt is safe for the sealed one
safe_for_both : (layouts : Layouts) (o : Origin) (n : Device) (s : Saved) (kept sealed : Option Mark)
    → Safe (reading layouts) o kept (doubt_in s sealed) n → Safe (reading layouts) o kept sealed n
safe_for_both layouts o n (Kept before) kept sealed safe = Safe-doubt (reading layouts) o kept sealed n safe
safe_for_both layouts o n (Ready before next) kept sealed safe = Safe-doubt (reading layouts) o kept sealed n safe
safe_for_both layouts o n (InDoubt before next) kept sealed safe = safe

pub Safe-sealed : (layouts : Layouts) (o : Origin) (n : Device) (s : Saved) (kept sealed : Option Mark)
    → Keeps o (layouts o.geometry) n s kept sealed → Safe (reading layouts) o kept sealed n
Safe-sealed layouts o n s kept sealed k = safe_for_both layouts o n s kept sealed (Safe-kept layouts o n s kept sealed k)

-- ---- what a boot finds

pub at-start : (o : Origin) → at o o.start.count ≡ o.start
at-start o = at-early o o.start.count (omega arith)

module _ (o : Origin) (l : Layout) (g : List Block) where
  IsOf-first : (m : Mark) → m.count ≡ o.start.count → decode_by l ceiling g ≡ At m.epoch o.start → IsOf o l g m
  IsOf-first m same decodes =
      let start : at o m.count ≡ o.start = ap (at o) same ∙ at-start o in
      record { decodes = decodes ∙ ap (At m.epoch) (sym start); counted = ap (λ s. s.count) start ∙ sym same }

  first_kept : (kept : Option Mark) → o.kept ≡ kept → StartsFrom kept o.start → decode_by l ceiling g ≡ found_first o kept
      → HasKept o l g kept
  first_kept None is starts found = (found, is)
  first_kept (Some m) is starts found = IsOf-first m starts.0 found

  pub HasKept-first : IsOrigin o → decode_by l ceiling g ≡ found_first o o.kept → HasKept o l g o.kept
  HasKept-first origin found = first_kept o.kept refl origin.starts found

pub finding_view-meant : (o : Origin) (l : Layout) (g : List Block) (kept : Option Mark) (count : ℕ)
    → HasKept o l g kept → view_of_image count (decode_by l ceiling g) ≡ finding_view count kept
finding_view-meant o l g None count t = ap (view_of_image count) t.0
finding_view-meant o l g (Some m) count is =
    ap (view_of_image count) is.decodes ∙ ap (λ k. boot_view (Some (mark m.epoch k)) None) is.counted

pub Keeps-empty : (o : Origin) (l : Layout) (n : Device) (kept sealed : Option Mark)
    → length n.image ≡ l.image_blocks → n.queue ≡ [] → HasKept o l n.image kept → Keeps o l n (Kept n.image) kept sealed
Keeps-empty o l n kept sealed sized empty t = record { sized = sized; saved = IsKept-empty (looked_by l) n empty; meant = t }

pub Keeps-cut : (o : Origin) (l : Layout) (s : Saved) (kept sealed : Option Mark) (pick : ℕ) (old new : Device)
    → Keeps o l old s kept sealed → IsCut pick old new
    → Keeps o l new (Kept new.image) kept None
    ⊎ ((m : Mark) × (doubt_in s sealed ≡ Some m) × Keeps o l new (Kept new.image) (Some m) None)
Keeps-cut o l s kept sealed pick old new k c =
    let sized : length new.image ≡ l.image_blocks = c.crash.same_length ∙ k.sized in
    let saved = IsKept-cut (looked_by l) pick old new c in
    elim (found o l old s kept sealed new.image k c.crash) as (λ _. Keeps o l new (Kept new.image) kept None
    ⊎ ((m : Mark) × (doubt_in s sealed ≡ Some m) × Keeps o l new (Kept new.image) (Some m) None)) [
      | inl before ↦ inl (record { sized = sized; saved = saved; meant = before })
      | inr next ↦ inr (next.0, next.1, record { sized = sized; saved = saved; meant = next.2 })
    ]

-- ---- the moves

Keeps-goes : (o : Origin) (l : Layout) (s : Saved) (kept sealed : Option Mark) (old new : Device)
    → Spares (guarded (looked_by l) s) old new → Keeps o l old s kept sealed → Keeps o l new s kept sealed
Keeps-goes o l s kept sealed old new spares k = record {
  sized = spares.as_long ∙ k.sized;
  saved = IsSaved-spared (looked_by l) s old new k.saved spares;
  meant = k.meant;
}

Keeps-readies : (o : Origin) (l : Layout) (before next : List Block) (kept : Option Mark) (m : Mark) (old new : Device)
    → IsIssued (looked_by l) old next → IsOf o l next m → Settles old new
    → Keeps o l old (Kept before) kept (Some m) → Keeps o l new (Ready before next) kept (Some m)
Keeps-readies o l before next kept m old new issued is e k = record {
  sized = ap (λ n. length n.image) e ∙ length-settled new.writes old ∙ k.sized;
  saved = IsReady-settled (looked_by l) before next old new k.saved issued e;
  meant = (k.meant, is);
}

Keeps-commits : (o : Origin) (l : Layout) (before next : List Block) (kept : Option Mark) (m : Mark) (old new : Device)
    → IsOneWordApart (block_at before 1) (block_at next 1) → CommitsTo next old new
    → Keeps o l old (Ready before next) kept (Some m) → Keeps o l new (InDoubt before next) kept (Some m)
Keeps-commits o l before next kept m old new apart how k = elim how as (λ _. Keeps o l new (InDoubt before next) kept (Some m)) [
  | inl written ↦ record {
    sized = ap (λ n. length n.image) written ∙ length-written_to old 1 (block_at next 1) ∙ k.sized;
    saved = IsInDoubt-written (looked_by l) before next old new apart k.saved written;
    meant = k.meant;
  }
  | inr failed ↦ record {
    sized = failed.1.blocks ∙ k.sized;
    saved = IsInDoubt-failed (looked_by l) before next old new apart k.saved failed.0 failed.1;
    meant = k.meant;
  }
]

Keeps-confirms : (o : Origin) (l : Layout) (before next : List Block) (kept : Option Mark) (m : Mark) (old new : Device)
    → Reads old 1 (block_at next 1) → Settles old new
    → Keeps o l old (InDoubt before next) kept (Some m) → Keeps o l new (Kept next) (Some m) None
Keeps-confirms o l before next kept m old new read e k = record {
  sized = ap (λ n. length n.image) e ∙ length-settled new.writes old ∙ k.sized;
  saved = IsKept-settled (looked_by l) before next old new k.saved read e;
  meant = k.meant.1;
}

pub IsKeeping-move : (o : Origin) (l : Layout) (a b : Standing) → Move o l a b → IsKeeping o l a → IsKeeping o l b
IsKeeping-move o l a b (Goes s kept sealed old new spares) k = Keeps-goes o l s kept sealed old new spares k
IsKeeping-move o l a b (Seals n before kept m) k = record { sized = k.sized; saved = k.saved; meant = k.meant }
IsKeeping-move o l a b (Readies before next kept m old new issued is e) k = Keeps-readies o l before next kept m old new issued is e k
IsKeeping-move o l a b (Commits before next kept m old new apart how) k = Keeps-commits o l before next kept m old new apart how k
IsKeeping-move o l a b (Confirms before next kept m old new read e) k = Keeps-confirms o l before next kept m old new read e k

pub IsKeeping-moves : (o : Origin) (l : Layout) (a b : Standing) → Moves o l a b → IsKeeping o l a → IsKeeping o l b
IsKeeping-moves o l a b (Rests s) k = k
IsKeeping-moves o l a b (Then first mid last moves move) k =
    IsKeeping-move o l mid last move (IsKeeping-moves o l first mid moves k)

pub Safe-moves : (layouts : Layouts) (o : Origin) (a b : Standing)
    → IsKeeping o (layouts o.geometry) a → Moves o (layouts o.geometry) a b
    → IsKeeping o (layouts o.geometry) b × Safe (reading layouts) o b.kept (doubt_in b.saved b.sealed) b.device
Safe-moves layouts o a b k moves =
    let after : IsKeeping o (layouts o.geometry) b = IsKeeping-moves o (layouts o.geometry) a b moves k in
    (after, Safe-kept layouts o b.device b.saved b.kept b.sealed after)

-- ---- what a cycle's action spares

pub Spares-action : (places : List ℕ) (action : Action) (n new : Device) → LeavesAlone places action → IsLeftBy action n new
    → Spares places n new
Spares-action places Rest n new alone left = Spares-same places n new left
Spares-action places (ReadAt place) n new alone left = Spares-same places n new left
Spares-action places (WriteAt place block) n new alone left = Spares-written places place block n new alone left
Spares-action places Barrier n new alone left = Spares-settled places n new left
Spares-action places Drain n new alone left = Spares-drained places n new left

pub Spares-failed_action : (places : List ℕ) (action : Action) (n new : Device)
    → LeavesAlone places action → FailsTo action n new → IsFramed n new → Spares places n new
Spares-failed_action places Rest n new alone failed framed = absurd failed
Spares-failed_action places (ReadAt place) n new alone failed framed = Spares-failed places n new failed framed
Spares-failed_action places (WriteAt place block) n new alone failed framed = Spares-failed_to_write places place block n new alone failed framed
Spares-failed_action places Barrier n new alone failed framed = Spares-unsettled places n new failed framed
Spares-failed_action places Drain n new alone failed framed = Spares-failed places n new failed framed
