-- A move of one line.
use Rattle.std.proofs.Common.{◌≡◌, ◌≢◌, ℕ, ◌+◌, ◌<◌, ◌≤◌, true, false, List, [], length, refl, sym, ◌∙◌, ap, subst, inl, inr, arith}
use Rattle.std.proofs.lemmas.Bool.{cases_eq}
use Rattle.std.proofs.lemmas.List.Elements.{All-nil}
use Rattle.std.specs.Prelude.{is_some}
use Rattle.thy_block.specs.declared.block.Block.{Block}
use Rattle.thy_block.specs.declared.nvm.Write.{Write}
use Rattle.thy_block.specs.Device.{Device, IsFramed, CrashAt, HasFailed, HasFailedToSettle, HasFailedToWrite, HoldsNoMore, Settles, block_at, queued_for, newest, settled, written_to}
use Rattle.thy_block.proofs.DeviceLemmas.{CrashAt-possible, CrashAt-landed, CrashAt-elsewhere, possible-with_queued, no_more-settled, no_more-written_to, no_more-written_to_other, newest-settled, newest-written_to, newest-written_to_other, length-settled, length-written_to, newest-empty}
use Rattle.thy_gap.specs.declared.registers.Registers.{Registers}
use Rattle.thy_gap.specs.Lines.{IsWhole, place, line_at, source, moved, registers_block}
use Rattle.thy_gap.specs.Seen.{unmap, unmap_queue, seen}
use Rattle.thy_gap.specs.Levelled.{IsCopied, IsOfRegisters, IsQuiet, IsLevelled}
use Rattle.thy_block.specs.Counts.{next}
use Rattle.thy_gap.specs.Moving.{put_down, line_moved, with_counts_of}
use Rattle.thy_gap.specs.Failing.{IsAtRest, HasFailedToPut, HasFailedToMove}
use Rattle.thy_gap.proofs.LineLemmas.{place-within, place-past_gap, source-within, whole-moved, place-moved_line, place-other_line}
use Rattle.thy_gap.proofs.RegisterLemmas.{IsOfRegisters-in_hand, IsOfRegisters-moved}
use Rattle.thy_gap.proofs.LevelledLemmas.{IsLevelled-down}
use Rattle.thy_block.proofs.CrashLemmas.{Contains-stands}
use Rattle.std.specs.List.{All}
use Rattle.thy_gap.proofs.SeenLemmas.{no_more-seen, length-unmap, block_at-unmap, unmap-is}

-- ---- a write and a barrier

pub put_down-here : (n : Device) (at : ℕ) (block : Block) → at < length n.image → block_at (put_down at block n).image at ≡ block
put_down-here n at block l = newest-settled (next n.writes) (written_to n at block) at (omega (arith, l, length-written_to n at block))
    ∙ newest-written_to n at block

pub put_down-other : (n : Device) (at : ℕ) (block : Block) (x : ℕ) → n.queue ≡ [] → x ≢ at → x < length n.image
    → block_at (put_down at block n).image x ≡ block_at n.image x
put_down-other n at block x e other l =
    newest-settled (next n.writes) (written_to n at block) x (omega (arith, l, length-written_to n at block))
    ∙ newest-written_to_other n at block x other l
    ∙ newest-empty n x e

module _ (at : ℕ) (block : Block) (old : Device) where
  -- after a write and a barrier that are done, whatever they counted
  pub put_done : (mid new : Device) → mid ≡ written_to old at block → Settles mid new → new ≡ with_counts_of new (put_down at block old)
  put_done mid new e settles =
      ap (with_counts_of new) settles ∙ ap (λ (n : Device). with_counts_of new (settled new.writes n)) e

  -- a write and a barrier, of which the write failed
  pub failed_to_write : (new : Device) → HasFailedToWrite at block old new → HasFailedToPut at block old new
  failed_to_write new failed = record { down = failed.down; no_more = failed.no_more }

  -- a write and a barrier, of which the barrier failed, have failed as a write
  pub failed_to_put : (mid new : Device) → mid ≡ written_to old at block → HasFailedToSettle mid new → HasFailedToPut at block old new
  failed_to_put mid new e failed = record {
    down = failed.down;
    no_more = λ x b h. no_more-written_to old at block x b (subst (λ (n : Device). CrashAt n x b) e (failed.no_more x b h));
  }

-- ---- a device at rest holds one block at each place

pub rest-possible : (n : Device) (x : ℕ) (b : Block) → n.queue ≡ [] → CrashAt n x b → block_at n.image x ≡ b
rest-possible n x b e h = sym (CrashAt-landed n x b (ap (λ (q : List Write). queued_for q x) e) h)

-- a cut of a device at rest leaves the registers in hand
pub rest-quiet : (r : Registers) (n : Device) → n.queue ≡ [] → block_at n.image (r.lines + 1) ≡ registers_block r → IsQuiet r n
rest-quiet r n e here = record {
  lines = subst (λ (q : List Write). All (λ (w : Write). is_some (line_at r w.at) ≡ true) q) (sym e)
      (All-nil (λ (w : Write). is_some (line_at r w.at) ≡ true));
  in_hand = λ b h. sym (rest-possible n (r.lines + 1) b e h) ∙ here;
}

pub rest-settled : (r : Registers) (cuts count : ℕ) (n : Device) → IsLevelled r cuts n → n.down ≡ false → n.whole ≡ true
    → IsAtRest r (settled count n)
rest-settled r cuts count n i up whole =
    let m : Device = settled count n in
    let b : Block = block_at m.image (r.lines + 1) in
    record {
      whole = i.whole;
      blocks = length-settled count n ∙ i.blocks;
      up = up;
      empty = refl;
      lands_whole = whole;
      in_hand = (i.quiet up).in_hand b
          (no_more-settled count n (r.lines + 1) b (CrashAt-possible m (r.lines + 1) b (Contains-stands m (r.lines + 1))));
    }

-- ---- a move that failed

module _ (r : Registers) (old : Device) where
  -- a move failed at the copy's read
  pub failed_at_read : (new : Device) → IsAtRest r old → HasFailed old new → HasFailedToMove r old new
  failed_at_read new rest failed = record {
    down = failed.down;
    elsewhere = λ x b _ _ h. failed.no_more x b h;
    registers = λ b h. IsOfRegisters-in_hand r new b rest.whole
        ((rest-quiet r old rest.empty rest.in_hand).in_hand b (failed.no_more (r.lines + 1) b h));
  }

  -- a move failed at the copy's write or barrier
  pub failed_at_copy : (new : Device) (c : Block) → IsAtRest r old → HasFailedToPut r.gap c old new → HasFailedToMove r old new
  failed_at_copy new c rest failed = record {
    down = failed.down;
    elsewhere = λ x b not_gap _ h. CrashAt-elsewhere old r.gap c x b not_gap (failed.no_more x b h);
    registers = λ b h. IsOfRegisters-in_hand r new b rest.whole
        ((rest-quiet r old rest.empty rest.in_hand).in_hand b
        (CrashAt-elsewhere old r.gap c (r.lines + 1) b (λ e. omega (arith, e, rest.whole.gap)) (failed.no_more (r.lines + 1) b h)));
  }

  -- at the write or the barrier of the registers: the line was copied before
  pub failed_at_registers : (mid new : Device) (c : Block) → IsAtRest r old → c ≡ newest old (source r)
      → mid ≡ with_counts_of mid (put_down r.gap c old) → HasFailedToPut (r.lines + 1) (registers_block (moved r)) mid new
      → HasFailedToMove r old new
  failed_at_registers mid new c rest is e failed =
      let w = rest.whole in
      let s = source-within r w in
      -- elsewhere the copy left what was there
      let held : (x : ℕ) (b : Block) → x ≢ r.gap → CrashAt mid x b → CrashAt old x b =
      λ x b not_gap h.
      no_more-written_to_other old r.gap c x b not_gap
      (no_more-settled (next old.writes) (written_to old r.gap c) x b (subst (λ (n : Device). CrashAt n x b) e h)) in
      let before : (x : ℕ) (b : Block) → x ≢ r.gap → x ≢ r.lines + 1 → CrashAt new x b → CrashAt old x b =
      λ x b not_gap not_registers h.
      held x b not_gap (CrashAt-elsewhere mid (r.lines + 1) (registers_block (moved r)) x b not_registers (failed.no_more x b h)) in
      let at_gap : (b : Block) → CrashAt new r.gap b → b ≡ c =
      λ b h.
      let copied : CrashAt mid r.gap b =
      CrashAt-elsewhere mid (r.lines + 1) (registers_block (moved r)) r.gap b (λ same. omega (arith, same, w.gap)) (failed.no_more r.gap b h) in
      sym (rest-possible (put_down r.gap c old) r.gap b refl (subst (λ (n : Device). CrashAt n r.gap b) e copied))
      ∙ put_down-here old r.gap c (omega (arith, w.gap, rest.blocks)) in
      let at_source : (b : Block) → CrashAt new (source r) b → b ≡ c =
      λ b h.
      sym (rest-possible old (source r) b rest.empty (before (source r) b s.1 (λ x. omega (arith, x, s.0)) h))
      ∙ sym (newest-empty old (source r) rest.empty) ∙ sym is in
      let copied : IsCopied r new = record { same = λ b d hb hd. at_gap b hb ∙ sym (at_source d hd) } in
      -- the block of the registers lands whole: it is as it was, or as it was written
      let whole : mid.whole ≡ true = ap (λ (n : Device). n.whole) e ∙ rest.lands_whole in
      record {
        down = failed.down;
        elsewhere = before;
        registers = λ b h.
            elim (possible-with_queued mid (r.lines + 1) (registers_block (moved r)) (r.lines + 1) b
            ((failed.no_more (r.lines + 1) b h).whole whole))
            as (λ _. IsOfRegisters r new b) [
              | inl was ↦ IsOfRegisters-in_hand r new b w
                  ((rest-quiet r old rest.empty rest.in_hand).in_hand b
                  (held (r.lines + 1) b (λ x. omega (arith, x, w.gap)) (CrashAt-possible mid (r.lines + 1) b was)))
              | inr here ↦ IsOfRegisters-moved r new b w here.1 copied
            ];
      }

-- ---- a move that is done

pub move_done : (r : Registers) (old mid new : Device) (c b : Block) → c ≡ newest old (source r) → b ≡ registers_block (moved r)
    → mid ≡ with_counts_of mid (put_down r.gap c old) → new ≡ with_counts_of new (put_down (r.lines + 1) b mid)
    → new ≡ with_counts_of new (line_moved r old)
move_done r old mid new c b line block copied registers =
    registers
    ∙ ap (λ (n : Device). with_counts_of new (put_down (r.lines + 1) b n)) copied
    ∙ ap (λ (x : Block). with_counts_of new (put_down (r.lines + 1) x (put_down r.gap c old))) block
    ∙ ap (λ (x : Block). with_counts_of new (put_down (r.lines + 1) (registers_block (moved r)) (put_down r.gap x old))) line

module _ (r : Registers) (n : Device) where
  -- after a move the copied line stands at the old gap
  pub moved-at_gap : IsAtRest r n → block_at (line_moved r n).image r.gap ≡ newest n (source r)
  moved-at_gap rest =
      let m : Device = put_down r.gap (newest n (source r)) n in
      let len : length m.image ≡ length n.image =
      length-settled (next n.writes) (written_to n r.gap (newest n (source r))) ∙ length-written_to n r.gap (newest n (source r)) in
      put_down-other m (r.lines + 1) (registers_block (moved r)) r.gap refl (λ e. omega (arith, e, rest.whole.gap))
      (omega (arith, len, rest.blocks, rest.whole.gap))
      ∙ put_down-here n r.gap (newest n (source r)) (omega (arith, rest.blocks, rest.whole.gap))

  pub moved-elsewhere : (x : ℕ) → IsAtRest r n → x ≤ r.lines → x ≢ r.gap → block_at (line_moved r n).image x ≡ block_at n.image x
  moved-elsewhere x rest l other =
      let m : Device = put_down r.gap (newest n (source r)) n in
      let len : length m.image ≡ length n.image =
      length-settled (next n.writes) (written_to n r.gap (newest n (source r))) ∙ length-written_to n r.gap (newest n (source r)) in
      put_down-other m (r.lines + 1) (registers_block (moved r)) x refl (λ e. omega (arith, e, l)) (omega (arith, len, rest.blocks, l))
      ∙ put_down-other n r.gap (newest n (source r)) x rest.empty other (omega (arith, rest.blocks, l))

  pub length-line_moved : length (line_moved r n).image ≡ length n.image
  length-line_moved =
      let m : Device = put_down r.gap (newest n (source r)) n in
      length-settled (next m.writes) (written_to m (r.lines + 1) (registers_block (moved r)))
      ∙ length-written_to m (r.lines + 1) (registers_block (moved r))
      ∙ length-settled (next n.writes) (written_to n r.gap (newest n (source r))) ∙ length-written_to n r.gap (newest n (source r))

  pub moved-registers : IsAtRest r n → block_at (line_moved r n).image (r.lines + 1) ≡ registers_block (moved r)
  moved-registers rest =
      let m : Device = put_down r.gap (newest n (source r)) n in
      let len : length m.image ≡ length n.image =
      length-settled (next n.writes) (written_to n r.gap (newest n (source r))) ∙ length-written_to n r.gap (newest n (source r)) in
      put_down-here m (r.lines + 1) (registers_block (moved r)) (omega (arith, len, rest.blocks))

  -- every line is as before after a move, whatever it counted
  pub seen-moved : (counts : Device) → IsAtRest r n
      → seen (moved r) (with_counts_of counts (line_moved r n)) ≡ with_counts_of counts (seen r n)
  seen-moved counts rest =
      let shown : Device = with_counts_of counts (seen r n) in
      let image : unmap (moved r) (line_moved r n).image ≡ unmap r n.image =
      unmap-is (moved r) (line_moved r n).image (unmap r n.image) (length-unmap r n.image)
      (λ x l.
      elim (cases_eq (place r x) (source r)) as (λ _. block_at (line_moved r n).image (place (moved r) x) ≡ block_at (unmap r n.image) x) [
        | inl here ↦
            ap (block_at (line_moved r n).image) (place-moved_line r x rest.whole l here)
            ∙ moved-at_gap rest
            ∙ newest-empty n (source r) rest.empty
            ∙ ap (block_at n.image) (sym here)
            ∙ sym (block_at-unmap r n.image x l)
        | inr other ↦
            ap (block_at (line_moved r n).image) (place-other_line r x rest.whole l other)
            ∙ moved-elsewhere (place r x) rest (place-within r x rest.whole l) (place-past_gap r x)
            ∙ sym (block_at-unmap r n.image x l)
      ]) in
      ap (λ (g : List Block). record shown { image = g; queue = [] }) image
      ∙ ap (λ (q : List Write). record shown { queue = unmap_queue r q }) (sym rest.empty)

pub IsLevelled-moved : (r : Registers) (cuts : ℕ) (n : Device) → IsAtRest r n → IsLevelled r cuts n
    → IsLevelled (moved r) cuts (line_moved r n)
IsLevelled-moved r cuts n rest i =
    let q : IsQuiet (moved r) (line_moved r n) = rest-quiet (moved r) (line_moved r n) refl (moved-registers r n rest) in
    record {
      whole = whole-moved r i.whole;
      blocks = length-line_moved r n ∙ i.blocks;
      registers = λ b h. IsOfRegisters-in_hand (moved r) (line_moved r n) b (whole-moved r i.whole) (q.in_hand b h);
      quiet = λ _. q;
      left = i.left;
      cuts_are = i.cuts_are;
      room = i.room;
    }

-- a move that failed leaves it levelled by the registers in hand
pub IsLevelled-failed_to_move : (r : Registers) (cuts : ℕ) (old new : Device) → IsLevelled r cuts old → IsFramed old new
    → HasFailedToMove r old new → IsLevelled r cuts new
IsLevelled-failed_to_move r cuts old new i f failed = IsLevelled-down r cuts old new i f failed.down failed.registers

-- a move that failed lets no line hold more than before
pub no_more-moving : (r : Registers) (old new : Device) → IsWhole r → HasFailedToMove r old new → HoldsNoMore (seen r old) (seen r new)
no_more-moving r old new w failed =
    no_more-seen r old new w
    (λ x b l. failed.elsewhere (place r x) b (place-past_gap r x) (λ e. omega (arith, e, place-within r x w l)))
