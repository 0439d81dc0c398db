-- What holds of a levelled device, after calls on its lines.
use Rattle.std.proofs.Common.{◌≡◌, ℕ, ◌+◌, ◌<◌, ◌==◌, if◌then◌else◌, true, false, List, [], length, drop, map, is_some, refl, sym, ◌∙◌, ap, subst, arith}
use Rattle.std.specs.List.{All}
use Rattle.std.proofs.lemmas.Bool.{true≢false}
use Rattle.std.proofs.lemmas.List.Elements.{All-drop, All-push, All-nil}
use Rattle.thy_block.specs.declared.block.Block.{Block}
use Rattle.thy_block.specs.declared.nvm.Write.{Write}
use Rattle.thy_block.specs.Device.{Device, IsFramed, HasFailed, HasFailedToWrite, HoldsNoMore, CrashAt, Wear, write_of, landed, settled, surplus, with_queued, written_to}
use Rattle.thy_block.proofs.DeviceLemmas.{no_more-landed, no_more-settled, no_more-written_to_other, CrashAt-elsewhere}
use Rattle.thy_gap.specs.declared.registers.Registers.{Registers}
use Rattle.thy_gap.specs.Lines.{IsWhole, place, line_at, source}
use Rattle.thy_gap.specs.Seen.{unmapped, seen}
use Rattle.thy_gap.specs.Levelled.{IsOfRegisters, IsQuiet, HasRegisters, IsLevelled, looks}
use Rattle.thy_gap.proofs.LineLemmas.{place-within, line_at-place}
use Rattle.thy_gap.proofs.RegisterLemmas.{IsOfRegisters-in_hand, IsCopied-no_more}
use Rattle.thy_gap.proofs.SeenLemmas.{length-unmap, no_more-seen, seen-with_queued}

-- ---- while the device is up

pub IsQuiet-landed : (r : Registers) (n : Device) (k : ℕ) → IsQuiet r n → IsQuiet r (landed k n)
IsQuiet-landed r n k q = record {
  lines = All-drop (λ (w : Write). is_some (line_at r w.at) ≡ true) k n.queue q.lines;
  in_hand = λ b h. q.in_hand b (no_more-landed k n (r.lines + 1) b h);
}

pub IsQuiet-settled : (r : Registers) (count : ℕ) (n : Device) → IsQuiet r n → IsQuiet r (settled count n)
IsQuiet-settled r count n q = record {
  lines = All-nil (λ (w : Write). is_some (line_at r w.at) ≡ true);
  in_hand = λ b h. q.in_hand b (no_more-settled count n (r.lines + 1) b h);
}

pub IsQuiet-written : (r : Registers) (n : Device) (x : ℕ) (block : Block) → IsWhole r → x < r.lines → IsQuiet r n
    → IsQuiet r (written_to n (place r x) block)
IsQuiet-written r n x block w l q = record {
  lines =
      All-push (λ (w : Write). is_some (line_at r w.at) ≡ true) (drop (surplus n) n.queue) (write_of (place r x) block)
      (All-drop (λ (w : Write). is_some (line_at r w.at) ≡ true) (surplus n) n.queue q.lines) (ap is_some (line_at-place r x w l));
  in_hand = λ b h. q.in_hand b (no_more-written_to_other n (place r x) block (r.lines + 1) b (λ e. omega (arith, e, place-within r x w l)) h);
}

-- a device of which nothing else has changed stays levelled
pub IsLevelled-quiet : (r : Registers) (cuts : ℕ) (old new : Device) → IsLevelled r cuts old → IsFramed old new → IsQuiet r new
    → IsLevelled r cuts new
IsLevelled-quiet r cuts old new i f q = record {
  whole = i.whole;
  blocks = f.blocks ∙ i.blocks;
  registers = λ b h. IsOfRegisters-in_hand r new b i.whole (q.in_hand b h);
  quiet = λ _. q;
  left = subst (λ (l : List (List Block)). All (HasRegisters r.lines) l) (sym f.left) i.left;
  cuts_are = ap length f.left ∙ i.cuts_are;
  room = omega (arith, i.room, f.left_room);
}

-- ---- where a call failed

pub IsOfRegisters-no_more : (r : Registers) (old new : Device) (b : Block) → IsOfRegisters r old b → HoldsNoMore old new
    → IsOfRegisters r new b
IsOfRegisters-no_more r old new b t no_more = record {
  in_hand = t.in_hand;
  moved_on = t.moved_on;
  copied = λ ne. IsCopied-no_more r old new (t.copied ne) (no_more r.gap) (no_more (source r));
}

module _ (r : Registers) (cuts : ℕ) where
  -- a device that is down stays levelled if its registers say the same
  pub IsLevelled-parts : (old new : Device) → IsLevelled r cuts old → length new.image ≡ length old.image → new.left ≡ old.left
      → new.left_room ≡ old.left_room → new.down ≡ true → ((b : Block) → CrashAt new (r.lines + 1) b → IsOfRegisters r new b)
      → IsLevelled r cuts new
  IsLevelled-parts old new i blocks left room down of_registers = record {
    whole = i.whole;
    blocks = blocks ∙ i.blocks;
    registers = of_registers;
    quiet = λ up. absurd (true≢false (sym down ∙ up));
    left = subst (λ (l : List (List Block)). All (HasRegisters r.lines) l) (sym left) i.left;
    cuts_are = ap length left ∙ i.cuts_are;
    room = omega (arith, i.room, room);
  }

  pub IsLevelled-down : (old new : Device) → IsLevelled r cuts old → IsFramed old new → new.down ≡ true
      → ((b : Block) → CrashAt new (r.lines + 1) b → IsOfRegisters r new b) → IsLevelled r cuts new
  IsLevelled-down old new i f down of_registers = IsLevelled-parts old new i f.blocks f.left f.left_room down of_registers

  -- a device whose fit failed stays levelled, whatever its count of fits
  pub IsLevelled-failed_to_fit : (k : ℕ) (old new : Device) → IsLevelled r cuts old → IsFramed (record old { fits = k }) new
      → HasFailed old new → IsLevelled r cuts new
  IsLevelled-failed_to_fit k old new i f failed =
      IsLevelled-parts old new i f.blocks f.left f.left_room failed.down
      (λ b h. IsOfRegisters-no_more r old new b (i.registers b (failed.no_more (r.lines + 1) b h)) failed.no_more)

  -- whatever it counts
  pub IsLevelled-counted : (fits writes : ℕ) (wear : Wear) (old : Device) → IsLevelled r cuts old
      → IsLevelled r cuts (record old { fits = fits; writes = writes; wear = wear })
  IsLevelled-counted fits writes wear old i = record {
    whole = i.whole;
    blocks = i.blocks;
    registers = λ b h. IsOfRegisters-no_more r old (record old { fits = fits; writes = writes; wear = wear }) b (i.registers b h) (λ x c h. h);
    quiet = λ up. record { lines = (i.quiet up).lines; in_hand = (i.quiet up).in_hand };
    left = i.left;
    cuts_are = i.cuts_are;
    room = i.room;
  }

  pub IsLevelled-failed : (old new : Device) → IsLevelled r cuts old → IsFramed old new → new.down ≡ true → HoldsNoMore old new
      → IsLevelled r cuts new
  IsLevelled-failed old new i f down no_more =
      IsLevelled-down old new i f down (λ b h. IsOfRegisters-no_more r old new b (i.registers b (no_more (r.lines + 1) b h)) no_more)

  pub IsLevelled-failed_to_write : (old new : Device) (x : ℕ) (block : Block) → IsLevelled r cuts old → x < r.lines → old.down ≡ false
      → IsFramed old new → HasFailedToWrite (place r x) block old new → IsLevelled r cuts new
  IsLevelled-failed_to_write old new x block i l up f failed =
      IsLevelled-down old new i f failed.down
      (λ b h. IsOfRegisters-in_hand r new b i.whole
      ((i.quiet up).in_hand b
      (CrashAt-elsewhere old (place r x) block (r.lines + 1) b (λ e. omega (arith, e, place-within r x i.whole l)) (failed.no_more (r.lines + 1) b h))))

-- ---- what is seen

-- no more than if a write of a line were queued is seen as no more than that
pub no_more-queued_seen : (r : Registers) (old new : Device) (x : ℕ) (block : Block) → IsWhole r → x < r.lines
    → HoldsNoMore (with_queued (place r x) block old) new → HoldsNoMore (with_queued x block (seen r old)) (seen r new)
no_more-queued_seen r old new x block w l no_more =
    subst (λ (d : Device). HoldsNoMore d (seen r new)) (seen-with_queued r old x block w l)
    (no_more-seen r (with_queued (place r x) block old) new w (λ y b _. no_more (place r y) b))

-- what only a fit and a cut change is seen to stay, also where registers have moved
pub IsFramed-moved : (every since moves later more : ℕ) (r s : Registers) (old new : Device) → s.lines ≡ r.lines → IsFramed old new
    → IsFramed (looks every since moves r old) (looks every later more s new)
IsFramed-moved every since moves later more r s old new e f = record {
  blocks = length-unmap s new.image ∙ e ∙ sym (length-unmap r old.image);
  left = ap (λ n. if n == 0 then [] else map unmapped new.left) e
      ∙ ap (λ (l : List (List Block)). if r.lines == 0 then [] else map unmapped l) f.left;
  picks = ap (λ n. if n == 0 then [] else new.picks) e ∙ ap (λ (l : List ℕ). if r.lines == 0 then [] else l) f.picks;
  queue_room = f.queue_room;
  left_room = ap (λ n. if n == 0 then 0 else new.left_room) e ∙ ap (λ (l : ℕ). if r.lines == 0 then 0 else l) f.left_room;
  fits = f.fits;
  lent = f.lent;
  whole = f.whole;
}

pub IsFramed-seen : (every since moves later more : ℕ) (r : Registers) (old new : Device) → IsFramed old new
    → IsFramed (looks every since moves r old) (looks every later more r new)
IsFramed-seen every since moves later more r old new f = IsFramed-moved every since moves later more r r old new refl f
