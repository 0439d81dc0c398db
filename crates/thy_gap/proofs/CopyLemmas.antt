-- Lines over a copy of the inner device, and the queue of lines.
use Rattle.std.proofs.Common.{◌≡◌, ◌≢◌, ℕ, zero, suc, ◌+◌, ◌<◌, ◌≤◌, ◌^◌, if◌then◌else◌, false, true, Some, List, [], ◌∷◌, ◌++◌, length, slice_index_or, sym, ◌∙◌, ap, subst, inl, inr, arith}
use Rattle.std.specs.Prelude.{is_some}
use Rattle.std.specs.List.{All}
use Rattle.std.proofs.lemmas.Bool.{cases_lt, ne_eqb}
use Rattle.std.proofs.lemmas.List.Elements.{All-nil, All-head, All-tail}
use Rattle.thy_block.specs.declared.nvm.Write.{Write}
use Rattle.thy_block.specs.Device.{Device, Crash, block_at, write_of}
use Rattle.thy_gap.specs.declared.registers.Registers.{Registers}
use Rattle.thy_gap.specs.Lines.{IsWhole, line_at, registers_block}
use Rattle.thy_gap.specs.Seen.{unmap, unmapped, unmap_queue, write_to, seen}
use Rattle.thy_gap.specs.Levelled.{IsLevelled, IsQuiet, IsSoundGap, HasRegisters, looks}
use Rattle.thy_gap.proofs.CutLemmas.{unmapped-left, Crash-seen}
use Rattle.thy_gap.proofs.LineLemmas.{line_at-gap, line_at-past, place-line_at}
use Rattle.thy_gap.proofs.MovingLemmas.{rest-quiet}
use Rattle.thy_gap.proofs.RegisterLemmas.{IsOfRegisters-in_hand}
use Rattle.thy_gap.proofs.SeenLemmas.{length-unmap, write_to-line}
use Rattle.thy_gap.proofs.SoundLemmas.{none_queued, queued_seen, fitted_where_queued}

-- ---- queued writes

-- a place that has a line is not the gap, and not past the lines
pub line_inside : (r : Registers) (y : ℕ) → is_some (line_at r y) ≡ true → (y ≢ r.gap) × (y ≤ r.lines)
line_inside r y some = (
  λ e. absurd (let none : is_some (line_at r y) ≡ false = ap (λ k. is_some (line_at r k)) e ∙ ap is_some (line_at-gap r) in cc (some, none)),
  elim (cases_lt r.lines y) as (λ _. y ≤ r.lines) [
    | inl past ↦ absurd (let none : is_some (line_at r y) ≡ false = ap is_some (line_at-past r y past) in cc (some, none))
    | inr within ↦ within
  ],
)

-- what holds of all writes holds of the one at a position
pub write_at : (P : Write → Type 0) (ws : List Write) (i : ℕ) (v : Write) → All P ws → i < length ws
    → ((w : Write) → slice_index_or ws i w ≡ v) → P v
write_at P [] i v all less is = absurd (omega (arith, less))
write_at P (w ∷ ws) zero v all less is = subst P (is w) (All-head P w ws all)
write_at P (w ∷ ws) (suc i) v all less is = write_at P ws i v (All-tail P w ws all) (omega (arith, less)) is

-- a queued write of a line, at its position
pub line_write_at : (r : Registers) (ws : List Write) (i x : ℕ) (v : Write) → All (λ (w : Write). is_some (line_at r w.at) ≡ true) ws → i < length ws
    → ((w : Write) → slice_index_or ws i w ≡ v) → line_at r v.at ≡ Some x
    → (z : Write) → slice_index_or (unmap_queue r ws) i z ≡ write_of x v.block
line_write_at r [] i x v all less is line z = absurd (omega (arith, less))
line_write_at r (w ∷ ws) zero x v all less is line z =
    let same : w ≡ v = is w in
    ap (λ (y : Write). slice_index_or (write_to (line_at r y.at) y.block ++ unmap_queue r ws) 0 z) same
    ∙ ap (λ o. slice_index_or (write_to o v.block ++ unmap_queue r ws) 0 z) line
line_write_at r (w ∷ ws) (suc i) x v all less is line z =
    let one = write_to-line (line_at r w.at) w.block (All-head (λ (y : Write). is_some (line_at r y.at) ≡ true) w ws all) in
    ap (λ q. slice_index_or (q ++ unmap_queue r ws) (suc i) z) one.1
    ∙ line_write_at r ws i x v (All-tail (λ (y : Write). is_some (line_at r y.at) ≡ true) w ws all) (omega (arith, less)) is line z

-- ---- the queue of a sound device

module _ {every since moves cuts : ℕ} {r : Registers} {n : Device} (i : IsSoundGap every r since moves cuts n) where
  pub queue_within : n.down ≡ false → length (seen r n).queue ≤ length n.queue
  queue_within up = elim (cases_lt 0 r.lines) as (λ _. length (seen r n).queue ≤ length n.queue) [
    | inl some ↦ omega (arith, queued_seen i some up)
    | inr none ↦ omega (arith, none_queued i (omega (arith, none)))
  ]

  module _ (k : ℕ) (v : Write) (up : n.down ≡ false) (less : k < length (seen r n).queue) (is : (w : Write) → slice_index_or n.queue k w ≡ v) where
    levelled : IsLevelled r cuts n
    levelled = i.fitted (fitted_where_queued i (omega (arith, less)))

    pub whole_here : IsWhole r
    whole_here = levelled.whole

    inside : k < length n.queue
    inside = omega (arith, less, queue_within up)

    lines : All (λ (w : Write). is_some (line_at r w.at) ≡ true) n.queue
    lines = (levelled.quiet up).lines

    pub queued_line : is_some (line_at r v.at) ≡ true
    queued_line = write_at (λ (w : Write). is_some (line_at r w.at) ≡ true) n.queue k v lines inside is

    pub line_below : (x : ℕ) → line_at r v.at ≡ Some x → x < length (unmap r n.image)
    line_below x line = omega (arith, (place-line_at r x v.at levelled.whole line).0, length-unmap r n.image)

    pub queued_as : (x : ℕ) → line_at r v.at ≡ Some x → (z : Write) → slice_index_or (seen r n).queue k z ≡ write_of x v.block
    queued_as x line z = line_write_at r n.queue k x v lines inside is line z

-- ---- sizes

module _ {every since moves cuts : ℕ} {r : Registers} {n : Device} (i : IsSoundGap every r since moves cuts n) (some : 0 < r.lines) where
  pub inner_size : length n.image ≡ length (seen r n).image + 2
  inner_size = omega (arith, (i.fitted some).blocks, length-unmap r n.image)

  pub inner_room : (seen r n).left_room ≡ n.left_room
  inner_room = ap (λ b. if b then 0 else n.left_room) (ne_eqb r.lines 0 (λ e. omega (arith, e, some)))

-- ---- copies

module _ {every since moves cuts : ℕ} {r : Registers} {n : Device} (i : IsSoundGap every r since moves cuts n) (some : 0 < r.lines) (up : n.down ≡ false)
    (d : Device) (c : Crash n d.image) where
  -- a copy of what a cut may leave is levelled by the same registers
  pub sound_copied : d.queue ≡ [] → d.left ≡ [] → d.left_room < 2 ^ 64 → IsSoundGap every r since moves 0 d
  sound_copied empty unkept room =
      let l : IsLevelled r cuts n = i.fitted some in
      let here : block_at d.image (r.lines + 1) ≡ registers_block r = (l.quiet up).in_hand (block_at d.image (r.lines + 1)) (c.each (r.lines + 1)) in
      let q : IsQuiet r d = rest-quiet r d empty here in
      record {
        some = i.some;
        fitted = λ _. record {
          whole = l.whole;
          blocks = c.same_length ∙ l.blocks;
          registers = λ b h. IsOfRegisters-in_hand r d b l.whole (q.in_hand b h);
          quiet = λ _. q;
          left = subst (All (HasRegisters r.lines)) (sym unkept) (All-nil (HasRegisters r.lines));
          cuts_are = ap length unkept;
          room = omega (arith, room);
        };
        no_registers = i.no_registers;
        no_writes = i.no_writes;
        turned = i.turned;
      }

  pub image_copied : unmap r d.image ≡ unmapped d.image
  image_copied = sym (unmapped-left r cuts n d.image (i.fitted some) c)

  pub crash_copied : Crash (looks every since moves r n) (unmap r d.image)
  crash_copied =
      let left : Crash (seen r n) (unmapped d.image) = Crash-seen r cuts n d.image (i.fitted some) c in
      let there : Crash (looks every since moves r n) (unmapped d.image) = record { same_length = left.same_length; each = left.each } in
      subst (Crash (looks every since moves r n)) (sym image_copied) there
