-- What holds of every levelled device, after each call.
use Rattle.std.proofs.Common.{◌≡◌, ◌⊎◌, ℕ, ◌+◌, ◌-◌, ◌<◌, ◌≤◌, ◌^◌, ◌==◌, if◌then◌else◌, nat_lt, not, ◌&&◌, Bool, true, false, List, [], ◌∷◌, ◌++◌, length, map, slice_index_or, Contains, None, suc, refl, sym, ◌∙◌, ap, subst, inl, inr, arith}
use Rattle.std.specs.Prelude.{Result, Ok, Err, OnOk, OnErr}
use Rattle.std.proofs.lemmas.Bool.{cases_eq, cases_lt, eq-eqb, ne_eqb, and_parts, not-true, ltb-false}
use Rattle.std.proofs.lemmas.List.Elements.{Contains-push}
use Rattle.std.proofs.lemmas.List.{get_or_past, get_or-append_right, get_or-map, length-map}
use Rattle.thy_block.specs.declared.block.Block.{Block}
use Rattle.thy_block.specs.declared.nvm.Write.{Write}
use Rattle.thy_block.specs.declared.nvm.FitError.{FitError}
use Rattle.thy_block.specs.declared.nvm.FitError.TheVariants.{Failed, Memory}
use Rattle.thy_block.specs.Counts.{next}
use Rattle.thy_block.specs.Device.{Device, IsCut, IsFramed, IsSettled, Settles, HoldsNoMore, CrashAt, HasFailed, HasFailedToSettle, HasFailedToWrite, HasFailedToFit, Levels, Unsaid, Wear, zero_block, block_at, queued_for, applied, possible, newest, drained, at_rest, moved_on, moves_next, settled, worn, written_to, fitted}
use Rattle.thy_block.specs.declared.nvm.Shape.{Shape}
use Rattle.thy_block.proofs.CrashLemmas.{Crash-image}
use Rattle.thy_block.proofs.DeviceLemmas.{same_as_only, CrashAt-possible, CrashAt-only, no_more-settled}
use Rattle.thy_gap.specs.declared.registers.Registers.{Registers}
use Rattle.thy_gap.specs.Lines.{IsWhole, place, line_at, no_lines, source, moved, moved_times, unmoved, registers_of, registers_in}
use Rattle.thy_gap.specs.Seen.{write_to, unmap_queue, unmapped, seen}
use Rattle.thy_gap.specs.Levelled.{IsCopied, IsLevelled, HasRegisters, IsQuiet, IsSoundGap, counted_on, is_due, is_plain, looks, moves_on, wear_over, inner_shape, first_image}
use Rattle.thy_gap.specs.Moving.{line_moved, with_counts_of}
use Rattle.thy_gap.specs.Failing.{IsAtRest, HasFailedToMove}
use Rattle.thy_gap.proofs.LineLemmas.{place-within, line_at-gap, line_at-past, source-within}
use Rattle.thy_gap.proofs.WearLemmas.{plain-settles, counts-plain, counts-no_fewer, counts_over, worn_over, wear_after, cuts_over}
use Rattle.thy_gap.proofs.SeenLemmas.{block_at-unmap, length-unmap, length-unmap_queue, no_more-seen, seen-landed, seen-settled, seen-written, newest-seen}
use Rattle.thy_gap.proofs.LevelledLemmas.{IsQuiet-landed, IsQuiet-settled, IsQuiet-written, IsLevelled-quiet, IsLevelled-failed, IsLevelled-failed_to_write, IsLevelled-failed_to_fit, IsLevelled-counted, IsFramed-seen, no_more-queued_seen}
use Rattle.thy_gap.proofs.CutLemmas.{IsCut-seen, IsLevelled-after_cut, registers-left, registers-quiet}
use Rattle.thy_gap.proofs.FitLemmas.{IsLevelled-fitted}
use Rattle.thy_gap.proofs.MovingLemmas.{rest-settled, seen-moved, IsLevelled-moved, IsLevelled-failed_to_move, no_more-moving}

-- whichever way a call ended
pub either : {T E P Q R : Type 0} (r : Result T E) → OnOk r P → OnErr r Q → (P → R) → (Q → R) → R
either (Ok x) p q f g = f p
either (Err e) p q f g = g q

-- a move is to be made over a device if it was over the one before, whose blocks landed whole as they do now
pub due_before : {v : Bool} (old new : Device) (since every : ℕ) (t : Bool) → new.whole ≡ old.whole → t ≡ is_due new since every → t ≡ v
    → is_due old since every ≡ v
due_before old new since every t same is due = ap (λ (w : Bool). w && not (nat_lt since every)) (sym same) ∙ sym is ∙ due

-- ---- before a fit

line_at-none : (y : ℕ) → line_at no_lines y ≡ None
line_at-none y = elim (cases_eq y 0) as (λ _. line_at no_lines y ≡ None) [
  | inl e ↦ ap (line_at no_lines) e ∙ line_at-gap no_lines
  | inr ne ↦ line_at-past no_lines y (omega (arith, ne))
]

unmap_queue-none : (ws : List Write) → unmap_queue no_lines ws ≡ []
unmap_queue-none [] = refl
unmap_queue-none (w ∷ ws) = ap (λ o. write_to o w.block ++ unmap_queue no_lines ws) (line_at-none w.at) ∙ unmap_queue-none ws

possible-none : (n : Device) (x : ℕ) → possible (seen no_lines n) x ≡ zero_block ∷ []
possible-none n x =
    ap (λ (b : Block). b ∷ queued_for (unmap_queue no_lines n.queue) x) (get_or_past [] x zero_block (omega arith))
    ∙ ap (λ (q : List Write). zero_block ∷ queued_for q x) (unmap_queue-none n.queue)

no_more-none : (old new : Device) → HoldsNoMore (seen no_lines old) (seen no_lines new)
no_more-none old new x b h =
    let zeros : b ≡ zero_block =
    CrashAt-only (seen no_lines new) x zero_block b
    (λ d k. sym (same_as_only zero_block d (subst (λ (q : List Block). Contains q d) (possible-none new x) k))) h in
    subst (CrashAt (seen no_lines old) x) (sym zeros)
    (CrashAt-possible (seen no_lines old) x zero_block
    (subst (λ (q : List Block). Contains q zero_block) (sym (possible-none old x)) (Contains-push [] zero_block)))

settled-none : (count : ℕ) (n : Device) → seen no_lines (settled count n) ≡ settled count (seen no_lines n)
settled-none count n =
    ap (λ (q : List Write). record (settled count (seen no_lines n)) { image = applied [] q; queue = [] }) (sym (unmap_queue-none n.queue))

-- ---- the registers after so many moves

turned-on : (r : Registers) (moves : ℕ) → (moves < 2 ^ 64 - 1 → r ≡ moved_times moves (unmoved r.lines))
    → next moves < 2 ^ 64 - 1 → moved r ≡ moved_times (next moves) (unmoved r.lines)
turned-on r moves turned few =
    let one : next moves ≡ suc moves = omega (arith, few) in
    ap moved (turned (omega (arith, few))) ∙ ap (λ k. moved_times k (unmoved r.lines)) (sym one)

-- ---- a levelled device, fitted or not

module _ {every since moves cuts : ℕ} {r : Registers} {n : Device} (i : IsSoundGap every r since moves cuts n) where
  fitted_or_none : (r.lines ≡ 0) ⊎ (0 < r.lines)
  fitted_or_none = elim (cases_lt 0 r.lines) as (λ _. (r.lines ≡ 0) ⊎ (0 < r.lines)) [ inl l ↦ inr l | inr l ↦ inl (omega (arith, l)) ]

  -- a line is seen only after a fit
  pub line_seen : (x : ℕ) → x < length (seen r n).image → x < r.lines
  line_seen x l = omega (arith, l, length-unmap r n.image)

  -- the registers in the image of a device that is up are those after its count of moves
  pub registers_turned : 0 < length (seen r n).image → n.down ≡ false → moves < 2 ^ 64 - 1
      → registers_in n.image ≡ moved_times moves (unmoved (length (seen r n).image))
  registers_turned some up few =
      let levelled : IsLevelled r cuts n = i.fitted (line_seen 0 some) in
      registers-quiet r cuts n n.image levelled (levelled.quiet up) (Crash-image n)
      ∙ i.turned few
      ∙ ap (λ k. moved_times moves (unmoved k)) (sym (length-unmap r n.image))

  pub levelled_at : (x : ℕ) → x < r.lines → IsLevelled r cuts n
  levelled_at x l = i.fitted (omega (arith, l))

  pub place_inside : (x : ℕ) → x < r.lines → place r x < length n.image
  place_inside x l = let d = levelled_at x l in omega (arith, place-within r x d.whole l, d.blocks)

  -- a levelled device stays sound if it stays levelled
  pub sound_still : (new : Device) → (IsLevelled r cuts n → IsLevelled r cuts new) → IsSoundGap every r since moves cuts new
  sound_still new still = record {
    some = i.some;
    fitted = λ l. still (i.fitted l);
    no_registers = i.no_registers;
    no_writes = i.no_writes;
    turned = i.turned;
  }

  pub sound_same : (new : Device) → new ≡ n → IsSoundGap every r since moves cuts new
  sound_same new e = subst (IsSoundGap every r since moves cuts) (sym e) i

  pub sound_failed : (new : Device) → IsFramed n new → HasFailed n new → IsSoundGap every r since moves cuts new
  sound_failed new f failed = sound_still new (λ d. IsLevelled-failed r cuts n new d f failed.down failed.no_more)

  pub sound_unsettled : (new : Device) → IsFramed n new → HasFailedToSettle n new → IsSoundGap every r since moves cuts new
  sound_unsettled new f failed = sound_still new (λ d. IsLevelled-failed r cuts n new d f failed.down failed.no_more)

  -- failures are seen to be failures
  no_more_seen : (new : Device) → HoldsNoMore n new → HoldsNoMore (seen r n) (seen r new)
  no_more_seen new no_more = elim fitted_or_none as (λ _. HoldsNoMore (seen r n) (seen r new)) [
    | inl e ↦ subst (λ (s : Registers). HoldsNoMore (seen s n) (seen s new)) (sym (i.no_registers e)) (no_more-none n new)
    | inr l ↦ no_more-seen r n new (i.fitted l).whole (λ x b _. no_more (place r x) b)
  ]

  pub failed_seen : (new : Device) → HasFailed n new → HasFailed (looks every since moves r n) (looks every since moves r new)
  failed_seen new failed = record {
    down = failed.down;
    no_more = no_more_seen new failed.no_more;
    counts = record { writes = failed.counts.writes; wear = ap (λ w. wear_over w every since moves) failed.counts.wear };
  }

  pub unsettled_seen : (new : Device) → HasFailedToSettle n new
      → HasFailedToSettle (looks every since moves r n) (looks every since moves r new)
  unsettled_seen new failed = record {
    down = failed.down;
    no_more = no_more_seen new failed.no_more;
    writes = failed.writes;
    wear = ap (λ w. wear_over w every since moves) failed.wear;
  }

  -- ---- reads

  pub read_seen : (x : ℕ) → x < r.lines → newest n (place r x) ≡ newest (seen r n) x
  read_seen x l = sym (newest-seen r n x (levelled_at x l).whole l)

  -- ---- writes

  -- this many count towards the next move
  pub write_seen : (x : ℕ) (b : Block) (more : ℕ) → more ≡ next since → x < r.lines → n.down ≡ false
      → looks every more moves r (written_to n (place r x) b) ≡ written_to (looks every since moves r n) x b
  write_seen x b more one l up =
      let d = levelled_at x l in
      ap (λ k. looks every k moves r (written_to n (place r x) b)) one
      ∙ ap (λ (m : Device). record m { wear = wear_over (worn n.wear) every (next since) moves })
      (seen-written r n x b d.whole l d.blocks (d.quiet up).lines)
      ∙ ap (λ (w : Wear). record (written_to (seen r n) x b) { wear = w }) (worn_over n.wear every since moves)

  pub sound_written : (new : Device) (x : ℕ) (b : Block) (more : ℕ) → x < r.lines → n.down ≡ false → new ≡ written_to n (place r x) b
      → IsFramed n new → IsSoundGap every r more moves cuts new
  sound_written new x b more l up e f =
      let d = levelled_at x l in
      record {
        some = i.some;
        fitted = λ _. IsLevelled-quiet r cuts n new d f (subst (IsQuiet r) (sym e) (IsQuiet-written r n x b d.whole l (d.quiet up)));
        no_registers = i.no_registers;
        no_writes = λ none. absurd (omega (arith, none, l));
        turned = i.turned;
      }

  pub sound_failed_to_write : (new : Device) (x : ℕ) (b : Block) → x < r.lines → n.down ≡ false → IsFramed n new
      → HasFailedToWrite (place r x) b n new → IsSoundGap every r since moves cuts new
  sound_failed_to_write new x b l up f failed = sound_still new (λ d. IsLevelled-failed_to_write r cuts n new x b d l up f failed)

  pub failed_to_write_seen : (new : Device) (x : ℕ) (b : Block) → x < r.lines → HasFailedToWrite (place r x) b n new
      → HasFailedToWrite x b (looks every since moves r n) (looks every since moves r new)
  failed_to_write_seen new x b l failed = record {
    down = failed.down;
    no_more = no_more-queued_seen r n new x b (levelled_at x l).whole l failed.no_more;
    counts = record { writes = failed.counts.writes; wear = ap (λ w. wear_over w every since moves) failed.counts.wear };
  }

  -- ---- queued writes

  pub none_queued : r.lines ≡ 0 → length (seen r n).queue ≡ 0
  none_queued e = ap (λ (s : Registers). length (unmap_queue s n.queue)) (i.no_registers e) ∙ ap length (unmap_queue-none n.queue)

  pub queued_seen : 0 < r.lines → n.down ≡ false → length (seen r n).queue ≡ length n.queue
  queued_seen l up = length-unmap_queue r n.queue ((i.fitted l).quiet up).lines

  -- if a write to a line is queued, there was a fit
  pub fitted_where_queued : 0 < length (seen r n).queue → 0 < r.lines
  fitted_where_queued q = elim fitted_or_none as (λ _. 0 < r.lines) [ inl e ↦ absurd (omega (arith, q, none_queued e)) | inr l ↦ l ]

  -- ---- drains and barriers

  pub drain_seen : 0 < r.lines → n.down ≡ false → looks every since moves r (drained n) ≡ drained (looks every since moves r n)
  drain_seen l up =
      let d = i.fitted l in
      ap (λ (m : Device). record m { wear = wear_over n.wear every since moves }) (seen-landed r n 1 d.whole d.blocks (d.quiet up).lines)

  pub sound_drained : (new : Device) → n.down ≡ false → new ≡ drained n → IsFramed n new → IsSoundGap every r since moves cuts new
  sound_drained new up e f =
      sound_still new (λ d. IsLevelled-quiet r cuts n new d f (subst (IsQuiet r) (sym e) (IsQuiet-landed r n 1 (d.quiet up))))

  barrier_seen : (count : ℕ) → seen r (settled count n) ≡ settled count (seen r n)
  barrier_seen count = elim fitted_or_none as (λ _. seen r (settled count n) ≡ settled count (seen r n)) [
    | inl e ↦ subst (λ (s : Registers). seen s (settled count n) ≡ settled count (seen s n)) (sym (i.no_registers e)) (settled-none count n)
    | inr l ↦ let d = i.fitted l in seen-settled r count n d.whole d.blocks
  ]

  pub sound_settled : (new : Device) → n.down ≡ false → Settles n new → IsFramed n new → IsSoundGap every r since moves cuts new
  sound_settled new up e f =
      sound_still new (λ d. IsLevelled-quiet r cuts n new d f (subst (IsQuiet r) (sym e) (IsQuiet-settled r new.writes n (d.quiet up))))

  -- after a barrier of the inner device, and a move if the writes called for one, a device has settled
  settles_seen : (new : Device) (s : Registers) (due : Bool) → due ≡ is_due n since every → is_plain new.wear ≡ is_plain n.wear
      → seen s new ≡ with_counts_of new (settled new.writes (seen r n))
      → (is_plain n.wear ≡ true → new.writes ≡ (if is_due n since every then next (next n.writes) else n.writes)) → n.writes ≤ new.writes
      → IsSettled (looks every since moves r n) (looks every (if due then 0 else since) (if due then next moves else moves) s new)
  settles_seen new s due is plain same exact no_fewer =
      let before : Device = looks every since moves r n in
      let said : Wear = wear_over new.wear every (if due then 0 else since) (if due then next moves else moves) in
      let wear : said ≡ (if moves_next before then moved_on before.wear else before.wear) =
      ap (λ t. wear_over new.wear every (if t then 0 else since) (if t then next moves else moves)) is
      ∙ wear_after n.wear new.wear n.whole every since moves plain in
      record {
        count = counts_over before n.wear every since moves new.writes refl exact no_fewer;
        device =
            ap (λ (m : Device). record m { wear = said }) same
            ∙ ap (λ (w : Wear). record (settled new.writes (seen r n)) { wear = w }) wear;
      }

  -- a levelled device has settled after a barrier with no move
  pub barrier_settles : (new : Device) → is_due n since every ≡ false → n.writes ≤ 2 ^ 64 - 1 → IsSettled n new
      → IsSettled (looks every since moves r n) (looks every since moves r new)
  barrier_settles new due few s =
      settles_seen new r false (sym due) (plain-settles n new s.device)
      (ap (with_counts_of new) (ap (seen r) s.device ∙ barrier_seen new.writes))
      (λ plain. counts-plain n n.wear new.writes refl plain s.count ∙ ap (λ t. if t then next (next n.writes) else n.writes) (sym due))
      (counts-no_fewer n n.wear new.writes few s.count)

  -- what a barrier with no move makes of the inner device
  pub inner_rests : (new : Device) → is_due n since every ≡ false → Settles n new
      → new ≡ with_counts_of new (if is_due n since every then line_moved r (at_rest n) else at_rest n)
  inner_rests new due e =
      ap (with_counts_of new) e ∙ ap (λ t. with_counts_of new (if t then line_moved r (at_rest n) else at_rest n)) (sym due)

  pub inner_moves : (m new : Device) → is_due n since every ≡ true → Settles n m → new ≡ with_counts_of new (line_moved r m)
      → new ≡ with_counts_of new (if is_due n since every then line_moved r (at_rest n) else at_rest n)
  inner_moves m new due e is =
      is ∙ ap (λ (k : Device). with_counts_of new (line_moved r k)) e
      ∙ ap (λ t. with_counts_of new (if t then line_moved r (at_rest n) else at_rest n)) (sym due)

  -- ---- moves

  -- a barrier has to move a line only after a fit
  pub fitted_where_due : every ≤ since → 0 < r.lines
  fitted_where_due due = elim fitted_or_none as (λ _. 0 < r.lines) [ inl e ↦ absurd (omega (arith, due, i.some, i.no_writes e)) | inr l ↦ l ]

  -- what a barrier needs that moves a line
  pub due_parts : is_due n since every ≡ true → (n.whole ≡ true) × (every ≤ since)
  due_parts due =
      let both = and_parts n.whole (not (nat_lt since every)) due in
      (both.0, ltb-false since every (not-true (nat_lt since every) both.1))

  pub rest_before_move : (m : Device) → is_due n since every ≡ true → n.down ≡ false → Settles n m → IsAtRest r m
  rest_before_move m due up e =
      subst (IsAtRest r) (sym e) (rest-settled r cuts m.writes n (i.fitted (fitted_where_due (due_parts due).1)) up (due_parts due).0)

  -- the registers have moved, and this is the count of moves
  pub sound_moved : (m new : Device) (more : ℕ) → more ≡ next moves → is_due n since every ≡ true → n.down ≡ false → Settles n m
      → IsFramed n m
      → new ≡ with_counts_of new (line_moved r m) → IsSoundGap every (moved r) 0 more cuts new
  sound_moved m new more one due up e f is =
      let l = fitted_where_due (due_parts due).1 in
      let rest = rest_before_move m due up e in
      let d : IsLevelled r cuts m =
      IsLevelled-quiet r cuts n m (i.fitted l) f (subst (IsQuiet r) (sym e) (IsQuiet-settled r m.writes n ((i.fitted l).quiet up))) in
      record {
        some = i.some;
        fitted = λ _.
            subst (IsLevelled (moved r) cuts) (sym is)
            (IsLevelled-counted (moved r) cuts m.fits new.writes new.wear (line_moved r m) (IsLevelled-moved r cuts m rest d));
        no_registers = λ none. absurd (omega (arith, none, l));
        no_writes = λ _. refl;
        turned = subst (λ k. k < 2 ^ 64 - 1 → moved r ≡ moved_times k (unmoved r.lines)) (sym one) (turned-on r moves i.turned);
      }

  pub move_settles : (m new : Device) (s : Registers) (more : ℕ) → s ≡ moved r → more ≡ next moves → is_due n since every ≡ true
      → n.down ≡ false
      → n.writes ≤ 2 ^ 64 - 1 → IsSettled n m → new ≡ with_counts_of new (line_moved r m) → is_plain new.wear ≡ is_plain m.wear
      → m.writes ≤ new.writes
      → (is_plain m.wear ≡ true → new.writes ≡ next (next m.writes))
      → IsSettled (looks every since moves r n) (looks every 0 more s new)
  move_settles m new s more at one due up few settles is plain no_fewer exact =
      let before : Device = looks every since moves r n in
      let as_before : is_plain m.wear ≡ is_plain n.wear = plain-settles n m settles.device in
      subst (λ (q : Registers). IsSettled before (looks every 0 more q new)) (sym at)
      (subst (λ k. IsSettled before (looks every 0 k (moved r) new)) (sym one)
      (settles_seen new (moved r) true (sym due) (plain ∙ as_before)
      (ap (seen (moved r)) is
      ∙ seen-moved r m new (rest_before_move m due up settles.device)
      ∙ ap (λ (k : Device). with_counts_of new (seen r k)) settles.device
      ∙ ap (with_counts_of new) (barrier_seen m.writes))
      (λ p.
      exact (as_before ∙ p)
      ∙ ap (λ k. next (next k)) (counts-plain n n.wear m.writes refl p settles.count)
      ∙ ap (λ t. if t then next (next n.writes) else n.writes) (sym due))
      (omega (arith, no_fewer, counts-no_fewer n n.wear m.writes few settles.count))))

  pub sound_failed_to_move : (m new : Device) → n.down ≡ false → Settles n m → IsFramed n m → IsFramed m new → HasFailedToMove r m new
      → IsSoundGap every r since moves cuts new
  sound_failed_to_move m new up e f f2 failed =
      sound_still new
      (λ d. IsLevelled-failed_to_move r cuts m new
      (IsLevelled-quiet r cuts n m d f (subst (IsQuiet r) (sym e) (IsQuiet-settled r m.writes n (d.quiet up)))) f2 failed)

  pub failed_move_seen : (m new : Device) → is_due n since every ≡ true → n.writes ≤ 2 ^ 64 - 1 → IsSettled n m → HasFailedToMove r m new
      → is_plain new.wear ≡ is_plain m.wear → m.writes ≤ new.writes
      → HasFailedToSettle (looks every since moves r n) (looks every since moves r new)
  failed_move_seen m new due few settles failed plain no_fewer =
      let whole : IsWhole r = (i.fitted (fitted_where_due (due_parts due).1)).whole in
      let same : seen r m ≡ settled m.writes (seen r n) = ap (seen r) settles.device ∙ barrier_seen m.writes in
      record {
        down = failed.down;
        no_more = λ x b h.
            no_more-settled m.writes (seen r n) x b (subst (λ (d : Device). CrashAt d x b) same (no_more-moving r m new whole failed x b h));
        writes = omega (arith, no_fewer, counts-no_fewer n n.wear m.writes few settles.count);
        wear = ap (λ t. if t then Levels every since moves else Unsaid) (plain ∙ plain-settles n m settles.device);
      }

  -- ---- cuts

  -- an image can be kept only after a fit
  pub fitted_where_cut : length (seen r n).left < (seen r n).left_room → 0 < r.lines
  fitted_where_cut room = elim fitted_or_none as (λ _. 0 < r.lines) [
    | inl e ↦ absurd (omega (arith, room, ap (λ t. if t then 0 else n.left_room) (eq-eqb r.lines 0 e)))
    | inr l ↦ l
  ]

  -- the registers of the image kept last
  pub registers_after_cut : (pick : ℕ) (new : Device) → 0 < r.lines → IsCut pick n new
      → registers_of r.lines (block_at (slice_index_or new.left cuts []) (r.lines + 1)) ≡ registers_in new.image
  registers_after_cut pick new l c =
      let d = i.fitted l in
      let lines : r.lines ≡ length new.image - 2 = omega (arith, d.blocks, c.crash.same_length) in
      let none : cuts - cuts ≡ 0 = omega arith in
      let last : slice_index_or new.left cuts [] ≡ new.image =
      ap (λ (m : Device). slice_index_or m.left cuts []) c.device
      ∙ get_or-append_right n.left (new.image ∷ []) cuts cuts [] d.cuts_are (omega arith)
      ∙ ap (λ k. slice_index_or (new.image ∷ []) k []) none in
      ap (λ (g : List Block). registers_of r.lines (block_at g (r.lines + 1))) last
      ∙ ap (λ k. registers_of k (block_at new.image (k + 1))) lines

  -- the gap is where it was, or a move was completed
  turned_after : (q : Registers) → IsWhole r → (q ≡ r) ⊎ ((q ≡ moved r) × IsCopied r n)
      → moves_on r q moves < 2 ^ 64 - 1 → q ≡ moved_times (moves_on r q moves) (unmoved q.lines)
  turned_after q w is = elim is as (λ _. moves_on r q moves < 2 ^ 64 - 1 → q ≡ moved_times (moves_on r q moves) (unmoved q.lines)) [
    | inl e ↦
        subst (λ (z : Registers). moves_on r z moves < 2 ^ 64 - 1 → z ≡ moved_times (moves_on r z moves) (unmoved z.lines)) (sym e)
        (subst (λ t. (if t then moves else next moves) < 2 ^ 64 - 1 → r ≡ moved_times (if t then moves else next moves) (unmoved r.lines))
        (sym (eq-eqb r.gap r.gap refl)) i.turned)
    | inr e ↦
        subst (λ (z : Registers). moves_on r z moves < 2 ^ 64 - 1 → z ≡ moved_times (moves_on r z moves) (unmoved z.lines)) (sym e.0)
        (subst (λ t. (if t then moves else next moves) < 2 ^ 64 - 1 → moved r ≡ moved_times (if t then moves else next moves) (unmoved r.lines))
        (sym (ne_eqb (source r) r.gap (source-within r w).1)) (turned-on r moves i.turned))
  ]

  pub cut_seen : (pick : ℕ) (new : Device) (s : Registers) (later more : ℕ) → 0 < r.lines → IsCut pick n new
      → s ≡ registers_of r.lines (block_at (slice_index_or new.left cuts []) (r.lines + 1)) → later ≡ counted_on r s since
      → more ≡ moves_on r s moves
      → IsCut pick (looks every since moves r n) (looks every later more s new) × IsSoundGap every s later more (cuts + 1) new
  cut_seen pick new s later more l c e at_later at_more =
      let d = i.fitted l in
      let q : Registers = registers_in new.image in
      let here : s ≡ q = e ∙ registers_after_cut pick new l c in
      let some : 0 < q.lines = omega (arith, l, d.blocks, c.crash.same_length) in
      let stays : n.down ≡ false → (q.gap == r.gap) ≡ true =
      λ up. eq-eqb q.gap r.gap (ap (λ (z : Registers). z.gap) (registers-quiet r cuts n new.image d (d.quiet up) c.crash)) in
      let Holds : Registers → ℕ → ℕ → Type 0 =
      λ z k j. IsCut pick (looks every since moves r n) (looks every k j z new) × IsSoundGap every z k j (cuts + 1) new in
      subst (λ (z : Registers). Holds z later more) (sym here)
      (subst (λ k. Holds q k more) (sym (at_later ∙ ap (λ (z : Registers). counted_on r z since) here))
      (subst (λ j. Holds q (counted_on r q since) j) (sym (at_more ∙ ap (λ (z : Registers). moves_on r z moves) here)) (
        IsCut-seen every since moves (counted_on r q since) (moves_on r q moves) r cuts pick n new d c
            (cuts_over n.down n.wear new.wear every since moves (q.gap == r.gap) c.wear stays),
        record {
          some = i.some;
          fitted = λ _. IsLevelled-after_cut r cuts pick n new d c;
          no_registers = λ none. absurd (omega (arith, some, none));
          no_writes = λ none. absurd (omega (arith, some, none));
          turned = turned_after q d.whole (registers-left r cuts n new.image d c.crash);
        },
      )))

  -- ---- kept images

  module _ (k x : ℕ) (s : Registers) (image_in : k < length (seen r n).left) (line_in : x < r.lines)
      (are : s ≡ registers_of r.lines (block_at (slice_index_or n.left k []) (r.lines + 1))) where
    left_seen : (seen r n).left ≡ map unmapped n.left
    left_seen = ap (λ t. if t then [] else map unmapped n.left) (ne_eqb r.lines 0 (λ e. omega (arith, e, line_in)))

    pub kept_in : k < length n.left
    kept_in = omega (arith, image_in, ap length left_seen, length-map n.left unmapped)

    kept_left : HasRegisters r.lines (slice_index_or n.left k [])
    kept_left = (levelled_at x line_in).left k [] kept_in

    kept_are : s ≡ registers_in (slice_index_or n.left k [])
    kept_are =
        let lines : r.lines ≡ length (slice_index_or n.left k []) - 2 = omega (arith, kept_left.blocks) in
        are ∙ ap (λ j. registers_of j (block_at (slice_index_or n.left k []) (j + 1))) lines

    pub kept_whole : IsWhole s
    kept_whole = subst IsWhole (sym kept_are) kept_left.whole

    pub kept_line : x < s.lines
    kept_line = omega (arith, line_in, ap (λ (q : Registers). q.lines) are)

    pub kept_place : place s x < length n.image
    kept_place = omega (arith, place-within s x kept_whole kept_line, ap (λ (q : Registers). q.lines) are, (levelled_at x line_in).blocks)

    pub kept_seen : block_at (slice_index_or n.left k []) (place s x) ≡ block_at (slice_index_or (seen r n).left k []) x
    kept_seen =
        let g : List Block = slice_index_or n.left k [] in
        ap (λ (q : Registers). block_at g (place q x)) kept_are
        ∙ sym (block_at-unmap (registers_in g) g x (subst (λ (q : Registers). x < q.lines) kept_are kept_line))
        ∙ ap (λ (h : List Block). block_at h x)
        (sym (get_or-map unmapped n.left k [] [] kept_in) ∙ ap (λ (l : List (List Block)). slice_index_or l k []) (sym left_seen))

  -- ---- fits

  pub sound_failed_to_fit : (new : Device) (e : FitError) → HasFailedToFit e n new → IsSoundGap every r since moves cuts new
  sound_failed_to_fit new Failed h = sound_still new (λ d. IsLevelled-failed_to_fit r cuts (next n.fits) n new d h.1 h.0)
  sound_failed_to_fit new (Memory e) h =
      sound_still new
      (λ d. elim h as (λ _. IsLevelled r cuts new) [
        | inl same ↦ subst (IsLevelled r cuts) (sym same) d
        | inr counted ↦ subst (IsLevelled r cuts) (sym counted) (IsLevelled-counted r cuts (next n.fits) n.writes n.wear n d)
      ])

  pub failed_to_fit_seen : (new : Device) (e : FitError) → HasFailedToFit e n new
      → HasFailedToFit e (looks every since moves r n) (looks every since moves r new)
  failed_to_fit_seen new Failed h =
      (failed_seen new h.0, IsFramed-seen every since moves since moves r (record n { fits = next n.fits }) new h.1, h.2)
  failed_to_fit_seen new (Memory e) h =
      let before : Device = looks every since moves r n in
      elim h as (λ _. (looks every since moves r new ≡ before) ⊎ (looks every since moves r new ≡ record before { fits = next n.fits })) [
        | inl same ↦ inl (ap (looks every since moves r) same)
        | inr counted ↦ inr (ap (looks every since moves r) counted)
      ]

  pub sound_fitted : (new : Device) (shape : Shape) (start : List Block) → 0 < shape.blocks → length start ≤ shape.blocks
      → shape.blocks + 2 < 2 ^ 64 → shape.cuts + 1 < 2 ^ 64
      → new ≡ fitted (inner_shape shape) (first_image shape.blocks start) n → IsSoundGap every (unmoved shape.blocks) 0 0 0 new
  sound_fitted new shape start l most room cuts e = record {
    some = i.some;
    fitted = λ _. subst (IsLevelled (unmoved shape.blocks) 0) (sym e) (IsLevelled-fitted shape start n l most room cuts);
    no_registers = λ none. absurd (omega (arith, none, l));
    no_writes = λ _. refl;
    turned = λ _. refl;
  }
