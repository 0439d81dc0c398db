-- What is seen of an inner device, and what calls on lines make of it.
use Rattle.std.proofs.Common.{◌≡◌, ℕ, zero, suc, ◌+◌, ◌<◌, ◌≤◌, ◌==◌, nat_lt, if◌then◌else◌, true, List, [], ◌∷◌, ◌++◌, length, take, drop, slice_set, Contains, Option, Some, None, is_some, refl, sym, ◌∙◌, ap, subst, inl, inr, arith, append_assoc}
use Rattle.std.specs.List.{All}
use Rattle.std.proofs.lemmas.Bool.{cases_eq, cases_lt, eq-eqb, ne_eqb, true≢false}
use Rattle.std.proofs.lemmas.List.{length-set, get_or_past, ext_get_or}
use Rattle.std.proofs.lemmas.List.FromFn.{length-map-range_with_len, get_or-map-range_with_len}
use Rattle.std.proofs.lemmas.List.Elements.{All-head, All-tail, Contains-push}
use Rattle.std.proofs.lemmas.Option.{none-some}
use Rattle.thy_block.specs.declared.block.Block.{Block}
use Rattle.thy_block.specs.declared.nvm.Write.{Write}
use Rattle.thy_block.specs.Counts.{next}
use Rattle.thy_block.specs.Device.{Device, IsCrashOf, CrashAt, zero_block, write_of, block_at, queued_for, newest_over, applied, possible, newest, landed, moved_on, moves_next, settled, surplus, with_queued, worn, written_to, HoldsNoMore}
use Rattle.thy_block.proofs.DeviceLemmas.{same_as_only, CrashAt-possible, CrashAt-only, block_at-set, queued_for-append, newest_over-append, applied-append}
use Rattle.thy_gap.specs.declared.registers.Registers.{Registers}
use Rattle.thy_gap.specs.Lines.{IsWhole, place, line_at}
use Rattle.thy_gap.specs.Seen.{unmap, write_to, unmap_queue, seen}
use Rattle.thy_gap.proofs.LineLemmas.{place-within, line_at-place, place-line_at, place-one_to_one}

-- ---- images

module _ (r : Registers) (g : List Block) where
  pub length-unmap : length (unmap r g) ≡ r.lines
  length-unmap = length-map-range_with_len (λ x. block_at g (place r x)) 0 r.lines

  pub block_at-unmap : (x : ℕ) → x < r.lines → block_at (unmap r g) x ≡ block_at g (place r x)
  block_at-unmap x l = get_or-map-range_with_len (λ x. block_at g (place r x)) 0 r.lines x x zero_block l (omega arith)

  pub block_at-unmap_past : (x : ℕ) → r.lines ≤ x → block_at (unmap r g) x ≡ zero_block
  block_at-unmap_past x l = get_or_past (unmap r g) x zero_block (omega (arith, l, length-unmap))

  -- the image through registers is this list, if each of its blocks is where they say
  pub unmap-is : (h : List Block) → length h ≡ r.lines → ((x : ℕ) → x < r.lines → block_at g (place r x) ≡ block_at h x) → unmap r g ≡ h
  unmap-is h same each =
      ext_get_or zero_block (unmap r g) h (length-unmap ∙ sym same)
      (λ x l.
      let inside : x < r.lines = omega (arith, l, length-unmap) in
      block_at-unmap x inside ∙ each x inside)

-- ---- writes

-- a place is a line's place exactly if its line is that one
tests : (r : Registers) (at z x : ℕ) → IsWhole r → z < r.lines → x < r.lines → place r z ≡ at → (at == place r x) ≡ (z == x)
tests r at z x w lz lx e = elim (cases_eq z x) as (λ _. (at == place r x) ≡ (z == x)) [
  | inl same ↦ eq-eqb at (place r x) (sym e ∙ ap (place r) same) ∙ sym (eq-eqb z x same)
  | inr other ↦ ne_eqb at (place r x) (λ same. other (place-one_to_one r z x w lz lx (e ∙ same))) ∙ sym (ne_eqb z x other)
]

same_test : (r : Registers) (g : List Block) (at : ℕ) (b : Block) (z x : ℕ) → IsWhole r → z < r.lines → x < r.lines → place r z ≡ at
    → (if at == place r x then b else block_at g (place r x)) ≡ (if z == x then b else block_at g (place r x))
same_test r g at b z x w lz lx e = ap (λ t. if t then b else block_at g (place r x)) (tests r at z x w lz lx e)

-- one write of the inner device
unmap-set : (r : Registers) (g : List Block) (at : ℕ) (b : Block) (o : Option ℕ) → IsWhole r → length g ≡ r.lines + 2 → line_at r at ≡ o
    → unmap r (slice_set g at b) ≡ applied (unmap r g) (write_to o b)
unmap-set r g at b None w len h =
    unmap-is r (slice_set g at b) (unmap r g) (length-unmap r g)
    (λ x l.
    let here = place-within r x w l in
    block_at-set g at b (place r x) (omega (arith, here, len))
    ∙ ap (λ t. if t then b else block_at g (place r x)) (ne_eqb at (place r x) (λ e. none-some x (sym h ∙ ap (line_at r) e ∙ line_at-place r x w l)))
    ∙ sym (block_at-unmap r g x l))
unmap-set r g at b (Some z) w len h =
    let line = place-line_at r z at w h in
    unmap-is r (slice_set g at b) (slice_set (unmap r g) z b) (length-set (unmap r g) z b ∙ length-unmap r g)
    (λ x l.
    let here = place-within r x w l in
    block_at-set g at b (place r x) (omega (arith, here, len))
    ∙ same_test r g at b z x w line.0 l line.1
    ∙ ap (λ c. if z == x then b else c) (sym (block_at-unmap r g x l))
    ∙ sym (block_at-set (unmap r g) z b x (omega (arith, l, length-unmap r g))))

-- many writes of the inner device
pub unmap-applied : (r : Registers) (g : List Block) (ws : List Write) → IsWhole r → length g ≡ r.lines + 2
    → unmap r (applied g ws) ≡ applied (unmap r g) (unmap_queue r ws)
unmap-applied r g [] w len = refl
unmap-applied r g (v ∷ vs) w len =
    unmap-applied r (slice_set g v.at v.block) vs w (length-set g v.at v.block ∙ len)
    ∙ ap (λ h. applied h (unmap_queue r vs)) (unmap-set r g v.at v.block (line_at r v.at) w len refl)
    ∙ sym (applied-append (unmap r g) (write_to (line_at r v.at) v.block) (unmap_queue r vs))

-- ---- queues

-- one write, at a line
queued_for-one : (r : Registers) (at : ℕ) (b : Block) (o : Option ℕ) (x : ℕ) → IsWhole r → x < r.lines → line_at r at ≡ o
    → queued_for (write_to o b) x ≡ queued_for (write_of at b ∷ []) (place r x)
queued_for-one r at b None x w l h =
    ap (λ t. if t then b ∷ [] else []) (sym (ne_eqb at (place r x) (λ e. none-some x (sym h ∙ ap (line_at r) e ∙ line_at-place r x w l))))
queued_for-one r at b (Some z) x w l h =
    let line = place-line_at r z at w h in
    ap (λ t. if t then b ∷ [] else []) (sym (tests r at z x w line.0 l line.1))

pub queued_for-unmap : (r : Registers) (ws : List Write) (x : ℕ) → IsWhole r → x < r.lines
    → queued_for (unmap_queue r ws) x ≡ queued_for ws (place r x)
queued_for-unmap r [] x w l = refl
queued_for-unmap r (v ∷ vs) x w l =
    queued_for-append (write_to (line_at r v.at) v.block) (unmap_queue r vs) x
    ∙ ap (λ q. q ++ queued_for (unmap_queue r vs) x) (queued_for-one r v.at v.block (line_at r v.at) x w l refl)
    ∙ ap (λ q. queued_for (write_of v.at v.block ∷ []) (place r x) ++ q) (queued_for-unmap r vs x w l)
    ∙ sym (queued_for-append (write_of v.at v.block ∷ []) vs (place r x))

-- one write, at no line
queued_for-one_past : (r : Registers) (at : ℕ) (b : Block) (o : Option ℕ) (x : ℕ) → IsWhole r → r.lines ≤ x → line_at r at ≡ o
    → queued_for (write_to o b) x ≡ []
queued_for-one_past r at b None x w l h = refl
queued_for-one_past r at b (Some z) x w l h =
    let line = place-line_at r z at w h in
    ap (λ t. if t then b ∷ [] else []) (ne_eqb z x (λ e. omega (arith, e, line.0, l)))

-- nothing is queued past the lines
pub queued_for-unmap_past : (r : Registers) (ws : List Write) (x : ℕ) → IsWhole r → r.lines ≤ x → queued_for (unmap_queue r ws) x ≡ []
queued_for-unmap_past r [] x w l = refl
queued_for-unmap_past r (v ∷ vs) x w l =
    queued_for-append (write_to (line_at r v.at) v.block) (unmap_queue r vs) x
    ∙ ap (λ q. q ++ queued_for (unmap_queue r vs) x) (queued_for-one_past r v.at v.block (line_at r v.at) x w l refl)
    ∙ queued_for-unmap_past r vs x w l

-- the newest queued, at a line
newest_over-one : (r : Registers) (at : ℕ) (b c : Block) (o : Option ℕ) (x : ℕ) → IsWhole r → x < r.lines → line_at r at ≡ o
    → newest_over c (write_to o b) x ≡ newest_over c (write_of at b ∷ []) (place r x)
newest_over-one r at b c None x w l h =
    ap (λ t. if t then b else c) (sym (ne_eqb at (place r x) (λ e. none-some x (sym h ∙ ap (line_at r) e ∙ line_at-place r x w l))))
newest_over-one r at b c (Some z) x w l h =
    let line = place-line_at r z at w h in
    ap (λ t. if t then b else c) (sym (tests r at z x w line.0 l line.1))

pub newest_over-unmap : (r : Registers) (ws : List Write) (c : Block) (x : ℕ) → IsWhole r → x < r.lines
    → newest_over c (unmap_queue r ws) x ≡ newest_over c ws (place r x)
newest_over-unmap r [] c x w l = refl
newest_over-unmap r (v ∷ vs) c x w l =
    newest_over-append c (write_to (line_at r v.at) v.block) (unmap_queue r vs) x
    ∙ ap (λ b. newest_over b (unmap_queue r vs) x) (newest_over-one r v.at v.block c (line_at r v.at) x w l refl)
    ∙ newest_over-unmap r vs (newest_over c (write_of v.at v.block ∷ []) (place r x)) x w l

pub unmap_queue-append : (r : Registers) (ws vs : List Write) → unmap_queue r (ws ++ vs) ≡ unmap_queue r ws ++ unmap_queue r vs
unmap_queue-append r [] vs = refl
unmap_queue-append r (w ∷ ws) vs =
    ap (λ q. write_to (line_at r w.at) w.block ++ q) (unmap_queue-append r ws vs)
    ∙ sym (append_assoc (write_to (line_at r w.at) w.block) (unmap_queue r ws) (unmap_queue r vs))

-- ---- queues of writes to lines alone

-- a write of a line is one
pub write_to-line : (o : Option ℕ) (b : Block) → is_some o ≡ true → (x : ℕ) × (write_to o b ≡ write_of x b ∷ [])
write_to-line None b h = absurd (true≢false (sym h))
write_to-line (Some x) b h = (x, refl)

pub length-unmap_queue : (r : Registers) (ws : List Write) → All (λ (w : Write). is_some (line_at r w.at) ≡ true) ws
    → length (unmap_queue r ws) ≡ length ws
length-unmap_queue r [] all = refl
length-unmap_queue r (w ∷ ws) all =
    let one = write_to-line (line_at r w.at) w.block (All-head (λ (w : Write). is_some (line_at r w.at) ≡ true) w ws all) in
    ap (λ q. length (q ++ unmap_queue r ws)) one.1
    ∙ ap suc (length-unmap_queue r ws (All-tail (λ (w : Write). is_some (line_at r w.at) ≡ true) w ws all))

pub take-unmap_queue : (r : Registers) (k : ℕ) (ws : List Write) → All (λ (w : Write). is_some (line_at r w.at) ≡ true) ws
    → unmap_queue r (take k ws) ≡ take k (unmap_queue r ws)
take-unmap_queue r zero ws all = refl
take-unmap_queue r (suc k) [] all = refl
take-unmap_queue r (suc k) (w ∷ ws) all =
    let one = write_to-line (line_at r w.at) w.block (All-head (λ (w : Write). is_some (line_at r w.at) ≡ true) w ws all) in
    ap (λ q. q ++ unmap_queue r (take k ws)) one.1
    ∙ ap (λ q. write_of one.0 w.block ∷ q) (take-unmap_queue r k ws (All-tail (λ (w : Write). is_some (line_at r w.at) ≡ true) w ws all))
    ∙ ap (λ q. take (suc k) (q ++ unmap_queue r ws)) (sym one.1)

pub drop-unmap_queue : (r : Registers) (k : ℕ) (ws : List Write) → All (λ (w : Write). is_some (line_at r w.at) ≡ true) ws
    → unmap_queue r (drop k ws) ≡ drop k (unmap_queue r ws)
drop-unmap_queue r zero ws all = refl
drop-unmap_queue r (suc k) [] all = refl
drop-unmap_queue r (suc k) (w ∷ ws) all =
    let one = write_to-line (line_at r w.at) w.block (All-head (λ (w : Write). is_some (line_at r w.at) ≡ true) w ws all) in
    drop-unmap_queue r k ws (All-tail (λ (w : Write). is_some (line_at r w.at) ≡ true) w ws all)
    ∙ ap (λ q. drop (suc k) (q ++ unmap_queue r ws)) (sym one.1)

-- ---- what a line may hold, and what is read of it

pub possible-seen : (r : Registers) (n : Device) (x : ℕ) → IsWhole r → x < r.lines → possible (seen r n) x ≡ possible n (place r x)
possible-seen r n x w l =
    ap (λ b. b ∷ queued_for (unmap_queue r n.queue) x) (block_at-unmap r n.image x l)
    ∙ ap (λ q. block_at n.image (place r x) ∷ q) (queued_for-unmap r n.queue x w l)

pub possible-seen_past : (r : Registers) (n : Device) (x : ℕ) → IsWhole r → r.lines ≤ x → possible (seen r n) x ≡ zero_block ∷ []
possible-seen_past r n x w l =
    ap (λ b. b ∷ queued_for (unmap_queue r n.queue) x) (block_at-unmap_past r n.image x l)
    ∙ ap (λ q. zero_block ∷ q) (queued_for-unmap_past r n.queue x w l)

pub newest-seen : (r : Registers) (n : Device) (x : ℕ) → IsWhole r → x < r.lines → newest (seen r n) x ≡ newest n (place r x)
newest-seen r n x w l =
    ap (λ b. newest_over b (unmap_queue r n.queue) x) (block_at-unmap r n.image x l)
    ∙ newest_over-unmap r n.queue (block_at n.image (place r x)) x w l

-- past the lines zeros are left, and nothing else
pub left_past : (r : Registers) (n : Device) (x : ℕ) (b : Block) → IsWhole r → r.lines ≤ x → CrashAt (seen r n) x b → b ≡ zero_block
left_past r n x b w l left =
    CrashAt-only (seen r n) x zero_block b
    (λ d h. sym (same_as_only zero_block d (subst (λ (q : List Block). Contains q d) (possible-seen_past r n x w l) h)))
    left

pub zero_left : (r : Registers) (n : Device) (x : ℕ) → IsWhole r → r.lines ≤ x → CrashAt (seen r n) x zero_block
zero_left r n x w l =
    CrashAt-possible (seen r n) x zero_block
    (subst (λ (q : List Block). Contains q zero_block) (sym (possible-seen_past r n x w l)) (Contains-push [] zero_block))

-- if no line may hold more in the inner device, none may hold more through the registers
pub no_more-seen : (r : Registers) (old new : Device) → IsWhole r
    → ((x : ℕ) (b : Block) → x < r.lines → CrashAt new (place r x) b → CrashAt old (place r x) b)
    → HoldsNoMore (seen r old) (seen r new)
no_more-seen r old new w no_more x b h = elim (cases_lt x r.lines) as (λ _. CrashAt (seen r old) x b) [
  | inl l ↦
      subst (λ (q : List Block). IsCrashOf old.whole q b) (sym (possible-seen r old x w l))
      (no_more x b l (subst (λ (q : List Block). IsCrashOf new.whole q b) (possible-seen r new x w l) h))
  | inr l ↦ subst (CrashAt (seen r old) x) (sym (left_past r new x b w l h)) (zero_left r old x w l)
]

-- ---- calls on lines

-- the parts that these calls change
pub seen-changed : (r : Registers) (n : Device) (image : List Block) (queue : List Write) (g : List Block) (q : List Write)
    → unmap r image ≡ g → unmap_queue r queue ≡ q
    → seen r (record n { image = image; queue = queue }) ≡ record (seen r n) { image = g; queue = q }
seen-changed r n image queue g q a b = cc

pub seen-landed : (r : Registers) (n : Device) (k : ℕ) → IsWhole r → length n.image ≡ r.lines + 2
    → All (λ (w : Write). is_some (line_at r w.at) ≡ true) n.queue
    → seen r (landed k n) ≡ landed k (seen r n)
seen-landed r n k w len all =
    seen-changed r n (applied n.image (take k n.queue)) (drop k n.queue) (applied (unmap r n.image) (take k (unmap_queue r n.queue)))
    (drop k (unmap_queue r n.queue))
    (unmap-applied r n.image (take k n.queue) w len ∙ ap (applied (unmap r n.image)) (take-unmap_queue r k n.queue all))
    (drop-unmap_queue r k n.queue all)

pub seen-settled : (r : Registers) (count : ℕ) (n : Device) → IsWhole r → length n.image ≡ r.lines + 2
    → seen r (settled count n) ≡ settled count (seen r n)
seen-settled r count n w len =
    let m : Device = record n { writes = count; wear = if moves_next n then moved_on n.wear else n.wear } in
    seen-changed r m (applied n.image n.queue) [] (applied (unmap r n.image) (unmap_queue r n.queue)) [] (unmap-applied r n.image n.queue w len) refl

-- a write of a line that is queued is seen to be
pub seen-with_queued : (r : Registers) (n : Device) (x : ℕ) (b : Block) → IsWhole r → x < r.lines
    → seen r (with_queued (place r x) b n) ≡ with_queued x b (seen r n)
seen-with_queued r n x b w l =
    seen-changed r n n.image (n.queue ++ write_of (place r x) b ∷ []) (unmap r n.image) (unmap_queue r n.queue ++ write_of x b ∷ []) refl
    (unmap_queue-append r n.queue (write_of (place r x) b ∷ [])
    ∙ ap (λ o. unmap_queue r n.queue ++ (write_to o b ++ [])) (line_at-place r x w l))

-- the lines' queue has to let the same number of writes land as the inner device's
pub surplus-seen : (r : Registers) (n : Device) → All (λ (w : Write). is_some (line_at r w.at) ≡ true) n.queue
    → surplus (seen r n) ≡ surplus n
surplus-seen r n all = ap (λ k. if nat_lt k n.queue_room then 0 else 1) (length-unmap_queue r n.queue all)

pub seen-written : (r : Registers) (n : Device) (x : ℕ) (b : Block)
    → IsWhole r → x < r.lines → length n.image ≡ r.lines + 2 → All (λ (w : Write). is_some (line_at r w.at) ≡ true) n.queue
    → seen r (written_to n (place r x) b) ≡ written_to (seen r n) x b
seen-written r n x b w l len all =
    let k : ℕ = surplus n in
    let m : Device = record n { writes = next n.writes; wear = worn n.wear } in
    let queued : unmap_queue r (drop k n.queue ++ write_of (place r x) b ∷ []) ≡ drop k (unmap_queue r n.queue) ++ write_of x b ∷ [] =
    unmap_queue-append r (drop k n.queue) (write_of (place r x) b ∷ [])
    ∙ ap (λ q. q ++ (write_to (line_at r (place r x)) b ++ [])) (drop-unmap_queue r k n.queue all)
    ∙ ap (λ o. drop k (unmap_queue r n.queue) ++ (write_to o b ++ [])) (line_at-place r x w l) in
    seen-changed r m (applied n.image (take k n.queue)) (drop k n.queue ++ write_of (place r x) b ∷ [])
    (applied (unmap r n.image) (take k (unmap_queue r n.queue))) (drop k (unmap_queue r n.queue) ++ write_of x b ∷ [])
    (unmap-applied r n.image (take k n.queue) w len ∙ ap (applied (unmap r n.image)) (take-unmap_queue r k n.queue all))
    queued
    ∙ ap (λ j. record (seen r m) {
      image = applied (unmap r n.image) (take j (unmap_queue r n.queue));
      queue = drop j (unmap_queue r n.queue) ++ write_of x b ∷ [];
    }) (sym (surplus-seen r n all))
