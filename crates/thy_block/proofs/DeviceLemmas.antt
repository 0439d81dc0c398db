-- What follows from the definitions of a device: reads, possible contents and crashes after each call.
use Rattle.std.proofs.Common.{◌≡◌, ◌≢◌, ◌⊎◌, ℕ, ◌<◌, ◌≤◌, ◌==◌, Bool, true, false, Result, Ok, Err, OnOk, OnErr, List, [], ◌∷◌, ◌++◌, length, take, drop, slice_set, Contains, refl, sym, ◌∙◌, ap, subst, inl, inr, arith, if◌then◌else◌, map, ◌+◌, length-append, length-drop}
use Rattle.std.proofs.lemmas.Bool.{cases_eq, cases_lt, eq-eqb, ne_eqb}
use Rattle.std.proofs.lemmas.List.{append-nil, append_assoc, take-append-drop, length-set, get_or_past, ext_get_or}
use Rattle.std.proofs.lemmas.List.Elements.{Contains-push, Contains-push_cases, Contains-append_left, Contains-append_right, Contains-append_cases}
use Rattle.std.proofs.lemmas.Grind.{common_steps}
use Rattle.std.specs.List.{range_with_len}
use Rattle.std.proofs.lemmas.List.FromFn.{length-map-range_with_len, get_or-map-range_with_len}
use Rattle.thy_block.specs.declared.block.Block.{Block}
use Rattle.thy_block.specs.declared.nvm.Write.{Write}
use Rattle.thy_block.specs.Counts.{RoseByOne}
use Rattle.thy_block.specs.Device.{Device, failed_calls, CountsOneFault, CrashAt, HoldsNoMore, zero_block, write_of, block_at, queued_for, newest_over, applied, possible, newest, landed, drained, settled, surplus, with_queued, written_to}
use Rattle.thy_block.proofs.MadeLemmas.{IsMadeOf-one, IsMadeOf-more, IsMadeOf-only}

-- the blocks queued by one list of writes and then by another
pub queued_for-append : (ws vs : List Write) (x : ℕ) → queued_for (ws ++ vs) x ≡ queued_for ws x ++ queued_for vs x
queued_for-append [] vs x = refl
queued_for-append (w ∷ ws) vs x = grind (arith, queued_for-append ws vs x)

-- the newest of one list of writes and then of another
pub newest_over-append : (block : Block) (ws vs : List Write) (x : ℕ)
    → newest_over block (ws ++ vs) x ≡ newest_over (newest_over block ws x) vs x
newest_over-append block [] vs x = refl
newest_over-append block (w ∷ ws) vs x = newest_over-append (if w.at == x then w.block else block) ws vs x

-- writes keep an image's length
pub length-applied : (image : List Block) (ws : List Write) → length (applied image ws) ≡ length image
length-applied image [] = refl
length-applied image (w ∷ ws) = length-applied (slice_set image w.at w.block) ws ∙ length-set image w.at w.block

-- one write applied, read at any place of the image
pub block_at-set : (image : List Block) (at : ℕ) (block : Block) (x : ℕ) → x < length image
    → block_at (slice_set image at block) x ≡ (if at == x then block else block_at image x)
block_at-set image at block x l = grind (arith, common_steps)

-- writes applied in order leave the newest at each place
pub block_at-applied : (image : List Block) (ws : List Write) (x : ℕ) → x < length image
    → block_at (applied image ws) x ≡ newest_over (block_at image x) ws x
block_at-applied image [] x l = refl
block_at-applied image (w ∷ ws) x l =
    let inside : x < length (slice_set image w.at w.block) = omega (arith, length-set image w.at w.block) in
    block_at-applied (slice_set image w.at w.block) ws x inside ∙ ap (λ b. newest_over b ws x) (block_at-set image w.at w.block x l)

-- what a list of one block holds
pub same_as_only : (only b : Block) → Contains (only ∷ []) b → only ≡ b
same_as_only only b h = elim (Contains-push_cases [] only b h) as (λ _. only ≡ b) [ inl none ↦ absurd (omega (arith, none.1)) | inr e ↦ e ]

-- the newest is the block that has landed, or one of those queued
pub Contains-newest_over : (block : Block) (ws : List Write) (x : ℕ) → Contains (block ∷ queued_for ws x) (newest_over block ws x)
Contains-newest_over block [] x = Contains-push [] block
Contains-newest_over block (w ∷ ws) x =
    elim (w.at == x) as (λ t. Contains (block ∷ (if t then w.block ∷ queued_for ws x else queued_for ws x))
    (newest_over (if t then w.block else block) ws x)) [
      | true ↦ Contains-append_right (block ∷ []) (w.block ∷ queued_for ws x) _ (Contains-newest_over w.block ws x)
      | false ↦ Contains-newest_over block ws x
    ]

-- writes applied in order leave at each place, past the end too, a block that was possible there
pub Contains-applied : (image : List Block) (ws : List Write) (x : ℕ)
    → Contains (block_at image x ∷ queued_for ws x) (block_at (applied image ws) x)
Contains-applied image ws x =
    elim (cases_lt x (length image)) as (λ _. Contains (block_at image x ∷ queued_for ws x) (block_at (applied image ws) x)) [
      | inl l ↦ rw (block_at-applied image ws x l) (Contains-newest_over (block_at image x) ws x)
      | inr l ↦
          let past : length (applied image ws) ≤ x = omega (arith, length-applied image ws) in
          let e : block_at (applied image ws) x ≡ block_at image x =
          get_or_past (applied image ws) x zero_block past ∙ sym (get_or_past image x zero_block l) in
          rw e (Contains-append_left (block_at image x ∷ []) (queued_for ws x) _ (Contains-push [] (block_at image x)))
    ]

-- if the first of two lists of writes has landed, nothing more is possible
pub Contains-landed : (image : List Block) (ws vs : List Write) (x : ℕ) (b : Block)
    → Contains (block_at (applied image ws) x ∷ queued_for vs x) b → Contains (block_at image x ∷ queued_for (ws ++ vs) x) b
Contains-landed image ws vs x b h =
    rw (queued_for-append ws vs x)
    (elim (Contains-append_cases (block_at (applied image ws) x ∷ []) (queued_for vs x) b h)
    as (λ _. Contains (block_at image x ∷ (queued_for ws x ++ queued_for vs x)) b) [
      | inl here ↦ Contains-append_left (block_at image x ∷ queued_for ws x) (queued_for vs x) b
          (subst (Contains (block_at image x ∷ queued_for ws x)) (same_as_only _ b here) (Contains-applied image ws x))
      | inr later ↦ Contains-append_right (block_at image x ∷ queued_for ws x) (queued_for vs x) b later
    ])

-- ---- what a cut may leave

-- a possible block may be left
pub CrashAt-possible : (n : Device) (x : ℕ) (b : Block) → Contains (possible n x) b → CrashAt n x b
CrashAt-possible n x b h = record { words = IsMadeOf-one (possible n x) b h; whole = λ _. h }

-- if nothing more is possible at a place, nothing more may be left there
pub CrashAt-more : (old new : Device) (x y : ℕ) (b : Block) → new.whole ≡ old.whole
    → ((c : Block) → Contains (possible new y) c → Contains (possible old x) c) → CrashAt new y b → CrashAt old x b
CrashAt-more old new x y b same among left = record {
  words = IsMadeOf-more (possible new y) (possible old x) b among left.words;
  whole = λ whole. among b (left.whole (same ∙ whole));
}

-- if one block alone is possible, it is left
pub CrashAt-only : (n : Device) (x : ℕ) (c b : Block) → ((d : Block) → Contains (possible n x) d → d ≡ c) → CrashAt n x b → b ≡ c
CrashAt-only n x c b only left = IsMadeOf-only (possible n x) c b only left.words

-- if no write is queued for a place, a cut can leave only the image's block there
pub CrashAt-landed : (n : Device) (x : ℕ) (b : Block) → queued_for n.queue x ≡ [] → CrashAt n x b → b ≡ block_at n.image x
CrashAt-landed n x b none left =
    CrashAt-only n x (block_at n.image x) b
    (λ d h. sym (same_as_only (block_at n.image x) d (subst (λ (q : List Block). Contains (block_at n.image x ∷ q) d) none h)))
    left

-- if the oldest k writes have landed, nothing more is possible
pub possible-landed : (k : ℕ) (n : Device) (x : ℕ) (b : Block) → Contains (possible (landed k n) x) b → Contains (possible n x) b
possible-landed k n x b h =
    subst (λ (q : List Write). Contains (block_at n.image x ∷ queued_for q x) b) (take-append-drop k n.queue)
    (Contains-landed n.image (take k n.queue) (drop k n.queue) x b h)

pub no_more-landed : (k : ℕ) (n : Device) → HoldsNoMore n (landed k n)
no_more-landed k n x b left = CrashAt-more n (landed k n) x x b refl (possible-landed k n x) left

-- a drain makes nothing more possible
pub no_more-drained : (n : Device) → HoldsNoMore n (drained n)
no_more-drained n = no_more-landed 1 n

-- a barrier makes nothing more possible
pub no_more-settled : (count : ℕ) (n : Device) → HoldsNoMore n (settled count n)
no_more-settled count n x b left =
    CrashAt-more n (settled count n) x x b refl
    (λ c h. subst (λ (q : List Write). Contains (block_at n.image x ∷ queued_for q x) c) (append-nil n.queue)
    (Contains-landed n.image n.queue [] x c h))
    left

-- one write is queued for its own place alone
pub queued_for-one : (at : ℕ) (block : Block) (x : ℕ) → x ≢ at → queued_for (write_of at block ∷ []) x ≡ []
queued_for-one at block x other = ap (λ t. if t then block ∷ [] else []) (ne_eqb at x (λ e. other (sym e)))

-- what one queued write makes possible: its block at its place
pub Contains-queued_for_one : (at : ℕ) (block : Block) (x : ℕ) (b : Block)
    → Contains (queued_for (write_of at block ∷ []) x) b → (x ≡ at) × (b ≡ block)
Contains-queued_for_one at block x b h = elim (cases_eq at x) as (λ _. (x ≡ at) × (b ≡ block)) [
  | inl e ↦ (sym e, sym (same_as_only block b (subst (λ (q : List Block). Contains q b) (ap (λ t. if t then block ∷ [] else []) (eq-eqb at x e)) h)))
  | inr ne ↦
      let none : Contains [] b = subst (λ (q : List Block). Contains q b) (queued_for-one at block x (λ e. ne (sym e))) h in
      absurd (omega (arith, none.1))
]

-- one write more makes its block possible at its place, and nothing else
pub possible-with_queued : (n : Device) (at : ℕ) (block : Block) (x : ℕ) (b : Block)
    → Contains (possible (with_queued at block n) x) b → Contains (possible n x) b ⊎ ((x ≡ at) × (b ≡ block))
possible-with_queued n at block x b h =
    let split : Contains (possible n x ++ queued_for (write_of at block ∷ []) x) b
    = subst (λ (q : List Block). Contains (block_at n.image x ∷ q) b) (queued_for-append n.queue (write_of at block ∷ []) x) h in
    elim (Contains-append_cases (possible n x) (queued_for (write_of at block ∷ []) x) b split)
    as (λ _. Contains (possible n x) b ⊎ ((x ≡ at) × (b ≡ block))) [
      | inl before ↦ inl before
      | inr this ↦ inr (Contains-queued_for_one at block x b this)
    ]

module _ (n : Device) (at : ℕ) (block : Block) where
  -- what is possible without it is possible with it
  pub possible-before_queued : (x : ℕ) (b : Block) → Contains (possible n x) b → Contains (possible (with_queued at block n) x) b
  possible-before_queued x b h =
      subst (λ (q : List Block). Contains (block_at n.image x ∷ q) b) (sym (queued_for-append n.queue (write_of at block ∷ []) x))
      (Contains-append_left (possible n x) (queued_for (write_of at block ∷ []) x) b h)

  pub no_more-with_queued : HoldsNoMore (with_queued at block n) n
  no_more-with_queued x b left = CrashAt-more (with_queued at block n) n x x b refl (possible-before_queued x) left

  -- the block of the write is possible
  pub possible-queued : Contains (possible (with_queued at block n) at) block
  possible-queued =
      let queued : queued_for (n.queue ++ write_of at block ∷ []) at ≡ queued_for n.queue at ++ block ∷ []
      = queued_for-append n.queue (write_of at block ∷ []) at
      ∙ ap (λ t. queued_for n.queue at ++ (if t then block ∷ [] else [])) (eq-eqb at at refl) in
      subst (λ (q : List Block). Contains (block_at n.image at ∷ q) block) (sym queued) (Contains-push (possible n at) block)

-- ---- the laws of whole blocks imply the laws of words

-- if no block is possible that was not, no more may be left
pub HoldsNoMore-of_blocks : (old new : Device) → new.whole ≡ old.whole
    → ((x : ℕ) (b : Block) → Contains (possible new x) b → Contains (possible old x) b) → HoldsNoMore old new
HoldsNoMore-of_blocks old new same each x b left = CrashAt-more old new x x b same (each x) left

-- if one block is, at one place, no more than if it were queued there
pub HoldsNoMore-but_block : (old new : Device) (at : ℕ) (block : Block) → new.whole ≡ old.whole
    → ((x : ℕ) (b : Block) → Contains (possible new x) b → Contains (possible old x) b ⊎ ((x ≡ at) × (b ≡ block)))
    → HoldsNoMore (with_queued at block old) new
HoldsNoMore-but_block old new at block same each x b left =
    CrashAt-more (with_queued at block old) new x x b same
    (λ c h. elim (each x c h) as (λ _. Contains (possible (with_queued at block old) x) c) [
      | inl before ↦ possible-before_queued old at block x c before
      | inr this ↦
          subst (λ (y : ℕ). Contains (possible (with_queued at block old) y) c) (sym this.0)
          (subst (Contains (possible (with_queued at block old) at)) (sym this.1) (possible-queued old at block))
    ])
    left

module _ (n : Device) (at : ℕ) (block : Block) where
  -- at every place other than the write's nothing more may be left
  pub CrashAt-elsewhere : (x : ℕ) (b : Block) → x ≢ at → CrashAt (with_queued at block n) x b → CrashAt n x b
  CrashAt-elsewhere x b other left =
      CrashAt-more n (with_queued at block n) x x b refl
      (λ c h. elim (possible-with_queued n at block x c h) as (λ _. Contains (possible n x) c) [
        | inl before ↦ before
        | inr this ↦ absurd (other this.0)
      ])
      left

  -- a write makes no more possible than if it were queued and nothing had landed
  pub no_more-written_to : HoldsNoMore (with_queued at block n) (written_to n at block)
  no_more-written_to x b left =
      let k : ℕ = surplus n in
      let queue : take k n.queue ++ (drop k n.queue ++ write_of at block ∷ []) ≡ n.queue ++ write_of at block ∷ []
      = sym (append_assoc (take k n.queue) (drop k n.queue) (write_of at block ∷ []))
      ∙ ap (λ (q : List Write). q ++ write_of at block ∷ []) (take-append-drop k n.queue) in
      CrashAt-more (with_queued at block n) (written_to n at block) x x b refl
      (λ c h. subst (λ (q : List Write). Contains (block_at n.image x ∷ queued_for q x) c) queue
      (Contains-landed n.image (take k n.queue) (drop k n.queue ++ write_of at block ∷ []) x c h))
      left

  -- at every other place a write makes nothing more possible
  pub no_more-written_to_other : (x : ℕ) (b : Block) → x ≢ at → CrashAt (written_to n at block) x b → CrashAt n x b
  no_more-written_to_other x b other left = CrashAt-elsewhere x b other (no_more-written_to x b left)

-- reads are as before if writes have landed
pub newest-landed : (k : ℕ) (n : Device) (x : ℕ) → x < length n.image → newest (landed k n) x ≡ newest n x
newest-landed k n x l =
    ap (λ b. newest_over b (drop k n.queue) x) (block_at-applied n.image (take k n.queue) x l)
    ∙ sym (newest_over-append (block_at n.image x) (take k n.queue) (drop k n.queue) x)
    ∙ ap (λ q. newest_over (block_at n.image x) q x) (take-append-drop k n.queue)

-- a drain keeps every read
pub newest-drained : (n : Device) (x : ℕ) → x < length n.image → newest (drained n) x ≡ newest n x
newest-drained n x l = newest-landed 1 n x l

-- a barrier keeps every read
pub newest-settled : (count : ℕ) (n : Device) (x : ℕ) → x < length n.image → newest (settled count n) x ≡ newest n x
newest-settled count n x l = block_at-applied n.image n.queue x l

-- a read after a write, at its place
pub newest-written_to : (n : Device) (at : ℕ) (block : Block) → newest (written_to n at block) at ≡ block
newest-written_to n at block =
    newest_over-append (block_at (applied n.image (take (surplus n) n.queue)) at) (drop (surplus n) n.queue) (write_of at block ∷ []) at
    ∙ ap (λ t. if t then block else newest (landed (surplus n) n) at) (eq-eqb at at refl)

-- a read after a write, at every other place
pub newest-written_to_other : (n : Device) (at : ℕ) (block : Block) (x : ℕ) → x ≢ at → x < length n.image
    → newest (written_to n at block) x ≡ newest n x
newest-written_to_other n at block x other l =
    newest_over-append (block_at (applied n.image (take (surplus n) n.queue)) x) (drop (surplus n) n.queue) (write_of at block ∷ []) x
    ∙ ap (λ t. if t then block else newest (landed (surplus n) n) x) (ne_eqb at x (λ e. other (sym e)))
    ∙ newest-landed (surplus n) n x l

-- calls keep the number of blocks
pub length-landed : (k : ℕ) (n : Device) → length (landed k n).image ≡ length n.image
length-landed k n = length-applied n.image (take k n.queue)

pub length-drained : (n : Device) → length (drained n).image ≡ length n.image
length-drained n = length-landed 1 n

pub length-settled : (count : ℕ) (n : Device) → length (settled count n).image ≡ length n.image
length-settled count n = length-applied n.image n.queue

pub length-written_to : (n : Device) (at : ℕ) (block : Block) → length (written_to n at block).image ≡ length n.image
length-written_to n at block = length-landed (surplus n) n

-- functions that agree below a size make the same list of blocks
pub map-agree : (f g : ℕ → Block) (size : ℕ) → ((b : ℕ) → b < size → f b ≡ g b)
    → map f (range_with_len 0 size) ≡ map g (range_with_len 0 size)
map-agree f g size same =
    ext_get_or zero_block (map f (range_with_len 0 size)) (map g (range_with_len 0 size))
    (length-map-range_with_len f 0 size ∙ sym (length-map-range_with_len g 0 size))
    (λ b l.
    let inside : b < size = omega (arith, l, length-map-range_with_len f 0 size) in
    get_or-map-range_with_len f 0 size b b zero_block inside (omega arith) ∙ same b inside
    ∙ sym (get_or-map-range_with_len g 0 size b b zero_block inside (omega arith)))

-- one list of writes applied and then another
pub applied-append : (image : List Block) (ws vs : List Write) → applied image (ws ++ vs) ≡ applied (applied image ws) vs
applied-append image [] vs = refl
applied-append image (w ∷ ws) vs = applied-append (slice_set image w.at w.block) ws vs

-- a write makes the queue longer by one at most
pub queue-written_to : (n : Device) (at : ℕ) (block : Block) → length (written_to n at block).queue ≤ length n.queue + 1
queue-written_to n at block = simp (length-append, length-drop) (omega arith)

-- with nothing queued a read gives the block that stands
pub newest-empty : (n : Device) (x : ℕ) → n.queue ≡ [] → newest n x ≡ block_at n.image x
newest-empty n x e = ap (λ (q : List Write). newest_over (block_at n.image x) q x) e

-- ---- whether a call has failed

rises : (old new : Bool) → old ≡ false → new ≡ true → RoseByOne (if old then 1 else 0) (if new then 1 else 0)
rises true new o n = absurd (cc)
rises false true o n = record { no_less = omega arith; more = omega arith; by_one = omega arith }
rises false false o n = absurd (cc)

-- over a device that was up, by whether it is down
pub counts_once : {T E : Type 0} (result : Result T E) (n new : Device) → n.down ≡ false → OnOk result (new.down ≡ false)
    → OnErr result (new.down ≡ true) → CountsOneFault result (failed_calls n) (failed_calls new)
counts_once (Ok x) n new was up down = ap (λ (d : Bool). if d then 1 else 0) (up ∙ sym was)
counts_once (Err e) n new was up down = rises n.down new.down was down
