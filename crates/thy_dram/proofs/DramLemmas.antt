-- A DRAM's parts after a call.
use Rattle.std.proofs.Common.{◌≡◌, ℕ, ◌+◌, ◌-◌, ◌*◌, ◌<◌, ◌≤◌, min, nat_lt, Bool, true, false, if◌then◌else◌, List, [], ◌∷◌, ◌++◌, length, take, drop, replicate, slice_set, sym, ◌∙◌, ap, arith}
use Rattle.std.proofs.lemmas.List.{take-append-drop, length-drop, length-replicate}
use Rattle.std.proofs.lemmas.Grind.{common_steps}
use Rattle.thy_block.specs.declared.block.Block.{Block}
use Rattle.thy_block.specs.declared.nvm.Write.{Write}
use Rattle.thy_block.specs.Device.{zero_block, block_at, applied, newest, surplus, written_to, write_of, drained as drained_device}
use Rattle.thy_block.proofs.DeviceLemmas.{length-applied, applied-append, block_at-applied}
use Rattle.thy_dram.specs.Held.{Held, made, device_of, as_device, unqueued}
use Rattle.thy_dram.specs.Merged.{merged, is_marked}
use Rattle.thy_dram.proofs.MergedLemmas.{length-merged, block_at-merged, merged-all, merged-none, merged-write}
use Rattle.thy_dram.specs.Contents.{Contents, fresh, written, drained, lost}
use Rattle.thy_dram.specs.Draws.{blocks_over, drawn_block}
use Rattle.thy_dram.specs.Jumps.{after_draws}
use Rattle.thy_dram.specs.Parts.{contents_in}
use Rattle.thy_dram.proofs.DrawLemmas.{blocks_over-length, length-over, block_at-over}

-- ---- a new one

pub contents_in-fresh : (blocks room : ℕ) → contents_in (made blocks room []) (replicate blocks true) 0 ≡ fresh blocks room
contents_in-fresh blocks room =
    let whole : blocks - 0 ≡ blocks = omega arith in
    let below : List Block → List Block = blocks_over 0 in
    let reads : merged (replicate blocks true) (replicate (blocks - 0) zero_block) (below (replicate (blocks - 0) zero_block))
    ≡ replicate blocks zero_block
    = merged-all blocks (replicate (blocks - 0) zero_block) (below (replicate (blocks - 0) zero_block))
    (length-replicate (blocks - 0) zero_block ∙ whole)
    ∙ ap (λ n. replicate n zero_block) whole in
    ap (λ bs. record (fresh blocks room) { blocks = bs }) reads

-- ---- places

-- a place of the contents is one of the marks, and one of the ring
pub within : (held : Held) (marks : List Bool) (pick at : ℕ) (d : Contents) → contents_in held marks pick ≡ d
    → length marks ≡ length held.image
    → at < length d.blocks → (at < length marks) × (at < length held.image)
within held marks pick at d is same l =
    let counted : length d.blocks ≡ length marks
    = sym (ap (λ c. length c.blocks) is) ∙ length-merged marks (applied held.image held.queue) (blocks_over pick held.image) in
    (omega (arith, l, counted), omega (arith, l, counted, same))

-- ---- reads

-- a block that was written is read in the ring
pub read-marked : (held : Held) (marks : List Bool) (pick at : ℕ) → length marks ≡ length held.image → at < length held.image
    → is_marked marks at ≡ true → newest (device_of held) at ≡ block_at (contents_in held marks pick).blocks at
read-marked held marks pick at same l marked =
    let mine : List Block = applied held.image held.queue in
    let drawn : List Block = blocks_over pick held.image in
    sym (block_at-applied held.image held.queue at l)
    ∙ sym (block_at-merged marks mine drawn at (omega arith) ∙ ap (λ t. if t then block_at mine at else block_at drawn at) marked)

-- a block without a mark is drawn
pub read-unmarked : (held : Held) (marks : List Bool) (pick at : ℕ) → length marks ≡ length held.image → at < length held.image
    → is_marked marks at ≡ false → drawn_block (after_draws (at * 64) pick) ≡ block_at (contents_in held marks pick).blocks at
read-unmarked held marks pick at same l unmarked =
    let mine : List Block = applied held.image held.queue in
    let drawn : List Block = blocks_over pick held.image in
    sym (block_at-over pick held.image at l)
    ∙ sym (block_at-merged marks mine drawn at (omega arith) ∙ ap (λ t. if t then block_at mine at else block_at drawn at) unmarked)

-- ---- writes

-- a write to a full queue: once the oldest k have landed and one more is queued, that place alone reads otherwise
pub applied-push : (image : List Block) (queue : List Write) (k at : ℕ) (block : Block)
    → applied (applied image (take k queue)) (drop k queue ++ write_of at block ∷ []) ≡ slice_set (applied image queue) at block
applied-push image queue k at block =
    applied-append (applied image (take k queue)) (drop k queue) (write_of at block ∷ [])
    ∙ ap (λ g. slice_set g at block) (sym (applied-append image (take k queue) (drop k queue)) ∙ ap (applied image) (take-append-drop k queue))

-- one write more is queued, but no more than there is room for
pub length-pushed : (queue : List Write) (room : ℕ) (w : Write) → 0 < room
    → length (drop (if nat_lt (length queue) room then 0 else 1) queue ++ w ∷ []) ≤ room
    → length (drop (if nat_lt (length queue) room then 0 else 1) queue ++ w ∷ []) ≡ min (length queue + 1) room
length-pushed queue room w some fits = grind (arith, common_steps)

-- the parts after a write hold the contents after the write
pub contents_in-written : (held after : Held) (marks : List Bool) (pick at : ℕ) (block : Block)
    → after ≡ as_device (λ n. written_to n at block) held → 0 < held.room → length after.queue ≤ after.room
    → length marks ≡ length held.image → at < length held.image
    → contents_in after (slice_set marks at true) pick ≡ written (contents_in held marks pick) at block
contents_in-written held after marks pick at block e room fits same inside =
    let k : ℕ = surplus (device_of held) in
    let mine : applied after.image after.queue ≡ slice_set (applied held.image held.queue) at block
    = ap (λ r. applied r.image r.queue) e ∙ applied-push held.image held.queue k at block in
    let as_long : length after.image ≡ length held.image = ap (λ r. length r.image) e ∙ length-applied held.image (take k held.queue) in
    let drawn : blocks_over pick after.image ≡ blocks_over pick held.image = blocks_over-length pick after.image held.image as_long in
    let reads : merged (slice_set marks at true) (applied after.image after.queue) (blocks_over pick after.image)
    ≡ slice_set (merged marks (applied held.image held.queue) (blocks_over pick held.image)) at block
    = ap (λ bs. merged (slice_set marks at true) bs (blocks_over pick after.image)) mine
    ∙ ap (merged (slice_set marks at true) (slice_set (applied held.image held.queue) at block)) drawn
    ∙ merged-write marks (applied held.image held.queue) (blocks_over pick held.image) at block
    (length-applied held.image held.queue ∙ sym same) (omega arith) in
    let same_room : after.room ≡ held.room = ap (λ r. r.room) e in
    let grown : after.queue ≡ drop k held.queue ++ write_of at block ∷ [] = ap (λ r. r.queue) e in
    let counted : length after.queue ≡ min (length held.queue + 1) held.room
    = ap length grown ∙ length-pushed held.queue held.room (write_of at block) room (omega (arith, fits, same_room, ap length grown)) in
    cc

-- ---- drains

pub contents_in-drained : (held after : Held) (marks : List Bool) (pick : ℕ) → after ≡ as_device drained_device held
    → contents_in after marks pick ≡ drained (contents_in held marks pick)
contents_in-drained held after marks pick e =
    let mine : applied (applied held.image (take 1 held.queue)) (drop 1 held.queue) ≡ applied held.image held.queue
    = sym (applied-append held.image (take 1 held.queue) (drop 1 held.queue)) ∙ ap (applied held.image) (take-append-drop 1 held.queue) in
    let drawn : blocks_over pick (applied held.image (take 1 held.queue)) ≡ blocks_over pick held.image
    = blocks_over-length pick (applied held.image (take 1 held.queue)) held.image (length-applied held.image (take 1 held.queue)) in
    let counted : length (drop 1 held.queue) ≡ length held.queue - 1 = length-drop 1 held.queue in
    ap (λ r. contents_in r marks pick) e
    ∙ ap (λ bs. record {
      blocks = merged marks bs (blocks_over pick (applied held.image (take 1 held.queue)));
      queued = length (drop 1 held.queue);
      room = held.room;
    }) mine
    ∙ ap (λ bs. record { blocks = merged marks (applied held.image held.queue) bs; queued = length (drop 1 held.queue); room = held.room }) drawn
    ∙ ap (λ n. record (contents_in held marks pick) { queued = n }) counted

-- ---- a loss of power

pub contents_in-lost : (held after : Held) (marks cleared : List Bool) (before pick : ℕ)
    → after ≡ unqueued held → length marks ≡ length held.image → cleared ≡ replicate (length marks) false
    → contents_in after cleared pick ≡ lost (contents_in held marks before) pick
contents_in-lost held after marks cleared before pick e same clear =
    let reads : merged (replicate (length marks) false) held.image (blocks_over pick held.image)
    ≡ blocks_over pick (contents_in held marks before).blocks
    = merged-none (length marks) held.image (blocks_over pick held.image) (length-over pick held.image ∙ sym same)
    ∙ blocks_over-length pick held.image (contents_in held marks before).blocks
    (sym same ∙ sym (length-merged marks (applied held.image held.queue) (blocks_over before held.image))) in
    ap (λ r. contents_in r cleared pick) e
    ∙ ap (λ ms. contents_in (unqueued held) ms pick) clear
    ∙ ap (λ bs. record (lost (contents_in held marks before) pick) { blocks = bs }) reads
