-- A device whose queue is the same after one action.
use Rattle.std.proofs.Common.{◌≡◌, ℕ, zero, suc, ◌<◌, ◌≤◌, nat_lt, if◌then◌else◌, true, false, List, [], ◌∷◌, ◌++◌, length, get_or, take, drop, slice_set, refl, sym, ◌∙◌, ap, subst, inl, inr, arith}
use Rattle.std.proofs.lemmas.Bool.{cases_lt}
use Rattle.std.proofs.lemmas.List.{set_past, set-get_or, get_or-set_same}
use Rattle.thy_block.specs.declared.block.Block.{Block}
use Rattle.thy_block.specs.declared.nvm.Write.{Write}
use Rattle.thy_block.specs.Device.{Device, zero_block, block_at, applied, surplus, written_to, write_of, settled, drained}
use Rattle.thy_sweep.specs.Repeats.{HasSameFirst, IsAsBefore, SameQueueIsSameDevice, IsSeen, StaysSince, recounted}

-- a block that is written over a place and is the one that was there
same_set : (image : List Block) (at : ℕ) (block : Block) → block_at (slice_set image at block) at ≡ block_at image at → slice_set image at block ≡ image
same_set image at block e = elim (cases_lt at (length image)) as (λ _. slice_set image at block ≡ image) [
  | inl inside ↦
      let here : block ≡ block_at image at = sym (get_or-set_same image at block zero_block inside) ∙ e in
      ap (slice_set image at) here ∙ set-get_or image at zero_block
  | inr past ↦ set_past image at block past
]

-- the device with this image and this queue
abbrev holding : Device → List Block → List Write → Device
holding n image queue = record n { image = image; queue = queue }

-- what a queue is after one more write, of which k writes have landed
pushed : (q : List Write) (k : ℕ) (w : Write) (image : List Block) → drop k q ++ w ∷ [] ≡ q
    → ((v : Write) (vs : List Write) → q ≡ v ∷ vs → block_at (applied image (take k q)) v.at ≡ block_at image v.at) → k ≤ 1
    → applied image (take k q) ≡ image
pushed q zero w image same first few = refl
pushed [] (suc k) w image same first few = refl
pushed (v ∷ vs) (suc zero) w image same first few = same_set image v.at v.block (first v vs refl)
pushed (v ∷ vs) (suc (suc k)) w image same first few = absurd (omega arith)

few_land : (n : Device) → surplus n ≤ 1
few_land n = elim (nat_lt (length n.queue) n.queue_room) as (λ t. (if t then 0 else 1) ≤ 1) [ true ↦ omega arith | false ↦ omega arith ]

written-same : (n : Device) (at : ℕ) (block : Block) → (written_to n at block).queue ≡ n.queue → HasSameFirst n (written_to n at block)
    → IsAsBefore n (written_to n at block)
written-same n at block same first =
    let counts : Device = recounted n (written_to n at block) in
    let image : applied n.image (take (surplus n) n.queue) ≡ n.image
    = pushed n.queue (surplus n) (write_of at block) n.image same first (few_land n) in
    ap (λ i. holding counts i (drop (surplus n) n.queue ++ write_of at block ∷ [])) image ∙ ap (holding counts n.image) same

settled-same : (n : Device) (count : ℕ) → (settled count n).queue ≡ n.queue → IsAsBefore n (settled count n)
settled-same n count same =
    let counts : Device = recounted n (settled count n) in
    ap (λ q. holding counts (applied n.image q) []) (sym same) ∙ ap (holding counts n.image) same

drained_image : (q : List Write) (image : List Block)
    → ((v : Write) (vs : List Write) → q ≡ v ∷ vs → block_at (applied image (take 1 q)) v.at ≡ block_at image v.at)
    → applied image (take 1 q) ≡ image
drained_image [] image first = refl
drained_image (v ∷ vs) image first = same_set image v.at v.block (first v vs refl)

drained-same : (n : Device) → (drained n).queue ≡ n.queue → HasSameFirst n (drained n) → IsAsBefore n (drained n)
drained-same n same first =
    let image : applied n.image (take 1 n.queue) ≡ n.image = drained_image n.queue n.image first in
    ap (λ i. holding n i (drop 1 n.queue)) image ∙ ap (holding n n.image) same

-- a device that is another one, which is as it was
as_before : (n m new : Device) → new ≡ m → IsAsBefore n m → IsAsBefore n new
as_before n m new e same = e ∙ same ∙ ap (recounted n) (sym e)

pub same_queue : SameQueueIsSameDevice
same_queue n new acted same first = elim acted as (λ _. IsAsBefore n new) [
  | inl rests ↦ as_before n n new rests refl
  | inr acts ↦ elim acts as (λ _. IsAsBefore n new) [
    | inl w ↦
        as_before n (written_to n w.at w.block) new w.left
        (written-same n w.at w.block (ap (λ (m : Device). m.queue) (sym w.left) ∙ same) (subst (HasSameFirst n) w.left first))
    | inr lands ↦ elim lands as (λ _. IsAsBefore n new) [
      | inl all ↦
          as_before n (settled new.writes n) new all
          (settled-same n new.writes (ap (λ (m : Device). m.queue) (sym all) ∙ same))
      | inr one ↦
          as_before n (drained n) new one
          (drained-same n (ap (λ (m : Device). m.queue) (sym one) ∙ same) (subst (HasSameFirst n) one first))
    ]
  ]
]

-- a device that shows what was seen stays since
pub stays_since : (queue : List Write) (first : Block) (new : Device) → new.queue ≡ queue → IsSeen new.queue first new → StaysSince queue first new
stays_since queue first new same seen n was acted =
    same_queue n new acted (same ∙ sym was.queued) (λ w ws e.
    let here : queue ≡ w ∷ ws = sym was.queued ∙ e in
    sym (seen.landed w ws (same ∙ here)) ∙ was.landed w ws here)

-- a queue that has writes begins with the oldest
pub begins_with : (q : List Write) (d : Write) → 0 < length q → (ws : List Write) × (q ≡ get_or q 0 d ∷ ws)
begins_with [] d some = absurd (omega (arith, some))
begins_with (w ∷ ws) d some = (ws, refl)

-- the block that was seen is the one at the place of the oldest write
pub seen_first : (n : Device) (first : Block) (d : Write) → IsSeen n.queue first n → 0 < length n.queue
    → first ≡ block_at n.image (get_or n.queue 0 d).at
seen_first n first d seen some = let b = begins_with n.queue d some in seen.landed (get_or n.queue 0 d) b.0 b.1

-- what was seen of a device that is as it was
pub seen_still : (queue : List Write) (first : Block) (n : Device) → IsSeen queue first n → IsSeen n.queue first n
seen_still queue first n seen = record { queued = refl; landed = λ w ws q. seen.landed w ws (sym seen.queued ∙ q) }
