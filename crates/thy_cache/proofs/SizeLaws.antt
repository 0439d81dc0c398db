-- Sets and ways are as many as before.
use Rattle.std.proofs.Common.{◌≡◌, ℕ, ◌*◌, ◌<◌, ◌≤◌, List, length, All, Option, Some, None, ◌∙◌, ap, arith}
use Rattle.std.specs.Option.{option_map}
use Rattle.std.proofs.lemmas.List.{length-set, length-replicate, get_or-replicate}
use Rattle.std.proofs.lemmas.List.Sums.{sum_by-le}
use Rattle.std.proofs.lemmas.List.Elements.{All-set, All-from_get_or}
use Rattle.thy_block.specs.declared.block.Block.{Block}
use Rattle.thy_block.specs.declared.store.Stored.{Stored}
use Rattle.thy_block.specs.declared.store.Stored.TheVariants.{Done, CopyFirst}
use Rattle.thy_cache.specs.declared.line.Line.{Line}
use Rattle.thy_cache.specs.Ways.{Ways, line_at, way_of, used_for, written_to, filled, over_line, clean, fresh_line, victim_way, empty_ways}
use Rattle.thy_cache.specs.Contents.{Contents, IsSized, KeepsSize, empty_cache, no_ways, set_at, set_of, index_of, with_set, read_from, written_at, filled_with, stored_at, dirty_count}
use Rattle.thy_cache.proofs.CountLemmas.{width, way_count, dirty_count-le}
use Rattle.thy_cache.proofs.WriteLaws.{used_for-lines, written-width}

-- no more lines are dirty than sets and ways make
few_dirty : (sets ways : ℕ) (c : Contents) → length c.sets ≡ sets → All (λ set. length set.lines ≡ ways) c.sets → dirty_count c ≤ sets * ways
few_dirty sets ways c many each =
    let narrow : All (λ set. width set ≤ ways) c.sets =
    All-from_get_or (λ set. width set ≤ ways) c.sets no_ways (λ i inside. omega (arith, each i no_ways inside)) in
    let all : way_count c ≤ length c.sets * ways = sum_by-le width ways c.sets narrow in
    omega (arith, dirty_count-le c, all, ap (λ n. n * ways) many)

-- a cache with this number of sets, and this number of ways in each, has that size
sized : (sets ways : ℕ) (c : Contents) → length c.sets ≡ sets → All (λ set. length set.lines ≡ ways) c.sets → IsSized sets ways c
sized sets ways c many each = record { set_count = many; each = each; few_dirty = few_dirty sets ways c many each }

-- replacing a set by one with the same number of ways keeps a cache's size
pub KeepsSize-with_set : (c : Contents) (s : ℕ) (set : Ways) → s < length c.sets → width set ≡ width (set_at c s)
    → KeepsSize c (with_set s set c)
KeepsSize-with_set c s set inside same sets ways size =
    let Wide : Ways → Type 0 = λ t. length t.lines ≡ ways in
    let as_wide : Wide set = same ∙ size.each s no_ways inside in
    sized sets ways (with_set s set c) (length-set c.sets s set ∙ size.set_count) (All-set Wide c.sets s set as_wide size.each)

pub KeepsSize-read : (c : Contents) (b : ℕ) → index_of c b < length c.sets → KeepsSize c (read_from b c)
KeepsSize-read c b inside = KeepsSize-with_set c (index_of c b) (used_for b (set_of c b)) inside (ap length (used_for-lines b (set_of c b)))

pub KeepsSize-write : (c : Contents) (b at : ℕ) (bytes : List ℕ) → index_of c b < length c.sets → KeepsSize c (written_at b at bytes c)
KeepsSize-write c b at bytes inside =
    KeepsSize-with_set c (index_of c b) (written_to b at bytes (set_of c b)) inside (written-width at bytes (set_of c b) (way_of (set_of c b) b))

pub KeepsSize-fill : (c : Contents) (b : ℕ) (block : Block) → index_of c b < length c.sets → KeepsSize c (filled_with b block c)
KeepsSize-fill c b block inside =
    KeepsSize-with_set c (index_of c b) (filled b block (set_of c b)) inside
    (length-set (set_of c b).lines (victim_way (set_of c b)) (Some (fresh_line b block)))

pub KeepsSize-stored : (stored : Stored) (c : Contents) (s w : ℕ) → s < length c.sets → KeepsSize c (stored_at stored s w c)
KeepsSize-stored Done c s w inside = KeepsSize-with_set c s (over_line clean w (set_at c s)) inside
    (length-set (set_at c s).lines w (option_map clean (line_at (set_at c s) w)))
KeepsSize-stored CopyFirst c s w inside = λ sets ways size. size

-- a new cache has the size it was made with
pub IsSized-empty : (sets ways : ℕ) → IsSized sets ways (empty_cache sets ways)
IsSized-empty sets ways =
    let Wide : Ways → Type 0 = λ t. length t.lines ≡ ways in
    sized sets ways (empty_cache sets ways) (length-replicate sets (empty_ways ways))
    (All-from_get_or Wide (empty_cache sets ways).sets no_ways
    (λ i inside. ap (λ (t : Ways). length t.lines) (get_or-replicate sets i (empty_ways ways) no_ways (omega (arith, inside, length-replicate sets (empty_ways ways)))) ∙ length-replicate {A = Option Line} ways None))
