-- The parts of a set after each change.
use Rattle.std.proofs.Common.{◌≡◌, ℕ, suc, ◌+◌, ◌-◌, ◌<◌, ◌==◌, false, List, [], ◌∷◌, ◌++◌, length, get_or, slice_set, Option, Some, None, All, is_some, sym, ◌∙◌, ap, subst, arith}
use Rattle.std.specs.List.{remove, position, range_with_len}
use Rattle.std.specs.Option.{option_map}
use Rattle.std.proofs.Math.Seq.{get_or-append_seam}
use Rattle.std.proofs.lemmas.List.{map-id, length-replicate, length_push, length-set, get_or_default}
use Rattle.std.proofs.lemmas.List.Edits.{length-remove}
use Rattle.std.proofs.lemmas.List.FromFn.{map-range_with_len_more, length-range_with_len, get_or-range_with_len}
use Rattle.std.proofs.lemmas.List.Elements.{All-append, All-take, All-drop, All-push, All-from_get_or}
use Rattle.thy_block.proofs.BasicLemmas.{not_some}
use Rattle.thy_cache.specs.declared.line.Line.{Line}
use Rattle.thy_cache.specs.Ways.{Ways, AreSoundWays, HaveOneLineEach, empty_ways, line_at, line_in}
use Rattle.thy_cache.proofs.LineLemmas.{KeepsBlock}
use Rattle.thy_cache.proofs.AgreeLemmas.{none_is_none}
use Rattle.thy_cache.proofs.SingleLemmas.{HaveOneLineEach-changed, HaveOneLineEach-put}
use Rattle.thy_cache.proofs.FlushLaws.{none-at}
use Rattle.thy_cache.proofs.OrderLemmas.{found_way, StandOnce-moved, StandOnce-range}

-- a range with one number more
pub range_with_len_more : (n : ℕ) → range_with_len 0 (n + 1) ≡ range_with_len 0 n ++ n ∷ []
range_with_len_more n =
    sym (map-id (range_with_len 0 (n + 1))) ∙ map-range_with_len_more (λ k. k) 0 n n (omega arith)
    ∙ ap (λ xs. xs ++ n ∷ []) (map-id (range_with_len 0 n))

-- the numbers from 0 on are below their count
pub range_below : (n : ℕ) → All (λ w. w < n) (range_with_len 0 n)
range_below n =
    let Below : ℕ → Type 0 = λ w. w < n in
    All-from_get_or Below (range_with_len 0 n) 0
    (λ i h. let inside : i < n = omega (arith, h, length-range_with_len 0 n) in omega (arith, inside, get_or-range_with_len 0 n i 0 inside))

-- the last of these numbers is the greatest
range_last : (n : ℕ) → 0 < n → get_or (range_with_len 0 n) (length (range_with_len 0 n) - 1) 0 ≡ n - 1
range_last n some =
    let inside : n - 1 < n = omega (arith, some) in
    let last : get_or (range_with_len 0 n) (n - 1) 0 ≡ n - 1 = omega (arith, get_or-range_with_len 0 n (n - 1) 0 inside) in
    ap (λ (k : ℕ). get_or (range_with_len 0 n) (k - 1) 0) (length-range_with_len 0 n) ∙ last

-- ways without lines have no two of one block
no_lines_single : (n : ℕ) → HaveOneLineEach (empty_ways n).lines
no_lines_single n w v line other e f same = absurd (none_is_none line (sym (none-at n w) ∙ e))

-- the parts of a new set are sound
pub AreSoundWays-empty : (n : ℕ) (lines : List (Option Line)) (order : List ℕ) → 0 < n → lines ≡ (empty_ways n).lines
    → order ≡ range_with_len 0 n
    → AreSoundWays lines order (n - 1)
AreSoundWays-empty n lines order some e f =
    let many : length lines ≡ n = ap length e ∙ length-replicate n None in
    record {
      some_way = omega (arith, many, some);
      all_ordered = ap length f ∙ length-range_with_len 0 n ∙ sym many;
      ordered = rw (many, f) (range_below n);
      once = rw f (StandOnce-range n);
      used_last = ap (λ (xs : List ℕ). get_or xs (length xs - 1) 0) f ∙ range_last n some;
      single = subst HaveOneLineEach (sym e) (no_lines_single n);
    }

-- what was put at the end is the last
pushed_last : (xs : List ℕ) (x : ℕ) → get_or (xs ++ x ∷ []) (length (xs ++ x ∷ []) - 1) 0 ≡ x
pushed_last xs x =
    let last : length (xs ++ x ∷ []) - 1 ≡ length xs = omega (arith, length_push xs x) in
    ap (λ (k : ℕ). get_or (xs ++ x ∷ []) k 0) last ∙ get_or-append_seam xs x [] 0

-- the ways of a set stay sound after a use
pub AreSoundWays-used : (lines : List (Option Line)) (order moved : List ℕ) (latest at way : ℕ) → AreSoundWays lines order latest
    → position (λ v. v == way) order ≡ Some at → way < length lines → moved ≡ remove order at ++ way ∷ [] → AreSoundWays lines moved way
AreSoundWays-used lines order moved latest at way sound found here e =
    let there = found_way order way at found in
    let Below : ℕ → Type 0 = λ w. w < length lines in
    let left : All Below (remove order at) =
    All-append Below _ _ (All-take Below at order sound.ordered) (All-drop Below (suc at) order sound.ordered) in
    record {
      some_way = sound.some_way;
      all_ordered = ap length e ∙ length_push (remove order at) way ∙ length-remove order at there.0 ∙ sound.all_ordered;
      ordered = rw e (All-push Below (remove order at) way left here);
      once = rw e (StandOnce-moved order at way sound.once there.0 there.1);
      used_last = ap (λ (xs : List ℕ). get_or xs (length xs - 1) 0) e ∙ pushed_last (remove order at) way;
      single = sound.single;
    }

-- after one way was written, if no block has two lines then
rewritten_sound : (lines : List (Option Line)) (order : List ℕ) (latest way : ℕ) (o : Option Line) → AreSoundWays lines order latest
    → HaveOneLineEach (slice_set lines way o) → AreSoundWays (slice_set lines way o) order latest
rewritten_sound lines order latest way o sound single =
    let many : length (slice_set lines way o) ≡ length lines = length-set lines way o in
    record {
      some_way = omega (arith, many, sound.some_way);
      all_ordered = sound.all_ordered ∙ sym many;
      ordered = rw many sound.ordered;
      once = sound.once;
      used_last = sound.used_last;
      single = single;
    }

-- after the line in a way was changed, which was found there
pub AreSoundWays-changed : (f : Line → Line) → KeepsBlock f
    → (lines : List (Option Line)) (order : List ℕ) (latest way : ℕ) (old new : Option Line)
    → AreSoundWays lines order latest → way < length lines → old ≡ get_or lines way old → new ≡ option_map f old
    → AreSoundWays (slice_set lines way new) order latest
AreSoundWays-changed f keeps lines order latest way old new sound inside stood becomes =
    let ways : Ways = record { lines = lines; order = order } in
    let is : new ≡ option_map f (line_at ways way) = becomes ∙ ap (option_map f) (stood ∙ get_or_default lines way old None inside) in
    subst (λ (o : Option Line). AreSoundWays (slice_set lines way o) order latest) (sym is)
    (rewritten_sound lines order latest way (option_map f (line_at ways way)) sound (HaveOneLineEach-changed f keeps ways way sound.single))

-- after a line of a block that had none was put into a way
pub AreSoundWays-put : (lines : List (Option Line)) (order : List ℕ) (latest way : ℕ) (line : Line) → AreSoundWays lines order latest
    → is_some (line_in (record { lines = lines; order = order }) line.at) ≡ false
    → AreSoundWays (slice_set lines way (Some line)) order latest
AreSoundWays-put lines order latest way line sound missing =
    let ways : Ways = record { lines = lines; order = order } in
    rewritten_sound lines order latest way (Some line) sound
    (HaveOneLineEach-put ways way line sound.single (not_some (line_in ways line.at) missing))

-- the way that was used last is one of them
pub latest_inside : (lines : List (Option Line)) (order : List ℕ) (latest : ℕ) → AreSoundWays lines order latest → latest < length lines
latest_inside lines order latest sound =
    omega (arith, sound.used_last, sound.ordered (length order - 1) 0 (omega (arith, sound.some_way, sound.all_ordered)))
