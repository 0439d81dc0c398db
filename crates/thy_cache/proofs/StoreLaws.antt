-- What a fill and a store of a line leave.
use Rattle.std.proofs.Common.{◌≡◌, ◌≢◌, ℕ, ◌%◌, ◌<◌, true, false, cond, nat_lt, List, length, slice_index, slice_set, Option, Some, None, unwrap_or, refl, sym, ◌∙◌, ap, inl, inr, arith}
use Rattle.std.specs.List.{position_or_len}
use Rattle.std.specs.Option.{option_map, is_none}
use Rattle.std.proofs.lemmas.Bool.{cases_Bool, cases_eq}
use Rattle.std.proofs.lemmas.List.{length-set, get_or-set_same, get_or-set_other}
use Rattle.std.proofs.lemmas.List.Folds.{position_or_len-set}
use Rattle.thy_block.specs.declared.block.Block.{Block}
use Rattle.thy_block.specs.Device.{zero_block, block_at}
use Rattle.thy_block.specs.declared.store.Stored.{Stored}
use Rattle.thy_block.specs.declared.store.Stored.TheVariants.{Done, CopyFirst}
use Rattle.thy_block.specs.Store.{Holding, HasStored}
use Rattle.thy_block.proofs.BasicLemmas.{not_some}
use Rattle.thy_cache.specs.declared.line.Line.{Line}
use Rattle.thy_cache.specs.declared.line.Victim.TheVariants.{Room, Dirty}
use Rattle.thy_cache.specs.Ways.{Ways, line_at, line_in, is_dirty, over_line, clean, fresh_line, filled, victim_way, victim_line, used}
use Rattle.thy_cache.specs.Contents.{Contents, set_at, set_of, index_of, line_of, peeked, hits, filled_with, cleaned_at, victim_line_of, victim_of, stored_at}
use Rattle.thy_cache.specs.Flat.{flat_at, flat, SetAgrees, Agrees, PeeksSame}
use Rattle.thy_cache.proofs.LineLemmas.{KeepsBlock, line_at-inside, line_in-kept}
use Rattle.thy_cache.proofs.AgreeLemmas.{SetAgrees-same, SetAgrees-over_line, SetAgrees-stored, line_in-single, some_is}
use Rattle.thy_cache.proofs.FillLemmas.{Filling, SetAgrees-filled, line_in-filled, seen, seen-filled}
use Rattle.thy_cache.proofs.FlatLemmas.{flat-same, set_of-same, set_of-other, line_of-kept, Agrees-with_set}

-- what a fill of a block asks for
pub record CanFill (c : Contents) (blocks : List Block) (b : ℕ) (block : Block) : Type 0 where
  pub set : index_of c b < length c.sets
  pub way : victim_way (set_of c b) < length (set_of c b).lines
  pub agrees : Agrees c blocks
  pub room : is_dirty (victim_line_of c b) ≡ false
  pub missing : hits c b ≡ false
  pub inside : b < length blocks
  pub loaded : block ≡ block_at blocks b

-- what a fill of a block asks for is a filling of the block's set
pub filling : (c : Contents) (blocks : List Block) (b : ℕ) (block : Block) → CanFill c blocks b block
    → Filling (length c.sets) blocks (index_of c b) (victim_way (set_of c b)) b block (used (victim_way (set_of c b)) (set_of c b))
filling c blocks b block can = record {
  agrees = SetAgrees-same (length c.sets) blocks (index_of c b) (set_of c b) (used (victim_way (set_of c b)) (set_of c b)) refl
      (can.agrees.sets (index_of c b));
  way = can.way;
  room = can.room;
  missing = not_some (line_of c b) can.missing;
  inside = can.inside;
  own_set = refl;
  loaded = can.loaded;
}

module _ (c : Contents) (blocks : List Block) (b : ℕ) (block : Block) (can : CanFill c blocks b block) where
  -- the block has its line
  pub fill-line_of : line_of (filled_with b block c) b ≡ Some (fresh_line b block)
  fill-line_of =
      ap (λ set. line_in set b) (set_of-same c (index_of c b) (filled b block (set_of c b)) b can.set refl)
      ∙ line_in-filled (length c.sets) blocks (index_of c b) (victim_way (set_of c b)) b block (used (victim_way (set_of c b)) (set_of c b))
      (filling c blocks b block can)

  -- every block reads as before after a fill
  pub fill-flat_at : (x : ℕ) → flat_at (filled_with b block c) blocks x ≡ flat_at c blocks x
  fill-flat_at x = elim (cases_eq (index_of c x) (index_of c b)) as (λ _. flat_at (filled_with b block c) blocks x ≡ flat_at c blocks x) [
    | inl same ↦
        ap (λ set. seen blocks set x) (set_of-same c (index_of c b) (filled b block (set_of c b)) x can.set same)
        ∙ seen-filled (length c.sets) blocks (index_of c b) (victim_way (set_of c b)) b block (used (victim_way (set_of c b)) (set_of c b))
        (filling c blocks b block can) x
        ∙ ap (λ s. seen blocks (set_at c s) x) (sym same)
    | inr other ↦ ap (λ set. seen blocks set x) (set_of-other c (index_of c b) (filled b block (set_of c b)) x other)
  ]

  pub fill-flat : flat (filled_with b block c) blocks ≡ flat c blocks
  fill-flat = flat-same (filled_with b block c) c blocks blocks refl (λ x inside. fill-flat_at x)

  pub fill-agrees : Agrees (filled_with b block c) blocks
  fill-agrees =
      Agrees-with_set c (index_of c b) (filled b block (set_of c b)) blocks can.set
      (SetAgrees-filled (length c.sets) blocks (index_of c b) (victim_way (set_of c b)) b block
      (used (victim_way (set_of c b)) (set_of c b)) (filling c blocks b block can))
      (λ t other. can.agrees.sets t)

module _ (c d : Contents) (blocks held : List Block) (b : ℕ) (block : Block) (can : CanFill c blocks b block) where
  -- a fill leaves the flat list of the cache, over a store that holds the same
  pub filled-flat : d ≡ filled_with b block c → held ≡ blocks → flat d held ≡ flat c blocks
  filled-flat now same = rw (now, same) (fill-flat c blocks b block can)

  pub filled-agrees : d ≡ filled_with b block c → held ≡ blocks → Agrees d held
  filled-agrees now same = rw (now, same) (fill-agrees c blocks b block can)

-- what a store of a line asks for
pub record CanStore (c : Contents) (blocks : List Block) (s w : ℕ) (line : Line) : Type 0 where
  pub set : s < length c.sets
  pub stands : line_at (set_at c s) w ≡ Some line
  pub dirty : line.dirty ≡ true
  pub agrees : Agrees c blocks

-- a store leaves a line's block
pub clean-keeps : KeepsBlock clean
clean-keeps line = refl

-- a store leaves what a line holds
pub clean-same : (o : Option Line)
    → option_map (λ (line : Line). line.block) (option_map clean o) ≡ option_map (λ (line : Line). line.block) o
clean-same None = refl
clean-same (Some line) = refl

pub clean-peeks : (c : Contents) (s w : ℕ) (line : Line) → s < length c.sets → line_at (set_at c s) w ≡ Some line
    → PeeksSame c (cleaned_at s w c)
clean-peeks c s w line inside stands x =
    line_of-kept (option_map (λ (line : Line). line.block)) c s (over_line clean w (set_at c s)) x inside
    (line_in-kept (option_map (λ (line : Line). line.block)) clean clean-keeps clean-same (set_at c s) w x
    (line_at-inside (set_at c s) w line stands))

module _ (c : Contents) (blocks : List Block) (s w : ℕ) (line : Line) (can : CanStore c blocks s w line) where
  -- the line's block hits, and what it holds is the line's
  pub stands-line_of : line_of c line.at ≡ Some line
  stands-line_of =
      let own : s ≡ index_of c line.at = ((can.agrees.sets s).lines w line can.stands).own_set in
      ap (λ t. line_in (set_at c t) line.at) (sym own)
      ∙ line_in-single (length c.sets) blocks s (set_at c s) w line (can.agrees.sets s) can.stands

  -- a block reads as before: the stored one by its line, every other as its store's block stays
  pub store-flat_at : (x : ℕ) → flat_at (cleaned_at s w c) (slice_set blocks line.at line.block) x ≡ flat_at c blocks x
  store-flat_at x =
      ap (λ o. unwrap_or o (block_at (slice_set blocks line.at line.block) x)) (clean-peeks c s w line can.set can.stands x)
      ∙ (elim (cases_eq x line.at)
      as (λ _. unwrap_or (peeked c x) (block_at (slice_set blocks line.at line.block) x) ≡ unwrap_or (peeked c x) (block_at blocks x)) [
        | inl same ↦
            let there : peeked c x ≡ Some line.block = ap (peeked c) same ∙ ap (option_map (λ (l : Line). l.block)) stands-line_of in
            ap (λ o. unwrap_or o (block_at (slice_set blocks line.at line.block) x)) there ∙ ap (λ o. unwrap_or o (block_at blocks x)) (sym there)
        | inr other ↦ ap (unwrap_or (peeked c x)) (get_or-set_other blocks line.at x line.block zero_block other)
      ])

  pub store-flat : flat (cleaned_at s w c) (slice_set blocks line.at line.block) ≡ flat c blocks
  store-flat =
      flat-same (cleaned_at s w c) c (slice_set blocks line.at line.block) blocks (length-set blocks line.at line.block)
      (λ x inside. store-flat_at x)

  -- every line of the stored block is the stored line
  pub stored_here : (v : ℕ) (other : Line) → line_at (set_at c s) v ≡ Some other → other.at ≡ line.at → other.block ≡ line.block
  stored_here v other e same =
      let one : v ≡ w = (can.agrees.sets s).single v w other line e can.stands same in
      let is : Some other ≡ Some line = sym e ∙ ap (line_at (set_at c s)) one ∙ can.stands in
      ap (λ (l : Line). l.block) (some_is other line is)

  -- no other set has a line of the stored block that differs from it
  pub stored_there : (t : ℕ) → t ≢ s → (v : ℕ) (other : Line) → line_at (set_at c t) v ≡ Some other → other.at ≡ line.at
      → other.block ≡ line.block
  stored_there t elsewhere v other e same =
      let here : s ≡ line.at % length c.sets = ((can.agrees.sets s).lines w line can.stands).own_set in
      let there : t ≡ other.at % length c.sets = ((can.agrees.sets t).lines v other e).own_set in
      absurd (elsewhere (there ∙ ap (λ a. a % length c.sets) same ∙ sym here))

  -- the line that is clean now is what the store holds
  pub stored_clean_now : (l : Line) → line_at (set_at c s) w ≡ Some l → (clean l).dirty ≡ false
      → (clean l).block ≡ block_at (slice_set blocks line.at line.block) l.at
  stored_clean_now l e pure =
      let same : l ≡ line = some_is l line (sym e ∙ can.stands) in
      let inside : line.at < length blocks = ((can.agrees.sets s).lines w line can.stands).inside in
      ap (λ (m : Line). m.block) same ∙ sym (get_or-set_same blocks line.at line.block zero_block inside)
      ∙ ap (λ (m : Line). block_at (slice_set blocks line.at line.block) m.at) (sym same)

  pub store-agrees : Agrees (cleaned_at s w c) (slice_set blocks line.at line.block)
  store-agrees =
      let old : SetAgrees (length c.sets) (slice_set blocks line.at line.block) s (set_at c s)
      = SetAgrees-stored (length c.sets) blocks s (set_at c s) line.at line.block stored_here (can.agrees.sets s) in
      Agrees-with_set c s (over_line clean w (set_at c s)) (slice_set blocks line.at line.block) can.set
      (SetAgrees-over_line (length c.sets) (slice_set blocks line.at line.block) s clean w (set_at c s) clean-keeps stored_clean_now old)
      (λ t other. SetAgrees-stored (length c.sets) blocks t (set_at c t) line.at line.block (stored_there t other) (can.agrees.sets t))

-- if there is room, the line that goes is not dirty
pub room-clean : (o : Option Line) → victim_line o ≡ Room → is_dirty o ≡ false
room-clean None e = refl
room-clean (Some line) e = elim (cases_Bool line.dirty) as (λ _. line.dirty ≡ false) [
  | inl is_so ↦ let wrong : Dirty line.at ≡ Room = sym (ap (λ t. cond t (Dirty line.at) Room) is_so) ∙ e in cc
  | inr not_so ↦ not_so
]

-- what a store of a line leaves, by the store's answer
pub after-flat : (stored : Stored) (c : Contents) (s w : ℕ) (line : Line) (old new : Holding) → CanStore c old.blocks s w line
    → HasStored stored line.at line.block old new
    → flat (stored_at stored s w c) new.blocks ≡ flat c old.blocks
after-flat Done c s w line old new can has = ap (flat (cleaned_at s w c)) has.blocks ∙ store-flat c old.blocks s w line can
after-flat CopyFirst c s w line old new can has = ap (flat c) has.blocks

pub after-agrees : (stored : Stored) (c : Contents) (s w : ℕ) (line : Line) (old new : Holding) → CanStore c old.blocks s w line
    → HasStored stored line.at line.block old new
    → Agrees (stored_at stored s w c) new.blocks
after-agrees Done c s w line old new can has = rw has.blocks (store-agrees c old.blocks s w line can)
after-agrees CopyFirst c s w line old new can has = rw has.blocks can.agrees

-- a clean line makes room
pub clean-room : (o : Option Line) → victim_line (option_map clean o) ≡ Room
clean-room None = refl
clean-room (Some line) = refl

-- cleaning a line does not change where lines are
pub is_none-clean : (o : Option Line) → is_none (option_map clean o) ≡ is_none o
is_none-clean None = refl
is_none-clean (Some line) = refl

-- a store does not change which way is the victim
pub victim_way-clean : (w : ℕ) (set : Ways) → victim_way (over_line clean w set) ≡ victim_way set
victim_way-clean w set =
    let same : position_or_len is_none (slice_set set.lines w (option_map clean (line_at set w))) ≡ position_or_len is_none set.lines
    = position_or_len-set is_none set.lines w (option_map clean (line_at set w)) None (is_none-clean (line_at set w)) in
    let long : length (slice_set set.lines w (option_map clean (line_at set w))) ≡ length set.lines =
    length-set set.lines w (option_map clean (line_at set w)) in
    ap (λ k. unwrap_or (cond (nat_lt k (length (slice_set set.lines w (option_map clean (line_at set w))))) (Some k) None)
    (slice_index set.order 0)) same
    ∙ ap (λ n. unwrap_or (cond (nat_lt (position_or_len is_none set.lines) n) (Some (position_or_len is_none set.lines)) None)
    (slice_index set.order 0)) long

-- after a store of the victim there is room
pub evict-room : (c : Contents) (b : ℕ) (line : Line) → index_of c b < length c.sets → victim_line_of c b ≡ Some line
    → victim_of (cleaned_at (index_of c b) (victim_way (set_of c b)) c) b ≡ Room
evict-room c b line inside stands =
    let within : victim_way (set_of c b) < length (set_of c b).lines = line_at-inside (set_of c b) (victim_way (set_of c b)) line stands in
    ap (λ s. victim_line (line_at s (victim_way s)))
    (set_of-same c (index_of c b) (over_line clean (victim_way (set_of c b)) (set_of c b)) b inside refl)
    ∙ ap (λ w. victim_line (line_at (over_line clean (victim_way (set_of c b)) (set_of c b)) w))
    (victim_way-clean (victim_way (set_of c b)) (set_of c b))
    ∙ ap victim_line (get_or-set_same (set_of c b).lines (victim_way (set_of c b)) (option_map clean (victim_line_of c b)) None within)
    ∙ clean-room (victim_line_of c b)

pub evict-room_at : (old new : Contents) (b s w : ℕ) (line : Line) → s ≡ index_of old b → s < length old.sets
    → w ≡ victim_way (set_of old b) → new ≡ cleaned_at s w old
    → line_at (set_at old s) w ≡ Some line → victim_of new b ≡ Room
evict-room_at old new b s w line set inside way cleaned stands =
    let here : index_of old b < length old.sets = omega (arith, set, inside) in
    let is_now : new ≡ cleaned_at (index_of old b) (victim_way (set_of old b)) old
    = cleaned ∙ ap (λ t. cleaned_at t w old) set ∙ ap (λ v. cleaned_at (index_of old b) v old) way in
    let stood : victim_line_of old b ≡ Some line
    = ap (line_at (set_of old b)) (sym way) ∙ ap (λ t. line_at (set_at old t) w) (sym set) ∙ stands in
    ap (λ (d : Contents). victim_of d b) is_now ∙ evict-room old b line here stood
