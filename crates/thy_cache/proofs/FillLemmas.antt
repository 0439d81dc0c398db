-- A set into which a block was filled reads as before, and agrees with its store.
use Rattle.std.proofs.Common.{◌≡◌, ◌≢◌, ◌⊎◌, ℕ, ◌<◌, ◌%◌, true, false, List, length, Some, None, unwrap_or, cond, sym, ◌∙◌, ap, inl, inr, arith}
use Rattle.std.specs.Option.{option_map}
use Rattle.std.proofs.lemmas.Bool.{cases_Bool, cases_eq, lt-ltb, ne_eqb}
use Rattle.std.proofs.lemmas.List.{get_or-set_same, get_or-set_other}
use Rattle.std.proofs.lemmas.List.Folds.{position_or_len-set}
use Rattle.thy_block.specs.declared.block.Block.{Block}
use Rattle.thy_block.specs.Device.{block_at}
use Rattle.thy_cache.specs.declared.line.Line.{Line}
use Rattle.thy_cache.specs.Ways.{Ways, line_at, line_in, holds, is_dirty, way_of, with_line, fresh_line}
use Rattle.thy_cache.specs.Flat.{IsLineOf, SetAgrees}
use Rattle.thy_cache.proofs.LineLemmas.{location, held, location-way_of, line_in-location, line_in-none, none_held}
use Rattle.thy_cache.proofs.AgreeLemmas.{line_at-rewritten, line_in-single, some_is}

-- what is filled in
pub record Filling (n : ℕ) (blocks : List Block) (s w b : ℕ) (block : Block) (ways : Ways) : Type 0 where
  pub agrees : SetAgrees n blocks s ways
  pub way : w < length ways.lines
  pub room : is_dirty (line_at ways w) ≡ false
  pub missing : line_in ways b ≡ None
  pub inside : b < length blocks
  pub own_set : s ≡ b % n
  pub loaded : block ≡ block_at blocks b

-- a line after the filling is the new one or an old one in another way
pub line_at-filled : (w b : ℕ) (block : Block) (ways : Ways) (v : ℕ) (line : Line)
    → line_at (with_line w (fresh_line b block) ways) v ≡ Some line
    → ((v ≡ w) × (fresh_line b block ≡ line)) ⊎ ((v ≢ w) × (line_at ways v ≡ Some line))
line_at-filled w b block ways v line e =
    elim (line_at-rewritten ways w v (Some (fresh_line b block)) line e)
    as (λ _. ((v ≡ w) × (fresh_line b block ≡ line)) ⊎ ((v ≢ w) × (line_at ways v ≡ Some line))) [
      | inl here ↦ inl (here.0, some_is (fresh_line b block) line here.1)
      | inr there ↦ inr there
    ]

-- the new line is the store's
pub IsLineOf-filled : (n : ℕ) (blocks : List Block) (s w b : ℕ) (block : Block) (ways : Ways) → Filling n blocks s w b block ways
    → (v : ℕ) (line : Line) → ((v ≡ w) × (fresh_line b block ≡ line)) ⊎ ((v ≢ w) × (line_at ways v ≡ Some line)) → IsLineOf n blocks s line
IsLineOf-filled n blocks s w b block ways filling v line (inl here) =
    let at : b ≡ line.at = ap (λ (l : Line). l.at) here.1 in
    record {
      inside = omega (arith, at, filling.inside);
      own_set = filling.own_set ∙ ap (λ a. a % n) at;
      clean = λ pure. sym (ap (λ (l : Line). l.block) here.1) ∙ filling.loaded ∙ ap (block_at blocks) at;
    }
IsLineOf-filled n blocks s w b block ways filling v line (inr there) = filling.agrees.lines v line there.1

module _ (n : ℕ) (blocks : List Block) (s w b : ℕ) (block : Block) (ways : Ways) (filling : Filling n blocks s w b block ways) where
  -- the new line of a filled set is the only one of its block
  pub single-filled : (v u : ℕ) (line other : Line) → ((v ≡ w) × (fresh_line b block ≡ line)) ⊎ ((v ≢ w) × (line_at ways v ≡ Some line))
      → ((u ≡ w) × (fresh_line b block ≡ other)) ⊎ ((u ≢ w) × (line_at ways u ≡ Some other)) → line.at ≡ other.at → v ≡ u
  single-filled v u line other (inl one) (inl two) same = one.0 ∙ sym two.0
  single-filled v u line other (inl one) (inr two) same =
      absurd (none_held ways b u other filling.missing two.1 (sym same ∙ sym (ap (λ (l : Line). l.at) one.1)))
  single-filled v u line other (inr one) (inl two) same =
      absurd (none_held ways b v line filling.missing one.1 (same ∙ sym (ap (λ (l : Line). l.at) two.1)))
  single-filled v u line other (inr one) (inr two) same = filling.agrees.single v u line other one.1 two.1 same

  -- a filled set agrees
  pub SetAgrees-filled : SetAgrees n blocks s (with_line w (fresh_line b block) ways)
  SetAgrees-filled = record {
    lines = λ v line e. IsLineOf-filled n blocks s w b block ways filling v line (line_at-filled w b block ways v line e);
    single = λ v u line other e g. single-filled v u line other (line_at-filled w b block ways v line e) (line_at-filled w b block ways u other g);
  }

  -- the block has the new line
  pub line_in-filled : line_in (with_line w (fresh_line b block) ways) b ≡ Some (fresh_line b block)
  line_in-filled =
      line_in-single n blocks s (with_line w (fresh_line b block) ways) w (fresh_line b block) SetAgrees-filled
      (get_or-set_same ways.lines w (Some (fresh_line b block)) None filling.way)

-- what a block reads as in its set
abbrev pub seen : List Block → Ways → ℕ → Block
seen blocks ways x = unwrap_or (option_map (λ line. line.block) (line_in ways x)) (block_at blocks x)

-- no way has the line that left
pub not_left : (n : ℕ) (blocks : List Block) (s w b : ℕ) (block : Block) (ways : Ways) → Filling n blocks s w b block ways
    → (x : ℕ) (line : Line) → x ≢ b → line_at ways w ≡ Some line → line.at ≡ x
    → (v : ℕ) (m : Line) → m.at ≡ x → ((v ≡ w) × (fresh_line b block ≡ m)) ⊎ ((v ≢ w) × (line_at ways v ≡ Some m)) → ⊥
not_left n blocks s w b block ways filling x line other e at v m its (inl here) = other (sym its ∙ sym (ap (λ (l : Line). l.at) here.1))
not_left n blocks s w b block ways filling x line other e at v m its (inr there) =
    there.0 (filling.agrees.single v w m line there.1 e (its ∙ sym at))

-- a way whose line is not the block's is not where the block's line is
pub not_in : (ways : Ways) (x w : ℕ) → w < length ways.lines → holds x (line_at ways w) ≡ false → location ways x ≡ w → ⊥
not_in ways x w inside fails e =
    let here : location ways x < length ways.lines = omega (arith, e, inside) in
    let found : way_of ways x ≡ Some (location ways x) = ap (λ t. cond t (Some (location ways x)) None) (lt-ltb _ _ here) in
    let passes : holds x (line_at ways (location ways x)) ≡ true = (location-way_of ways x (location ways x) found).2 in
    let wrong : true ≡ false = sym passes ∙ ap (λ v. holds x (line_at ways v)) e ∙ fails in
    cc

-- a block whose line leaves has none
pub leaves : (n : ℕ) (blocks : List Block) (s w b : ℕ) (block : Block) (ways : Ways) → Filling n blocks s w b block ways
    → (x : ℕ) (line : Line) → x ≢ b → line_at ways w ≡ Some line → line.at ≡ x → line_in (with_line w (fresh_line b block) ways) x ≡ None
leaves n blocks s w b block ways filling x line other e at =
    line_in-none (with_line w (fresh_line b block) ways) x
    (λ v inside. elim (cases_Bool (holds x (line_at (with_line w (fresh_line b block) ways) v)))
    as (λ _. holds x (line_at (with_line w (fresh_line b block) ways) v) ≡ false) [
      | inl is_so ↦
          let there = held x (line_at (with_line w (fresh_line b block) ways) v) is_so in
          absurd (not_left n blocks s w b block ways filling x line other e at v there.0 there.2 (line_at-filled w b block ways v there.0 there.1))
      | inr not_so ↦ not_so
    ])

-- a block whose line does not leave keeps it
pub stays_there : (w b : ℕ) (block : Block) (ways : Ways) (x : ℕ) → w < length ways.lines → x ≢ b → holds x (line_at ways w) ≡ false
    → line_in (with_line w (fresh_line b block) ways) x ≡ line_in ways x
stays_there w b block ways x inside other fails =
    let new_fails : holds x (Some (fresh_line b block)) ≡ false = ne_eqb b x (λ e. other (sym e)) in
    let same : location (with_line w (fresh_line b block) ways) x ≡ location ways x =
    position_or_len-set (holds x) ways.lines w (Some (fresh_line b block)) None (new_fails ∙ sym fails) in
    let elsewhere : location ways x ≢ w = λ e. not_in ways x w inside fails e in
    line_in-location (with_line w (fresh_line b block) ways) x
    ∙ ap (line_at (with_line w (fresh_line b block) ways)) same
    ∙ get_or-set_other ways.lines w (location ways x) (Some (fresh_line b block)) None elsewhere
    ∙ sym (line_in-location ways x)

-- every block reads as before in a set that was filled
pub seen-filled : (n : ℕ) (blocks : List Block) (s w b : ℕ) (block : Block) (ways : Ways) → Filling n blocks s w b block ways
    → (x : ℕ) → seen blocks (with_line w (fresh_line b block) ways) x ≡ seen blocks ways x
seen-filled n blocks s w b block ways filling x =
    elim (cases_eq x b) as (λ _. seen blocks (with_line w (fresh_line b block) ways) x ≡ seen blocks ways x) [
      | inl same ↦
          ap (seen blocks (with_line w (fresh_line b block) ways)) same
          ∙ ap (λ o. unwrap_or (option_map (λ (line : Line). line.block) o) (block_at blocks b)) (line_in-filled n blocks s w b block ways filling)
          ∙ filling.loaded
          ∙ ap (λ o. unwrap_or (option_map (λ (line : Line). line.block) o) (block_at blocks b)) (sym filling.missing)
          ∙ ap (seen blocks ways) (sym same)
      | inr other ↦ elim (cases_Bool (holds x (line_at ways w)))
          as (λ _. seen blocks (with_line w (fresh_line b block) ways) x ≡ seen blocks ways x) [
            | inl is_so ↦
                let was = held x (line_at ways w) is_so in
                let pure : was.0.dirty ≡ false = ap is_dirty (sym was.1) ∙ filling.room in
                let stood : line_in ways x ≡ Some was.0 = ap (line_in ways) (sym was.2) ∙ line_in-single n blocks s ways w was.0 filling.agrees was.1 in
                ap (λ o. unwrap_or (option_map (λ (line : Line). line.block) o) (block_at blocks x))
                (leaves n blocks s w b block ways filling x was.0 other was.1 was.2)
                ∙ ap (block_at blocks) (sym was.2)
                ∙ sym ((filling.agrees.lines w was.0 was.1).clean pure)
                ∙ ap (λ o. unwrap_or (option_map (λ (line : Line). line.block) o) (block_at blocks x)) (sym stood)
            | inr not_so ↦ ap (λ o. unwrap_or (option_map (λ (line : Line). line.block) o) (block_at blocks x))
                (stays_there w b block ways x filling.way other not_so)
          ]
    ]
