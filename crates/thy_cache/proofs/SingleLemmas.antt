-- No block has two lines, so a way that has a block's line is the first that has one.
use Rattle.std.proofs.Common.{◌≡◌, ◌≢◌, ◌⊎◌, ℕ, ◌<◌, true, false, cond, length, Some, None, sym, ◌∙◌, ap, inl, inr, arith}
use Rattle.std.proofs.lemmas.Bool.{cases_Bool, lt-ltb}
use Rattle.std.proofs.lemmas.List.Sums.{position_or_len_is}
use Rattle.thy_cache.specs.declared.line.Line.{Line}
use Rattle.thy_cache.specs.Ways.{Ways, HaveOneLineEach, holds, line_at, line_in, way_of, over_line, with_line}
use Rattle.thy_cache.proofs.LineLemmas.{KeepsBlock, location, held, none_held}
use Rattle.thy_cache.proofs.AgreeLemmas.{line_at-rewritten, some_is, before, before-at}

-- no way before one with a block's line has one
none_before : (ways : Ways) (b w k : ℕ) → HaveOneLineEach ways.lines → holds b (line_at ways w) ≡ true → k < w
    → holds b (line_at ways k) ≡ false
none_before ways b w k single here below = elim (cases_Bool (holds b (line_at ways k))) as (λ _. holds b (line_at ways k) ≡ false) [
  | inl is_so ↦
      let line = held b (line_at ways w) here in
      let other = held b (line_at ways k) is_so in
      let same : k ≡ w = single k w other.0 line.0 other.1 line.1 (other.2 ∙ sym line.2) in
      absurd (omega (arith, same, below))
  | inr not_so ↦ not_so
]

-- a way that alone has the block is the first
pub way_of-held : (ways : Ways) (b w : ℕ) → HaveOneLineEach ways.lines → w < length ways.lines → holds b (line_at ways w) ≡ true
    → way_of ways b ≡ Some w
way_of-held ways b w single inside here =
    let first : location ways b ≡ w
    = position_or_len_is (holds b) ways.lines w None (omega (arith, inside)) (λ k below. none_before ways b w k single here below) (λ _. here) in
    let there : location ways b < length ways.lines = omega (arith, first, inside) in
    ap (λ t. cond t (Some (location ways b)) None) (lt-ltb _ _ there) ∙ ap Some first

-- a change that leaves each line the line of its block
pub HaveOneLineEach-changed : (f : Line → Line) → KeepsBlock f → (ways : Ways) (w : ℕ) → HaveOneLineEach ways.lines
    → HaveOneLineEach (over_line f w ways).lines
HaveOneLineEach-changed f keeps ways w single v u line other e g same =
    let one = before f w ways v line e in
    let two = before f w ways u other g in
    single v u one.0 two.0 one.1 two.1 (sym (before-at f keeps line one.0 v w one.2) ∙ same ∙ before-at f keeps other two.0 u w two.2)

module _ (ways : Ways) (w : ℕ) (new : Line) (single : HaveOneLineEach ways.lines) (missing : line_in ways new.at ≡ None) where
  -- a line of a block that had none, by where two lines stand
  one_each : (v u : ℕ) (line other : Line) → ((v ≡ w) × (Some new ≡ Some line)) ⊎ ((v ≢ w) × (line_at ways v ≡ Some line))
      → ((u ≡ w) × (Some new ≡ Some other)) ⊎ ((u ≢ w) × (line_at ways u ≡ Some other)) → line.at ≡ other.at → v ≡ u
  one_each v u line other (inl one) (inl two) same = one.0 ∙ sym two.0
  one_each v u line other (inl one) (inr two) same =
      absurd (none_held ways new.at u other missing two.1 (sym same ∙ sym (ap (λ (l : Line). l.at) (some_is new line one.1))))
  one_each v u line other (inr one) (inl two) same =
      absurd (none_held ways new.at v line missing one.1 (same ∙ sym (ap (λ (l : Line). l.at) (some_is new other two.1))))
  one_each v u line other (inr one) (inr two) same = single v u line other one.1 two.1 same

  pub HaveOneLineEach-put : HaveOneLineEach (with_line w new ways).lines
  HaveOneLineEach-put v u line other e g same =
      one_each v u line other (line_at-rewritten ways w v (Some new) line e) (line_at-rewritten ways w u (Some new) other g) same
