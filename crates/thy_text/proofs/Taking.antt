-- A sink that takes the texts of a list's elements, one after another.
use Rattle.std.proofs.Common.{ℕ, ◌+◌, ◌<◌, List, ◌++◌, map, take, drop, length, get_or, sym, subst, Result, Ok, Err}
use Rattle.thy_block.specs.declared.outside.SinkError.{SinkError}
use Rattle.thy_block.specs.Outside.{Stream, Took, TookPart}
use Rattle.thy_block.proofs.Streams.{Took-append, TookPart-append, TookPart-more}
use Rattle.thy_text.specs.Lines.{joined}
use Rattle.thy_text.specs.Writing.{Wrote}
use Rattle.thy_text.proofs.Joining.{joined-take-more, joined-split}

module _ {X : Type 0} (f : X → List ℕ) (xs : List X) (i : ℕ) (d : X) (a b c : Stream) (h : i < length xs) where
  -- a sink that took the first texts took one more
  pub Took-more : Took a b (joined (map f (take i xs))) → Took b c (f (get_or xs i d)) → Took a c (joined (map f (take (i + 1) xs)))
  Took-more before now =
      subst (λ (bytes : List ℕ). Took a c bytes) (sym (joined-take-more f xs i d h))
      (Took-append a b c (joined (map f (take i xs))) (f (get_or xs i d)) before now)

  -- a sink that took the first texts failed at one
  pub TookPart-at : Took a b (joined (map f (take i xs))) → TookPart b c (f (get_or xs i d)) → TookPart a c (joined (map f xs))
  TookPart-at before now =
      let here : TookPart a c (joined (map f (take (i + 1) xs))) =
      subst (λ (bytes : List ℕ). TookPart a c bytes) (sym (joined-take-more f xs i d h))
      (TookPart-append a b c (joined (map f (take i xs))) (f (get_or xs i d)) before now) in
      subst (λ (bytes : List ℕ). TookPart a c bytes) (sym (joined-split f xs (i + 1)))
      (TookPart-more a c (joined (map f (take (i + 1) xs))) (joined (map f (drop (i + 1) xs))) here)

-- a sink took some bytes, and then others or a first part of them
pub Wrote-then : (r : Result (Unit {0}) SinkError) (a b c : Stream) (first then : List ℕ) → Took a b first → Wrote r b c then
    → Wrote r a c (first ++ then)
Wrote-then (Ok done) a b c first then one two = record { whole = Took-append a b c first then one two.whole; failed = two.failed }
Wrote-then (Err e) a b c first then one two = record { whole = two.whole; failed = TookPart-append a b c first then one two.failed }
