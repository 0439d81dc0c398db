-- What sinks take piece by piece.
use Rattle.std.proofs.Common.{◌≡◌, ℕ, List, ◌++◌, take, drop, Some, sym, ap, ◌∙◌, append_assoc, arith}
use Rattle.std.proofs.lemmas.List.{take-append-drop}
use Rattle.thy_block.specs.Counts.{Rose}
use Rattle.thy_block.specs.Outside.{Stream, Grew, Took, TookPart}

-- a known list grew by what is after it now
pub Grew-some : (had now more : List ℕ) → now ≡ had ++ more → Grew (Some had) (Some now) more
Grew-some had now more e = λ before same. cc

-- a sink took the first n bytes, then failed
pub TookPart-take : (old new : Stream) (bytes : List ℕ) (n : ℕ) → Grew old.taken new.taken (take n bytes) → Rose old.faults new.faults
    → TookPart old new bytes
TookPart-take old new bytes n grew rose =
    record { part = take n bytes; rest = drop n bytes; split = sym (take-append-drop n bytes); taken = grew; rose = rose }

-- a sink took first these bytes, then those
pub Took-append : (a b c : Stream) (first then : List ℕ) → Took a b first → Took b c then → Took a c (first ++ then)
Took-append a b c first then one two = record {
  taken = λ had e. two.taken (had ++ first) (one.taken had e) ∙ ap Some (append_assoc had first then);
  faults = cc;
}

-- a sink took first these bytes, then some of those
pub TookPart-append : (a b c : Stream) (first then : List ℕ) → Took a b first → TookPart b c then → TookPart a c (first ++ then)
TookPart-append a b c first then one two = record {
  part = first ++ two.part;
  rest = two.rest;
  split = ap (λ l. first ++ l) two.split ∙ sym (append_assoc first two.part two.rest);
  taken = λ had e. two.taken (had ++ first) (one.taken had e) ∙ ap Some (append_assoc had first two.part);
  rose = record { no_less = omega (arith, one.faults, two.rose.no_less); more = omega (arith, one.faults, two.rose.more) };
}

-- some of these bytes, and none of those that were to follow
pub TookPart-more : (a b : Stream) (first then : List ℕ) → TookPart a b first → TookPart a b (first ++ then)
TookPart-more a b first then one = record {
  part = one.part;
  rest = one.rest ++ then;
  split = ap (λ l. l ++ then) one.split ∙ append_assoc one.part one.rest then;
  taken = one.taken;
  rose = one.rose;
}
