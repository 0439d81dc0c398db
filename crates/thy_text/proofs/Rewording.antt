-- A sink that has parts of a line has so much of the same parts in other words.
use Rattle.std.proofs.Common.{◌≡◌, ℕ, List, subst, Result}
use Rattle.thy_block.specs.declared.outside.SinkError.{SinkError}
use Rattle.thy_block.specs.Outside.{Stream}
use Rattle.thy_text.specs.Lines.{joined}
use Rattle.thy_text.specs.Writing.{Wrote}

pub wrote-as : (r : Result (Unit {0}) SinkError) (a b : Stream) (parts others : List (List ℕ)) → parts ≡ others
    → Wrote r a b (joined parts) → Wrote r a b (joined others)
wrote-as r a b parts others e h = subst (λ (ps : List (List ℕ)). Wrote r a b (joined ps)) e h
