use Rattle.std.proofs.Common.{◌≡◌, ◌≤◌, ℕ, Result, Ok, Err, IfOk, ap, inl, inr, arith, rules}
use Rattle.std.specs.declared.alloc.AllocError.{AllocError}
use Rattle.thy_block.specs.declared.bytes.Bytes.{Bytes}
use Rattle.thy_block.specs.declared.parameters.Parameters.{Parameters}
use Rattle.thy_block.specs.Bytes.{room_of}
use Rattle.thy_run.specs.Going.{HasTurnsRoom}
use Rattle.thy_run.proofs.cycles.first_turns.Goals as goal

-- room for an epoch's turns is enough
enough : (r : Result Bytes AllocError) (p : Parameters) (room : ℕ) → p.epoch ≤ room
    → IfOk r (λ b. room_of b ≡ room) → IfOk r (λ b. HasTurnsRoom p (room_of b))
enough (Ok b) p room le h = inr (omega (arith, le, h))
enough (Err e) p room le h = tt

pub returns-then-harts-eq1-clause-room : goal.returns-then-harts-eq1-clause-room
returns-then-harts-eq1-clause-room c = inl (search rules)

pub returns-clause-room : goal.returns-clause-room
returns-clause-room c =
    let same : c.numbers.result.epoch ≡ c.args.geometry.now.epoch = ap (λ (p : Parameters). p.epoch) c.numbers.ensures.same in
    enough c.with_room.result c.args.geometry.now _ (omega (arith, same)) c.with_room.ensures.room
