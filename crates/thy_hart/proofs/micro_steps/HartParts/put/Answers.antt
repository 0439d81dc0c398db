use Rattle.std.proofs.Common.{◌≡◌, ℕ, List, take, drop, ◌-◌, arith, length, ◌∙◌, ap}
use Rattle.std.proofs.lemmas.List.{length-drop, take_all}
use Rattle.thy_cache.specs.Contents.{written_at}
use Rattle.thy_block.specs.Spans.{first_block, first_byte}
use Rattle.thy_hart.proofs.micro_steps.HartParts.put.Goals as goal

pub returns-clause-cache : goal.returns-clause-cache
returns-clause-cache g c =
    let all : List ℕ = c.args.bytes.now in
    let bytes : List ℕ = drop c.args.done all in
    let left : take (length all - c.args.done) (drop c.args.done all) ≡ bytes
    = take_all (length all - c.args.done) (drop c.args.done all) (omega (arith, length-drop c.args.done all)) in
    c.write_at.ensures.cache
    ∙ ap (λ t. written_at c.first_block.result c.first_byte.result (take c.head_len-len.result t) c.args.cache.now) left
    ∙ ap (λ b. written_at b c.first_byte.result (take c.head_len-len.result bytes) c.args.cache.now) c.first_block.ensures
    ∙ ap (λ at. written_at (first_block c.args.to) at (take c.head_len-len.result bytes) c.args.cache.now) c.first_byte.ensures
    ∙ ap (λ n. written_at (first_block c.args.to) (first_byte c.args.to) (take n bytes) c.args.cache.now) c.head_len-len.ensures.len
