use Rattle.std.proofs.Common.{◌≡◌, subst, arith}
use Rattle.std.proofs.lemmas.Grind.{common_steps}
use Rattle.thy_block.specs.Outside.{Files, Fetched}
use Rattle.thy_out.specs.Rack.{found, entries}
use Rattle.thy_out.proofs.mem_shelf.MemShelfShelf.fetch.Goals as goal

pub returns-clause-answer : goal.returns-clause-answer
returns-clause-answer c = λ files same.
    let at : found (entries c.as_slice.result.now) ≡ files = grind (arith, common_steps) in
    subst (λ (f : Files). Fetched (f c.args.name.now) c.args.limit c.fetched.result) at c.fetched.ensures.answer
