use Rattle.std.proofs.Common.{◌≡◌, ◌+◌, Some, sym, ◌∙◌, ap}
use Rattle.thy_block.specs.declared.parameters.Parameters.{Parameters}
use Rattle.thy_shadow_parts.specs.State.{State, state_in, frame_of, pool_of, next_page_by, next_page}
use Rattle.thy_shadow_parts.proofs.pool.Pool.next_page.Goals as goal

pub returns-in-Some : goal.returns-in-Some
returns-in-Some c =
    let s : State = state_in c.self.inside.geometry c.self.inside.pool c.self.inside.frames c.self.inside.begun c.self.inside.dram in
    let framed : frame_of s c.args.x ≡ Some c.in-Some.j = sym c.find.ensures.place ∙ c.in-Some.is in
    c.as_page.ensures ∙ c.find-in-Some.ensures.place
    ∙ ap (λ (p : Parameters). pool_of s (p.pages + c.in-Some.j)) c.numbers.ensures.same
    ∙ sym (ap (next_page_by s c.args.x) framed)
    ∙ ap (λ (t : State). next_page t c.args.x) c.self.view_is
