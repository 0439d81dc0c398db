use Rattle.std.proofs.Common.{◌≡◌, ◌<◌, ◌+◌, ℕ, None, sym, ◌∙◌, ap, subst}
use Rattle.thy_block.specs.declared.parameters.Parameters.{Parameters}
use Rattle.thy_table.specs.Listing.{index_of, free_count, added}
use Rattle.thy_shadow_parts.specs.declared.entry.Framed.{Framed}
use Rattle.thy_shadow_parts.specs.declared.entry.Held.{Held}
use Rattle.thy_shadow_parts.specs.Keys.{number_key, held, framed}
use Rattle.thy_shadow_parts.specs.State.{State, state_in, IsSoundState, frame_of}
use Rattle.thy_shadow_parts.specs.Stores.{free_frame}
use Rattle.thy_shadow_parts.proofs.StateLemmas.{unclaimed_free, IsSoundState-claimed}
use Rattle.thy_shadow_parts.proofs.pool.Pool.claim.Goals as goal

pub add-requires-2-clause-unlisted : goal.add-requires-2-clause-unlisted
add-requires-2-clause-unlisted c =
    let s : State = state_in c.self.inside.geometry c.self.inside.pool c.self.inside.frames c.self.inside.begun c.self.inside.dram in
    let page : c.args.x < s.p.pages = subst (λ (t : State). c.args.x < t.p.pages) (sym c.self.view_is) c.requires.page in
    let unframed : frame_of s c.args.x ≡ None = ap (λ (t : State). frame_of t c.args.x) c.self.view_is ∙ c.requires.unframed in
    let room : 0 < free_count s.frames = subst (λ (t : State). 0 < free_count t.frames) (sym c.self.view_is) c.requires.room in
    let number : c.numbers.result.pages + c.free_frame-j.result ≡ s.p.pages + free_frame s
    = ap (λ (p : Parameters). p.pages + c.free_frame-j.result) c.numbers.ensures.same
    ∙ ap (λ (j : ℕ). s.p.pages + j) (c.free_frame-j.ensures.frame ∙ sym (ap free_frame c.self.view_is)) in
    ap (λ (e : Held). index_of number_key e.number s.pool) c.new-2.ensures ∙ ap (λ (n : ℕ). index_of number_key n s.pool) number
    ∙ unclaimed_free s c.self.invariant c.args.x page unframed room

pub invariant_of-self : goal.invariant_of-self
invariant_of-self c =
    let s : State = state_in c.self.inside.geometry c.self.inside.pool c.self.inside.frames c.self.inside.begun c.self.inside.dram in
    let page : c.args.x < s.p.pages = subst (λ (t : State). c.args.x < t.p.pages) (sym c.self.view_is) c.requires.page in
    let unframed : frame_of s c.args.x ≡ None = ap (λ (t : State). frame_of t c.args.x) c.self.view_is ∙ c.requires.unframed in
    let room : 0 < free_count s.frames = subst (λ (t : State). 0 < free_count t.frames) (sym c.self.view_is) c.requires.room in
    let number : c.numbers.result.pages + c.free_frame-j.result ≡ s.p.pages + free_frame s
    = ap (λ (p : Parameters). p.pages + c.free_frame-j.result) c.numbers.ensures.same
    ∙ ap (λ (j : ℕ). s.p.pages + j) (c.free_frame-j.ensures.frame ∙ sym (ap free_frame c.self.view_is)) in
    let frames : c.add.new.self ≡ added (framed c.args.x) s.frames
    = c.add.ensures.table ∙ ap (λ (e : Framed). added e s.frames) c.new.ensures in
    let pool : c.add-2.new.self ≡ added (held (s.p.pages + free_frame s)) s.pool
    = c.add-2.ensures.table ∙ ap (λ (e : Held). added e s.pool) c.new-2.ensures ∙ ap (λ (n : ℕ). added (held n) s.pool) number in
    coe 1 0 (i. IsSoundState (state_in s.p (pool i) (frames i) None s.dram)) (IsSoundState-claimed s c.self.invariant c.args.x page unframed room)
