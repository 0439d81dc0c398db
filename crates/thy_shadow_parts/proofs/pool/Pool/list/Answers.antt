use Rattle.std.proofs.Common.{◌≡◌, ℕ, List, Option, None, sym, ◌∙◌, ap, subst}
use Rattle.thy_block.specs.declared.parameters.Parameters.{Parameters}
use Rattle.thy_layout.specs.Files.{blocks_of}
use Rattle.thy_table.specs.Listing.{entry_at}
use Rattle.thy_images.specs.ShadowSlots.{IsMap, table_in}
use Rattle.thy_shadow_parts.specs.declared.entry.Begun.{Begun}
use Rattle.thy_shadow_parts.specs.State.{State, state_in, IsSoundState}
use Rattle.thy_shadow_parts.proofs.StateLemmas.{IsSoundState-listed, listed_table}
use Rattle.thy_shadow_parts.proofs.pool.Pool.list.Goals as goal

pub invariant_of-self : goal.invariant_of-self
invariant_of-self c =
    let s : State = state_in c.self.inside.geometry c.self.inside.pool c.self.inside.frames c.self.inside.begun c.self.inside.dram in
    let p : s.p ≡ c.args.self.now.p = ap (λ (t : State). t.p) c.self.view_is in
    let table : List (Option ℕ) = table_in s.p (blocks_of c.args.slot.now) in
    let whole : IsMap s.p table = subst (λ (q : Parameters). IsMap q (table_in q (blocks_of c.args.slot.now))) (sym p) c.requires.map in
    let free : (j : ℕ) → entry_at s.frames j ≡ None = λ j. ap (λ (t : State). entry_at t.frames j) c.self.view_is ∙ c.requires.free j in
    let unbegun : s.begun ≡ None = ap (λ (t : State). t.begun) c.self.view_is ∙ c.requires.unbegun in
    subst (λ (o : Option Begun). IsSoundState (state_in s.p c.list_all.new.pool s.frames o s.dram)) (sym unbegun)
    (IsSoundState-listed s table c.list_all.new.pool c.self.invariant whole c.list_all.ensures c.recall_lists_once.ensures free)

pub returns-clause-map : goal.returns-clause-map
returns-clause-map c =
    let s : State = state_in c.self.inside.geometry c.self.inside.pool c.self.inside.frames c.self.inside.begun c.self.inside.dram in
    let p : s.p ≡ c.args.self.now.p = ap (λ (t : State). t.p) c.self.view_is in
    let table : List (Option ℕ) = table_in s.p (blocks_of c.args.slot.now) in
    let whole : IsMap s.p table = subst (λ (q : Parameters). IsMap q (table_in q (blocks_of c.args.slot.now))) (sym p) c.requires.map in
    listed_table s.p table s.pool c.list_all.new.pool whole c.list_all.ensures c.recall_lists_once.ensures
    ∙ ap (λ (q : Parameters). table_in q (blocks_of c.args.slot.now)) p
