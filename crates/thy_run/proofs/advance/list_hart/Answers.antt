use Rattle.std.proofs.Common.{◌≡◌, ℕ, ◌==◌, Bool, true, false, List, [], ◌∷◌, ◌++◌, if◌then◌else◌, inl, inr, sym, ap, ◌∙◌}
use Rattle.std.proofs.lemmas.Bool.{eq-eqb, ne_eqb}
use Rattle.thy_block.specs.Bytes.{bytes_of}
use Rattle.thy_run.proofs.advance.list_hart.Goals as goal

-- what is listed with one hart, and with two
listed_if : (b c : Bool) (old new : List ℕ) → b ≡ c → (if b then old else new) ≡ (if c then old else new)
listed_if b c old new e = ap (λ (d : Bool). if d then old else new) e

pub returns-then-harts-eq1-clause-turns : goal.returns-then-harts-eq1-clause-turns
returns-then-harts-eq1-clause-turns c =
    let old = bytes_of c.args.turns.now in
    sym (listed_if (c.args.harts == 1) true old (old ++ c.args.hart ∷ []) (eq-eqb c.args.harts 1 c.if-harts-eq1.true))

pub returns-clause-turns : goal.returns-clause-turns
returns-clause-turns c =
    let old = bytes_of c.args.turns.now in
    c.push.ensures.bytes
    ∙ sym (listed_if (c.args.harts == 1) false old (old ++ c.args.hart ∷ []) (ne_eqb c.args.harts 1 c.if-harts-eq1.false))

pub push-requires : goal.push-requires
push-requires c = elim c.requires [ inl one ↦ absurd (c.if-harts-eq1.false one) | inr less ↦ less ]
