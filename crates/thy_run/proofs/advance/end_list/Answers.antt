use Rattle.std.proofs.Common.{◌≡◌, ℕ, List, refl, sym, ap, ◌∙◌}
use Rattle.thy_block.specs.declared.cause.EndCause.{EndCause}
use Rattle.thy_block.specs.Bytes.{bytes_of}
use Rattle.thy_computer.specs.declared.did.Did.{Did}
use Rattle.thy_computer.specs.declared.did.Did.TheVariants.{Sealed}
use Rattle.thy_run.specs.Going.{list_after}
use Rattle.thy_run.proofs.advance.end_list.Goals as goal

-- the list stays unless the epoch was sealed
unsealed : (did : Did) (listed : List ℕ) → ((epoch count : ℕ) (cause : EndCause) → did ≡ Sealed epoch count cause → ⊥)
    → listed ≡ list_after did listed
unsealed (Sealed epoch count cause) listed other = absurd (other epoch count cause refl)
unsealed did listed other = refl

pub returns-in-Sealed-clause-turns : goal.returns-in-Sealed-clause-turns
returns-in-Sealed-clause-turns c = c.clear.ensures.bytes ∙ sym (ap (λ did. list_after did (bytes_of c.args.turns.now)) c.in-Sealed.is)

pub returns-in_default-clause-turns : goal.returns-in_default-clause-turns
returns-in_default-clause-turns c = unsealed c.args.did (bytes_of c.args.turns.now) c.in_default.not-Sealed
