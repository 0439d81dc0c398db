-- Part of the claim.
-- Which machine runs a configuration: the machine of its scheme.
use Rattle.thy_block.specs.declared.parameters.SchemeName.{SchemeName}
use Rattle.thy_block.specs.declared.parameters.SchemeName.TheVariants.{Thynvm, Journal, Shadow}
use Rattle.thy_computer.specs.Kind.{KindOf}

-- machines of some type, with what they mean and what they show
pub record Machines : Type 1 where
  pub Machine : Type 0
  pub kind : KindOf Machine

-- a machine for each scheme
abbrev pub Choice : Type 1
Choice = SchemeName → Machines

-- a choice of machines by the scheme: each scheme has its own
abbrev pub by_scheme : {A B C : Type 0} → (thynvm : KindOf A) → (journal : KindOf B) → (shadow : KindOf C) → Choice
by_scheme {A = A} thynvm journal shadow Thynvm = record { Machine = A; kind = thynvm }
by_scheme {B = B} thynvm journal shadow Journal = record { Machine = B; kind = journal }
by_scheme {C = C} thynvm journal shadow Shadow = record { Machine = C; kind = shadow }
