-- Part of the claim.
-- What the schemes of checkpoints are called, and their numbers.
use Rattle.std.specs.Prelude.{ℕ, List, codes}
use Rattle.thy_block.specs.declared.parameters.SchemeName.{SchemeName}
use Rattle.thy_block.specs.declared.parameters.SchemeName.TheVariants.{Thynvm, Journal, Shadow}

-- the name of a scheme
abbrev pub scheme_name : SchemeName → List ℕ
scheme_name Thynvm = codes "thynvm"
scheme_name Journal = codes "journal"
scheme_name Shadow = codes "shadow"

-- the number of a scheme
abbrev pub scheme_number : SchemeName → ℕ
scheme_number Thynvm = 0
scheme_number Journal = 1
scheme_number Shadow = 2
