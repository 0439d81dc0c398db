-- What holds of the parts of every scheme: from this follows all that holds of the scheme.
use Rattle.thy_scheme_parts.specs.Design.{DesignOf}
use Rattle.thy_scheme_parts.specs.IsDesign.{IsDesign}
use Rattle.thy_scheme_parts.specs.Paging.{IsPaging}
use Rattle.thy_scheme_parts.specs.Powering.{IsPowering}
use Rattle.thy_scheme_parts.specs.Storing.{IsStoring}

pub record AreParts {C : Type 0} (D : DesignOf C) : Type 0 where
  pub design : IsDesign D
  pub powering : IsPowering D
  pub storing : IsStoring D
  pub paging : IsPaging D
