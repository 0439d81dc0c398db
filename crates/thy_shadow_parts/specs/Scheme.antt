-- What is seen of shadow paging as a scheme.
use Rattle.thy_shadow_parts.specs.State.{State}
use Rattle.thy_scheme.specs.Scheme.{SchemeOf}
use Rattle.thy_scheme_parts.specs.Design.{Composed}
use Rattle.thy_scheme_parts.specs.Scheme.{scheme_of}
use Rattle.thy_shadow_parts.specs.Design.{shadow_design}

abbrev pub shadow_scheme : SchemeOf (Composed State)
shadow_scheme = scheme_of shadow_design
