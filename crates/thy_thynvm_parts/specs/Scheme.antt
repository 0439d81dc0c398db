-- What is seen of the scheme thynvm.
use Rattle.thy_control.specs.State.{State}
use Rattle.thy_scheme.specs.Scheme.{SchemeOf}
use Rattle.thy_scheme_parts.specs.Design.{Composed}
use Rattle.thy_scheme_parts.specs.Scheme.{scheme_of}
use Rattle.thy_thynvm_parts.specs.Design.{thynvm_design}

abbrev pub thynvm_scheme : SchemeOf (Composed State)
thynvm_scheme = scheme_of thynvm_design
