-- What is seen of the journal as a scheme.
use Rattle.thy_journal_parts.specs.State.{State}
use Rattle.thy_scheme.specs.Scheme.{SchemeOf}
use Rattle.thy_scheme_parts.specs.Design.{Composed}
use Rattle.thy_scheme_parts.specs.Scheme.{scheme_of}
use Rattle.thy_journal_parts.specs.Design.{journal_design}

abbrev pub journal_scheme : SchemeOf (Composed State)
journal_scheme = scheme_of journal_design
