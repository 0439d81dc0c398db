use Rattle.thy_test_support.proofs.LawfulLemmas.{lawful}
use Rattle.thy_test_support.proofs.waiting.laws.a_scheme_that_waits_is_lawful.Goals as goal

pub returns : goal.returns
returns g c = lawful g.S.Scheme.scheme g.met.S.Scheme.lawful c.requires
