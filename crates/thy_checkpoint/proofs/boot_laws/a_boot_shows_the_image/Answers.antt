use Rattle.thy_checkpoint.proofs.FoundLemmas.{shows_image}
use Rattle.thy_checkpoint.proofs.boot_laws.a_boot_shows_the_image.Goals as goal

pub returns : goal.returns
returns g c = shows_image g.F.Fills.filling g.met.F.Fills.lawful
