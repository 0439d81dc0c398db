use Rattle.thy_layout.proofs.CountLemmas.{devices_may_say_nothing}
use Rattle.thy_layout.proofs.crash_laws.devices_may_say_nothing.Goals as goal

pub returns : goal.returns
returns c = devices_may_say_nothing
