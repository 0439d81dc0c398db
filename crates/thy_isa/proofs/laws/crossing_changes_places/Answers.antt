use Rattle.thy_isa.proofs.HartLaws.{crossed-twice, blocks-cross, crossed-storable}
use Rattle.thy_isa.proofs.laws.crossing_changes_places.Goals as goal

pub returns-clause-twice : goal.returns-clause-twice
returns-clause-twice c = crossed-twice

pub returns-clause-blocks : goal.returns-clause-blocks
returns-clause-blocks c = blocks-cross

pub returns-clause-storable : goal.returns-clause-storable
returns-clause-storable c = crossed-storable
