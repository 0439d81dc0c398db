use Rattle.std.proofs.Common.{◌∙◌}
use Rattle.thy_base.specs.Config.{fault_of, parameters_of}
use Rattle.thy_test_support.proofs.GeometryLemmas.{geometry_is}
use Rattle.thy_test_support.proofs.geometry.geometry_of.Goals as goal

pub returns : goal.returns
returns c =
    let config = c.of-config.result in
    geometry_is (fault_of config) (parameters_of config) c.args.numbers.now c.new.result c.of-config.ensures.numbers c.new.ensures.geometry
