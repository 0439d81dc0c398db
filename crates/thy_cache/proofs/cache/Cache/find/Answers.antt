use Rattle.std.proofs.Common.{◌≡◌, Some, sym, ◌∙◌, ap, arith}
use Rattle.std.specs.Option.{is_some}
use Rattle.std.proofs.lemmas.Grind.{common_steps}
use Rattle.thy_cache.specs.Contents.{location_of}
use Rattle.thy_cache.proofs.LocationLaws.{location-hits}
use Rattle.thy_cache.proofs.cache.Cache.find.Goals as goal

pub returns-in-Some-clause-hit : goal.returns-in-Some-clause-hit
returns-in-Some-clause-hit c =
    let found : location_of c.args.self.now c.args.b ≡ Some (record { set = c.index_of-set.result; way = c.in-Some.way }) =
    grind (arith, common_steps) in
    ap is_some (sym found) ∙ location-hits c.args.self.now c.args.b
