use Rattle.std.proofs.Common.{length, ◌∙◌, ap, arith}
use Rattle.std.specs.Option.{option_map}
use Rattle.std.proofs.lemmas.List.{length-set}
use Rattle.thy_cache.specs.Ways.{Ways, line_at, changed, used}
use Rattle.thy_cache.proofs.ways.WaySet.write.Goals as goal

pub touch-requires : goal.touch-requires
touch-requires c =
    let here = c.args.self.now in
    omega (
      arith,
      c.requires.way,
      ap (λ (s : Ways). length s.lines) c.change.ensures,
      length-set here.lines c.args.way (option_map (changed c.args.at c.args.bytes.now) (line_at here c.args.way)),
    )

pub returns : goal.returns
returns c = c.touch.ensures ∙ ap (used c.args.way) c.change.ensures
