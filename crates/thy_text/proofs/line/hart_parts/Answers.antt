use Rattle.std.proofs.Common.{rules, ap}
use Rattle.thy_text.specs.Lines.{joined}
use Rattle.thy_text.proofs.HartLines.{parts-one, parts-two}
use Rattle.thy_text.proofs.line.hart_parts.Goals as goal

pub returns-then-harts-eq1 : goal.returns-then-harts-eq1
returns-then-harts-eq1 c = ap joined (parts-one c.args.harts c.args.turns.now (search rules))

pub returns : goal.returns
returns c = rw (c.count_turns.ensures, c.count_turns-2.ensures) (ap joined (parts-two c.args.harts c.args.turns.now (search rules)))
