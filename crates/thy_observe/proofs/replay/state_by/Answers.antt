use Rattle.thy_observe.proofs.StateLemmas.{state_by-down, state_by-up}
use Rattle.thy_observe.proofs.replay.state_by.Goals as goal

pub returns-then-replay : goal.returns-then-replay
returns-then-replay c =
    λ seen is many.
    state_by-up c.args.geometry.now c.args.start.now c.args.listed.now c.args.cycles c.args.cycle c.in_ok-replay.replay seen
    c.in_ok-replay.ensures c.if-replay.true c.if-cycles-cycle.false is many

pub returns-else-replay : goal.returns-else-replay
returns-else-replay c =
    λ seen is many.
    state_by-down c.args.geometry.now c.args.start.now c.args.listed.now c.args.cycles c.args.cycle c.in_ok-replay.replay seen
    c.in_ok-replay.ensures c.if-replay.false c.if-cycles-cycle.false is many
