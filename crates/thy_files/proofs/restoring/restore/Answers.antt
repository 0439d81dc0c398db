use Rattle.std.proofs.Common.{◌^◌, refl}
use Rattle.thy_files.proofs.restoring.restore.Goals as goal

pub state-requires : goal.state-requires
state-requires c = record { ceiling = 2 ^ 62; epoch = c.args.epoch; found = c.requires.found }

pub returns : goal.returns
returns c = record {
  decodes = c.in_ok-state.ensures (2 ^ 62) c.args.epoch c.requires.found;
  kept = refl;
  reads = refl;
  blocks = c.in_ok-blocks.ensures;
}
