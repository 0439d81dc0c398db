use Rattle.std.proofs.Common.{refl}
use Rattle.thy_block.specs.Device.{Device}
use Rattle.thy_sweep.specs.Choices.{chosen, places_of}
use Rattle.thy_sweep.specs.declared.trial.room.Found.{Found}
use Rattle.sweep.proofs.trying.note_number.Goals as goal

pub returns-in-Ok-clause-tried : goal.returns-in-Ok-clause-tried
returns-in-Ok-clause-tried g c =
    let n : Device = g.N.OverMemory.memory c.args.nvm.now in
    let f : Found = c.in_ok-trial.trial.found in
    record {
      one = record { pick = 0; image = chosen (places_of n) c.args.number n.image; booted = f.booted; state = f.state };
      has = record {
        each = (λ w at few. c.in_ok-trial.ensures.tried w at few, tt);
        leads = c.in-Ok.ensures.leads;
        tried = c.note.ensures.tried;
        first = c.note.ensures.first;
        last = c.note.ensures.last;
        queued = c.note.ensures.queued;
        images = c.note.ensures.images;
      };
      is = refl;
    }
