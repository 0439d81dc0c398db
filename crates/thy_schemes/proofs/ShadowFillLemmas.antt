-- A pool that lists the map of a slot is what the boot lists.
use Rattle.std.proofs.Common.{◌≡◌, List, sym, ◌∙◌, ap}
use Rattle.thy_block.specs.declared.block.Block.{Block}
use Rattle.thy_block.specs.declared.parameters.Parameters.{Parameters}
use Rattle.thy_table.specs.Listing.{entry_at}
use Rattle.thy_checkpoint.specs.Filling.{ListsOn}
use Rattle.thy_images.specs.ShadowSlots.{table_in}
use Rattle.thy_shadow_parts.specs.State.{State, IsSoundState, committed_table}
use Rattle.thy_shadow_parts.specs.Filling.{filling_shadow, IsFresh}

pub lists_on : (commit : Block) (slot : List Block) (old new : State) → IsFresh old → IsSoundState new
    → committed_table new ≡ table_in old.p slot → new ≡ record old { pool = new.pool } → ListsOn filling_shadow commit slot old new
lists_on commit slot old new fresh sound map is =
    let same_p : new.p ≡ old.p = ap (λ (s : State). s.p) is in
    record {
      lists = record {
        unframed = record {
          state = sound;
          free = λ j. ap (λ (s : State). entry_at s.frames j) is ∙ fresh.unframed.free j;
          unbegun = ap (λ (s : State). s.begun) is ∙ fresh.unframed.unbegun;
        };
        table = map ∙ ap (λ (q : Parameters). table_in q slot) (sym same_p);
      };
      left = record { same_p = same_p; same_dram = ap (λ (s : State). s.dram) is; keeps = ap (λ (s : State). s.dram.room) is };
    }
