-- Writes that land keep what every place reads as, and all that depends on it.
use Rattle.std.proofs.Common.{◌≡◌, ℕ, ◌<◌, length, refl, ◌∙◌, arith}
use Rattle.thy_block.specs.Device.{Device, drained as nvm_drained, settled}
use Rattle.thy_table.specs.Places.{number_of, image_blocks}
use Rattle.thy_block.proofs.DeviceLemmas.{no_more-drained, no_more-settled, newest-drained, newest-settled, length-drained, length-settled}
use Rattle.thy_table.specs.Devices.{devices_of}
use Rattle.thy_table.specs.DeviceLaws.{ReadsTheSame}
use Rattle.thy_table.proofs.MoveLemmas.{reads_the_same}
use Rattle.thy_table.specs.Cells.{seat_of, frame_at, penult, target, last, work}
use Rattle.thy_control.specs.State.{State, AreSoundTables, IsSized, cell_of, reads}
use Rattle.thy_control.specs.Stays.{HoldAll, Stays}
use Rattle.thy_control.specs.OverCalls.{cell_same, stays_same}
use Rattle.thy_control.specs.Drains.{Lands, LandingIsUnseen, NvmDrainIsUnseen, BarrierIsUnseen, DrainIsUnseen, DrainTakesOne}
use Rattle.thy_control.proofs.StateLemmas.{IsPlace-penult, IsPlace-target, IsPlace-last, IsPlace-work, IsWithin-cell_of}
use Rattle.thy_control.proofs.KeepLemmas.{hold_same, IsPlace-frame_of}

module _ (s : State) (m n : Device) (t : AreSoundTables s) (sized : IsSized s m) (lands : Lands m n) where
  alike : ReadsTheSame s.p (devices_of m s.dram) (devices_of n s.dram)
  alike = reads_the_same s.p (devices_of m s.dram) n (record { nvm = sized.nvm; dram = t.dram_size }) lands.as_long lands.newest_same

  holds_still : HoldAll s m → HoldAll s n
  holds_still hold b l =
      let c = cell_of s b in
      let w = IsWithin-cell_of s b t l in
      let frame : reads s n (frame_at (seat_of c)) ≡ reads s m (frame_at (seat_of c)) =
      alike.same (frame_at (seat_of c)) (IsPlace-frame_of s b t l) in
      hold_same (reads s m) (reads s n) c
      (alike.same (target c) (IsPlace-target s.p c w)) (alike.same (last c) (IsPlace-last s.p c w)) (alike.same (work c) (IsPlace-work s.p c w))
      (λ f. frame) (λ f. frame) (λ f. frame) (hold b l)

  apart_inside : (x : ℕ) → x < image_blocks s.p → x < length m.image
  apart_inside x l = omega (arith, l, sized.nvm)

  stays_still : Stays s m s n
  stays_still = record {
    as_long = lands.as_long;
    same_p = refl;
    same_way = refl;
    down = λ d. lands.same_down ∙ d;
    tables0_same = refl;
    tables1_same = refl;
    lasts_same = refl;
    cells = λ b l. cell_same (cell_of s b);
    guarded = record {
      apart = λ x l. record { no_more = lands.no_more x };
      old = λ b l. record { no_more = lands.no_more (number_of s.p (penult (cell_of s b))) };
      next = λ b l placed. record { no_more = lands.no_more (number_of s.p (target (cell_of s b))) };
    };
    up = λ d. record {
      apart_reads = λ x l inside. lands.newest_same x (apart_inside x inside);
      penult_same = λ b l. alike.same (penult (cell_of s b)) (IsPlace-penult s.p (cell_of s b) (IsWithin-cell_of s b t l));
      held = λ hold. record {
        holds = holds_still hold;
        last_same = λ b l. alike.same (last (cell_of s b)) (IsPlace-last s.p (cell_of s b) (IsWithin-cell_of s b t l));
      };
    };
  }

pub IsUnseen-landed : LandingIsUnseen
IsUnseen-landed s m n t sized lands = record {
  reads_same = (alike s m n t sized lands).same;
  holds = holds_still s m n t sized lands;
  stays = stays_still s m n t sized lands;
}

pub IsUnseen-nvm_drained : NvmDrainIsUnseen
IsUnseen-nvm_drained s m t sized = IsUnseen-landed s m (nvm_drained m) t sized
    (record { as_long = length-drained m; same_down = refl; newest_same = newest-drained m; no_more = no_more-drained m })

pub IsUnseen-settled : BarrierIsUnseen
IsUnseen-settled s m count t sized = IsUnseen-landed s m (settled count m) t sized
    (record { as_long = length-settled count m; same_down = refl; newest_same = newest-settled count m; no_more = no_more-settled count m })

pub IsUnseen-drained : DrainIsUnseen
IsUnseen-drained s m =
    let same : Stays s m s m = stays_same s m in
    record {
      reads_same = λ place there. refl;
      holds = λ hold. hold;
      stays = record {
        as_long = refl;
        same_p = refl;
        same_way = refl;
        down = same.down;
        tables0_same = refl;
        tables1_same = refl;
        lasts_same = refl;
        cells = same.cells;
        guarded = record { apart = same.guarded.apart; old = same.guarded.old; next = same.guarded.next };
        up = λ d. record {
          apart_reads = (same.up d).apart_reads;
          penult_same = (same.up d).penult_same;
          held = λ hold. record { holds = hold; last_same = ((same.up d).held hold).last_same };
        };
      };
    }

pub takes_one : DrainTakesOne
takes_one s some = omega (arith, some)
