use Rattle.std.proofs.Common.{◌≡◌, ◌+◌, refl, sym, subst}
use Rattle.thy_block.specs.Device.{Device}
use Rattle.thy_control.specs.State.{State, IsSized}
use Rattle.thy_control.specs.Merges.{next_merge, overlays, after_merge}
use Rattle.thy_control.specs.Stays.{Stays}
use Rattle.thy_control.specs.Versions.{KeepsAll}
use Rattle.thy_control.proofs.StepLemmas.{KeepsAll-each}
use Rattle.thy_control.proofs.MergeLemmas.{MergesAll-next, same_p-merge, Stays-merge}
use Rattle.thy_control.proofs.control.Control.merge_one.Goals as goal

pub returns : goal.returns
returns c =
    let s : State = c.args.self.now in
    let merge = c.a_merge_keeps_versions.ensures in
    let others = c.a_dirty_page_keeps_others.ensures in
    let same = sym c.merge_lowest.ensures in
    let all = MergesAll-next merge others s c.recall_tables.ensures c.requires.idle c.requires.overlay in
    record {
      left = subst (λ (t : State). overlays t + 1 ≡ overlays s) same all.left;
      keeps = subst (λ (t : State). (n : Device) → IsSized s n → KeepsAll s n t n) same
          (λ n sized. KeepsAll-each s n (after_merge (next_merge s) s) n
          (same_p-merge s (next_merge s)) (all.each n sized));
      state = c.merge_lowest.ensures;
      stays = subst (λ (t : State). (n : Device) → IsSized s n → Stays s n t n) same
          (Stays-merge merge others s c.recall_tables.ensures c.requires.idle (next_merge s) refl);
    }
