-- What holds of listing the pool.
use Rattle.std.proofs.Common.{refl, inl, arith}
use Rattle.thy_checkpoint.specs.Filling.{IsFilling}
use Rattle.thy_checkpoint.proofs.OlderLemmas.{never_older}
use Rattle.thy_images.specs.ShadowPlaces.{scheme_number}
use Rattle.thy_images.proofs.ShadowLayoutLemmas.{shadow_are_layouts}
use Rattle.thy_shadow_parts.specs.State.{State}
use Rattle.thy_shadow_parts.specs.Stores.{after_drain}
use Rattle.thy_shadow_parts.proofs.DrainLemmas.{works_drained, IsSoundState-drained}
use Rattle.thy_shadow_parts.specs.Filling.{filling_shadow, IsUnframed}
use Rattle.thy_shadow_parts.proofs.ListLemmas.{works_are_memory}
use Rattle.thy_shadow_parts.proofs.FirstLemmas.{start_fits, start_cpu, fresh_loads}
use Rattle.thy_shadow_parts.proofs.OnceLemmas.{slot_listed_once}

unframed_drained : (s : State) → IsUnframed s → IsUnframed (after_drain s)
unframed_drained s h = record { state = IsSoundState-drained s h.state; free = h.free; unbegun = h.unbegun }

pub pool_is_listed : IsFilling filling_shadow
pool_is_listed = record {
  laid = shadow_are_layouts;
  begins = λ s n commit slot lists. tt;
  next = λ s n commit slot from k lists filled found. absurd (cc);
  above = λ p commit slot from k found. absurd (cc);
  fills = λ s n commit slot k lists filled found settled sized is. absurd (cc);
  fill_acts = λ s n commit k. inl refl;
  fill_keeps = λ s commit k block. refl;
  same_keeps = λ s. refl;
  ends = λ s n commit slot from lists filled none settled long is slot_is. (tt, works_are_memory s n slot lists settled slot_is);
  renews = λ p commit slot older. absurd (never_older scheme_number p commit (omega arith) older.version);
  lists_once = slot_listed_once;
  drain_p = λ s. refl;
  drain_fresh = λ s fresh. record { unframed = unframed_drained s fresh.unframed; first = fresh.first };
  drain_lists = λ s commit slot lists. record { unframed = unframed_drained s lists.unframed; table = lists.table };
  drain_filled = λ s n k filled. tt;
  drain_whole = λ s n whole. tt;
  drain_loads = λ s n. works_drained s n;
  first_fits = start_fits;
  first_cpu = start_cpu;
  first_loads = λ s n start fresh settled. fresh_loads s n start fresh;
}
