use Rattle.std.proofs.Common.{sym, ◌∙◌, ap, subst}
use Rattle.thy_control.specs.State.{State, AreSoundTables}
use Rattle.thy_control.specs.Seal.{Seals}
use Rattle.thy_control.specs.Versions.{KeepsCommitted}
use Rattle.thy_control.proofs.CommittedLemmas.{KeepsCommitted-sealed}
use Rattle.thy_control.proofs.SealStateLemmas.{AreSoundTables-sealed, Seals-sealed, sealed_parts, tables0-sealed, HasNoWork-sealed, free-sealed}
use Rattle.thy_control.specs.CheckpointTables.{tables0}
use Rattle.thy_table.specs.Listing.{free_count}
use Rattle.thy_control.specs.Frees.{HasNoWork}
use Rattle.thy_control.proofs.control.Control.seal.Goals as goal

pub returns : goal.returns
returns c =
    let s : State = c.args.self.now in
    let t = c.recall_tables.ensures in
    let asks = c.requires in
    let law = c.a_seal_keeps_entries_sound.ensures in
    let takes = c.a_seal_leaves_no_work.ensures in
    let keeps = c.a_listing_keeps_versions.ensures in
    let state = sealed_parts c.self.view_is c.has_few-few.ensures c.seal_blocks.ensures
    c.seal_pages.ensures c.reset.ensures in
    let back = sym state in
    let sound = AreSoundTables-sealed s t asks.idle asks.whole asks.bare law takes keeps in
    record {
      state = state;
      versions = λ n holds. subst (λ (u : State). Seals s u n) back
          (Seals-sealed s t asks.idle asks.whole asks.bare law takes keeps
          c.a_seal_takes_the_work.ensures n holds);
      committed = λ n. subst (λ (u : State). KeepsCommitted s n u n) back
          (KeepsCommitted-sealed s t sound n);
      tables = ap tables0 state ∙ tables0-sealed s t;
      idle = subst HasNoWork back (HasNoWork-sealed takes s t asks.idle asks.bare);
      free = ap (λ (u : State). free_count u.btt) state ∙ free-sealed s;
    }

pub invariant_of-self : goal.invariant_of-self
invariant_of-self c = record {
  tables = subst AreSoundTables (sym (returns c).state)
      (AreSoundTables-sealed c.args.self.now c.recall_tables.ensures c.requires.idle c.requires.whole c.requires.bare
      c.a_seal_keeps_entries_sound.ensures c.a_seal_leaves_no_work.ensures c.a_listing_keeps_versions.ensures);
  marks = c.of-self-inside.ensures;
  cursors = c.start-self-inside.ensures c.seal_pages.new.ptt c.seal_blocks.new.btt;
}
