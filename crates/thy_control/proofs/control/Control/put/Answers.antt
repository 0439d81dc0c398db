use Rattle.std.proofs.Common.{◌≡◌, ℕ, ◌+◌, ◌<◌, length, sym, ◌∙◌, ap, subst, arith}
use Rattle.thy_block.specs.Device.{Device}
use Rattle.thy_block.specs.Geometry.{memory_blocks}
use Rattle.thy_table.specs.Places.{image_blocks, IsPlace}
use Rattle.thy_block.proofs.BasicLemmas.{OnErr-of}
use Rattle.thy_table.specs.Listing.{IsListing, free_count}
use Rattle.thy_table.specs.declared.cell.Cell.{Cell}
use Rattle.thy_table.specs.declared.cell.StoreRule.{StoreRule}
use Rattle.thy_table.specs.Devices.{Devices}
use Rattle.thy_control.specs.Keys.{block_key, page_key}
use Rattle.thy_control.specs.Find.{index_for}
use Rattle.thy_table.specs.BlockEntry.{new_entry}
use Rattle.thy_control.specs.StoredTables.{answer_of}
use Rattle.thy_control.specs.State.{State}
use Rattle.thy_control.specs.Rules.{rule_for, cell_before}
use Rattle.thy_control.specs.Overlay.{covers}
use Rattle.thy_control.proofs.CursorLemmas.{AreCursors-after, control_is}
use Rattle.thy_control.proofs.MarkLemmas.{AreWorkCounts-after, marks-small, btt_most}
use Rattle.thy_control.proofs.StateLemmas.{IsPlace-store, subst_two}
use Rattle.thy_control.proofs.PutLemmas.{has_free, AreSoundTables-after, IsWithin-before, way_rule, way_table, way_cell, way_place, way_after, way_devices, way_state, way_failed, may_set_block, may_set_page, way_of, way_fails, sound_dram}
use Rattle.thy_control.specs.Cursors.{AreLowered}
use Rattle.thy_control.proofs.control.Control.put.Goals as goal

pub place_for_rule-i-requires-clause-room : goal.place_for_rule-i-requires-clause-room
place_for_rule-i-requires-clause-room g c = subst (λ (t : State). 0 < free_count t.btt) (sym c.self.view_is) c.requires.room

pub place_for_rule-i-requires-clause-before : goal.place_for_rule-i-requires-clause-before
place_for_rule-i-requires-clause-before g c =
    ap (λ (x : Cell). x.i) c.cell-found.ensures ∙ ap (λ (t : State). index_for block_key new_entry c.args.b t.btt) (sym c.self.view_is)

pub add_for_rule-requires : goal.add_for_rule-requires
add_for_rule-requires g c =
    let l : c.args.b < memory_blocks c.self.inside.geometry
    = subst (λ (t : State). c.args.b < memory_blocks t.p) (sym c.self.view_is) c.requires.block in
    omega (arith, c.self.invariant.tables.btt_numbers)

pub block_to_put-put-requires-clause-entry : goal.block_to_put-put-requires-clause-entry
block_to_put-put-requires-clause-entry g c =
    let w = way_of c.self.view_is c.cell-found.ensures c.store_rule-rule.ensures
    c.place_for_rule-i.ensures in
    let l = (IsWithin-before c.args.self.now c.args.b c.recall_tables.ensures c.requires.block).entry in
    subst (λ (t : State). c.place_for_rule-i.result < t.p.btt) (sym c.self.view_is)
    (omega (arith, l, ap (λ (x : Cell). x.i) (way_cell w)))

pub block_to_put-put-requires-clause-dram : goal.block_to_put-put-requires-clause-dram
block_to_put-put-requires-clause-dram g c = c.self.invariant.tables.dram_size

pub write_place-requires-clause-place : goal.write_place-requires-clause-place
write_place-requires-clause-place g c =
    let s : State = c.args.self.now in
    let w = way_of c.self.view_is c.cell-found.ensures c.store_rule-rule.ensures
    c.place_for_rule-i.ensures in
    subst_two (λ (t : State) x. IsPlace t.p x) c.self.view_is (c.store_place.ensures ∙ way_place w)
    (IsPlace-store s.p (rule_for c.args.b s) (cell_before c.args.b s)
    (IsWithin-before s c.args.b c.recall_tables.ensures c.requires.block))

pub write_place-requires-clause-sized : goal.write_place-requires-clause-sized
write_place-requires-clause-sized g c = record {
  nvm = subst (λ (t : State). length (g.N.Nvm.device c.args.nvm.now).image ≡ image_blocks t.p) (sym c.self.view_is) c.requires.sized.nvm;
  dram = c.self.invariant.tables.dram_size;
}

pub write_place-requires-clause-up : goal.write_place-requires-clause-up
write_place-requires-clause-up g c = c.requires.up

pub invariant_of-self : goal.invariant_of-self
invariant_of-self g c = record {
  tables = sound_dram c.in_err-write_place.ensures.dram c.self.invariant.tables;
  marks = c.self.invariant.marks;
  cursors = c.self.invariant.cursors;
}

pub returns-in_err-write_place-clause-kept : goal.returns-in_err-write_place-clause-kept
returns-in_err-write_place-clause-kept g c =
    OnErr-of c.from_residual.result (way_failed c.self.view_is c.in_err-write_place.ensures.dram)

pub returns-in_err-write_place-clause-err : goal.returns-in_err-write_place-clause-err
returns-in_err-write_place-clause-err g c =
    let w = way_of c.self.view_is c.cell-found.ensures c.store_rule-rule.ensures
    c.place_for_rule-i.ensures in
    OnErr-of c.from_residual.result
    (way_fails w c.args.block.now c.store_place.ensures c.block_to_put-put.ensures
    c.in_err-write_place.ensures.side c.in_err-write_place.ensures.err)

pub set_cell-requires-clause-block : goal.set_cell-requires-clause-block
set_cell-requires-clause-block g c not_frame =
    let w = way_of c.self.view_is c.cell-found.ensures c.store_rule-rule.ensures
    c.place_for_rule-i.ensures in
    may_set_block c.args.self.now c.args.b c.requires.room (way_after w c.after.ensures)
    (way_table w c.add_for_rule.ensures)
    (λ q. not_frame (way_rule w ∙ q))

pub set_cell-requires-clause-page : goal.set_cell-requires-clause-page
set_cell-requires-clause-page g c frame =
    let w = way_of c.self.view_is c.cell-found.ensures c.store_rule-rule.ensures
    c.place_for_rule-i.ensures in
    may_set_page c.args.self.now c.args.b c.requires.room (way_after w c.after.ensures)
    (ap (λ (t : State). t.ptt) c.self.view_is) (sym (way_rule w) ∙ frame)

pub count_store-requires : goal.count_store-requires
count_store-requires g c =
    let l : c.args.b < memory_blocks c.self.inside.geometry
    = subst (λ (t : State). c.args.b < memory_blocks t.p) (sym c.self.view_is) c.requires.block in
    omega (arith, c.self.invariant.tables.counts.size)

pub returns-clause-state : goal.returns-clause-state
returns-clause-state g c =
    let w = way_of c.self.view_is c.cell-found.ensures c.store_rule-rule.ensures
    c.place_for_rule-i.ensures in
    way_state w c.args.block.now (g.N.Nvm.device c.args.nvm.now) c.after.ensures
    c.add_for_rule.ensures c.set_cell.ensures.btt c.set_cell.ensures.ptt c.count_store.ensures
    (way_devices w c.args.block.now c.store_place.ensures c.block_to_put-put.ensures
    (g.N.Nvm.device c.args.nvm.now) c.in_ok-write_place.ensures.ok)

pub invariant_of-self-2 : goal.invariant_of-self-2
invariant_of-self-2 g c =
    let s : State = c.args.self.now in
    let m : Device = g.N.Nvm.device c.args.nvm.now in
    let block = c.args.block.now in
    let marks = c.self.inside.marks in
    let cursors = c.self.inside.cursors in
    let w = way_of c.self.view_is c.cell-found.ensures c.store_rule-rule.ensures
    c.place_for_rule-i.ensures in
    let e = returns-clause-state g c in
    let before = control_is c.self.view_is c.self.invariant in
    let more = c.after-self-inside.ensures.overlaid ∙ ap (λ (k : ℕ). marks.overlaid + k)
    (ap (λ (q : StoreRule). covers q (record c.cell-found.result { i = c.place_for_rule-i.result }))
    (way_rule w)
    ∙ ap (covers (rule_for c.args.b s)) (way_cell w)) in
    let low = subst_two (λ q x. AreLowered q x cursors c.lowered-self-inside.result)
    (sym (way_rule w)) (sym (way_cell w)) c.lowered-self-inside.ensures in
    control_is (sym e) (record {
      tables = AreSoundTables-after c.args.b block s m c.recall_tables.ensures c.requires.sized
          c.requires.whole c.requires.block c.requires.room
          (subst (λ (t : State). IsListing block_key t.btt) e c.recall_lists_once.ensures)
          (subst (λ (t : State). IsListing page_key t.ptt) e c.recall_lists_once-2.ensures);
      marks = AreWorkCounts-after c.args.b block s m marks c.after-self-inside.result before.marks
          (has_free s.btt c.requires.room) more
          c.after-self-inside.ensures.promoted;
      cursors = AreCursors-after c.args.b block s m cursors c.lowered-self-inside.result
          before.cursors (has_free s.btt c.requires.room) low;
    })

pub returns-clause-nvm : goal.returns-clause-nvm
returns-clause-nvm g c =
    let w = way_of c.self.view_is c.cell-found.ensures c.store_rule-rule.ensures
    c.place_for_rule-i.ensures in
    ap (λ (x : Devices). x.nvm)
    (way_devices w c.args.block.now c.store_place.ensures c.block_to_put-put.ensures
    (g.N.Nvm.device c.args.nvm.now) c.in_ok-write_place.ensures.ok)

pub returns-clause-answer : goal.returns-clause-answer
returns-clause-answer g c =
    let w = way_of c.self.view_is c.cell-found.ensures c.store_rule-rule.ensures
    c.place_for_rule-i.ensures in
    c.answer.ensures ∙ ap answer_of (way_rule w)

pub after-self-inside-requires : goal.after-self-inside-requires
after-self-inside-requires g c =
    let inside = c.self.invariant in
    omega (
      arith,
      marks-small _ c.self.inside.marks inside.tables inside.marks,
      btt_most
          c.self.inside.geometry inside.tables.range,
    )
