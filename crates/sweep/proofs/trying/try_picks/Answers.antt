use Rattle.std.proofs.Common.{◌≡◌, ℕ, List, sym, ◌∙◌, subst, arith}
use Rattle.thy_sweep.specs.Lying.{Lying, lying}
use Rattle.sweep.specs.declared.row.Row.{Row}
use Rattle.sweep.specs.Rows.{NotesPick, TriesPicks, picks_of}
use Rattle.sweep.proofs.RowLemmas.{IsTrying, IsTrying-none, IsTrying-on}
use Rattle.sweep.proofs.trying.try_picks.Goals as goal

pub loop-i-init : goal.loop-i-init
loop-i-init g c = record {
  room = c.requires.room;
  trying =
      (let K = g.M.Computer.kind in
      let d : Lying = lying g.N.OverMemory.levels (g.N.OverMemory.memory c.args.nvm.now) (g.N.Nvm.device c.args.nvm.now) in
      let row : Row = c.args.row.now in
      subst (λ (numbers : List ℕ). IsTrying K c.args.plan.now d c.args.mix.now c.args.asked.now 0 numbers row row)
      (sym c.new-numbers.ensures.items) (IsTrying-none K c.args.plan.now d c.args.mix.now c.args.asked.now row));
}

pub loop-i-preserved : goal.loop-i-preserved
loop-i-preserved g c =
    let K = g.M.Computer.kind in
    let plan = c.args.plan.now in
    let d : Lying = lying g.N.OverMemory.levels (g.N.OverMemory.memory c.args.nvm.now) (g.N.Nvm.device c.args.nvm.now) in
    let mix = c.args.mix.now in
    let before = c.loop-i.numbers.items in
    let after = c.note_pick.new.numbers.items in
    record {
      room = c.in_ok-room.ensures.room;
      trying = IsTrying-on K plan d mix c.args.asked.now c.loop-i.i before after c.args.row.now c.loop-i.row c.note_pick.new.row
          c.loop-i.invariant.trying
          (subst (λ k. NotesPick K c.args.asked.now.compared plan d mix k before after c.loop-i.row c.note_pick.new.row) c.pick-pick.ensures c.in_ok-room.ensures.tried);
    }

pub returns-clause-tried : goal.returns-clause-tried
returns-clause-tried g c =
    let d : Lying = lying g.N.OverMemory.levels (g.N.OverMemory.memory c.args.nvm.now) (g.N.Nvm.device c.args.nvm.now) in
    let l = c.loop-i in
    let end : l.i ≡ picks_of c.args.asked.now = (let e : l.i ≡ c.picks-i-end.result = omega (arith, c.loop-i-test.false, l.auto.i-end) in e ∙ c.picks-i-end.ensures) in
    subst (λ k. TriesPicks g.M.Computer.kind c.args.plan.now d c.args.mix.now c.args.asked.now k c.args.row.now l.row) end l.invariant.trying.so_far
