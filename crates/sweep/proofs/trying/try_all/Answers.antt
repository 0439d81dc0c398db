use Rattle.std.proofs.Common.{◌≡◌, ◌<◌, ◌≤◌, ℕ, List, [], length, take, get_or, sym, ◌∙◌, ap, subst, arith}
use Rattle.std.proofs.lemmas.List.{take_all, take_more}
use Rattle.thy_block.specs.declared.block.Block.{Block}
use Rattle.thy_block.specs.Device.{Device}
use Rattle.thy_sweep.specs.Choices.{AreNumbered, count_of, places_of}
use Rattle.thy_sweep.specs.Images.{crash_images}
use Rattle.thy_sweep.specs.Lying.{Lying, lying}
use Rattle.thy_sweep.proofs.ChoiceLemmas.{numbers_images}
use Rattle.sweep.specs.Rows.{TriesImages}
use Rattle.sweep.proofs.RowLemmas.{TriesImages-none, TriesImages-on}
use Rattle.sweep.proofs.trying.try_all.Goals as goal

pub loop-number-init : goal.loop-number-init
loop-number-init g c = record {
  room = c.requires.room;
  tried = TriesImages-none g.M.Computer.kind c.args.part c.args.plan.now (lying g.N.OverMemory.levels (g.N.OverMemory.memory c.args.nvm.now) (g.N.Nvm.device c.args.nvm.now)) c.args.mix.now c.args.row.now;
}

pub loop-number-preserved : goal.loop-number-preserved
loop-number-preserved g c =
    let K = g.M.Computer.kind in
    let plan = c.args.plan.now in
    let n : Device = g.N.OverMemory.memory c.args.nvm.now in
    let d : Lying = lying g.N.OverMemory.levels (g.N.OverMemory.memory c.args.nvm.now) (g.N.Nvm.device c.args.nvm.now) in
    let mix = c.args.mix.now in
    let old = c.args.row.now in
    let new = c.note_number.new.row in
    let i = c.loop-number.number in
    let numbers : AreNumbered n = numbers_images n in
    let count : c.args.count ≡ count_of (places_of n) = c.requires.count ∙ ap count_of c.requires.choices in
    let below : i < count_of (places_of n) = subst (λ (k : ℕ). i < k) count c.loop-number-test.true in
    let less : i < length (crash_images n) = subst (λ (k : ℕ). i < k) numbers.count below in
    let one = c.in_ok-room.ensures.tried in
    let is : one.one.image ≡ get_or (crash_images n) i [] = one.is ∙ sym (numbers.each i below) in
    record {
      room = c.in_ok-room.ensures.room;
      tried =
          subst (λ (images : List (List Block)). TriesImages K c.args.part plan d mix images old new) (sym (take_more (crash_images n) i [] less))
          (TriesImages-on K c.args.part plan d mix (take i (crash_images n)) (get_or (crash_images n) i []) i old c.loop-number.row new c.loop-number.invariant.tried one is);
    }

pub returns-clause-tried : goal.returns-clause-tried
returns-clause-tried g c =
    let n : Device = g.N.OverMemory.memory c.args.nvm.now in
    let d : Lying = lying g.N.OverMemory.levels (g.N.OverMemory.memory c.args.nvm.now) (g.N.Nvm.device c.args.nvm.now) in
    let l = c.loop-number in
    let count : c.args.count ≡ length (crash_images n) = c.requires.count ∙ ap count_of c.requires.choices ∙ (numbers_images n).count in
    let end : length (crash_images n) ≤ l.number = omega (arith, count, c.loop-number-test.false) in
    subst (λ (images : List (List Block)). TriesImages g.M.Computer.kind c.args.part c.args.plan.now d c.args.mix.now images c.args.row.now l.row)
    (take_all l.number (crash_images n) end) l.invariant.tried
