use Rattle.std.proofs.Common.{◌≡◌, ◌-◌, ◌^◌, min, true, false, List, sym, ◌∙◌, ap, subst}
use Rattle.std.proofs.lemmas.Result.{on_ok_weaker}
use Rattle.thy_block.specs.Device.{Device}
use Rattle.thy_sweep.specs.Choices.{Place, count_of, places_of}
use Rattle.thy_sweep.specs.Images.{crash_images}
use Rattle.thy_sweep.specs.Lying.{Lying, lying}
use Rattle.sweep.specs.declared.row.Row.{Row}
use Rattle.sweep.specs.Rows.{TriesAsked, TriesImages, TriesPicks, picks_of, wants}
use Rattle.sweep.proofs.RowLemmas.{asked-all, asked-picks}
use Rattle.sweep.proofs.trying.try_cycle.Goals as goal

pub returns-in-Some-clause-images : goal.returns-in-Some-clause-images
returns-in-Some-clause-images g c =
    let n : Device = g.N.OverMemory.memory c.args.nvm.now in
    let d : Lying = lying g.N.OverMemory.levels (g.N.OverMemory.memory c.args.nvm.now) (g.N.Nvm.device c.args.nvm.now) in
    let old : Row = record c.args.row.now { images = c.count-images.result } in
    on_ok_weaker c.try_all.result
    (λ (h : TriesImages g.M.Computer.kind c.args.asked.now.compared c.args.plan.now d c.args.mix (crash_images n) old c.try_all.new.row).
    h.has.images ∙ c.count-images.ensures ∙ ap (λ (ps : List Place). min (count_of ps) (2 ^ 128 - 1)) (c.in-Ok.ensures ∙ ap places_of c.below.ensures))
    c.try_all.ensures.tried

pub returns-in-Some-clause-tried : goal.returns-in-Some-clause-tried
returns-in-Some-clause-tried g c =
    let K = g.M.Computer.kind in
    let plan = c.args.plan.now in
    let n : Device = g.N.OverMemory.memory c.args.nvm.now in
    let d : Lying = lying g.N.OverMemory.levels (g.N.OverMemory.memory c.args.nvm.now) (g.N.Nvm.device c.args.nvm.now) in
    let a = c.args.asked.now in
    let old : Row = record c.args.row.now { images = c.count-images.result } in
    let new : Row = c.try_all.new.row in
    let all : wants a.all (places_of n) ≡ true = ap (wants a.all) (sym (c.in-Ok.ensures ∙ ap places_of c.below.ensures)) ∙ c.in-Some.ensures.some in
    on_ok_weaker c.try_all.result
    (λ (h : TriesImages K a.compared plan d c.args.mix (crash_images n) old new).
    subst (λ k. TriesAsked K plan d c.args.mix a (record c.args.row.now { images = k }) new) (sym h.has.images)
    (asked-all K plan d c.args.mix a old new all h))
    c.try_all.ensures.tried

pub returns-clause-images : goal.returns-clause-images
returns-clause-images g c =
    let n : Device = g.N.OverMemory.memory c.args.nvm.now in
    let d : Lying = lying g.N.OverMemory.levels (g.N.OverMemory.memory c.args.nvm.now) (g.N.Nvm.device c.args.nvm.now) in
    let old : Row = record c.args.row.now { images = c.count-images.result } in
    on_ok_weaker c.try_picks.result
    (λ (h : TriesPicks g.M.Computer.kind c.args.plan.now d c.args.mix c.args.asked.now (picks_of c.args.asked.now) old c.try_picks.new.row).
    h.has.images ∙ c.count-images.ensures ∙ ap (λ (ps : List Place). min (count_of ps) (2 ^ 128 - 1)) (c.in-Ok.ensures ∙ ap places_of c.below.ensures))
    c.try_picks.ensures.tried

pub returns-clause-tried : goal.returns-clause-tried
returns-clause-tried g c =
    let K = g.M.Computer.kind in
    let plan = c.args.plan.now in
    let n : Device = g.N.OverMemory.memory c.args.nvm.now in
    let d : Lying = lying g.N.OverMemory.levels (g.N.OverMemory.memory c.args.nvm.now) (g.N.Nvm.device c.args.nvm.now) in
    let a = c.args.asked.now in
    let old : Row = record c.args.row.now { images = c.count-images.result } in
    let new : Row = c.try_picks.new.row in
    let few : wants a.all (places_of n) ≡ false = ap (wants a.all) (sym (c.in-Ok.ensures ∙ ap places_of c.below.ensures)) ∙ c.in-None.ensures.none in
    on_ok_weaker c.try_picks.result
    (λ (h : TriesPicks K plan d c.args.mix a (picks_of a) old new).
    subst (λ k. TriesAsked K plan d c.args.mix a (record c.args.row.now { images = k }) new) (sym h.has.images)
    (asked-picks K plan d c.args.mix a old new few h))
    c.try_picks.ensures.tried
