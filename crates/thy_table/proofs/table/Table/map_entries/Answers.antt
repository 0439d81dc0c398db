use Rattle.std.proofs.Common.{length, refl, ◌∙◌, ap, arith}
use Rattle.thy_table.proofs.LiveLemmas.{mapped_to-live}
use Rattle.thy_table.proofs.MapLemmas.{mapped_to-more, length-mapped_to}
use Rattle.thy_table.proofs.table.Table.map_entries.Goals as goal

pub loop-i-init : goal.loop-i-init
loop-i-init g c = refl

pub map_entry-requires : goal.map_entry-requires
map_entry-requires g c =
    let within = c.live_end-end.ensures.within in
    omega (arith, within, ap (λ t. length t.entries) c.loop-i.invariant, length-mapped_to (g.R.Rule.gives c.args.rule.now) c.args.self.now c.loop-i.i (omega (arith, within)))

pub loop-i-preserved : goal.loop-i-preserved
loop-i-preserved g c =
    c.map_entry.ensures ∙ mapped_to-more (g.R.Rule.gives c.args.rule.now) c.args.self.now c.loop-i.self c.loop-i.i (omega (arith, c.live_end-end.ensures.within)) c.loop-i.invariant

pub returns : goal.returns
returns g c =
    c.loop-i.invariant
    ∙ mapped_to-live (g.R.Rule.gives c.args.rule.now) c.args.self.now c.loop-i.i (omega (arith, c.live_end-end.ensures.within, c.loop-i.auto.i-end))
    (λ k l. c.live_end-end.ensures.free k (omega (arith, l, c.loop-i-test.false)))
