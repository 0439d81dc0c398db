use Rattle.std.proofs.Common.{◌≡◌, ◌<◌, true, List, ℕ, length, Option, None, sym, ◌∙◌, ap, arith}
use Rattle.std.proofs.lemmas.List.{get_or_default}
use Rattle.thy_cache.specs.declared.line.Line.{Line}
use Rattle.thy_cache.specs.Ways.{Ways, holds, line_at, way_of}
use Rattle.thy_cache.proofs.SingleLemmas.{way_of-held}
use Rattle.thy_cache.proofs.WaysLemmas.{latest_inside}
use Rattle.thy_cache.proofs.ways.WaySet.latest_of.Goals as goal

pub index-requires : goal.index-requires
index-requires c =
    omega (arith, latest_inside c.self.inside.lines.items c.self.inside.order.items c.self.inside.latest c.self.invariant, c.self.inside.lines.ok.0)

pub returns-then-here : goal.returns-then-here
returns-then-here c =
    let lines : List (Option Line) = c.self.inside.lines.items in
    let latest : ℕ = c.self.inside.latest in
    let ways : Ways = record { lines = lines; order = c.self.inside.order.items } in
    let inside : latest < length lines = latest_inside lines c.self.inside.order.items latest c.self.invariant in
    let stands : c.index.result.now ≡ line_at ways latest = c.index.ensures ∙ get_or_default lines latest c.index.result.now None inside in
    let here : holds c.args.b (line_at ways latest) ≡ true = ap (holds c.args.b) (sym stands) ∙ sym c.holds-here.ensures ∙ c.if-here.true in
    ap (λ (s : Ways). way_of s c.args.b) (sym c.self.view_is) ∙ way_of-held ways c.args.b latest c.self.invariant.single inside here
