use Rattle.std.proofs.Common.{◌≡◌, ◌<◌, length, get_or, sym, ◌∙◌, ap, arith}
use Rattle.std.proofs.lemmas.List.{get_or_default}
use Rattle.thy_cache.specs.Ways.{Ways, line_at}
use Rattle.thy_cache.specs.Contents.{Contents, no_ways, set_at, set_of}
use Rattle.thy_cache.proofs.AgreeLemmas.{none_is_none}
use Rattle.thy_cache.proofs.LocationLaws.{IsLocation-of, location-inside}
use Rattle.thy_cache.proofs.cache.Cache.line_in.Goals as goal

pub unreachable-requires : goal.unreachable-requires
unreachable-requires c =
    let now : Contents = c.args.self.now in
    let ways : Ways = c.index.result.now in
    let location = IsLocation-of now c.args.b c.args.location c.requires in
    let sound : 0 < length now.sets = omega (arith, c.self.invariant.some_set, ap (λ (v : Contents). length v.sets) c.self.view_is) in
    let inside : c.args.location.set < length now.sets = omega (arith, location.set, location-inside now c.args.b sound) in
    let same : ways ≡ set_of now c.args.b
    = c.index.ensures
    ∙ ap (λ (v : Contents). get_or v.sets c.args.location.set ways) c.self.view_is
    ∙ get_or_default now.sets c.args.location.set ways no_ways inside
    ∙ ap (set_at now) location.set in
    none_is_none location.line (sym c.in-None.is ∙ c.line_ref.ensures ∙ ap (λ (s : Ways). line_at s c.args.location.way) same ∙ location.stands)
