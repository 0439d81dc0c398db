use Rattle.std.proofs.Common.{◌≡◌, ℕ, length, refl, ◌∙◌, ap, arith}
use Rattle.std.proofs.lemmas.List.{length-replicate}
use Rattle.thy_block.specs.declared.parameters.Parameters.{Parameters}
use Rattle.thy_control.specs.Boot.{with_listed_count}
use Rattle.thy_control.specs.State.{State}
use Rattle.thy_layout.specs.Files.{blocks_of}
use Rattle.thy_thynvm_parts.proofs.BootSlotLemmas.{count_within, HasFirstCounts-more, all_counts}
use Rattle.thy_thynvm_parts.proofs.counts.list_each.Goals as goal

pub loop-page-init : goal.loop-page-init
loop-page-init c = record {
  booting = c.requires.booting;
  long = ap length c.requires.none ∙ length-replicate {A = ℕ} c.args.geometry.now.pages 0;
  each = λ k l. absurd (omega (arith, l));
  same = refl;
}

pub list_count-requires-clause-may : goal.list_count-requires-clause-may
list_count-requires-clause-may c =
    let pages = ap (λ (q : Parameters). q.pages) c.numbers-pages.ensures.same in
    let same : c.loop-page.control.p ≡ c.args.geometry.now = ap (λ (x : State). x.p) c.loop-page.invariant.same ∙ c.requires.geometry in
    let all = ap (λ (q : Parameters). q.pages) same in
    let within = count_within c.args.geometry.now (blocks_of c.args.slot.now) c.loop-page.page c.requires.fine (omega (arith, pages)) in
    record { page = omega (arith, pages, all); within = omega (arith, within, c.listed_count.ensures) }

pub loop-page-preserved : goal.loop-page-preserved
loop-page-preserved c =
    let pages = ap (λ (q : Parameters). q.pages) c.numbers-pages.ensures.same in
    HasFirstCounts-more c.args.geometry.now (blocks_of c.args.slot.now) c.loop-page.page c.args.control.now c.loop-page.control c.list_count.new.self
    (omega (arith, pages)) c.loop-page.invariant
    (c.list_count.ensures.state
    ∙ ap (λ (n : ℕ). with_listed_count c.loop-page.page n c.loop-page.control) c.listed_count.ensures) c.list_count.ensures.booting

pub returns-clause-counts : goal.returns-clause-counts
returns-clause-counts c =
    let pages = ap (λ (q : Parameters). q.pages) c.numbers-pages.ensures.same in
    all_counts c.args.geometry.now (blocks_of c.args.slot.now) c.loop-page.page c.args.control.now c.loop-page.control
    (omega (arith, pages)) c.loop-page.invariant
