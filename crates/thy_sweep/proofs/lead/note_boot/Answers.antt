use Rattle.std.proofs.Common.{◌≡◌, [], ◌∷◌, ◌++◌, false, length, sym, ◌∙◌, ap, arith}
use Rattle.std.proofs.lemmas.List.{with_items_is}
use Rattle.std.proofs.lemmas.Result.{on_ok_weaker, on_err_weaker}
use Rattle.std.specs.Vec.{with_items}
use Rattle.thy_sweep.specs.Leads.{lists, first_lead, counted_in}
use Rattle.thy_sweep.proofs.LeadLemmas.{counted_unlisted, noted_unlisted}
use Rattle.thy_sweep.proofs.lead.note_boot.Goals as goal

pub returns-clause-ok : goal.returns-clause-ok
returns-clause-ok c =
    let leads = c.args.leads.now in
    let b = c.args.boot in
    let ls = c.count_in.new.leads in
    let none : lists b.mark leads.items ≡ false
    = ap (lists b.mark) (sym c.deref_mut.ensures.value) ∙ sym c.count_in.ensures.listed ∙ c.if-count_in.false in
    let same : ls ≡ leads.items = c.count_in.ensures.counted ∙ ap (counted_in b) c.deref_mut.ensures.value ∙ counted_unlisted b leads.items none in
    let back : (with_items leads ls).items ≡ ls = with_items_is leads ls (omega (arith, ap length same, leads.ok.0)) in
    on_ok_weaker c.list.result (λ d. d ∙ ap (λ xs. xs ++ first_lead b ∷ []) (back ∙ same) ∙ sym (noted_unlisted b leads.items none)) c.list.ensures.ok

pub returns-clause-err : goal.returns-clause-err
returns-clause-err c =
    let leads = c.args.leads.now in
    let b = c.args.boot in
    let ls = c.count_in.new.leads in
    let none : lists b.mark leads.items ≡ false
    = ap (lists b.mark) (sym c.deref_mut.ensures.value) ∙ sym c.count_in.ensures.listed ∙ c.if-count_in.false in
    let same : ls ≡ leads.items = c.count_in.ensures.counted ∙ ap (counted_in b) c.deref_mut.ensures.value ∙ counted_unlisted b leads.items none in
    let back : (with_items leads ls).items ≡ ls = with_items_is leads ls (omega (arith, ap length same, leads.ok.0)) in
    on_err_weaker c.list.result (λ d. d ∙ back ∙ same) c.list.ensures.err
