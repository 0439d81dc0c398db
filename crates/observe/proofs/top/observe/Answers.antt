use Rattle.std.proofs.Common.{◌≡◌, refl, sym, ◌∙◌, inl, inr, subst, string_bytes}
use Rattle.std.specs.Prelude.{IfSome, map, option_map}
use Rattle.thy_block.specs.Outside.{Stock}
use Rattle.thy_base.specs.Settings.{order_of, settings_of}
use Rattle.thy_outcome.specs.Saving.{IsPut}
use Rattle.thy_outcome.proofs.ShelfLemmas.{stock_same}
use Rattle.observe.specs.Beginning.{IsBegunOf, IsUnreadOf}
use Rattle.observe.proofs.HeadLemmas.{lent-asked}
use Rattle.observe.proofs.PuttingLemmas.{IsObserved-lacks, IsObserved-left, IsObserved-puts, Unread-asked, lent-in-range, lent-order}
use Rattle.observe.proofs.top.observe.Goals as goal

pub returns-in-Err : goal.returns-in-Err
returns-in-Err g c =
    inl (
      c.in-Err.why,
      (
        c.in-Err.ensures.refused,
        record { is_status = c.refuse.ensures.status; shelf = refl; device = refl; terminal = refl; closes = c.refuse.ensures.closes },
      ),
    )

pub beginning-requires : goal.beginning-requires
beginning-requires g c =
    lent-in-range (map string_bytes c.args.words.now) c.as_ref.result c.in-Ok.command c.as_ref.ensures.value c.in-Ok.ensures.asked

pub returns-in-Err-beginning : goal.returns-in-Err-beginning
returns-in-Err-beginning g c =
    let old : Stock = g.H.Shelf.stock c.args.shelf.now in
    let new : Stock = g.H.Shelf.stock c.beginning.new.shelf in
    let due : IsUnreadOf (option_map order_of c.in-Ok.command) old new c.in-Err-beginning.refusal =
    subst (λ o. IsUnreadOf o old new c.in-Err-beginning.refusal) (lent-order c.as_ref.result c.in-Ok.command c.as_ref.ensures.value)
    c.in-Err-beginning.ensures.refusal.1 in
    inr (inl (Unread-asked c.args.options (map string_bytes c.args.words.now) c.in-Ok.command c.in-Err-beginning.refusal _ _ _
    c.in-Err-beginning.ensures.refusal.0 c.in-Ok.ensures.asked due c.refuse-in-Err-beginning.ensures.status c.in-Err-beginning.ensures.held refl refl c.refuse-in-Err-beginning.ensures.closes))

pub returns-then-not-ran : goal.returns-then-not-ran
returns-then-not-ran g c =
    let old : Stock = g.H.Shelf.stock c.args.shelf.now in
    let middle : Stock = g.H.Shelf.stock c.beginning.new.shelf in
    let same : middle ≡ old = stock_same old middle c.in-Ok-beginning.ensures.held c.in-Ok-beginning.ensures.calm in
    inr (inr (IsObserved-left _ _ _ c.args.options c.args.out.now (map string_bytes c.args.words.now) old middle _ _ _ _
    c.observed-answer.result c.observed-answer.new.observer same c.in-Ok.ensures.free (sym c.was_begun-ran.ensures ∙ c.if-not-ran.true)
    c.observed-answer.ensures))

pub returns-in_default : goal.returns-in_default
returns-in_default g c =
    let x = c.observed-answer.new in
    let old : Stock = g.H.Shelf.stock c.args.shelf.now in
    let middle : Stock = g.H.Shelf.stock c.beginning.new.shelf in
    let same : middle ≡ old = stock_same old middle c.in-Ok-beginning.ensures.held c.in-Ok-beginning.ensures.calm in
    inr (inr (IsObserved-lacks _ _ _ c.args.options c.args.out.now (map string_bytes c.args.words.now) old middle (g.H.Shelf.stock x.shelf) _ x.nvm _
    (g.T.Sink.stream x.terminal) _ (g.R.Sink.stream x.report) _ c.observed-answer.result x.observer _ same c.in-Ok.ensures.free
    (sym c.was_begun-ran.ensures ∙ c.if-not-ran.false) c.observed-answer.ensures c.lack.ensures))

pub returns : goal.returns
returns g c =
    let x = c.observed-answer.new in
    let old : Stock = g.H.Shelf.stock c.args.shelf.now in
    let middle : Stock = g.H.Shelf.stock c.beginning.new.shelf in
    let same : middle ≡ old = stock_same old middle c.in-Ok-beginning.ensures.held c.in-Ok-beginning.ensures.calm in
    let begun : IfSome c.in-Ok-beginning.begun (IsBegunOf (option_map order_of c.in-Ok.command) middle) =
    subst (λ s. IfSome c.in-Ok-beginning.begun (IsBegunOf (option_map order_of c.in-Ok.command) s)) (sym same)
    (subst (λ o. IfSome c.in-Ok-beginning.begun (IsBegunOf o old)) (lent-order c.as_ref.result c.in-Ok.command c.as_ref.ensures.value)
    c.in-Ok-beginning.ensures.begins) in
    let known =
    lent-asked (settings_of (map string_bytes c.args.words.now)) c.as_ref-2.result c.in-Ok.command c.of-asked.result
    (lent-order c.as_ref-2.result c.in-Ok.command c.as_ref-2.ensures.value) c.of-asked.ensures c.in-Ok.ensures.known in
    inr (inr (IsObserved-puts _ _ _ c.args.options c.args.out.now (map string_bytes c.args.words.now) old middle (g.H.Shelf.stock x.shelf)
    (g.H.Shelf.stock c.put_text-why.new.shelf) _ x.nvm _ (g.T.Sink.stream x.terminal) _ (g.R.Sink.stream x.report) _ c.observed-answer.result x.observer
    c.in-Ok.command c.of-asked.result c.in-Ok-beginning.begun (string_bytes c.in-Some.text) c.put_text-why.result _ same c.in-Ok.ensures.free
    (sym c.was_begun-ran.ensures ∙ c.if-not-ran.false) c.observed-answer.ensures c.in-Ok.ensures.asked known begun c.in-Some.ensures
    (subst (λ text. IsPut c.args.out.now text (g.H.Shelf.stock x.shelf) (g.H.Shelf.stock c.put_text-why.new.shelf) c.put_text-why.result)
    c.as_str.ensures.value c.put_text-why.ensures) c.write_report.ensures))
