use Rattle.std.proofs.Common.{◌≤◌, map, length, string_bytes, sym, ◌∙◌, ap, subst, arith}
use Rattle.sweep.specs.Asking.{Takes, Texts, is_flag, option_named, texts_of}
use Rattle.sweep.specs.Asking.Takes.{NoneYet}
use Rattle.sweep.proofs.AskedLemmas.{flag-more, taken-same, text-more}
use Rattle.sweep.proofs.asked.take_given.Goals as goal
use Rattle.sweep.proofs.asked.take_given.Goals.{in-Some, in-None}

pub loop-init : goal.loop-init
loop-init c =
    let words = map string_bytes c.args.words.now.items in
    subst (λ (t : Texts). Takes words t words) (sym c.none-given.ensures) NoneYet

pub loop-preserved : goal.loop-preserved
loop-preserved c =
    let words = map string_bytes c.args.words.now.items in
    let many : 2 ≤ length c.loop.words.items = omega (arith, c.if-len-lt2.false, c.len.ensures) in
    elim c.match-name_of.branch [
      | in-Some w ↦
          taken-same string_bytes words (texts_of w.take_text-taken.new.given) _ w.take_text-taken.new.words.items _
          (ap texts_of w.given-is) (ap (λ v. v.items) w.words-is)
          (text-more string_bytes words w.in-Some.name (texts_of c.loop.given) (texts_of w.take_text-taken.new.given) c.loop.words.items
          (map string_bytes w.take_text-taken.new.words.items) c.index.result.now many c.index.ensures
          (ap option_named (sym c.as_str.ensures.value) ∙ sym c.name_of.ensures ∙ w.in-Some.is) c.loop.invariant
          (w.take_text-taken.ensures (sym w.taken-is ∙ c.if-not-taken.false)))
      | in-None w ↦
          taken-same string_bytes words (texts_of w.take_flag-taken.new.given) _ w.take_flag-taken.new.words.items _
          (ap texts_of w.given-is) (ap (λ v. v.items) w.words-is)
          (flag-more string_bytes words (texts_of c.loop.given) (texts_of w.take_flag-taken.new.given) c.loop.words.items
          (map string_bytes w.take_flag-taken.new.words.items) w.index-in-None-1.result.now many w.index-in-None-1.ensures
          (ap is_flag (sym w.as_str-in-None-1.ensures.value) ∙ sym w.eq.ensures ∙ w.if-eq.true) c.loop.invariant
          (w.take_flag-taken.ensures (sym w.taken-is ∙ c.if-not-taken.false)))
    ]
