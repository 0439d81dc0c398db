-- What is answered is complete.
use Rattle.std.proofs.Common.{◌≡◌, ℕ, ◌≤◌, Bool, true, false, Option, Some, None, List, refl, ◌∙◌, subst, inl, inr}
use Rattle.std.specs.Prelude.{Ok, ◌⊎◌}
use Rattle.thy_block.specs.declared.outside.PutError.{PutError}
use Rattle.thy_block.specs.declared.outside.PutError.TheVariants.{Failed as PutFailed, Memory as PutMemory}
use Rattle.thy_isa.specs.Step.{is_running}
use Rattle.thy_run.specs.Sending.{Sent}
use Rattle.thy_base.specs.Settings.{Job, Order, compare, plain, make, settings_of}
use Rattle.thy_outcome.specs.declared.answer.Answer.{Answer}
use Rattle.thy_outcome.specs.Answering.{Around, NvmOf, Outside, MakeAnswered, PlainAnswered, RunAnswered, made_line, made_status, outside_of}
use Rattle.thy_outcome.specs.Calm.{IsAsked, IsCalm, left_alone, run_of, HasEndOf, RunCompletes, PairCompletes, CompareCompletes, PlainCompletes, MakeCompletes}
use Rattle.thy_outcome.specs.Machines.{Choice}
use Rattle.thy_outcome.specs.Orders.{Answered, OrderAnswered, WordsRefused}
use Rattle.thy_outcome.specs.Saving.{PutCounted}
use Rattle.thy_outcome.specs.Sources.{ProgramSource, file, made, image}
use Rattle.thy_outcome.proofs.CompleteLaws.{by_faults, not_risen, order_same, pair_completes, program_due, put_calm, run_completes, stands_of, words_due}
use Rattle.thy_outcome.proofs.ComparedLaws.{compare_completes}

module _ {N : Type 0} (c : Choice) (d : NvmOf N) (words : List (List ℕ)) (before after : Around N) (a : Answer) where
  abbrev old : Outside
  old = outside_of d before

  abbrev new : Outside
  new = outside_of d after

  -- the answer to the order of a run is the answer for its source
  order_answered : (source : ProgramSource) (job : Job) → OrderAnswered c d (run_of source job) before after a
      → RunAnswered (c job.config.scheme).kind source job old new a
  order_answered (file name) job h = h
  order_answered (made n) job h = h
  order_answered (image name) job h = h

  -- a refusal of arguments that ask for something says that memory ran out
  refused_words : (order : Order) → settings_of words ≡ Ok order → WordsRefused d words before after a → a.status ≡ 9
  refused_words order asked (e, due, shelf, nvm, refused) = refused.status ∙ words_due words order e asked due

  -- the answer is the answer to the order that is asked for
  asked_for : (order other : Order) → settings_of words ≡ Ok order → settings_of words ≡ Ok other → OrderAnswered c d other before after a
      → OrderAnswered c d order before after a
  asked_for order other asked is h = subst (λ x. OrderAnswered c d x before after a) (order_same words order other asked is) h

  -- a result completes the run that is asked for
  pub Completes-run : Answered c d words before after a → RunCompletes c words old new a
  Completes-run (inl refused) source job i k faults one over limit = inr (refused_words (run_of source job) i.asked refused)
  Completes-run (inr (order, asked, h)) source job i k faults one over limit =
      run_completes (c job.config.scheme).kind words old new a source job i k faults one over limit
      (order_answered source job (asked_for (run_of source job) order i.asked asked h))

  -- a run with two harts is complete too
  pub Completes-pair : Answered c d words before after a → PairCompletes c words old new a
  Completes-pair (inl refused) source job i k faults two limit = inr (inr (inl (refused_words (run_of source job) i.asked refused)))
  Completes-pair (inr (order, asked, h)) source job i k faults two limit =
      pair_completes (c job.config.scheme).kind words old new a source job i k faults limit
      (order_answered source job (asked_for (run_of source job) order i.asked asked h))

  plain_completes : (name : List ℕ) (job : Job) (i : IsAsked (plain name job) (file name) job words old.shelf) (k : ℕ) → IsCalm old new
      → is_running (left_alone i.program k).status ≡ false → k ≤ job.config.limit → PlainAnswered name job old new a
      → HasEndOf (left_alone i.program k) a
  plain_completes name job i k faults over limit (device, inl (r, due, refused)) =
      inr (refused.status ∙ program_due (file name) job old.shelf new.shelf r (stands_of i) faults.shelf due)
  plain_completes name job i k faults over limit (device, inr ran) =
      by_faults name job k old new a (stands_of i) faults over limit ran ran.terminal_failed ran.report_failed refl refl

  -- a run on the plain machine is complete
  pub Completes-plain : Answered c d words before after a → PlainCompletes words old new a
  Completes-plain (inl refused) name job i k faults over limit = inr (refused_words (plain name job) i.asked refused)
  Completes-plain (inr (order, asked, h)) name job i k faults over limit =
      plain_completes name job i k faults over limit (asked_for (plain name job) order i.asked asked h)

  -- a made program is put, unless memory ran out
  make_reported : (n : ℕ) (name : List ℕ) (failed : Bool) (why : Option PutError) → IsCalm old new
      → Sent failed old.report new.report (made_line n name why) → a.status ≡ made_status failed why
      → PutCounted name old.shelf new.shelf why → (a.status ≡ 0) ⊎ (a.status ≡ 9)
  make_reported n name false None faults sent is counted = inl is
  make_reported n name true None faults sent is counted = not_risen old.report.faults new.report.faults faults.report sent.0.rose
  make_reported n name failed (Some PutFailed) faults sent is counted = put_calm name old.shelf new.shelf faults.shelf counted
  make_reported n name false (Some (PutMemory e)) faults sent is counted = inr is
  make_reported n name true (Some (PutMemory e)) faults sent is counted = inr is

  make_completes : (n : ℕ) (name : List ℕ) → IsCalm old new → MakeAnswered n name old new a → (a.status ≡ 0) ⊎ (a.status ≡ 9)
  make_completes n name faults h = make_reported n name h.reported.failed h.why faults h.reported.sent h.reported.answers h.put.counted

  pub Completes-make : Answered c d words before after a → MakeCompletes words old new a
  Completes-make (inl refused) n name asked faults = inr (refused_words (make n name) asked refused)
  Completes-make (inr (order, is, h)) n name asked faults = make_completes n name faults (asked_for (make n name) order asked is h)

  -- each run of a comparison is complete
  pub Completes-compare : Answered c d words before after a → CompareCompletes c words old new a
  Completes-compare (inl refused) name job i k faults one over limit = inr (refused_words (compare name job) i.asked refused)
  Completes-compare (inr (order, asked, h)) name job i k faults one over limit =
      compare_completes c d name job before after a (stands_of i) k faults one over limit (asked_for (compare name job) order i.asked asked h)
