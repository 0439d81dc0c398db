-- What the top call makes of its arguments: why they are refused, and names as bytes.
use Rattle.std.proofs.Common.{◌≡◌, ℕ, ◌-◌, List, subst}
use Rattle.std.specs.Prelude.{Err}
use Rattle.thy_isa.specs.Step.{State}
use Rattle.thy_base.specs.declared.arguments.words.WordsError.{WordsError}
use Rattle.thy_base.specs.declared.arguments.words.WordsError.TheVariants.{Usage, Word, Value, Memory as WordsMemory}
use Rattle.thy_base.specs.Settings.{Job, settings_of, order_of, ShowsOrMemory}
use Rattle.thy_computer.specs.Kind.{KindOf}
use Rattle.thy_outcome.specs.declared.answer.Answer.{Answer}
use Rattle.thy_outcome.specs.Answering.{Outside, WordsDue}
use Rattle.thy_outcome.specs.Sources.{file, image}
use Rattle.thy_run.specs.Watching.{Taken}
use Rattle.thy_outcome.specs.Watching.{RunSeen, PlainSeen}

-- why words are refused
pub WordsDue-shown : (words : List (List ℕ)) (e : WordsError) → ShowsOrMemory order_of (settings_of words) (Err e) → WordsDue words e
WordsDue-shown words Usage h = h
WordsDue-shown words (Word field) h = h
WordsDue-shown words (Value field value) h = h
WordsDue-shown words (WordsMemory e) h = tt

module _ {M O : Type 0} (K : KindOf M) (has_seen : O → List Taken → Type 0) (name own : List ℕ) (job : Job) (before after : Outside)
    (a : Answer) (observer : O) (same : name ≡ own) where
  -- a run of a source under a name is one under the same name in other words
  pub RunSeen-file : RunSeen K has_seen (file name) job before after a observer
      → RunSeen K has_seen (file own) job before after a observer
  RunSeen-file h = subst (λ n. RunSeen K has_seen (file n) job before after a observer) same h

  pub RunSeen-image : RunSeen K has_seen (image name) job before after a observer
      → RunSeen K has_seen (image own) job before after a observer
  RunSeen-image h = subst (λ n. RunSeen K has_seen (image n) job before after a observer) same h

-- what is said of a name is said of its bytes
pub PlainSeen-named : {O : Type 0} (has_seen : O → List Taken → Type 0) (has_seen_last : O → ℕ → State → Type 0) (name own : List ℕ)
    (job : Job) (before after : Outside) (a : Answer) (observer : O) → name ≡ own
    → PlainSeen has_seen has_seen_last name job before after a observer → PlainSeen has_seen has_seen_last own job before after a observer
PlainSeen-named has_seen has_seen_last name own job before after a observer same h =
    subst (λ n. PlainSeen has_seen has_seen_last n job before after a observer) same h
