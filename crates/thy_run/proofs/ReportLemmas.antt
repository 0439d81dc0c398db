-- The lines of events, one after another.
use Rattle.std.proofs.Common.{◌≡◌, ℕ, ◌+◌, ◌<◌, true, false, List, [], ◌∷◌, ◌++◌, take, drop, length, sym, ◌∙◌, ap, append_assoc, Some}
use Rattle.std.specs.Prelude.{◌≢◌, slice_get}
use Rattle.std.specs.Prelude.{Result, Ok, Err, OnOk, OnErr, is_err}
use Rattle.std.proofs.lemmas.List.{take_more, take-append-drop}
use Rattle.std.proofs.lemmas.Option.{get_or_from_slice_get, slice_get_within}
use Rattle.thy_block.specs.Outside.{Stream, Took, TookPart}
use Rattle.thy_block.proofs.Streams.{Took-append, TookPart-append, TookPart-more}
use Rattle.thy_block.proofs.BasicLemmas.{first_empty, last_empty}
use Rattle.thy_text.specs.declared.reporting.Reporting.{Reporting}
use Rattle.thy_text.specs.Event.{Event, Reload}
use Rattle.thy_text.specs.Lines.{line_of, report_of}
use Rattle.thy_text.proofs.Histories.{report_of-append, report_of-more}
use Rattle.thy_run.specs.Sending.{Sends}

-- the first lines and one more
one_more : (reporting : Reporting) (events : List Event) (i : ℕ) (v : Event) → i < length events → slice_get events i ≡ Some v
    → report_of reporting (take (i + 1) events) ≡ report_of reporting (take i events) ++ line_of reporting v
one_more reporting events i v within is =
    ap (report_of reporting) (take_more events i Reload within
    ∙ ap (λ (x : Event). take i events ++ x ∷ []) (get_or_from_slice_get events i v Reload is))
    ∙ report_of-more reporting (take i events) v

module _ (reporting : Reporting) (events : List Event) (i : ℕ) (v : Event) (before : List ℕ) (a b c : Stream)
    (is : slice_get events i ≡ Some v) (so_far : Sends before (report_of reporting (take i events)) false a b) where
  pub lines_more : Took b c (line_of reporting v) → Sends before (report_of reporting (take (i + 1) events)) false a c
  lines_more took = let within = slice_get_within events i v is in record {
    more = so_far.more ++ line_of reporting v;
    grew = one_more reporting events i v within is ∙ ap (λ (l : List ℕ). l ++ line_of reporting v) so_far.grew
        ∙ append_assoc before so_far.more (line_of reporting v);
    sent = Took-append a b c so_far.more (line_of reporting v) so_far.sent took;
  }

  -- the report failed at a line: it was to take all the rest too
  pub lines_failed : TookPart b c (line_of reporting v) → line_of reporting v ≢ [] → Sends before (report_of reporting events) true a c
  lines_failed took due =
      let within = slice_get_within events i v is in
      let rest : List ℕ = report_of reporting (drop (i + 1) events) in
      let whole : report_of reporting events ≡ report_of reporting (take (i + 1) events) ++ rest =
      ap (report_of reporting) (sym (take-append-drop (i + 1) events)) ∙ report_of-append reporting (take (i + 1) events) (drop (i + 1) events) in
      record {
        more = so_far.more ++ line_of reporting v ++ rest;
        grew = whole ∙ ap (λ (l : List ℕ). l ++ rest)
            (one_more reporting events i v within is ∙ ap (λ (l : List ℕ). l ++ line_of reporting v) so_far.grew)
            ∙ ap (λ (l : List ℕ). l ++ rest) (append_assoc before so_far.more (line_of reporting v))
            ∙ append_assoc before (so_far.more ++ line_of reporting v) rest;
        sent = (
          TookPart-more a c (so_far.more ++ line_of reporting v) rest (TookPart-append a b c so_far.more (line_of reporting v) so_far.sent took),
          λ none. due (first_empty (line_of reporting v) rest
              (last_empty so_far.more (line_of reporting v ++ rest) (sym (append_assoc so_far.more (line_of reporting v) rest) ∙ none))),
        );
      }

-- what is said of a result, if it is an error, and if it is none
pub at_err : {T E : Type 0} (r : Result T E) (P : Type 0) → OnErr r P → is_err r ≡ true → P
at_err (Ok x) P h is = absurd (cc)
at_err (Err e) P h is = h

pub at_ok : {T E : Type 0} (r : Result T E) (P : Type 0) → OnOk r P → is_err r ≡ false → P
at_ok (Ok x) P h is = h
at_ok (Err e) P h is = absurd (cc)

-- what holds anyway holds of an error
pub OnErr-any : {T E : Type 0} (r : Result T E) (P : Type 0) → P → OnErr r P
OnErr-any (Ok x) P h = tt
OnErr-any (Err e) P h = h
