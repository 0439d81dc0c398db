-- Events that come after others.
use Rattle.std.proofs.Common.{◌≡◌, ℕ, List, [], ◌∷◌, ◌++◌, refl, sym, ap, ◌∙◌, append_assoc, append-nil}
use Rattle.thy_text.specs.Event.{Event}
use Rattle.thy_text.specs.declared.reporting.Reporting.{Reporting}
use Rattle.thy_text.specs.Lines.{line_of, report_of}
use Rattle.thy_text.specs.Marks.{Marks, marks_after, marks_from, Course, AllLawful}

-- the marks after more events
pub marks_from-append : (start : ℕ) (m : Marks) (vs ws : List Event)
    → marks_from start m (vs ++ ws) ≡ marks_from start (marks_from start m vs) ws
marks_from-append start m [] ws = refl
marks_from-append start m (v ∷ vs) ws = marks_from-append start (marks_after start m v) vs ws

-- lawful events, with more after them, are lawful
pub AllLawful-append : (c : Course) (m : Marks) (vs ws : List Event) → AllLawful c m vs → AllLawful c (marks_from c.start m vs) ws
    → AllLawful c m (vs ++ ws)
AllLawful-append c m [] ws before more = more
AllLawful-append c m (v ∷ vs) ws before more = (before.0, AllLawful-append c (marks_after c.start m v) vs ws before.1 more)

-- the lines of more events
pub report_of-append : (reporting : Reporting) (vs ws : List Event)
    → report_of reporting (vs ++ ws) ≡ report_of reporting vs ++ report_of reporting ws
report_of-append reporting [] ws = refl
report_of-append reporting (v ∷ vs) ws =
    ap (λ l. line_of reporting v ++ l) (report_of-append reporting vs ws)
    ∙ sym (append_assoc (line_of reporting v) (report_of reporting vs) (report_of reporting ws))

-- the line of one more event
pub report_of-more : (reporting : Reporting) (vs : List Event) (v : Event)
    → report_of reporting (vs ++ v ∷ []) ≡ report_of reporting vs ++ line_of reporting v
report_of-more reporting vs v =
    report_of-append reporting vs (v ∷ []) ∙ ap (λ l. report_of reporting vs ++ l) (append-nil (line_of reporting v))
