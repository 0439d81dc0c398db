use Rattle.std.proofs.Common.{◌∙◌, ap, subst, refl, inl, inr, map, Ok}
use Rattle.std.specs.Prelude.{Result}
use Rattle.std.specs.String.{string_bytes}
use Rattle.thy_base.specs.declared.arguments.words.Command.{Command}
use Rattle.thy_base.specs.declared.arguments.words.WordsError.{WordsError}
use Rattle.thy_base.specs.Settings.{Order, run, resume, bench, compare, plain, make, job_of, order_of}
use Rattle.thy_outcome.specs.Answering.{MakeAnswered, around, nvm_of, outside_of}
use Rattle.thy_outcome.specs.Comparing.{CompareAnswered}
use Rattle.thy_commands.proofs.NameLemmas.{PlainSeen-named, RunSeen-file, RunSeen-image, WordsDue-shown}
use Rattle.thy_commands.proofs.order.carry_out.Goals as goal

pub returns-in-Ok-Run : goal.returns-in-Ok-Run
returns-in-Ok-Run g c =
    let shown : Command → Result Order WordsError = λ x. Ok (order_of x) in
    let d = nvm_of g.N.Nvm.device in
    let before = around (g.H.Shelf.stock c.args.shelf.now) c.args.nvm.now (g.T.Sink.stream c.args.terminal.now)
    (g.R.Sink.stream c.args.report.now) in
    let after = around (g.H.Shelf.stock c.run_by_scheme.new.shelf) c.run_by_scheme.new.nvm (g.T.Sink.stream c.run_by_scheme.new.terminal)
    (g.R.Sink.stream c.run_by_scheme.new.report) in
    let seen = RunSeen-file _ g.O.Observer.has_seen c.as_str.result.now
    (string_bytes c.in-Ok-Run.file) (job_of c.in-Ok-Run.job) (outside_of d before)
    (outside_of d after) c.run_by_scheme.result c.run_by_scheme.new.observer c.as_str.ensures.value c.run_by_scheme.ensures in (
      inr (
        run (string_bytes c.in-Ok-Run.file) (job_of c.in-Ok-Run.job),
        c.in-Ok-Run.ensures.exact ∙ ap shown c.in-Ok-Run.field-0-is,
        seen.0,
      ),
      seen.1,
    )

pub returns-in-Ok-Resume : goal.returns-in-Ok-Resume
returns-in-Ok-Resume g c =
    let shown : Command → Result Order WordsError = λ x. Ok (order_of x) in
    let d = nvm_of g.N.Nvm.device in
    let before = around (g.H.Shelf.stock c.args.shelf.now) c.args.nvm.now (g.T.Sink.stream c.args.terminal.now)
    (g.R.Sink.stream c.args.report.now) in
    let after = around (g.H.Shelf.stock c.run_by_scheme-in-Ok-Resume.new.shelf) c.run_by_scheme-in-Ok-Resume.new.nvm
    (g.T.Sink.stream c.run_by_scheme-in-Ok-Resume.new.terminal) (g.R.Sink.stream c.run_by_scheme-in-Ok-Resume.new.report) in
    let seen = RunSeen-image _ g.O.Observer.has_seen c.as_str-in-Ok-Resume.result.now (string_bytes c.in-Ok-Resume.image)
    (job_of c.in-Ok-Resume.job) (outside_of d before) (outside_of d after) c.run_by_scheme-in-Ok-Resume.result
    c.run_by_scheme-in-Ok-Resume.new.observer c.as_str-in-Ok-Resume.ensures.value c.run_by_scheme-in-Ok-Resume.ensures in (
      inr (
        resume (string_bytes c.in-Ok-Resume.image) (job_of c.in-Ok-Resume.job),
        c.in-Ok-Resume.ensures.exact ∙ ap shown c.in-Ok-Resume.field-0-is,
        seen.0,
      ),
      seen.1,
    )

pub returns-in-Ok-Bench : goal.returns-in-Ok-Bench
returns-in-Ok-Bench g c =
    let shown : Command → Result Order WordsError = λ x. Ok (order_of x) in
    let d = nvm_of g.N.Nvm.device in
    let before = around (g.H.Shelf.stock c.args.shelf.now) c.args.nvm.now (g.T.Sink.stream c.args.terminal.now)
    (g.R.Sink.stream c.args.report.now) in
    let after = around (g.H.Shelf.stock c.run_by_scheme-in-Ok-Bench.new.shelf) c.run_by_scheme-in-Ok-Bench.new.nvm
    (g.T.Sink.stream c.run_by_scheme-in-Ok-Bench.new.terminal) (g.R.Sink.stream c.run_by_scheme-in-Ok-Bench.new.report) in (
      inr (
        bench c.in-Ok-Bench.number (job_of c.in-Ok-Bench.job),
        c.in-Ok-Bench.ensures.exact ∙ ap shown c.in-Ok-Bench.field-0-is,
        c.run_by_scheme-in-Ok-Bench.ensures.0,
      ),
      c.run_by_scheme-in-Ok-Bench.ensures.1,
    )

pub returns-in-Ok-Compare : goal.returns-in-Ok-Compare
returns-in-Ok-Compare g c =
    let shown : Command → Result Order WordsError = λ x. Ok (order_of x) in
    let d = nvm_of g.N.Nvm.device in
    let before = around (g.H.Shelf.stock c.args.shelf.now) c.args.nvm.now (g.T.Sink.stream c.args.terminal.now)
    (g.R.Sink.stream c.args.report.now) in
    let after = around (g.H.Shelf.stock c.compare.new.shelf) c.compare.new.nvm (g.T.Sink.stream c.compare.new.terminal)
    (g.R.Sink.stream c.compare.new.report) in (
      inr (
        compare (string_bytes c.in-Ok-Compare.file) (job_of c.in-Ok-Compare.job),
        c.in-Ok-Compare.ensures.exact ∙ ap shown c.in-Ok-Compare.field-0-is,
        subst (λ name. CompareAnswered _ d name (job_of c.in-Ok-Compare.job) before after c.compare.result)
            c.as_str-name.ensures.value c.compare.ensures,
      ),
      c.requires.unseen,
    )

pub returns-in-Ok-Plain : goal.returns-in-Ok-Plain
returns-in-Ok-Plain g c =
    let shown : Command → Result Order WordsError = λ x. Ok (order_of x) in
    let d = nvm_of g.N.Nvm.device in
    let before = around (g.H.Shelf.stock c.args.shelf.now) c.args.nvm.now (g.T.Sink.stream c.args.terminal.now)
    (g.R.Sink.stream c.args.report.now) in
    let after = around (g.H.Shelf.stock c.plain_file.new.shelf) c.args.nvm.now (g.T.Sink.stream c.plain_file.new.terminal)
    (g.R.Sink.stream c.plain_file.new.report) in
    let seen = PlainSeen-named g.O.Observer.has_seen g.O.Observer.has_seen_last c.as_str-in-Ok-Plain.result.now
    (string_bytes c.in-Ok-Plain.file) (job_of c.in-Ok-Plain.job) (outside_of d before) (outside_of d after) c.plain_file.result
    c.plain_file.new.observer c.as_str-in-Ok-Plain.ensures.value (c.plain_file.ensures (g.N.Nvm.device c.args.nvm.now)) in (
      inr (
        plain (string_bytes c.in-Ok-Plain.file) (job_of c.in-Ok-Plain.job),
        c.in-Ok-Plain.ensures.exact ∙ ap shown c.in-Ok-Plain.field-0-is,
        seen.0,
      ),
      seen.1,
    )

pub returns-in-Ok-Make : goal.returns-in-Ok-Make
returns-in-Ok-Make g c =
    let shown : Command → Result Order WordsError = λ x. Ok (order_of x) in
    let d = nvm_of g.N.Nvm.device in
    let before = around (g.H.Shelf.stock c.args.shelf.now) c.args.nvm.now (g.T.Sink.stream c.args.terminal.now)
    (g.R.Sink.stream c.args.report.now) in
    let after = around (g.H.Shelf.stock c.make.new.shelf) c.args.nvm.now (g.T.Sink.stream c.args.terminal.now)
    (g.R.Sink.stream c.make.new.report) in (
      inr (
        make c.in-Ok-Make.number (string_bytes c.in-Ok-Make.name),
        c.in-Ok-Make.ensures.exact ∙ ap shown c.in-Ok-Make.field-0-is,
        subst (λ name. MakeAnswered c.in-Ok-Make.number name (outside_of d before) (outside_of d after) c.make.result)
            c.as_str-in-Ok-Make.ensures.value (c.make.ensures (g.N.Nvm.device c.args.nvm.now) (g.T.Sink.stream c.args.terminal.now)),
      ),
      c.requires.unseen,
    )

pub returns-in-Err : goal.returns-in-Err
returns-in-Err g c = (
  inl (
    c.in-Err.error,
    WordsDue-shown (map string_bytes c.args.words.now) c.in-Err.error c.in-Err.ensures.exact,
    refl,
    refl,
    record { status = c.refuse.ensures.status; events = c.refuse.ensures.events; cycles = c.refuse.ensures.cycles; shown_none = refl; held = refl; closes = c.refuse.ensures.closes },
  ),
  c.requires.unseen,
)
