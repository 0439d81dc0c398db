-- The totals of a run, and their lines.
use Rattle.std.specs.Prelude.{ℕ, ◌==◌, if◌then◌else◌, List, [], ◌∷◌, ◌++◌, length, drop, count_by, codes}
use Rattle.std.specs.Fmt.{decimal}
use Rattle.thy_run.specs.Watching.{Taken}
use Rattle.thy_text.specs.Event.{Event}
use Rattle.thy_text.specs.Lines.{joined}
use Rattle.thy_text.specs.Summary.{summary_of}
use Rattle.thy_observe.specs.declared.counting.Calls.{Calls}
use Rattle.thy_observe.specs.declared.kinds.Kind.{Kind}
use Rattle.thy_observe.specs.declared.kinds.Kind.TheVariants as kind
use Rattle.thy_observe.specs.declared.shares.Shares.{Shares}
use Rattle.thy_observe.specs.Kinds.{has_waited, how_many, index_of}
use Rattle.thy_observe.specs.Shares.{nobodys, shares_after}
use Rattle.observe.specs.declared.totals.EngineCycles.{EngineCycles}
use Rattle.observe.specs.declared.totals.HartCycles.{HartCycles}
use Rattle.observe.specs.declared.totals.Totals.{Totals}
use Rattle.observe.specs.EventText.{plus}

-- ---- the totals of these cycles

-- how many of these cycles are of a kind
abbrev pub of_kind : List Taken → Kind → ℕ
of_kind seen k = how_many (index_of k) seen

abbrev pub hart_cycles : List Taken → HartCycles
hart_cycles seen = record {
  moved = of_kind seen kind.Moved;
  retired = of_kind seen kind.Retired;
  flushed = of_kind seen kind.Flushed;
  merged = of_kind seen kind.Merged;
  promoted = of_kind seen kind.Promoted;
  sealed = of_kind seen kind.Sealed;
}

abbrev pub engine_cycles : List Taken → EngineCycles
engine_cycles seen = record {
  copied = of_kind seen kind.Copied;
  page = of_kind seen kind.Page;
  state = of_kind seen kind.State;
  table = of_kind seen kind.Table;
  barrier = of_kind seen kind.Barrier;
  commit = of_kind seen kind.Commit;
  committed = of_kind seen kind.Committed;
}

abbrev pub totals_of : List Taken → Totals
totals_of seen = record {
  cycles = length seen;
  boot = of_kind seen kind.Boot;
  nvm_drains = of_kind seen kind.NvmDrain;
  dram_drains = of_kind seen kind.DramDrain;
  hart = hart_cycles seen;
  engine = engine_cycles seen;
  waiting = count_by has_waited seen;
  shares = shares_after nobodys seen;
}

-- ---- their lines

abbrev pub all_of_hart : HartCycles → ℕ
all_of_hart h = plus (plus (plus (plus (plus h.moved h.retired) h.flushed) h.merged) h.promoted) h.sealed

abbrev pub all_of_engine : EngineCycles → ℕ
all_of_engine e = plus (plus (plus (plus (plus (plus e.copied e.page) e.state) e.table) e.barrier) e.commit) e.committed

abbrev pub cycles_by : (hart engine : ℕ) → Totals → List ℕ
cycles_by hart engine t = joined (
    codes "cycles " ∷ decimal t.cycles ∷ codes " boot " ∷ decimal t.boot ∷ codes " hart " ∷ decimal hart ∷ codes " engine " ∷ decimal engine
    ∷ codes " nvmdrain " ∷ decimal t.nvm_drains ∷ codes " dramdrain " ∷ decimal t.dram_drains ∷ codes "\n" ∷ [])

abbrev pub cycles_line : Totals → List ℕ
cycles_line t = cycles_by (all_of_hart t.hart) (all_of_engine t.engine) t

abbrev pub hart_line : HartCycles → List ℕ
hart_line h = joined (
    codes "hart moved " ∷ decimal h.moved ∷ codes " retired " ∷ decimal h.retired ∷ codes " flushed " ∷ decimal h.flushed
    ∷ codes " merged " ∷ decimal h.merged ∷ codes " promoted " ∷ decimal h.promoted ∷ codes " sealed " ∷ decimal h.sealed ∷ codes "\n" ∷ [])

-- with two harts, a line for each that says what it did
abbrev pub shares_lines : Shares → List ℕ
shares_lines s = joined (
    codes "hart0 moved " ∷ decimal s.first.moved ∷ codes " retired " ∷ decimal s.first.retired
    ∷ codes "\nhart1 moved " ∷ decimal s.second.moved ∷ codes " retired " ∷ decimal s.second.retired ∷ codes "\n" ∷ [])

abbrev pub shares_part : (harts : ℕ) → Shares → List ℕ
shares_part harts s = if harts == 2 then shares_lines s else []

abbrev pub engine_line : EngineCycles → List ℕ
engine_line e = joined (
    codes "engine copied " ∷ decimal e.copied ∷ codes " page " ∷ decimal e.page ∷ codes " state " ∷ decimal e.state
    ∷ codes " table " ∷ decimal e.table ∷ codes " barrier " ∷ decimal e.barrier ∷ codes " commit " ∷ decimal e.commit
    ∷ codes " committed " ∷ decimal e.committed ∷ codes "\n" ∷ [])

-- the lines of the cycles in which the hart waited, of the device's calls, and of the instructions that were lost
abbrev pub calls_lines : (waiting : ℕ) → Calls → (lost : ℕ) → List ℕ
calls_lines waiting c lost = joined (
    codes "waiting " ∷ decimal waiting ∷ codes "\nnvm reads " ∷ decimal c.reads ∷ codes " writes " ∷ decimal c.writes
    ∷ codes " barriers " ∷ decimal c.barriers ∷ codes "\nlost " ∷ decimal lost ∷ codes "\n" ∷ [])

-- the sums of a run's events: the line of bench without its first word
abbrev pub sums_line : List Event → List ℕ
sums_line events = drop (length (codes "summary ")) (summary_of events)

abbrev pub totals_text : (harts : ℕ) → Totals → Calls → (lost : ℕ) → List Event → List ℕ
totals_text harts t calls lost events =
    cycles_line t
    ++ (hart_line t.hart ++ (shares_part harts t.shares ++ (engine_line t.engine ++ (calls_lines t.waiting calls lost ++ sums_line events))))
