use Rattle.std.proofs.Common.{◌≡◌, ◌+◌, ◌<◌, ◌^◌, ◌≤◌, ℕ, [], refl, sym, ◌∙◌, ap, subst, arith}
use Rattle.thy_block.specs.declared.nvm.Shape.{Shape}
use Rattle.thy_block.specs.Device.{Device}
use Rattle.thy_run.specs.declared.ending.Ending.{Ending}
use Rattle.thy_run.specs.Rounds.{RunEnds}
use Rattle.thy_run.specs.Sending.{Sinks, sinks}
use Rattle.thy_run.proofs.StartLemmas.{Running-first, RunEnds-limit}
use Rattle.sweep.specs.Sweeping.{IsSwept}
use Rattle.thy_run.specs.Going.{world_at}
use Rattle.sweep.proofs.KeptLemmas.{HasRows-kept, IsKeeping-none, IsKeeping-looked, acted_once}
use Rattle.sweep.proofs.SweepLemmas.{can_look, has_stayed, room_back, sized_still, stayed_ended}
use Rattle.sweep.proofs.running.sweep_run.Goals as goal

pub loop-done-init : goal.loop-done-init
loop-done-init g c =
    let n = (g.N.Nvm.device c.args.nvm.now) in
    record {
      rows = IsKeeping-none g.M.Computer.kind c.args.plan.now n g.N.OverMemory.levels c.args.asked.now c.args.watch.now.account n c.requires.closed c.requires.fresh c.requires.unkept
          c.requires.same;
      compared = c.requires.compared;
      swept = record {
        turns = [];
        running = Running-first g.M.Computer.kind g.met.M.Computer.lawful c.args.plan.now c.in-Ok.progress n (g.T.Sink.stream c.args.terminal.now)
            (g.R.Sink.stream c.args.report.now) c.requires.planned c.requires.fitted c.in-Ok.ensures;
        room = record {
          dram = c.in-Ok-new.ensures.dram;
          blocks = ap (λ (s : Shape). s.blocks) c.in-Ok-new.ensures.spare ∙ c.requires.blocks;
          queue = ap (λ (s : Shape). s.queue) c.in-Ok-new.ensures.spare ∙ c.requires.queue;
          cuts = subst (λ k. k < 2 ^ 64) (sym (ap (λ (s : Shape). s.cuts) c.in-Ok-new.ensures.spare)) c.requires.cuts;
        };
      };
    }

pub single-requires-clause-running : goal.single-requires-clause-running
single-requires-clause-running g c =
    let h = c.loop-done.invariant.swept in
    ((g.N.Nvm.device c.args.nvm.now), h.turns, g.T.Sink.stream c.args.terminal.now, g.R.Sink.stream c.args.report.now, h.running)

pub single-requires-clause-few : goal.single-requires-clause-few
single-requires-clause-few g c =
    let limit : c.numbers-limit.result.limit ≡ c.args.plan.now.geometry.limit = ap (λ p. p.limit) c.numbers-limit.ensures.same in
    subst (λ (l : ℕ). c.loop-done.done < l) limit c.loop-done-test.true

-- the device has blocks after the cycle
pub recall_lying-requires : goal.recall_lying-requires
recall_lying-requires g c =
    let h = c.loop-done.invariant.swept in
    let n = (g.N.Nvm.device c.args.nvm.now) in
    let x = c.single.new in
    let before : Sinks = sinks (g.T.Sink.stream c.args.terminal.now) (g.R.Sink.stream c.args.report.now) in
    let limit : c.numbers-limit.result.limit ≡ c.args.plan.now.geometry.limit = ap (λ p. p.limit) c.numbers-limit.ensures.same in
    let few : c.loop-done.done + 1 ≤ c.args.plan.now.geometry.limit = omega (arith, c.loop-done-test.true, limit) in
    let made = c.in-Goes.ensures n h.turns before.terminal before.report h.running in
    record {
      some = sized_still g.M.Computer.kind g.met.M.Computer.lawful c.args.plan.now n g.N.OverMemory.levels x.progress (g.N.Nvm.device x.nvm) (c.loop-done.done + 1) before
          (sinks (g.T.Sink.stream x.terminal) (g.R.Sink.stream x.report)) c.loop-done.room c.requires.planned few c.requires.sized
          (record { turns = made.0; running = made.1; room = h.room });
    }

-- an image can be tried after the cycle
pub look-requires-clause-can : goal.look-requires-clause-can
look-requires-clause-can g c =
    let h = c.loop-done.invariant.swept in
    let n = (g.N.Nvm.device c.args.nvm.now) in
    let x = c.single.new in
    let before : Sinks = sinks (g.T.Sink.stream c.args.terminal.now) (g.R.Sink.stream c.args.report.now) in
    let limit : c.numbers-limit.result.limit ≡ c.args.plan.now.geometry.limit = ap (λ p. p.limit) c.numbers-limit.ensures.same in
    let few : c.loop-done.done + 1 ≤ c.args.plan.now.geometry.limit = omega (arith, c.loop-done-test.true, limit) in
    let made = c.in-Goes.ensures n h.turns before.terminal before.report h.running in
    can_look g.M.Computer.kind g.met.M.Computer.lawful c.args.plan.now n g.N.OverMemory.levels x.progress (g.N.Nvm.device x.nvm) (c.loop-done.done + 1) before (sinks (g.T.Sink.stream x.terminal) (g.R.Sink.stream x.report))
    c.loop-done.room c.requires.planned few c.requires.sized (record { turns = made.0; running = made.1; room = h.room }) (g.N.OverMemory.memory x.nvm) c.recall_lying.ensures

pub loop-done-preserved : goal.loop-done-preserved
loop-done-preserved g c =
    let h = c.loop-done.invariant.swept in
    let n = (g.N.Nvm.device c.args.nvm.now) in
    let x = c.single.new in
    let before : Sinks = sinks (g.T.Sink.stream c.args.terminal.now) (g.R.Sink.stream c.args.report.now) in
    let limit : c.numbers-limit.result.limit ≡ c.args.plan.now.geometry.limit = ap (λ p. p.limit) c.numbers-limit.ensures.same in
    let few : c.loop-done.done + 1 ≤ c.args.plan.now.geometry.limit = omega (arith, c.loop-done-test.true, limit) in
    let made = c.in-Goes.ensures n h.turns before.terminal before.report h.running in
    let here : IsSwept g.M.Computer.kind c.args.plan.now n g.N.OverMemory.levels x.progress (g.N.Nvm.device x.nvm) (c.loop-done.done + 1) before
    (sinks (g.T.Sink.stream x.terminal) (g.R.Sink.stream x.report)) c.loop-done.room
    = record { turns = made.0; running = made.1; room = h.room } in
    record {
      rows = IsKeeping-looked g.M.Computer.kind c.args.plan.now n g.N.OverMemory.levels c.args.asked.now (g.N.Nvm.device c.loop-done.nvm) (g.N.OverMemory.memory x.nvm) (g.N.Nvm.device x.nvm) x.progress.mix c.loop-done.done
          (world_at x.progress (g.N.Nvm.device x.nvm) (c.loop-done.done + 1) made.0) c.loop-done.watch.account c.look.new.watch.account made.1.goes.ran refl refl
          (acted_once g.M.Computer.kind c.args.plan.now c.loop-done.progress x.progress (g.N.Nvm.device c.loop-done.nvm) (g.N.Nvm.device x.nvm) c.loop-done.done h.turns made.0 c.in-Goes.stepped made.2)
          c.loop-done.invariant.rows c.in-Ok-look.ensures.looks;
      compared = c.look.ensures.compared ∙ c.loop-done.invariant.compared;
      swept = record {
        turns = made.0;
        running = made.1;
        room = room_back g.M.Computer.kind g.met.M.Computer.lawful c.args.plan.now n g.N.OverMemory.levels x.progress (g.N.Nvm.device x.nvm) (c.loop-done.done + 1) before
            (sinks (g.T.Sink.stream x.terminal) (g.R.Sink.stream x.report)) c.loop-done.room c.requires.planned few c.requires.sized here (g.N.OverMemory.memory x.nvm) c.recall_lying.ensures c.in-Ok-look.next c.in-Ok-look.ensures.room;
      };
    }

-- ---- its rows

pub returns-in-Stops-clause-rows : goal.returns-in-Stops-clause-rows
returns-in-Stops-clause-rows g c =
    let cycles = ap (λ (e : Ending). e.cycles) c.end.ensures in (
      c.loop-done.done,
      omega (arith, cycles),
      HasRows-kept g.M.Computer.kind c.args.plan.now (g.N.Nvm.device c.args.nvm.now) g.N.OverMemory.levels c.args.asked.now c.loop-done.done c.loop-done.watch.account (g.N.Nvm.device c.loop-done.nvm)
          c.loop-done.invariant.rows,
    )

pub returns-in-Breaks-clause-rows : goal.returns-in-Breaks-clause-rows
returns-in-Breaks-clause-rows g c =
    let cycles = ap (λ (e : Ending). e.cycles) c.end-in-Breaks.ensures in (
      c.loop-done.done,
      omega (arith, cycles),
      HasRows-kept g.M.Computer.kind c.args.plan.now (g.N.Nvm.device c.args.nvm.now) g.N.OverMemory.levels c.args.asked.now c.loop-done.done c.loop-done.watch.account (g.N.Nvm.device c.loop-done.nvm)
          c.loop-done.invariant.rows,
    )

pub returns-clause-rows : goal.returns-clause-rows
returns-clause-rows g c =
    let cycles = ap (λ (e : Ending). e.cycles) c.end-2.ensures in (
      c.loop-done.done,
      omega (arith, cycles, c.loop-done-test.false, c.loop-done.auto.done-end),
      HasRows-kept g.M.Computer.kind c.args.plan.now (g.N.Nvm.device c.args.nvm.now) g.N.OverMemory.levels c.args.asked.now c.loop-done.done c.loop-done.watch.account (g.N.Nvm.device c.loop-done.nvm)
          c.loop-done.invariant.rows,
    )

pub returns-then-ends_at-clause-rows : goal.returns-then-ends_at-clause-rows
returns-then-ends_at-clause-rows g c =
    let h = c.loop-done.invariant.swept in
    let n : Device = (g.N.Nvm.device c.args.nvm.now) in
    let x = c.single.new in
    let made = c.in-Goes.ensures n h.turns (g.T.Sink.stream c.args.terminal.now) (g.R.Sink.stream c.args.report.now) h.running in
    HasRows-kept g.M.Computer.kind c.args.plan.now n g.N.OverMemory.levels c.args.asked.now (c.loop-done.done + 1) c.look.new.watch.account (g.N.Nvm.device x.nvm)
    (IsKeeping-looked g.M.Computer.kind c.args.plan.now n g.N.OverMemory.levels c.args.asked.now (g.N.Nvm.device c.loop-done.nvm) (g.N.OverMemory.memory x.nvm) (g.N.Nvm.device x.nvm) x.progress.mix c.loop-done.done
    (world_at x.progress (g.N.Nvm.device x.nvm) (c.loop-done.done + 1) made.0) c.loop-done.watch.account c.look.new.watch.account made.1.goes.ran refl refl
    (acted_once g.M.Computer.kind c.args.plan.now c.loop-done.progress x.progress (g.N.Nvm.device c.loop-done.nvm) (g.N.Nvm.device x.nvm) c.loop-done.done h.turns made.0 c.in-Goes.stepped made.2)
    c.loop-done.invariant.rows c.in-Ok-look.ensures.looks)

-- ---- what it leaves

-- the run stops in a cycle
pub returns-in-Stops-clause-run : goal.returns-in-Stops-clause-run
returns-in-Stops-clause-run g c =
    let h = c.loop-done.invariant.swept in
    let n : Device = (g.N.Nvm.device c.args.nvm.now) in
    let x = c.single.new in
    let t0 = g.T.Sink.stream c.args.terminal.now in
    let r0 = g.R.Sink.stream c.args.report.now in
    let ends = c.in-Stops.ensures n h.turns t0 r0 h.running in
    subst (λ (e : Ending). RunEnds g.M.Computer.kind c.args.plan.now n (g.N.Nvm.device x.nvm) e t0 (g.T.Sink.stream x.terminal) r0 (g.R.Sink.stream x.report))
    (sym c.end.ensures) ends

-- one is not done
pub returns-in-Breaks-clause-run : goal.returns-in-Breaks-clause-run
returns-in-Breaks-clause-run g c =
    let h = c.loop-done.invariant.swept in
    let n : Device = (g.N.Nvm.device c.args.nvm.now) in
    let x = c.single.new in
    let t0 = g.T.Sink.stream c.args.terminal.now in
    let r0 = g.R.Sink.stream c.args.report.now in
    let ends = c.in-Breaks.ensures n h.turns t0 r0 h.running in
    subst (λ (e : Ending). RunEnds g.M.Computer.kind c.args.plan.now n (g.N.Nvm.device x.nvm) e t0 (g.T.Sink.stream x.terminal) r0 (g.R.Sink.stream x.report))
    (sym c.end-in-Breaks.ensures) ends

-- the last cycle is done
pub returns-then-ends_at-clause-run : goal.returns-then-ends_at-clause-run
returns-then-ends_at-clause-run g c =
    let h = c.loop-done.invariant.swept in
    let n : Device = (g.N.Nvm.device c.args.nvm.now) in
    let made = c.in-Goes.ensures n h.turns (g.T.Sink.stream c.args.terminal.now) (g.R.Sink.stream c.args.report.now) h.running in
    (sym c.ends_at.ensures ∙ c.if-ends_at.true, record { progress = c.single.new.progress; turns = made.0; running = made.1 })

-- the limit is reached
pub returns-clause-run : goal.returns-clause-run
returns-clause-run g c =
    let l = c.loop-done in
    let h = l.invariant.swept in
    let n : Device = (g.N.Nvm.device c.args.nvm.now) in
    let plan = c.args.plan.now in
    let t0 = g.T.Sink.stream c.args.terminal.now in
    let r0 = g.R.Sink.stream c.args.report.now in
    let t = g.T.Sink.stream l.terminal in
    let r = g.R.Sink.stream l.report in
    let limit : c.numbers-limit.result.limit ≡ plan.geometry.limit = ap (λ p. p.limit) c.numbers-limit.ensures.same in
    let end : l.done ≡ c.numbers-limit.result.limit = omega (arith, c.loop-done-test.false, l.auto.done-end) in
    subst (λ (e : Ending). RunEnds g.M.Computer.kind plan n (g.N.Nvm.device l.nvm) e t0 t r0 r) (sym c.end-2.ensures)
    (RunEnds-limit g.M.Computer.kind plan n l.progress (g.N.Nvm.device l.nvm) l.done h.turns c.numbers-limit.result.limit t0 t r0 r c.requires.planned h.running end limit).0

-- ---- the device's size and loans

pub returns-in-Stops-clause-stays : goal.returns-in-Stops-clause-stays
returns-in-Stops-clause-stays g c =
    let n : Device = (g.N.Nvm.device c.args.nvm.now) in
    let x = c.single.new in
    stayed_ended g.M.Computer.kind g.met.M.Computer.lawful c.args.plan.now n (g.N.Nvm.device x.nvm) c.end.result (g.T.Sink.stream c.args.terminal.now)
    (g.T.Sink.stream x.terminal) (g.R.Sink.stream c.args.report.now) (g.R.Sink.stream x.report) c.requires.planned (returns-in-Stops-clause-run g c)

pub returns-in-Breaks-clause-stays : goal.returns-in-Breaks-clause-stays
returns-in-Breaks-clause-stays g c =
    let n : Device = (g.N.Nvm.device c.args.nvm.now) in
    let x = c.single.new in
    stayed_ended g.M.Computer.kind g.met.M.Computer.lawful c.args.plan.now n (g.N.Nvm.device x.nvm) c.end-in-Breaks.result (g.T.Sink.stream c.args.terminal.now)
    (g.T.Sink.stream x.terminal) (g.R.Sink.stream c.args.report.now) (g.R.Sink.stream x.report) c.requires.planned (returns-in-Breaks-clause-run g c)

pub returns-in_default-look-clause-stays : goal.returns-in_default-look-clause-stays
returns-in_default-look-clause-stays g c =
    let h = c.loop-done.invariant.swept in
    let n : Device = (g.N.Nvm.device c.args.nvm.now) in
    let x = c.single.new in
    let before : Sinks = sinks (g.T.Sink.stream c.args.terminal.now) (g.R.Sink.stream c.args.report.now) in
    let limit : c.numbers-limit.result.limit ≡ c.args.plan.now.geometry.limit = ap (λ p. p.limit) c.numbers-limit.ensures.same in
    let few : c.loop-done.done + 1 ≤ c.args.plan.now.geometry.limit = omega (arith, c.loop-done-test.true, limit) in
    let made = c.in-Goes.ensures n h.turns before.terminal before.report h.running in
    has_stayed g.M.Computer.kind g.met.M.Computer.lawful c.args.plan.now n g.N.OverMemory.levels x.progress (g.N.Nvm.device x.nvm) (c.loop-done.done + 1) before
    (sinks (g.T.Sink.stream x.terminal) (g.R.Sink.stream x.report)) c.loop-done.room c.requires.planned few c.requires.sized
    (record { turns = made.0; running = made.1; room = h.room })

pub returns-then-ends_at-clause-stays : goal.returns-then-ends_at-clause-stays
returns-then-ends_at-clause-stays g c =
    let h = c.loop-done.invariant.swept in
    let n : Device = (g.N.Nvm.device c.args.nvm.now) in
    let x = c.single.new in
    let before : Sinks = sinks (g.T.Sink.stream c.args.terminal.now) (g.R.Sink.stream c.args.report.now) in
    let limit : c.numbers-limit.result.limit ≡ c.args.plan.now.geometry.limit = ap (λ p. p.limit) c.numbers-limit.ensures.same in
    let few : c.loop-done.done + 1 ≤ c.args.plan.now.geometry.limit = omega (arith, c.loop-done-test.true, limit) in
    let made = c.in-Goes.ensures n h.turns before.terminal before.report h.running in
    has_stayed g.M.Computer.kind g.met.M.Computer.lawful c.args.plan.now n g.N.OverMemory.levels x.progress (g.N.Nvm.device x.nvm) (c.loop-done.done + 1) before
    (sinks (g.T.Sink.stream x.terminal) (g.R.Sink.stream x.report)) c.loop-done.room c.requires.planned few c.requires.sized
    (record { turns = made.0; running = made.1; room = h.room })

pub returns-clause-stays : goal.returns-clause-stays
returns-clause-stays g c =
    let l = c.loop-done in
    let n : Device = (g.N.Nvm.device c.args.nvm.now) in
    stayed_ended g.M.Computer.kind g.met.M.Computer.lawful c.args.plan.now n (g.N.Nvm.device l.nvm) c.end-2.result (g.T.Sink.stream c.args.terminal.now)
    (g.T.Sink.stream l.terminal) (g.R.Sink.stream c.args.report.now) (g.R.Sink.stream l.report) c.requires.planned (returns-clause-run g c)
