-- What the plain machine returns for a task.
use Rattle.std.proofs.Common.{◌≡◌, ℕ, ◌-◌, Bool, List, [], refl, sym, ◌∙◌, ap, subst, arith}
use Rattle.thy_block.specs.declared.parameters.Parameters.{Parameters}
use Rattle.thy_block.specs.Bytes.{bytes_of}
use Rattle.thy_block.specs.Outside.{Stream}
use Rattle.thy_elf.specs.Image.{Contents, contents_of}
use Rattle.thy_isa.specs.declared.state.MachState.{MachState}
use Rattle.thy_isa.specs.OnBlocks.{setting_for}
use Rattle.thy_isa.specs.Step.{State, state_of, is_running, steps}
use Rattle.thy_base.specs.Config.{parameters_of}
use Rattle.thy_plain.specs.Machine.{Machine, loaded, after_steps, StopsAt as MachineStops}
use Rattle.thy_plain.specs.Start.{start_state}
use Rattle.thy_text.specs.History.{of_run}
use Rattle.thy_text.specs.Lines.{ended_lines}
use Rattle.thy_base.specs.Settings.{Job}
use Rattle.thy_outcome.specs.declared.answer.Answer.{Answer}
use Rattle.thy_run.specs.declared.ending.Stop.{Stop}
use Rattle.thy_files.specs.declared.source.Program.{Program}
use Rattle.thy_computer.specs.Origin.{at, runs_at}
use Rattle.thy_outcome.specs.Answering.{Outside, IsPlainOf, ClosesRun, StopsAt, plain_stop, stop_line, stop_status}
use Rattle.thy_files.specs.Beginnings.{IsProgramOf}
use Rattle.thy_outcome.specs.Sources.{Beginning, file, origin_for}
use Rattle.thy_run.specs.Sending.{Sent}
use Rattle.thy_outcome.proofs.EndLaws.{at_is}

-- what a program file begins by its steps
begun_steps : (job : Job) (b : Beginning) (input : List ℕ) (first : State) (k : ℕ) → b.start ≡ first → first.count ≡ 0
    → at (origin_for job b input) k ≡ steps (setting_for (parameters_of job.config) input) k first
begun_steps job b input first k is none =
    at_is (origin_for job b input) k refl
    ∙ ap (λ (s : State). steps (setting_for (parameters_of job.config) input) (k - s.count) s) is
    ∙ ap (λ j. steps (setting_for (parameters_of job.config) input) j first) (let e : k - first.count ≡ k = omega (arith, none) in e)

-- the run of a program stops in the state in which the machine stops that was loaded with the program
stops_at : (job : Job) (b : Beginning) (contents : Contents) (input : List ℕ) (limit k : ℕ)
    → b.start ≡ start_state (parameters_of job.config) contents → MachineStops (loaded (parameters_of job.config) contents input) limit k
    → StopsAt (origin_for job b input) limit k
stops_at job b contents input limit k is s = record {
  within = s.within;
  ran = λ j less. runs_is j ∙ s.ran j less;
  over = λ less. runs_is k ∙ s.over less;
}
  where
    runs_is : (j : ℕ)
        → runs_at (origin_for job b input) j
        ≡ is_running (steps (setting_for (parameters_of job.config) input) j (start_state (parameters_of job.config) contents)).status
    runs_is j = ap (λ (s : State). is_running s.status) (begun_steps job b input (start_state (parameters_of job.config) contents) j is refl)

-- a program's run on the plain machine is the run of its job, and stops in this state
pub IsPlainOf-ran : (name : List ℕ) (job : Job) (before after : Outside) (p : Program) (first last : Machine) (s : MachState) (limit k : ℕ)
    (terminal_failed report_failed : Bool) (stop : Stop) (a : Answer) (reported : Stream) → IsProgramOf (file name) job before.shelf p
    → after.shelf ≡ before.shelf → first ≡ loaded p.geometry (contents_of p.image) (bytes_of p.input) → limit ≡ p.geometry.limit
    → MachineStops first limit k → last ≡ after_steps k first → state_of s ≡ last.state
    → Sent terminal_failed before.terminal after.terminal (bytes_of s.console)
    → Sent report_failed before.report reported (ended_lines job.digest s.status s.count (bytes_of s.memory))
    → stop ≡ plain_stop terminal_failed report_failed s.status
    → ClosesRun report_failed (stop_line limit stop) reported after.report → a.events ≡ of_run [] → a.cycles ≡ k
    → a.status ≡ stop_status stop → (h : IsPlainOf name job before after a) × (h.last ≡ state_of s)
IsPlainOf-ran name job before after p first last s limit k terminal_failed report_failed stop a reported program faults is bound stops done
    state shown read why closes events cycles status =
    let contents : Contents = contents_of p.image in
    let input : List ℕ = program.program.input in
    let plain_start : Machine = loaded (parameters_of job.config) contents input in
    let start : first ≡ plain_start = is ∙ ap (loaded p.geometry contents) program.input ∙ ap (λ q. loaded q contents input) program.geometry in
    let begins : program.program.begins.start ≡ start_state (parameters_of job.config) contents =
    ap (λ (b : Beginning). b.start) program.begins ∙ ap (λ q. start_state q contents) program.geometry in
    let most : limit ≡ job.config.limit = bound ∙ ap (λ (q : Parameters). q.limit) program.geometry in (
      record {
        program = program.program;
        shelf = faults;
        stops = subst (StopsAt (origin_for job program.program.begins input) job.config.limit) (sym cycles)
            (stops_at job program.program.begins contents input job.config.limit k begins
            (subst (λ l. MachineStops plain_start l k) most (subst (λ m. MachineStops m limit k) start stops)));
        last = state_of s;
        is_last = state ∙ ap (λ (m : Machine). m.state) (done ∙ ap (after_steps k) start ∙ ap (λ j. after_steps j plain_start) (sym cycles))
            ∙ sym (begun_steps job program.program.begins input (start_state (parameters_of job.config) contents) a.cycles begins refl);
        terminal_failed = terminal_failed;
        report_failed = report_failed;
        shown_all = shown;
        reported = reported;
        read_all = read;
        closes = subst (λ l. ClosesRun report_failed (stop_line l (plain_stop terminal_failed report_failed s.status)) reported
            after.report) most (subst (λ x. ClosesRun report_failed (stop_line limit x) reported after.report) why closes);
        status = status ∙ ap stop_status why;
        events = events;
      },
      refl,
    )
