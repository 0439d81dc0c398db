-- What is read after the boot: the plain machine's state, and the console of the committed checkpoint.
use Rattle.std.proofs.Common.{◌≡◌, ◌⊎◌, ℕ, zero, suc, ◌*◌, ◌-◌, ◌≤◌, ◌||◌, ◌&&◌, ◌==◌, not, true, false, Some, Result, Ok, Err, IfOk, List, [], length, take, drop, inl, inr, refl, sym, ◌∙◌, ap, subst, arith}
use Rattle.std.proofs.lemmas.Bool.{eqb-true}
use Rattle.std.proofs.lemmas.List.{length-take, length-drop, take_min}
use Rattle.thy_block.specs.declared.block.Block.{Block}
use Rattle.thy_block.specs.declared.mark.Mark.{Mark}
use Rattle.thy_block.specs.declared.parameters.Parameters.{Parameters}
use Rattle.thy_block.specs.declared.bytes.Bytes.{Bytes}
use Rattle.thy_block.specs.Bytes.{bytes_of}
use Rattle.thy_block.specs.Device.{Device}
use Rattle.thy_block.specs.Geometry.{program_size, console_room}
use Rattle.thy_block.specs.Flat.{flat, console_bytes}
use Rattle.thy_block.proofs.FlatLemmas.{flat-take}
use Rattle.thy_block.proofs.MemoryLaws.{room_inside, length-console_bytes}
use Rattle.thy_hart.specs.declared.hand.Hand.TheVariants.{Nothing}
use Rattle.thy_hart.specs.HartState.{HartState, has_written}
use Rattle.thy_hart.specs.Laws.{IsSized}
use Rattle.thy_hart.specs.OneStep.{current}
use Rattle.thy_isa.specs.declared.state.CpuState.{CpuState}
use Rattle.thy_isa.specs.declared.state.MachState.{MachState}
use Rattle.thy_isa.specs.OnBlocks.{state_from}
use Rattle.thy_isa.specs.Step.{State, cpu_of, state_of, state_with, fronted}
use Rattle.thy_computer.specs.declared.error.CoreError.{CoreError}
use Rattle.thy_computer.specs.declared.view.Phase.{Phase}
use Rattle.thy_computer.specs.declared.view.Phase.TheVariants.{Boot, Run, Halt}
use Rattle.thy_computer.specs.declared.view.View.{View}
use Rattle.thy_computer.specs.Kind.{CanRead, CanSnapshot, IsSnapshot, Snapshots, ShowsProcessor, without_memory, IsProcessor}
use Rattle.thy_computer.specs.Origin.{Origin, at}
use Rattle.thy_computer.specs.NextActor.{front_of}
use Rattle.thy_computer.specs.Views.{is_boot, is_halt, is_between}
use Rattle.thy_scheme.specs.Scheme.{SchemeOf, CanRun}
use Rattle.thy_scheme.specs.Laws.{IsLawful, IsCommitted}
use Rattle.thy_scheme.specs.Kind.{kind_over}
use Rattle.thy_scheme.specs.Machine.{Machine, cpu_fronted, processor_of, hart_put_back, memory_of, run_view, view_in, view_of}
use Rattle.thy_scheme.specs.Sound.{SoundRun, SoundIn, Sound, SoundStopped}
use Rattle.thy_core.specs.Reading.{IsRoomy, IsUnwritten, ReadsState}
use Rattle.thy_isa.proofs.HartLaws.{blocks-cross}
use Rattle.thy_scheme.proofs.BegunLaws.{cpu-fronted-suc, fronted-twice}
use Rattle.thy_scheme.proofs.MomentLaws.{sound-here}
use Rattle.thy_core.proofs.TakenLaws.{phase_in}

-- the bytes of memory and console make the state
pub state_read : (h : HartState) (blocks : List Block) (s : State) (n : ℕ) (memory console : List ℕ) → IsSized h blocks
    → n ≡ 64 * (h.geometry.pages - h.geometry.console) → s ≡ state_with h.cpu memory console → memory ≡ flat (drop 0 (take n blocks))
    → console ≡ drop 0 (console_bytes h.geometry blocks h.cpu.console_len) → s ≡ current h blocks
unfolding current state_from
state_read h blocks s n memory console sized n_is is memory_is console_is =
    let inside : n ≤ length blocks = omega (arith, sized.blocks) in
    let size : 64 * n ≡ program_size h.geometry = omega arith in
    is
    ∙ ap (λ (bytes : List ℕ). state_with h.cpu bytes console) (memory_is ∙ flat-take n blocks inside ∙ ap (λ k. take k (flat blocks)) size)
    ∙ ap (λ (bytes : List ℕ). state_with h.cpu (take (program_size h.geometry) (flat blocks)) bytes) console_is

-- ---- hart 0 in front again

pub console_fronted : (hart : ℕ) (c : CpuState) → (cpu_fronted hart c).console_len ≡ c.console_len
console_fronted zero c = refl
console_fronted (suc hart) c = ap (λ (x : CpuState). x.console_len) (cpu-fronted-suc hart c)

pub put_back_sized : {S : Type 0} (m : Machine S) (blocks : List Block) → IsSized m.hart blocks → IsSized (hart_put_back m) blocks
put_back_sized m blocks s = record {
  range = s.range;
  blocks = s.blocks;
  console = subst (λ x. x ≤ console_room m.hart.geometry) (sym (console_fronted (front_of m.begun) m.hart.cpu)) s.console;
}

current_fronted : (hart : ℕ) (h : HartState) (blocks : List Block)
    → current (record h { cpu = cpu_fronted hart h.cpu }) blocks ≡ fronted hart (current h blocks)
unfolding current
current_fronted zero h blocks = refl
current_fronted (suc hart) h blocks =
    ap (λ (c : CpuState). current (record h { cpu = c }) blocks) (cpu-fronted-suc hart h.cpu)
    ∙ blocks-cross h.geometry h.cpu blocks

-- ---- after a step that failed

module _ {S : Type 0} (K : SchemeOf S) where
  -- a machine of which none has is at a moment
  pub at_moment : (m : Machine S) (n : Device) → m.failed ≡ false → CanSnapshot (kind_over K) m n → CanRead (kind_over K) m n
  at_moment m n unfailed (inl run) = run
  at_moment m n unfailed (inr stopped) = let is = stopped.failed.failed in absurd (cc)

  pub not_stopped : (o : Origin) (before : View) (m : Machine S) → m.failed ≡ false → SoundStopped K o before m → ⊥
  not_stopped o before m unfailed stopped = let is = stopped.failed in cc

module _ {S : Type 0} (K : SchemeOf S) (o : Origin) where
  pub not_failed : (k : ℕ) (m : Machine S) (n : Device) → m.failed ≡ true → Sound K o k m n → ⊥
  not_failed k m n failed sound = let is = sound.unfailed in cc

  -- what is read of it is the processor's part
  pub processor_is : (before : View) (m : Machine S) (s : MachState) → state_of s ≡ state_with (processor_of m) [] []
      → SoundStopped K o before m → IsProcessor o before s
  processor_is before m s is stopped = record {
    bare = is ∙ sym (ap without_memory is);
    processor = λ over. is ∙ stopped.processor over;
  }

  -- ---- after the boot

  pub sound-behind : (k : ℕ) (m : Machine S) (n : Device) → Sound K o k m n → ((m.phase ≡ Run) ⊎ (m.phase ≡ Halt)) → SoundRun K o m n
  sound-behind k m n s (inl e) = subst (λ phase. SoundIn K o phase m n) e s.moment
  sound-behind k m n s (inr e) = subst (λ phase. SoundIn K o phase m n) e s.moment

  pub view-behind : (m : Machine S) (n : Device) → ((m.phase ≡ Run) ⊎ (m.phase ≡ Halt)) → view_of K o m n ≡ run_view m
  view-behind m n (inl e) = ap (λ phase. view_in K o phase m n) e
  view-behind m n (inr e) = ap (λ phase. view_in K o phase m n) e

  pub can_run : (k : ℕ) (m : Machine S) (n : Device) → Sound K o k m n → ((m.phase ≡ Run) ⊎ (m.phase ≡ Halt)) → CanRun K m.scheme n
  can_run k m n s e = record { o = o; k = m.marks; stands = record { sound = (sound-behind k m n s e).checkpoints; up = s.up } }

module _ {S : Type 0} (K : SchemeOf S) (l : IsLawful K) (o : Origin) (k : ℕ) (m : Machine S) (n : Device) (s : Sound K o k m n) where
  -- the boot is not between two instructions
  pub boot_between : m.phase ≡ Boot → is_between (view_of K o m n) ≡ true → ⊥
  boot_between e between =
      let v : View = view_of K o m n in
      let shown = ap (λ phase. is_halt phase || (not (is_boot phase) && v.spent == 0)) (phase_in K l o k m n Boot s e) in
      let none : false ≡ true = sym shown ∙ between in
      cc

  pub boot_shown : m.phase ≡ Boot → is_boot (view_of K o m n).phase ≡ false → ⊥
  boot_shown e behind =
      let both : true ≡ false = sym (ap is_boot (phase_in K l o k m n Boot s e)) ∙ behind in
      cc

-- in the boot it does not hold that the boot is over and nothing is written
pub boot_unwritten : {S : Type 0} (m : Machine S) → m.phase ≡ Boot → IsUnwritten m → ⊥
boot_unwritten m e u =
    let both : true ≡ false = sym (ap is_boot e) ∙ u.booted in
    cc

-- between two instructions none is in hand
no_hand : {S : Type 0} (K : SchemeOf S) (o : Origin) (k : ℕ) (m : Machine S) (n : Device) → Sound K o k m n
    → ((m.phase ≡ Run) ⊎ (m.phase ≡ Halt)) → is_between (run_view m) ≡ true → m.hart.hand ≡ Nothing
no_hand K o k m n s (inl e) between =
    let run = sound-behind K o k m n s (inl e) in
    let spent : (m.spent == 0) ≡ true = sym (ap (λ phase. is_halt phase || (not (is_boot phase) && m.spent == 0)) e) ∙ between in
    run.front.rests (run.epoch.began (eqb-true m.spent 0 spent))
no_hand K o k m n s (inr e) between = ((sound-behind K o k m n s (inr e)).ended.halted e).0.hand

-- between two instructions no instruction has written a block
unwritten_behind : {S : Type 0} (K : SchemeOf S) (o : Origin) (k : ℕ) (m : Machine S) (n : Device) (phase : Phase) → Sound K o k m n
    → m.phase ≡ phase → ((m.phase ≡ Run) ⊎ (m.phase ≡ Halt)) → is_boot phase ≡ false → is_between (view_of K o m n) ≡ true → IsUnwritten m
unwritten_behind K o k m n phase s e behind booted between = record {
  booted = ap is_boot e ∙ booted;
  unwritten = ap has_written (no_hand K o k m n s behind (sym (ap is_between (view-behind K o m n behind)) ∙ between));
}

unwritten_in : {S : Type 0} (K : SchemeOf S) (l : IsLawful K) (o : Origin) (k : ℕ) (m : Machine S) (n : Device) (phase : Phase)
    → Sound K o k m n
    → m.phase ≡ phase → is_between (view_of K o m n) ≡ true → IsUnwritten m
unwritten_in K l o k m n Boot s e between = absurd (boot_between K l o k m n s e between)
unwritten_in K l o k m n Run s e between = unwritten_behind K o k m n Run s e (inl e) refl between
unwritten_in K l o k m n Halt s e between = unwritten_behind K o k m n Halt s e (inr e) refl between

-- what is read while no instruction has written a block is the state between two instructions
pub reads_between : {S : Type 0} (K : SchemeOf S) (l : IsLawful K) (m : Machine S) (n : Device) (r : Result MachState CoreError)
    → ReadsState K m n r
    → Snapshots (kind_over K) m n r
reads_between K l m n r reads = λ o k at between.
    let s = sound-here K o k m n at in
    reads o k s (unwritten_in K l o k m n m.phase s refl between)

-- if none has written a block, hart and memory make the plain machine's state
current_is : {S : Type 0} (K : SchemeOf S) (o : Origin) (k : ℕ) (m : Machine S) (n : Device) → Sound K o k m n
    → ((m.phase ≡ Run) ⊎ (m.phase ≡ Halt)) → IsUnwritten m → current (hart_put_back m) (memory_of K m n) ≡ at o m.hart.cpu.count
current_is K o k m n sound e calm =
    let run = sound-behind K o k m n sound e in
    current_fronted (front_of m.begun) m.hart (memory_of K m n)
    ∙ ap (fronted (front_of m.begun)) (run.follows.current calm.unwritten)
    ∙ fronted-twice (front_of m.begun) (at o m.hart.cpu.count)

-- if none has written a block, what was read is the plain machine's state
pub snapshot_is : {S : Type 0} (K : SchemeOf S) (o : Origin) (k : ℕ) (m : Machine S) (n : Device) (s : MachState) → Sound K o k m n
    → ((m.phase ≡ Run) ⊎ (m.phase ≡ Halt)) → IsUnwritten m → state_of s ≡ current (hart_put_back m) (memory_of K m n)
    → IsSnapshot o (view_of K o m n) s
snapshot_is K o k m n s sound e calm is =
    let run = sound-behind K o k m n sound e in
    let shown = view-behind K o m n e in
    let now : state_of s ≡ at o m.hart.cpu.count = is ∙ current_is K o k m n sound e calm in
    subst (λ v. IsSnapshot o v s) (sym shown) (record {
      state = now;
      count = ap (λ (t : State). t.count) now ∙ run.counted.count;
    })

pub snapshot_when : {S : Type 0} (K : SchemeOf S) (o : Origin) (k : ℕ) (m : Machine S) (n : Device) (r : Result MachState CoreError)
    → Sound K o k m n
    → ((m.phase ≡ Run) ⊎ (m.phase ≡ Halt)) → IsUnwritten m → IfOk r (λ s. state_of s ≡ current (hart_put_back m) (memory_of K m n))
    → IfOk r (λ s. IsSnapshot o (view_of K o m n) s)
snapshot_when K o k m n (Ok s) sound e calm is = snapshot_is K o k m n s sound e calm is
snapshot_when K o k m n (Err error) sound e calm is = tt

-- ---- the processor

-- the processor of the state that hart and memory make is the hart's
cpu_current : (h : HartState) (blocks : List Block) → IsSized h blocks → cpu_of (current h blocks) ≡ h.cpu
unfolding current state_from
cpu_current h blocks s =
    let len : length (console_bytes h.geometry blocks h.cpu.console_len) ≡ h.cpu.console_len = length-console_bytes h.geometry blocks h.cpu.console_len s.range s.blocks s.console in
    ap (λ (len : ℕ). record h.cpu { console_len = len }) len

-- the boot is over
behind : (phase : Phase) → is_boot phase ≡ false → (phase ≡ Run) ⊎ (phase ≡ Halt)
behind Boot over = absurd (cc)
behind Run over = inl refl
behind Halt over = inr refl

-- between two instructions it is the processor of the plain machine's state
pub processor_shown : {S : Type 0} (K : SchemeOf S) (l : IsLawful K) (m : Machine S) (cpu : CpuState) → cpu ≡ processor_of m
    → ShowsProcessor (kind_over K) m cpu
processor_shown K l m cpu is = λ o k n at_moment between.
    let s : Sound K o k m n = sound-here K o k m n at_moment in
    let calm : IsUnwritten m = unwritten_in K l o k m n m.phase s refl between in
    let e = behind m.phase calm.booted in
    let sized : IsSized (hart_put_back m) (memory_of K m n) = put_back_sized m (memory_of K m n) (sound-behind K o k m n s e).follows.sized in
    is
    ∙ sym (cpu_current (hart_put_back m) (memory_of K m n) sized)
    ∙ ap cpu_of (current_is K o k m n s e calm)
    ∙ ap (λ (v : View). cpu_of (at o v.count)) (sym (view-behind K o m n e))

-- ---- the committed checkpoint's console

console_from : (p : Parameters) (cpu : CpuState) (blocks : List Block) (s : State) → state_from p cpu blocks ≡ s
    → s.console ≡ console_bytes p blocks cpu.console_len
unfolding state_from
console_from p cpu blocks s is = sym (ap (λ (t : State). t.console) is)

-- the console of a state is the first bytes of the console's pages, up to its length
console_whole : (p : Parameters) (cpu : CpuState) (blocks : List Block) (s : State) → state_from p cpu blocks ≡ s
    → s.console ≡ console_bytes p blocks (length s.console)
console_whole p cpu blocks s is =
    let pages : List ℕ = drop (program_size p) (flat blocks) in
    let shown = console_from p cpu blocks s is in
    shown ∙ sym (take_min cpu.console_len pages)
    ∙ ap (λ k. take k pages) (sym (ap length shown ∙ length-take cpu.console_len pages))

pub committed_room : {S : Type 0} (K : SchemeOf S) (l : IsLawful K) (o : Origin) (k : ℕ) (m : Machine S) (n : Device) → Sound K o k m n
    → ((m.phase ≡ Run) ⊎ (m.phase ≡ Halt)) → IsRoomy m.hart.geometry m.consoles.done (K.committed m.scheme n)
committed_room K l o k m n s e =
    let run = sound-behind K o k m n s e in
    let found : IsCommitted K o m.marks.done.count m.scheme n =
    (l.run_holds o m.marks m.scheme n (record { sound = run.checkpoints; up = s.up })).committed in
    let pages : List ℕ = drop (program_size o.geometry) (flat (K.committed m.scheme n)) in
    let len : m.consoles.done ≡ length (take found.cpu.console_len pages) =
    run.shown.done ∙ ap length (console_from o.geometry found.cpu (K.committed m.scheme n) (at o m.marks.done.count) found.state) in
    let roomy : IsRoomy o.geometry m.consoles.done (K.committed m.scheme n) = record {
      range = s.origin.geometry;
      whole = found.blocks;
      room = omega (
        arith,
        len,
        length-take found.cpu.console_len pages,
        length-drop (program_size o.geometry) (flat (K.committed m.scheme n)),
        room_inside o.geometry (K.committed m.scheme n) s.origin.geometry found.blocks,
      );
    } in
    subst (λ p. IsRoomy p m.consoles.done (K.committed m.scheme n)) (sym s.geometry) roomy

pub console_is : {S : Type 0} (K : SchemeOf S) (l : IsLawful K) (o : Origin) (k : ℕ) (m : Machine S) (n : Device) (done : Mark)
    (from : ℕ) (bytes : List ℕ)
    → Sound K o k m n → ((m.phase ≡ Run) ⊎ (m.phase ≡ Halt)) → (view_of K o m n).done ≡ Some done
    → bytes ≡ drop from (console_bytes m.hart.geometry (K.committed m.scheme n) m.consoles.done)
    → bytes ≡ drop from (at o done.count).console
console_is K l o k m n done from bytes s e seen is =
    let run = sound-behind K o k m n s e in
    let found : IsCommitted K o m.marks.done.count m.scheme n =
    (l.run_holds o m.marks m.scheme n (record { sound = run.checkpoints; up = s.up })).committed in
    let marked : Some m.marks.done ≡ Some done = sym (ap (λ (v : View). v.done) (view-behind K o m n e)) ∙ seen in
    let same : m.marks.done ≡ done = cc in
    is
    ∙ ap (λ p. drop from (console_bytes p (K.committed m.scheme n) m.consoles.done)) s.geometry
    ∙ ap (λ len. drop from (console_bytes o.geometry (K.committed m.scheme n) len)) run.shown.done
    ∙ ap (drop from) (sym (console_whole o.geometry found.cpu (K.committed m.scheme n) (at o m.marks.done.count) found.state))
    ∙ ap (λ (d : Mark). drop from (at o d.count).console) same

-- the machine's console has no byte from one on if the committed checkpoint's has none
pub console_past : {S : Type 0} (K : SchemeOf S) (o : Origin) (k : ℕ) (m : Machine S) (n : Device) (done : Mark) (from : ℕ)
    → Sound K o k m n → ((m.phase ≡ Run) ⊎ (m.phase ≡ Halt)) → (view_of K o m n).done ≡ Some done → length (at o done.count).console ≤ from
    → m.consoles.done ≤ from
console_past K o k m n done from s e seen past =
    let run = sound-behind K o k m n s e in
    let marked : Some m.marks.done ≡ Some done = sym (ap (λ (v : View). v.done) (view-behind K o m n e)) ∙ seen in
    let same : m.marks.done ≡ done = cc in
    omega (arith, run.shown.done, ap (λ (d : Mark). length (at o d.count).console) same)

pub console_when : {S : Type 0} (K : SchemeOf S) (l : IsLawful K) (o : Origin) (k : ℕ) (m : Machine S) (n : Device) (done : Mark) (from : ℕ)
    (r : Result Bytes CoreError)
    → Sound K o k m n → ((m.phase ≡ Run) ⊎ (m.phase ≡ Halt)) → (view_of K o m n).done ≡ Some done
    → IfOk r (λ b. bytes_of b ≡ drop from (console_bytes m.hart.geometry (K.committed m.scheme n) m.consoles.done))
    → IfOk r (λ b. bytes_of b ≡ drop from (at o done.count).console)
console_when K l o k m n done from (Ok b) s e seen is = console_is K l o k m n done from (bytes_of b) s e seen is
console_when K l o k m n done from (Err error) s e seen is = tt
