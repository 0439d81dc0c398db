-- A hart's instruction is begun: the hart comes to the front, and hart 0 again once it has ended.
use Rattle.std.proofs.Common.{◌≡◌, ℕ, zero, suc, ◌≤◌, true, if◌then◌else◌, List, Option, Some, None, inl, refl, sym, ◌∙◌, ap, subst, arith}
use Rattle.std.proofs.lemmas.Bool.{ne_eqb}
use Rattle.thy_block.specs.declared.block.Block.{Block}
use Rattle.thy_block.specs.declared.cause.EndCause.TheVariants.{Length, Exhausted, Ended}
use Rattle.thy_block.specs.Device.{Device}
use Rattle.thy_cache.specs.Contents.{Contents}
use Rattle.thy_isa.specs.declared.state.CpuState.{CpuState}
use Rattle.thy_isa.specs.declared.state.OtherHart.{OtherHart}
use Rattle.thy_isa.specs.Step.{State, crossed, fronted, cpu_crossed}
use Rattle.thy_isa.proofs.HartLaws.{crossed-twice}
use Rattle.thy_hart.specs.declared.hand.Hand.{Hand}
use Rattle.thy_hart.specs.declared.hand.Hand.TheVariants.{Nothing}
use Rattle.thy_hart.specs.declared.hand.HartStep.{HartStep}
use Rattle.thy_hart.specs.declared.hand.HartStep.TheVariants.{Moved, Retired, Waiting, Over}
use Rattle.thy_hart.specs.HartState.{HartState, next_block}
use Rattle.thy_hart.specs.Laws.{Follows}
use Rattle.thy_hart.specs.Moments.{Moment, IsOpenFor, moves_left}
use Rattle.thy_hart.specs.OneStep.{IsStep}
use Rattle.thy_hart.specs.Outcomes.{Given}
use Rattle.thy_hart.proofs.FollowLaws.{crosses-on}
use Rattle.thy_block.specs.declared.span.Span.{Span}
use Rattle.thy_computer.specs.Origin.{Origin, at}
use Rattle.thy_computer.specs.Stores.{stored_by}
use Rattle.thy_computer.specs.NextActor.{front_of}
use Rattle.thy_scheme.specs.Scheme.{SchemeOf}
use Rattle.thy_scheme.specs.Machine.{Machine, cpu_fronted, processor_of, moment_of, memory_of, moves_begun}
use Rattle.thy_scheme.specs.Sound.{OpenFor, OpenNow, IsToWrite, SoundRun}
use Rattle.thy_scheme.specs.MachineCalls.{cpu_begun, begun_by_hart, ends_by}
use Rattle.thy_scheme.proofs.EpochLemmas.{few-moves}

-- ---- to the front and back

pub fronted-twice : (hart : ℕ) (s : State) → fronted hart (fronted hart s) ≡ s
fronted-twice zero s = refl
fronted-twice (suc hart) s = crossed-twice s

pub count-fronted : (hart : ℕ) (s : State) → (fronted hart s).count ≡ s.count
count-fronted zero s = refl
count-fronted (suc hart) s = refl

pub status-fronted : (hart : ℕ) (s : State) → (fronted hart s).status ≡ s.status
status-fronted zero s = refl
status-fronted (suc hart) s = refl

-- a processor with this other hart
abbrev cpu_with : CpuState → Option OtherHart → CpuState
cpu_with c o = record c { other = o }

cpu_twice : (c : CpuState) (o : Option OtherHart) → cpu_crossed (cpu_crossed (cpu_with c o)) ≡ cpu_with c o
cpu_twice c None = refl
cpu_twice c (Some o) = refl

-- a processor with hart 1 in front is the crossed one
pub cpu-fronted-suc : (hart : ℕ) (c : CpuState) → cpu_fronted (suc hart) c ≡ cpu_crossed c
cpu-fronted-suc hart c = ap (λ b. if b then c else cpu_crossed c) (ne_eqb (suc hart) 0 (λ z. omega (arith, z)))

pub cpu-fronted-twice : (hart : ℕ) (c : CpuState) → cpu_fronted hart (cpu_fronted hart c) ≡ c
cpu-fronted-twice zero c = refl
cpu-fronted-twice (suc hart) c =
    ap (cpu_fronted (suc hart)) (cpu-fronted-suc hart c)
    ∙ cpu-fronted-suc hart (cpu_crossed c)
    ∙ cpu_twice c c.other

pub cpu-count : (hart : ℕ) (c : CpuState) → (cpu_fronted hart c).count ≡ c.count
cpu-count zero c = refl
cpu-count (suc hart) c = ap (λ (x : CpuState). x.count) (cpu-fronted-suc hart c)

pub cpu-status : (hart : ℕ) (c : CpuState) → (cpu_fronted hart c).status ≡ c.status
cpu-status zero c = refl
cpu-status (suc hart) c = ap (λ (x : CpuState). x.status) (cpu-fronted-suc hart c)

-- with nothing in hand, a hart that follows a state follows the one with this hart in front once that is put there
pub fronts-on : (hart : ℕ) (input : List ℕ) (now : State) (h : HartState) (memory : List Block) → h.hand ≡ Nothing
    → Follows input now h memory → Follows input (fronted hart now) (record h { cpu = cpu_fronted hart h.cpu }) memory
fronts-on zero input now h memory none f = f
fronts-on (suc hart) input now h memory none f =
    subst (λ c. Follows input (crossed now) (record h { cpu = c }) memory) (sym (cpu-fronted-suc hart h.cpu))
    (crosses-on input now h memory none f)

-- nothing is in hand once an instruction has ended
pub ended-hand : {g : Given} {old new : Moment} (step : HartStep) → IsStep g old new step → ends_by step ≡ true → new.hart.hand ≡ Nothing
ended-hand Moved s e = absurd (cc)
ended-hand Retired s e = s.leads.hand
ended-hand Waiting s e = absurd (cc)
ended-hand (Over Length) s e = s.leads.hand
ended-hand (Over (Exhausted free dirty need)) s e = s.leads.hand
ended-hand (Over Ended) s e = s.leads.hand

-- ---- as a hart's step finds the machine

-- the processor with hart 0 in front is as it was
pub begun-processor : (hart : ℕ) (begun : Option ℕ) (c : CpuState) → ((b : ℕ) → begun ≡ Some b → b ≡ hart)
    → cpu_fronted hart (cpu_begun hart begun c) ≡ cpu_fronted (front_of begun) c
begun-processor hart None c own = cpu-fronted-twice hart c
begun-processor hart (Some b) c own = ap (λ h. cpu_fronted h c) (sym (own b refl))

-- the hart that steps is, once its instruction is begun, at the plain machine's state with this hart in front
pub record IsBegun {S : Type 0} (K : SchemeOf S) (o : Origin) (m : Machine S) (n : Device) (hart : ℕ) : Type 0 where
  pub follows : Follows o.input (fronted hart (at o m.hart.cpu.count)) (begun_by_hart hart m).hart (memory_of K m n)
  pub writes : IsToWrite (stored_by o (fronted hart (at o m.hart.cpu.count))) m.hart.hand
  pub opened : IsOpenFor m.cache (next_block (begun_by_hart hart m).hart) (K.holding m.scheme n).open_page
  pub moves : moves_left (moment_of K (begun_by_hart hart m) n) ≤ moves_begun m.begun (moves_left (moment_of K m n))
  pub count : (begun_by_hart hart m).hart.cpu.count ≡ m.hart.cpu.count
  pub status : (begun_by_hart hart m).hart.cpu.status ≡ m.hart.cpu.status
  pub processor : cpu_fronted hart (begun_by_hart hart m).hart.cpu ≡ processor_of m

pub writes_nothing : (stored : Span) (hand : Hand) → hand ≡ Nothing → IsToWrite stored hand
writes_nothing stored hand none = subst (IsToWrite stored) (sym none) tt

open_for : (c : Contents) (b page : Option ℕ) → page ≡ None → IsOpenFor c b page
open_for c None page none = none
open_for c (Some b) page none = inl none

module _ {S : Type 0} (K : SchemeOf S) (o : Origin) (m : Machine S) (n : Device) (hart : ℕ) (run : SoundRun K o m n)
    (going : m.hart.epoch.over ≡ None) (own : (b : ℕ) → m.begun ≡ Some b → b ≡ hart) where
  -- the machine's hart with this processor
  abbrev hart_with : CpuState → HartState
  hart_with c = record m.hart { cpu = c }

  page_open : OpenFor m.begun m.cache m.hart (K.holding m.scheme n).open_page
  page_open = subst (λ x. OpenNow x m.begun m.cache m.hart (K.holding m.scheme n).open_page) going run.held.opened

  begun_in : (begun : Option ℕ) → m.begun ≡ begun → IsBegun K o m n hart
  begun_in None e =
      let now = at o m.hart.cpu.count in
      let cpu = m.hart.cpu in
      let hand = run.front.rests e in
      let is : cpu_begun hart m.begun cpu ≡ cpu_fronted hart cpu = ap (λ b. cpu_begun hart b cpu) e in
      let behind = subst (λ b. Follows o.input (fronted (front_of b) now) m.hart (memory_of K m n)) e run.follows in
      record {
        follows = subst (λ c. Follows o.input (fronted hart now) (hart_with c) (memory_of K m n)) (sym is)
            (fronts-on hart o.input now m.hart (memory_of K m n) hand behind);
        writes = writes_nothing (stored_by o (fronted hart now)) m.hart.hand hand;
        opened = open_for m.cache (next_block (begun_by_hart hart m).hart) (K.holding m.scheme n).open_page
            (subst (λ b. OpenFor b m.cache m.hart (K.holding m.scheme n).open_page) e page_open);
        moves = subst (λ b. moves_left (moment_of K (begun_by_hart hart m) n) ≤ moves_begun b (moves_left (moment_of K m n))) (sym e)
            (few-moves (moment_of K (begun_by_hart hart m) n));
        count = ap (λ (c : CpuState). c.count) is ∙ cpu-count hart cpu;
        status = ap (λ (c : CpuState). c.status) is ∙ cpu-status hart cpu;
        processor = begun-processor hart m.begun cpu own;
      }
  begun_in (Some b) e =
      let now = at o m.hart.cpu.count in
      let cpu = m.hart.cpu in
      let mine : m.begun ≡ Some hart = e ∙ ap Some (own b e) in
      let is : cpu_begun hart m.begun cpu ≡ cpu = ap (λ x. cpu_begun hart x cpu) mine in
      record {
        follows = subst (λ c. Follows o.input (fronted hart now) (hart_with c) (memory_of K m n)) (sym is)
            (subst (λ x. Follows o.input (fronted (front_of x) now) m.hart (memory_of K m n)) mine run.follows);
        writes = subst (λ x. IsToWrite (stored_by o (fronted (front_of x) now)) m.hart.hand) mine run.writes;
        opened = subst (λ c. IsOpenFor m.cache (next_block (hart_with c)) (K.holding m.scheme n).open_page) (sym is)
            (subst (λ x. OpenFor x m.cache m.hart (K.holding m.scheme n).open_page) mine page_open);
        moves =
            let same = ap (λ x. moves_begun x (moves_left (moment_of K m n))) mine in
            let left = ap (λ c. moves_left (moment_of K (record m { hart = hart_with c }) n)) is in
            omega (arith, same, left);
        count = ap (λ (c : CpuState). c.count) is;
        status = ap (λ (c : CpuState). c.status) is;
        processor = begun-processor hart m.begun cpu own;
      }

  pub is-begun : IsBegun K o m n hart
  is-begun = begun_in m.begun refl
