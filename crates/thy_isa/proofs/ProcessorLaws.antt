-- A processor as a list of harts: an effect of one of them is that effect of the hart in front.
use Rattle.std.proofs.Common.{◌≡◌, ◌≢◌, ℕ, zero, suc, ◌<◌, ◌≤◌, nat_lt, true, List, [], ◌∷◌, length, Option, Some, None, refl, sym, ap, ◌∙◌, arith, lit<, length-set}
use Rattle.thy_isa.specs.declared.processor.processor.HartOf.{HartOf}
use Rattle.thy_isa.specs.declared.state.Call.{Call}
use Rattle.thy_isa.specs.declared.state.Call.TheVariants.{Answer, Exit, Break, Take, Give}
use Rattle.thy_isa.specs.declared.state.CallState.{CallState}
use Rattle.thy_isa.specs.declared.state.CpuState.{CpuState}
use Rattle.thy_isa.specs.declared.state.Effect.{Effect}
use Rattle.thy_isa.specs.declared.state.Effect.TheVariants.{Next, Set, Read, Write, Reserve, Conditional, Fail, Modify, Environment, Trap}
use Rattle.thy_isa.specs.declared.state.OtherHart.{OtherHart}
use Rattle.thy_isa.specs.Calls.{call_of}
use Rattle.thy_isa.specs.FrontedLaws.{FinishedAsCpu, CrossedAsCpu, AloneAsCpu, KeepsCpu}
use Rattle.thy_isa.specs.Effects.{size_of}
use Rattle.thy_isa.specs.Processor.{ProcessorState, hart_at, written_by, processor_served, len_served, processor_finished, len_after, processor_of, other_of, cpu_at, front_after}
use Rattle.thy_isa.proofs.BankLaws.{length-written_by}
use Rattle.thy_isa.specs.Step.{served, finished, cpu_crossed}

-- a processor with these harts
abbrev of_harts : ProcessorState → List HartOf → ProcessorState
of_harts p harts = record p { harts = harts }

-- a call, or an effect, of hart h is the same of the hart in front
abbrev Serves : ℕ → ProcessorState → CallState → Call → Type 0
Serves h p c k = cpu_at h (len_served c k) (processor_served h p k) ≡ served (cpu_at h c.console_len p) k

abbrev Finishes : ℕ → ProcessorState → Effect → ℕ → CallState → Type 0
Finishes h p e n c = cpu_at h (len_after (hart_at p.harts h).regs e c) (processor_finished h p e n c) ≡ finished (cpu_at h c.console_len p) e n c

module _ (p : ProcessorState) (a : HartOf) (c : CallState) where
  alone-serves : (k : Call) → Serves 0 (of_harts p (a ∷ [])) c k
  unfolding served processor_served
  alone-serves (Answer v) = refl
  alone-serves (Exit v) = refl
  alone-serves (Break at) = refl
  alone-serves (Take at len) = refl
  alone-serves (Give at len) = refl

  alone-finishes : (e : Effect) (n : ℕ) → Finishes 0 (of_harts p (a ∷ [])) e n c
  unfolding finished processor_finished
  alone-finishes (Next pc) n = refl
  alone-finishes (Set rd pc v) n = refl
  alone-finishes (Read rd width extend pc at) n = refl
  alone-finishes (Write width pc at v) n = refl
  alone-finishes (Reserve rd width pc at) n = refl
  alone-finishes (Conditional rd width pc at v) n = refl
  alone-finishes (Fail rd pc) n = refl
  alone-finishes (Modify op rd width pc at v) n = refl
  alone-finishes Environment n = alone-serves (call_of a.regs c)
  alone-finishes (Trap cause) n = refl

module _ (p : ProcessorState) (a b : HartOf) (c : CallState) where
  first-serves : (k : Call) → Serves 0 (of_harts p (a ∷ b ∷ [])) c k
  unfolding served processor_served
  first-serves (Answer v) = refl
  first-serves (Exit v) = refl
  first-serves (Break at) = refl
  first-serves (Take at len) = refl
  first-serves (Give at len) = refl

  first-finishes : (e : Effect) (n : ℕ) → Finishes 0 (of_harts p (a ∷ b ∷ [])) e n c
  unfolding finished processor_finished
  first-finishes (Next pc) n = refl
  first-finishes (Set rd pc v) n = refl
  first-finishes (Read rd width extend pc at) n = refl
  first-finishes (Write width pc at v) n = refl
  first-finishes (Reserve rd width pc at) n = refl
  first-finishes (Conditional rd width pc at v) n = refl
  first-finishes (Fail rd pc) n = refl
  first-finishes (Modify op rd width pc at v) n = refl
  first-finishes Environment n = first-serves (call_of a.regs c)
  first-finishes (Trap cause) n = refl

module _ (p : ProcessorState) (a b : HartOf) (c : CallState) where
  second-serves : (k : Call) → Serves 1 (of_harts p (a ∷ b ∷ [])) c k
  unfolding served processor_served
  second-serves (Answer v) = refl
  second-serves (Exit v) = refl
  second-serves (Break at) = refl
  second-serves (Take at len) = refl
  second-serves (Give at len) = refl

  second-finishes : (e : Effect) (n : ℕ) → Finishes 1 (of_harts p (a ∷ b ∷ [])) e n c
  unfolding finished processor_finished
  second-finishes (Next pc) n = refl
  second-finishes (Set rd pc v) n = refl
  second-finishes (Read rd width extend pc at) n = refl
  second-finishes (Write width pc at v) n = refl
  second-finishes (Reserve rd width pc at) n = refl
  second-finishes (Conditional rd width pc at v) n = refl
  second-finishes (Fail rd pc) n = refl
  second-finishes (Modify op rd width pc at v) n = refl
  second-finishes Environment n = second-serves (call_of b.regs c)
  second-finishes (Trap cause) n = refl

finishes_with : (h : ℕ) (p : ProcessorState) (harts : List HartOf) (e : Effect) (n : ℕ) (c : CallState) → length harts ≤ 2 → h < length harts
    → Finishes h (of_harts p harts) e n c
finishes_with h p [] e n c few there = absurd (omega (arith, there))
finishes_with zero p (a ∷ []) e n c few there = alone-finishes p a c e n
finishes_with (suc h) p (a ∷ []) e n c few there = absurd (omega (arith, there))
finishes_with zero p (a ∷ b ∷ []) e n c few there = first-finishes p a b c e n
finishes_with (suc zero) p (a ∷ b ∷ []) e n c few there = second-finishes p a b c e n
finishes_with (suc (suc h)) p (a ∷ b ∷ []) e n c few there = absurd (omega (arith, there))
finishes_with h p (a ∷ b ∷ d ∷ more) e n c few there = absurd (omega (arith, few))

pub finished-as_cpu : FinishedAsCpu
finished-as_cpu h p e n c few there = finishes_with h p p.harts e n c few there

crossed_with : (len : ℕ) (p : ProcessorState) (harts : List HartOf) → length harts ≡ 2
    → (cpu_crossed (cpu_at 0 len (of_harts p harts)) ≡ cpu_at 1 len (of_harts p harts))
    × (cpu_crossed (cpu_at 1 len (of_harts p harts)) ≡ cpu_at 0 len (of_harts p harts))
crossed_with len p [] two = absurd (omega (arith, two))
crossed_with len p (a ∷ []) two = absurd (omega (arith, two))
crossed_with len p (a ∷ b ∷ []) two = (refl, refl)
crossed_with len p (a ∷ b ∷ d ∷ more) two = absurd (omega (arith, two))

pub crossed-as_cpu : CrossedAsCpu
crossed-as_cpu len p two = crossed_with len p p.harts two

alone_with : (len : ℕ) (p : ProcessorState) (harts : List HartOf) → length harts ≡ 1
    → cpu_crossed (cpu_at 0 len (of_harts p harts)) ≡ cpu_at 0 len (of_harts p harts)
alone_with len p [] one = absurd (omega (arith, one))
alone_with len p (a ∷ []) one = refl
alone_with len p (a ∷ b ∷ more) one = absurd (omega (arith, one))

pub alone-as_cpu : AloneAsCpu
alone-as_cpu len p one = alone_with len p p.harts one

-- a processor with this other hart
abbrev beside : CpuState → Option OtherHart → CpuState
beside c o = record c { other = o }

kept_with : (c : CpuState) (o : Option OtherHart) → cpu_at 0 c.console_len (processor_of (beside c o)) ≡ beside c o
kept_with c None = refl
kept_with c (Some o) = refl

pub cpu-kept : KeepsCpu
cpu-kept c = kept_with c c.other

-- ---- what a processor with a hart in front takes of this

-- any numbers that decide a call
abbrev pub no_calls : CallState
no_calls = record { cursor = 0; input_len = 0; console_len = 0; room = 0; base = 0; size = 0; floor = 0; brk = 0 }

-- an effect leaves the number of harts
served-harts : (h : ℕ) (p : ProcessorState) (k : Call) → length (processor_served h p k).harts ≡ length p.harts
unfolding processor_served
served-harts h p (Answer v) = length-set p.harts h _
served-harts h p (Exit v) = refl
served-harts h p (Break at) = length-set p.harts h _
served-harts h p (Take at len) = length-set (written_by at len h p.harts) h _ ∙ length-written_by at len h p.harts
served-harts h p (Give at len) = length-set p.harts h _

pub finished-harts : (h : ℕ) (p : ProcessorState) (e : Effect) (n : ℕ) (c : CallState)
    → length (processor_finished h p e n c).harts ≡ length p.harts
unfolding processor_finished
finished-harts h p (Next pc) n c = length-set p.harts h _
finished-harts h p (Set rd pc v) n c = length-set p.harts h _
finished-harts h p (Read rd width extend pc at) n c = length-set p.harts h _
finished-harts h p (Write width pc at v) n c =
    length-set (written_by at (size_of width) h p.harts) h _ ∙ length-written_by at (size_of width) h p.harts
finished-harts h p (Reserve rd width pc at) n c = length-set p.harts h _
finished-harts h p (Conditional rd width pc at v) n c =
    length-set (written_by at (size_of width) h p.harts) h _ ∙ length-written_by at (size_of width) h p.harts
finished-harts h p (Fail rd pc) n c = length-set p.harts h _
finished-harts h p (Modify op rd width pc at v) n c =
    length-set (written_by at (size_of width) h p.harts) h _ ∙ length-written_by at (size_of width) h p.harts
finished-harts h p Environment n c = served-harts h p (call_of (hart_at p.harts h).regs c)
finished-harts h p (Trap cause) n c = refl

-- with a console of any length, an effect that is no environment call leaves it
with_len : ℕ → CpuState → CpuState
with_len len c = record c { console_len = len }

finished-len : (len : ℕ) (c : CpuState) (e : Effect) (n : ℕ) (k : CallState) → e ≢ Environment
    → finished (with_len len c) e n k ≡ with_len len (finished c e n k)
unfolding finished with_len
finished-len len c (Next pc) n k h = refl
finished-len len c (Set rd pc v) n k h = refl
finished-len len c (Read rd width extend pc at) n k h = refl
finished-len len c (Write width pc at v) n k h = refl
finished-len len c (Reserve rd width pc at) n k h = refl
finished-len len c (Conditional rd width pc at v) n k h = refl
finished-len len c (Fail rd pc) n k h = refl
finished-len len c (Modify op rd width pc at v) n k h = refl
finished-len len c Environment n k h = absurd (h refl)
finished-len len c (Trap cause) n k h = refl

pub finished-front : (h len : ℕ) (p : ProcessorState) (e : Effect) (n : ℕ) (c : CallState) → length p.harts ≤ 2 → h < length p.harts
    → e ≢ Environment
    → cpu_at h len (processor_finished h p e n c) ≡ finished (cpu_at h len p) e n c
unfolding with_len
finished-front h len p e n c few there alone =
    ap (with_len len) (finished-as_cpu h p e n c few there) ∙ sym (finished-len len (cpu_at h c.console_len p) e n c alone)

crossed_front_with : (h len : ℕ) (p : ProcessorState) (harts : List HartOf) → h < length harts → length harts ≤ 2
    → cpu_at (front_after (length harts) h) len (of_harts p harts) ≡ cpu_crossed (cpu_at h len (of_harts p harts))
crossed_front_with h len p [] there few = absurd (omega (arith, there))
crossed_front_with zero len p (a ∷ []) there few = refl
crossed_front_with (suc h) len p (a ∷ []) there few = absurd (omega (arith, there))
crossed_front_with zero len p (a ∷ b ∷ []) there few = refl
crossed_front_with (suc zero) len p (a ∷ b ∷ []) there few = refl
crossed_front_with (suc (suc h)) len p (a ∷ b ∷ []) there few = absurd (omega (arith, there))
crossed_front_with h len p (a ∷ b ∷ d ∷ more) there few = absurd (omega (arith, few))

pub crossed-front : (h len : ℕ) (p : ProcessorState) → h < length p.harts → length p.harts ≤ 2
    → cpu_at (front_after (length p.harts) h) len p ≡ cpu_crossed (cpu_at h len p)
crossed-front h len p there few = crossed_front_with h len p p.harts there few

pub front_after-there : (h : ℕ) (harts : List HartOf) → h < length harts → length harts ≤ 2 → front_after (length harts) h < length harts
front_after-there h [] there few = absurd (omega (arith, there))
front_after-there zero (a ∷ []) there few = lit< tt
front_after-there (suc h) (a ∷ []) there few = absurd (omega (arith, there))
front_after-there zero (a ∷ b ∷ []) there few = lit< tt
front_after-there (suc zero) (a ∷ b ∷ []) there few = lit< tt
front_after-there (suc (suc h)) (a ∷ b ∷ []) there few = absurd (omega (arith, there))
front_after-there h (a ∷ b ∷ d ∷ more) there few = absurd (omega (arith, few))

-- ---- a hart that is alone

-- a hart that is alone is the first one
pub alone-first : (h : ℕ) (harts : List HartOf) → h < length harts → other_of h harts ≡ None → h ≡ 0
alone-first h [] there alone = absurd (omega (arith, there))
alone-first zero (a ∷ []) there alone = refl
alone-first (suc h) (a ∷ []) there alone = absurd (omega (arith, there))
alone-first zero (a ∷ b ∷ more) there alone = refl
alone-first (suc h) (a ∷ b ∷ more) there alone = cc alone

-- the number of harts says whether it is
pub alone-few : (h : ℕ) (harts : List HartOf) → h < length harts → length harts ≤ 2 → nat_lt (length harts) 2 ≡ true
    → other_of h harts ≡ None
alone-few h [] there few one = absurd (omega (arith, there))
alone-few zero (a ∷ []) there few one = refl
alone-few (suc h) (a ∷ []) there few one = absurd (omega (arith, there))
alone-few h (a ∷ b ∷ []) there few one = cc one
alone-few h (a ∷ b ∷ d ∷ more) there few one = absurd (omega (arith, few))

pub few-alone : (h : ℕ) (harts : List HartOf) → h < length harts → length harts ≤ 2 → other_of h harts ≡ None
    → nat_lt (length harts) 2 ≡ true
few-alone h [] there few alone = absurd (omega (arith, there))
few-alone h (a ∷ []) there few alone = refl
few-alone zero (a ∷ b ∷ []) there few alone = cc alone
few-alone (suc h) (a ∷ b ∷ []) there few alone = cc alone
few-alone h (a ∷ b ∷ d ∷ more) there few alone = absurd (omega (arith, few))
