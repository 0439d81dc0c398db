-- A step of the hart, from what it does.
use Rattle.std.proofs.Common.{◌≡◌, ◌⊎◌, ℕ, ◌+◌, ◌-◌, ◌<◌, ◌≤◌, Bool, true, false, not, if◌then◌else◌, length, Option, Some, None, refl, sym, ◌∙◌, ap, subst, inl, inr, arith}
use Rattle.thy_block.specs.Device.{block_at}
use Rattle.thy_block.specs.Geometry.{memory_blocks, program_size}
use Rattle.thy_block.specs.Store.{Holding, StoresOver}
use Rattle.thy_cache.specs.Contents.{Contents, hits, victim_of, dirty_count}
use Rattle.thy_cache.specs.Flat.{flat, Agrees}
use Rattle.thy_block.specs.Flat.{AllLong}
use Rattle.thy_isa.specs.declared.state.CpuState.{CpuState}
use Rattle.thy_block.specs.declared.parameters.Parameters.{Parameters}
use Rattle.thy_isa.specs.Step.{fetch_fault}
use Rattle.thy_block.proofs.BasicLemmas.{some_same}
use Rattle.thy_block.specs.Spans.{span, first_block}
use Rattle.thy_hart.specs.declared.hand.Hand.{Hand}
use Rattle.thy_hart.specs.declared.hand.Hand.TheVariants.{Nothing, Reading, Securing, Writing, Retiring}
use Rattle.thy_hart.specs.declared.hand.HartStep.{HartStep}
use Rattle.thy_hart.specs.declared.hand.HartStep.TheVariants.{Moved, Retired, Waiting, Over}
use Rattle.thy_hart.specs.HartState.{HartState, fetched_block, block_for, next_block, secured, IsInHand, IsSoundHart}
use Rattle.thy_hart.specs.Outcomes.{Given, acted_by, answer_by, memory_by}
use Rattle.thy_hart.specs.Bring.{BringsBy, CallsStore, IsNearer, BringsLine, IsBrought}
use Rattle.thy_hart.specs.Moments.{Moment, moment, is_missing, brings_line, IsOpenInTheWay, IsOpenFor, IsReady, touch_left}
use Rattle.thy_hart.specs.MicroSteps.{HitsNext, IsMicroStep}
use Rattle.thy_hart.specs.OneStep.{coming, ComesNearer, Nears, Closes, IsStep}
use Rattle.thy_hart.proofs.FetchLemmas.{fetched_inside, word_inside, unless_some}
use Rattle.thy_hart.proofs.HandLemmas.{first_block-inside}
use Rattle.thy_hart.proofs.StepLemmas.{FallsAt, left_at, IsDone, done_by}

-- ---- the block that is touched lies in memory

fetched_block-inside : (p : Parameters) (cpu : CpuState) (b : ℕ) → fetched_block p cpu ≡ Some b → b < memory_blocks p
unfolding fetched_block
fetched_block-inside p cpu b h =
    let w = unless_some (fetch_fault p.base (program_size p) cpu.pc) (first_block (span (cpu.pc - p.base) 4)) b h in
    omega (arith, w.1, word_inside p cpu.pc (fetched_inside p cpu.pc w.0))

block_for-inside : (p : Parameters) (cpu : CpuState) (hand : Hand) (have b : ℕ) → IsInHand p hand have → block_for p cpu hand ≡ Some b
    → b < memory_blocks p
block_for-inside p cpu Nothing have b w h = fetched_block-inside p cpu b h
block_for-inside p cpu (Reading e from to) have b w h =
    omega (arith, some_same (first_block from) b h, first_block-inside (memory_blocks p) from w.span_from w.some)
block_for-inside p cpu (Securing e to) have b w h = cc h
block_for-inside p cpu (Writing e to done) have b w h =
    omega (arith, some_same (first_block to) b h, first_block-inside (memory_blocks p) to w.span_to w.some)
block_for-inside p cpu (Retiring e wrote) have b w h = cc h

pub next_block-inside : (h : HartState) (b : ℕ) → IsSoundHart h → next_block h ≡ Some b → b < memory_blocks h.geometry
next_block-inside h b s is = block_for-inside h.geometry h.cpu h.hand (length h.bytes) b s.in_hand is

-- ---- a line is brought

-- the choice of what a step does, if its line is brought
if_true : {A : Type 0} (b : Bool) (x y : A) → b ≡ true → x ≡ (if b then x else y)
if_true b x y h = sym (ap (λ t. if t then x else y) h)

if_false : {A : Type 0} (b : Bool) (x y : A) → b ≡ false → y ≡ (if b then x else y)
if_false b x y h = sym (ap (λ t. if t then x else y) h)

nearer_by : (b : ℕ) (h : HartState) (c d : Contents) (old new : Holding) → next_block h ≡ Some b → IsNearer b c old d new
    → ComesNearer (moment h c old) (moment h d new)
nearer_by b h c d old new is (inl less) = inl (omega (arith, less, ap (touch_left c) is, ap (touch_left d) is))
nearer_by b h c d old new is (inr same) = inr (omega (arith, same.0, ap (touch_left c) is, ap (touch_left d) is), same.1)

pub IsStep-brought : (g : Given) (b : ℕ) (h : HartState) (c d : Contents) (old new : Holding) → IsReady (moment h c old)
    → next_block h ≡ Some b → hits c b ≡ false
    → IsBrought b c old d new → IsStep g (moment h c old) (moment h d new) Moved
IsStep-brought g b h c d old new r is miss w =
    let brought : is_missing c (next_block h) ≡ true = ap (is_missing c) is ∙ ap not miss in
    let before = flat c old.blocks in
    record {
      hart = if_true (is_missing c (next_block h)) h (acted_by g (dirty_count c) before h h.hand) brought;
      says = if_true (is_missing c (next_block h)) Moved (answer_by g (dirty_count c) h h.hand) brought;
      memory = w.memory ∙ if_true (is_missing c (next_block h)) before (memory_by h.bytes before h.hand) brought;
      leads = record { cpu = refl; coming = ap (coming g.input h) w.memory };
      nears = nearer_by b h c d old new is w.nearer;
      unwritten = λ _. w.memory;
      clean = λ _. w.memory;
      written = λ e. e;
      others = λ x _. ap (λ m. block_at m x) w.memory;
      brought = λ x _ at. subst (λ y. BringsLine (victim_of c y) y c old d) (some_same b x (sym is ∙ at)) w.line;
      tidy = omega (arith, w.tidy);
      room = omega (arith, w.room);
      used = λ no. let e = sym brought ∙ no in cc e;
      alone = λ no. let e = sym brought ∙ no in cc e;
      untouched = λ none. let e = sym is ∙ none in cc e;
      ready = record {
        blocks = w.blocks ∙ r.blocks;
        agree = w.agree;
        ready = w.ready ∙ r.ready;
        room = omega (arith, w.room, r.room);
        opened = subst (λ o. IsOpenFor d o new.open_page) (sym is) w.opened;
      };
      owed = w.owed;
      closed = tt;
      fixed = refl;
      sized = w.sized;
      long = subst AllLong (sym w.memory);
      console = λ l. l;
    }

-- ---- the hart continues

-- a block that hits is not missing, and no page is open then
pub hit_not_missing : (c : Contents) (o : Option ℕ) → HitsNext c o → is_missing c o ≡ false
hit_not_missing c None h = refl
hit_not_missing c (Some b) h = ap not h

none_open_by : (c : Contents) (b : ℕ) (page : Option ℕ) → hits c b ≡ true → (page ≡ None) ⊎ IsOpenInTheWay c b page → page ≡ None
none_open_by c b page hit (inl none) = none
none_open_by c b page hit (inr way) = let e = sym hit ∙ way.missing in cc e

none_open : (c : Contents) (o : Option ℕ) (page : Option ℕ) → HitsNext c o → IsOpenFor c o page → page ≡ None
none_open c None page hit h = h
none_open c (Some b) page hit h = none_open_by c b page hit h

none_opens : (c : Contents) (o : Option ℕ) (page : Option ℕ) → page ≡ None → IsOpenFor c o page
none_opens c None page h = h
none_opens c (Some b) page h = inl h

pub ready-closed : (m : Moment) → length m.held.blocks ≡ memory_blocks m.hart.geometry → Agrees m.cache m.held.blocks → m.held.ready ≡ true
    → dirty_count m.cache + secured m.hart.hand ≤ m.held.free → m.held.open_page ≡ None → IsReady m
ready-closed m blocks agree ready room none = record {
  blocks = blocks;
  agree = agree;
  ready = ready;
  room = room;
  opened = none_opens m.cache (next_block m.hart) m.held.open_page none;
}

closes : (step : HartStep) (held : Holding) → held.open_page ≡ None → Closes step held
closes Moved held h = tt
closes Retired held h = h
closes Waiting held h = h
closes (Over cause) held h = h

nears_by : (step : HartStep) (old new : Moment) → FallsAt step (left_at old.cache old.hart) (left_at new.cache new.hart) → Nears step old new
nears_by Moved old new h = inl h
nears_by Retired old new h = tt
nears_by Waiting old new h = tt
nears_by (Over cause) old new h = tt

pub IsStep-acted : (g : Given) (h k : HartState) (c d : Contents) (held : Holding) (step : HartStep) → g.free ≡ held.free → IsSoundHart h
    → IsReady (moment h c held)
    → HitsNext c (next_block h) → IsMicroStep g c d h k step → IsStep g (moment h c held) (moment k d held) step
IsStep-acted g h k c d held step free s r hit a =
    let before = flat c held.blocks in
    let missing : is_missing c (next_block h) ≡ false = hit_not_missing c (next_block h) hit in
    let none : held.open_page ≡ None = none_open c (next_block h) held.open_page hit r.opened in
    let exactly = done_by g c d h before (dirty_count c) h.hand s.in_hand hit in
    let hart : k ≡ acted_by g (dirty_count c) before h h.hand = a.hart held.blocks r.blocks in
    let memory : flat d held.blocks ≡ memory_by h.bytes before h.hand = a.memory held.blocks r.blocks in
    let at_memory = subst (λ m. IsDone g c d h before (acted_by g (dirty_count c) before h h.hand) (answer_by g (dirty_count c) h h.hand) m)
    (sym memory) exactly in
    let at_hart = subst (λ x. IsDone g c d h before x (answer_by g (dirty_count c) h h.hand) (flat d held.blocks)) (sym hart) at_memory in
    let w : IsDone g c d h before k step (flat d held.blocks) = subst (λ x. IsDone g c d h before k x (flat d held.blocks)) (sym a.says) at_hart in
    record {
      hart = hart ∙ if_false (is_missing c (next_block h)) h (acted_by g (dirty_count c) before h h.hand) missing;
      says = a.says ∙ if_false (is_missing c (next_block h)) Moved (answer_by g (dirty_count c) h h.hand) missing;
      memory = memory ∙ if_false (is_missing c (next_block h)) before (memory_by h.bytes before h.hand) missing;
      leads = w.leads;
      nears = nears_by step (moment h c held) (moment k d held) w.falls;
      unwritten = w.unwritten;
      clean = w.clean;
      written = w.written;
      others = w.others;
      brought = λ b is _. let e = sym missing ∙ is in cc e;
      used = λ _. a.cache;
      tidy = a.tidy;
      room = omega (arith, a.tidy);
      alone = λ _. refl;
      untouched = a.untouched;
      ready = record {
        blocks = r.blocks ∙ ap memory_blocks (sym w.fixed);
        agree = a.agree held.blocks r.agree;
        ready = r.ready;
        room = let room : dirty_count d + secured k.hand ≤ g.free = a.room (omega (arith, free, r.room)) in omega (arith, free, room);
        opened = none_opens d (next_block k) held.open_page none;
      };
      owed = omega arith;
      closed = closes step held none;
      fixed = w.fixed;
      sized = a.sized;
      long = w.long;
      console = w.console;
    }

-- ---- which call of the store is made

module _ {S N : Type 0} (loads : S → N → S → N → Type 0) (stores : StoresOver S N) where
  pub called-none : (x : Moment) (d : Contents) (s : S) (m : N) (t : S) (n : N) → HitsNext x.cache (next_block x.hart)
      → CallsStore loads stores (brings_line x) (next_block x.hart) x.cache d s m t n
  called-none x d s m t n hit =
      subst (λ brings. CallsStore loads stores brings (next_block x.hart) x.cache d s m t n)
      (sym (hit_not_missing x.cache (next_block x.hart) hit)) tt

  pub called-line : (b : ℕ) (x : Moment) (d : Contents) (s : S) (m : N) (t : S) (n : N) → next_block x.hart ≡ Some b → hits x.cache b ≡ false
      → BringsBy loads stores (victim_of x.cache b) b x.cache d s m t n
      → CallsStore loads stores (brings_line x) (next_block x.hart) x.cache d s m t n
  called-line b x d s m t n is miss by =
      subst (λ block. CallsStore loads stores (is_missing x.cache block) block x.cache d s m t n) (sym is)
      (subst (λ brings. CallsStore loads stores brings (Some b) x.cache d s m t n) (sym (ap not miss)) by)
