-- What each micro-step does that touches its block, or none: whither it leads, how near that is, what it writes.
use Rattle.std.proofs.Common.{◌≡◌, ℕ, ◌+◌, ◌-◌, ◌*◌, ◌<◌, ◌≤◌, ◌==◌, Bool, true, false, if◌then◌else◌, nat_lt, List, ◌++◌, length, drop, Option, Some, None, refl, sym, ◌∙◌, ap, append_assoc, append-nil, arith}
use Rattle.std.proofs.lemmas.Bool.Decides.{nat_tests}
use Rattle.std.proofs.lemmas.List.{drop-drop}
use Rattle.thy_block.specs.declared.block.Block.{Block}
use Rattle.thy_block.specs.declared.cause.EndCause.TheVariants.{Length, Exhausted, Ended}
use Rattle.thy_block.specs.declared.parameters.Parameters.{Parameters}
use Rattle.thy_block.specs.Device.{block_at}
use Rattle.thy_block.specs.Geometry.{program_size, console_room}
use Rattle.thy_cache.specs.Contents.{Contents, hits, victim_of, is_dirty_victim}
use Rattle.thy_block.specs.declared.span.Span.{Span}
use Rattle.thy_block.specs.Flat.{AllLong}
use Rattle.thy_block.specs.Spans.{span, first_block, head_len, rest_of, head_read, gathered, head_put, scattered}
use Rattle.thy_block.proofs.LongLemmas.{AllLong-head_put}
use Rattle.thy_block.proofs.SpanLaws.{gathered-none, gathered-rest, scattered-none, scattered-rest, head_put-others}
use Rattle.thy_isa.specs.declared.state.Cause.{Cause}
use Rattle.thy_isa.specs.declared.state.CpuState.{CpuState}
use Rattle.thy_isa.specs.declared.state.Effect.{Effect}
use Rattle.thy_isa.specs.declared.state.Effect.TheVariants.{Trap}
use Rattle.thy_isa.specs.Moves.{moves_of, number_in, outgoing}
use Rattle.thy_isa.specs.OnBlocks.{calls_in, effect_in, bytes_in, cpu_after, blocks_after}
use Rattle.thy_isa.specs.Step.{fetched as unless_trapped, fetch_fault, is_running}
use Rattle.thy_isa.proofs.StorableLaws.{finished-room}
use Rattle.thy_hart.specs.Epoch.{exhausted}
use Rattle.thy_hart.specs.declared.hand.Hand.{Hand}
use Rattle.thy_hart.specs.declared.hand.Hand.TheVariants.{Nothing, Reading, Securing, Writing, Retiring}
use Rattle.thy_hart.specs.declared.hand.HartStep.{HartStep}
use Rattle.thy_hart.specs.declared.hand.HartStep.TheVariants.{Moved, Retired, Waiting, Over}
use Rattle.thy_hart.specs.HartState.{HartState, unless_fault, fetched_block, block_for, next_block, blocks_of, secured, has_written, IsWriting, IsInHand}
use Rattle.thy_hart.specs.Outcomes.{Given, begun, written_on, fetched, block_read, dropped, room_secured, room_answer, block_written, epoch_retired, retired, over_or_retired, acted_by, answer_by, memory_by}
use Rattle.thy_hart.specs.Moments.{touch_steps, touch_left, left_behind}
use Rattle.thy_hart.specs.MicroSteps.{HitsNext}
use Rattle.thy_hart.specs.OneStep.{current, led, coming_by, coming, HasCome, Leads, StaysWritten}
use Rattle.thy_hart.proofs.HandLemmas.{begun_by, written_by, head_len-some, blocks_of-most, blocks_of-least, blocks_of-two, blocks_of-rest}

-- how many steps are left, before and after
abbrev pub FallsAt : HartStep → ℕ → ℕ → Type 0
FallsAt Moved old new = new + 1 ≤ old
FallsAt Retired old new = Unit {0}
FallsAt Waiting old new = Unit {0}
FallsAt (Over cause) old new = Unit {0}

abbrev pub left_at : Contents → HartState → ℕ
left_at c h = touch_left c (next_block h) + left_behind h.hand

-- what holds of a hart and a memory before and after a micro-step
pub record IsDone (g : Given) (c d : Contents) (h : HartState) (m : List Block) (new : HartState) (step : HartStep) (now : List Block) : Type 0 where
  pub leads : Leads step g.input h m new now
  pub falls : FallsAt step (left_at c h) (left_at d new)
  pub unwritten : secured h.hand ≡ 0 → now ≡ m
  pub clean : has_written new.hand ≡ false → now ≡ m
  pub written : StaysWritten step h.hand new.hand
  pub others : (b : ℕ) → (next_block h ≡ Some b → ⊥) → block_at now b ≡ block_at m b
  pub fixed : new.geometry ≡ h.geometry
  pub long : AllLong m → AllLong now
  pub console : h.cpu.console_len ≤ console_room h.geometry → new.cpu.console_len ≤ console_room new.geometry

-- a hart with this in hand
abbrev pub with_hand : Hand → HartState → HartState
with_hand hand h = record h { hand = hand }

-- ---- what is to come

-- an effect that begins or continues reaches the same state as its bytes do
pub begun-coming : (input : List ℕ) (h : HartState) (m : List Block) (e : Effect) (from to : Span)
    → coming_by input h m (begun e from to) ≡ led input h e (h.bytes ++ gathered m from)
    (scattered m to (outgoing e (h.bytes ++ gathered m from)))
begun-coming input h m e from to =
    let all : List ℕ = h.bytes ++ gathered m from in
    let none_read : from.len ≡ 0 → h.bytes ≡ all
    = λ none. sym (append-nil h.bytes) ∙ ap (λ t. h.bytes ++ t) (sym (gathered-none m from none)) in
    begun_by (λ hand. coming_by input h m hand ≡ led input h e all (scattered m to (outgoing e all))) e from to
    (λ some. refl)
    (λ none some. ap (λ bs. led input h e bs (scattered m to (outgoing e bs))) (none_read none))
    (λ none end. ap (λ bs. led input h e bs m) (none_read none) ∙ ap (led input h e all) (sym (scattered-none m to (outgoing e all) end)))

-- an effect that continues after a written block reaches the same state as the rest of its bytes do
pub written-coming : (input : List ℕ) (h : HartState) (m : List Block) (e : Effect) (to : Span) (done : ℕ)
    → coming_by input h m (written_on e to done) ≡ led input h e h.bytes (scattered m to (drop done (outgoing e h.bytes)))
written-coming input h m e to done =
    written_by (λ hand. coming_by input h m hand ≡ led input h e h.bytes (scattered m to (drop done (outgoing e h.bytes)))) e to done
    (λ some. refl)
    (λ end. ap (led input h e h.bytes) (sym (scattered-none m to (drop done (outgoing e h.bytes)) end)))

-- ---- how near it is

touch_by : (hit dirty : Bool) → (if hit then 1 else (if dirty then 3 else 2)) ≤ 3
touch_by true dirty = omega arith
touch_by false true = omega arith
touch_by false false = omega arith

pub touch_most : (c : Contents) (o : Option ℕ) → touch_left c o ≤ 3
touch_most c None = omega arith
touch_most c (Some b) = touch_by (hits c b) (is_dirty_victim (victim_of c b))

pub touch_hit : (c : Contents) (b : ℕ) → hits c b ≡ true → touch_steps c b ≡ 1
touch_hit c b h = ap (λ t. if t then 1 else (if is_dirty_victim (victim_of c b) then 3 else 2)) h

left_with : Contents → Parameters → CpuState → Hand → ℕ
left_with d p cpu hand = touch_left d (block_for p cpu hand) + left_behind hand

begun-left : (d : Contents) (p : Parameters) (cpu : CpuState) (e : Effect) (from to : Span) → left_with d p cpu (begun e from to) ≤ 13
unfolding left_with
begun-left d p cpu e from to =
    begun_by (λ hand. left_with d p cpu hand ≤ 13) e from to
    (λ some. omega (arith, touch_most d (Some (first_block from)), blocks_of-most from))
    (λ none some. omega (arith, blocks_of-most to))
    (λ none end. omega arith)

-- a fetch that faults retires at once
fault_by : (o : Option Cause) (b : ℕ) (e : Effect) → unless_fault o b ≡ None → (cause : Cause) × (unless_trapped o e ≡ Trap cause)
fault_by None b e h = cc h
fault_by (Some cause) b e h = (cause, refl)

fault : (p : Parameters) (cpu : CpuState) (m : List Block) → fetched_block p cpu ≡ None → (cause : Cause) × (effect_in p cpu m ≡ Trap cause)
unfolding fetched_block effect_in
fault p cpu m h = fault_by (fetch_fault p.base (program_size p) cpu.pc) (first_block (span (cpu.pc - p.base) 4)) _ h

fault-hand : (input : List ℕ) (m : List Block) (h : HartState) → fetched_block h.geometry h.cpu ≡ None
    → (cause : Cause) × ((fetched input m h).hand ≡ Retiring (Trap cause) false)
unfolding fetched begun moves_of
fault-hand input m h none =
    let w = fault h.geometry h.cpu m none in
    let calls = calls_in h.geometry h.cpu (length input) in
    (w.0, ap (λ e. begun e (moves_of h.cpu.regs calls e).from (moves_of h.cpu.regs calls e).to) w.1)

retiring_left : (d : Contents) (p : Parameters) (cpu : CpuState) (e : Effect) (wrote : Bool) → left_with d p cpu (Retiring e wrote) ≡ 0
unfolding left_with
retiring_left d p cpu e wrote = refl

fetch-falls : (input : List ℕ) (c d : Contents) (h : HartState) (m : List Block) (o : Option ℕ) → fetched_block h.geometry h.cpu ≡ o
    → HitsNext c o
    → left_with d h.geometry h.cpu (fetched input m h).hand + 1 ≤ touch_left c o + 13
unfolding fetched
fetch-falls input c d h m None is hit =
    let w = fault-hand input m h is in
    omega (arith, ap (left_with d h.geometry h.cpu) w.1, retiring_left d h.geometry h.cpu (Trap w.0) false)
fetch-falls input c d h m (Some b) is hit =
    let e = effect_in h.geometry h.cpu m in
    let moves = moves_of h.cpu.regs (calls_in h.geometry h.cpu (length input)) e in
    omega (arith, touch_hit c b hit, begun-left d h.geometry h.cpu e moves.from moves.to)

read-falls : (d : Contents) (p : Parameters) (cpu : CpuState) (e : Effect) (from to : Span) → from.len ≤ 64
    → left_with d p cpu (begun e (rest_of from) to) ≤ 3 * (blocks_of from - 1) + 7
unfolding left_with
read-falls d p cpu e from to short =
    begun_by (λ hand. left_with d p cpu hand ≤ 3 * (blocks_of from - 1) + 7) e (rest_of from) to
    (λ some. omega (arith, touch_most d (Some (first_block (rest_of from))), blocks_of-two from some, blocks_of-rest from short))
    (λ none some. omega (arith, blocks_of-most to))
    (λ none end. omega arith)

write-falls : (d : Contents) (p : Parameters) (cpu : CpuState) (e : Effect) (to : Span) (done : ℕ) → to.len ≤ 64
    → left_with d p cpu (written_on e (rest_of to) done) ≤ 3 * (blocks_of to - 1)
unfolding left_with
write-falls d p cpu e to done short =
    written_by (λ hand. left_with d p cpu hand ≤ 3 * (blocks_of to - 1)) e (rest_of to) done
    (λ some. omega (arith, touch_most d (Some (first_block (rest_of to))), blocks_of-two to some, blocks_of-rest to short))
    (λ end. omega arith)

-- ---- what has been written

not_zero : (n : ℕ) → 0 < n → (n == 0) ≡ false
not_zero n h = grind (arith, nat_tests)

written-has : (e : Effect) (to : Span) (n : ℕ) → 0 < n → has_written (written_on e to n) ≡ true
written-has e to n some =
    written_by (λ hand. has_written hand ≡ true) e to n (λ _. ap (λ b. if b then false else true) (not_zero n some)) (λ _. refl)

-- ---- each micro-step

module _ (g : Given) (c d : Contents) (h : HartState) (m : List Block) where
  fetch-done : HitsNext c (fetched_block h.geometry h.cpu)
      → IsDone g c d (with_hand Nothing h) m (fetched g.input m (with_hand Nothing h)) Moved m
  unfolding coming fetched bytes_in blocks_after left_with
  fetch-done hit =
      let k = with_hand Nothing h in
      let e = effect_in h.geometry h.cpu m in
      let moves = moves_of h.cpu.regs (calls_in h.geometry h.cpu (length g.input)) e in
      record {
        leads = record { cpu = refl; coming = begun-coming g.input (fetched g.input m k) m e moves.from moves.to };
        falls = fetch-falls g.input c d k m (fetched_block h.geometry h.cpu) refl hit;
        unwritten = λ _. refl;
        clean = λ _. refl;
        written = λ _. refl;
        others = λ b no. refl;
        fixed = refl;
        long = λ l. l;
        console = λ l. l;
      }

  read-done : (e : Effect) (from to : Span) → from.len ≤ 64 → hits c (first_block from) ≡ true
      → IsDone g c d (with_hand (Reading e from to) h) m (block_read m e from to (with_hand (Reading e from to) h)) Moved m
  unfolding coming left_with
  read-done e from to short hit =
      let k = with_hand (Reading e from to) h in
      record {
        leads = record {
          cpu = refl;
          coming = begun-coming g.input (block_read m e from to k) m e (rest_of from) to
              ∙ ap (λ bs. led g.input k e bs (scattered m to (outgoing e bs))) (append_assoc h.bytes (head_read m from)
              (gathered m (rest_of from)) ∙ ap (λ t. h.bytes ++ t) (gathered-rest m from short));
        };
        falls = omega (arith, touch_hit c (first_block from) hit, read-falls d h.geometry h.cpu e from to short);
        unwritten = λ _. refl;
        clean = λ _. refl;
        written = λ _. refl;
        others = λ b no. refl;
        fixed = refl;
        long = λ l. l;
        console = λ l. l;
      }

  room_by : (short under_way : Bool) (e : Effect) (to : Span) (free dirty : ℕ)
      → let k = with_hand (Securing e to) h in
      IsDone g c d k m (if short then (if under_way then k else dropped (exhausted free dirty (blocks_of to) k.epoch) k) else record k { hand = Writing e to 0 })
      (if short then (if under_way then Waiting else Over (Exhausted free dirty (blocks_of to))) else Moved) m
  unfolding coming
  room_by true true e to free dirty = record {
    leads = record { hart = refl; memory = refl };
    falls = tt;
    unwritten = λ _. refl;
    clean = λ _. refl;
    written = tt;
    others = λ b no. refl;
    fixed = refl;
    long = λ l. l;
    console = λ l. l;
  }
  room_by true false e to free dirty = record {
    leads = record { cpu = refl; hand = refl; memory = refl; unwritten = refl };
    falls = tt;
    unwritten = λ _. refl;
    clean = λ _. refl;
    written = tt;
    others = λ b no. refl;
    fixed = refl;
    long = λ l. l;
    console = λ l. l;
  }
  room_by false under_way e to free dirty = record {
    leads = record { cpu = refl; coming = refl };
    falls = omega (arith, touch_most d (Some (first_block to)), blocks_of-least to);
    unwritten = λ _. refl;
    clean = λ _. refl;
    written = λ _. refl;
    others = λ b no. refl;
    fixed = refl;
    long = λ l. l;
    console = λ l. l;
  }

  room-done : (e : Effect) (to : Span) (dirty : ℕ)
      → IsDone g c d (with_hand (Securing e to) h) m (room_secured g.free g.under_way dirty e to (with_hand (Securing e to) h))
      (room_answer g.free g.under_way dirty to) m
  unfolding room_secured room_answer
  room-done e to dirty = room_by (nat_lt g.free (dirty + blocks_of to)) g.under_way e to g.free dirty

  write-done : (e : Effect) (to : Span) (done : ℕ) → IsWriting h.geometry e to done (length h.bytes) → hits c (first_block to) ≡ true
      → IsDone g c d (with_hand (Writing e to done) h) m (block_written e to done (with_hand (Writing e to done) h)) Moved
      (head_put m to (drop done (outgoing e h.bytes)))
  unfolding coming left_with
  write-done e to done w hit =
      let k = with_hand (Writing e to done) h in
      let bytes = outgoing e h.bytes in
      let now = head_put m to (drop done bytes) in
      let n = done + head_len to in
      let has : has_written (written_on e (rest_of to) n) ≡ true = written-has e (rest_of to) n (omega (arith, head_len-some to w.some)) in
      record {
        leads = record {
          cpu = refl;
          coming = written-coming g.input (block_written e to done k) now e (rest_of to) n
              ∙ ap (λ bs. led g.input k e h.bytes (scattered now (rest_of to) bs)) (sym (drop-drop (head_len to) done bytes))
              ∙ ap (led g.input k e h.bytes) (scattered-rest m to (drop done bytes) w.span_to.short);
        };
        falls = omega (arith, touch_hit c (first_block to) hit, write-falls d h.geometry h.cpu e to n w.span_to.short);
        unwritten = λ none. absurd (omega (arith, none, blocks_of-least to));
        clean = λ not. cc (has, not);
        written = λ not. cc (has, not);
        others = λ b no. head_put-others m to (drop done bytes) b (λ _ is. no (ap Some (sym is)));
        fixed = refl;
        long = AllLong-head_put m to (drop done bytes);
        console = λ l. l;
      }

  over_by : (P : HartStep → Type 0) (running last : Bool) → P Retired → P (Over Length) → P (Over Ended)
      → P (over_or_retired (if running then (if last then Some Length else None) else Some Ended))
  over_by P true true p q r = q
  over_by P true false p q r = p
  over_by P false last p q r = r

  retire-console : (e : Effect) → h.cpu.console_len ≤ console_room h.geometry
      → (cpu_after h.geometry g.input h.cpu e h.bytes).console_len ≤ console_room h.geometry
  unfolding cpu_after
  retire-console e l = finished-room h.cpu e (number_in e h.bytes) (calls_in h.geometry h.cpu (length g.input)) (console_room h.geometry) refl l

  retire-done : (e : Effect) (wrote : Bool)
      → let k = with_hand (Retiring e wrote) h in IsDone g c d k m (retired g.input e k) (over_or_retired (epoch_retired g.input e k).over) m
  unfolding coming current
  retire-done e wrote =
      let k = with_hand (Retiring e wrote) h in
      let n = h.epoch.retired + 1 in
      let has_come : HasCome g.input k m (retired g.input e k) m = record { current = refl; hand = refl } in
      over_by (λ step. IsDone g c d k m (retired g.input e k) step m) (is_running (cpu_after h.geometry g.input h.cpu e h.bytes).status)
      (n == h.epoch.span)
      (record { leads = has_come; falls = tt; unwritten = λ _. refl; clean = λ _. refl; written = tt; others = λ b no. refl; fixed = refl; long = λ l. l; console = retire-console e })
      (record { leads = has_come; falls = tt; unwritten = λ _. refl; clean = λ _. refl; written = tt; others = λ b no. refl; fixed = refl; long = λ l. l; console = retire-console e })
      (record { leads = has_come; falls = tt; unwritten = λ _. refl; clean = λ _. refl; written = tt; others = λ b no. refl; fixed = refl; long = λ l. l; console = retire-console e })

  -- each micro-step does what its definition says, by what is in hand
  pub done_by : (dirty : ℕ) (hand : Hand) → IsInHand h.geometry hand (length h.bytes) → HitsNext c (block_for h.geometry h.cpu hand)
      → IsDone g c d (with_hand hand h) m (acted_by g dirty m (with_hand hand h) hand) (answer_by g dirty (with_hand hand h) hand)
      (memory_by h.bytes m hand)
  done_by dirty Nothing w hit = fetch-done hit
  done_by dirty (Reading e from to) w hit = read-done e from to w.span_from.short hit
  done_by dirty (Securing e to) w hit = room-done e to dirty
  done_by dirty (Writing e to done) w hit = write-done e to done w hit
  done_by dirty (Retiring e wrote) w hit = retire-done e wrote
