-- What the calls of a machine leave, with its device.
use Rattle.std.proofs.Common.{◌≡◌, ℕ, ◌+◌, ◌-◌, ◌≤◌, ◌<◌, Option, None, [], length, sym, ◌∙◌, ap, subst, lit<, arith, ◌^◌}
use Rattle.thy_block.specs.declared.parameters.Parameters.{Parameters}
use Rattle.thy_block.specs.declared.nvm.Shape.{Shape}
use Rattle.thy_block.specs.declared.mark.Mark.{Mark}
use Rattle.thy_block.specs.Device.{Device, IsFramed, fitted, IsCut}
use Rattle.thy_block.specs.Geometry.{IsInRange, program_size}
use Rattle.thy_block.specs.declared.mix.Pick.{Pick}
use Rattle.thy_block.proofs.BasicLemmas.{room-cut}
use Rattle.thy_isa.specs.declared.state.Status.TheVariants.{Running}
use Rattle.thy_isa.specs.Step.{State}
use Rattle.thy_isa.specs.Storable.{IsNumber, IsStorable, IsReadable}
use Rattle.thy_isa.proofs.MemoryBounds.{anywhere}
use Rattle.thy_elf.specs.Image.{Contents}
use Rattle.thy_plain.specs.Start.{start_state}
use Rattle.thy_plain.proofs.StartLaws.{start_other-alone}
use Rattle.thy_layout.specs.Cpu.{is_status, status_tag, status_value, IsOtherRecordable}
use Rattle.thy_layout.specs.declared.start.Start.{Start}
use Rattle.thy_computer.specs.Booting.{found_first}
use Rattle.thy_computer.specs.Kind.{KindOf, IsLawful, IsFittedFor, IsStep}
use Rattle.thy_computer.specs.Origin.{Origin, IsOrigin, StartsFrom, setting_of}
use Rattle.thy_computer.specs.WithTurns.{HasTurn, IsThere}
use Rattle.thy_computer.specs.declared.did.Stepped.{Stepped}
use Rattle.thy_computer.proofs.AgainLaws.{goes_on_after_cut}
use Rattle.thy_computer.proofs.OneHartLaws.{has-turn}
use Rattle.thy_machine_tests.specs.Powered.{origin_from, powered, IsPowered}
use Rattle.thy_machine_tests.proofs.LeastLemmas.{HasRoom-framed}

-- a run may start as a program is loaded
pub IsOrigin-start : (o : Origin) (contents : Contents) → IsInRange o.geometry → o.start ≡ start_state o.geometry contents → IsStorable (program_size o.geometry) o.start → IsReadable (setting_of o) → o.kept ≡ None → o.geometry.harts ≡ 1 → IsOrigin o
IsOrigin-start o contents range is storable readable fresh one =
    let console : length o.start.console ≡ 0 = ap (λ (s : State). length s.console) is in
    let count : o.start.count ≡ 0 = ap (λ (s : State). s.count) is in
    let status : o.start.status ≡ Running = ap (λ (s : State). s.status) is in
    record {
      geometry = range;
      recordable = record {
        pc = storable.pc;
        regs_length = storable.registers;
        regs_zero = storable.zero_register;
        regs = anywhere IsNumber (lit< tt) o.start.regs storable.numbers;
        console = omega (arith, console);
        cursor = storable.cursor;
        brk = storable.brk;
        floor = storable.floor;
        count = omega (arith, count);
        status = ap (λ s. is_status (status_tag s) (status_value s)) status;
        other = subst (IsOtherRecordable o.geometry) (sym (ap (λ (s : State). s.other) is ∙ start_other-alone o.geometry contents.entry one)) (λ two. omega (arith, one, two));
      };
      memory = storable.memory_size;
      storable = storable;
      readable = readable;
      starts = subst (λ (kept : Option Mark). StartsFrom kept o.start) (sym fresh) status;
    }

-- a device of zeros is fitted for a start that was made from a file
fits : {M : Type 0} (K : KindOf M) (laws : IsLawful K) → (o : Origin) (shape : Shape) (n : Device) → o.kept ≡ None → shape.blocks ≡ K.blocks o.geometry
    → IsFittedFor K o shape [] n
fits K laws o shape n file blocks = record {
  blocks = blocks;
  fits = omega arith;
  long = record { each = λ i l. absurd (omega arith) };
  found = laws.finds_nothing o.geometry shape n blocks ∙ ap (found_first o) (sym file);
}

-- power comes on for the first time
pub IsPowered-first : {M : Type 0} (K : KindOf M) (laws : IsLawful K) → (p : Parameters) (start : Start) (m : M) (shape : Shape) (before n : Device)
    → IsOrigin (origin_from p start) → p.harts ≡ 1 → start.kept ≡ None → K.powered p m
    → shape.blocks ≡ K.blocks p → n ≡ fitted shape [] before
    → IsPowered K (powered p start m n 0 shape.cuts)
IsPowered-first K laws p start m shape before n origin one file new blocks is =
    let o : Origin = origin_from p start in
    subst (λ (d : Device). IsPowered K (powered p start m d 0 shape.cuts)) (sym is) (record {
      at_moment = (laws.begins o m shape [] before origin new (fits K laws o shape before file blocks)).0;
      one = one;
      few = omega arith;
      room = omega arith;
    })

-- a machine is still on after a cycle that was done
pub IsPowered-stepped : {M : Type 0} (K : KindOf M) → (p : Parameters) (start : Start) (m next : M) (n new : Device) (k cuts : ℕ) (pick : Pick) (r : Stepped)
    → IsPowered K (powered p start m n k cuts) → k + 1 < 2 ^ 62
    → IsThere (origin_from p start) (K.view (origin_from p start) m n) r.did × (HasTurn (origin_from p start) (K.view (origin_from p start) m n) r.did → IsStep K (origin_from p start) k pick m next n new r)
    → IsFramed n new
    → IsPowered K (powered p start next new (k + 1) cuts)
IsPowered-stepped K p start m next n new k cuts pick r w few step frame = record {
  at_moment = (step.1 (has-turn (origin_from p start) (K.view (origin_from p start) m n) r.did w.one step.0)).at_next;
  one = w.one;
  few = few;
  room = HasRoom-framed n new cuts w.room frame;
}

-- a machine is still on after its device was read
pub IsPowered-read : {M : Type 0} (K : KindOf M) → (p : Parameters) (start : Start) (m : M) (n new : Device) (k cuts : ℕ)
    → IsPowered K (powered p start m n k cuts) → new ≡ n → IsPowered K (powered p start m new k cuts)
IsPowered-read K p start m n new k cuts w same = subst (λ (d : Device). IsPowered K (powered p start m d k cuts)) (sym same) w

-- power was cut, and comes on again
pub IsPowered-cut : {M : Type 0} (K : KindOf M) (laws : IsLawful K) → (p : Parameters) (start : Start) (m next : M) (n new : Device) (k cuts pick : ℕ)
    → IsPowered K (powered p start m n k cuts) → K.powered p next → IsCut pick n new → 0 < cuts
    → IsPowered K (powered p start next new k (cuts - 1))
IsPowered-cut K laws p start m next n new k cuts pick w powers cut some =
    let o : Origin = origin_from p start in
    subst (λ (d : Device). IsPowered K (powered p start next d k (cuts - 1))) (sym cut.device) (record {
      at_moment = (goes_on_after_cut K laws o k m next n pick new.image new.wear w.at_moment powers cut.crash).0;
      one = w.one;
      few = w.few;
      room = room-cut n.left new.image n.left_room cuts w.room some;
    })
