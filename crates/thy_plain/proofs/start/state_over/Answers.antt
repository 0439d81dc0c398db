use Rattle.std.proofs.Common.{List, ℕ, subst, rules}
use Rattle.std.specs.List.{All}
use Rattle.thy_block.specs.Bytes.{bytes_of}
use Rattle.thy_isa.specs.Storable.{IsByte, IsStorable}
use Rattle.thy_plain.specs.Start.{start_state}
use Rattle.thy_plain.proofs.StartLaws.{start_state-storable}
use Rattle.thy_plain.proofs.start.state_over.Goals as goal

pub returns-clause-storable : goal.returns-clause-storable
returns-clause-storable c =
    let p = c.args.geometry.now in
    let bytes : All IsByte (bytes_of c.args.memory) = subst (λ (l : List ℕ). All IsByte l) c.as_slice.ensures c.recall_are_bytes.ensures in
    let start : IsStorable _ (start_state p (record { entry = c.args.entry; floor = c.args.floor; memory = bytes_of c.args.memory })) =
    start_state-storable p _ c.start_regs.ensures.top (record { entry = c.ranges.entry.fits; floor = c.ranges.floor.fits; bytes = bytes }) in
    rw (c.start_regs.ensures.regs, c.start_other.ensures, c.requires) start

pub returns-clause-state : goal.returns-clause-state
returns-clause-state c = search rules
