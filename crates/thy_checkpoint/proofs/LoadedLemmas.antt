-- After loading: memory is the start's, and the header has no fault.
use Rattle.std.proofs.Common.{◌≡◌, true, List, map, None, sym, ◌∙◌, ap}
use Rattle.thy_block.specs.declared.block.Block.{Block}
use Rattle.thy_block.specs.declared.parameters.Parameters.{Parameters}
use Rattle.thy_block.specs.Device.{Device, newest}
use Rattle.thy_isa.specs.OnBlocks.{state_from}
use Rattle.thy_isa.specs.Step.{cpu_of}
use Rattle.thy_layout.specs.Layout.{header_bad}
use Rattle.thy_computer.specs.Origin.{Origin, IsOrigin, at}
use Rattle.thy_computer.proofs.KeepsLemmas.{at-start}
use Rattle.thy_checkpoint.specs.Filling.{FillingOf, IsFilling, first_by}
use Rattle.thy_checkpoint.specs.Sound.{BootImages, layout_for, first_of, IsLoaded}
use Rattle.thy_checkpoint.specs.Start.{CanStart, start_blocks}
use Rattle.thy_checkpoint.proofs.FirstLemmas.{header_read, AreIssued-written}
use Rattle.thy_checkpoint.proofs.LoadLemmas.{first-whole, first-header}
use Rattle.thy_checkpoint.proofs.StartLemmas.{state_from-start, CanStart-origin}

module _ {C : Type 0} (F : FillingOf C) (laws : IsFilling F) (o : Origin) (origin : IsOrigin o) (g : BootImages) (n : Device) (c : C)
    (same : F.p c ≡ o.geometry) (loaded : IsLoaded F o g n c) where
  pub loaded-memory : F.loads c n ≡ start_blocks o.geometry o.start
  loaded-memory =
      laws.first_loads c n o.start loaded.fresh loaded.settled
      ∙ ap (λ (p : Parameters). map (newest n) (first_by F p o.start).parts.memory) same
      ∙ (AreIssued-written (first_of F o) n loaded.stood (layout_for F o).image_blocks loaded.sized
      (first-whole F laws o.geometry o.start)).memory_is

  pub loaded-state : state_from o.geometry (cpu_of o.start) (F.loads c n) ≡ at o o.start.count
  loaded-state =
      let can : CanStart o.geometry o.start = CanStart-origin o origin in
      ap (λ (memory : List Block). state_from o.geometry (cpu_of o.start) memory) loaded-memory
      ∙ state_from-start o.geometry o.start can.geometry can.start ∙ sym (at-start o)

  pub loaded-header : header_bad (layout_for F o) (newest n 0) true ≡ None
  loaded-header =
      ap (λ (b : Block). header_bad (layout_for F o) b true) (header_read (first_of F o) n loaded.stood).newest_is
      ∙ first-header F laws o.geometry (CanStart-origin o origin).geometry
