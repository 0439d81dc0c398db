use Rattle.std.proofs.Common.{◌≡◌, ◌≤◌, ◌/◌, ◌∙◌, ℕ, List, length, sym, ap, subst, arith}
use Rattle.thy_block.specs.declared.block.Block.{Block}
use Rattle.thy_block.specs.declared.parameters.Parameters.{Parameters}
use Rattle.thy_block.specs.Device.{block_at}
use Rattle.thy_block.specs.Geometry.{memory_blocks}
use Rattle.thy_block.specs.Places.{record_blocks}
use Rattle.thy_isa.specs.declared.state.MachState.{MachState}
use Rattle.thy_isa.specs.Step.{state_of}
use Rattle.thy_layout.specs.AreLayouts.{AreLayouts, Fits}
use Rattle.thy_layout.specs.Files.{block_in, blocks_of, HasCheckpointOf}
use Rattle.thy_layout.specs.Gathered.{AreInside}
use Rattle.thy_layout.specs.Layout.{Layout, Layouts, memory_places, slot_in}
use Rattle.thy_layout.proofs.FileLemmas.{block_at-blocks_of}
use Rattle.thy_layout.proofs.ReaderLemmas.{if_ok, IsFound-checked, HasState-made, as_long, AreInside-memory, state_read}
use Rattle.thy_layout.proofs.PlacesLemmas.{length-memory_places}
use Rattle.thy_layout.proofs.reader.state_of_image.Goals as goal

-- the commit block that the code reads
commit_read : (l : Layout) (bytes : List ℕ) (b : Block) → HasCheckpointOf l bytes → b ≡ block_in bytes 1 → b ≡ block_at (blocks_of bytes) 1
commit_read l bytes b has is =
    let some = (IsFound-checked l bytes has).some in
    is ∙ sym (block_at-blocks_of bytes 1 (omega (arith, some)))

-- the slot that the code reads has no fault
fits_read : (l : Layout) (bytes : List ℕ) (b : Block) (slot : List Block) → HasCheckpointOf l bytes → b ≡ block_at (blocks_of bytes) 1
    → slot ≡ slot_in l (blocks_of bytes) → Fits l b slot
fits_read l bytes b slot has named at = coe 1 0 (i. Fits l (named i) (at i)) (IsFound-checked l bytes has).fits

-- memory's places, which are all there
places_read : (L : Layouts) (p : Parameters) (bytes : List ℕ) (b : Block) (slot : List Block) (places : List ℕ) → AreLayouts L
    → HasCheckpointOf (L p) bytes
    → b ≡ block_at (blocks_of bytes) 1 → slot ≡ slot_in (L p) (blocks_of bytes) → places ≡ memory_places (L p) b slot
    → AreInside (blocks_of bytes) places
places_read L p bytes b slot places are has named at is =
    subst (AreInside (blocks_of bytes)) (sym is)
    (AreInside-memory (L p) b slot bytes (are.memory p b slot (fits_read (L p) bytes b slot has named at))
    (as_long (L p) bytes b (are.slot p b) (IsFound-checked (L p) bytes has).long named))

as_many : (L : Layouts) (p : Parameters) (b : Block) (slot : List Block) (places : List ℕ) → AreLayouts L
    → places ≡ memory_places (L p) b slot
    → length places ≡ memory_blocks p
as_many L p b slot places are is =
    ap length is ∙ length-memory_places (L p) b slot ∙ ap (λ (q : Parameters). memory_blocks q) (are.of p)

pub block_in-commit-requires : goal.block_in-commit-requires
block_in-commit-requires g c =
    let some = (IsFound-checked (g.L.ImageLayout.layouts c.args.geometry.now) c.args.image.now c.requires).some in
    omega (arith, some)

pub slot_in-slot-requires-clause-long : goal.slot_in-slot-requires-clause-long
slot_in-slot-requires-clause-long g c = (IsFound-checked (g.L.ImageLayout.layouts c.args.geometry.now) c.args.image.now c.requires).long

pub slot_in-slot-requires-clause-commit : goal.slot_in-slot-requires-clause-commit
slot_in-slot-requires-clause-commit g c =
    commit_read (g.L.ImageLayout.layouts c.args.geometry.now) c.args.image.now c.block_in-commit.result c.requires c.block_in-commit.ensures

pub memory_places-requires-clause-fits : goal.memory_places-requires-clause-fits
memory_places-requires-clause-fits g c =
    let l : Layout = g.L.ImageLayout.layouts c.args.geometry.now in
    fits_read l c.args.image.now c.block_in-commit.result (blocks_of c.slot_in-slot.result.now) c.requires
    (commit_read l c.args.image.now c.block_in-commit.result c.requires c.block_in-commit.ensures) c.slot_in-slot.ensures.slot

pub cpu_in-requires : goal.cpu_in-requires
cpu_in-requires g c =
    let p : Parameters = c.args.geometry.now in
    let slot = c.recall_laws.ensures.slot c.args.geometry.now c.block_in-commit.result in
    let most : record_blocks (g.L.ImageLayout.layouts c.args.geometry.now).p ≤ length c.slot_in-slot.result.now / 64
    = omega (arith, slot.record_inside, c.slot_in-slot.ensures.length) in
    subst (λ (q : Parameters). record_blocks q ≤ length c.slot_in-slot.result.now / 64) (c.recall_laws.ensures.of p) most

pub state_at-requires-clause-all : goal.state_at-requires-clause-all
state_at-requires-clause-all g c =
    as_many g.L.ImageLayout.layouts c.args.geometry.now c.block_in-commit.result (blocks_of c.slot_in-slot.result.now) c.deref.result.now
    c.recall_laws.ensures (c.deref.ensures.value ∙ c.in_ok-places.ensures)

pub state_at-requires-clause-inside : goal.state_at-requires-clause-inside
state_at-requires-clause-inside g c =
    let l : Layout = g.L.ImageLayout.layouts c.args.geometry.now in
    places_read g.L.ImageLayout.layouts c.args.geometry.now c.args.image.now c.block_in-commit.result (blocks_of c.slot_in-slot.result.now)
    c.deref.result.now c.recall_laws.ensures c.requires
    (commit_read l c.args.image.now c.block_in-commit.result c.requires c.block_in-commit.ensures) c.slot_in-slot.ensures.slot
    (c.deref.ensures.value ∙ c.in_ok-places.ensures)

pub returns : goal.returns
returns g c =
    let l : Layout = g.L.ImageLayout.layouts c.args.geometry.now in
    if_ok c.state_at.result
    (λ (m : MachState) made.
    HasState-made l c.args.image.now (state_of m)
    (state_read l c.args.geometry.now (blocks_of c.args.image.now) c.block_in-commit.result (blocks_of c.slot_in-slot.result.now) c.cpu_in.result
    c.deref.result.now (state_of m) (c.recall_laws.ensures.of c.args.geometry.now)
    (commit_read l c.args.image.now c.block_in-commit.result c.requires c.block_in-commit.ensures)
    c.slot_in-slot.ensures.slot c.cpu_in.ensures (c.deref.ensures.value ∙ c.in_ok-places.ensures) made))
    c.state_at.ensures
