-- What holds of files, by the layouts of every scheme.
use Rattle.std.proofs.Common.{◌≡◌, ℕ, ◌-◌, ◌/◌, ◌<◌, ◌≤◌, nat_lt, List, ◌++◌, length, replicate, ◌∙◌, subst, arith}
use Rattle.std.specs.List.{All}
use Rattle.std.proofs.lemmas.Bool.{ltb-true}
use Rattle.std.proofs.lemmas.List.{length-map}
use Rattle.thy_block.specs.declared.block.Block.{Block}
use Rattle.thy_block.specs.declared.parameters.Parameters.{Parameters}
use Rattle.thy_block.specs.declared.parameters.SchemeName.{SchemeName}
use Rattle.thy_block.specs.declared.parameters.SchemeName.TheVariants.{Thynvm, Journal, Shadow}
use Rattle.thy_block.specs.Device.{zero_block, block_at}
use Rattle.thy_isa.specs.Step.{State}
use Rattle.thy_isa.specs.Storable.{IsByte}
use Rattle.thy_layout.specs.AreLayouts.{AreLayouts}
use Rattle.thy_layout.specs.Commit.{epoch_of, is_named, has_zero_rest, commit_fault}
use Rattle.thy_layout.specs.Decoded.{At}
use Rattle.thy_layout.specs.Files.{blocks_of, decode_file}
use Rattle.thy_layout.specs.Layout.{Layout, Layouts, slot_places, memory_places, slot_in, memory_in, decode_by}
use Rattle.thy_layout.specs.Slots.{status_fault, second_fault}
use Rattle.thy_layout.proofs.AskingLemmas.{commit_asks}
use Rattle.thy_layout.proofs.EntryFaultLemmas.{neither}
use Rattle.thy_layout.proofs.FileLemmas.{length-blocks_of}
use Rattle.thy_layout.proofs.LayoutLemmas.{HasNoFault, decode_by-whole, whole_parts}
use Rattle.thy_layout.proofs.PlacesLemmas.{length-memory_places, decode-filled_up, decode-higher, two_blocks}
use Rattle.thy_layout.proofs.ReaderLemmas.{HasLength-file, IsWholeFile, IsWholeFile-decoded}
use Rattle.thy_record.proofs.IssuingLemmas.{thynvm_are_layouts}
use Rattle.thy_images.proofs.JournalLayoutLemmas.{journal_are_layouts}
use Rattle.thy_images.proofs.ShadowLayoutLemmas.{shadow_are_layouts}
use Rattle.thy_outcome.specs.Meaning.{layouts_by_scheme, blocks_by_scheme, decode_bytes}
use Rattle.thy_outcome.specs.Saved.{AreOfCheckpoint, CanBegin}
use Rattle.thy_outcome.proofs.BlockLemmas.{AllLong-blocks_of, AreOfBytes-blocks_of, AreOfBytes-picked}
use Rattle.thy_outcome.proofs.StateLemmas.{CanBegin-made}

-- ---- a file with a checkpoint, by any layouts

module _ (L : Layouts) (are : AreLayouts L) (p : Parameters) (ceiling : ℕ) (bytes : List ℕ) (epoch : ℕ) (s : State)
    (h : decode_file (L p) ceiling bytes ≡ At epoch s) where
  abbrev l : Layout
  l = L p

  abbrev g : List Block
  g = blocks_of bytes

  file : IsWholeFile l ceiling bytes epoch s
  file = IsWholeFile-decoded l ceiling bytes epoch s h

  few : length g ≤ l.image_blocks
  few =
      let most = are.longest p (block_at g 1) (length bytes / 64) (HasLength-file l bytes file.sized).long in
      omega (arith, length-blocks_of bytes, most)

  -- the blocks of a file mean the same
  pub blocks_mean : decode_by l ceiling g ≡ At epoch s
  blocks_mean = decode_by-whole l ceiling g epoch s file.whole

  -- the blocks of a file, with zeros after them, mean the same under a higher ceiling too
  filled : (high : ℕ) → ceiling ≤ high → decode_by l high (g ++ replicate (l.image_blocks - length g) zero_block) ≡ At epoch s
  filled high most =
      let fits = few in
      decode-filled_up l high (l.image_blocks - length g) epoch s g (decode-higher L are p ceiling high g epoch s most blocks_mean) (omega arith)

  parts : HasNoFault l ceiling g
  parts = whole_parts l ceiling g epoch s file.whole

  -- a run can begin with the state of a file's checkpoint
  begins : All IsByte bytes → CanBegin p ceiling epoch s
  unfolding commit_fault
  begins are_bytes =
      let slot = slot_in l g in
      let places : List ℕ = memory_places l (block_at g 1) slot in
      let status = (neither (status_fault l.p ceiling slot) (second_fault l.p slot) (are.cpu p ceiling (block_at g 1) slot parts.2)).0 in
      let asks = commit_asks (is_named (block_at g 0) (block_at g 1)) (nat_lt (epoch_of (block_at g 1)) ceiling)
      (has_zero_rest (block_at g 1)) parts.1 in
      let of_bytes = AreOfBytes-blocks_of bytes are_bytes in
      subst (λ (q : Parameters). CanBegin q ceiling epoch s) (are.of p)
      (CanBegin-made l.p ceiling epoch slot (memory_in l g) s
      (AreOfBytes-picked g (slot_places l (block_at g 1)) of_bytes) (AreOfBytes-picked g places of_bytes)
      (length-map places (block_at g) ∙ length-memory_places l (block_at g 1) slot) status
      (subst (λ e. e < ceiling) file.whole.of_epoch (ltb-true (epoch_of (block_at g 1)) ceiling asks.1)) file.whole.state_is)

-- ---- by those of a scheme

pub are_by_scheme : (scheme : SchemeName) → AreLayouts (layouts_by_scheme scheme)
are_by_scheme Thynvm = thynvm_are_layouts
are_by_scheme Journal = journal_are_layouts
are_by_scheme Shadow = shadow_are_layouts

pub some_blocks : (p : Parameters) → 0 < blocks_by_scheme p.scheme p
some_blocks p = let two = two_blocks (layouts_by_scheme p.scheme) (are_by_scheme p.scheme) p in omega (arith, two)

pub file_is_image : (p : Parameters) (low high : ℕ) (bytes : List ℕ) (epoch : ℕ) (s : State) → low ≤ high
    → decode_bytes p low bytes ≡ At epoch s → AreOfCheckpoint p high epoch s (blocks_of bytes)
file_is_image p low high bytes epoch s most h = record {
  few = few (layouts_by_scheme p.scheme) (are_by_scheme p.scheme) p low bytes epoch s h;
  long = AllLong-blocks_of bytes;
  decodes = filled (layouts_by_scheme p.scheme) (are_by_scheme p.scheme) p low bytes epoch s h high most;
}

pub file_begins : (p : Parameters) (ceiling : ℕ) (bytes : List ℕ) (epoch : ℕ) (s : State) → All IsByte bytes
    → decode_bytes p ceiling bytes ≡ At epoch s → CanBegin p ceiling epoch s
file_begins p ceiling bytes epoch s are_bytes h =
    begins (layouts_by_scheme p.scheme) (are_by_scheme p.scheme) p ceiling bytes epoch s h are_bytes
