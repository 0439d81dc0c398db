-- A run can begin with the checkpoint in the bytes of a saved image, and machines read the files of their scheme.
use Rattle.std.proofs.Common.{◌≡◌, ℕ, ◌+◌, ◌/◌, ◌^◌, ◌<◌, ◌≤◌, List, [], ◌∷◌, ◌++◌, length, take, Option, Some, refl, sym, ◌∙◌, ap, subst, arith}
use Rattle.std.specs.List.{All}
use Rattle.std.proofs.lemmas.List.{take_all, take_more}
use Rattle.thy_block.specs.declared.block.Block.{Block}
use Rattle.thy_block.specs.declared.parameters.Parameters.{Parameters}
use Rattle.thy_block.specs.declared.parameters.SchemeName.{SchemeName}
use Rattle.thy_block.specs.declared.mark.Mark.{Mark}
use Rattle.thy_block.specs.Device.{zero_block}
use Rattle.thy_block.specs.Geometry.{IsInRange}
use Rattle.thy_block.specs.Marks.{mark}
use Rattle.thy_isa.specs.Storable.{IsByte, IsReadable}
use Rattle.thy_layout.specs.Decoded.{At}
use Rattle.thy_layout.specs.Files.{block_in, blocks_of}
use Rattle.thy_layout.proofs.FileLemmas.{length-blocks_of, block_at-blocks_of}
use Rattle.thy_outcome.specs.Meaning.{decode_by_scheme, blocks_by_scheme, decode_bytes}
use Rattle.thy_outcome.proofs.LawLemmas.{file_begins}
use Rattle.thy_computer.specs.Kind.{KindOf}
use Rattle.thy_computer.specs.Origin.{Origin, IsOrigin, StartsFrom, setting_of}
use Rattle.thy_files.specs.Restoring.{ReadsFiles}

-- ---- the blocks of bytes

-- one block more was made
pub blocks_more : (bytes : List ℕ) (k : ℕ) (old new : List Block) (block : Block) → k < length bytes / 64
    → old ≡ take k (blocks_of bytes) → block ≡ block_in bytes k → new ≡ old ++ block ∷ [] → new ≡ take (k + 1) (blocks_of bytes)
blocks_more bytes k old new block inside before is after =
    after
    ∙ ap (λ xs. xs ++ block ∷ []) before
    ∙ ap (λ b. take k (blocks_of bytes) ++ b ∷ []) (is ∙ sym (block_at-blocks_of bytes k inside))
    ∙ sym (take_more (blocks_of bytes) k zero_block (omega (arith, length-blocks_of bytes)))

pub blocks_all : (bytes : List ℕ) (k : ℕ) → length bytes / 64 ≤ k → take k (blocks_of bytes) ≡ blocks_of bytes
blocks_all bytes k past = take_all k (blocks_of bytes) (omega (arith, length-blocks_of bytes))

-- ---- the beginning of a run

-- a run can begin with the state of a saved image
pub IsOrigin-restored : (o : Origin) (bytes : List ℕ) (epoch : ℕ) → IsInRange o.geometry → All IsByte bytes → IsReadable (setting_of o)
    → decode_bytes o.geometry (2 ^ 62) bytes ≡ At epoch o.start → o.kept ≡ Some (mark epoch o.start.count) → IsOrigin o
IsOrigin-restored o bytes epoch range are_bytes readable saved kept =
    let begins = file_begins o.geometry (2 ^ 62) bytes epoch o.start are_bytes saved in
    record {
      geometry = range;
      recordable = begins.recordable;
      memory = begins.storable.memory_size;
      storable = begins.storable;
      readable = readable;
      starts = subst (λ (kept : Option Mark). StartsFrom kept o.start) (sym kept) (refl, begins.below);
    }

-- ---- the files of a scheme

-- machines whose images mean what a scheme's images do read the files of that scheme
pub reads_by : {M : Type 0} (K : KindOf M) (scheme : SchemeName)
    → ((p : Parameters) (ceiling : ℕ) (image : List Block) → K.decode p ceiling image ≡ decode_by_scheme scheme p ceiling image)
    → ((p : Parameters) → K.blocks p ≡ blocks_by_scheme scheme p) → (p : Parameters) → p.scheme ≡ scheme → ReadsFiles K p
reads_by K scheme decodes many p is = record {
  decode = λ ceiling image. decodes p ceiling image ∙ ap (λ (x : SchemeName). decode_by_scheme x p ceiling image) (sym is);
  blocks = many p ∙ ap (λ (x : SchemeName). blocks_by_scheme x p) (sym is);
}
