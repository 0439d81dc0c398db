-- What holds of what an image means, whatever its layout.
use Rattle.std.specs.Prelude.{◌≡◌, ◌≢◌, ℕ, ◌+◌, ◌≤◌, true, List, ◌∷◌, ◌++◌, length, replicate, Contains}
use Rattle.thy_block.specs.declared.block.Block.{Block}
use Rattle.thy_block.specs.declared.parameters.Parameters.{Parameters}
use Rattle.thy_block.specs.Device.{zero_block, block_at}
use Rattle.thy_block.specs.Places.{commit_place}
use Rattle.thy_block.specs.Flat.{flat, AllLong}
use Rattle.thy_isa.specs.Step.{State}
use Rattle.thy_layout.specs.AreLayouts.{AreLayouts}
use Rattle.thy_layout.specs.Commit.{is_zero}
use Rattle.thy_layout.specs.Decoded.{Nothing, At}
use Rattle.thy_layout.specs.Saved.{IsCopy}
use Rattle.thy_layout.specs.Files.{decode_file}
use Rattle.thy_layout.specs.Layout.{Layout, Layouts, decode_by, looked_by, IsWhole}

-- a copy of an image, at all places that determine what it means, means the same
abbrev pub LookedDecides : Type 0
LookedDecides = (l : Layout) (ceiling : ℕ) (h g : List Block) → IsCopy (looked_by l) h g → decode_by l ceiling g ≡ decode_by l ceiling h

-- a copy of an image, at all places that determine what it means, has the same such places
abbrev pub CopiesLookAlike : Type 0
CopiesLookAlike = (l : Layout) (h g : List Block) → IsCopy (looked_by l) h g → looked_by l g ≡ looked_by l h

-- an image means nothing exactly if its commit block is zero
abbrev pub ZeroIsNothing : Type 0
ZeroIsNothing =
    (l : Layout) (ceiling : ℕ) (g : List Block) → is_zero (block_at g commit_place) ≡ true → decode_by l ceiling g ≡ Nothing

abbrev pub NothingIsZero : Type 0
NothingIsZero =
    (l : Layout) (ceiling : ℕ) (g : List Block) → decode_by l ceiling g ≡ Nothing → is_zero (block_at g commit_place) ≡ true

-- an image means an epoch and a state exactly if it is whole
abbrev pub WholeDecodes : Type 0
WholeDecodes =
    (l : Layout) (ceiling : ℕ) (g : List Block) (epoch : ℕ) (state : State)
    → IsWhole l ceiling g epoch state → decode_by l ceiling g ≡ At epoch state

abbrev pub DecodedIsWhole : Type 0
DecodedIsWhole =
    (l : Layout) (ceiling : ℕ) (g : List Block) (epoch : ℕ) (state : State)
    → decode_by l ceiling g ≡ At epoch state → IsWhole l ceiling g epoch state

-- of an image without a checkpoint no block but the commit block is looked at
abbrev pub NothingIsLooked : Type 0
NothingIsLooked =
    (l : Layout) (image : List Block) (x : ℕ) → is_zero (block_at image commit_place) ≡ true → x ≢ commit_place
    → ¬ Contains (commit_place ∷ looked_by l image) x

-- what decodes below a ceiling decodes to the same below a higher one
abbrev pub CeilingGrows : Type 0
CeilingGrows =
    (layouts : Layouts) (p : Parameters) (low high : ℕ) (image : List Block) (epoch : ℕ) (state : State)
    → AreLayouts layouts → low ≤ high
    → decode_by (layouts p) low image ≡ At epoch state → decode_by (layouts p) high image ≡ At epoch state

-- an image that is filled up with zeros to the length of its layout means the same
abbrev pub FilledUpDecodes : Type 0
FilledUpDecodes =
    (l : Layout) (ceiling k epoch : ℕ) (state : State) (image : List Block)
    → decode_by l ceiling image ≡ At epoch state → length image + k ≡ l.image_blocks
    → decode_by l ceiling (image ++ replicate k zero_block) ≡ At epoch state

-- a file of an image's bytes means what the image does
abbrev pub FileDecodes : Type 0
FileDecodes =
    (l : Layout) (ceiling : ℕ) (image : List Block) → AllLong image → 2 ≤ length image
    → decode_file l ceiling (flat image) ≡ decode_by l ceiling image
