-- An image is of one scheme and of one geometry.
use Rattle.std.specs.Prelude.{◌≡◌, ℕ, ◌<◌, List}
use Rattle.thy_block.specs.declared.block.Block.{Block}
use Rattle.thy_block.specs.declared.parameters.Parameters.{Parameters}
use Rattle.thy_isa.specs.Step.{State}
use Rattle.thy_layout.specs.Decoded.{At}
use Rattle.thy_outcome.specs.Meaning.{decode_of, decode_bytes}

-- parameters name the same scheme, harts and geometry
pub record AreAlike (p q : Parameters) : Type 0 where
  pub scheme : p.scheme ≡ q.scheme
  pub harts : p.harts ≡ q.harts
  pub base : p.base ≡ q.base
  pub pages : p.pages ≡ q.pages
  pub console : p.console ≡ q.console
  pub btt : p.btt ≡ q.btt
  pub ptt : p.ptt ≡ q.ptt

-- an image that has a checkpoint by some parameters has one by such parameters alone
abbrev pub ImageIsOfOne : Type 0
ImageIsOfOne =
    (p q : Parameters) (low high e f : ℕ) (image : List Block) (s t : State)
    → 0 < p.harts → 0 < q.harts
    → decode_of p low image ≡ At e s → decode_of q high image ≡ At f t → AreAlike p q

-- a file that has a checkpoint by some parameters has one by such parameters alone
abbrev pub FileIsOfOne : Type 0
FileIsOfOne =
    (p q : Parameters) (low high e f : ℕ) (bytes : List ℕ) (s t : State)
    → 0 < p.harts → 0 < q.harts
    → decode_bytes p low bytes ≡ At e s → decode_bytes q high bytes ≡ At f t → AreAlike p q
