-- Blocks of memory, as they were stored last and as they were committed.
use Rattle.std.proofs.Common.{◌≡◌, ℕ, ◌<◌, Bool, true, false, List, length, map, refl, sym, ◌∙◌, ap, arith}
use Rattle.std.specs.List.{range_with_len}
use Rattle.std.proofs.lemmas.List.FromFn.{length-map-range_with_len, get_or-map-range_with_len}
use Rattle.thy_block.specs.declared.block.Block.{Block}
use Rattle.thy_block.specs.Device.{Device, block_at, zero_block}
use Rattle.thy_block.specs.Geometry.{memory_blocks}
use Rattle.thy_checkpoint.specs.declared.engine_stage.EngineStage.{EngineStage}
use Rattle.thy_checkpoint.specs.declared.engine_stage.EngineStage.TheVariants.{Idle, Body, InRound, Tail}
use Rattle.thy_checkpoint.specs.Progress.{phase_of, is_applying}
use Rattle.thy_journal_parts.specs.Holding.{works}
use Rattle.thy_journal_parts.specs.State.{State, home_of, work_of}
use Rattle.thy_journal_parts.specs.Design.{committed_at}

pub small : (s : State) (n : Device) (b : ℕ) → b < length (works s n) → b < memory_blocks s.p
small s n b low = omega (arith, low, length-map-range_with_len (work_of s n) 0 (memory_blocks s.p))

pub work_at : (s : State) (n : Device) (b : ℕ) → b < memory_blocks s.p → block_at (works s n) b ≡ work_of s n b
work_at s n b low = get_or-map-range_with_len (work_of s n) 0 (memory_blocks s.p) b b zero_block low (omega arith)

-- a block of the committed version: as it was stored last while that is applied, and else at home
abbrev look : Bool → State → Device → ℕ → Block
look true s n = work_of s n
look false s n = home_of s n

committed_is : (q : EngineStage) (s : State) (n : Device)
    → committed_at (phase_of q) s n
    ≡ map (look (is_applying q) s n) (range_with_len 0 (memory_blocks s.p))
committed_is Idle s n = refl
committed_is (Body from) s n = refl
committed_is (InRound r) s n = refl
committed_is (Tail from) s n = refl

module _ (q : EngineStage) (s : State) (n : Device) where
  pub small_committed : (b : ℕ) → b < length (committed_at (phase_of q) s n) → b < memory_blocks s.p
  small_committed b low =
      let long = length-map-range_with_len (look (is_applying q) s n) 0 (memory_blocks s.p) in
      omega (arith, low, ap length (committed_is q s n), long)

  look_is : (way : Bool) (b : ℕ) → is_applying q ≡ way → b < memory_blocks s.p
      → look way s n b ≡ block_at (committed_at (phase_of q) s n) b
  look_is way b is low =
      ap (λ (w : Bool). look w s n b) (sym is)
      ∙ sym (get_or-map-range_with_len (look (is_applying q) s n) 0 (memory_blocks s.p) b b
      zero_block low (omega arith))
      ∙ ap (λ (blocks : List Block). block_at blocks b) (sym (committed_is q s n))

  pub applied_at : (b : ℕ) → is_applying q ≡ true → b < memory_blocks s.p
      → work_of s n b ≡ block_at (committed_at (phase_of q) s n) b
  applied_at b is low = look_is true b is low

  pub home_block_at : (b : ℕ) → is_applying q ≡ false → b < memory_blocks s.p
      → home_of s n b ≡ block_at (committed_at (phase_of q) s n) b
  home_block_at b is low = look_is false b is low
