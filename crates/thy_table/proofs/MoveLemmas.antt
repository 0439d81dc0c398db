-- What is read at places after a write, a drain or a barrier.
use Rattle.std.proofs.Common.{◌≡◌, ◌≢◌, ℕ, ◌<◌, Bool, true, false, if◌then◌else◌, length, refl, sym, ◌∙◌, arith}
use Rattle.std.proofs.lemmas.List.{length-set, get_or-set_same, get_or-set_other}
use Rattle.thy_block.specs.declared.block.Block.{Block}
use Rattle.thy_block.specs.declared.parameters.Parameters.{Parameters}
use Rattle.thy_table.specs.declared.place.Place.{Place}
use Rattle.thy_table.specs.declared.place.Place.TheVariants.{Home, AlternateBlock, AlternatePage, Buffer, Frame}
use Rattle.thy_block.specs.Device.{Device, HasFailedToWrite, zero_block, block_at, newest, drained, settled, written_to}
use Rattle.thy_table.specs.Places.{in_dram, number_of, IsPlace, image_blocks}
use Rattle.thy_table.proofs.PlaceLemmas.{numbers_name}
use Rattle.thy_block.specs.Places.{dram_blocks}
use Rattle.thy_block.proofs.DeviceLemmas.{newest-drained, newest-settled, newest-written_to, newest-written_to_other, no_more-written_to_other, CrashAt-elsewhere, length-drained, length-settled, length-written_to}
use Rattle.thy_dram.specs.Contents.{written, drained as dram_drained}
use Rattle.thy_table.specs.Devices.{Devices, AreSized, NoMoreAt, read_at, written_at}
use Rattle.thy_table.specs.DeviceLaws.{ReadsTheSame}

-- two places of one device have two numbers
pub numbers_apart : (p : Parameters) (x y : Place) → IsPlace p x → IsPlace p y → in_dram x ≡ in_dram y → y ≢ x
    → number_of p y ≢ number_of p x
numbers_apart p x y px py same other e = other (sym (numbers_name p x y px py same (sym e)))

-- a place of the NVM is within its image
pub within_image : (p : Parameters) (x : Place) → IsPlace p x → in_dram x ≡ false → number_of p x < image_blocks p
within_image p (Home b) l n = omega arith
within_image p (AlternateBlock i) l n = omega arith
within_image p (AlternatePage j k) l n = omega arith
within_image p (Buffer i) l n = cc
within_image p (Frame j k) l n = cc

-- a place of the DRAM is within the DRAM
pub within_dram : (p : Parameters) (x : Place) → IsPlace p x → in_dram x ≡ true → number_of p x < dram_blocks p
within_dram p (Home b) l n = cc
within_dram p (AlternateBlock i) l n = cc
within_dram p (AlternatePage j k) l n = cc
within_dram p (Buffer i) l n = omega arith
within_dram p (Frame j k) l n = omega arith

-- a read, and a write, by the side on which the place lies
abbrev read_on : Bool → ℕ → Devices → Block
read_on side at d = if side then block_at d.dram.blocks at else newest d.nvm at

abbrev written_on : Bool → ℕ → Block → Devices → Devices
written_on side at block d =
    if side then record d { dram = written d.dram at block } else record d { nvm = written_to d.nvm at block }

read_on-same : (side : Bool) (at : ℕ) (block : Block) (d : Devices) → (side ≡ true → at < length d.dram.blocks)
    → read_on side at (written_on side at block d) ≡ block
read_on-same true at block d inside = let l : at < length d.dram.blocks = inside refl in get_or-set_same d.dram.blocks at block zero_block l
read_on-same false at block d inside = newest-written_to d.nvm at block

read_on-other : (side there : Bool) (at x : ℕ) (block : Block) (d : Devices)
    → (side ≡ there → x ≢ at) → (there ≡ false → x < length d.nvm.image)
    → read_on there x (written_on side at block d) ≡ read_on there x d
read_on-other true true at x block d other inside = get_or-set_other d.dram.blocks at x block zero_block (other refl)
read_on-other true false at x block d other inside = refl
read_on-other false true at x block d other inside = refl
read_on-other false false at x block d other inside = newest-written_to_other d.nvm at block x (other refl) (inside refl)

-- a place reads as the block that was written there
pub read_at-written_same : (p : Parameters) (d : Devices) (place : Place) (block : Block) → IsPlace p place → AreSized p d
    → read_at p (written_at p place block d) place ≡ block
read_at-written_same p d place block here sized =
    read_on-same (in_dram place) (number_of p place) block d
    (λ side. let l : number_of p place < dram_blocks p = within_dram p place here side in omega (arith, sized.dram))

-- every place but the written one reads as before
pub read_at-written_other : (p : Parameters) (d : Devices) (place other : Place) (block : Block)
    → IsPlace p place → IsPlace p other → AreSized p d → other ≢ place
    → read_at p (written_at p place block d) other ≡ read_at p d other
read_at-written_other p d place other block here there sized ne =
    read_on-other (in_dram place) (in_dram other) (number_of p place) (number_of p other) block d
    (λ side. numbers_apart p place other here there side ne)
    (λ side. let l : number_of p other < image_blocks p = within_image p other there side in omega (arith, sized.nvm))

no_more-on : (side : Bool) (at x : ℕ) (block : Block) (d : Devices) → (side ≡ false → x ≢ at)
    → NoMoreAt x d.nvm (written_on side at block d).nvm
no_more-on true at x block d other = record { no_more = λ b h. h }
no_more-on false at x block d other = record { no_more = λ b h. no_more-written_to_other d.nvm at block x b (other refl) h }

-- at every other place of the NVM a write makes nothing more possible
pub no_more-written_other : (p : Parameters) (d : Devices) (place other : Place) (block : Block)
    → IsPlace p place → IsPlace p other → in_dram other ≡ false → other ≢ place
    → NoMoreAt (number_of p other) d.nvm (written_at p place block d).nvm
no_more-written_other p d place other block here there side ne =
    no_more-on (in_dram place) (number_of p place) (number_of p other) block d
    (λ same. numbers_apart p place other here there (same ∙ sym side) ne)

-- at every other place of the NVM a write that failed makes nothing more possible
pub no_more-failed_other : (p : Parameters) (old new : Device) (place other : Place) (block : Block)
    → IsPlace p place → IsPlace p other → in_dram place ≡ false → in_dram other ≡ false → other ≢ place
    → HasFailedToWrite (number_of p place) block old new → NoMoreAt (number_of p other) old new
no_more-failed_other p old new place other block here there side elsewhere ne failed = record {
  no_more = λ b h.
      CrashAt-elsewhere old (number_of p place) block (number_of p other) b (numbers_apart p place other here there (side ∙ sym elsewhere) ne)
      (failed.no_more (number_of p other) b h);
}

sized-on : (p : Parameters) (side : Bool) (at : ℕ) (block : Block) (d : Devices) → AreSized p d → AreSized p (written_on side at block d)
sized-on p true at block d s = record { nvm = s.nvm; dram = length-set d.dram.blocks at block ∙ s.dram }
sized-on p false at block d s = record { nvm = length-written_to d.nvm at block ∙ s.nvm; dram = s.dram }

-- a write leaves both devices as long as they were
pub AreSized-written_at : (p : Parameters) (d : Devices) (place : Place) (block : Block) → AreSized p d
    → AreSized p (written_at p place block d)
AreSized-written_at p d place block s = sized-on p (in_dram place) (number_of p place) block d s

read_on-nvm : (side : Bool) (x : ℕ) (d : Devices) (nvm : Device) → (side ≡ false → newest nvm x ≡ newest d.nvm x)
    → read_on side x (record d { nvm = nvm }) ≡ read_on side x d
read_on-nvm true x d nvm same = refl
read_on-nvm false x d nvm same = same refl

module _ (p : Parameters) (d : Devices) where
  -- if every place of the NVM reads as before, every place of both devices does
  pub reads_the_same : (nvm : Device) → AreSized p d → length nvm.image ≡ length d.nvm.image
      → ((x : ℕ) → x < length d.nvm.image → newest nvm x ≡ newest d.nvm x) → ReadsTheSame p d (record d { nvm = nvm })
  reads_the_same nvm sized long each = record {
    same = λ place there. read_on-nvm (in_dram place) (number_of p place) d nvm
        (λ side. let l : number_of p place < image_blocks p = within_image p place there side in
        each (number_of p place) (omega (arith, sized.nvm)));
    sized = record { nvm = long ∙ sized.nvm; dram = sized.dram };
  }

  -- a drain moves nothing that is read
  pub ReadsTheSame-drained : AreSized p d → ReadsTheSame p d (record d { nvm = drained d.nvm })
  ReadsTheSame-drained sized = reads_the_same (drained d.nvm) sized (length-drained d.nvm) (newest-drained d.nvm)

  -- a barrier changes nothing that is read
  pub ReadsTheSame-settled : (count : ℕ) → AreSized p d → ReadsTheSame p d (record d { nvm = settled count d.nvm })
  ReadsTheSame-settled count sized = reads_the_same (settled count d.nvm) sized (length-settled count d.nvm) (newest-settled count d.nvm)

  -- a drain of the DRAM changes nothing that is read
  pub ReadsTheSame-dram_drained : AreSized p d → ReadsTheSame p d (record d { dram = dram_drained d.dram })
  ReadsTheSame-dram_drained sized = record { same = λ place there. refl; sized = record { nvm = sized.nvm; dram = sized.dram } }

-- a write at a place leaves the NVM up or down as it was
pub down-written : (p : Parameters) (x : Place) (block : Block) (d : Devices) → (written_at p x block d).nvm.down ≡ d.nvm.down
down-written p x block d = by_side (in_dram x) where
  by_side : (side : Bool)
      → (if side then record d { dram = written d.dram (number_of p x) block } else record d {
        nvm =
            written_to d.nvm (number_of p x) block;
      }).nvm.down ≡ d.nvm.down
  by_side true = refl
  by_side false = refl
