-- The first fault of a slot, test by test.
use Rattle.std.proofs.Common.{◌≡◌, ℕ, List, Option, Some, None, refl}
use Rattle.std.proofs.lemmas.Bool.{ne_eqb}
use Rattle.std.specs.Option.{option_or}
use Rattle.thy_block.specs.declared.block.Block.{Block}
use Rattle.thy_block.specs.declared.parameters.Parameters.{Parameters}
use Rattle.thy_layout.specs.declared.layout_version.LayoutVersion.{LayoutVersion}
use Rattle.thy_layout.specs.declared.bad_image.BadImage.{BadImage}
use Rattle.thy_layout.specs.declared.bad_image.BadImage.TheVariants.{Commit}
use Rattle.thy_layout.specs.Cpu.{record_word}
use Rattle.thy_layout.specs.Slots.{epoch_fault, status_fault, second_fault}
use Rattle.thy_record.specs.Slots.{tables_in, head_fault, count_fault, slot_fault}
use Rattle.thy_record.specs.TableFaults.{tables_fault}
use Rattle.thy_layout.proofs.AskingLemmas.{of_epoch}

-- ---- a slot

pub head_epoch : (p : Parameters) (ceiling epoch : ℕ) (slot : List Block) (w : ℕ) → w ≡ record_word slot 38 → (w ≡ epoch → ⊥)
    → Some Commit ≡ head_fault p ceiling epoch slot
head_epoch p ceiling epoch slot w is other =
    let unequal = ne_eqb w epoch other in
    cc

pub head_tables : (p : Parameters) (ceiling epoch : ℕ) (slot : List Block) (w : ℕ) (bad : BadImage) → w ≡ record_word slot 38 → w ≡ epoch
    → Some bad ≡ tables_fault p (tables_in p slot) → Some bad ≡ head_fault p ceiling epoch slot
head_tables p ceiling epoch slot w bad is same h =
    cc (of_epoch epoch slot w is same)

pub head_status : (p : Parameters) (ceiling epoch : ℕ) (slot : List Block) (w : ℕ) (found : Option BadImage) → w ≡ record_word slot 38
    → w ≡ epoch
    → None ≡ tables_fault p (tables_in p slot) → found ≡ status_fault p ceiling slot → found ≡ head_fault p ceiling epoch slot
head_status p ceiling epoch slot w found is same h k =
    cc (of_epoch epoch slot w is same)

-- the first of five options is the first of three of them, or else the first of the last two
grouped : {X : Type 0} (a b c d e : Option X)
    → option_or (option_or (option_or a (option_or b c)) d) e ≡ option_or a (option_or b (option_or c (option_or d e)))
grouped (Some x) b c d e = refl
grouped None (Some x) c d e = refl
grouped None None (Some x) d e = refl
grouped None None None d e = refl

-- record and tables, then the counts, then the other hart's words
pub slot_fault-parts : (version : LayoutVersion) (p : Parameters) (ceiling epoch : ℕ) (slot : List Block)
    → option_or (option_or (head_fault p ceiling epoch slot) (count_fault version p slot)) (second_fault p slot)
    ≡ slot_fault version p ceiling epoch slot
unfolding slot_fault
slot_fault-parts version p ceiling epoch slot =
    grouped (epoch_fault epoch slot) (tables_fault p (tables_in p slot)) (status_fault p ceiling slot) (count_fault version p slot)
    (second_fault p slot)
