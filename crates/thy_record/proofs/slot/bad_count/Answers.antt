use Rattle.std.proofs.Common.{◌≡◌, ◌*◌, ◌∙◌, ℕ, false, sym, ap, arith}
use Rattle.std.specs.Option.{option_map}
use borrow.Author.Count.{below_more}
use Rattle.thy_table.specs.Places.{count_blocks}
use Rattle.thy_layout.specs.declared.bad_image.BadImage.TheVariants.{Count}
use Rattle.thy_layout.specs.Files.{blocks_of}
use Rattle.thy_record.specs.Slots.{is_bad_count}
use Rattle.thy_record.proofs.CountLemmas.{no_position, position_is}
use Rattle.thy_record.proofs.slot.bad_count.Goals as goal

pub loop-i-init : goal.loop-i-init
loop-i-init c = λ k l. absurd (omega arith)

pub loop-i-preserved : goal.loop-i-preserved
loop-i-preserved c =
    below_more (λ (k : ℕ). is_bad_count c.args.geometry.now (blocks_of c.args.slot.now) k ≡ false) c.loop-i.i c.loop-i.invariant
    (sym c.is_bad_count.ensures ∙ c.if-is_bad_count.false)

pub returns-then-is_bad_count : goal.returns-then-is_bad_count
returns-then-is_bad_count c =
    sym (ap (option_map Count) (position_is (is_bad_count c.args.geometry.now (blocks_of c.args.slot.now)) (64 * count_blocks c.args.geometry.now)
    c.loop-i.i (omega arith) c.loop-i.invariant (sym c.is_bad_count.ensures ∙ c.if-is_bad_count.true)))

pub returns : goal.returns
returns c =
    sym (ap (option_map Count) (no_position (is_bad_count c.args.geometry.now (blocks_of c.args.slot.now)) (64 * count_blocks c.args.geometry.now)
    (λ k l. c.loop-i.invariant k (omega arith))))
