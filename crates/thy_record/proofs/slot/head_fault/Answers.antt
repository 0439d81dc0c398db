use Rattle.std.proofs.Common.{◌≡◌, ◌∙◌, List, Option, ℕ, ap}
use Rattle.thy_block.specs.declared.parameters.Parameters.{Parameters}
use Rattle.thy_layout.specs.Files.{blocks_of}
use Rattle.thy_record.specs.Slots.{tables_in}
use Rattle.thy_record.specs.Tables.{Tables}
use Rattle.thy_record.specs.TableFaults.{tables_fault}
use Rattle.thy_record.proofs.CheckLemmas.{head_epoch, head_tables, head_status}
use Rattle.thy_record.proofs.slot.head_fault.Goals as goal

-- the tables by their bytes are the slot's
same_tables : (p : Parameters) (t : Tables) (btt ptt : List (Option ℕ)) → btt ≡ t.btt → ptt ≡ t.ptt
    → tables_fault p (record { btt = btt; ptt = ptt }) ≡ tables_fault p t
same_tables p t btt ptt a b = ap (λ x. tables_fault p (record { btt = x; ptt = ptt })) a
    ∙ ap (λ x. tables_fault p (record { btt = t.btt; ptt = x })) b

pub returns-then-word_in-epoch : goal.returns-then-word_in-epoch
returns-then-word_in-epoch c =
    head_epoch c.args.geometry.now c.args.ceiling c.args.epoch (blocks_of c.args.slot.now) c.word_in.result c.word_in.ensures c.if-word_in-epoch.true

pub returns-in-Some : goal.returns-in-Some
returns-in-Some c =
    head_tables c.args.geometry.now c.args.ceiling c.args.epoch
    (blocks_of c.args.slot.now) c.word_in.result c.in-Some.bad c.word_in.ensures c.if-word_in-epoch.false
    (c.in-Some.ensures ∙ same_tables c.args.geometry.now
    (tables_in c.args.geometry.now (blocks_of c.args.slot.now)) _ _ c.btt_in.ensures c.ptt_in.ensures)

pub returns : goal.returns
returns c =
    head_status c.args.geometry.now c.args.ceiling c.args.epoch
    (blocks_of c.args.slot.now) c.word_in.result c.status_fault.result c.word_in.ensures c.if-word_in-epoch.false
    (c.in_default.ensures ∙ same_tables c.args.geometry.now
    (tables_in c.args.geometry.now (blocks_of c.args.slot.now)) _ _ c.btt_in.ensures c.ptt_in.ensures)
    c.status_fault.ensures
