use Rattle.std.proofs.Common.{ℕ, sym, ◌∙◌, ap, Option}
use Rattle.thy_table.specs.Listing.{added}
use Rattle.thy_table.specs.declared.block_entry.BttEntry.{BttEntry}
use Rattle.thy_table.specs.BlockEntry.{new_entry}
use Rattle.thy_control.specs.Find.{with_found}
use Rattle.thy_control.specs.Keys.{block_key}
use Rattle.thy_control.proofs.control.add_entry.Goals as goal

pub returns : goal.returns
returns c =
    let t = c.args.btt.now in
    c.add-place.ensures.table ∙ ap (λ (e : BttEntry). added e t) c.new.ensures
    ∙ sym (ap (λ (o : Option ℕ). with_found block_key new_entry o c.args.b t) c.requires.unlisted)
