use Rattle.std.proofs.lemmas.List.Elements.{All-from_get_or}
use Rattle.thy_isa.specs.Storable.{IsByte}
use Rattle.thy_plain.proofs.start.recall_are_bytes.Goals as goal

pub returns : goal.returns
returns c = All-from_get_or IsByte c.args.bytes.now 0 (λ i h. (c.type_inv.bytes i).fits)
