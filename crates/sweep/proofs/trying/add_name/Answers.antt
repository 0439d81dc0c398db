use Rattle.sweep.proofs.trying.add_name.Goals as goal

pub returns : goal.returns
returns c = c.in_ok-push.ensures.items
