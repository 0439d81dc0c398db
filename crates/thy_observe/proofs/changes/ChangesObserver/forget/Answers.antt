use Rattle.thy_observe.proofs.changes.ChangesObserver.forget.Goals as goal

pub returns : goal.returns
returns c = λ seen r h. h.0
