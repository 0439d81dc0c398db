use Rattle.thy_text.proofs.closing.write_closing.Goals as goal

pub returns-in-Terminal : goal.returns-in-Terminal
returns-in-Terminal g c = rw c.in-Terminal.is c.write_pieces-in-Terminal.ensures

pub returns-in-Nvm : goal.returns-in-Nvm
returns-in-Nvm g c = rw c.in-Nvm.is c.write_pieces-in-Nvm.ensures
