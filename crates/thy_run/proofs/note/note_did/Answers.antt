use Rattle.std.proofs.Common.{◌≡◌, ◌++◌, OnOk, sym, subst}
use Rattle.thy_computer.specs.declared.did.Did.{Did}
use Rattle.thy_block.specs.Bytes.{bytes_of}
use Rattle.thy_run.specs.Going.{Restores}
use Rattle.thy_run.specs.Promises.{EndsWithTurns}
use Rattle.thy_run.specs.World.{did_events}
use Rattle.thy_run.proofs.note.note_did.Goals as goal

pub returns-in-Restarted-clause-ok : goal.returns-in-Restarted-clause-ok
returns-in-Restarted-clause-ok c = λ o v ends restores.
    let P : Did → Type 0 = λ d. Restores o d c.args.restored
    → OnOk c.note_restart.result (c.note_restart.new.events ≡ c.args.events.now ++ did_events o v d c.args.cycle) in
    subst P (sym c.in-Restarted.is) (λ r. c.note_restart.ensures.ok o v r) restores

pub returns-in-Sealed-clause-ok : goal.returns-in-Sealed-clause-ok
returns-in-Sealed-clause-ok c = λ o v ends restores.
    let P : Did → Type 0 = λ d. EndsWithTurns o v d (bytes_of c.args.turns.now)
    → OnOk c.note_seal.result (c.note_seal.new.events ≡ c.args.events.now ++ did_events o v d c.args.cycle) in
    subst P (sym c.in-Sealed.is) (λ e. c.note_seal.ensures.ok o v e) ends
