use Rattle.std.proofs.Common.{◌<◌, subst, arith}
use Rattle.thy_block.specs.Device.{Device}
use Rattle.thy_checkpoint.specs.declared.boot_stage.Stage.{Stage}
use Rattle.thy_checkpoint.specs.declared.boot_stage.Stage.TheVariants.{Reads}
use Rattle.thy_checkpoint.specs.declared.boot_stage.ReadStage.TheVariants.{Slot}
use Rattle.thy_checkpoint.specs.Boot.{Booting, layout_in, IsThere}
use Rattle.thy_checkpoint.specs.Recovers.{HasReadAt}
use Rattle.thy_checkpoint.proofs.LoadLemmas.{slot_inside}
use Rattle.thy_checkpoint.proofs.boot.Boot.read_slot.Goals as goal

pub read_block-requires-clause-image : goal.read_block-requires-clause-image
read_block-requires-clause-image g c =
    let F = g.F.Fills.filling in
    let b : Booting = c.args.self.now in
    let inside : c.args.next < (layout_in F b).slot_blocks b.commit = subst (λ (s : Stage). IsThere F b s) c.requires.stage c.requires.fits.there in
    omega (arith, inside, slot_inside F g.met.F.Fills.lawful b.p b.commit)

pub read_block-requires-clause-room : goal.read_block-requires-clause-room
read_block-requires-clause-room g c =
    let F = g.F.Fills.filling in
    let b : Booting = c.args.self.now in
    let inside : c.args.next < (layout_in F b).slot_blocks b.commit = subst (λ (s : Stage). IsThere F b s) c.requires.stage c.requires.fits.there in
    omega (arith, inside, c.requires.fits.room, (g.met.F.Fills.lawful.laid.slot b.p b.commit).most)

pub go_on-requires-clause-fresh : goal.go_on-requires-clause-fresh
go_on-requires-clause-fresh g c =
    let F = g.F.Fills.filling in
    let n : Device = g.N.Nvm.device c.args.nvm.now in
    let b : Booting = c.args.self.now in
    let had : HasReadAt F (Reads (Slot c.args.next)) n b c.args.control.now
    = subst (λ (s : Stage). HasReadAt F s n b c.args.control.now) c.requires.stage c.requires.read.so_far in
    had.0
