use Rattle.std.proofs.Common.{length, false, sym, ap, subst, ◌∙◌}
use Rattle.thy_block.specs.Device.{Device, Crash}
use Rattle.thy_nvm.specs.Kept.{with_cut}
use Rattle.thy_nvm.specs.DeviceInMemory.{InMemory, in_memory, device_in}
use Rattle.thy_nvm.specs.Pick.{cut_by}
use Rattle.thy_nvm.proofs.PickLemmas.{IsCut-picked}
use Rattle.thy_nvm.proofs.mem_nvm.MemNvmNvm.cut.Goals as goal

pub keep-requires-clause-size : goal.keep-requires-clause-size
keep-requires-clause-size c = ap length c.image.ensures ∙ c.leave.ensures.left.same_length ∙ sym c.self.invariant

pub invariant_of-self : goal.invariant_of-self
invariant_of-self c = ap (λ cuts. cuts.size) c.keep.ensures ∙ c.self.invariant ∙ sym c.leave.ensures.left.same_length

pub returns-clause-exact : goal.returns-clause-exact
returns-clause-exact c =
    ap (λ cuts. in_memory (device_in c.leave.new.ring cuts false c.self.inside.faults c.self.inside.fits c.self.inside.whole c.self.inside.writes) c.self.inside.calls)
    (c.keep.ensures ∙ ap (λ image. with_cut c.self.inside.kept c.args.pick image) c.image.ensures)
    ∙ ap (λ r. in_memory (device_in r (with_cut c.self.inside.kept c.args.pick r.image) false c.self.inside.faults c.self.inside.fits c.self.inside.whole
    c.self.inside.writes) c.self.inside.calls) c.leave.ensures.ring
    ∙ ap (λ (m : InMemory). cut_by c.args.pick m) c.self.view_is

pub returns-clause-cut : goal.returns-clause-cut
returns-clause-cut c =
    let n : Device = device_in c.self.inside.ring c.self.inside.kept c.self.inside.down c.self.inside.faults c.self.inside.fits
    c.self.inside.whole c.self.inside.writes in
    let left : Crash n c.leave.new.ring.image = record { same_length = c.leave.ensures.left.same_length; each = c.leave.ensures.left.each } in
    IsCut-picked c.args.pick n _ _ (ap (λ (m : InMemory). m.device) c.self.view_is)
    (subst (Crash n) (ap (λ r. r.image) c.leave.ensures.ring) left)
    (ap (λ (m : InMemory). m.device) (returns-clause-exact c))
