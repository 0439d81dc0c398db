use Rattle.std.proofs.Common.{◌≡◌, ℕ, List, [], false, length, sym, ap, subst, ◌∙◌}
use Rattle.thy_block.specs.declared.nvm.Write.{Write}
use Rattle.thy_block.specs.Device.{Device, Crash, IsCut, cut_to}
use Rattle.thy_block.proofs.CrashLemmas.{CutsWear-same}
use Rattle.thy_dram.specs.Held.{Held, held_by}
use Rattle.thy_nvm.specs.Chosen.{AreChosen, numbers_from}
use Rattle.thy_nvm.specs.Kept.{Cuts, with_cut}
use Rattle.thy_nvm.specs.DeviceInMemory.{InMemory, device_in}
use Rattle.thy_nvm.specs.Pick.{landing}
use Rattle.thy_nvm.proofs.mem_nvm.MemNvm.cut_as_chosen.Goals as goal

pub keep-requires-clause-size : goal.keep-requires-clause-size
keep-requires-clause-size c = ap length c.image.ensures ∙ c.leave_chosen.ensures.left.same_length ∙ sym c.self.invariant

pub invariant_of-self : goal.invariant_of-self
invariant_of-self c = ap (λ cuts. cuts.size) c.keep.ensures ∙ c.self.invariant ∙ sym c.leave_chosen.ensures.left.same_length

pub returns-clause-cut : goal.returns-clause-cut
returns-clause-cut c =
    let s = c.self.inside in
    let pick = c.args.pick in
    let new : Held = c.leave_chosen.new.ring in
    let n : Device = device_in s.ring s.kept s.down s.faults s.fits s.whole s.writes in
    let same : n ≡ c.args.self.now.device = ap (λ (m : InMemory). m.device) c.self.view_is in
    let torn : s.whole ≡ false = ap (λ (d : Device). d.whole) same ∙ c.requires.torn in
    let chosen : Crash (landing s.whole s.ring) new.image
    = subst (λ w. Crash (landing w s.ring) new.image) (sym torn) c.leave_chosen.ensures.left in
    let left : Crash n new.image = record { same_length = chosen.same_length; each = chosen.each } in
    let is : device_in new c.keep.new.self false s.faults s.fits s.whole s.writes ≡ cut_to n pick new.image n.wear
    = ap (λ (q : List Write). device_in (record new { queue = q }) c.keep.new.self false s.faults s.fits s.whole s.writes) c.leave_chosen.ensures.queue
    ∙ ap (λ (r : ℕ). device_in (record { image = new.image; queue = []; room = r }) c.keep.new.self false s.faults s.fits s.whole
    s.writes) c.leave_chosen.ensures.room
    ∙ ap (λ (k : Cuts). device_in (record { image = new.image; queue = []; room = s.ring.room }) k false s.faults s.fits s.whole s.writes)
    (c.keep.ensures ∙ ap (with_cut s.kept pick) c.image.ensures) in
    subst (λ (d : Device). IsCut pick d (device_in new c.keep.new.self false s.faults s.fits s.whole s.writes)) same
    (record { crash = left; wear = CutsWear-same n.down n.wear; device = is })

pub returns-clause-words : goal.returns-clause-words
returns-clause-words c =
    subst (λ (d : Device). AreChosen c.args.choices.now (held_by d) c.leave_chosen.new.ring.image) (ap (λ (m : InMemory). m.device) c.self.view_is)
    c.leave_chosen.ensures.words

pub returns-clause-taken : goal.returns-clause-taken
returns-clause-taken c =
    subst (λ (d : Device). c.leave_chosen.new.choices ≡ numbers_from c.args.choices.now d.queue (length d.image))
    (ap (λ (m : InMemory). m.device) c.self.view_is) c.leave_chosen.ensures.taken

pub returns-clause-calls : goal.returns-clause-calls
returns-clause-calls c = ap (λ (m : InMemory). m.calls) c.self.view_is
