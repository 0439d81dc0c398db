use Rattle.std.proofs.Common.{◌≡◌, ◌<◌, ◌^◌, ℕ, List, length, sym, ◌∙◌, ap, subst}
use Rattle.std.proofs.lemmas.Result.{IfOk-weaker}
use Rattle.thy_block.specs.declared.block.Block.{Block}
use Rattle.thy_block.specs.Device.{Device, Crash}
use Rattle.thy_gap.specs.Seen.{seen_as}
use Rattle.thy_nvm.specs.Overlaid.{Overlaid}
use Rattle.thy_run.specs.Going.{origin_of}
use Rattle.thy_sweep.specs.Choices.{Place, ArePlaces, chosen, count_of, places_of}
use Rattle.thy_sweep.proofs.ChoiceLemmas.{chosen-crash, numbers_images}
use Rattle.thy_sweep.specs.Trials.{IsTried}
use Rattle.thy_sweep.proofs.RoomLemmas.{room_again}
use Rattle.thy_sweep.proofs.trial.room.try_number.Goals as goal

pub choose-requires-clause-within : goal.choose-requires-clause-within
choose-requires-clause-within g c =
    let n : Device = g.N.OverMemory.memory c.args.nvm.now in
    subst (λ k. ArePlaces k c.args.choices.now)
    (sym (c.of-copy.ensures.crash.same_length ∙ ap (λ (d : Device). length d.image) c.below.ensures))
    (subst (ArePlaces (length n.image)) (sym c.requires.choices) (numbers_images n).within)

pub try_over-requires-clause-copy : goal.try_over-requires-clause-copy
try_over-requires-clause-copy g c =
    let n : Device = g.N.OverMemory.memory c.args.nvm.now in
    let e = ap (λ (x : Overlaid). x.device) c.of-copy.ensures.left in
    let f = ap (λ (x : Overlaid). x.device) c.choose.ensures.image in
    let image : c.choose.new.overlay.device.image ≡ chosen (places_of n) c.args.number n.image
    = ap (λ (d : Device). d.image) f
    ∙ ap (λ (i : List Block). chosen c.args.choices.now c.args.number i) (ap (λ (d : Device). d.image) e)
    ∙ ap (λ (ps : List Place). chosen ps c.args.number c.below.result.now.device.image) c.requires.choices
    ∙ ap (λ (d : Device). chosen (places_of n) c.args.number d.image) c.below.ensures in
    let less : c.args.number < count_of (places_of n)
    = subst (λ (k : ℕ). c.args.number < k) (c.requires.count ∙ ap count_of c.requires.choices) c.requires.number in
    record {
      crash = subst (Crash n) (sym image) (chosen-crash n c.args.number less);
      up = ap (λ (d : Device). d.down) f ∙ ap (λ (d : Device). d.down) e;
      empty = ap (λ (d : Device). d.queue) f ∙ ap (λ (d : Device). d.queue) e;
      unkept = ap (λ (d : Device). d.left) f ∙ ap (λ (d : Device). d.left) e;
    }

pub try_over-requires-clause-room : goal.try_over-requires-clause-room
try_over-requires-clause-room g c =
    let e = ap (λ (x : Overlaid). x.device) c.of-copy.ensures.left in
    let f = ap (λ (x : Overlaid). x.device) c.choose.ensures.image in
    subst (λ k. k < 2 ^ 64) (sym (ap (λ (d : Device). d.left_room) f ∙ ap (λ (d : Device). d.left_room) e)) c.requires.room.cuts

pub returns-clause-tried : goal.returns-clause-tried
returns-clause-tried g c = λ w at few.
    let K = g.M.Computer.kind in
    let o = origin_of c.args.plan.now in
    let n : Device = g.N.OverMemory.memory c.args.nvm.now in
    let e = ap (λ (x : Overlaid). x.device) c.of-copy.ensures.left in
    let f = ap (λ (x : Overlaid). x.device) c.choose.ensures.image in
    let image : c.choose.new.overlay.device.image ≡ chosen (places_of n) c.args.number n.image
    = ap (λ (d : Device). d.image) f
    ∙ ap (λ (i : List Block). chosen c.args.choices.now c.args.number i) (ap (λ (d : Device). d.image) e)
    ∙ ap (λ (ps : List Place). chosen ps c.args.number c.below.result.now.device.image) c.requires.choices
    ∙ ap (λ (d : Device). chosen (places_of n) c.args.number d.image) c.below.ensures in
    IfOk-weaker c.try_over.result _ _
    (λ t h. subst (λ (i : List Block). IsTried K o 0 c.args.part (seen_as g.N.OverMemory.levels i) w c.args.most t.found.booted t.found.state) image h)
    (c.try_over.ensures.tried w at few)

pub returns-clause-room : goal.returns-clause-room
returns-clause-room g c =
    let n : Device = g.N.OverMemory.memory c.args.nvm.now in
    let d : Device = c.choose.new.overlay.device in
    let e = ap (λ (x : Overlaid). x.device) c.of-copy.ensures.left in
    let f = ap (λ (x : Overlaid). x.device) c.choose.ensures.image in
    let size : length d.image ≡ length n.image
    = c.choose.ensures.size ∙ c.of-copy.ensures.crash.same_length ∙ ap (λ (x : Device). length x.image) c.below.ensures in
    let room : d.queue_room ≡ n.queue_room
    = ap (λ (x : Device). x.queue_room) f ∙ ap (λ (x : Device). x.queue_room) e ∙ ap (λ (x : Device). x.queue_room) c.below.ensures in
    let cuts = ap (λ (x : Device). x.left_room) f ∙ ap (λ (x : Device). x.left_room) e in
    IfOk-weaker c.try_over.result _ _
    (λ t h. room_again c.args.plan.now d n t.room size room (subst (λ k. k < 2 ^ 64) (sym cuts) c.requires.room.cuts) h) c.try_over.ensures.room
