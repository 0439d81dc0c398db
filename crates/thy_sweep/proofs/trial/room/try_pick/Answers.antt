use Rattle.std.proofs.Common.{◌≡◌, ◌&&◌, ◌<◌, true, false, ℕ, ◌-◌, ◌^◌, min, List, [], ◌∷◌, ◌++◌, length, refl, sym, ◌∙◌, ap, subst}
use Rattle.std.proofs.lemmas.Bool.{and_parts}
use Rattle.thy_block.specs.declared.block.Block.{Block}
use Rattle.thy_block.specs.Device.{Device, Crash}
use Rattle.thy_gap.specs.Seen.{seen_as}
use Rattle.thy_nvm.specs.Overlaid.{Overlaid}
use Rattle.thy_nvm.specs.Pick.{picked}
use Rattle.thy_run.specs.Going.{origin_of}
use Rattle.thy_nvm.specs.Calls.{is_listed}
use Rattle.thy_sweep.specs.Choices.{Place, ArePlaces, number_of, places_of}
use Rattle.thy_sweep.proofs.ChoiceLemmas.{numbers_images}
use Rattle.thy_sweep.specs.Rooms.{counted_at, number_by}
use Rattle.thy_sweep.specs.Trials.{IsTried}
use Rattle.thy_sweep.proofs.RoomLemmas.{room_again}
use Rattle.thy_sweep.proofs.trial.room.try_pick.Goals as goal

-- the number of an image, by the places of its device
counts : (n : Device) (places : List Place) (g : List Block) (k : ℕ) → places ≡ places_of n → k ≡ min (number_of places g) (2 ^ 128 - 1) → k ≡ counted_at n g
counts n places g k same e = e ∙ ap (λ ps. min (number_of ps g) (2 ^ 128 - 1)) same

-- the image that a pick leaves, by the device in memory as it is lent
left_image : (pick : ℕ) (d n copy : Device) → copy.image ≡ picked d.whole pick d.image d.queue → d ≡ n → copy.image ≡ picked n.whole pick n.image n.queue
left_image pick d n copy e same = e ∙ ap (λ (x : Device). picked x.whole pick x.image x.queue) same

pub number_of-number-requires : goal.number_of-number-requires
number_of-number-requires g c =
    let n : Device = g.N.OverMemory.memory c.args.nvm.now in
    subst (λ k. ArePlaces k c.args.choices.now)
    (sym (c.of-copy.ensures.crash.same_length ∙ ap (λ (d : Device). length d.image) c.below-below.ensures))
    (subst (ArePlaces (length n.image)) (sym c.requires.choices) (numbers_images n).within)

pub try_over-requires-clause-copy : goal.try_over-requires-clause-copy
try_over-requires-clause-copy g c =
    let e = ap (λ (x : Overlaid). x.device) c.of-copy.ensures.left in
    record {
      crash = subst (λ (d : Device). Crash d c.of-copy.result.device.image) c.below-below.ensures c.of-copy.ensures.crash;
      up = ap (λ (d : Device). d.down) e;
      empty = ap (λ (d : Device). d.queue) e;
      unkept = ap (λ (d : Device). d.left) e;
    }

pub try_over-requires-clause-room : goal.try_over-requires-clause-room
try_over-requires-clause-room g c =
    let e = ap (λ (x : Overlaid). x.device) c.of-copy.ensures.left in
    subst (λ k. k < 2 ^ 64) (sym (ap (λ (d : Device). d.left_room) e)) c.requires.room.cuts

pub returns-then-known-clause-tried : goal.returns-then-known-clause-tried
returns-then-known-clause-tried g c = λ w at few. tt

pub returns-then-known-clause-room : goal.returns-then-known-clause-room
returns-then-known-clause-room g c =
    let e = ap (λ (x : Overlaid). x.device) c.of-copy.ensures.left in
    record {
      dram = c.requires.room.dram;
      blocks =
          c.into_spare-spare.ensures.blocks ∙ c.of-copy.ensures.crash.same_length ∙ ap (λ (d : Device). length d.image) c.below-below.ensures;
      queue =
          c.into_spare-spare.ensures.queue ∙ ap (λ (d : Device). d.queue_room) e ∙ ap (λ (d : Device). d.queue_room) c.below-below.ensures;
      cuts =
          subst (λ k. k < 2 ^ 64) (sym (c.into_spare-spare.ensures.cuts ∙ ap (λ (d : Device). d.left_room) e)) c.requires.room.cuts;
    }

-- the image's number was listed
pub returns-then-known-clause-listed : goal.returns-then-known-clause-listed
returns-then-known-clause-listed g c =
    let n : Device = g.N.OverMemory.memory c.args.nvm.now in
    let items = c.args.numbers.now.items in
    let e = ap (λ (x : Overlaid). x.device) c.of-copy.ensures.left in
    let image = left_image c.args.pick c.below-below.result.now.device n c.of-copy.result.device (ap (λ (d : Device). d.image) e) c.below-below.ensures in
    let number : c.number_of-number.result ≡ number_by c.args.pick n
    = counts n c.args.choices.now c.of-copy.result.device.image c.number_of-number.result c.requires.choices c.number_of-number.ensures
    ∙ ap (counted_at n) image in
    let known : (c.lands_whole.result && is_listed c.number_of-number.result items) ≡ true
    = ap (λ xs. c.lands_whole.result && is_listed c.number_of-number.result xs) (sym c.as_slice.ensures.value) ∙ sym c.is_known-known.ensures ∙ c.if-known.true in (
      refl,
      ap (λ k. is_listed k items) (sym number) ∙ (and_parts c.lands_whole.result (is_listed c.number_of-number.result items) known).1,
    )

-- the image's number is listed then, and was not where blocks land whole
pub returns-in-Ok-clause-listed : goal.returns-in-Ok-clause-listed
returns-in-Ok-clause-listed g c =
    let n : Device = g.N.OverMemory.memory c.args.nvm.now in
    let items = c.args.numbers.now.items in
    let e = ap (λ (x : Overlaid). x.device) c.of-copy.ensures.left in
    let image = left_image c.args.pick c.below-below.result.now.device n c.of-copy.result.device (ap (λ (d : Device). d.image) e) c.below-below.ensures in
    let number : c.number_of-number.result ≡ number_by c.args.pick n
    = counts n c.args.choices.now c.of-copy.result.device.image c.number_of-number.result c.requires.choices c.number_of-number.ensures
    ∙ ap (counted_at n) image in
    let new : (c.lands_whole.result && is_listed c.number_of-number.result items) ≡ false
    = ap (λ xs. c.lands_whole.result && is_listed c.number_of-number.result xs) (sym c.as_slice.ensures.value) ∙ sym c.is_known-known.ensures ∙ c.if-known.false in (
      c.in_ok-list.ensures ∙ ap (λ k. items ++ k ∷ []) number,
      λ whole.
          ap (λ k. is_listed k items) (sym number)
          ∙ ap (λ b. b && is_listed c.number_of-number.result items) (sym (c.lands_whole.ensures ∙ ap (λ (d : Device). d.whole) c.below-below.ensures ∙ whole)) ∙ new,
    )

pub returns-in-Ok-clause-tried : goal.returns-in-Ok-clause-tried
returns-in-Ok-clause-tried g c = λ w at few.
    let n : Device = g.N.OverMemory.memory c.args.nvm.now in
    let e = ap (λ (x : Overlaid). x.device) c.of-copy.ensures.left in
    let image = left_image c.args.pick c.below-below.result.now.device n c.of-copy.result.device (ap (λ (d : Device). d.image) e) c.below-below.ensures in
    subst (λ (i : List Block). IsTried g.M.Computer.kind (origin_of c.args.plan.now) c.args.pick c.args.part (seen_as g.N.OverMemory.levels i) w c.args.most c.in-Ok.trial.found.booted c.in-Ok.trial.found.state)
    image (c.in-Ok.ensures.tried w at few)

pub returns-in-Ok-clause-room : goal.returns-in-Ok-clause-room
returns-in-Ok-clause-room g c =
    let n : Device = g.N.OverMemory.memory c.args.nvm.now in
    let d : Device = c.of-copy.result.device in
    let e = ap (λ (x : Overlaid). x.device) c.of-copy.ensures.left in
    let size : length d.image ≡ length n.image = c.of-copy.ensures.crash.same_length ∙ ap (λ (x : Device). length x.image) c.below-below.ensures in
    let room : d.queue_room ≡ n.queue_room = ap (λ (x : Device). x.queue_room) e ∙ ap (λ (x : Device). x.queue_room) c.below-below.ensures in
    room_again c.args.plan.now d n c.in-Ok.trial.room size room (subst (λ k. k < 2 ^ 64) (sym (ap (λ (x : Device). x.left_room) e)) c.requires.room.cuts) c.in-Ok.ensures.room
