use Rattle.std.proofs.Common.{◌≡◌, ◌<◌, length, drop, map}
use Rattle.thy_nvm.specs.Overlaid.{on_overlay}
use Rattle.thy_sweep.specs.Choices.{ArePlaces, place_in, count_of, chosen_on}
use Rattle.thy_sweep.proofs.choices.put_chosen.Given as goal

-- the places to come make of what is left of the number the image that is wanted
abbrev pub invariant-loop-choice : goal.invariant-loop-choice
invariant-loop-choice l =
    let to_come = map place_in (drop l.choice-index l.places) in
    record {
      rest : l.rest ≡ count_of to_come;
      index : l.index < l.rest;
      within : ArePlaces (length l.overlay.device.image) to_come;
      size : length l.overlay.device.image ≡ length l.initial.overlay.device.image;
      same : on_overlay (chosen_on to_come l.index) l.overlay ≡ on_overlay (chosen_on (map place_in l.places) l.number) l.initial.overlay;
    }
