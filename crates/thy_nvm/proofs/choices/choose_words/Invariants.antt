use Rattle.std.proofs.Common.{◌≡◌, ◌<◌, ℕ, drop}
use Rattle.thy_block.specs.Device.{IsMadeOf, possible, word_bytes}
use Rattle.thy_dram.specs.Held.{device_of}
use Rattle.thy_nvm.specs.Chosen.{number_at, chosen_at}
use Rattle.thy_nvm.proofs.choices.choose_words.Given as goal

abbrev pub invariant-loop-k : goal.invariant-loop-k
invariant-loop-k l = record {
  words : (i : ℕ) → i < l.k → word_bytes l.chosen i ≡ word_bytes (chosen_at l.fn.ring l.fn.at (number_at l.initial.choices i)) i;
  taken : l.choices ≡ drop l.k l.initial.choices;
  made : IsMadeOf (possible (device_of l.fn.ring) l.fn.at) l.chosen;
}
