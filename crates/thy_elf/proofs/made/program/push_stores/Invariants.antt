use Rattle.std.proofs.Common.{◌≡◌, ◌-◌, ◌++◌, map}
use Rattle.std.specs.List.{flat_map}
use Rattle.thy_elf.specs.Encode.{encoded}
use Rattle.thy_elf.specs.MadeProgram.{draws, store_of}
use Rattle.thy_elf.proofs.made.program.push_stores.Given as goal

-- the words that are there, with the words of the stores to come, are the words of all stores
abbrev pub invariant-loop-store : goal.invariant-loop-store
invariant-loop-store l =
    l.words.items ++ map encoded (flat_map store_of (draws (2000 - l._store) l.lcg))
    ≡ l.initial.words.items ++ map encoded (flat_map store_of (draws 2000 l.n))
