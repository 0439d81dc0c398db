-- What is asked of a commit block and of a record; below a higher ceiling no more is.
use Rattle.std.proofs.Common.{◌≡◌, ℕ, ◌+◌, ◌%◌, ◌<◌, ◌≤◌, ◌-◌, ◌==◌, ◌&&◌, Bool, true, nat_lt, nat_le, if◌then◌else◌, List, length, map, Contains, Some, None, refl, sym, ◌∙◌, ap, arith}
use Rattle.std.proofs.lemmas.Bool.{eq-eqb, lt-ltb, ltb-true}
use Rattle.std.proofs.lemmas.List.{length-map, get_or-map, ext_get_or}
use Rattle.std.proofs.lemmas.List.Elements.{Contains-get_or}
use Rattle.std.proofs.lemmas.List.FromFn.{length-range_with_len, get_or-range_with_len}
use Rattle.std.specs.List.{range_with_len}
use Rattle.thy_block.specs.declared.block.Block.{Block}
use Rattle.thy_block.specs.declared.parameters.Parameters.{Parameters}
use Rattle.thy_block.specs.Device.{zero_block, block_at}
use Rattle.thy_block.specs.Geometry.{console_room}
use Rattle.thy_layout.specs.declared.bad_image.BadImage.TheVariants.{Commit, Status, ConsoleLength}
use Rattle.thy_layout.specs.Commit.{epoch_of, is_named, has_zero_rest, commit_fault}
use Rattle.thy_layout.specs.Cpu.{record_word, is_status}
use Rattle.thy_layout.specs.Slots.{epoch_fault, status_fault, second_fault, cpu_fault}
use Rattle.thy_layout.proofs.EntryFaultLemmas.{neither, both_none}

-- block k of the blocks with consecutive numbers
pub block_at-numbers : (look : ℕ → Block) (first n k : ℕ) → k < n → block_at (map look (range_with_len first n)) k ≡ look (first + k)
block_at-numbers look first n k l =
    get_or-map look (range_with_len first n) k 0 zero_block (omega (arith, length-range_with_len first n))
    ∙ ap look (get_or-range_with_len first n k 0 l)

-- what is alike at each number of a list
pub map-alike : (f g : ℕ → Block) (xs : List ℕ) → ((x : ℕ) → Contains xs x → f x ≡ g x) → map f xs ≡ map g xs
map-alike f g xs each =
    ext_get_or zero_block (map f xs) (map g xs) (length-map xs f ∙ sym (length-map xs g))
    (λ k below.
    let l : k < length xs = omega (arith, length-map xs f) in
    get_or-map f xs k 0 zero_block l
    ∙ each _ (Contains-get_or xs k 0 l)
    ∙ sym (get_or-map g xs k 0 zero_block l))

below_higher : (n low high : ℕ) → low ≤ high → nat_lt n low ≡ true → nat_lt n high ≡ true
below_higher n low high most h = let l : n < low = ltb-true n low h in lt-ltb n high (omega arith)

pub commit_asks : (named below rest : Bool) → (if (named && below) && rest then None else Some Commit) ≡ None
    → (named ≡ true) × (below ≡ true) × (rest ≡ true)
commit_asks true true true h = (refl, refl, refl)
commit_asks named below rest h = cc

commit_gives : (named below rest : Bool) → named ≡ true → below ≡ true → rest ≡ true
    → (if (named && below) && rest then None else Some Commit) ≡ None
commit_gives named below rest a b c = λ i. if (a i && b i) && c i then None else Some Commit

pub commit_fault-higher : (header b : Block) (low high : ℕ) → low ≤ high → commit_fault header b low ≡ None
    → commit_fault header b high ≡ None
unfolding commit_fault
commit_fault-higher header b low high most h =
    let asks = commit_asks (is_named header b) (nat_lt (epoch_of b) low) (has_zero_rest b) h in
    commit_gives (is_named header b) (nat_lt (epoch_of b) high) (has_zero_rest b) asks.0 (below_higher (epoch_of b) low high most asks.1) asks.2

-- a record whose status, count and console have no fault passes each test
pub status_asks : (status below room : Bool) → (if status && below then (if room then None else Some ConsoleLength) else Some Status) ≡ None
    → (status ≡ true) × (below ≡ true) × (room ≡ true)
status_asks true true true h = (refl, refl, refl)
status_asks status below room h = cc

status_gives : (status below room : Bool) → status ≡ true → below ≡ true → room ≡ true
    → (if status && below then (if room then None else Some ConsoleLength) else Some Status) ≡ None
status_gives status below room a b c = λ i. if a i && b i then (if c i then None else Some ConsoleLength) else Some Status

module _ (p : Parameters) (slot : List Block) (low high : ℕ) (most : low ≤ high) where
  pub status_fault-higher : status_fault p low slot ≡ None → status_fault p high slot ≡ None
  status_fault-higher h =
      let asks = status_asks (is_status (record_word slot 36) (record_word slot 37)) (nat_lt (record_word slot 32) low)
      (nat_le (record_word slot 34) (console_room p)) h in
      status_gives (is_status (record_word slot 36) (record_word slot 37)) (nat_lt (record_word slot 32) high)
      (nat_le (record_word slot 34) (console_room p))
      asks.0 (below_higher (record_word slot 32) low high most asks.1) asks.2

  pub cpu_fault-higher : cpu_fault p low slot ≡ None → cpu_fault p high slot ≡ None
  cpu_fault-higher h =
      let both = neither (status_fault p low slot) (second_fault p slot) h in
      both_none _ _ (status_fault-higher both.0) both.1

-- a slot whose word of the epoch is right has no such fault
pub of_epoch : (epoch : ℕ) (slot : List Block) (w : ℕ) → w ≡ record_word slot 38 → w ≡ epoch → epoch_fault epoch slot ≡ None
of_epoch epoch slot w is same = ap (λ b. if b then None else Some Commit) (ap (λ x. x == epoch) (sym is) ∙ eq-eqb w epoch same)

pub half : (epoch : ℕ) → epoch % 2 < 2
half epoch = omega arith
