-- What a levelled device says of its wear.
use Rattle.std.proofs.Common.{◌≡◌, ℕ, ◌-◌, ◌≤◌, ◌^◌, ◌&&◌, nat_lt, not, if◌then◌else◌, Bool, true, false, refl, sym, ◌∙◌, ap, subst, inl, inr, arith}
use Rattle.std.proofs.lemmas.Bool.{true≢false}
use Rattle.thy_block.specs.declared.block.Block.{Block}
use Rattle.thy_block.specs.Counts.{next}
use Rattle.thy_block.specs.Device.{Device, Wear, Plain, Levels, Unsaid, CountsBy, CountsOwn, CutsWear, Settles, is_worn, moved_on, moves_next, own_count, unworn, worn, written_to}
use Rattle.thy_gap.specs.Levelled.{is_plain, wear_over}

-- ---- a device whose barriers make no write of their own stays one

plain-worn : (w : Wear) → is_plain (worn w) ≡ is_plain w
plain-worn Plain = refl
plain-worn (Levels every since moves) = refl
plain-worn Unsaid = refl

plain-moved_on : (w : Wear) → is_plain (moved_on w) ≡ is_plain w
plain-moved_on Plain = refl
plain-moved_on (Levels every since moves) = refl
plain-moved_on Unsaid = refl

plain-settled : (w : Wear) (moves : Bool) → is_plain (if moves then moved_on w else w) ≡ is_plain w
plain-settled w true = plain-moved_on w
plain-settled w false = refl

pub plain-settles : (n new : Device) → Settles n new → is_plain new.wear ≡ is_plain n.wear
plain-settles n new e = ap (λ (m : Device). is_plain m.wear) e ∙ plain-settled n.wear (moves_next n)

pub plain-written : (n new : Device) (at : ℕ) (block : Block) → new ≡ written_to n at block → is_plain new.wear ≡ is_plain n.wear
plain-written n new at block e = ap (λ (m : Device). is_plain m.wear) e ∙ plain-worn n.wear

plain-cut : (old new : Wear) → CutsWear true old new → is_plain new ≡ is_plain old
plain-cut old new left = elim left as (λ _. is_plain new ≡ is_plain old) [
  | inl same ↦ ap is_plain same
  | inr on ↦ ap is_plain on ∙ plain-moved_on old
]

-- ---- what a barrier counts

-- a barrier of a plain device counts nothing of its own
pub counts-plain : (n : Device) (w : Wear) (count : ℕ) → n.wear ≡ w → is_plain w ≡ true → CountsOwn n count → count ≡ n.writes
counts-plain n Plain count is plain own =
    subst (λ v. CountsBy v n.writes (own_count n) count) is own ∙ ap (λ v. if is_worn v && n.whole then next (next n.writes) else n.writes) is
counts-plain n (Levels every since moves) count is plain own = absurd (true≢false (sym plain))
counts-plain n Unsaid count is plain own = absurd (true≢false (sym plain))

own-least : (n : Device) → n.writes ≤ 2 ^ 64 - 1 → n.writes ≤ own_count n
own-least n few = elim (moves_next n)
    as (λ t. n.writes ≤ (if t then next (next n.writes) else n.writes)) [ true ↦ omega (arith, few) | false ↦ omega arith ]

pub counts-no_fewer : (n : Device) (w : Wear) (count : ℕ) → n.writes ≤ 2 ^ 64 - 1 → CountsBy w n.writes (own_count n) count
    → n.writes ≤ count
counts-no_fewer n Plain count few own = subst (λ k. n.writes ≤ k) (sym own) (own-least n few)
counts-no_fewer n (Levels every since moves) count few own = subst (λ k. n.writes ≤ k) (sym own) (own-least n few)
counts-no_fewer n Unsaid count few own = own

swapped : (a b : Bool) → (a && b) ≡ (b && a)
swapped true true = refl
swapped true false = refl
swapped false true = refl
swapped false false = refl

-- the count of a levelled device after a barrier, by what the inner device says of its own writes
pub counts_over : (d : Device) (w : Wear) (every since moves count : ℕ) → d.wear ≡ wear_over w every since moves
    → (is_plain w ≡ true → count ≡ (if d.whole && not (nat_lt since every) then next (next d.writes) else d.writes))
    → d.writes ≤ count → CountsOwn d count
counts_over d Plain every since moves count is exact no_fewer =
    subst (λ v. CountsBy v d.writes (own_count d) count) (sym is)
    (exact refl
    ∙ ap (λ t. if t then next (next d.writes) else d.writes) (swapped d.whole (not (nat_lt since every)) ∙ ap (λ v. is_worn v && d.whole) (sym is)))
counts_over d (Levels e s m) every since moves count is exact no_fewer = subst (λ v. CountsBy v d.writes (own_count d) count) (sym is) no_fewer
counts_over d Unsaid every since moves count is exact no_fewer = subst (λ v. CountsBy v d.writes (own_count d) count) (sym is) no_fewer

-- ---- what is said after each call

pub worn_over : (w : Wear) (every since moves : ℕ) → wear_over (worn w) every (next since) moves ≡ worn (wear_over w every since moves)
worn_over Plain every since moves = refl
worn_over (Levels e s m) every since moves = refl
worn_over Unsaid every since moves = refl

pub unworn_over : (w : Wear) (every since moves : ℕ) → wear_over (unworn w) every 0 0 ≡ unworn (wear_over w every since moves)
unworn_over Plain every since moves = refl
unworn_over (Levels e s m) every since moves = refl
unworn_over Unsaid every since moves = refl

moved_over : (w : Wear) (every since moves : ℕ) → wear_over w every 0 (next moves) ≡ moved_on (wear_over w every since moves)
moved_over Plain every since moves = refl
moved_over (Levels e s m) every since moves = refl
moved_over Unsaid every since moves = refl

levels_after : (every since moves : ℕ) (lands due : Bool)
    → Levels every (if lands && due then 0 else since) (if lands && due then next moves else moves)
    ≡ (if due && lands then Levels every 0 (next moves) else Levels every since moves)
levels_after every since moves true true = refl
levels_after every since moves true false = refl
levels_after every since moves false true = refl
levels_after every since moves false false = refl

abbrev said : (lands : Bool) (every since moves : ℕ) → Bool → Wear
said lands every since moves t =
    if t then Levels every (if lands && not (nat_lt since every) then 0 else since)
    (if lands && not (nat_lt since every) then next moves else moves) else Unsaid

-- after a barrier
pub wear_after : (w v : Wear) (lands : Bool) (every since moves : ℕ) → is_plain v ≡ is_plain w
    → wear_over v every (if lands && not (nat_lt since every) then 0 else since)
    (if lands && not (nat_lt since every) then next moves else moves)
    ≡ (if is_worn (wear_over w every since moves) && lands then moved_on (wear_over w every since moves) else wear_over w every since moves)
wear_after Plain v lands every since moves same =
    ap (said lands every since moves) same ∙ levels_after every since moves lands (not (nat_lt since every))
wear_after (Levels e s m) v lands every since moves same = ap (said lands every since moves) same
wear_after Unsaid v lands every since moves same = ap (said lands every since moves) same

-- a cut leaves the counts of a device that is up; of one that is down it may complete a move
pub cuts_over : (down : Bool) (w v : Wear) (every since moves : ℕ) (same : Bool) → CutsWear down w v → (down ≡ false → same ≡ true)
    → CutsWear down (wear_over w every since moves) (wear_over v every (if same then since else 0) (if same then moves else next moves))
cuts_over false w v every since moves same left up =
    ap (λ x. wear_over x every (if same then since else 0) (if same then moves else next moves)) left
    ∙ ap (λ t. wear_over w every (if t then since else 0) (if t then moves else next moves)) (up refl)
cuts_over true w v every since moves true left up = inl (ap (λ t. if t then Levels every since moves else Unsaid) (plain-cut w v left))
cuts_over true w v every since moves false left up =
    inr (ap (λ t. if t then Levels every 0 (next moves) else Unsaid) (plain-cut w v left) ∙ moved_over w every since moves)
