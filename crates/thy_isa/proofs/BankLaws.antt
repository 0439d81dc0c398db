-- Banks of harts, of which the first ones are had: one is changed in place, and the others lose their reservations.
use Rattle.std.proofs.Common.{◌≡◌, ℕ, zero, suc, ◌+◌, ◌<◌, ◌≤◌, List, [], ◌∷◌, length, map, take, set, get_or, refl, sym, ap, ◌∙◌, arith, length-set, add-one}
use Rattle.std.proofs.lemmas.List.{get_or-map, get_or-set_same, get_or-take, length-map, take-map}
use Rattle.std.proofs.Math.Seq.{take-set-lt}
use Rattle.thy_isa.specs.declared.state.Reservation.{Reservation}
use Rattle.thy_isa.specs.Reservations.{left_by}
use Rattle.thy_isa.specs.declared.processor.processor.HartOf.{HartOf}
use Rattle.thy_isa.specs.Processor.{no_hart, hart_at, losing, written_by}

-- the first k of some harts changed
unfoldable pub changed_to : (HartOf → HartOf) → ℕ → List HartOf → List HartOf
changed_to f zero l = l
changed_to f (suc k) [] = []
changed_to f (suc k) (x ∷ l) = f x ∷ changed_to f k l

pub changed-one_more : (f : HartOf → HartOf) (k : ℕ) (l : List HartOf) → k < length l
    → set (changed_to f k l) k (f (hart_at (changed_to f k l) k)) ≡ changed_to f (suc k) l
unfolding changed_to
changed-one_more f k [] h = absurd (omega (arith, h))
changed-one_more f zero (x ∷ l) h = refl
changed-one_more f (suc k) (x ∷ l) h = ap (λ (m : List HartOf). f x ∷ m) (changed-one_more f k l (omega (arith, h)))

pub length-changed : (f : HartOf → HartOf) (k : ℕ) (l : List HartOf) → length (changed_to f k l) ≡ length l
unfolding changed_to
length-changed f zero l = refl
length-changed f (suc k) [] = refl
length-changed f (suc k) (x ∷ l) = ap suc (length-changed f k l)

pub changed-all : (f : HartOf → HartOf) (l : List HartOf) → changed_to f (length l) l ≡ map f l
unfolding changed_to
changed-all f [] = refl
changed-all f (x ∷ l) = ap (λ (m : List HartOf). f x ∷ m) (changed-all f l)

-- within a list it does not matter what stands for an element past its end
same_at : (l : List HartOf) (k : ℕ) (d e : HartOf) → k < length l → get_or l k d ≡ get_or l k e
same_at [] k d e h = absurd (omega (arith, h))
same_at (x ∷ l) zero d e h = refl
same_at (x ∷ l) (suc k) d e h = same_at l k d e (omega (arith, h))

-- a hart with what is left of its reservation, read in parts
pub losing-is : (at len k : ℕ) (l : List HartOf) (d e : HartOf) (r : Reservation) → k < length l → r ≡ left_by at len (get_or l k d).reserved
    → record { pc = (get_or l k e).pc; regs = (get_or l k e).regs; reserved = r } ≡ losing at len (hart_at l k)
losing-is at len k l d e r h left =
    ap (λ (x : HartOf). record x { reserved = r }) (same_at l k e no_hart h)
    ∙ ap (λ (s : Reservation). record (hart_at l k) { reserved = s })
    (left ∙ ap (λ (x : HartOf). left_by at len x.reserved) (same_at l k d no_hart h))

-- one more is put into its place
pub changed-put : (f : HartOf → HartOf) (k : ℕ) (l m : List HartOf) (x : HartOf) → m ≡ changed_to f k l → k < length l → x ≡ f (hart_at m k)
    → set m k x ≡ changed_to f (k + 1) l
changed-put f k l m x e h is =
    ap (set m k) is
    ∙ ap (λ (n : List HartOf). set n k (f (hart_at n k))) e
    ∙ changed-one_more f k l h
    ∙ ap (λ n. changed_to f n l) (sym (add-one k))

-- all have lost, and one gets its own back
pub put-back : (at len h : ℕ) (l m : List HartOf) (d e : HartOf) → m ≡ map (losing at len) l → h < length l
    → set m h (record { pc = (get_or m h d).pc; regs = (get_or m h d).regs; reserved = (get_or l h e).reserved }) ≡ written_by at len h l
put-back at len h l m d e is there =
    ap (λ (x : HartOf). set m h (record { pc = x.pc; regs = x.regs; reserved = (get_or l h e).reserved }))
    (ap (λ (n : List HartOf). get_or n h d) is ∙ get_or-map (losing at len) l h no_hart d there)
    ∙ ap (λ (x : HartOf). set m h (record (hart_at l h) { reserved = x.reserved })) (same_at l h e no_hart there)
    ∙ ap (λ (n : List HartOf). set n h (hart_at l h)) is

-- ---- harts that lose nothing

-- a hart is put where it is
set-there : (l : List HartOf) (k : ℕ) → set l k (hart_at l k) ≡ l
set-there [] k = refl
set-there (x ∷ l) zero = refl
set-there (x ∷ l) (suc k) = ap (λ (m : List HartOf). x ∷ m) (set-there l k)

-- a hart whose reservation is left stays as it is
pub losing-nothing : (at len : ℕ) (x : HartOf) → left_by at len x.reserved ≡ x.reserved → losing at len x ≡ x
losing-nothing at len x left = ap (λ (r : Reservation). record x { reserved = r }) left

-- one more stays as it is
pub kept-one_more : (at len k : ℕ) (l : List HartOf) (d : HartOf) → k < length l → changed_to (losing at len) k l ≡ l
    → left_by at len (get_or l k d).reserved ≡ (get_or l k d).reserved → changed_to (losing at len) (k + 1) l ≡ l
kept-one_more at len k l d there before left =
    let f = losing at len in
    let same : f (hart_at l k) ≡ hart_at l k =
    ap f (same_at l k no_hart d there) ∙ losing-nothing at len (get_or l k d) left ∙ same_at l k d no_hart there in
    ap (λ n. changed_to f n l) (add-one k)
    ∙ sym (changed-one_more f k l there)
    ∙ ap (λ (m : List HartOf). set m k (f (hart_at m k))) before
    ∙ ap (set l k) same
    ∙ set-there l k

-- harts of which each stays as it is, after a write
pub written_by-none : (at len h : ℕ) (l : List HartOf) → map (losing at len) l ≡ l → l ≡ written_by at len h l
written_by-none at len h l none = sym (ap (λ (m : List HartOf). set m h (hart_at l h)) none ∙ set-there l h)

-- ---- one of the harts that are had

-- it is read in any way
pub had-at : (h n : ℕ) (l : List HartOf) (d : HartOf) → h < n → h < length l → get_or l h d ≡ hart_at (take n l) h
had-at h n l d there inside = same_at l h d no_hart inside ∙ sym (get_or-take n l h no_hart there)

-- it becomes another one
pub had-put : (h n : ℕ) (l : List HartOf) (x y : HartOf) → h < n → x ≡ y → take n (set l h x) ≡ set (take n l) h y
had-put h n l x y there is = take-set-lt n l h x there ∙ ap (set (take n l) h) is

-- ---- a write

pub length-written_by : (at len h : ℕ) (l : List HartOf) → length (written_by at len h l) ≡ length l
length-written_by at len h l = length-set (map (losing at len) l) h (hart_at l h) ∙ length-map l (losing at len)

-- a hart keeps what it has as it writes
pub written_by-own : (at len h : ℕ) (l : List HartOf) → h < length l → hart_at (written_by at len h l) h ≡ hart_at l h
written_by-own at len h l there =
    get_or-set_same (map (losing at len) l) h (hart_at l h) no_hart (omega (arith, there, length-map l (losing at len)))

-- one hart alone loses nothing
pub written_by-alone : (at len h : ℕ) (l : List HartOf) → length l ≤ 1 → h < length l → written_by at len h l ≡ l
written_by-alone at len h [] few there = absurd (omega (arith, there))
written_by-alone at len zero (x ∷ []) few there = refl
written_by-alone at len (suc h) (x ∷ []) few there = absurd (omega (arith, there))
written_by-alone at len h (x ∷ y ∷ l) few there = absurd (omega (arith, few))

-- the harts that are had after a write are those before it after the write
pub take-written_by : (at len h n : ℕ) (l : List HartOf) → h < n → take n (written_by at len h l) ≡ written_by at len h (take n l)
take-written_by at len h n l there =
    take-set-lt n (map (losing at len) l) h (hart_at l h) there
    ∙ ap (λ m. set m h (hart_at l h)) (take-map (losing at len) n l)
    ∙ ap (set (map (losing at len) (take n l)) h) (sym (get_or-take n l h no_hart there))
