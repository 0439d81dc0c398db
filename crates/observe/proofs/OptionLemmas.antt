-- The options that are taken, one after the other.
use Rattle.std.proofs.Common.{◌≡◌, ℕ, suc, ◌+◌, ◌-◌, ◌<◌, ◌≤◌, Bool, true, false, if◌then◌else◌, List, [], ◌∷◌, map, length, get_or, Option, Some, Result, Ok, Err, IsErrAnd, sym, ◌∙◌, ap, ap₂, arith}
use Rattle.std.specs.List.{remove}
use Rattle.thy_base.specs.Numbers.{number_in}
use Rattle.observe.specs.declared.options.Options.{Options}
use Rattle.observe.specs.declared.options.Wish.{Wish}
use Rattle.observe.specs.Wanting.{IsReading, Reading, has, numbered, take_many, take_one, taken, taken_if, takes_number, then_more, wish_of, with_wish}

-- ---- one option, of items that have words

abbrev left_with : Options → List (List ℕ) → Reading
left_with o words = Ok (o, words)

abbrev by_test : Bool → Reading → Reading → Reading
by_test b some other = if b then some else other

-- one that is given again is left
pub take-again : {S : Type 0} (f : S → List ℕ) (o : Options) (items : List S) (word : S) (wish : Wish) → 2 ≤ length items
    → word ≡ get_or items 1 word → wish_of (f word) ≡ Some wish → has o wish ≡ true → take_one o (map f items) ≡ Ok (o, map f items)
take-again f o [] word wish many is found given = absurd (omega (arith, many))
take-again f o (name ∷ []) word wish many is found given = absurd (omega (arith, many))
take-again {S = S} f o (name ∷ second ∷ rest) word wish many is found given =
    ap (λ (q : Option Wish). taken_if o q (f name) (f second) (map f rest)) (ap (λ (x : S). wish_of (f x)) (sym is) ∙ found)
    ∙ ap (λ (b : Bool). by_test b (left_with o (f name ∷ f second ∷ map f rest)) (taken o wish (f name) (f second) (map f rest))) given

-- one with a number is taken with it
pub take-numbered : {S : Type 0} (f : S → List ℕ) (o next : Options) (items fewer left : List S) (word number : S) (wish : Wish) (n : ℕ)
    → 3 ≤ length items → word ≡ get_or items 1 word → wish_of (f word) ≡ Some wish → has o wish ≡ false → takes_number wish ≡ true
    → number ≡ get_or items 2 number → number_in (f number) ≡ Some n → next ≡ with_wish o wish n → fewer ≡ remove items 2 → left ≡ remove fewer 1
    → take_one o (map f items) ≡ Ok (next, map f left)
take-numbered f o next [] fewer left word number wish n many is found fresh takes place read made first gone = absurd (omega (arith, many))
take-numbered f o next (name ∷ []) fewer left word number wish n many is found fresh takes place read made first gone = absurd (omega (arith, many))
take-numbered f o next (name ∷ second ∷ []) fewer left word number wish n many is found fresh takes place read made first gone =
    absurd (omega (arith, many))
take-numbered {S = S} f o next (name ∷ second ∷ third ∷ rest) fewer left word number wish n many is found fresh takes place read made first gone =
    ap (λ (q : Option Wish). taken_if o q (f name) (f second) (f third ∷ map f rest)) (ap (λ (x : S). wish_of (f x)) (sym is) ∙ found)
    ∙ ap (λ (b : Bool). by_test b (left_with o (f name ∷ f second ∷ f third ∷ map f rest)) (taken o wish (f name) (f second) (f third ∷ map f rest))) fresh
    ∙ ap (λ (b : Bool). by_test b (numbered o wish (number_in (f third)) (f name ∷ map f rest)) (left_with (with_wish o wish 0) (f name ∷ f third ∷ map f rest))) takes
    ∙ ap (λ (q : Option ℕ). numbered o wish q (f name ∷ map f rest)) (ap (λ (x : S). number_in (f x)) (sym place) ∙ read)
    ∙ ap₂ (λ (x : Options) (l : List S). left_with x (map f l)) (sym made) (sym (gone ∙ ap (λ (l : List S). remove l 1) first))

-- ---- all of them

more-left : (i n : ℕ) → i < n → n - i ≡ suc (n - (i + 1))
more-left i n less = omega (arith, less)

-- one more is taken
pub take-more : (i n : ℕ) (o next : Options) (words left : List (List ℕ)) (whole : Reading) → i < n
    → take_one o words ≡ Ok (next, left) → take_many (n - i) o words ≡ whole → take_many (n - (i + 1)) next left ≡ whole
take-more i n o next words left whole less one h =
    sym (ap (λ (r : Reading). then_more r (take_many (n - (i + 1)))) one) ∙ sym (ap (λ (k : ℕ). take_many k o words) (more-left i n less)) ∙ h

abbrev refused : Wish → Reading
refused wish = Err wish

-- one is refused
pub take-none : (i n : ℕ) (o : Options) (wish : Wish) (words : List (List ℕ)) (whole : Reading) → i < n
    → take_one o words ≡ refused wish → take_many (n - i) o words ≡ whole → whole ≡ refused wish
take-none i n o wish words whole less one h =
    sym h ∙ ap (λ (k : ℕ). take_many k o words) (more-left i n less) ∙ ap (λ (r : Reading). then_more r (take_many (n - (i + 1)))) one

pub read-none : (i n : ℕ) (o : Options) (wish : Wish) (words left : List (List ℕ)) (whole : Reading) (r : Result Options Wish) → i < n
    → IsErrAnd r (λ w. w ≡ wish) → take_one o words ≡ refused wish → take_many (n - i) o words ≡ whole → IsReading whole r left
read-none i n o wish words left whole (Ok next) less is one h = absurd is
read-none i n o wish words left whole (Err w) less is one h = take-none i n o wish words whole less one h ∙ ap refused (sym is)

-- none is left
pub take-all : (i n : ℕ) (o : Options) (words : List (List ℕ)) (whole : Reading) → n ≤ i → take_many (n - i) o words ≡ whole → whole ≡ Ok (o, words)
take-all i n o words whole over h = sym h ∙ ap (λ (k : ℕ). take_many k o words) (let none : n - i ≡ 0 = omega (arith, over) in none)
