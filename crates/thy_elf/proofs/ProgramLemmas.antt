-- Draws, one after another, and how long programs are.
use Rattle.std.proofs.Common.{◌≡◌, ℕ, zero, suc, ◌+◌, ◌-◌, ◌*◌, ◌<◌, List, [], ◌∷◌, ◌++◌, length, map, slice_get, Some, refl, sym, ◌∙◌, ap, arith, length-append}
use Rattle.std.proofs.lemmas.List.{append_assoc, append-nil, map-append, length-map}
use Rattle.std.specs.List.{flat_map}
use Rattle.thy_block.specs.Lcg.{lcg_next, lcg_draw}
use Rattle.thy_isa.specs.declared.instr.Instr.{Instr}
use Rattle.thy_isa.specs.declared.instr.Instr.TheVariants.{Jal}
use Rattle.thy_elf.specs.Encode.{encoded}
use Rattle.thy_elf.specs.MadeProgram.{draws, minus, store_of, opening, closing, made_program, made_words}

-- the draws that are left: the first one, and the ones after it
draws-more : (k i state : ℕ) → i < k
    → draws (k - i) state ≡ lcg_draw (lcg_next state) ∷ draws (k - (i + 1)) (lcg_next state)
unfolding draws
draws-more k i state l =
    let e : k - i ≡ suc (k - (i + 1)) = omega arith in
    ap (λ j. draws j state) e

-- no draws are left once all were made
draws-none : (k state : ℕ) → draws (k - k) state ≡ []
unfolding draws
draws-none k state =
    let e : k - k ≡ 0 = omega arith in
    ap (λ j. draws j state) e

-- the words of a store go in front of those that are to come
stored : (words : List ℕ) (r : ℕ) (rest : List ℕ)
    → words ++ map encoded (flat_map store_of (r ∷ rest)) ≡ (words ++ map encoded (store_of r)) ++ map encoded (flat_map store_of rest)
stored words r rest =
    ap (λ ws. words ++ ws) (map-append encoded (store_of r) (flat_map store_of rest))
    ∙ sym (append_assoc words (map encoded (store_of r)) (map encoded (flat_map store_of rest)))

-- all words of a program stay the same if the words of the next draw are added to those that are there
pub all_stay : (k i state next r : ℕ) (words more all : List ℕ) (added : List Instr) → i < k
    → next ≡ lcg_next state → r ≡ lcg_draw next → added ≡ store_of r → more ≡ words ++ map encoded added
    → words ++ map encoded (flat_map store_of (draws (k - i) state)) ≡ all
    → more ++ map encoded (flat_map store_of (draws (k - (i + 1)) next)) ≡ all
all_stay k i state next r words more all added l n d s m h =
    let drawn = lcg_draw (lcg_next state) in
    let rest = draws (k - (i + 1)) (lcg_next state) in
    let first : draws (k - i) state ≡ drawn ∷ rest = draws-more k i state l in
    let e : words ++ map encoded (flat_map store_of (drawn ∷ rest)) ≡ all =
    ap (λ rs. words ++ map encoded (flat_map store_of rs)) (sym first) ∙ h in
    rw (m, s, d, n) (sym (stored words drawn rest) ∙ e)

-- all words of a program are there if no draw is left
pub all_are_there : (k i state : ℕ) (words all : List ℕ) → i ≡ k
    → words ++ map encoded (flat_map store_of (draws (k - i) state)) ≡ all → words ≡ all
all_are_there k i state words all e h =
    let none : draws (k - i) state ≡ [] = ap (λ j. draws (k - j) state) e ∙ draws-none k state in
    sym (append-nil words) ∙ ap (λ rs. words ++ map encoded (flat_map store_of rs)) (sym none) ∙ h

-- how many draws there are
length-draws : (k state : ℕ) → length (draws k state) ≡ k
unfolding draws
length-draws zero state = refl
length-draws (suc k) state = let e = length-draws k (lcg_next state) in omega (arith, e)

-- each draw of a store makes three instructions
length-stores : (rs : List ℕ) → length (flat_map store_of rs) ≡ 3 * length rs
length-stores [] = refl
length-stores (r ∷ rs) = let e = length-stores rs in omega (arith, e)

pub length-made_program : (n : ℕ) → length (made_program n) ≡ 6007
unfolding made_program
length-made_program n =
    let drawn = length-draws 2000 n in
    let stores = length-stores (draws 2000 n) in
    let rest = length-append (flat_map store_of (draws 2000 n)) closing in
    omega (arith, drawn, stores, rest)

-- an element after a list is one of the list that follows
slice_get-behind : {A : Type 0} (xs ys : List A) (n i : ℕ) → n ≡ length xs + i → slice_get (xs ++ ys) n ≡ slice_get ys i
slice_get-behind [] ys n i e = let same : n ≡ i = omega (arith, e) in ap (λ k. slice_get ys k) same
slice_get-behind (x ∷ xs) ys zero i e = absurd (omega (arith, e))
slice_get-behind (x ∷ xs) ys (suc n) i e = slice_get-behind xs ys n i (omega (arith, e))

-- the jump stands after the opening, the stores and two more instructions
pub loops : (n : ℕ) → slice_get (made_program n) 6003 ≡ Some (Jal 0 (minus (4 * (6003 - length opening))))
unfolding made_program
loops n =
    let stores : List Instr = flat_map store_of (draws 2000 n) in
    let drawn = length-draws 2000 n in
    let many = length-stores (draws 2000 n) in
    slice_get-behind opening (stores ++ closing) 6003 6002 refl ∙ slice_get-behind stores closing 6002 2 (omega (arith, drawn, many))

pub length-made_words : (n : ℕ) → length (made_words n) ≡ 6007
length-made_words n = length-map (made_program n) encoded ∙ length-made_program n

-- the words of the parts of a program, one after the other
made_words-parts : (n : ℕ)
    → made_words n ≡ (map encoded opening ++ map encoded (flat_map store_of (draws 2000 n))) ++ map encoded closing
unfolding made_program
made_words-parts n =
    let stores = flat_map store_of (draws 2000 n) in
    map-append encoded opening (stores ++ closing)
    ∙ ap (λ ws. map encoded opening ++ ws) (map-append encoded stores closing)
    ∙ sym (append_assoc (map encoded opening) (map encoded stores) (map encoded closing))

-- the words of the parts of a program, as they are added, are the program's words
pub words_joined : (n : ℕ) (start one two three : List ℕ) (first last : List Instr)
    → first ≡ opening → last ≡ closing → start ≡ []
    → one ≡ start ++ map encoded first
    → two ≡ one ++ map encoded (flat_map store_of (draws 2000 n))
    → three ≡ two ++ map encoded last
    → three ≡ made_words n
words_joined n start one two three first last f l p q r t =
    rw (t, r, q, p, f, l) (sym (made_words-parts n))
