-- Parts of a text, one after the other.
use Rattle.std.proofs.Common.{◌≡◌, ℕ, suc, ◌+◌, ◌-◌, ◌<◌, ◌≤◌, List, [], ◌++◌, Result, Ok, Err, OnOk, sym, ◌∙◌, ap, append_assoc, append-nil, arith}
use Rattle.observe.specs.StateText.{rows_from}

-- two parts are added
pub two-parts : (text first second a b : List ℕ) → first ≡ text ++ a → second ≡ first ++ b → second ≡ text ++ (a ++ b)
two-parts text first second a b one more = more ∙ ap (λ (t : List ℕ). t ++ b) one ∙ append_assoc text a b

-- three
pub three-parts : (text first second third a b c : List ℕ) → first ≡ text ++ a → second ≡ first ++ b → third ≡ second ++ c
    → third ≡ text ++ (a ++ (b ++ c))
three-parts text first second third a b c one two more = two-parts text first third a (b ++ c) one (two-parts first second third b c two more)

-- four
pub four-parts : (text first second third fourth a b c d : List ℕ) → first ≡ text ++ a → second ≡ first ++ b → third ≡ second ++ c
    → fourth ≡ third ++ d → fourth ≡ text ++ (a ++ (b ++ (c ++ d)))
four-parts text first second third fourth a b c d one two three more =
    two-parts text first fourth a (b ++ (c ++ d)) one (three-parts first second third fourth b c d two three more)

-- five
pub five-parts : (text first second third fourth fifth a b c d e : List ℕ) → first ≡ text ++ a → second ≡ first ++ b → third ≡ second ++ c
    → fourth ≡ third ++ d → fifth ≡ fourth ++ e → fifth ≡ text ++ (a ++ (b ++ (c ++ (d ++ e))))
five-parts text first second third fourth fifth a b c d e one two three four more =
    two-parts text first fifth a (b ++ (c ++ (d ++ e))) one
    (two-parts first second fifth b (c ++ (d ++ e)) two (three-parts second third fourth fifth c d e three four more))

-- no part is added
pub no-part : (text : List ℕ) → text ≡ text ++ []
no-part text = sym (append-nil text)

-- the last of two parts is added, if memory is left for it
pub two-parts-if : {T E : Type 0} (r : Result T E) (text first second a b : List ℕ) → first ≡ text ++ a → OnOk r (second ≡ first ++ b)
    → OnOk r (second ≡ text ++ (a ++ b))
two-parts-if (Ok x) text first second a b one more = two-parts text first second a b one more
two-parts-if (Err e) text first second a b one more = tt

-- the last of three
pub three-parts-if : {T E : Type 0} (r : Result T E) (text first second third a b c : List ℕ) → first ≡ text ++ a → second ≡ first ++ b
    → OnOk r (third ≡ second ++ c) → OnOk r (third ≡ text ++ (a ++ (b ++ c)))
three-parts-if (Ok x) text first second third a b c one two more = three-parts text first second third a b c one two more
three-parts-if (Err e) text first second third a b c one two more = tt

-- the last of four
pub four-parts-if : {T E : Type 0} (r : Result T E) (text first second third fourth a b c d : List ℕ) → first ≡ text ++ a
    → second ≡ first ++ b → third ≡ second ++ c → OnOk r (fourth ≡ third ++ d) → OnOk r (fourth ≡ text ++ (a ++ (b ++ (c ++ d))))
four-parts-if (Ok x) text first second third fourth a b c d one two three more = four-parts text first second third fourth a b c d one two three more
four-parts-if (Err e) text first second third fourth a b c d one two three more = tt

-- the last of five
pub five-parts-if : {T E : Type 0} (r : Result T E) (text first second third fourth fifth a b c d e : List ℕ) → first ≡ text ++ a
    → second ≡ first ++ b → third ≡ second ++ c → fourth ≡ third ++ d → OnOk r (fifth ≡ fourth ++ e)
    → OnOk r (fifth ≡ text ++ (a ++ (b ++ (c ++ (d ++ e)))))
five-parts-if (Ok x) text first second third fourth fifth a b c d e one two three four more =
    five-parts text first second third fourth fifth a b c d e one two three four more
five-parts-if (Err x) text first second third fourth fifth a b c d e one two three four more = tt

-- one line more of those that are left
pub rows-more : (row : ℕ → List ℕ) (text next whole : List ℕ) (i n : ℕ) → i < n → next ≡ text ++ row i
    → text ++ rows_from row i (n - i) ≡ whole → next ++ rows_from row (i + 1) (n - (i + 1)) ≡ whole
rows-more row text next whole i n less is h =
    let more : suc (n - (i + 1)) ≡ n - i = omega (arith, less) in
    ap (λ (t : List ℕ). t ++ rows_from row (i + 1) (n - (i + 1))) is
    ∙ append_assoc text (row i) (rows_from row (i + 1) (n - (i + 1)))
    ∙ ap (λ (k : ℕ). text ++ rows_from row i k) more
    ∙ h

-- none is left at the end
pub rows-done : (row : ℕ → List ℕ) (text whole : List ℕ) (i n : ℕ) → n ≤ i → text ++ rows_from row i (n - i) ≡ whole → text ≡ whole
rows-done row text whole i n over h =
    let none : 0 ≡ n - i = omega (arith, over) in
    sym (append-nil text) ∙ ap (λ (k : ℕ). text ++ rows_from row i k) none ∙ h
