-- Options that are taken out of arguments.
use Rattle.std.proofs.Common.{◌≡◌, ℕ, ◌≤◌, true, false, is_none, List, [], ◌∷◌, map, length, get_or, Option, Some, None, refl, sym, ◌∙◌, ap, subst, arith}
use Rattle.std.proofs.lemmas.Bool.{false≢true}
use Rattle.std.specs.List.{remove}
use Rattle.sweep.specs.declared.asked.Name.{Name}
use Rattle.sweep.specs.Asking.{Takes, TakesFlag, TakesText, Texts, is_flag, option_named, text_given, with_text, LeavesNone}
use Rattle.sweep.specs.Asking.Takes.{OneText, OneFlag}

is_none-none : (o : Option (List ℕ)) → is_none o ≡ true → o ≡ None
is_none-none None e = refl
is_none-none (Some x) e = absurd (false≢true e)

-- a word and the text after it are removed
pub text-taken : {S : Type 0} (f : S → List ℕ) (name : Name) (t u : Texts) (items fewer left : List S) (text : S) → 3 ≤ length items
    → fewer ≡ remove items 1 → text ≡ get_or fewer 1 text → left ≡ remove fewer 1 → is_none (text_given t name) ≡ true
    → u ≡ with_text t name (f text) → TakesText name t (map f items) u (map f left)
text-taken f name t u [] fewer left text many first place gone fresh made = absurd (omega (arith, many))
text-taken f name t u (a ∷ []) fewer left text many first place gone fresh made = absurd (omega (arith, many))
text-taken f name t u (a ∷ b ∷ []) fewer left text many first place gone fresh made = absurd (omega (arith, many))
text-taken {S = S} f name t u (a ∷ b ∷ c ∷ rest) fewer left text many first place gone fresh made = record {
  program = f a;
  word = f b;
  text = f c;
  rest = map f rest;
  was = refl;
  is = ap (map f) (gone ∙ ap (λ (l : List S). remove l 1) first);
  fresh = is_none-none (text_given t name) fresh;
  keeps = made ∙ ap (λ (x : S). with_text t name (f x)) (place ∙ ap (λ (l : List S). get_or l 1 text) first);
}

-- the option at the second place is taken
pub text-more : {S : Type 0} (f : S → List ℕ) (words : List (List ℕ)) (name : Name) (t u : Texts) (items : List S) (left : List (List ℕ)) (word : S)
    → 2 ≤ length items → word ≡ get_or items 1 word → option_named (f word) ≡ Some name → Takes words t (map f items)
    → TakesText name t (map f items) u left → Takes words u left
text-more f words name t u [] left word many is named takes more = absurd (omega (arith, many))
text-more f words name t u (a ∷ []) left word many is named takes more = absurd (omega (arith, many))
text-more {S = S} f words name t u (a ∷ b ∷ rest) left word many is named takes more =
    OneText t u name (f a) (f b) (map f rest) left takes (ap (λ (x : S). option_named (f x)) (sym is) ∙ named) more

pub flag-more : {S : Type 0} (f : S → List ℕ) (words : List (List ℕ)) (t u : Texts) (items : List S) (left : List (List ℕ)) (word : S)
    → 2 ≤ length items → word ≡ get_or items 1 word → is_flag (f word) ≡ true → Takes words t (map f items)
    → TakesFlag t (map f items) u left → Takes words u left
flag-more f words t u [] left word many is named takes more = absurd (omega (arith, many))
flag-more f words t u (a ∷ []) left word many is named takes more = absurd (omega (arith, many))
flag-more {S = S} f words t u (a ∷ b ∷ rest) left word many is named takes more =
    OneFlag t u (f a) (f b) (map f rest) left takes (ap (λ (x : S). is_flag (f x)) (sym is) ∙ named) more

-- the word at the second place is no option
pub none-left : {S : Type 0} (f : S → List ℕ) (items : List S) (word : S) → word ≡ get_or items 1 word → option_named (f word) ≡ None
    → is_flag (f word) ≡ false → LeavesNone (map f items)
none-left f [] word is named flag = tt
none-left f (a ∷ []) word is named flag = tt
none-left {S = S} f (a ∷ b ∷ rest) word is named flag =
    (ap (λ (x : S). option_named (f x)) (sym is) ∙ named, ap (λ (x : S). is_flag (f x)) (sym is) ∙ flag)

-- there is no second word
pub few-left : {S : Type 0} (f : S → List ℕ) (items : List S) → length items ≤ 1 → LeavesNone (map f items)
few-left f [] few = tt
few-left f (a ∷ []) few = tt
few-left f (a ∷ b ∷ rest) few = absurd (omega (arith, few))

-- what is taken is so of the same texts and arguments
pub taken-same : {S : Type 0} (f : S → List ℕ) (words : List (List ℕ)) (t u : Texts) (items others : List S) → u ≡ t → others ≡ items
    → Takes words t (map f items) → Takes words u (map f others)
taken-same {S = S} f words t u items others same is takes =
    subst (λ (x : Texts). Takes words x (map f others)) (sym same) (subst (λ (l : List S). Takes words t (map f l)) (sym is) takes)
