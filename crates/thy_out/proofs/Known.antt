-- What a writer of std holds, as what a sink has taken.
use Rattle.std.proofs.Common.{◌≡◌, ℕ, ◌+◌, ◌<◌, ◌≤◌, Result, Ok, Err, OnOk, OnErr, IfSome, length-append, refl, List, [], ◌++◌, take, drop, length, ◌-◌, arith, Option, Some, None, ap, subst, sym, ◌∙◌, append_assoc}
use Rattle.std.proofs.Math.Seq.{take-add}
use Rattle.std.proofs.lemmas.List.{take_rest, append-nil}
use Rattle.std.proofs.lemmas.Option.{none-some}
use Rattle.std.specs.Io.KnownBytes.{Keeps, Appends, Consumes}
use Rattle.thy_block.specs.Device.{CountsOneFault}
use Rattle.thy_block.specs.Outside.{Stream, Grew, Took, TookPart, Fetched}
use Rattle.thy_block.specs.declared.outside.FetchError.TheVariants.{TooLong}
use Rattle.thy_out.specs.Spring.{LosesAtMost}

-- known bytes with more after them
pub Appends-shown : (b c : Option (List ℕ)) (known more : List ℕ) → b ≡ Some known → Appends b c more → c ≡ Some (known ++ more)
Appends-shown None c known more shown h = cc
Appends-shown (Some x) None known more shown h = absurd h
Appends-shown (Some x) (Some y) known more shown h = cc

-- known bytes that stay
pub Keeps-shown : (b c : Option (List ℕ)) (known : List ℕ) → b ≡ Some known → Keeps b c → c ≡ Some known
Keeps-shown None c known shown h = cc
Keeps-shown (Some x) None known shown h = absurd h
Keeps-shown (Some x) (Some y) known shown h = cc

-- some bytes came, then more
pub Grew-appends : (a b c : Option (List ℕ)) (some more : List ℕ) → Grew a b some → Appends b c more → Grew a c (some ++ more)
Grew-appends a b c some more grew h = λ had e.
    Appends-shown b c (had ++ some) more (grew had e) h ∙ ap Some (append_assoc had some more)

-- some bytes came, then none
pub Grew-keeps : (a b c : Option (List ℕ)) (some : List ℕ) → Grew a b some → Keeps b c → Grew a c some
Grew-keeps a b c some grew h = λ had e. Keeps-shown b c (had ++ some) (grew had e) h

-- the first bytes of a piece came, then the first of the rest
pub Grew-take : (a b c : Option (List ℕ)) (piece : List ℕ) (done more sum : ℕ) → sum ≡ done + more → Grew a b (take done piece)
    → Appends b c (take more (take (length piece - done) (drop done piece))) → Grew a c (take sum piece)
Grew-take a b c piece done more sum e grew h =
    let all : take sum piece ≡ take done piece ++ take more (drop done piece) = ap (λ n. take n piece) e ∙ take-add done more piece in
    let come : Appends b c (take more (drop done piece)) = subst (λ (bytes : List ℕ). Appends b c (take more bytes)) (take_rest piece done) h in
    subst (λ (bytes : List ℕ). Grew a c bytes) (sym all) (Grew-appends a b c (take done piece) (take more (drop done piece)) grew come)

-- more bytes were read than the limit
pub Consumes-long : (old new : Option (List ℕ)) (bytes : List ℕ) (limit : ℕ) → Consumes old new bytes → limit < length bytes
    → IfSome old (λ there. Fetched (Some there) limit (Err TooLong))
Consumes-long None new bytes limit read long = tt
Consumes-long (Some there) None bytes limit read long = absurd read
Consumes-long (Some there) (Some left) bytes limit read long =
    (there, refl, omega (arith, ap length read, length-append bytes left))

-- some bytes were read, then more
pub Consumes-append : (a b c : Option (List ℕ)) (some more : List ℕ) → Consumes a b some → Consumes b c more → Consumes a c (some ++ more)
Consumes-append None b c some more one two = tt
Consumes-append (Some x) None c some more one two = absurd one
Consumes-append (Some x) (Some y) None some more one two = absurd two
Consumes-append (Some x) (Some y) (Some z) some more one two =
    one ∙ ap (λ l. some ++ l) two ∙ sym (append_assoc some more z)

-- some bytes were read, then none
Consumes-keeps : (a b c : Option (List ℕ)) (some : List ℕ) → Consumes a b some → Keeps b c → Consumes a c some
Consumes-keeps None b c some one two = tt
Consumes-keeps (Some x) None c some one two = absurd one
Consumes-keeps (Some x) (Some y) None some one two = absurd two
Consumes-keeps (Some x) (Some y) (Some z) some one two = one ∙ ap (λ l. some ++ l) (sym two)

-- two reads take at most n bytes, if their numbers add up to at most n
pub LosesAtMost-append : (n : ℕ) (a b c : Option (List ℕ)) (some more : List ℕ) → Consumes a b some → Consumes b c more
    → length some + length more ≤ n → LosesAtMost n a c
LosesAtMost-append n a b c some more one two few =
    record { bytes = some ++ more; read = Consumes-append a b c some more one two; few = omega (arith, length-append some more) }

pub LosesAtMost-keeps : (n : ℕ) (a b c : Option (List ℕ)) (some : List ℕ) → Consumes a b some → Keeps b c → length some ≤ n
    → LosesAtMost n a c
LosesAtMost-keeps n a b c some one two few = record { bytes = some; read = Consumes-keeps a b c some one two; few = few }

-- bytes that are the same stay
pub Keeps-same : (b c : Option (List ℕ)) → c ≡ b → Keeps b c
Keeps-same None c e = tt
Keeps-same (Some x) None e = absurd (none-some x e)
Keeps-same (Some x) (Some y) e = cc

-- a sink took all of these bytes, and what was asked of it then did not fail
pub Took-behind : {E : Type 0} (last : Result Unit E) (a b c : Stream) (bytes : List ℕ) → Took a b bytes → Keeps b.taken c.taken
    → CountsOneFault last b.faults c.faults → OnOk last (Took a c bytes)
Took-behind (Ok done) a b c bytes took keeps count =
    record { taken = Grew-keeps a.taken b.taken c.taken bytes took.taken keeps; faults = cc }
Took-behind (Err e) a b c bytes took keeps count = tt

-- a sink took all of these bytes, and what was asked of it then failed or did not
pub TookPart-behind : {E : Type 0} (last : Result Unit E) (a b c : Stream) (bytes : List ℕ) → Took a b bytes → Keeps b.taken c.taken
    → CountsOneFault last b.faults c.faults → OnErr last (TookPart a c bytes)
TookPart-behind (Ok done) a b c bytes took keeps count = tt
TookPart-behind (Err e) a b c bytes took keeps count = record {
  part = bytes;
  rest = [];
  split = sym (append-nil bytes);
  taken = Grew-keeps a.taken b.taken c.taken bytes took.taken keeps;
  rose = record { no_less = omega (arith, took.faults, count.no_less); more = omega (arith, took.faults, count.more) };
}
