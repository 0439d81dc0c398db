-- A header that was written reads back, and has no fault; and what one without a fault asks for.
use Rattle.std.proofs.Common.{◌≡◌, ℕ, ◌^◌, ◌<◌, Bool, true, false, ◌&&◌, ◌||◌, ◌==◌, nat_lt, slice_index, if◌then◌else◌, Some, None, refl, sym, ◌∙◌, ap, subst, arith}
use Rattle.std.proofs.lemmas.Bool.{eq-eqb, eqb-true, and_from}
use Rattle.thy_block.specs.declared.block.Block.{Block}
use Rattle.thy_block.specs.declared.parameters.Parameters.{Parameters}
use Rattle.thy_layout.specs.declared.layout_version.LayoutVersion.TheVariants.{VersionOne, VersionTwo}
use Rattle.thy_block.specs.Geometry.{IsInRange}
use Rattle.thy_layout.specs.declared.bad_image.BadImage.TheVariants.{Header, Version, Geometry}
use Rattle.thy_block.specs.Words.{word_of}
use Rattle.thy_layout.specs.Commit.{commit_magic, epoch_of, version_of, is_named, has_zero_rest, commit_fault}
use Rattle.thy_layout.specs.Header.{header_magic, last_word, knows_version_one, header_words, header_of, is_of_geometry, is_of_version, header_fault}
use Rattle.thy_block.proofs.RangeLemmas.{harts_most}
use Rattle.thy_block.proofs.WordLemmas.{word_of-block_of}
use Rattle.thy_layout.proofs.AskingLemmas.{commit_asks}
use Rattle.thy_layout.proofs.ReadBackLemmas.{taken, three}

module _ (scheme : ℕ) (p : Parameters) where
  header_word : (i w : ℕ) → i < 8 → slice_index (header_words scheme p) i ≡ w → w < 2 ^ 64 → word_of (header_of scheme p) i ≡ w
  header_word i w l is fits = word_of-block_of (header_words scheme p) i l (subst (λ x. x < 2 ^ 64) (sym is) fits) ∙ is

  last_fits : scheme < 256 → IsInRange p → last_word scheme p < 2 ^ 64
  last_fits few r = omega (arith, few, harts_most p r)

  is_of_geometry-header_of : scheme < 256 → IsInRange p → is_of_geometry scheme (header_of scheme p) p ≡ true
  is_of_geometry-header_of few r =
      and_from _ _
      (three _ _ _
      (eq-eqb _ _ (header_word 2 p.base (omega arith) refl (omega arith)))
      (eq-eqb _ _ (header_word 3 p.pages (omega arith) refl (omega arith)))
      (eq-eqb _ _ (header_word 4 p.console (omega arith) refl (omega arith))))
      (three _ _ _
      (eq-eqb _ _ (header_word 5 p.btt (omega arith) refl (omega arith)))
      (eq-eqb _ _ (header_word 6 p.ptt (omega arith) refl (omega arith)))
      (eq-eqb _ _ (header_word 7 (last_word scheme p) (omega arith) refl (last_fits few r))))

  is_of_version-header_of : is_of_version scheme p (header_of scheme p) ≡ true
  is_of_version-header_of =
      ap (λ w. w == 2 || (w == 1 && knows_version_one scheme p)) (header_word 1 2 (omega arith) refl (omega arith))

  -- a header that was written for a geometry has no fault in an image of its length
  pub header_fault-header_of : scheme < 256 → IsInRange p → header_fault scheme (header_of scheme p) p true ≡ None
  unfolding header_fault
  header_fault-header_of few r =
      taken _ _ _ (eq-eqb _ _ (header_word 0 header_magic (omega arith) refl (omega arith)))
      ∙ taken _ _ _ is_of_version-header_of
      ∙ taken _ _ _ (and_from _ _ (is_of_geometry-header_of few r) refl)

-- a header without a fault asks for a file of its length
last_asks : (a b c long : Bool)
    → (if a then (if b then (if c && long then None else Some Geometry) else Some Version) else Some Header) ≡ None → long ≡ true
last_asks true true true true h = refl
last_asks true true true false h = cc
last_asks true true false long h = cc
last_asks true false c long h = cc
last_asks false b c long h = cc

-- if a header has no fault, its image has the length that the geometry asks for
pub header_fault-long : (scheme : ℕ) (b : Block) (p : Parameters) (long : Bool) → header_fault scheme b p long ≡ None → long ≡ true
unfolding header_fault
header_fault-long scheme b p long h =
    last_asks (word_of b 0 == header_magic) (is_of_version scheme p b) (is_of_geometry scheme b p) long h

-- ---- the versions that a header without a fault asks for

version_asks : (a b c long : Bool)
    → (if a then (if b then (if c && long then None else Some Geometry) else Some Version) else Some Header) ≡ None → b ≡ true
version_asks true true c long h = refl
version_asks true false c long h = cc
version_asks false b c long h = cc

-- what is one of two versions is the newer one, if the older isn't known
newer : (new old known : Bool) → known ≡ false → (new || (old && known)) ≡ true → new ≡ true
newer true old known unknown h = refl
newer false old true unknown h = cc
newer false true false unknown h = cc
newer false false false unknown h = cc

-- if version 1 isn't known, a header without a fault is of version 2
version_is : (scheme : ℕ) (p : Parameters) (header : Block) (long : Bool) → knows_version_one scheme p ≡ false
    → header_fault scheme header p long ≡ None → word_of header 1 ≡ 2
unfolding header_fault
version_is scheme p header long unknown fits =
    eqb-true (word_of header 1) 2
    (newer (word_of header 1 == 2) (word_of header 1 == 1) (knows_version_one scheme p) unknown
    (version_asks (word_of header 0 == header_magic) (is_of_version scheme p header) (is_of_geometry scheme header p) long fits))

-- if version 1 isn't known, a commit block without a fault, after a header without one, is of version 2
pub only_version_two : (scheme : ℕ) (p : Parameters) (header commit : Block) (long : Bool) (ceiling : ℕ)
    → knows_version_one scheme p ≡ false → header_fault scheme header p long ≡ None → commit_fault header commit ceiling ≡ None
    → word_of commit 0 ≡ commit_magic VersionTwo
unfolding commit_fault
only_version_two scheme p header commit long ceiling unknown fits accepted =
    let two : word_of header 1 ≡ 2 = version_is scheme p header long unknown fits in
    let asks = commit_asks (is_named header commit) (nat_lt (epoch_of commit) ceiling) (has_zero_rest commit) accepted in
    eqb-true (word_of commit 0) (commit_magic VersionTwo)
    (newer (word_of commit 0 == commit_magic VersionTwo) (word_of commit 0 == commit_magic VersionOne) (word_of header 1 == 1)
    (ap (λ w. w == 1) two) asks.0)

-- if version 1 is known, a block that isn't of it is of version 2
not_one : (one known : Bool) → known ≡ true → (if one && known then VersionOne else VersionTwo) ≡ VersionTwo → one ≡ false
not_one true true k h = cc
not_one true false k h = cc
not_one false known k h = refl

the_other : (two one known : Bool) → one ≡ false → (two || (one && known)) ≡ true → two ≡ true
the_other true one known not h = refl
the_other false true known not h = cc
the_other false false known not h = cc

named_by : (known : Bool) (scheme : ℕ) (p : Parameters) (header commit : Block) (long : Bool) (ceiling : ℕ)
    → knows_version_one scheme p ≡ known
    → header_fault scheme header p long ≡ None → commit_fault header commit ceiling ≡ None → version_of scheme p commit ≡ VersionTwo
    → word_of commit 0 ≡ commit_magic VersionTwo
unfolding commit_fault
named_by false scheme p header commit long ceiling knows fits accepted two = only_version_two scheme p header commit long ceiling knows fits accepted
named_by true scheme p header commit long ceiling knows fits accepted two =
    let asks = commit_asks (is_named header commit) (nat_lt (epoch_of commit) ceiling) (has_zero_rest commit) accepted in
    eqb-true (word_of commit 0) (commit_magic VersionTwo)
    (the_other (word_of commit 0 == commit_magic VersionTwo) (word_of commit 0 == commit_magic VersionOne) (word_of header 1 == 1)
    (not_one (word_of commit 0 == commit_magic VersionOne) (knows_version_one scheme p) knows two) asks.0)

-- under a header without a fault a commit block without one that names version 2 has its name
pub named_two : (scheme : ℕ) (p : Parameters) (header commit : Block) (long : Bool) (ceiling : ℕ)
    → header_fault scheme header p long ≡ None → commit_fault header commit ceiling ≡ None → version_of scheme p commit ≡ VersionTwo
    → word_of commit 0 ≡ commit_magic VersionTwo
named_two scheme p header commit long ceiling fits accepted two =
    named_by (knows_version_one scheme p) scheme p header commit long ceiling refl fits accepted two
