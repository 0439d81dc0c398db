-- A header without a fault is of one scheme and of one geometry: its last word tells the scheme and the harts.
use Rattle.std.proofs.Common.{◌≡◌, ℕ, ◌<◌, ◌==◌, ◌&&◌, Bool, true, false, if◌then◌else◌, List, Some, None, refl, sym, ◌∙◌, subst, arith}
use Rattle.std.proofs.lemmas.Bool.{and_parts, eqb-true}
use Rattle.thy_block.specs.declared.block.Block.{Block}
use Rattle.thy_block.specs.declared.parameters.Parameters.{Parameters}
use Rattle.thy_block.specs.declared.parameters.SchemeName.{SchemeName}
use Rattle.thy_block.specs.declared.parameters.SchemeName.TheVariants.{Thynvm, Journal, Shadow}
use Rattle.thy_block.specs.Device.{block_at}
use Rattle.thy_block.specs.Words.{word_of}
use Rattle.thy_isa.specs.Step.{State}
use Rattle.thy_layout.specs.declared.bad_image.BadImage.TheVariants.{Header, Version, Geometry}
use Rattle.thy_layout.specs.Decoded.{At}
use Rattle.thy_layout.specs.Files.{blocks_of}
use Rattle.thy_layout.specs.Header.{header_magic, last_word, is_of_version, is_of_geometry, header_fault}
use Rattle.thy_layout.specs.Layout.{Layout, is_sized}
use Rattle.thy_layout.proofs.LayoutLemmas.{decoded_parts}
use Rattle.thy_outcome.specs.Meaning.{layouts_by_scheme, own_layout, decode_of, decode_bytes}
use Rattle.thy_outcome.specs.Own.{AreAlike}
use Rattle.thy_outcome.proofs.LawLemmas.{are_by_scheme, blocks_mean}

-- ---- what a header tells

abbrev number_of : SchemeName → Parameters → ℕ
number_of a p = (layouts_by_scheme a p).scheme

number_below : (a : SchemeName) (p : Parameters) → number_of a p < 3
number_below Thynvm p = omega arith
number_below Journal p = omega arith
number_below Shadow p = omega arith

same_scheme : (a b : SchemeName) (p q : Parameters) → number_of a p ≡ number_of b q → a ≡ b
same_scheme Thynvm Thynvm p q h = refl
same_scheme Thynvm Journal p q h = absurd (omega (arith, h))
same_scheme Thynvm Shadow p q h = absurd (omega (arith, h))
same_scheme Journal Thynvm p q h = absurd (omega (arith, h))
same_scheme Journal Journal p q h = refl
same_scheme Journal Shadow p q h = absurd (omega (arith, h))
same_scheme Shadow Thynvm p q h = absurd (omega (arith, h))
same_scheme Shadow Journal p q h = absurd (omega (arith, h))
same_scheme Shadow Shadow p q h = refl

record HasNumberOf (number : ℕ) (p : Parameters) (b : Block) : Type 0 where
  base : word_of b 2 ≡ p.base
  pages : word_of b 3 ≡ p.pages
  console : word_of b 4 ≡ p.console
  btt : word_of b 5 ≡ p.btt
  ptt : word_of b 6 ≡ p.ptt
  last : word_of b 7 ≡ last_word number p

three_parts : (a b c : Bool) → (a && b && c) ≡ true → (a ≡ true) × (b ≡ true) × (c ≡ true)
three_parts a b c h =
    let outer = and_parts (a && b) c h in
    let inner = and_parts a b outer.0 in
    (inner.0, inner.1, outer.1)

of_geometry : (number : ℕ) (p : Parameters) (b : Block) → is_of_geometry number b p ≡ true → HasNumberOf number p b
of_geometry number p b h =
    let parts = and_parts (word_of b 2 == p.base && word_of b 3 == p.pages && word_of b 4 == p.console)
    (word_of b 5 == p.btt && word_of b 6 == p.ptt && word_of b 7 == last_word number p) h in
    let sizes = three_parts (word_of b 2 == p.base) (word_of b 3 == p.pages) (word_of b 4 == p.console) parts.0 in
    let rest = three_parts (word_of b 5 == p.btt) (word_of b 6 == p.ptt) (word_of b 7 == last_word number p) parts.1 in
    record {
      base = eqb-true _ _ sizes.0;
      pages = eqb-true _ _ sizes.1;
      console = eqb-true _ _ sizes.2;
      btt = eqb-true _ _ rest.0;
      ptt = eqb-true _ _ rest.1;
      last = eqb-true _ _ rest.2;
    }

geometry_asks : (a b c long : Bool)
    → (if a then (if b then (if c && long then None else Some Geometry) else Some Version) else Some Header) ≡ None → c ≡ true
geometry_asks true true true long h = refl
geometry_asks true true false long h = cc
geometry_asks true false c long h = cc
geometry_asks false b c long h = cc

means_mark : (number : ℕ) (p : Parameters) (b : Block) (long : Bool) → header_fault number b p long ≡ None → HasNumberOf number p b
unfolding header_fault
means_mark number p b long h =
    of_geometry number p b
    (geometry_asks (word_of b 0 == header_magic) (is_of_version number p b) (is_of_geometry number b p) long h)

-- one header is of one scheme and one geometry
one_header : (p q : Parameters) (header : Block) → 0 < p.harts → 0 < q.harts
    → HasNumberOf (number_of p.scheme p) p header → HasNumberOf (number_of q.scheme q) q header → AreAlike p q
one_header p q header one other x y =
    let last : last_word (number_of p.scheme p) p ≡ last_word (number_of q.scheme q) q = sym x.last ∙ y.last in
    let low = number_below p.scheme p in
    let high = number_below q.scheme q in
    record {
      scheme = same_scheme p.scheme q.scheme p q (omega (arith, last, low, high));
      harts = omega (arith, last, low, high, one, other);
      base = sym x.base ∙ y.base;
      pages = sym x.pages ∙ y.pages;
      console = sym x.console ∙ y.console;
      btt = sym x.btt ∙ y.btt;
      ptt = sym x.ptt ∙ y.ptt;
    }

-- ---- images and files

-- the header of an image with a checkpoint is of its scheme and geometry
image_has_number : (p : Parameters) (ceiling epoch : ℕ) (image : List Block) (s : State)
    → decode_of p ceiling image ≡ At epoch s → HasNumberOf (number_of p.scheme p) p (block_at image 0)
image_has_number p ceiling epoch image s h =
    let l : Layout = own_layout p in
    subst (λ (q : Parameters). HasNumberOf (number_of p.scheme p) q (block_at image 0)) ((are_by_scheme p.scheme).of p)
    (means_mark l.scheme l.p (block_at image 0) (is_sized l image) (decoded_parts l ceiling image epoch s h).0)

pub image_is_of_one : (p q : Parameters) (low high e f : ℕ) (image : List Block) (s t : State) → 0 < p.harts → 0 < q.harts
    → decode_of p low image ≡ At e s → decode_of q high image ≡ At f t → AreAlike p q
image_is_of_one p q low high e f image s t one other h k =
    one_header p q (block_at image 0) one other (image_has_number p low e image s h) (image_has_number q high f image t k)

pub file_is_of_one : (p q : Parameters) (low high e f : ℕ) (bytes : List ℕ) (s t : State) → 0 < p.harts → 0 < q.harts
    → decode_bytes p low bytes ≡ At e s → decode_bytes q high bytes ≡ At f t → AreAlike p q
file_is_of_one p q low high e f bytes s t one other h k =
    image_is_of_one p q low high e f (blocks_of bytes) s t one other
    (blocks_mean (layouts_by_scheme p.scheme) (are_by_scheme p.scheme) p low bytes e s h)
    (blocks_mean (layouts_by_scheme q.scheme) (are_by_scheme q.scheme) q high bytes f t k)
