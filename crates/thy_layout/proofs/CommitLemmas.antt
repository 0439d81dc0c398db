-- A commit block without a fault is the stated one of its name and epoch, and two in a row differ in one word.
use Rattle.std.proofs.Common.{◌≡◌, ◌≢◌, ℕ, zero, suc, true, ◌⊎◌, nat_lt, List, slice_index, None, inl, inr, refl, sym, ◌∙◌, ap, subst}
use Rattle.std.proofs.lemmas.Slice.Eq.{bytes_eq-Decides}
use Rattle.thy_block.specs.declared.block.Block.{Block}
use Rattle.thy_block.specs.Device.{IsOneWordApart, zero_block, block_at}
use Rattle.thy_block.specs.LittleEndian.{number_bytes}
use Rattle.thy_block.specs.Words.{word_of, block_of}
use Rattle.thy_block.proofs.MadeLemmas.{IsOneWordApart-block_of}
use Rattle.thy_layout.specs.Commit.{named_words, named_block, commit_of, commit_magic, is_zero, epoch_of, is_named, has_zero_rest, commit_fault}
use Rattle.thy_layout.specs.declared.layout_version.LayoutVersion.TheVariants.{VersionTwo}
use Rattle.thy_isa.specs.Step.{State}
use Rattle.thy_layout.specs.Decoded.{Nothing, At}
use Rattle.thy_layout.specs.Layout.{Layout, decode_by}
use Rattle.thy_layout.proofs.AskingLemmas.{commit_asks}
use Rattle.thy_layout.proofs.LayoutLemmas.{decode_by-nothing_back, decode_by-whole_back, decoded_parts}

-- blocks of the same bytes are the same
same_block : (a b : Block) → a.0 ≡ b.0 → a ≡ b
same_block a b e = ap (λ (xs : List ℕ). let c : Block = record { 0 = xs } in c) e

-- ---- which block it is

-- a commit block that says that there is no checkpoint is the block of zeros
pub zero-stated : (b : Block) → is_zero b ≡ true → b ≡ zero_block
unfolding is_zero
zero-stated b zeros = same_block b zero_block ((bytes_eq-Decides b.0 zero_block.0).0 zeros)

rest-stated : (b : Block) → has_zero_rest b ≡ true → b ≡ named_block (word_of b 0) (epoch_of b)
unfolding has_zero_rest
rest-stated b rest =
    same_block b (named_block (word_of b 0) (epoch_of b)) ((bytes_eq-Decides b.0 (named_block (word_of b 0) (epoch_of b)).0).0 rest)

-- a commit block without a fault is the stated block of its name and epoch
pub commit-stated : (header b : Block) (ceiling : ℕ) → commit_fault header b ceiling ≡ None → b ≡ named_block (word_of b 0) (epoch_of b)
unfolding commit_fault
commit-stated header b ceiling fits =
    rest-stated b (commit_asks (is_named header b) (nat_lt (epoch_of b) ceiling) (has_zero_rest b) fits).2

-- a commit block of version 2 without a fault is the one that is written
pub commit-written : (header b : Block) (ceiling epoch : ℕ) → commit_fault header b ceiling ≡ None → word_of b 0 ≡ commit_magic VersionTwo
    → epoch_of b ≡ epoch → b ≡ commit_of epoch
commit-written header b ceiling epoch fits name is =
    commit-stated header b ceiling fits
    ∙ ap (λ (n : ℕ). named_block n (epoch_of b)) name
    ∙ ap (named_block (commit_magic VersionTwo)) is

-- ---- two in a row

-- the words of two commit blocks of one name differ in the epoch alone
other_epoch : (name e f i : ℕ) → i ≢ 1 → slice_index (named_words name e) i ≡ slice_index (named_words name f) i
other_epoch name e f zero ne = refl
other_epoch name e f (suc zero) ne = absurd (ne refl)
other_epoch name e f (suc (suc i)) ne = refl

pub one_word-epoch : (name e f : ℕ) → IsOneWordApart (named_block name e) (named_block name f)
one_word-epoch name e f = IsOneWordApart-block_of 1 (named_words name e) (named_words name f) refl (other_epoch name e f)

-- the words of two commit blocks of one epoch differ in the name alone
other_name : (a b epoch i : ℕ) → i ≢ 0 → slice_index (named_words a epoch) i ≡ slice_index (named_words b epoch) i
other_name a b epoch zero ne = absurd (ne refl)
other_name a b epoch (suc i) ne = refl

pub one_word-name : (a b epoch : ℕ) → IsOneWordApart (named_block a epoch) (named_block b epoch)
one_word-name a b epoch = IsOneWordApart-block_of 0 (named_words a epoch) (named_words b epoch) refl (other_name a b epoch)

-- the block of zeros has the name 0 and the epoch 0
zeros-named : zero_block ≡ named_block 0 0
unfolding zero_block block_of number_bytes
zeros-named = refl

-- a first commit block, which has the epoch 0, differs from the block of zeros in the name
pub one_word-first : (name : ℕ) → IsOneWordApart zero_block (named_block name 0)
one_word-first name = subst (λ (b : Block). IsOneWordApart b (named_block name 0)) (sym zeros-named) (one_word-name 0 name 0)

-- ---- of images that decode, by any layout

-- an image that means nothing has a commit block of zeros
pub nothing-stated : (l : Layout) (ceiling : ℕ) (g : List Block) → decode_by l ceiling g ≡ Nothing → block_at g 1 ≡ zero_block
nothing-stated l ceiling g h = zero-stated (block_at g 1) (decode_by-nothing_back l ceiling g h)

-- an image that means a state has the stated block of its name and epoch
pub decoded-stated : (l : Layout) (ceiling : ℕ) (g : List Block) (epoch : ℕ) (s : State) → decode_by l ceiling g ≡ At epoch s
    → block_at g 1 ≡ named_block (word_of (block_at g 1) 0) epoch
decoded-stated l ceiling g epoch s h =
    commit-stated (block_at g 0) (block_at g 1) ceiling (decoded_parts l ceiling g epoch s h).1
    ∙ ap (named_block (word_of (block_at g 1) 0)) (decode_by-whole_back l ceiling g epoch s h).of_epoch

-- the first checkpoint, of epoch 0, takes the place of none by one word
pub one_word-from_nothing : (l : Layout) (ceiling : ℕ) (before next : List Block) (s : State)
    → decode_by l ceiling before ≡ Nothing → decode_by l ceiling next ≡ At 0 s → IsOneWordApart (block_at before 1) (block_at next 1)
one_word-from_nothing l ceiling before next s none there =
    subst (λ (b : Block). IsOneWordApart b (block_at next 1)) (sym (nothing-stated l ceiling before none))
    (subst (IsOneWordApart zero_block) (sym (decoded-stated l ceiling next 0 s there)) (one_word-first (word_of (block_at next 1) 0)))

-- a checkpoint takes another's by one word, if both name one version or are of one epoch
pub one_word-between : (l : Layout) (ceiling : ℕ) (before next : List Block) (e f : ℕ) (s t : State)
    → decode_by l ceiling before ≡ At e s → decode_by l ceiling next ≡ At f t
    → (word_of (block_at before 1) 0 ≡ word_of (block_at next 1) 0) ⊎ (e ≡ f) → IsOneWordApart (block_at before 1) (block_at next 1)
one_word-between l ceiling before next e f s t here there how =
    let a : ℕ = word_of (block_at before 1) 0 in
    let b : ℕ = word_of (block_at next 1) 0 in
    subst (λ (x : Block). IsOneWordApart x (block_at next 1)) (sym (decoded-stated l ceiling before e s here))
    (subst (IsOneWordApart (named_block a e)) (sym (decoded-stated l ceiling next f t there))
    (elim how as (λ _. IsOneWordApart (named_block a e) (named_block b f)) [
      | inl name ↦ subst (λ (x : ℕ). IsOneWordApart (named_block a e) (named_block x f)) name (one_word-epoch a e f)
      | inr epoch ↦ subst (λ (x : ℕ). IsOneWordApart (named_block a e) (named_block b x)) epoch (one_word-name a b e)
    ]))
