-- Which schemes never find a checkpoint of an older form.
use Rattle.std.proofs.Common.{◌≡◌, ℕ, ◌<◌, ◌==◌, ◌&&◌, Bool, true, false, if◌then◌else◌, refl, sym, ◌∙◌, ap, arith}
use Rattle.std.proofs.lemmas.Bool.{ne_eqb}
use Rattle.thy_block.specs.declared.block.Block.{Block}
use Rattle.thy_block.specs.declared.parameters.Parameters.{Parameters}
use Rattle.thy_block.specs.Words.{word_of}
use Rattle.thy_layout.specs.declared.layout_version.LayoutVersion.TheVariants.{VersionOne, VersionTwo}
use Rattle.thy_layout.specs.Commit.{commit_magic, version_of}
use Rattle.thy_layout.specs.Header.{last_word, knows_version_one}
use Rattle.thy_checkpoint.specs.declared.boot_stage.Stage.{Stage}
use Rattle.thy_checkpoint.specs.declared.boot_stage.Stage.TheVariants.{Migrates}
use Rattle.thy_checkpoint.specs.Filling.{FillingOf, layout_at}
use Rattle.thy_computer.specs.declared.round.Round.TheVariants.{Write}
use Rattle.thy_computer.specs.Round.{round_left}
use Rattle.thy_checkpoint.specs.Laws.{NumberedCountNone, NumberedNeverMigrate}
use Rattle.thy_checkpoint.specs.Shows.{migrates_at}
use Rattle.thy_checkpoint.specs.Sound.{IsSoundAt}

by_word : (word : Bool) → (if word && false then VersionOne else VersionTwo) ≡ VersionOne → ⊥
by_word true h = cc
by_word false h = cc

unknown : (scheme : ℕ) (p : Parameters) → 0 < scheme → knows_version_one scheme p ≡ false
unknown scheme p some = ne_eqb (last_word scheme p) 0 (λ e. omega (arith, e, some))

-- version 1 has scheme 0 alone
pub never_older : (scheme : ℕ) (p : Parameters) (commit : Block) → 0 < scheme → version_of scheme p commit ≡ VersionOne → ⊥
never_older scheme p commit some is =
    by_word (word_of commit 0 == commit_magic VersionOne)
    (ap (λ (known : Bool). if word_of commit 0 == commit_magic VersionOne && known then VersionOne else VersionTwo)
    (sym (unknown scheme p some)) ∙ is)

pub numbered_never_migrate : {C : Type 0} (F : FillingOf C) → NumberedNeverMigrate F
numbered_never_migrate F o g n b c some sound = by_stage b.stage sound.so_far where
  by_stage : (q : Stage) → IsSoundAt F o q g n b c → migrates_at q ≡ false
  by_stage (Migrates r) far = absurd (never_older (layout_at F b.p).scheme b.p b.commit (some b.p) far.version)
  by_stage q far = refl

pub numbered_count_none : {C : Type 0} (F : FillingOf C) → NumberedCountNone F
numbered_count_none F p some =
    ap (λ (known : Bool). if known then round_left (layout_at F p).most_slot (Write 0) else 0) (unknown (layout_at F p).scheme p some)
