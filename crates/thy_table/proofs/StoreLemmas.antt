-- What is known where a rule of a store applies, and that it leaves the entries sound.
use Rattle.std.proofs.Common.{◌≡◌, ◌≢◌, Bool, true, false, refl, sym, ◌∙◌}
use Rattle.thy_table.specs.declared.page_entry.PttEntry.{PttEntry}
use Rattle.thy_table.specs.declared.block_entry.Version.{Version}
use Rattle.thy_table.specs.declared.block_entry.Version.TheVariants.{Out, Alt}
use Rattle.thy_table.specs.declared.block_entry.Pending.{Pending}
use Rattle.thy_table.specs.declared.block_entry.Pending.TheVariants.{Settled, FromBuffer, FromAlternate}
use Rattle.thy_table.specs.declared.block_entry.Working.{Working}
use Rattle.thy_table.specs.declared.block_entry.Working.TheVariants.{NoWork, InNvm, InBuffer}
use Rattle.thy_table.specs.declared.cell.Cell.{Cell}
use Rattle.thy_table.specs.declared.cell.StoreRule.{StoreRule}
use Rattle.thy_table.specs.declared.cell.StoreRule.TheVariants.{ToFrame, ToBuffer, ToNvm, PendingFirst}
use Rattle.thy_table.specs.PageEntry.{is_framed}
use Rattle.thy_table.specs.Cells.{agree}
use Rattle.thy_table.specs.Sound.{IsSoundPage, IsSoundCell, IsWhole}
use Rattle.thy_table.specs.Rules.{into_buffer, rule_of, store_rule, after_store}

-- two versions agree exactly if they are one
agree_same : (v w : Version) → agree v w ≡ true → v ≡ w
agree_same Out Out e = refl
agree_same Alt Alt e = refl
agree_same Out Alt e = cc
agree_same Alt Out e = cc

-- what is known if a rule applies
abbrev Facts : StoreRule → Bool → Bool → Working → Bool → Pending → Type 0
Facts ToFrame framed busy w agrees pend = (framed ≡ true) × (busy ≡ false) × (w ≡ NoWork)
Facts ToBuffer framed busy w agrees pend = (pend ≢ FromBuffer) × (framed ≡ true → busy ≡ false → w ≢ NoWork)
Facts ToNvm framed busy w agrees pend = (framed ≡ false) × (agrees ≡ true) × (w ≢ InBuffer)
Facts PendingFirst framed busy w agrees pend = pend ≡ FromBuffer

facts_of_buffer : (framed busy : Bool) (w : Working) (agrees : Bool) (pend : Pending) → (framed ≡ true → busy ≡ false → w ≢ NoWork)
    → Facts (into_buffer pend) framed busy w agrees pend
facts_of_buffer framed busy w agrees Settled n = (λ e. cc, n)
facts_of_buffer framed busy w agrees FromAlternate n = (λ e. cc, n)
facts_of_buffer framed busy w agrees FromBuffer n = refl

facts_of : (framed busy : Bool) (w : Working) (agrees : Bool) (pend : Pending)
    → Facts (rule_of framed busy w agrees pend) framed busy w agrees pend
facts_of true false NoWork agrees pend = (refl, refl, refl)
facts_of true false InNvm agrees pend = facts_of_buffer true false InNvm agrees pend (λ a b e. cc)
facts_of true false InBuffer agrees pend = facts_of_buffer true false InBuffer agrees pend (λ a b e. cc)
facts_of true true w agrees pend = facts_of_buffer true true w agrees pend (λ a b e. cc)
facts_of false busy InBuffer agrees pend = facts_of_buffer false busy InBuffer agrees pend (λ a b e. cc)
facts_of false busy NoWork true pend = (refl, refl, λ e. cc)
facts_of false busy InNvm true pend = (refl, refl, λ e. cc)
facts_of false busy NoWork false pend = facts_of_buffer false busy NoWork false pend (λ a b e. cc)
facts_of false busy InNvm false pend = facts_of_buffer false busy InNvm false pend (λ a b e. cc)

-- a page's entry stays sound where only its dirty bit changes
pub IsSoundPage-dirty : (u d : Bool) (page : PttEntry) → IsSoundPage u page → IsSoundPage u (record page { dirty = d })
IsSoundPage-dirty u d page s = record {
  filled = s.filled;
  issued = s.issued;
  bare_place = s.bare_place;
  bare_target = s.bare_target;
  bare_empty = s.bare_empty;
  fresh_place = s.fresh_place;
  fresh_target = s.fresh_target;
  one_place = s.one_place;
  busy_moves = s.busy_moves;
  busy_unwritten = s.busy_unwritten;
  freed_written = s.freed_written;
  still_unissued = s.still_unissued;
  leaving_busy = s.leaving_busy;
  leaving_home = s.leaving_home;
}

pub IsSoundCell-dirty : (u d : Bool) (c : Cell) → IsSoundCell u c → IsSoundCell u (record c { page = record c.page { dirty = d } })
IsSoundCell-dirty u d c s = record {
  of_page = IsSoundPage-dirty u d c.page s.of_page;
  apart0 = s.apart0;
  apart1 = s.apart1;
  one = s.one;
  in_nvm_free = s.in_nvm_free;
  in_nvm_bare = s.in_nvm_bare;
  pending_moves = s.pending_moves;
  pending_home = s.pending_home;
  pending_still = s.pending_still;
  one_buffer = s.one_buffer;
  fresh_idle = s.fresh_idle;
  framed_out = s.framed_out;
}

sound-work : (u : Bool) (c : Cell) (w : Working) → IsSoundCell u c
    → (w ≡ InNvm → c.entry.v0 ≡ c.entry.v1) → (w ≡ InNvm → is_framed c.page ≡ false)
    → (c.entry.pend ≡ FromBuffer → w ≢ InBuffer) → (c.page.fresh ≡ true → w ≡ NoWork)
    → IsSoundCell u (record c { entry = record c.entry { work = w } })
sound-work u c w s free bare one idle = record {
  of_page = s.of_page;
  apart0 = s.apart0;
  apart1 = s.apart1;
  one = s.one;
  in_nvm_free = free;
  in_nvm_bare = bare;
  pending_moves = s.pending_moves;
  pending_home = s.pending_home;
  pending_still = s.pending_still;
  one_buffer = one;
  fresh_idle = idle;
  framed_out = s.framed_out;
}

pub IsSoundCell-after_copy : (u : Bool) (c : Cell) → IsSoundCell u c → IsSoundCell u (after_store PendingFirst c)
IsSoundCell-after_copy u c s = record {
  of_page = s.of_page;
  apart0 = s.apart0;
  apart1 = s.apart1;
  one = s.one;
  in_nvm_free = s.in_nvm_free;
  in_nvm_bare = s.in_nvm_bare;
  pending_moves = λ n. absurd (n refl);
  pending_home = λ n. absurd (n refl);
  pending_still = λ n. absurd (n refl);
  one_buffer = λ e. cc;
  fresh_idle = s.fresh_idle;
  framed_out = s.framed_out;
}

-- a page that was promoted and is whole takes a store into its frame
fresh_takes : (u : Bool) (c : Cell) → IsSoundCell u c → IsWhole c.page
    → (is_framed c.page ≡ true → c.page.busy ≡ false → c.entry.work ≢ NoWork) → c.page.fresh ≡ true → ⊥
fresh_takes u c s whole n fresh =
    let idle : c.entry.work ≡ NoWork = s.fresh_idle fresh in
    let busy : c.page.busy ≡ true → ⊥ = λ b. s.of_page.busy_moves b (s.of_page.fresh_place fresh ∙ sym (s.of_page.fresh_target fresh)) in
    by_cases (is_framed c.page) c.page.busy
    (λ framed not_busy. n framed not_busy idle)
    (λ bare. let e : c.page.fresh ≡ false = whole.framed bare in cc)
    busy
  where
    by_cases : (framed busy : Bool) → (framed ≡ true → busy ≡ false → ⊥) → (framed ≡ false → ⊥) → (busy ≡ true → ⊥) → ⊥
    by_cases true false f g h = f refl refl
    by_cases true true f g h = h refl
    by_cases false busy f g h = g refl

sound-rule : (u : Bool) (c : Cell) (rule : StoreRule) → IsSoundCell u c → IsWhole c.page
    → Facts rule (is_framed c.page) c.page.busy c.entry.work (agree c.entry.v0 c.entry.v1) c.entry.pend
    → IsSoundCell u (after_store rule c)
sound-rule u c ToFrame s whole f = IsSoundCell-dirty u true c s
sound-rule u c ToBuffer s whole f =
    sound-work u c InBuffer s (λ e. cc) (λ e. cc) (λ e b. f.0 e) (λ fresh. absurd (fresh_takes u c s whole f.1 fresh))
sound-rule u c ToNvm s whole f =
    sound-work u c InNvm s (λ e. agree_same c.entry.v0 c.entry.v1 f.1) (λ e. f.0) (λ e b. cc)
    (λ fresh. let e : c.page.fresh ≡ false = whole.framed f.0 in cc)
sound-rule u c PendingFirst s whole f = IsSoundCell-after_copy u c s

-- a store leaves the entries sound
pub IsSoundCell-after_store : (u : Bool) (c : Cell) → IsSoundCell u c → IsWhole c.page → IsSoundCell u (after_store (store_rule c) c)
IsSoundCell-after_store u c s whole =
    sound-rule u c (store_rule c) s whole
    (facts_of (is_framed c.page) c.page.busy c.entry.work (agree c.entry.v0 c.entry.v1) c.entry.pend)
