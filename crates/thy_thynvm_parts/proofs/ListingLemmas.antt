-- The listing of a checkpoint's tables, entry by entry.
use Rattle.std.proofs.Common.{◌≡◌, ℕ, ◌+◌, ◌<◌, ◌≤◌, List, length, slice_set, Option, Some, None, refl, sym, ◌∙◌, ap, subst, inl, inr, arith}
use Rattle.std.proofs.lemmas.Bool.{cases_eq, cases_lt}
use Rattle.std.proofs.lemmas.List.{length-set, get_or-set_same, get_or-set_other}
use Rattle.thy_block.specs.declared.parameters.Parameters.{Parameters}
use Rattle.thy_block.specs.Store.{page_of}
use Rattle.thy_layout.specs.Entries.{Lists, entry_at}
use Rattle.thy_record.specs.Tables.{Tables, IsTables}
use Rattle.thy_control.specs.State.{State, AreSoundTables}
use Rattle.thy_control.specs.CheckpointTables.{tables0}
use Rattle.thy_control.specs.Boot.{MayListBlock, MayListPage, TablesMayListBlock, TablesMayListPage, with_block, with_page}
use Rattle.thy_thynvm_parts.specs.Listed.{HaveFirst, ListsUpTo, AsListed}

-- a list that has the first entries of another, and none after them, lists no more
lists_first : (xs ys : List (Option ℕ)) (i : ℕ) → ((k : ℕ) → k < i → entry_at ys k ≡ entry_at xs k)
    → ((k : ℕ) → i ≤ k → entry_at ys k ≡ None)
    → (k n : ℕ) → Lists ys k n → Lists xs k n
lists_first xs ys i before behind k n l = elim (cases_lt k i) as (λ _. Lists xs k n) [
  | inl below ↦ record { is = sym (before k below) ∙ l.is }
  | inr above ↦ let both : Some n ≡ None = sym l.is ∙ behind k above in absurd (cc)
]

pub IsTables-first : (p : Parameters) (i j : ℕ) (t u : Tables) → IsTables p t → HaveFirst i j t u → IsTables p u
IsTables-first p i j t u v h = record {
  btt_length = h.btt_length ∙ v.btt_length;
  ptt_length = h.ptt_length ∙ v.ptt_length;
  blocks = λ k b l. v.blocks k b (block k b l);
  pages = λ k n l. v.pages k n (page k n l);
  blocks_once = λ k m b l q. v.blocks_once k m b (block k b l) (block m b q);
  pages_once = λ k m n l q. v.pages_once k m n (page k n l) (page m n q);
  apart = λ k m b l q. v.apart k m b (block k b l) (page m (page_of b) q);
} where
  block : (k n : ℕ) → Lists u.btt k n → Lists t.btt k n
  block k n l = lists_first t.btt u.btt i h.blocks h.no_blocks k n l

  page : (k n : ℕ) → Lists u.ptt k n → Lists t.ptt k n
  page k n l = lists_first t.ptt u.ptt j h.pages h.no_pages k n l

-- one entry more of a list
module _ (xs ys : List (Option ℕ)) (i : ℕ) (before : (k : ℕ) → k < i → entry_at ys k ≡ entry_at xs k)
    (behind : (k : ℕ) → i ≤ k → entry_at ys k ≡ None)
    (n : ℕ) (inside : i < length ys) (is : entry_at xs i ≡ Some n) where
  before_some : (k : ℕ) → k < i + 1 → entry_at (slice_set ys i (Some n)) k ≡ entry_at xs k
  before_some k l = elim (cases_eq k i) as (λ _. entry_at (slice_set ys i (Some n)) k ≡ entry_at xs k) [
    | inl e ↦ subst (λ (m : ℕ). entry_at (slice_set ys i (Some n)) m ≡ entry_at xs m) (sym e) (get_or-set_same ys i (Some n) None inside ∙ sym is)
    | inr ne ↦ get_or-set_other ys i k (Some n) None ne ∙ before k (omega arith)
  ]

  behind_some : (k : ℕ) → i + 1 ≤ k → entry_at (slice_set ys i (Some n)) k ≡ None
  behind_some k l = get_or-set_other ys i k (Some n) None (λ e. absurd (omega arith)) ∙ behind k (omega arith)

module _ (i j : ℕ) (t u : Tables) (h : HaveFirst i j t u) where
  block_more : (b : ℕ) → i < length t.btt → entry_at t.btt i ≡ Some b → HaveFirst (i + 1) j t (with_block i b u)
  block_more b inside is =
      let there : i < length u.btt = omega (arith, inside, h.btt_length) in
      record {
        btt_length = length-set u.btt i (Some b) ∙ h.btt_length;
        ptt_length = h.ptt_length;
        blocks = before_some t.btt u.btt i h.blocks h.no_blocks b there is;
        no_blocks = behind_some t.btt u.btt i h.blocks h.no_blocks b there is;
        pages = h.pages;
        no_pages = h.no_pages;
      }

  page_more : (n : ℕ) → j < length t.ptt → entry_at t.ptt j ≡ Some n → HaveFirst i (j + 1) t (with_page j n u)
  page_more n inside is =
      let there : j < length u.ptt = omega (arith, inside, h.ptt_length) in
      record {
        btt_length = h.btt_length;
        ptt_length = length-set u.ptt j (Some n) ∙ h.ptt_length;
        blocks = h.blocks;
        no_blocks = h.no_blocks;
        pages = before_some t.ptt u.ptt j h.pages h.no_pages n there is;
        no_pages = behind_some t.ptt u.ptt j h.pages h.no_pages n there is;
      }

-- ---- the calls

module _ (p : Parameters) (i j : ℕ) (t : Tables) (c : State) (same : c.p ≡ p) (v : IsTables p t) (l : ListsUpTo i j t c)
    (sound : AreSoundTables c) where
  valid_in : (u : Tables) (k m : ℕ) → HaveFirst k m t u → IsTables c.p u
  valid_in u k m h = subst (λ (q : Parameters). IsTables q u) (sym same) (IsTables-first p k m t u v h)

  pub may_block : TablesMayListBlock → (b : ℕ) → i < p.btt → entry_at t.btt i ≡ Some b → MayListBlock i b c
  may_block law b inside is =
      law i b c sound l.booting (subst (λ (q : Parameters). i < q.btt) (sym same) inside) (l.have.no_blocks i (omega arith))
      (valid_in (with_block i b (tables0 c)) (i + 1) j (block_more i j t (tables0 c) l.have b (omega (arith, inside, v.btt_length)) is))

  pub may_page : TablesMayListPage → (n : ℕ) → j < p.ptt → entry_at t.ptt j ≡ Some n → MayListPage j n c
  may_page law n inside is =
      law j n c sound l.booting (subst (λ (q : Parameters). j < q.ptt) (sym same) inside) (l.have.no_pages j (omega arith))
      (valid_in (with_page j n (tables0 c)) i (j + 1) (page_more i j t (tables0 c) l.have n (omega (arith, inside, v.ptt_length)) is))

-- if none was gone through, and over one call after another
pub AsListed-start : (i j : ℕ) (t : Tables) (c : State) → ListsUpTo i j t c → AsListed i j t c c
AsListed-start i j t c l = record { lists = l; same = refl }

pub AsListed-on : (i j k m : ℕ) (t : Tables) (c d e : State) → AsListed i j t c d → AsListed k m t d e → AsListed k m t c e
AsListed-on i j k m t c d e first second = record {
  lists = second.lists;
  same = ap (λ (x : State). record x { btt = c.btt; ptt = c.ptt }) second.same ∙ first.same;
}

pub same_p-listed : (i j : ℕ) (t : Tables) (c d : State) → AsListed i j t c d → d.p ≡ c.p
same_p-listed i j t c d l = ap (λ (x : State). x.p) l.same
