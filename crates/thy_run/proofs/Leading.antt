-- The turns that events report of a checkpoint reach its state, along the run's own turns.
use Rattle.std.proofs.Common.{◌≡◌, ℕ, ◌-◌, ◌≤◌, ◌==◌, ◌&&◌, Bool, true, false, if◌then◌else◌, Option, Some, None, List, [], ◌++◌, length, drop, refl, sym, ◌∙◌, ap, ap₂, subst, inl, inr, arith}
use Rattle.std.proofs.lemmas.Bool.{and_parts, eq-eqb, eqb-true}
use Rattle.std.proofs.lemmas.List.{length-append, length-drop, drop_all, nil_from_length}
use Rattle.thy_block.specs.declared.mark.Mark.{Mark}
use Rattle.thy_block.specs.Marks.{mark}
use Rattle.thy_text.specs.Marks.{Marks, is_mark, turns_of, turns_listed}
use Rattle.thy_computer.specs.declared.view.Phase.{Phase}
use Rattle.thy_computer.specs.declared.view.Phase.TheVariants.{Boot as BootPhase, Run, Halt}
use Rattle.thy_computer.specs.declared.view.View.{View}
use Rattle.thy_computer.specs.Origin.{Origin, at}
use Rattle.thy_computer.specs.WithTurns.{with_turns, AgreeBelow}
use Rattle.thy_computer.proofs.TurnLaws.{AgreeBelow-same, turn_early, joined-agrees, at-agrees}
use Rattle.thy_run.proofs.Fitting.{IsEither}

-- turns reach a count: their number is the one that is reported up to it, and they agree with the run's
pub record LeadsTo (p : Origin) (turns : List ℕ) (count : ℕ) : Type 0 where
  pub late : p.start.count ≤ count
  pub many : length turns ≡ turns_listed p.geometry.harts (count - p.start.count)
  pub agree : AgreeBelow p turns count

-- in a boot, the turns of the checkpoint that it found reach its count; after the boot, the turns of the sealed one do
abbrev pub LeadsIn : Origin → View → Marks → Phase → Type 0
LeadsIn p v m BootPhase = (k : Mark) → v.done ≡ Some k → LeadsTo p (turns_of m k.epoch k.count) k.count
LeadsIn p v m Run = (s : Mark) → m.sealed ≡ Some s → LeadsTo p m.sealed_turns s.count
LeadsIn p v m Halt = (s : Mark) → m.sealed ≡ Some s → LeadsTo p m.sealed_turns s.count

pub record Leads (p : Origin) (v : View) (m : Marks) : Type 0 where
  pub kept : (k : Mark) → m.kept ≡ Some k → LeadsTo p m.kept_turns k.count
  pub other : LeadsIn p v m v.phase

-- ---- how many are reported

either_zero : (b : Bool) (n : ℕ) → n ≡ 0 → (if b then 0 else n) ≡ 0
either_zero true n e = refl
either_zero false n e = e

pub none_listed : (harts n : ℕ) → n ≡ 0 → turns_listed harts n ≡ 0
none_listed harts n e = either_zero (harts == 1) n e

-- the number of turns at an epoch's end, after the committed checkpoint
many_behind : (b : Bool) (own : List ℕ) (start i k : ℕ) → start ≤ i → i ≤ k → length own ≡ (if b then 0 else k - start)
    → length (drop (i - start) own) ≡ (if b then 0 else k - i)
many_behind true own start i k late le many = omega (arith, length-drop (i - start) own, many)
many_behind false own start i k late le many = omega (arith, length-drop (i - start) own, many, late, le)

pub length-behind : (harts : ℕ) (own : List ℕ) (start i k : ℕ) → start ≤ i → i ≤ k → length own ≡ turns_listed harts (k - start)
    → length (drop (i - start) own) ≡ turns_listed harts (k - i)
length-behind harts own start i k late le many = many_behind (harts == 1) own start i k late le many

many_joined : (b : Bool) (turns own : List ℕ) (start i k : ℕ) → start ≤ i → i ≤ k → length turns ≡ (if b then 0 else i - start)
    → length own ≡ (if b then 0 else k - start) → length (turns ++ drop (i - start) own) ≡ (if b then 0 else k - start)
many_joined true turns own start i k late le many all =
    omega (arith, length-append turns (drop (i - start) own), length-drop (i - start) own, many, all)
many_joined false turns own start i k late le many all =
    omega (arith, length-append turns (drop (i - start) own), length-drop (i - start) own, many, all, late, le)

-- with one hart none is reported at all
joined_none : (p : Origin) (turns : List ℕ) (n k : ℕ) → length turns ≡ 0 → length p.turns ≡ 0 → AgreeBelow p (turns ++ drop n p.turns) k
joined_none p turns n k none all =
    let same : turns ++ drop n p.turns ≡ p.turns =
    ap (λ (l : List ℕ). l ++ drop n p.turns) (nil_from_length turns none) ∙ drop_all n p.turns (omega (arith, all))
    ∙ sym (nil_from_length p.turns all) in
    subst (λ (l : List ℕ). AgreeBelow p l k) (sym same) (AgreeBelow-same p k)

joined_by : (b : Bool) (p : Origin) (turns : List ℕ) (i k : ℕ) → length turns ≡ (if b then 0 else i - p.start.count)
    → length p.turns ≡ (if b then 0 else k - p.start.count) → AgreeBelow p turns i
    → AgreeBelow p (turns ++ drop (i - p.start.count) p.turns) k
joined_by true p turns i k many all agree = joined_none p turns (i - p.start.count) k many all
joined_by false p turns i k many all agree = joined-agrees p turns i k many agree

-- ---- which turns reach which state

-- no turns lead to the start
pub start_leads : (p : Origin) → LeadsTo p [] p.start.count
start_leads p = record {
  late = omega arith;
  many = sym (none_listed p.geometry.harts (p.start.count - p.start.count) (omega arith));
  agree = λ j less. turn_early (with_turns p []) j less ∙ sym (turn_early p j less);
}

-- turns that reach a count lead to the same state
pub state_there : (p : Origin) (turns : List ℕ) (count : ℕ) → LeadsTo p turns count → at (with_turns p turns) count ≡ at p count
state_there p turns count l = at-agrees p turns count l.agree

-- turns reach a count also along other turns that agree so far
pub leads_agreeing : (p : Origin) (t turns : List ℕ) (count : ℕ) → AgreeBelow p t count → LeadsTo p turns count
    → LeadsTo (with_turns p t) turns count
leads_agreeing p t turns count agree l = record { late = l.late; many = l.many; agree = λ j less. l.agree j less ∙ sym (agree j less) }

-- turns that reach a count, with the run's own after them, reach the state that these reach
pub leads_joined : (p : Origin) (turns : List ℕ) (i k : ℕ) → i ≤ k → length p.turns ≡ turns_listed p.geometry.harts (k - p.start.count)
    → LeadsTo p turns i
    → LeadsTo p (turns ++ drop (i - p.start.count) p.turns) k
leads_joined p turns i k le all l = record {
  late = let late = l.late in omega (arith, late, le);
  many = many_joined (p.geometry.harts == 1) turns p.turns p.start.count i k l.late le l.many all;
  agree = joined_by (p.geometry.harts == 1) p turns i k l.many all l.agree;
}

-- ---- the turns of one of two marks

same_mark : (epoch count : ℕ) → (epoch == epoch && count == count) ≡ true
same_mark epoch count = ap (λ b. b && count == count) (eq-eqb epoch epoch refl) ∙ eq-eqb count count refl

pub turns_of-sealed : (m : Marks) (epoch count : ℕ) → m.sealed ≡ Some (mark epoch count) → turns_of m epoch count ≡ m.sealed_turns
turns_of-sealed m epoch count sealed =
    ap (λ b. if b then m.sealed_turns else m.kept_turns) (ap (λ (s : Option Mark). is_mark s epoch count) sealed ∙ same_mark epoch count)

is_mark-true : (s : Option Mark) (epoch count : ℕ) → is_mark s epoch count ≡ true → s ≡ Some (mark epoch count)
is_mark-true None epoch count is = absurd (cc)
is_mark-true (Some k) epoch count is =
    let both = and_parts (k.epoch == epoch) (k.count == count) is in
    ap₂ (λ (e c : ℕ). Some (mark e c)) (eqb-true k.epoch epoch both.0) (eqb-true k.count count both.1)

-- if the turns of both marks reach their counts, the turns of either mark do
pub either_leads : (p : Origin) (m : Marks) → ((k : Mark) → m.kept ≡ Some k → LeadsTo p m.kept_turns k.count)
    → ((s : Mark) → m.sealed ≡ Some s → LeadsTo p m.sealed_turns s.count) → (k : Mark) → IsEither m.kept m.sealed k
    → LeadsTo p (turns_of m k.epoch k.count) k.count
either_leads p m kept sealed k (inr is) = subst (λ (l : List ℕ). LeadsTo p l k.count) (sym (turns_of-sealed m k.epoch k.count is)) (sealed k is)
either_leads p m kept sealed k (inl is) = by_test (is_mark m.sealed k.epoch k.count) refl
  where
    by_test : (b : Bool) → is_mark m.sealed k.epoch k.count ≡ b → LeadsTo p (if b then m.sealed_turns else m.kept_turns) k.count
    by_test true found = sealed k (is_mark-true m.sealed k.epoch k.count found)
    by_test false other = kept k is
