-- A barrier of the NVM, as drains of its queue: it keeps the checkpoints of any lawful scheme.
use Rattle.std.proofs.Common.{◌≡◌, ℕ, ◌<◌, if◌then◌else◌, Option, List, [], ◌∷◌, length, take, drop, refl, sym, ◌∙◌, ap, subst, inl, inr, arith}
use Rattle.thy_block.specs.declared.nvm.Write.{Write}
use Rattle.thy_block.specs.Device.{Device, Settles as IsSettledTo, Wear, applied, drained, moved_on, moves_next, settled}
use Rattle.thy_block.specs.Store.{Holding}
use Rattle.thy_computer.specs.Origin.{Origin}
use Rattle.thy_scheme.specs.CheckpointMarks.{CheckpointMarks}
use Rattle.thy_scheme.specs.Scheme.{SchemeOf, Stands}
use Rattle.thy_scheme.specs.Calls.{HoldsSame, OpensNone, Keeps, OwesNoMore}
use Rattle.thy_scheme.specs.Laws.{IsLawful, RunHolds}
use Rattle.thy_scheme.proofs.RecordLemmas.{Keeps-same}

-- ---- one call after another

OpensNone-on : (a b c : Option ℕ) → OpensNone a b → OpensNone b c → OpensNone a c
OpensNone-on a b c first (inl none) = inl none
OpensNone-on a b c (inl none) (inr same) = inl (same ∙ none)
OpensNone-on a b c (inr before) (inr same) = inr (same ∙ before)

HoldsSame-on : (a b c : Holding) → HoldsSame a b → HoldsSame b c → HoldsSame a c
HoldsSame-on a b c first second = record {
  blocks = second.blocks ∙ first.blocks;
  free = omega (arith, first.free, second.free);
  opened = OpensNone-on a.open_page b.open_page c.open_page first.opened second.opened;
}

Keeps-on : {S : Type 0} (K : SchemeOf S) (a : S) (l : Device) (b : S) (m : Device) (c : S) (n : Device)
    → Keeps K a l b m → Keeps K b m c n → Keeps K a l c n
Keeps-on K a l b m c n first second = record {
  held = HoldsSame-on (K.holding a l) (K.holding b m) (K.holding c n) first.held second.held;
  left = record {
    owed = omega (arith, first.left.owed, second.left.owed);
    engine = omega (arith, first.left.engine, second.left.engine);
    merges = omega (arith, first.left.merges, second.left.merges);
    promotions = omega (arith, first.left.promotions, second.left.promotions);
  };
  whole = λ h. second.whole (first.whole h);
  storeless = second.storeless ∙ first.storeless;
  sealed_storeless = second.sealed_storeless ∙ first.sealed_storeless;
}

-- ---- the device

-- a device of which every write has landed
abbrev landed_all : Device → Device
landed_all n = record n { image = applied n.image n.queue; queue = [] }

-- if nothing is queued, nothing lands
landed-none : (n : Device) → n.queue ≡ [] → landed_all n ≡ n
landed-none n e =
    ap (λ (q : List Write). record n { image = applied n.image q; queue = [] }) e ∙ ap (λ (q : List Write). record n { queue = q }) (sym e)

-- a barrier goes on where a drain ends, if a write is queued
landed-on : (n : Device) (w : Write) (ws : List Write) → n.queue ≡ w ∷ ws → landed_all (drained n) ≡ landed_all n
landed-on n w ws e =
    ap (λ (q : List Write). record n { image = applied (applied n.image (take 1 q)) (drop 1 q); queue = [] }) e
    ∙ ap (λ (q : List Write). record n { image = applied n.image q; queue = [] }) (sym e)

-- ---- what a barrier keeps

pub record Settles {S : Type 0} (K : SchemeOf S) (o : Origin) (k : CheckpointMarks) (s : S) (n new : Device) : Type 0 where
  pub sound : K.is_sound o k s new
  pub keeps : Keeps K s n s new
  pub owes : OwesNoMore K s n s new

module _ {S : Type 0} (K : SchemeOf S) (laws : IsLawful K) (o : Origin) (k : CheckpointMarks) (s : S) where
  lands : (q : List Write) (n : Device) → n.queue ≡ q → Stands K o k s n → Settles K o k s n (landed_all n)
  lands [] n e stands =
      subst (Settles K o k s n) (sym (landed-none n e)) (record { sound = stands.sound; keeps = Keeps-same K s n; owes = omega arith })
  lands (w ∷ ws) n e stands =
      let holds : RunHolds K o k s n = laws.run_holds o k s n stands in
      let some : 0 < length n.queue = omega (arith, ap length e) in
      let rest : (drained n).queue ≡ ws = ap (drop 1) e in
      let on : Settles K o k s (drained n) (landed_all (drained n)) =
      lands ws (drained n) rest (record { sound = holds.drained_sound some; up = stands.up }) in
      subst (Settles K o k s n) (landed-on n w ws e) (record {
        sound = on.sound;
        keeps = Keeps-on K s n s (drained n) s (landed_all (drained n)) (holds.drained_keeps some) on.keeps;
        owes = let first = holds.drained_owes some in omega (arith, first, on.owes);
      })

  -- a scheme settles with a barrier, whatever that counted
  pub settles : (n new : Device) → Stands K o k s n → IsSettledTo n new → Settles K o k s n new
  settles n new stands e =
      let all : Settles K o k s n (landed_all n) = lands n.queue n refl stands in
      let holds : RunHolds K o k s (landed_all n) = laws.run_holds o k s (landed_all n) (record { sound = all.sound; up = stands.up }) in
      let wear : Wear = if moves_next n then moved_on n.wear else n.wear in
      subst (Settles K o k s n) (sym e) (record {
        sound = holds.counted_sound new.writes wear;
        keeps = Keeps-on K s n s (landed_all n) s (settled new.writes n) all.keeps (holds.counted_keeps new.writes wear);
        owes = let last = holds.counted_owes new.writes wear in omega (arith, all.owes, last);
      })
