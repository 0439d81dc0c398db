-- What spares places.
use Rattle.std.proofs.Common.{◌≡◌, ℕ, List, Contains, refl, sym, ◌∙◌, subst, length}
use Rattle.thy_block.specs.declared.block.Block.{Block}
use Rattle.thy_block.specs.Device.{Device, HoldsNoMore, HasFailed, HasFailedToSettle, HasFailedToWrite, IsFramed, drained, settled, with_queued, written_to, Settles}
use Rattle.thy_block.proofs.DeviceLemmas.{no_more-drained, no_more-settled, no_more-written_to, CrashAt-elsewhere, length-drained, length-settled, length-written_to}
use Rattle.thy_layout.specs.Spares.{Spares}

pub Spares-same : (places : List ℕ) (old new : Device) → new ≡ old → Spares places old new
Spares-same places old new e = subst (λ (n : Device). Spares places old n) (sym e) (record { as_long = refl; no_more = λ x inside b h. h })

pub Spares-both : (places : List ℕ) (old mid new : Device) → Spares places old mid → Spares places mid new → Spares places old new
Spares-both places old mid new first then = record {
  as_long = then.as_long ∙ first.as_long;
  no_more = λ x inside b h. first.no_more x inside b (then.no_more x inside b h);
}

pub Spares-part : (places part : List ℕ) (old new : Device)
    → ((x : ℕ) → Contains part x → Contains places x) → Spares places old new → Spares part old new
Spares-part places part old new among s = record {
  as_long = s.as_long;
  no_more = λ x inside b h. s.no_more x (among x inside) b h;
}

module _ (places : List ℕ) (old : Device) where
  -- what makes nothing more possible spares every place
  pub Spares-no_more : (new : Device) → HoldsNoMore old new → length new.image ≡ length old.image → Spares places old new
  Spares-no_more new no_more same = record { as_long = same; no_more = λ x inside b h. no_more x b h }

  pub Spares-drained : (new : Device) → new ≡ drained old → Spares places old new
  Spares-drained new e =
      subst (λ (n : Device). Spares places old n) (sym e) (Spares-no_more (drained old) (no_more-drained old) (length-drained old))

  pub Spares-settled : (new : Device) → Settles old new → Spares places old new
  Spares-settled new e =
      subst (λ (n : Device). Spares places old n) (sym e)
      (Spares-no_more (settled new.writes old) (no_more-settled new.writes old) (length-settled new.writes old))

-- what makes no more possible than one queued write spares every place but that write's
pub Spares-queued : (places : List ℕ) (at : ℕ) (block : Block) (old new : Device)
    → ¬ Contains places at → HoldsNoMore (with_queued at block old) new → length new.image ≡ length old.image → Spares places old new
Spares-queued places at block old new other no_more same = record {
  as_long = same;
  no_more = λ x inside b h. CrashAt-elsewhere old at block x b (λ e. other (subst (λ (y : ℕ). Contains places y) e inside)) (no_more x b h);
}

pub Spares-written : (places : List ℕ) (at : ℕ) (block : Block) (old new : Device)
    → ¬ Contains places at → new ≡ written_to old at block → Spares places old new
Spares-written places at block old new other e =
    subst (λ (n : Device). Spares places old n) (sym e)
    (Spares-queued places at block old (written_to old at block) other (no_more-written_to old at block) (length-written_to old at block))

pub Spares-failed : (places : List ℕ) (old new : Device) → HasFailed old new → IsFramed old new → Spares places old new
Spares-failed places old new failed framed = Spares-no_more places old new failed.no_more framed.blocks

pub Spares-unsettled : (places : List ℕ) (old new : Device) → HasFailedToSettle old new → IsFramed old new → Spares places old new
Spares-unsettled places old new failed framed = Spares-no_more places old new failed.no_more framed.blocks

pub Spares-failed_to_write : (places : List ℕ) (at : ℕ) (block : Block) (old new : Device)
    → ¬ Contains places at → HasFailedToWrite at block old new → IsFramed old new → Spares places old new
Spares-failed_to_write places at block old new other failed framed =
    Spares-queued places at block old new other failed.no_more framed.blocks
