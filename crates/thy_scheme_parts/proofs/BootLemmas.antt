-- What holds in the boot, and when power comes on.
use Rattle.std.proofs.Common.{◌≡◌, ◌&&◌, ℕ, ◌-◌, ◌<◌, ◌≤◌, Bool, true, false, [], length, refl, sym, ◌∙◌, ap, subst, arith, Option}
use Rattle.std.proofs.lemmas.List.{get_or-replicate, length-replicate}
use Rattle.thy_block.specs.declared.parameters.Parameters.{Parameters}
use Rattle.thy_block.specs.declared.mark.Mark.{Mark}
use Rattle.thy_block.specs.Device.{Device, zero_block, drained, fitted}
use Rattle.thy_block.specs.Places.{dram_blocks}
use Rattle.thy_dram.specs.Contents.{Contents, fresh}
use Rattle.thy_layout.specs.Commit.{commit_of, is_zero}
use Rattle.thy_layout.specs.Layout.{reading}
use Rattle.thy_layout.proofs.LayoutLemmas.{decode_by-zero}
use Rattle.thy_layout.proofs.ReadBackLemmas.{is_zero-zero_block}
use Rattle.thy_computer.specs.declared.view.View.{View}
use Rattle.thy_computer.specs.Origin.{Origin, IsOrigin}
use Rattle.thy_computer.specs.Safe.{ceiling, Safe}
use Rattle.thy_computer.specs.Views.{doubt_of, loads}
use Rattle.thy_computer.specs.Keeps.{HasKept}
use Rattle.thy_scheme_parts.proofs.SlotLemmas.{is_long-own}
use Rattle.thy_checkpoint.specs.declared.boot_stage.Stage.TheVariants.{Reads}
use Rattle.thy_checkpoint.specs.declared.boot_stage.ReadStage.TheVariants.{Unread}
use Rattle.thy_checkpoint.specs.Boot.{Booting, IsBoot, new_boot}
use Rattle.thy_checkpoint.specs.Filling.{FillingOf, layout_at}
use Rattle.thy_checkpoint.specs.Laws.{IsGoing}
use Rattle.thy_checkpoint.specs.Left.{boot_left}
use Rattle.thy_checkpoint.specs.Shows.{seen_at}
use Rattle.thy_checkpoint.specs.Sound.{BootImages, IsSoundBoot, layout_for}
use Rattle.thy_checkpoint.proofs.FoundLemmas.{drains_keep_boot}
use Rattle.thy_checkpoint.proofs.SafeLemmas.{new_is_sound, sound_is_safe}
use Rattle.thy_scheme.specs.Boots.{IsBootView, BootStays, BootDrains}
use Rattle.thy_scheme.specs.Laws.{IsFound, BootsFound, BootHolds}
use Rattle.thy_scheme_parts.specs.Seen.{view_at, has_read_at, loads_at}
use Rattle.thy_scheme_parts.specs.BootLaws.{IsReadBy}
use Rattle.thy_scheme_parts.specs.Schemes.{BootIsSound, PowerIsNew, ZerosAreNothing}
use Rattle.thy_scheme_parts.proofs.SeenLemmas.{view_is_kept, found_is_settled, sized-is, unread-at, loads_if_none}
use Rattle.thy_scheme_parts.proofs.PowerLemmas.{own_has_mark, new-is_boot}
use Rattle.thy_checkpoint.specs.Progress.{Progress, new_engine, is_under_way}
use Rattle.thy_scheme_parts.specs.AreParts.{AreParts}
use Rattle.thy_scheme_parts.specs.Boots.{Boots, IsPowered}
use Rattle.thy_scheme_parts.specs.Calls.{powered_on}
use Rattle.thy_scheme_parts.specs.Design.{DesignOf, Composed}
use Rattle.thy_scheme_parts.specs.Scheme.{scheme_of}

module _ {C : Type 0} (D : DesignOf C) (w : AreParts D) where
  abbrev F : FillingOf C
  F = D.filling

  -- ---- what is seen

  is_read : IsReadBy D.filling (reading D.filling.layouts)
  is_read p g sized = refl

  -- the view of a boot
  pub view-is : (o : Origin) (s : Composed C) (n : Device) (boots : Boots D o s n)
      → view_at (reading F.layouts) o s.boot.stage n ≡ seen_at o boots.images.kept s.boot.stage
  view-is o s n boots = (view_is_kept F (reading F.layouts) o boots.images n s.boot s.control is_read boots.sound boots.going).0

  -- ---- drains of the NVM

  abbrev pub boots-drained : (o : Origin) (s : Composed C) (n : Device) → Boots D o s n → Boots D o s (drained n)
  boots-drained o s n boots = record {
    origin = boots.origin;
    images = boots.images;
    sound = (drains_keep_boot F w.design.fills o boots.images n s.boot s.control boots.sound).0;
    going = boots.going;
    boot = boots.boot;
    unused = boots.unused;
    unread = boots.unread;
    storeless = boots.storeless;
  }

  drained-stays : (o : Origin) (s : Composed C) (n : Device) → Boots D o s n → BootStays (scheme_of D) o s n s (drained n)
  drained-stays o s n boots = record {
    boots = boots-drained o s n boots;
    view = view-is o s (drained n) (boots-drained o s n boots) ∙ sym (view-is o s n boots);
    left = refl;
    read = refl;
  }

  safe-seen : (o : Origin) (s : Composed C) (n : Device) → Boots D o s n
      → Safe (reading F.layouts) o (view_at (reading F.layouts) o s.boot.stage n).done
      (doubt_of (view_at (reading F.layouts) o s.boot.stage n)) n
  safe-seen o s n boots =
      subst (λ (v : View). Safe (reading F.layouts) o v.done (doubt_of v) n) (sym (view-is o s n boots))
      (sound_is_safe F w.design.fills o boots.images n s.boot s.control boots.sound)

  boot-holds : (o : Origin) (s : Composed C) (n : Device) → Boots D o s n → BootHolds (scheme_of D) o s n
  boot-holds o s n boots = record {
    of_geometry = record { same_p = boots.unused.control; sound = boots.unused.sound; room = boots.unused.room };
    sized = sized-is F o boots.images n s.boot s.control boots.sound boots.going;
    safe = safe-seen o s n boots;
    shown = subst (λ (v : View). IsBootView o v) (sym (view-is o s n boots))
        (view_is_kept F (reading F.layouts) o boots.images n s.boot s.control is_read boots.sound boots.going).1;
    unread = λ h. boots.unread (unread-at s.boot.stage h);
    drains = λ some. drained-stays o s n boots;
    settled = λ m found current.
        found_is_settled F o boots.images n s.boot s.control m boots.sound boots.going
        (sym (ap (λ (v : View). v.done) (view-is o s n boots)) ∙ found) current;
  }

  pub boot_is_sound : BootIsSound (scheme_of D)
  boot_is_sound o s n booting = boot-holds o s n booting.boots

  -- ---- drains of the DRAM

  module _ (o : Origin) (s : Composed C) (n : Device) (boots : Boots D o s n) (some : 0 < (D.filling.dram s.control).queued) where
    abbrev after : Composed C
    after = record s { control = D.filling.drained s.control }

    boots-after : Boots D o after n
    boots-after = record {
      origin = boots.origin;
      images = boots.images;
      sound = (drains_keep_boot F w.design.fills o boots.images n s.boot s.control boots.sound).1;
      going = boots.going;
      boot = boots.boot;
      unused = record {
        sound = w.powering.drained_sound s.control boots.unused.sound;
        control = w.design.fills.drain_p s.control ∙ boots.unused.control;
        engine = boots.unused.engine;
        regs = boots.unused.regs;
        idle = boots.unused.idle;
        room = ap (λ (d : Contents). d.room) (w.design.drained_dram s.control) ∙ boots.unused.room;
        sealed_storeless = boots.unused.sealed_storeless;
      };
      unread = λ h. let none = boots.unread h in absurd (omega (arith, none, some));
      storeless = boots.storeless;
    }

    pub boot-drains : BootDrains (scheme_of D) o s n after
    boot-drains = record {
      stays = record { boots = boots-after; view = refl; left = refl; read = refl };
      dram = w.design.drained_dram s.control;
      queue = omega (arith, some, ap (λ (d : Contents). d.queued) (w.design.drained_dram s.control));
    }

  -- ---- power comes on

  module _ (o : Origin) (s : Composed C) (n : Device) (origin : IsOrigin o) (powered : IsPowered D o.geometry s)
      (found : IsFound (scheme_of D) o n) where
    own : (kept : Option Mark) × HasKept o (layout_for D.filling o) n.image kept
    own = own_has_mark F (reading F.layouts) o n is_read found.sized found.own

    abbrev first : BootImages
    first = record { before = n.image; kept = own.0; next = [] }

    abbrev dram : Contents
    dram = powered.dram

    abbrev new : C
    new = D.parts.powered o.geometry powered.dram

    new_fresh : D.filling.fresh (D.parts.powered o.geometry powered.dram)
    new_fresh = w.powering.power_fresh o.geometry powered.dram origin.geometry powered.is_dram

    control_p : D.filling.p s.control ≡ o.geometry
    control_p = ap D.filling.p powered.control ∙ w.powering.power_p o.geometry powered.dram

    control_dram : D.filling.dram s.control ≡ powered.dram
    control_dram = ap D.filling.dram powered.control ∙ w.powering.power_dram o.geometry powered.dram

    boots-first : Boots D o s n
    boots-first = record {
      origin = origin;
      images = first;
      sound =
          subst (λ (b : Booting). IsSoundBoot D.filling o first n b s.control) (sym powered.boot)
          (new_is_sound F w.design.fills o first n s.control
          (subst D.filling.fresh (sym powered.control) new_fresh) control_p refl found.sized found.settled own.1);
      going = subst (λ (b : Booting). IsGoing b.stage) (sym powered.boot) tt;
      boot = subst (λ (b : Booting). IsBoot D.filling b) (sym powered.boot) (new-is_boot D.filling o.geometry);
      unused = record {
        sound = subst D.parts.sound (sym powered.control) (w.powering.fresh_sound (D.parts.powered o.geometry powered.dram) new_fresh);
        control = control_p;
        engine = ap (λ (e : Progress). e.p) powered.engine;
        regs = ap (λ (e : Progress). length e.cpu.regs) powered.engine ∙ length-replicate {A = ℕ} 32 0;
        idle = ap (λ (e : Progress). is_under_way e.stage) powered.engine;
        room = ap (λ (d : Contents). d.room) control_dram ∙ powered.is_dram.room;
        sealed_storeless = powered.sealed_storeless;
      };
      unread = λ h. ap (λ (d : Contents). d.queued) control_dram ∙ powered.is_dram.empty;
      storeless = powered.storeless;
    }

    pub power_finds : BootsFound (scheme_of D) o s n
    power_finds = record { boots = boots-first; view = ap (λ (b : Booting). view_at (reading D.filling.layouts) o b.stage n) powered.boot }

  pub power_is_new : PowerIsNew (scheme_of D)
  power_is_new p s powered = record {
    queued =
        ap (λ (d : Contents). d.queued) (ap D.filling.dram powered.control ∙ w.powering.power_dram p powered.dram) ∙ powered.is_dram.empty;
    boot_left =
        subst (λ (b : Booting). boot_left D.filling b b.stage ≤ boot_left D.filling (new_boot D.filling p) (Reads Unread))
        (sym powered.boot) (omega arith);
  }

  -- a scheme whose power has just come on is the one that is made over its DRAM
  pub power_makes : (p : Parameters) (s : Composed C) → IsPowered D p s → s ≡ powered_on D p (D.filling.dram s.control)
  power_makes p s on =
      let dram : D.filling.dram s.control ≡ on.dram = ap D.filling.dram on.control ∙ w.powering.power_dram p on.dram in
      let made : C = D.parts.powered p (D.filling.dram s.control) in
      let control : s.control ≡ made = on.control ∙ ap (D.parts.powered p) (sym dram) in
      ap (λ (c : C). record s { control = c }) control
      ∙ ap (λ (e : Progress). record s { control = made; engine = e }) on.engine
      ∙ ap (λ (b : Bool). record s { control = made; engine = new_engine p; storeless = b }) on.storeless
      ∙ ap (λ (b : Bool). record s { control = made; engine = new_engine p; storeless = true; sealed_storeless = b }) on.sealed_storeless
      ∙ ap (λ (b : Booting). record s { control = made; engine = new_engine p; storeless = true; sealed_storeless = false; boot = b }) on.boot

  -- an image has a commit block
  some_blocks : (p : Parameters) → 2 ≤ (layout_at D.filling p).image_blocks
  some_blocks p =
      let has = w.design.fills.laid.slot p (commit_of 0) in
      let low = has.behind in
      let long = has.inside (layout_at D.filling p).image_blocks (is_long-own (layout_at D.filling p) (commit_of 0)) in
      omega (arith, low, long)

  pub zeros_are_nothing : ZerosAreNothing (scheme_of D)
  zeros_are_nothing p shape n same =
      let some : 1 < shape.blocks - 0 = let two = some_blocks p in omega (arith, same, two) in
      decode_by-zero (layout_at D.filling p) ceiling (fitted shape [] n).image
      (ap is_zero (get_or-replicate (shape.blocks - 0) 1 zero_block zero_block some) ∙ is_zero-zero_block)

  -- the DRAM with which power comes on
  abbrev no_dram : Parameters → Contents
  no_dram p = fresh (dram_blocks p) p.dramq

  abbrev pub first_of : Parameters → Composed C
  first_of p = record {
    control = D.parts.powered p (no_dram p);
    engine = new_engine p;
    storeless = true;
    sealed_storeless = false;
    boot = new_boot D.filling p;
  }

  pub powers : (p : Parameters) → IsPowered D p (first_of p)
  powers p = record {
    dram = no_dram p;
    is_dram = record { blocks = length-replicate (dram_blocks p) zero_block; room = refl; empty = refl };
    control = refl;
    engine = refl;
    boot = refl;
    storeless = refl;
    sealed_storeless = refl;
  }

  pub first-dram : (p : Parameters) → D.filling.dram (first_of p).control ≡ no_dram p
  first-dram p = w.powering.power_dram p (no_dram p)

  -- ---- whether it loads

  pub loading-is : (o : Origin) (s : Composed C) (n : Device) → Boots D o s n
      → loads_at s.boot.stage ≡ (has_read_at s.boot.stage && loads (view_at (reading D.filling.layouts) o s.boot.stage n))
  loading-is o s n boots = loads_if_none F w.design.fills (reading F.layouts) o boots.images n s.boot s.control is_read boots.sound boots.going
