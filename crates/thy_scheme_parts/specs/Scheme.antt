-- Part of the claim.
-- What is seen of a scheme that is made of parts.
use Rattle.thy_layout.specs.Layout.{reading}
use Rattle.thy_checkpoint.specs.declared.boot_stage.Stage.TheVariants.{Reads}
use Rattle.thy_checkpoint.specs.declared.boot_stage.ReadStage.TheVariants.{Unread}
use Rattle.thy_checkpoint.specs.Boot.{new_boot}
use Rattle.thy_checkpoint.specs.Filling.{layout_at}
use Rattle.thy_checkpoint.specs.Left.{boot_left}
use Rattle.thy_checkpoint.specs.Shows.{migrates_at}
use Rattle.thy_scheme_parts.specs.Seen.{view_at, has_read_at}
use Rattle.thy_scheme.specs.Scheme.{SchemeOf}
use Rattle.thy_checkpoint.specs.Cycles.{cycles_left, most_cycles}
use Rattle.thy_checkpoint.specs.Progress.{phase_of, is_under_way, is_applying}
use Rattle.thy_scheme_parts.specs.Boots.{Boots, IsOf, IsPowered}
use Rattle.thy_scheme_parts.specs.Calls.{calls_of}
use Rattle.thy_scheme_parts.specs.Design.{DesignOf, Composed}
use Rattle.thy_scheme_parts.specs.Holding.{holding_of}
use Rattle.thy_scheme_parts.specs.Sound.{IsSound}
use Rattle.thy_scheme_parts.specs.Stays.{Stays}

abbrev pub scheme_of : {C : Type 0} → DesignOf C → SchemeOf (Composed C)
scheme_of D = record {
  decode = reading D.filling.layouts;
  blocks = λ p. (layout_at D.filling p).image_blocks;
  powered = IsPowered D;
  holding = λ s n. holding_of D s.control n;
  committed = λ s n. D.parts.committed (phase_of s.engine.stage) s.control n;
  stays = Stays D;
  under_way = λ s. is_under_way s.engine.stage;
  applies = λ s. is_applying s.engine.stage;
  overlaid = λ s. D.parts.pages.overlaid s.control;
  promoting = λ s. D.parts.pages.promoting s.control;
  storeless = λ s. s.storeless;
  sealed_storeless = λ s. s.sealed_storeless;
  overlaps = D.parts.overlaps;
  dram = λ s. D.filling.dram s.control;
  is_of = IsOf D;
  queued = λ s. (D.filling.dram s.control).queued;
  free = λ s. D.parts.free s.control;
  owed_later = λ s. D.parts.owed_later (phase_of s.engine.stage) s.control;
  is_sound = IsSound D;
  boots = Boots D;
  boot_view = λ o s n. view_at (reading D.filling.layouts) o s.boot.stage n;
  has_read = λ s. has_read_at s.boot.stage;
  migrates = λ s. migrates_at s.boot.stage;
  boot_left = λ s. boot_left D.filling s.boot s.boot.stage;
  engine_left = λ s. cycles_left D.filling D.items s.engine s.control;
  merges_left = λ s. D.parts.pages.merges_left s.control;
  promotions_left = λ s. D.parts.pages.promotions_left s.control;
  most_booting = λ p. boot_left D.filling (new_boot D.filling p) (Reads Unread);
  most_engine = λ p. most_cycles D.filling D.items p;
  most_merges = D.parts.pages.most_merges;
  most_promotions = D.parts.pages.most_promotions;
  most_owed = D.parts.most_owed;
  most_free = D.parts.most_free;
  calls = calls_of D;
}
