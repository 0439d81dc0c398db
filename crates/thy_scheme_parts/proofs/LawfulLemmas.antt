-- A scheme of lawful parts is lawful.
use Rattle.std.proofs.Common.{refl}
use Rattle.thy_layout.specs.Layout.{reading}
use Rattle.thy_scheme.specs.Laws.{IsLawful}
use Rattle.thy_scheme_parts.proofs.SeenLemmas.{alike_at}
use Rattle.thy_scheme_parts.specs.AreParts.{AreParts}
use Rattle.thy_scheme_parts.specs.Design.{DesignOf}
use Rattle.thy_scheme_parts.specs.Scheme.{scheme_of}
use Rattle.thy_scheme_parts.proofs.BootLemmas.{boot_is_sound, power_finds, power_is_new, power_makes, powers, first_of, first-dram, zeros_are_nothing}
use Rattle.thy_scheme_parts.proofs.OnceLemmas.{boots_once}
use Rattle.thy_scheme_parts.proofs.RunLemmas.{held_is_up, ready_is_up, ready_is_whole, same-stays, on-stays, of-stays, run_is_sound, stays_keep}

pub lawful : {C : Type 0} (D : DesignOf C) → AreParts D → IsLawful (scheme_of D)
lawful D w = record {
  powers = λ p. (first_of D w p, powers D w p, first-dram D w p);
  is_new = power_is_new D w;
  powered_is = power_makes D w;
  finds_nothing = zeros_are_nothing D w;
  finds = power_finds D w;
  boot_holds = boot_is_sound D w;
  boot_alike = λ o turns s n. alike_at (reading D.filling.layouts) o turns s.boot.stage n;
  boot_once = boots_once D w;
  run_holds = run_is_sound D w;
  up = held_is_up D w;
  ready_up = ready_is_up D w;
  ready_whole = ready_is_whole D w;
  free_is = λ s n. refl;
  queued_is = λ s. refl;
  stays_same = same-stays D w;
  stays_on = on-stays D w;
  stays_of = of-stays D w;
  stays_sound = stays_keep D w;
}
