use Rattle.std.proofs.Common.{rules, ◌≡◌, ◌∙◌, sym, ap, Ok}
use Rattle.thy_layout.specs.declared.found.Found.TheVariants.{At}
use Rattle.thy_layout.specs.Files.{found_in, decode_file}
use Rattle.thy_record.specs.ThynvmLayouts.{thynvm_layouts}
use Rattle.thy_control_tests.proofs.support.memory.Memory.decoded.Goals as goal

pub state-requires : goal.state-requires
state-requires g c = record {
  ceiling = 4611686018427387904;
  epoch = c.in-Ok-At.epoch;
  found = ap (λ bytes. found_in (decode_file (thynvm_layouts c.self-2.inside.geometry) 4611686018427387904 bytes))
      (c.deref-in-Ok-At.ensures.value ∙ sym c.deref.ensures.value)
      ∙ sym c.check-found.ensures ∙ c.in-Ok-At.is ∙ ap Ok found;
} where
  found : c.in-Ok-At.field-0 ≡ At c.in-Ok-At.epoch
  found = search rules
