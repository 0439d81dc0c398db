use Rattle.std.proofs.Common.{◌≡◌, ◌∙◌, ap, sym}
use Rattle.thy_block.specs.declared.parameters.Parameters.{Parameters}
use Rattle.thy_block.specs.declared.parameters.SchemeName.{SchemeName}
use Rattle.thy_block.specs.declared.parameters.SchemeName.TheVariants.{Thynvm, Journal, Shadow}
use Rattle.thy_layout.specs.Files.{found_in, decode_file}
use Rattle.thy_outcome.specs.Meaning.{layouts_by_scheme}
use Rattle.thy_outcome.proofs.file.check.Goals as goal

pub returns-in-Thynvm : goal.returns-in-Thynvm
returns-in-Thynvm c =
    let scheme : c.args.geometry.now.scheme ≡ Thynvm = sym (ap (λ (p : Parameters). p.scheme) c.numbers.ensures.same) ∙ c.in-Thynvm.is in
    c.check_image.ensures
    ∙ ap (λ (x : SchemeName). found_in (decode_file (layouts_by_scheme x c.args.geometry.now) c.args.ceiling c.args.image.now)) (sym scheme)

pub returns-in-Journal : goal.returns-in-Journal
returns-in-Journal c =
    let scheme : c.args.geometry.now.scheme ≡ Journal = sym (ap (λ (p : Parameters). p.scheme) c.numbers.ensures.same) ∙ c.in-Journal.is in
    c.check_image-in-Journal.ensures
    ∙ ap (λ (x : SchemeName). found_in (decode_file (layouts_by_scheme x c.args.geometry.now) c.args.ceiling c.args.image.now)) (sym scheme)

pub returns-in-Shadow : goal.returns-in-Shadow
returns-in-Shadow c =
    let scheme : c.args.geometry.now.scheme ≡ Shadow = sym (ap (λ (p : Parameters). p.scheme) c.numbers.ensures.same) ∙ c.in-Shadow.is in
    c.check_image-in-Shadow.ensures
    ∙ ap (λ (x : SchemeName). found_in (decode_file (layouts_by_scheme x c.args.geometry.now) c.args.ceiling c.args.image.now)) (sym scheme)
