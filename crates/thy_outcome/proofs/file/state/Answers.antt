use Rattle.std.proofs.Common.{◌≡◌, ◌∙◌, IfOk, ap, subst, sym}
use Rattle.thy_block.specs.declared.parameters.Parameters.{Parameters}
use Rattle.thy_block.specs.declared.parameters.SchemeName.{SchemeName}
use Rattle.thy_block.specs.declared.parameters.SchemeName.TheVariants.{Thynvm, Journal, Shadow}
use Rattle.thy_isa.specs.declared.state.MachState.{MachState}
use Rattle.thy_isa.specs.Step.{state_of}
use Rattle.thy_layout.specs.Files.{HasCheckpointOf, HasState}
use Rattle.thy_outcome.specs.Meaning.{layouts_by_scheme}
use Rattle.thy_outcome.proofs.file.state.Goals as goal

pub state_of_image-requires : goal.state_of_image-requires
state_of_image-requires c =
    let scheme : c.args.geometry.now.scheme ≡ Thynvm = sym (ap (λ (p : Parameters). p.scheme) c.numbers.ensures.same) ∙ c.in-Thynvm.is in
    subst (λ (x : SchemeName). HasCheckpointOf (layouts_by_scheme x c.args.geometry.now) c.args.image.now) scheme c.requires

pub returns-in-Thynvm : goal.returns-in-Thynvm
returns-in-Thynvm c =
    let scheme : c.args.geometry.now.scheme ≡ Thynvm = sym (ap (λ (p : Parameters). p.scheme) c.numbers.ensures.same) ∙ c.in-Thynvm.is in
    subst (λ (x : SchemeName). IfOk c.state_of_image.result
    (λ (m : MachState). HasState (layouts_by_scheme x c.args.geometry.now) c.args.image.now (state_of m))) (sym scheme) c.state_of_image.ensures

pub state_of_image-requires-in-Journal : goal.state_of_image-requires-in-Journal
state_of_image-requires-in-Journal c =
    let scheme : c.args.geometry.now.scheme ≡ Journal = sym (ap (λ (p : Parameters). p.scheme) c.numbers.ensures.same) ∙ c.in-Journal.is in
    subst (λ (x : SchemeName). HasCheckpointOf (layouts_by_scheme x c.args.geometry.now) c.args.image.now) scheme c.requires

pub returns-in-Journal : goal.returns-in-Journal
returns-in-Journal c =
    let scheme : c.args.geometry.now.scheme ≡ Journal = sym (ap (λ (p : Parameters). p.scheme) c.numbers.ensures.same) ∙ c.in-Journal.is in
    subst (λ (x : SchemeName). IfOk c.state_of_image-in-Journal.result
    (λ (m : MachState). HasState (layouts_by_scheme x c.args.geometry.now) c.args.image.now (state_of m)))
    (sym scheme) c.state_of_image-in-Journal.ensures

pub state_of_image-requires-in-Shadow : goal.state_of_image-requires-in-Shadow
state_of_image-requires-in-Shadow c =
    let scheme : c.args.geometry.now.scheme ≡ Shadow = sym (ap (λ (p : Parameters). p.scheme) c.numbers.ensures.same) ∙ c.in-Shadow.is in
    subst (λ (x : SchemeName). HasCheckpointOf (layouts_by_scheme x c.args.geometry.now) c.args.image.now) scheme c.requires

pub returns-in-Shadow : goal.returns-in-Shadow
returns-in-Shadow c =
    let scheme : c.args.geometry.now.scheme ≡ Shadow = sym (ap (λ (p : Parameters). p.scheme) c.numbers.ensures.same) ∙ c.in-Shadow.is in
    subst (λ (x : SchemeName). IfOk c.state_of_image-in-Shadow.result
    (λ (m : MachState). HasState (layouts_by_scheme x c.args.geometry.now) c.args.image.now (state_of m)))
    (sym scheme) c.state_of_image-in-Shadow.ensures
