use Rattle.std.proofs.Common.{◌≡◌, ◌-◌, ◌*◌, ◌∙◌, List, map, take, ap, arith}
use Rattle.std.proofs.lemmas.List.{length-map}
use Rattle.thy_block.specs.declared.block.Block.{Block}
use Rattle.thy_block.specs.declared.parameters.Parameters.{Parameters}
use Rattle.thy_block.specs.Bytes.{bytes_of}
use Rattle.thy_block.specs.Device.{block_at}
use Rattle.thy_block.specs.Geometry.{IsInRange}
use Rattle.thy_block.proofs.RangeLemmas.{console_below}
use Rattle.thy_layout.specs.Files.{blocks_of}
use Rattle.thy_layout.proofs.ReaderLemmas.{state_gathered}
use Rattle.thy_layout.proofs.restored.state_at.Goals as goal

pub gathered-requires-clause-few : goal.gathered-requires-clause-few
gathered-requires-clause-few c =
    let pages : c.numbers-p.result.pages ≡ c.args.geometry.now.pages = ap (λ (p : Parameters). p.pages) c.numbers-p.ensures.same in
    let range : IsInRange c.args.geometry.now = c.numbers-p.ensures.in_range in
    omega (arith, pages)

pub gathered-requires-2-clause-few : goal.gathered-requires-2-clause-few
gathered-requires-2-clause-few c =
    let console : c.numbers-p.result.console ≡ c.args.geometry.now.console = ap (λ (p : Parameters). p.console) c.numbers-p.ensures.same in
    let range : IsInRange c.args.geometry.now = c.numbers-p.ensures.in_range in
    omega (arith, console)

pub gathered-requires-clause-inside : goal.gathered-requires-clause-inside
gathered-requires-clause-inside c =
    let pages : c.numbers-p.result.pages ≡ c.args.geometry.now.pages = ap (λ (p : Parameters). p.pages) c.numbers-p.ensures.same in
    omega (arith, c.requires.all, pages)

pub gathered-requires-2-clause-inside : goal.gathered-requires-2-clause-inside
gathered-requires-2-clause-inside c =
    let pages : c.numbers-p.result.pages ≡ c.args.geometry.now.pages = ap (λ (p : Parameters). p.pages) c.numbers-p.ensures.same in
    let console : c.numbers-p.result.console ≡ c.args.geometry.now.console = ap (λ (p : Parameters). p.console) c.numbers-p.ensures.same in
    let below = console_below c.args.geometry.now c.numbers-p.ensures.in_range in
    omega (arith, c.requires.all, pages, console, below)

pub returns : goal.returns
returns c =
    let pages : c.numbers-p.result.pages ≡ c.args.geometry.now.pages = ap (λ (p : Parameters). p.pages) c.numbers-p.ensures.same in
    let console : c.numbers-p.result.console ≡ c.args.geometry.now.console = ap (λ (p : Parameters). p.console) c.numbers-p.ensures.same in
    let memory : List Block = map (block_at (blocks_of c.args.image.now)) c.args.places.now in
    state_gathered c.args.geometry.now c.args.cpu memory (bytes_of c.from_vec.result) (bytes_of c.from_vec-2.result)
    (64 * (c.numbers-p.result.pages - c.numbers-p.result.console)) (64 * c.numbers-p.result.console) c.numbers-p.ensures.in_range
    (length-map c.args.places.now (block_at (blocks_of c.args.image.now)) ∙ c.requires.all) (omega arith) (omega arith)
    (c.from_vec.ensures.bytes ∙ c.in_ok-memory.ensures)
    (c.from_vec-2.ensures.bytes ∙ c.truncate.ensures.items ∙ ap (take c.args.cpu.console_len) c.in_ok-console.ensures)
