use Rattle.std.proofs.Common.{◌≡◌, false, length, replicate, ◌∙◌, ap, arith}
use Rattle.thy_dram.specs.Contents.{lost}
use Rattle.thy_dram.proofs.DramLemmas.{contents_in-lost}
use Rattle.thy_dram.proofs.dram.Dram.cut.Goals as goal

pub returns : goal.returns
returns c =
    let counted : c.self.inside.marks.len ≡ length c.self.inside.marks.items = omega (arith, c.self.inside.marks.ok.0) in
    let cleared : c.fill.new.self.items ≡ replicate (length c.self.inside.marks.items) false
    = c.fill.ensures.items (λ y e. e) ∙ ap (λ n. replicate n false) counted in
    contents_in-lost c.self.inside.ring c.clear_queue.new.self c.self.inside.marks.items c.fill.new.self.items c.self.inside.pick c.args.pick
    c.clear_queue.ensures c.self.invariant.marked cleared
    ∙ ap (λ d. lost d c.args.pick) c.self.view_is
