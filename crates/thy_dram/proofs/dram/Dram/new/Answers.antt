use Rattle.std.proofs.Common.{◌≡◌, [], true, replicate, ◌∙◌, ap}
use Rattle.thy_dram.specs.Held.{made}
use Rattle.thy_dram.specs.Parts.{contents_in}
use Rattle.thy_dram.proofs.DramLemmas.{contents_in-fresh}
use Rattle.thy_dram.proofs.dram.Dram.new.Goals as goal

pub returns : goal.returns
returns c =
    let ring : c.in_ok-ring.ring ≡ made c.args.blocks c.args.queue [] =
    c.in_ok-ring.ensures ∙ ap (made c.args.blocks c.args.queue) c.new.ensures.items in
    let marks : c.in_ok-marks.marks.items ≡ replicate c.args.blocks true = c.in_ok-marks.ensures.items_if_clones_equal (λ y e. e) in
    ap (λ r. contents_in r c.in_ok-marks.marks.items 0) ring
    ∙ ap (λ ms. contents_in (made c.args.blocks c.args.queue []) ms 0) marks
    ∙ contents_in-fresh c.args.blocks c.args.queue
