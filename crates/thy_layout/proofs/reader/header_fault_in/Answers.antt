use Rattle.std.proofs.Common.{◌∙◌, ℕ, sym, ap, arith}
use Rattle.thy_block.specs.declared.parameters.Parameters.{Parameters}
use Rattle.thy_layout.specs.Header.{header_fault}
use Rattle.thy_layout.specs.Layout.{Layout}
use Rattle.thy_layout.proofs.reader.header_fault_in.Goals as goal

pub header_fault_of-requires : goal.header_fault_of-requires
header_fault_of-requires g c = omega (arith, c.recall_laws.ensures.number c.args.geometry.now, c.scheme.ensures)

pub returns : goal.returns
returns g c =
    let l : Layout = g.L.ImageLayout.layouts c.args.geometry.now in
    c.header_fault_of.ensures
    ∙ ap (λ (n : ℕ). header_fault n c.args.header.now c.args.geometry.now c.args.sized) c.scheme.ensures
    ∙ ap (λ (p : Parameters). header_fault l.scheme c.args.header.now p c.args.sized) (sym (c.recall_laws.ensures.of c.args.geometry.now))
