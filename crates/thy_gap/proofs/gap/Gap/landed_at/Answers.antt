use Rattle.std.proofs.Common.{sym, ◌∙◌, ap, arith}
use Rattle.thy_block.specs.Device.{block_at}
use Rattle.thy_gap.proofs.SeenLemmas.{block_at-unmap}
use Rattle.thy_gap.proofs.SoundLemmas.{line_seen, place_inside}
use Rattle.thy_gap.proofs.gap.Gap.landed_at.Goals as goal

pub place-requires-clause-line : goal.place-requires-clause-line
place-requires-clause-line g c = line_seen c.self.invariant c.args.line (rw (sym c.self.view_is) at c.requires)

pub returns-clause-within : goal.returns-clause-within
returns-clause-within g c =
    rw (sym c.self.view_is)
    (let l = line_seen c.self.invariant c.args.line (rw (sym c.self.view_is) at c.requires) in
    omega (arith, c.place.ensures, place_inside c.self.invariant c.args.line l))

pub returns-clause-block : goal.returns-clause-block
returns-clause-block g c =
    rw (sym c.self.view_is)
    (let l = line_seen c.self.invariant c.args.line (rw (sym c.self.view_is) at c.requires) in
    ap (block_at (g.N.Nvm.device c.self.inside.inner).image) c.place.ensures
    ∙ sym (block_at-unmap c.self.inside.registers (g.N.Nvm.device c.self.inside.inner).image c.args.line l))
