use Rattle.std.proofs.Common.{◌∙◌, ap, sym, arith, slice_index_or, []}
use Rattle.thy_block.specs.Device.{block_at}
use Rattle.thy_gap.proofs.SoundLemmas.{line_seen, kept_line, kept_place, kept_seen}
use Rattle.thy_gap.proofs.gap.GapNvm.kept.Goals as goal

pub place-requires-clause-line : goal.place-requires-clause-line
place-requires-clause-line g c =
    let l = line_seen c.self.invariant c.args.at (rw (sym c.self.view_is) at c.requires.place) in
    kept_line c.self.invariant c.args.i c.args.at c.registers_kept-registers.result
    (rw (sym c.self.view_is) at c.requires.image) l c.registers_kept-registers.ensures

pub kept-requires-clause-place : goal.kept-requires-clause-place
kept-requires-clause-place g c =
    let l = line_seen c.self.invariant c.args.at (rw (sym c.self.view_is) at c.requires.place) in
    omega (
      arith,
      c.place.ensures,
      kept_place c.self.invariant c.args.i c.args.at c.registers_kept-registers.result
          (rw (sym c.self.view_is) at c.requires.image) l c.registers_kept-registers.ensures,
    )

pub returns : goal.returns
returns g c =
    let l = line_seen c.self.invariant c.args.at (rw (sym c.self.view_is) at c.requires.place) in
    rw (sym c.self.view_is)
    (c.kept.ensures
    ∙ ap (block_at (slice_index_or (g.N.Nvm.device c.self.inside.inner).left c.args.i [])) c.place.ensures
    ∙ kept_seen c.self.invariant c.args.i c.args.at c.registers_kept-registers.result
    (rw (sym c.self.view_is) at c.requires.image) l c.registers_kept-registers.ensures)
