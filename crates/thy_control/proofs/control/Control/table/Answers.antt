use Rattle.std.proofs.Common.{◌≡◌, ◌+◌, ◌<◌, sym, subst, arith}
use Rattle.thy_table.specs.Places.{table_blocks, count_blocks}
use Rattle.thy_control.specs.State.{State}
use Rattle.thy_control.proofs.control.Control.table.Goals as goal

pub last_block-requires : goal.last_block-requires
last_block-requires c =
    let asked : c.args.k < table_blocks c.self.inside.geometry + count_blocks c.self.inside.geometry
    = subst (λ (t : State). c.args.k < table_blocks t.p + count_blocks t.p) (sym c.self.view_is) c.requires in
    let first : c.table_blocks-tables.result ≡ table_blocks c.self.inside.geometry
    = subst (λ (t : State). c.table_blocks-tables.result ≡ table_blocks t.p) (sym c.self.view_is) c.table_blocks-tables.ensures in
    omega (arith, asked, first, c.if-k-tables.false, c.self.invariant.tables.counts.size)
