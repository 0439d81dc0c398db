-- Whatever the places hold, a seal leaves the committed version of each block, and a commit takes what its target holds.
use Rattle.std.proofs.Common.{◌≡◌, ℕ, ◌<◌, sym, ◌∙◌, ap}
use Rattle.thy_table.specs.declared.place.Place.{Place}
use Rattle.thy_block.specs.Device.{Device}
use Rattle.thy_block.specs.Geometry.{memory_blocks}
use Rattle.thy_record.specs.Tables.{Tables, place_of}
use Rattle.thy_table.specs.declared.cell.Cell.{Cell}
use Rattle.thy_table.specs.Cells.{penult, target}
use Rattle.thy_control.specs.CheckpointTables.{tables0, tables1, AreTablesOf}
use Rattle.thy_control.specs.Commit.{committed_state, CommitsTargets}
use Rattle.thy_control.specs.Seal.{sealed_state}
use Rattle.thy_control.specs.State.{State, AreSoundTables, cell_of, reads}
use Rattle.thy_control.specs.Versions.{KeepsCommitted}
use Rattle.thy_control.proofs.SealStateLemmas.{tables0-sealed, CommitsTables-committed}
use Rattle.thy_control.proofs.TablesLemmas.{AreTablesOf-committed, AreTablesOf-under_way}

-- equal tables have each block at one place
same_place : (s t : State) (x y : Tables) (f g : Cell → Place) → AreTablesOf s x f → AreTablesOf t y g → y ≡ x → (b : ℕ)
    → b < memory_blocks s.p → b < memory_blocks t.p
    → g (cell_of t b) ≡ f (cell_of s b)
same_place s t x y f g of_s of_t same b l k = sym (of_t.same_place b k) ∙ ap (λ (z : Tables). place_of z b) same ∙ of_s.same_place b l

module _ (s : State) (t : AreSoundTables s) where
  pub KeepsCommitted-sealed : AreSoundTables (sealed_state s) → (n : Device) → KeepsCommitted s n (sealed_state s) n
  unfolding sealed_state
  KeepsCommitted-sealed u n = record {
    penult_same = λ b l. ap (reads s n)
        (same_place s (sealed_state s) (tables0 s) (tables0 (sealed_state s)) penult penult (AreTablesOf-committed s t)
        (AreTablesOf-committed (sealed_state s) u)
        (tables0-sealed s t) b l l);
  }

  pub CommitsTargets-committed : AreSoundTables (committed_state s) → (n : Device) → CommitsTargets s (committed_state s) n
  unfolding committed_state
  CommitsTargets-committed u n = record {
    penult_is = λ b l. ap (reads s n)
        (same_place s (committed_state s) (tables1 s) (tables0 (committed_state s)) target penult (AreTablesOf-under_way s t)
        (AreTablesOf-committed (committed_state s) u)
        (CommitsTables-committed s t).tables0_next b l l);
  }
