use Rattle.std.proofs.Common.{◌≤◌, sym, subst}
use Rattle.thy_control.specs.State.{State, AreSoundTables}
use Rattle.thy_control.specs.Commit.{Commits, CommitsTables, CommitsTargets}
use Rattle.thy_control.proofs.CommittedLemmas.{CommitsTargets-committed}
use Rattle.thy_control.proofs.CommitLemmas.{AreSoundTables-committed, Commits-committed, committed_parts}
use Rattle.thy_control.proofs.SealStateLemmas.{CommitsTables-committed, HasNoWork-committed, free-committed}
use Rattle.thy_table.specs.Listing.{free_count}
use Rattle.thy_control.specs.Frees.{HasNoWork}
use Rattle.thy_control.proofs.control.Control.commit.Goals as goal

pub returns : goal.returns
returns c =
    let s : State = c.args.self.now in
    let state = committed_parts c.self.view_is c.map_entries.ensures c.map_entries-2.ensures in
    let back = sym state in
    let sound = AreSoundTables-committed s c.recall_tables.ensures c.requires.way c.requires.copied
    c.a_commit_keeps_entries_sound.ensures in
    let law = c.a_commit_takes_the_last.ensures in
    record {
      state = state;
      versions = λ n holds. subst (λ (t : State). Commits s t n) back
          (Commits-committed s c.recall_tables.ensures c.requires.way c.requires.copied law n holds);
      targets = λ n. subst (λ (t : State). CommitsTargets s t n) back
          (CommitsTargets-committed s c.recall_tables.ensures sound n);
      tables = subst (CommitsTables s) back (CommitsTables-committed s c.recall_tables.ensures);
      idle = λ none. subst HasNoWork back (HasNoWork-committed s none);
      free = subst (λ (t : State). free_count s.btt ≤ free_count t.btt) back (free-committed s);
    }

pub invariant_of-self : goal.invariant_of-self
invariant_of-self c = record {
  tables = subst AreSoundTables (sym (returns c).state)
      (AreSoundTables-committed c.args.self.now c.recall_tables.ensures c.requires.way c.requires.copied c.a_commit_keeps_entries_sound.ensures);
  marks = c.of-self-inside.ensures;
  cursors = c.start-self-inside.ensures c.map_entries-2.new.self c.map_entries.new.self;
}
