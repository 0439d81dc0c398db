use Rattle.std.proofs.Common.{◌≡◌, ◌≤◌, ◌∙◌, ℕ, Bool, List, length, sym, ap, arith}
use Rattle.thy_block.specs.declared.block.Block.{Block}
use Rattle.thy_block.specs.Device.{block_at}
use Rattle.thy_layout.specs.Commit.{commit_fault}
use Rattle.thy_layout.specs.Files.{block_in, blocks_of, is_long_file}
use Rattle.thy_layout.specs.Layout.{Layout, header_bad, slot_in}
use Rattle.thy_layout.proofs.FileLemmas.{block_at-blocks_of}
use Rattle.thy_layout.proofs.HeaderLemmas.{header_fault-long}
use Rattle.thy_layout.proofs.ReaderLemmas.{file_header, file_commit, file_slot}
use Rattle.thy_layout.proofs.reader.image_fault.Goals as goal

-- the header that the code reads
first_block : (bytes : List ℕ) (b : Block) → 128 ≤ length bytes → b ≡ block_in bytes 0 → b ≡ block_at (blocks_of bytes) 0
first_block bytes b some is = is ∙ sym (block_at-blocks_of bytes 0 (omega arith))

-- the header's test as the code makes it
header_same : (l : Layout) (bytes : List ℕ) (b : Block) (long : Bool) → 128 ≤ length bytes → b ≡ block_in bytes 0
    → long ≡ is_long_file l bytes
    → header_bad l b long ≡ header_bad l (block_at (blocks_of bytes) 0) (is_long_file l bytes)
header_same l bytes b long some is all = λ i. header_bad l (first_block bytes b some is i) (all i)

-- the commit block's test as the code makes it
commit_same : (bytes : List ℕ) (header commit : Block) (ceiling : ℕ) → 128 ≤ length bytes → header ≡ block_in bytes 0
    → commit ≡ block_at (blocks_of bytes) 1
    → commit_fault header commit ceiling ≡ commit_fault (block_at (blocks_of bytes) 0) (block_at (blocks_of bytes) 1) ceiling
commit_same bytes header commit ceiling some is named = λ i. commit_fault (first_block bytes header some is i) (named i) ceiling

pub returns-in-Some : goal.returns-in-Some
returns-in-Some g c =
    file_header (g.L.ImageLayout.layouts c.args.geometry.now) c.args.ceiling c.args.image.now c.in-Some.bad
    (c.in-Some.ensures
    ∙ header_same (g.L.ImageLayout.layouts c.args.geometry.now) c.args.image.now c.block_in-header.result c.is_long.result c.requires.some
    c.block_in-header.ensures c.is_long.ensures)

pub returns-in-Some-commit_fault : goal.returns-in-Some-commit_fault
returns-in-Some-commit_fault g c =
    file_commit (g.L.ImageLayout.layouts c.args.geometry.now) c.args.ceiling c.args.image.now c.in-Some-commit_fault.bad
    (c.in_default.ensures
    ∙ header_same (g.L.ImageLayout.layouts c.args.geometry.now) c.args.image.now c.block_in-header.result c.is_long.result c.requires.some
    c.block_in-header.ensures c.is_long.ensures)
    (c.in-Some-commit_fault.ensures
    ∙ commit_same c.args.image.now c.block_in-header.result c.args.commit.now c.args.ceiling c.requires.some c.block_in-header.ensures c.requires.commit)

pub slot_in-requires-clause-long : goal.slot_in-requires-clause-long
slot_in-requires-clause-long g c =
    let l : Layout = g.L.ImageLayout.layouts c.args.geometry.now in
    header_fault-long l.scheme (block_at (blocks_of c.args.image.now) 0) l.p (is_long_file l c.args.image.now)
    (sym (c.in_default.ensures
    ∙ header_same l c.args.image.now c.block_in-header.result c.is_long.result c.requires.some c.block_in-header.ensures c.is_long.ensures))

pub returns : goal.returns
returns g c =
    let l : Layout = g.L.ImageLayout.layouts c.args.geometry.now in
    file_slot l c.args.ceiling c.args.image.now c.slot_fault.result
    (c.in_default.ensures
    ∙ header_same l c.args.image.now c.block_in-header.result c.is_long.result c.requires.some c.block_in-header.ensures c.is_long.ensures)
    (c.in_default-commit_fault.ensures
    ∙ commit_same c.args.image.now c.block_in-header.result c.args.commit.now c.args.ceiling c.requires.some c.block_in-header.ensures c.requires.commit)
    (c.slot_fault.ensures
    ∙ ap (λ (s : List Block). l.slot_bad c.args.ceiling c.args.commit.now s) c.slot_in.ensures.slot
    ∙ ap (λ (b : Block). l.slot_bad c.args.ceiling b (slot_in l (blocks_of c.args.image.now))) c.requires.commit)
