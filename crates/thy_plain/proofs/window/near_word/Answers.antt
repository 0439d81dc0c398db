use Rattle.std.proofs.Common.{◌<◌, ◌^◌, length, arith}
use Rattle.thy_block.specs.Bytes.{bytes_of}
use Rattle.thy_plain.proofs.WindowLemmas.{word-is, word-fetched}
use Rattle.thy_plain.proofs.window.near_word.Goals as goal

pub returns-then-turned-setup-clause-fetched : goal.returns-then-turned-setup-clause-fetched
returns-then-turned-setup-clause-fetched c =
    let setup = c.args.setup.now in
    let size = length (bytes_of c.args.memory.now) in
    let fits : setup.base < 2 ^ 64 = omega arith in
    word-fetched setup.base size c.args.pc (word-is setup.base size setup.words c.args.pc fits c.ranges.pc.fits c.requires c.if-turned-setup.true)

pub returns-then-turned-setup-clause-offset : goal.returns-then-turned-setup-clause-offset
returns-then-turned-setup-clause-offset c =
    let setup = c.args.setup.now in
    let size = length (bytes_of c.args.memory.now) in
    let fits : setup.base < 2 ^ 64 = omega arith in
    (word-is setup.base size setup.words c.args.pc fits c.ranges.pc.fits c.requires c.if-turned-setup.true).same

pub returns-then-turned-setup-clause-fits : goal.returns-then-turned-setup-clause-fits
returns-then-turned-setup-clause-fits c =
    let setup = c.args.setup.now in
    let size = length (bytes_of c.args.memory.now) in
    let fits : setup.base < 2 ^ 64 = omega arith in
    (word-is setup.base size setup.words c.args.pc fits c.ranges.pc.fits c.requires c.if-turned-setup.true).fits
