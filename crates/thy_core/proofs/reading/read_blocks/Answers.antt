use Rattle.std.proofs.Common.{◌<◌, length, refl, sym, ◌∙◌, ap, subst, arith}
use Rattle.thy_block.specs.Bytes.{bytes_of}
use Rattle.thy_block.specs.Device.{Device}
use Rattle.thy_scheme.specs.Scheme.{CanRun}
use Rattle.thy_core.specs.MachineParts.{machine_of}
use Rattle.thy_core.specs.Reading.{blocks_in}
use Rattle.thy_core.proofs.ReadingLemmas.{read_none, read_more}
use Rattle.thy_core.proofs.reading.read_blocks.Goals as goal

pub read_block-requires-clause-stands : goal.read_block-requires-clause-stands
read_block-requires-clause-stands g c =
    subst (λ (n : Device). CanRun g.S.Scheme.scheme c.args.m.now.store.scheme n) (sym c.loop-i.invariant.same) c.requires.stands

pub read_block-requires-clause-inside : goal.read_block-requires-clause-inside
read_block-requires-clause-inside g c =
    subst (λ (n : Device). c.loop-i.i < length (blocks_in g.S.Scheme.scheme c.args.version (machine_of c.args.m.now) n))
    (sym c.loop-i.invariant.same)
    (omega (arith, c.loop-i-test.true, c.requires.inside))

pub loop-i-init : goal.loop-i-init
loop-i-init g c = record {
  same = refl;
  bytes = c.in_ok-bytes.ensures.empty
      ∙ read_none c.args.first (blocks_in g.S.Scheme.scheme c.args.version (machine_of c.args.m.now) (g.N.Nvm.device c.args.nvm.now));
}

pub loop-i-preserved : goal.loop-i-preserved
loop-i-preserved g c =
    let K = g.S.Scheme.scheme in
    let m = machine_of c.args.m.now in
    record {
      same = c.in_ok-read_block.ensures.same ∙ c.loop-i.invariant.same;
      bytes = read_more c.args.first c.loop-i.i (blocks_in K c.args.version m (g.N.Nvm.device c.args.nvm.now))
          (blocks_in K c.args.version m (g.N.Nvm.device c.loop-i.nvm)) (bytes_of c.loop-i.bytes) (bytes_of c.read_block.new.bytes)
          (ap (λ (n : Device). blocks_in K c.args.version m n) c.loop-i.invariant.same) c.loop-i.auto.i
          (omega (arith, c.loop-i-test.true, c.requires.inside))
          c.loop-i.invariant.bytes c.in_ok-read_block.ensures.bytes;
    }
