use Rattle.std.proofs.Common.{◌%◌, ◌<◌, length, ◌∙◌, ap, arith}
use Rattle.thy_block.specs.Lcg.{lcg_draw}
use Rattle.thy_dram.proofs.DrawLemmas.{bytes_over-step, after_bytes-step}
use Rattle.thy_dram.proofs.draws.fill_bytes.Goals as goal

pub loop-byte-preserved : goal.loop-byte-preserved
loop-byte-preserved c =
    let inside : c.loop-byte.byte-index < length c.loop-byte.bytes = omega arith in
    record {
      bytes = bytes_over-step c.loop-byte.bytes c.loop-byte.byte-index c.loop-byte.draws _ c.next.new.self inside
          (ap (λ d. d % 256) (c.next.ensures.draw ∙ ap lcg_draw c.next.ensures.state)) c.next.ensures.state
          ∙ c.loop-byte.invariant.bytes;
      draws = after_bytes-step c.loop-byte.bytes c.loop-byte.byte-index c.loop-byte.draws _ c.next.new.self inside c.next.ensures.state
          ∙ c.loop-byte.invariant.draws;
    }
