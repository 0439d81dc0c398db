use Rattle.std.proofs.lemmas.Grind.{common_steps}
use Rattle.std.proofs.lemmas.Result.{on_ok_weaker, on_err_weaker}
use Rattle.std.proofs.Common.{◌-◌, ◌^◌, ◌≤◌, ◌∙◌, ap, refl, arith}
use Rattle.thy_block.specs.Device.{Device}
use Rattle.thy_block.proofs.BasicLemmas.{OnErr-of}
use Rattle.thy_gap.specs.Levelled.{is_plain}
use Rattle.thy_gap.proofs.MovingLemmas.{put_done, failed_to_write, failed_to_put}
use Rattle.thy_gap.proofs.SoundLemmas.{either}
use Rattle.thy_gap.proofs.WearLemmas.{counts-no_fewer, counts-plain, plain-settles, plain-written}
use Rattle.thy_gap.proofs.moving.put.Goals as goal

pub returns-in_err-write-clause-err : goal.returns-in_err-write-clause-err
returns-in_err-write-clause-err g c =
    OnErr-of _ (failed_to_write c.args.at c.args.block.now (g.N.Nvm.device c.args.inner.now)
    (g.N.Nvm.device c.write.new.self) c.in_err-write.ensures.err)

pub returns-in_err-write-clause-plain : goal.returns-in_err-write-clause-plain
returns-in_err-write-clause-plain g c = ap is_plain c.in_err-write.ensures.err.counts.wear

pub returns-in_err-write-clause-no_fewer : goal.returns-in_err-write-clause-no_fewer
returns-in_err-write-clause-no_fewer g c = omega (arith, c.in_err-write.ensures.err.counts.writes)

pub returns-clause-ok : goal.returns-clause-ok
returns-clause-ok g c =
    on_ok_weaker c.barrier.result
    (λ settled. put_done c.args.at c.args.block.now (g.N.Nvm.device c.args.inner.now) (g.N.Nvm.device c.write.new.self)
    (g.N.Nvm.device c.barrier.new.self)
    c.in_ok-write.ensures.ok settled.device)
    c.barrier.ensures.ok

pub returns-clause-err : goal.returns-clause-err
returns-clause-err g c =
    on_err_weaker c.barrier.result
    (λ failed. failed_to_put c.args.at c.args.block.now (g.N.Nvm.device c.args.inner.now) (g.N.Nvm.device c.write.new.self)
    (g.N.Nvm.device c.barrier.new.self)
    c.in_ok-write.ensures.ok failed)
    c.barrier.ensures.err

pub returns-clause-plain : goal.returns-clause-plain
returns-clause-plain g c =
    either c.barrier.result c.barrier.ensures.ok c.barrier.ensures.err
    (λ settled. plain-settles (g.N.Nvm.device c.write.new.self) (g.N.Nvm.device c.barrier.new.self) settled.device)
    (λ failed. ap is_plain failed.wear)
    ∙ plain-written (g.N.Nvm.device c.args.inner.now) (g.N.Nvm.device c.write.new.self) c.args.at c.args.block.now c.in_ok-write.ensures.ok

pub returns-clause-no_fewer : goal.returns-clause-no_fewer
returns-clause-no_fewer g c =
    let mid : Device = g.N.Nvm.device c.write.new.self in
    let before : (g.N.Nvm.device c.args.inner.now).writes ≤ 2 ^ 64 - 1 = grind (arith, common_steps) in
    let few : mid.writes ≤ 2 ^ 64 - 1 = grind (arith, common_steps) in
    let settles : mid.writes ≤ (g.N.Nvm.device c.barrier.new.self).writes =
    either c.barrier.result c.barrier.ensures.ok c.barrier.ensures.err
    (λ settled. counts-no_fewer mid mid.wear (g.N.Nvm.device c.barrier.new.self).writes few settled.count)
    (λ failed. failed.writes) in
    omega (arith, before, settles, ap (λ (n : Device). n.writes) c.in_ok-write.ensures.ok)

pub returns-clause-counts : goal.returns-clause-counts
returns-clause-counts g c plain =
    let mid : Device = g.N.Nvm.device c.write.new.self in
    on_ok_weaker c.barrier.result
    (λ settled.
    counts-plain mid mid.wear (g.N.Nvm.device c.barrier.new.self).writes refl
    (plain-written (g.N.Nvm.device c.args.inner.now) mid c.args.at c.args.block.now c.in_ok-write.ensures.ok ∙ plain) settled.count
    ∙ ap (λ (n : Device). n.writes) c.in_ok-write.ensures.ok)
    c.barrier.ensures.ok
