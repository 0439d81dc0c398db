use Rattle.std.proofs.Common.{◌≡◌, length, refl, subst, sym, ap, ◌∙◌}
use Rattle.thy_hart.specs.Epoch.{Epoch}
use Rattle.thy_isa.specs.declared.state.CpuState.{CpuState}
use Rattle.thy_scheme.specs.Calls.{Seals}
use Rattle.thy_core.specs.MachineParts.{machine_of}
use Rattle.thy_core.proofs.CycleLaws.{framed_same, stands_run, sealed_regs, seal_cycle}
use Rattle.thy_core.proofs.sealing.seal.Goals as goal
use Rattle.thy_scheme.proofs.SealingLaws.{over_at}

-- the epoch is over
pub unreachable-requires : goal.unreachable-requires
unreachable-requires g c =
    let turn = c.requires.turn in
    let over = over_at g.S.Scheme.scheme turn.o (machine_of c.args.m.now) (g.N.Nvm.device c.args.nvm.now) turn.turn c.requires.whole in
    c.in_default.not-Some over.cause (c.over.ensures.over ∙ ap (λ (e : Epoch). e.over) c.epoch-2.ensures ∙ over.over_is)

pub seal-requires-clause-idle : goal.seal-requires-clause-idle
seal-requires-clause-idle g c =
    let turn = c.requires.turn in
    (over_at g.S.Scheme.scheme turn.o (machine_of c.args.m.now) (g.N.Nvm.device c.args.nvm.now) turn.turn c.requires.whole).idle

pub seal-requires-clause-regs : goal.seal-requires-clause-regs
seal-requires-clause-regs g c =
    let turn = c.requires.turn in
    let over = c.in-Some.ensures.over ∙ ap (λ (e : Epoch). e.over) c.epoch-2.ensures in
    subst (λ (x : CpuState). length x.regs ≡ 32) (sym c.cpu.ensures)
    (sealed_regs g.S.Scheme.scheme turn.o turn.cycles (machine_of c.args.m.now) (g.N.Nvm.device c.args.nvm.now) turn.at_moment
    c.in-Some.cause turn.turn c.requires.whole c.requires.clean over)

pub returns : goal.returns
returns g c =
    let K = g.S.Scheme.scheme in
    let m = machine_of c.args.m.now in
    let n = g.N.Nvm.device c.args.nvm.now in
    let t = c.seal.new.self in
    let over = c.in-Some.ensures.over ∙ ap (λ (e : Epoch). e.over) c.epoch-2.ensures in
    let number = c.epoch-epoch.ensures ∙ ap (λ (e : Epoch). e.number) c.epoch.ensures in
    let count = ap (λ (x : CpuState). x.count) c.cpu-count.ensures in
    let made = c.seal.ensures.exact
    ∙ ap (λ (x : CpuState). K.calls.sealed x c.epoch-epoch.result m.scheme) c.cpu.ensures
    ∙ ap (λ e. K.calls.sealed m.hart.cpu e m.scheme) number in
    record {
      simulates = λ o cycles _ at sealing.
          let seals = c.seal.ensures.seals o m.marks n (stands_run K o cycles m n at.sound sealing.phase) in
          let of_cpu = subst (λ (x : CpuState). Seals K o m.marks x c.epoch-epoch.result m.scheme n t) c.cpu.ensures seals in
          let of_epoch = subst (λ e. Seals K o m.marks m.hart.cpu e m.scheme n t) number of_cpu in
          seal_cycle K o cycles m n at c.in-Some.cause t (machine_of c.begin_epoch.new.m) c.epoch-epoch.result c.cpu-count.result.count
          sealing c.requires.whole c.requires.bare c.requires.clean over of_epoch made number count c.begin_epoch.ensures;
      fails = λ o cycles _ at sealing. tt;
      frame = framed_same n;
      cause = refl;
    }
