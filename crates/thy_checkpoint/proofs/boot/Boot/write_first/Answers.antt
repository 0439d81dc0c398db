use Rattle.std.proofs.Common.{◌≡◌, ℕ, ◌<◌, sym, ◌∙◌, ap, subst, arith}
use Rattle.thy_block.specs.declared.parameters.Parameters.{Parameters}
use Rattle.thy_block.specs.Device.{Device}
use Rattle.thy_isa.specs.Step.{State, state_of}
use Rattle.thy_computer.specs.Action.{WriteAt}
use Rattle.thy_computer.specs.declared.round.Round.{Round}
use Rattle.thy_computer.specs.Round.{IsInRound, round_action}
use Rattle.thy_checkpoint.specs.Boot.{Booting}
use Rattle.thy_checkpoint.specs.Filling.{first_by}
use Rattle.thy_checkpoint.specs.Loads.{Takes, first_writes, place_of_first, block_of_first}
use Rattle.thy_checkpoint.specs.Start.{CanStart}
use Rattle.thy_checkpoint.proofs.FirstLemmas.{first_apart}
use Rattle.thy_checkpoint.proofs.LoadLemmas.{head_inside, first-placed, first-once}
use Rattle.thy_checkpoint.proofs.boot.Boot.write_first.Goals as goal

pub write_of-write-requires-clause-start : goal.write_of-write-requires-clause-start
write_of-write-requires-clause-start g c =
    subst (λ (b : Booting). CanStart b.p (state_of c.args.state.now)) (sym c.self.view_is) c.requires.can.start

pub write_of-write-requires-clause-inside : goal.write_of-write-requires-clause-inside
write_of-write-requires-clause-inside g c =
    subst (λ (b : Booting). c.in-Write.k < (first_writes (first_by g.F.Fills.filling b.p (state_of c.args.state.now))).blocks) (sym c.self.view_is)
    (subst (λ (r : Round). IsInRound (first_writes (first_by g.F.Fills.filling c.args.self.now.p (state_of c.args.state.now))).blocks r)
    c.in-Write.is c.requires.can.there)

pub write-requires-clause-place : goal.write-requires-clause-place
write-requires-clause-place g c =
    let F = g.F.Fills.filling in
    let laws = g.met.F.Fills.lawful in
    let p : Parameters = c.args.self.now.p in
    let s : State = state_of c.args.state.now in
    let there : c.in-Write.k < (first_writes (first_by F p s)).blocks
    = subst (λ (r : Round). IsInRound (first_writes (first_by F p s)).blocks r) c.in-Write.is c.requires.can.there in
    let apart = first_apart (first_by F p s) _ (first-placed F laws p s c.requires.can.start) (first-once F laws p s c.requires.can.start) in
    let at : c.write_of-write.result.at ≡ place_of_first (first_by F p s) c.in-Write.k
    = c.write_of-write.ensures.place ∙ ap (λ (b : Booting). place_of_first (first_by F b.p s) c.in-Write.k) c.self.view_is in
    omega (arith, apart.inside c.in-Write.k there, at, c.requires.can.sized)

pub write-requires-in-Commit-clause-place : goal.write-requires-in-Commit-clause-place
write-requires-in-Commit-clause-place g c =
    omega (arith, c.requires.can.sized, head_inside g.F.Fills.filling g.met.F.Fills.lawful c.args.self.now.p)

pub returns-in-Write : goal.returns-in-Write
returns-in-Write g c =
    let F = g.F.Fills.filling in
    let s : State = state_of c.args.state.now in
    let k : ℕ = c.in-Write.k in
    let old : Device = g.N.Nvm.device c.args.nvm.now in
    let new : Device = g.N.Nvm.device c.write.new.self in
    let wrote : Takes (WriteAt c.write_of-write.result.at c.write_of-write.result.block) c.write.result old new
    = record { ok = c.write.ensures.ok; err = c.write.ensures.err; frame = c.write.ensures.frame; cause = c.write.ensures.cause } in
    subst (λ (r : Round). Takes (round_action (first_writes (first_by F c.args.self.now.p s)) r) c.write.result old new) (sym c.in-Write.is)
    (subst (λ (b : Booting). Takes (WriteAt (place_of_first (first_by F b.p s) k) (block_of_first (first_by F b.p s) k)) c.write.result old new) c.self.view_is
    (coe 0 1 (i. Takes (WriteAt (c.write_of-write.ensures.place i) (c.write_of-write.ensures.block i)) c.write.result old new) wrote))
