use Rattle.std.proofs.Common.{sym, rules}
use Rattle.thy_cache.proofs.FlushLaws.{none-dirty, first-dirty, first-there, some-dirty, HasNoneDirty-none}
use Rattle.thy_cache.specs.Contents.{set_at}
use Rattle.thy_cache.proofs.cache.Cache.dirty_place.Goals as goal

pub returns-in-None-clause-none : goal.returns-in-None-clause-none
returns-in-None-clause-none c = none-dirty c.args.self.now (sym c.in-None.ensures.set)

pub returns-in-Some-dirty_way-clause-some : goal.returns-in-Some-dirty_way-clause-some
returns-in-Some-dirty_way-clause-some c =
    some-dirty c.args.self.now c.in-Some.set c.in-Some-dirty_way.way
    (first-dirty (set_at c.args.self.now c.in-Some.set) c.in-Some-dirty_way.way (sym c.in-Some-dirty_way.ensures))

pub returns-in-Some-dirty_way-clause-dirty : goal.returns-in-Some-dirty_way-clause-dirty
returns-in-Some-dirty_way-clause-dirty c =
    first-dirty (set_at c.args.self.now c.in-Some.set) c.in-Some-dirty_way.way (sym c.in-Some-dirty_way.ensures)

pub returns-in-None-dirty_way-clause-none : goal.returns-in-None-dirty_way-clause-none
returns-in-None-dirty_way-clause-none c =
    absurd (first-there c.args.self.now c.in-Some.set (sym c.in-Some.ensures.set) (sym c.in-None-dirty_way.ensures))

pub returns-in-Some-dirty_way-clause-way : goal.returns-in-Some-dirty_way-clause-way
returns-in-Some-dirty_way-clause-way c = search rules

pub returns-in-None-clause-clean : goal.returns-in-None-clause-clean
returns-in-None-clause-clean c = HasNoneDirty-none c.args.self.now (sym c.in-None.ensures.set)

pub returns-in-None-dirty_way-clause-clean : goal.returns-in-None-dirty_way-clause-clean
returns-in-None-dirty_way-clause-clean c =
    absurd (first-there c.args.self.now c.in-Some.set (sym c.in-Some.ensures.set) (sym c.in-None-dirty_way.ensures))
