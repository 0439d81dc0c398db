use Rattle.std.proofs.Common.{◌≡◌, ◌+◌, ◌^◌, ◌<◌, true, false, sym, ◌∙◌, ap, subst, arith}
use Rattle.std.specs.Option.{is_some}
use Rattle.thy_cache.specs.Ways.{is_dirty}
use Rattle.thy_cache.specs.Contents.{Contents, IsSoundCache, hits, line_of}
use Rattle.thy_cache.proofs.LocationLaws.{location-inside, location-hits}
use Rattle.thy_cache.proofs.WriteLaws.{write-fits}
use Rattle.thy_cache.proofs.cache.Cache.write_line.Goals as goal

pub overflow_add-self : goal.overflow_add-self
overflow_add-self c =
    let now : Contents = c.args.self.now in
    let IsSoundNow : Contents → Type 0 = λ v. IsSoundCache v.sets c.self.inside.dirty c.self.inside.modulus in
    let sound : IsSoundCache now.sets c.self.inside.dirty c.self.inside.modulus = subst IsSoundNow c.self.view_is c.self.invariant in
    let hit : hits now c.args.b ≡ true = sym (location-hits now c.args.b) ∙ ap is_some c.requires.location in
    let clean : is_dirty (line_of now c.args.b) ≡ false = ap is_dirty c.line_in.ensures ∙ c.if-not-was_dirty.true in
    let fits : c.self.inside.dirty + 1 < 2 ^ 64
    = write-fits now c.args.b c.args.at c.args.bytes.now c.self.inside.dirty c.self.inside.modulus sound
    (location-inside now c.args.b sound.some_set) hit clean in
    omega arith
