-- The location of a block's line, and what a use of the line there leaves.
use Rattle.std.proofs.Common.{◌≡◌, ℕ, ◌<◌, List, length, true, Option, Some, None, option_and_then, refl, sym, ◌∙◌, ap, arith}
use Rattle.std.proofs.Math.Nat.{mod-lt}
use Rattle.std.specs.List.{count_by}
use Rattle.std.specs.Option.{is_some}
use Rattle.thy_cache.specs.declared.line.Line.{Line}
use Rattle.thy_cache.specs.declared.line.LineLocation.{LineLocation}
use Rattle.thy_cache.specs.Ways.{Ways, is_dirty, way_of, line_at, used_for}
use Rattle.thy_cache.specs.Contents.{Contents, index_of, set_of, hits, location_of, read_from, written_at}
use Rattle.thy_cache.specs.Flat.{KeepsLines, IsWritten}
use Rattle.thy_cache.proofs.LineLemmas.{location-way_of, held}
use Rattle.thy_cache.proofs.AgreeLemmas.{map-Some}
use Rattle.thy_cache.proofs.CountLemmas.{dirty_count-with_set}
use Rattle.thy_cache.proofs.WriteLaws.{ReadsSame-peeks, used_for-lines, read-line_of, read-peeks, read-agrees, write-flat, write-hits, write-agrees, write-count, is_some-map}
use Rattle.thy_cache.proofs.SizeLaws.{KeepsSize-read, KeepsSize-write}

-- a block's set is one of the cache's
pub location-inside : (c : Contents) (b : ℕ) → 0 < length c.sets → index_of c b < length c.sets
location-inside c b some = mod-lt b some

-- what is known of the location of a block's line
pub record IsLocation (c : Contents) (b : ℕ) (location : LineLocation) : Type 0 where
  pub set : location.set ≡ index_of c b
  pub way : way_of (set_of c b) b ≡ Some location.way
  pub inside : location.way < length (set_of c b).lines
  pub line : Line
  pub stands : line_at (set_of c b) location.way ≡ Some line

pub IsLocation-of : (c : Contents) (b : ℕ) (location : LineLocation) → location_of c b ≡ Some location → IsLocation c b location
IsLocation-of c b location e =
    let w = map-Some (λ way. record { set = index_of c b; way = way }) (way_of (set_of c b) b) location e in
    let way : way_of (set_of c b) b ≡ Some location.way = w.1 ∙ ap (λ (p : LineLocation). Some p.way) w.2 in
    let there = location-way_of (set_of c b) b location.way way in
    let line = held b (line_at (set_of c b) location.way) there.2 in
    record { set = sym (ap (λ (p : LineLocation). p.set) w.2); way = way; inside = there.1; line = line.0; stands = line.1 }

-- a block has a location if it hits
found_by : (ways : Ways) (b : ℕ) (o : Option ℕ) → way_of ways b ≡ o → is_some o ≡ is_some (option_and_then (line_at ways) o)
found_by ways b None e = refl
found_by ways b (Some w) e = sym (ap is_some (held b (line_at ways w) (location-way_of ways b w e).2).1)

pub location-hits : (c : Contents) (b : ℕ) → is_some (location_of c b) ≡ hits c b
location-hits c b =
    is_some-map (λ way. record { set = index_of c b; way = way }) (way_of (set_of c b) b) ∙ found_by (set_of c b) b (way_of (set_of c b) b) refl

-- what a read leaves, and a write
pub KeepsLines-read : (c : Contents) (b : ℕ) → index_of c b < length c.sets → KeepsLines c (read_from b c)
KeepsLines-read c b inside = record {
  peeks = read-peeks c b inside;
  hits = λ x. ap is_some (read-line_of c b inside x);
  flat = ReadsSame-peeks c (read_from b c) (read-peeks c b inside);
  agree = read-agrees c b inside;
  dirty = omega (arith, dirty_count-with_set c (index_of c b) (used_for b (set_of c b)) inside, ap (count_by is_dirty) (used_for-lines b (set_of c b)));
  sized = KeepsSize-read c b inside;
}

pub IsWritten-write : (c : Contents) (b at : ℕ) (bytes : List ℕ) → index_of c b < length c.sets → hits c b ≡ true
    → IsWritten b at bytes c (written_at b at bytes c)
IsWritten-write c b at bytes inside hit = record {
  flat = write-flat c b at bytes inside hit;
  hits = write-hits c b at bytes inside;
  agree = write-agrees c b at bytes inside;
  dirty = write-count c b at bytes inside hit;
  sized = KeepsSize-write c b at bytes inside;
}
