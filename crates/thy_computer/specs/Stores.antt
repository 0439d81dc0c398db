-- Part of the claim.
-- How many blocks a hart's next instruction stores to, and how many lines of the cache become dirty. An instruction makes no
-- more lines dirty than it stores to blocks. A cache that marks a line as dirty that it fills, so that more lines are dirty than
-- before, is refused, and so is one that leaves a line dirty when its store has taken an entry.
use Rattle.std.specs.Prelude.{◌≡◌, ◌≢◌, ◌⊎◌, ℕ, ◌+◌, ◌-◌, ◌≤◌, ◌==◌, true, false, if◌then◌else◌, Some, None}
use Rattle.thy_block.specs.declared.span.Span.{Span}
use Rattle.thy_block.specs.Spans.{rest_of}
use Rattle.thy_isa.specs.Moves.{moves_of}
use Rattle.thy_isa.specs.Step.{State, call_state_of, effect_at, fronted}
use Rattle.thy_computer.specs.declared.did.Did.{Did}
use Rattle.thy_computer.specs.declared.did.Did.TheVariants.{Moved}
use Rattle.thy_computer.specs.declared.view.View.{View}
use Rattle.thy_computer.specs.Origin.{Origin, setting_of, at}
use Rattle.thy_computer.specs.Pace.{Gauge}
use Rattle.thy_computer.specs.NextActor.{Pressure}
use Rattle.thy_computer.specs.Views.{is_boot}

-- how many blocks a span lies in, which has at most 64 bytes
abbrev pub blocks_in : Span → ℕ
blocks_in s = if s.len == 0 then 0 else (if (rest_of s).len == 0 then 1 else 2)

-- the bytes that the instruction of a state writes, that is of the hart in front
unfoldable pub stored_by : Origin → State → Span
stored_by o s = (moves_of s.regs (call_state_of (setting_of o) s) (effect_at o.geometry.base s)).to

-- how many blocks a hart's instruction stores to that comes next at a count
abbrev pub needs_at : Origin → ℕ → ℕ → ℕ
needs_at o hart k = blocks_in (stored_by o (fronted hart (at o k)))

-- ---- the lines of the cache that are dirty

-- entries that the instruction in hand has secured and not used yet, which a gauge counts with the dirty lines
abbrev pub secured_by : Pressure → Gauge → ℕ
secured_by p g = g.dirty - p.dirty

-- A gauge counts the dirty lines, and with them what is secured. While no instruction is begun nothing is, and none has
-- secured its entries.
pub record CountsLines (p : Pressure) (g : Gauge) : Type 0 where
  pub lines : p.dirty ≤ g.dirty
  pub unsecured : p.begun ≡ None → g.dirty ≡ p.dirty
  pub unmarked : p.begun ≡ None → g.has_secured ≡ false

-- No entry is secured, and no more lines become dirty than secured entries are used. After the boot no more entries are
-- taken than dirty lines and secured entries together become fewer. An instruction that has secured its entries has done so
-- until it ends.
pub record UsesEntries (v : View) (old new : Pressure) (before after : Gauge) : Type 0 where
  pub entries : secured_by new after ≤ secured_by old before
  pub lines : after.dirty ≤ before.dirty
  pub room : is_boot v.phase ≡ false → after.dirty + before.free ≤ before.dirty + after.free
  pub once : new.begun ≢ None → after.has_secured ≡ before.has_secured

-- The instruction that is begun secures an entry for each block that it stores to, which it had not done before. No more
-- lines are dirty than before, and no entry is taken.
pub record SecuresEntries (o : Origin) (v : View) (old new : Pressure) (before after : Gauge) : Type 0 where
  pub hart : ℕ
  pub is_begun : old.begun ≡ Some hart
  pub none : before.dirty ≡ old.dirty
  pub entries : after.dirty ≡ new.dirty + needs_at o hart v.count
  pub lines : new.dirty ≤ old.dirty
  pub free : before.free ≤ after.free
  pub had_not : before.has_secured ≡ false
  pub has : after.has_secured ≡ true

-- what a cycle that did this makes of the dirty lines: only a hart that moved secures entries
abbrev pub Dirties : Origin → View → Did → Pressure → Pressure → Gauge → Gauge → Type 0
Dirties o v did old new before after =
    UsesEntries v old new before after ⊎ ((did ≡ Moved) × SecuresEntries o v old new before after)
