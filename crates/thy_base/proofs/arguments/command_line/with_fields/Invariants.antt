use Rattle.std.proofs.Common.{fold, take}
use Rattle.thy_base.specs.Options.{fields}
use Rattle.thy_base.specs.CommandLine.{IsBuilt, begun, with_field}
use Rattle.thy_base.proofs.arguments.command_line.with_fields.Given as goal

abbrev pub invariant-loop-field : goal.invariant-loop-field
invariant-loop-field l = IsBuilt l.wider (fold (with_field l.fn.commands) (begun l.fn.name l.fn.first) (take l.field-index fields))
