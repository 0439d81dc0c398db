use Rattle.std.proofs.Common.{fold, take}
use Rattle.thy_base.specs.Options.{fields}
use Rattle.thy_base.specs.CommandLine.{IsBuilt, begun, with_argument, with_field}
use Rattle.thy_base.proofs.arguments.command_line.command.Given as goal

abbrev pub invariant-loop-item : goal.invariant-loop-item
invariant-loop-item l =
    IsBuilt l.wider (fold with_argument (fold (with_field l.fn.commands) (begun l.fn.name l.fn.first) fields) (take l.item-index l.others))
