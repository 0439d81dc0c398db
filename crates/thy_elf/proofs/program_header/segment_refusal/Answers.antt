use Rattle.std.proofs.Common.{rules}
use Rattle.thy_elf.proofs.program_header.segment_refusal.Goals as goal

pub returns-then-cut-clause-first : goal.returns-then-cut-clause-first
returns-then-cut-clause-first c = search rules
