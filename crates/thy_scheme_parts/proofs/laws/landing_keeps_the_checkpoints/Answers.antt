use Rattle.thy_scheme_parts.specs.Design.{design_of}
use Rattle.thy_scheme_parts.proofs.SafeLemmas.{same_reads_keep, dram_drain_keeps}
use Rattle.thy_scheme_parts.proofs.laws.landing_keeps_the_checkpoints.Goals as goal

pub returns-clause-nvm : goal.returns-clause-nvm
returns-clause-nvm g c = same_reads_keep (design_of g.P.Fills.filling g.P.Checkpoints.items g.P.Parts.parts) g.met.P.Parts.are_parts.design

pub returns-clause-dram : goal.returns-clause-dram
returns-clause-dram g c = dram_drain_keeps (design_of g.P.Fills.filling g.P.Checkpoints.items g.P.Parts.parts) g.met.P.Parts.are_parts.design
