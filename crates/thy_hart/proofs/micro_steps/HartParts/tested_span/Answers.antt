use Rattle.thy_hart.proofs.FetchLemmas.{fetched_low}
use Rattle.thy_hart.proofs.micro_steps.HartParts.tested_span.Goals as goal

pub overflow_sub-result : goal.overflow_sub-result
overflow_sub-result c =
    fetched_low c.args.self.now.geometry c.numbers-base.result c.program_size-size.result c.pc-pc.result c.fetch_fault.result
    c.numbers-base.ensures.same c.program_size-size.ensures.size c.fetch_fault.ensures c.in-None.is
