-- Why a run stops.
use Rattle.thy_computer.specs.declared.error.CoreError.{CoreError}
use Rattle.thy_computer.specs.declared.error.CoreError.TheVariants.{Nvm as ReadFault, Memory as ReadMemory}
use Rattle.thy_run.specs.declared.ending.Stop.{Stop}
use Rattle.thy_run.specs.declared.ending.Stop.TheVariants.{Nvm, Memory}

-- the stop of a read that failed
abbrev pub stop_of : CoreError → Stop
stop_of ReadFault = Nvm
stop_of (ReadMemory e) = Memory
