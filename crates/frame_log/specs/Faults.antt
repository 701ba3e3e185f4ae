-- Faults of a log as faults of a store over it.
use Rattle.frame_log.specs.declared.fault.LogFault.{LogFault}
use Rattle.frame_log.specs.declared.fault.LogFault.TheVariants as log
use Rattle.frame_log.specs.declared.fault.StartFault.{StartFault}
use Rattle.frame_log.specs.declared.fault.StartFault.TheVariants as start

-- the fault of a start for a fault of its log
abbrev pub start_fault : LogFault → StartFault
start_fault (log.Damaged at) = start.Damaged at
start_fault log.StoreFault = start.StoreFault
start_fault log.NoMemory = start.NoMemory
