-- Why the answering ends early.
--
-- stop_of fault e     what a sink's fault is turned into
use Rattle.std.specs.Prelude.{◌≡◌}
use Rattle.topo_outside.specs.declared.fault.SinkFault.{SinkFault}
use Rattle.topo_outside.specs.declared.fault.SinkFault.TheVariants as fault
use Rattle.topo_run.specs.declared.stops.Stop.{Stop}
use Rattle.topo_run.specs.declared.stops.Stop.TheVariants as stop

abbrev pub stop_of : SinkFault → Stop → Type 0
stop_of fault.Failed e = e ≡ stop.WriteFault
stop_of fault.NoMemory e = e ≡ stop.NoMemory
