use Rattle.vm_store.proofs.TypedHeaps.{heap-read, heap-write}
use Rattle.vm_store.proofs.laws.typed_heaps_stay_typed.Goals as goal

pub returns-clause-reads : goal.returns-clause-reads
returns-clause-reads c = heap-read c.args.classes.now

pub returns-clause-writes : goal.returns-clause-writes
returns-clause-writes c = heap-write c.args.classes.now
