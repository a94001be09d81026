use Rattle.std.proofs.Common.{codes}
use Rattle.cap_text.specs.Start.{start_fault_text}
use Rattle.cap_text.proofs.Rooms.{both}
use Rattle.cap_text.proofs.line.write_not_started.Goals as goal

pub returns : goal.returns
returns c =
    both c.args.room.now c.write.new.self c.write-2.new.self (codes "not started ") _ c.write.ensures
    (both c.write.new.self c.write_start_fault.new.room c.write-2.new.self (start_fault_text c.args.fault) (codes "\n") c.write_start_fault.ensures.writes
    c.write-2.ensures)
