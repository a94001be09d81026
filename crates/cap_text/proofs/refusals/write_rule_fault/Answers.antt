-- a name and a type, twice
use Rattle.std.proofs.Common.{codes, ◌++◌, [], subst, sym}
use Rattle.cap_text.specs.Room.{Writes}
use Rattle.cap_text.specs.Rule.{type_text, rule_fault_text}
use Rattle.cap_text.proofs.Rooms.{both, last}
use Rattle.cap_text.proofs.refusals.write_rule_fault.Goals as goal

pub returns-in-Mismatch-clause-writes : goal.returns-in-Mismatch-clause-writes
returns-in-Mismatch-clause-writes c =
    let found = c.write_type.new.room in
    let end = c.write_type-in-Mismatch.new.room in
    let wanted = type_text c.in-Mismatch.wanted in
    subst (λ f. Writes c.args.room.now end (rule_fault_text f)) (sym c.in-Mismatch.is)
    (both c.args.room.now c.write-in-Mismatch.new.self end (codes "Mismatch found ") _ c.write-in-Mismatch.ensures
    (both c.write-in-Mismatch.new.self found end (type_text c.in-Mismatch.found) _ c.write_type.ensures.writes
    (both found c.write-in-Mismatch-2.new.self end (codes " wanted ") (wanted ++ []) c.write-in-Mismatch-2.ensures
    (last c.write-in-Mismatch-2.new.self end wanted c.write_type-in-Mismatch.ensures.writes))))
