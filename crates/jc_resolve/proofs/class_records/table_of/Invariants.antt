use Rattle.std.proofs.Common.{◌≡◌, ◌++◌, map}
use Rattle.cap_bytes.specs.Table.{numbers}
use Rattle.jc_resolve.specs.NamedClasses.{dispatch_entry}
use Rattle.jc_resolve.proofs.class_records.table_of.Given as goal

abbrev pub invariant-entries : goal.invariant-entries
invariant-entries l =
    l.entries.items ++ map (dispatch_entry l.home.index.now l.home.number) (numbers l.offset-iterator)
    ≡ map (dispatch_entry l.home.index.now l.home.number) (numbers l.fn.offsets)
