-- The Class component and its records as values of the program.
use Rattle.std.specs.Prelude.{ℕ, false, List, [], Result, Ok, Err}
use Rattle.cap_bytes.specs.Grammar.{repeat, until_end}
use Rattle.cap_bytes.specs.Table.{numbers}
use Rattle.cap_bytes.specs.declared.fault.FormFault.{FormFault}
use Rattle.cap_bytes.specs.declared.cursor.Cursor.{Cursor}
use Rattle.cap_bytes.specs.Taking.{Taken, TakingFails, given}
use Rattle.cap_class.specs.declared.class_info.Instance.{Instance}
use Rattle.cap_class.specs.declared.class_info.DispatchTables.{DispatchTables}
use Rattle.cap_class.specs.declared.class_info.ClassInfo.{ClassInfo}
use Rattle.cap_class.specs.declared.class_info.ClassInfos.{ClassInfos}
use Rattle.cap_class.specs.declared.class_info.ClassPart.{ClassPart}
use Rattle.cap_class.specs.ClassFormat as format
use Rattle.cap_class.specs.ClassFormat.{any_record, record_info, is_after}
use Rattle.cap_class.specs.Lists.{interfaces_left}

abbrev pub instance_seen : Instance → format.Instance
instance_seen i = record {
  super_ref = i.super_ref;
  instance_size = i.instance_size;
  first_reference = i.first_reference;
  reference_count = i.reference_count;
}

abbrev pub tables_seen : DispatchTables → format.DispatchTables
tables_seen t = record {
  public_base = t.public_base;
  package_base = t.package_base;
  public = numbers t.public;
  visible = numbers t.visible;
}

abbrev pub class_seen : ClassInfo → format.Class
class_seen c = record {
  offset = c.offset;
  flags = c.flags.0;
  super_ref = c.instance.super_ref;
  instance_size = c.instance.instance_size;
  first_reference = c.instance.first_reference;
  reference_count = c.instance.reference_count;
  public_base = c.tables.public_base;
  public = numbers c.tables.public;
  package_base = c.tables.package_base;
  visible = numbers c.tables.visible;
  interfaces = interfaces_left c.interfaces;
}

-- the records that an iterator has left
abbrev pub classes_left : ClassInfos → List format.Class
classes_left x = given [] (repeat x.left any_record) x.items

-- the records of the component
abbrev pub records : ClassPart → List format.Class
records x = classes_left x.classes

-- the records up to the end are passed, which are so many that may stand anywhere; or the first item that
-- breaks the format gives the fault
abbrev pub PassesRecords : Cursor → Result ℕ FormFault → Cursor → Type 0
PassesRecords before (Ok count) after = (xs : List format.Class)
    × Taken (until_end record_info is_after false) before xs after
    × Taken (repeat count any_record) before xs after
PassesRecords before (Err fault) after = TakingFails (until_end record_info is_after false) before fault
