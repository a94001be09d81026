-- The format of the Class component (JCVM 2.2, section 6.8), in the formats 2.1 and 2.2: in 2.2 the signature pool,
-- which is carried unread, then the interfaces, then the classes.
use Rattle.std.specs.Prelude.{ℕ, ◌/◌, ◌%◌, Bool, true, false, not, ◌||◌, ◌&&◌, ◌==◌, if◌then◌else◌, List, []}
use Rattle.std.specs.Prelude.{Option, Some, None}
use Rattle.std.specs.Int.RustNames.{bit_and}
use Rattle.cap_bytes.specs.declared.fault.FormKind.{FormKind}
use Rattle.cap_bytes.specs.declared.fault.FormKind.TheVariants.{BadValue, Remote}
use Rattle.cap_bytes.specs.declared.fault.Format.{Format}
use Rattle.cap_bytes.specs.declared.fault.Format.TheVariants.{V21, V22}
use Rattle.cap_bytes.specs.Grammar.{Grammar, number, u1, u2, piece, repeat, table, until_end, place, give, ◌>>=◌}

-- implemented_interface_info: the interface, and for each of its tokens the class's own
pub record Interface : Type 0 where
  pub class_ref : ℕ
  pub tokens : List ℕ

-- class_info, at its offset; an interface has no superclass, no fields, no tables, and the interfaces that it
-- extends
pub record Class : Type 0 where
  pub offset : ℕ
  pub flags : ℕ
  pub super_ref : ℕ
  pub instance_size : ℕ
  pub first_reference : ℕ
  pub reference_count : ℕ
  pub public_base : ℕ
  pub public : List ℕ
  pub package_base : ℕ
  pub visible : List ℕ
  pub interfaces : List Interface

-- ---- the first byte: flags in the high nibble, the number of interfaces in the low one

-- the bits that have a name: interface, shareable, remote
abbrev pub class_flags : ℕ → ℕ
class_flags first = bit_and (first / 16) 14

abbrev pub is_interface : ℕ → Bool
is_interface flags = bit_and flags 8 == 8

abbrev pub is_remote : ℕ → Bool
is_remote flags = bit_and flags 2 == 2

-- no interface stands after a class, and none is remote
abbrev pub wrong_record : Bool → ℕ → Option FormKind
wrong_record after_class first =
    if after_class && is_interface (class_flags first) then Some BadValue
    else (if is_remote (class_flags first) then Some Remote else None)

-- ---- the parts of a record

-- an interface that an interface extends, or one that a class implements
abbrev pub interface_info : Bool → Grammar Interface
interface_info true = do
  class_ref ← u2
  give (record { class_ref = class_ref; tokens = [] })
interface_info false = do
  class_ref ← u2
  count ← u1
  tokens ← piece count
  give (record { class_ref = class_ref; tokens = tokens })

-- the superclass, and what an instance has of its own
pub record Instance : Type 0 where
  pub super_ref : ℕ
  pub instance_size : ℕ
  pub first_reference : ℕ
  pub reference_count : ℕ

abbrev pub instance_info : Grammar Instance
instance_info = do
  super_ref ← u2
  declared_instance_size ← u1
  first_reference_token ← u1
  reference_count ← u1
  give (record {
    super_ref = super_ref;
    instance_size = declared_instance_size;
    first_reference = first_reference_token;
    reference_count = reference_count;
  })

-- the public and the package-visible dispatch table, each with the token of its first entry
pub record DispatchTables : Type 0 where
  pub public_base : ℕ
  pub package_base : ℕ
  pub public : List ℕ
  pub visible : List ℕ

abbrev pub tables_info : Grammar DispatchTables
tables_info = do
  public_base ← u1
  public_count ← u1
  package_base ← u1
  package_count ← u1
  public ← table public_count
  visible ← table package_count
  give (record { public_base = public_base; package_base = package_base; public = public; visible = visible })

-- ---- records

abbrev pub of_interface : ℕ → ℕ → List Interface → Class
of_interface offset first interfaces = record {
  offset = offset;
  flags = class_flags first;
  super_ref = 0xFFFF;
  instance_size = 0;
  first_reference = 0;
  reference_count = 0;
  public_base = 0;
  public = [];
  package_base = 0;
  visible = [];
  interfaces = interfaces;
}

abbrev pub of_class : ℕ → ℕ → Instance → DispatchTables → List Interface → Class
of_class offset first i t interfaces = record {
  offset = offset;
  flags = class_flags first;
  super_ref = i.super_ref;
  instance_size = i.instance_size;
  first_reference = i.first_reference;
  reference_count = i.reference_count;
  public_base = t.public_base;
  public = t.public;
  package_base = t.package_base;
  visible = t.visible;
  interfaces = interfaces;
}

-- what stands after the first byte of an interface, and of a class
abbrev pub beyond_first : Bool → ℕ → ℕ → Grammar Class
beyond_first true offset first = do
  interfaces ← repeat (first % 16) (interface_info true)
  give (of_interface offset first interfaces)
beyond_first false offset first = do
  i ← instance_info
  t ← tables_info
  interfaces ← repeat (first % 16) (interface_info false)
  give (of_class offset first i t interfaces)

-- a record, after a class or not
unfoldable pub record_info : Bool → Grammar Class
record_info after_class = do
  offset ← place
  first ← number 1 (wrong_record after_class)
  beyond_first (is_interface (class_flags first)) offset first

-- a record that may stand anywhere
abbrev pub any_record : Grammar Class
any_record = record_info false

-- whether a class stands before what comes next
abbrev pub is_after : Bool → Class → Bool
is_after after_class c = after_class || not (is_interface c.flags)

-- the signature pool, which format 2.1 does not have
abbrev pub signature_pool : Format → Grammar (List ℕ)
signature_pool V21 = give []
signature_pool V22 = do
  length ← u2
  piece length

-- the component
abbrev pub classes_info : Format → Grammar (List Class)
classes_info format = do
  pool ← signature_pool format
  until_end record_info is_after false
