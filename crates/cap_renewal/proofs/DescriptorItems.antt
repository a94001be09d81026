-- A class descriptor with other numbers of methods.
use Rattle.std.proofs.Common.{◌≡◌, ℕ, ◌+◌, ◌*◌, ◌≤◌, List, [], length, map, Option, Bool, true, false, refl, subst, arith}
use Rattle.std.specs.Prelude.{if◌then◌else◌}
use Rattle.std.proofs.lemmas.List.{length-map}
use Rattle.cap_bytes.specs.Grammar.{u1, u2, repeat, table}
use Rattle.cap_bytes.specs.Spelling.{Spells, Stands}
use Rattle.cap_bytes.proofs.Wide.{read_within}
use Rattle.cap_bytes.proofs.UntilLoops.{moves_on}
use Rattle.cap_desc.specs.DescriptorFormat.{FieldDescriptor, MethodDescriptor, ClassDescriptor}
use Rattle.cap_desc.specs.DescriptorFormat.{Descriptor, method_flags, field_descriptor_info}
use Rattle.cap_desc.specs.DescriptorFormat.{method_descriptor_info, class_descriptor_info, descriptor_info}
use Rattle.cap_bytes.specs.Edit.{Edit, patched_all, AreInside, FitBytes}
use Rattle.cap_bytes.specs.Renewal.{Renews, IsEdited, AreSame}
use Rattle.cap_bytes.proofs.Same.{spelled_same, same_part}
use Rattle.cap_bytes.proofs.Patches.{edited_split, edited_last, inside_to, inside_from}
use Rattle.cap_renewal.specs.declared.new_methods.NewMethod.{NewMethod}
use Rattle.cap_bytes.specs.Bytes.{AreBytes}
use Rattle.cap_renewal.specs.NewMethods.{AreSmall, IsSmall, new_numbers}
use Rattle.cap_renewal.specs.DescriptorEdits.{method_by, renewed_method, edits_to, method_edits}
use Rattle.cap_renewal.specs.DescriptorEdits.{method_width, methods_edits, before_methods, renewed_class}
use Rattle.cap_renewal.specs.DescriptorEdits.{class_edits, class_width, descriptor_edits, renewed_descriptor}
use Rattle.cap_renewal.proofs.Items.{IsItem, IsFit, all_inside, all_fit, all_renewed, all_wide, IsRenewing, has_more}
use Rattle.cap_renewal.proofs.Numbers.{number_small, wide_u2}
use Rattle.cap_renewal.proofs.News.{small_numbers}

-- ---- a method

record HasMethod (bytes : List ℕ) (at : ℕ) (m : MethodDescriptor) (after : ℕ) : Type 0 where
  byte : ℕ
  token : Spells u1 bytes at m.token (at + 1)
  flags : Spells u1 bytes (at + 1) byte (at + 2)
  flagged : m.flags ≡ method_flags byte
  offset : Spells u2 bytes (at + 2) m.method_offset (at + 4)
  type_of : Spells u2 bytes (at + 4) m.type_offset (at + 6)
  bytecodes : Spells u2 bytes (at + 6) m.bytecode_count (at + 8)
  handlers : Spells u2 bytes (at + 8) m.handler_count (at + 10)
  index : Spells u2 bytes (at + 10) m.handler_index (at + 12)
  end : after ≡ at + 12

has_method : (bytes : List ℕ) (at : ℕ) (m : MethodDescriptor) (after : ℕ) → Spells method_descriptor_info bytes at m after
    → HasMethod bytes at m after
unfolding Spells
has_method bytes at m after h = grind (arith)

method_made : (bytes : List ℕ) (at : ℕ) (m : MethodDescriptor) (after : ℕ) → HasMethod bytes at m after
    → Spells method_descriptor_info bytes at m after
unfolding Spells
method_made bytes at m after h = (
  m.token,
  at + 1,
  h.token,
  (
    h.byte,
    at + 2,
    h.flags,
    (
      m.method_offset,
      at + 4,
      h.offset,
      (
        m.type_offset,
        at + 6,
        h.type_of,
        (
          m.bytecode_count,
          at + 8,
          h.bytecodes,
          (m.handler_count, at + 10, h.handlers, (m.handler_index, at + 12, h.index, (same m h.byte h.flagged, h.end))),
        ),
      ),
    ),
  ),
)
  where
    same : (m : MethodDescriptor) (byte : ℕ) → m.flags ≡ method_flags byte
        → m ≡ record {
          token = m.token;
          flags = method_flags byte;
          method_offset = m.method_offset;
          type_offset = m.type_offset;
          bytecode_count = m.bytecode_count;
          handler_count = m.handler_count;
          handler_index = m.handler_index;
        }
    same m byte e = rw (← e) refl

edited_method : (bytes out : List ℕ) (at : ℕ) (m : MethodDescriptor) (n : NewMethod) (after : ℕ) → length out ≡ length bytes
    → HasMethod bytes at m after → IsEdited (edits_to at n) at after bytes out → HasMethod out at (method_by m n) after
unfolding Spells
edited_method bytes out at m n after len p ed =
    let end = p.end in
    let a = ed.0 in
    let b = ed.2.0 in
    record {
      byte = p.byte;
      token = spelled_same u1 bytes out at m.token (at + 1) len (same_part at (at + 2) at (at + 1) bytes out a (omega arith) (omega arith)) p.token;
      flags = spelled_same u1 bytes out (at + 1) p.byte (at + 2) len (same_part at (at + 2) (at + 1) (at + 2) bytes out a (omega arith) (omega arith)) p.flags;
      flagged = p.flagged;
      offset = (ed.1.number, refl, omega arith);
      type_of =
          spelled_same u2 bytes out (at + 4) m.type_offset (at + 6) len
          (same_part (at + 2 + 2) (at + 6) (at + 4) (at + 6) bytes out b (omega arith) (omega arith)) p.type_of;
      bytecodes = (ed.2.1.number, refl, omega arith);
      handlers = (ed.2.2.1.number, refl, omega arith);
      index = (ed.2.2.2.1.number, refl, omega arith);
      end = end;
    }

pub method_item : (news : List (Option NewMethod)) (bytes : List ℕ) → IsItem method_descriptor_info (method_edits news) method_width
    (renewed_method news) bytes
method_item news bytes = grind (arith, has_method, method_made, edited_method)

method_fit : (news : List (Option NewMethod)) (bytes : List ℕ) → AreBytes bytes → AreSmall news → IsFit method_descriptor_info (method_edits news) bytes
unfolding Spells
method_fit news bytes are small = record {
  fit = λ at m after h.
      let p = has_method bytes at m after h in
      let s : IsSmall (new_numbers news m) = small_numbers news m small (number_small (at + 2) bytes m.method_offset are p.offset.0)
      (number_small (at + 6) bytes m.bytecode_count are p.bytecodes.0)
      (number_small (at + 8) bytes m.handler_count are p.handlers.0) (number_small (at + 10) bytes m.handler_index are p.index.0) in
      (s.offset, (s.bytecode_count, (s.handler_count, (s.handler_index, tt))));
}

-- ---- a class

wide_field : (bytes : List ℕ) (at : ℕ) (f : FieldDescriptor) (after : ℕ) → Spells field_descriptor_info bytes at f after → after ≡ at + 7
unfolding Spells
wide_field bytes at f after h = grind (arith)

record HasClass (bytes : List ℕ) (at : ℕ) (c : ClassDescriptor) (after : ℕ) : Type 0 where
  byte : ℕ
  interface_count : ℕ
  field_count : ℕ
  method_count : ℕ
  token : Spells u1 bytes at c.token (at + 1)
  flags : Spells u1 bytes (at + 1) byte (at + 2)
  reference : Spells u2 bytes (at + 2) c.class_ref (at + 4)
  interfaces_counted : Spells u1 bytes (at + 4) interface_count (at + 5)
  fields_counted : Spells u2 bytes (at + 5) field_count (at + 7)
  methods_counted : Spells u2 bytes (at + 7) method_count (at + 9)
  interfaces : Spells (repeat interface_count u2) bytes (at + 9) c.interfaces (at + 9 + 2 * length c.interfaces)
  fields : Spells (repeat field_count field_descriptor_info) bytes (at + 9 + 2 * length c.interfaces) c.fields (at + before_methods c)
  methods : Spells (repeat method_count method_descriptor_info) bytes (at + before_methods c) c.methods after
  end : after ≡ at + class_width c

has_class : (bytes : List ℕ) (at : ℕ) (c : ClassDescriptor) (after : ℕ) → Spells class_descriptor_info bytes at c after → HasClass bytes at c after
unfolding Spells table
has_class bytes at c after h =
    let f = h.3 in
    let r = f.3 in
    let ic = r.3 in
    let fc = ic.3 in
    let mc = fc.3 in
    let is = mc.3 in
    let fs = is.3 in
    let ms = fs.3 in
    let m1 : h.1 ≡ at + 1 = h.2.2 in
    let m2 : f.1 ≡ at + 2 = omega (arith, f.2.2, m1) in
    let m4 : r.1 ≡ at + 4 = omega (arith, r.2.2, m2) in
    let m5 : ic.1 ≡ at + 5 = omega (arith, ic.2.2, m4) in
    let m7 : fc.1 ≡ at + 7 = omega (arith, fc.2.2, m5) in
    let m9 : mc.1 ≡ at + 9 = omega (arith, mc.2.2, m7) in
    let iw = all_wide u2 2 bytes (wide_u2 bytes) ic.0 mc.1 is.0 is.1 is.2 in
    let mi : is.1 ≡ at + 9 + 2 * length is.0 = omega (arith, iw, m9) in
    let fw = all_wide field_descriptor_info 7 bytes (wide_field bytes) fc.0 is.1 fs.0 fs.1 fs.2 in
    let mf : fs.1 ≡ at + (9 + 2 * length is.0 + 7 * length fs.0) = omega (arith, fw, mi) in
    let mw = all_wide method_descriptor_info 12 bytes (λ a x b s. (has_method bytes a x b s).end) mc.0 fs.1 ms.0 ms.1 ms.2 in
    let whole : c ≡ record { token = h.0; class_ref = r.0; interfaces = is.0; fields = fs.0; methods = ms.0 } = ms.3.0 in
    let z : after ≡ ms.1 = ms.3.1 in
    rw (whole, z) (record {
      byte = f.0;
      interface_count = ic.0;
      field_count = fc.0;
      method_count = mc.0;
      token = subst (λ k. Spells u1 bytes at h.0 k) m1 h.2;
      flags = rw (← m2, ← m1) f.2;
      reference = rw (← m4, ← m2) r.2;
      interfaces_counted = rw (← m5, ← m4) ic.2;
      fields_counted = rw (← m7, ← m5) fc.2;
      methods_counted = rw (← m9, ← m7) mc.2;
      interfaces = rw (← mi, ← m9) is.2;
      fields = rw (← mf, ← mi) fs.2;
      methods = rw (← mf) ms.2;
      end = omega (arith, mw, mf);
    })

class_made : (bytes : List ℕ) (at : ℕ) (c : ClassDescriptor) (after : ℕ) → HasClass bytes at c after → Spells class_descriptor_info bytes at c after
unfolding Spells table
class_made bytes at c after h = (
  c.token,
  at + 1,
  h.token,
  (
    h.byte,
    at + 2,
    h.flags,
    (
      c.class_ref,
      at + 4,
      h.reference,
      (
        h.interface_count,
        at + 5,
        h.interfaces_counted,
        (
          h.field_count,
          at + 7,
          h.fields_counted,
          (
            h.method_count,
            at + 9,
            h.methods_counted,
            (
              c.interfaces,
              at + 9 + 2 * length c.interfaces,
              h.interfaces,
              (c.fields, at + before_methods c, h.fields, (c.methods, after, h.methods, (refl, refl))),
            ),
          ),
        ),
      ),
    ),
  ),
)

-- the same with a test of the reference that is known
class_by : Bool → List (Option NewMethod) → ClassDescriptor → ClassDescriptor
class_by b news c = if b then c else record c { methods = map (renewed_method news) c.methods }

edits_by : Bool → List (Option NewMethod) → ℕ → ClassDescriptor → List Edit
edits_by b news at c = if b then [] else methods_edits news (at + before_methods c) c.methods

methods_inside : (news : List (Option NewMethod)) (bytes : List ℕ) (at : ℕ) (c : ClassDescriptor) (after : ℕ) → HasClass bytes at c after
    → AreInside (methods_edits news (at + before_methods c) c.methods) (at + before_methods c) after
methods_inside news bytes at c after p =
    all_inside method_descriptor_info (method_edits news) method_width (renewed_method news) bytes (method_item news bytes) p.method_count
    (at + before_methods c) c.methods after p.methods

by_inside : (b : Bool) (news : List (Option NewMethod)) (bytes : List ℕ) (at : ℕ) (c : ClassDescriptor) (after : ℕ) → HasClass bytes at c after
    → AreInside (edits_by b news at c) at after
unfolding edits_by
by_inside true news bytes at c after p = let e = p.end in omega arith
by_inside false news bytes at c after p =
    inside_from (methods_edits news (at + before_methods c) c.methods) at (at + before_methods c) after (omega arith)
    (methods_inside news bytes at c after p)

by_fit : (b : Bool) (news : List (Option NewMethod)) (bytes : List ℕ) (at : ℕ) (c : ClassDescriptor) (after : ℕ) → AreBytes bytes → AreSmall news
    → HasClass bytes at c after → FitBytes (edits_by b news at c)
unfolding edits_by
by_fit true news bytes at c after are small p = tt
by_fit false news bytes at c after are small p =
    all_fit method_descriptor_info (method_edits news) method_width (renewed_method news) bytes (method_item news bytes) (method_fit news bytes are small)
    p.method_count (at + before_methods c) c.methods after p.methods

by_renewed : (b : Bool) (news : List (Option NewMethod)) (bytes out : List ℕ) (at : ℕ) (c : ClassDescriptor) (after : ℕ)
    → length out ≡ length bytes → Spells class_descriptor_info bytes at c after → IsEdited (edits_by b news at c) at after bytes out
    → Spells class_descriptor_info out at (class_by b news c) after
unfolding edits_by class_by
by_renewed true news bytes out at c after len h ed = spelled_same class_descriptor_info bytes out at c after len ed h
by_renewed false news bytes out at c after len h ed =
    let p = has_class bytes at c after h in
    let mid = at + before_methods c in
    let both = edited_split [] (methods_edits news mid c.methods) at mid after bytes out (omega arith) (methods_inside news bytes at c after p) ed in
    let s = both.0 in
    let count = length-map c.methods (renewed_method news) in
    let end = p.end in
    class_made out at (record c { methods = map (renewed_method news) c.methods }) after (record {
      byte = p.byte;
      interface_count = p.interface_count;
      field_count = p.field_count;
      method_count = p.method_count;
      token = spelled_same u1 bytes out at c.token (at + 1) len (same_part at mid at (at + 1) bytes out s (omega arith) (omega arith)) p.token;
      flags = spelled_same u1 bytes out (at + 1) p.byte (at + 2) len (same_part at mid (at + 1) (at + 2) bytes out s (omega arith) (omega arith)) p.flags;
      reference = grind (arith, spelled_same, same_part);
      interfaces_counted = grind (arith, spelled_same, same_part);
      fields_counted = grind (arith, spelled_same, same_part);
      methods_counted = grind (arith, spelled_same, same_part);
      interfaces = grind (arith, spelled_same, same_part);
      fields = grind (arith, spelled_same, same_part);
      methods =
          all_renewed method_descriptor_info (method_edits news) method_width (renewed_method news) bytes (method_item news bytes) out len p.method_count
          mid c.methods after p.methods both.1;
      end = omega arith;
    })

edits_are : (interfaces : ℕ → Bool) (news : List (Option NewMethod)) (at : ℕ) (c : ClassDescriptor)
    → class_edits interfaces news at c ≡ edits_by (interfaces c.class_ref) news at c
unfolding edits_by
edits_are interfaces news at c = refl

class_is : (interfaces : ℕ → Bool) (news : List (Option NewMethod)) (c : ClassDescriptor) → class_by (interfaces c.class_ref) news c
    ≡ renewed_class interfaces news c
unfolding class_by
class_is interfaces news c = refl

pub class_item : (interfaces : ℕ → Bool) (news : List (Option NewMethod)) (bytes : List ℕ)
    → IsItem class_descriptor_info (class_edits interfaces news) class_width (renewed_class interfaces news) bytes
class_item interfaces news bytes = grind (arith, has_class, edits_are, by_inside, class_is, by_renewed)

class_fit : (interfaces : ℕ → Bool) (news : List (Option NewMethod)) (bytes : List ℕ) → AreBytes bytes → AreSmall news
    → IsFit class_descriptor_info (class_edits interfaces news) bytes
class_fit interfaces news bytes are small = grind (arith, edits_are, by_fit, has_class)

-- the methods of a class that is no interface stand in the info
pub class_room : (bytes : List ℕ) (at : ℕ) (c : ClassDescriptor) (after : ℕ) → Spells class_descriptor_info bytes at c after
    → after ≡ at + before_methods c + 12 * length c.methods
class_room bytes at c after h = let e = (has_class bytes at c after h).end in omega arith

-- ---- the component

pub record HasClasses (bytes : List ℕ) (d : Descriptor) : Type 0 where
  pub count : ℕ
  pub after : ℕ
  pub head : Spells u1 bytes 0 count 1
  pub items : Spells (repeat count class_descriptor_info) bytes 1 d.classes d.types_start
  pub start : d.types_start ≤ length bytes
  pub pool_count : ℕ
  pub counted : Spells u2 bytes d.types_start pool_count (d.types_start + 2)
  pub types : Spells (table pool_count) bytes (d.types_start + 2) d.pool_types after
  pub within : after ≤ length bytes
  pub some : 1 ≤ length bytes

pub has_classes : (bytes : List ℕ) (d : Descriptor) → Stands descriptor_info bytes d → HasClasses bytes d
unfolding Stands Spells
has_classes bytes d s = grind (arith, read_within)

classes_made : (bytes : List ℕ) (d : Descriptor) → HasClasses bytes d → Stands descriptor_info bytes d
unfolding Stands Spells
classes_made bytes d h = grind (arith)

before_types : (interfaces : ℕ → Bool) (news : List (Option NewMethod)) (bytes : List ℕ) (d : Descriptor) (h : HasClasses bytes d)
    → AreInside (descriptor_edits interfaces news d.classes) 1 d.types_start
before_types interfaces news bytes d h =
    all_inside class_descriptor_info (class_edits interfaces news) class_width (renewed_class interfaces news) bytes (class_item interfaces news bytes)
    h.count 1 d.classes d.types_start h.items

pub descriptor_inside : (interfaces : ℕ → Bool) (news : List (Option NewMethod)) (bytes : List ℕ) (d : Descriptor) → Stands descriptor_info bytes d
    → AreInside (descriptor_edits interfaces news d.classes) 0 (length bytes)
descriptor_inside interfaces news bytes d s =
    let h = has_classes bytes d s in
    inside_from (descriptor_edits interfaces news d.classes) 0 1 (length bytes) (omega arith)
    (inside_to (descriptor_edits interfaces news d.classes) 1 d.types_start (length bytes) (before_types interfaces news bytes d h) h.start)

pub descriptor_fit : (interfaces : ℕ → Bool) (news : List (Option NewMethod)) (bytes : List ℕ) (d : Descriptor) → AreBytes bytes → AreSmall news
    → Stands descriptor_info bytes d → FitBytes (descriptor_edits interfaces news d.classes)
descriptor_fit interfaces news bytes d are small s =
    grind (arith, has_classes bytes d s, class_item interfaces news bytes, class_fit interfaces news bytes are small, all_fit)

pub record IsRenewed (interfaces : ℕ → Bool) (news : List (Option NewMethod)) (bytes out : List ℕ) (d : Descriptor) : Type 0 where
  pub stands : Stands descriptor_info out (renewed_descriptor interfaces news d)
  pub types : AreSame d.types_start (length bytes) bytes out

pub descriptor_renewed : (interfaces : ℕ → Bool) (news : List (Option NewMethod)) (bytes out : List ℕ) (d : Descriptor)
    → Stands descriptor_info bytes d → Renews (descriptor_edits interfaces news d.classes) bytes out → IsRenewed interfaces news bytes out d
descriptor_renewed interfaces news bytes out d s r =
    let h = has_classes bytes d s in
    let len = r.long in
    let es = descriptor_edits interfaces news d.classes in
    let inside = before_types interfaces news bytes d h in
    let all = inside_to es 1 d.types_start (length bytes) inside h.start in
    let both = edited_split [] es 0 1 (length bytes) bytes out (omega arith) all r.inside in
    let last = edited_last es 1 d.types_start (length bytes) bytes out inside h.start both.1 in
    let same = last.1 in
    let two : d.types_start + 2 ≤ h.after = moves_on (table h.pool_count) bytes (d.types_start + 2) d.pool_types h.after h.types in
    let within = h.within in
    record {
      stands = classes_made out (renewed_descriptor interfaces news d) (record {
        count = h.count;
        after = h.after;
        head = spelled_same u1 bytes out 0 h.count 1 len both.0 h.head;
        items =
            all_renewed class_descriptor_info (class_edits interfaces news) class_width (renewed_class interfaces news) bytes
            (class_item interfaces news bytes) out len h.count 1 d.classes d.types_start h.items last.0;
        start = omega (arith, h.start, len);
        pool_count = h.pool_count;
        counted =
            spelled_same u2 bytes out d.types_start h.pool_count (d.types_start + 2) len
            (same_part d.types_start (length bytes) d.types_start (d.types_start + 2) bytes out same (omega arith) (omega arith)) h.counted;
        types =
            spelled_same (table h.pool_count) bytes out (d.types_start + 2) d.pool_types h.after len
            (same_part d.types_start (length bytes) (d.types_start + 2) h.after bytes out same (omega arith) (omega arith)) h.types;
        within = omega (arith, h.within, len);
        some = omega (arith, h.some, len);
      });
      types = same;
    }

-- where the loop over the classes begins
pub descriptor_begins : (interfaces : ℕ → Bool) (news : List (Option NewMethod)) (bytes : List ℕ) (d : Descriptor) → Stands descriptor_info bytes d
    → IsRenewing class_descriptor_info (class_edits interfaces news) class_width bytes (patched_all (descriptor_edits interfaces news d.classes) bytes) 1
    d.classes bytes
descriptor_begins interfaces news bytes d s = grind (arith, has_classes bytes d s, has_more)
