-- An exported class with other offsets of methods.
use Rattle.std.proofs.Common.{◌≡◌, ℕ, ◌+◌, ◌*◌, ◌≤◌, List, [], length, map, refl, subst, arith}
use Rattle.std.proofs.lemmas.List.{length-map}
use Rattle.cap_bytes.specs.Grammar.{u1, u2, repeat, table}
use Rattle.cap_bytes.specs.Spelling.{Spells, Stands}
use Rattle.cap_bytes.proofs.Wide.{read_within}
use Rattle.cap_pool.specs.ExportFormat.{Exported, class_export_info, export_info}
use Rattle.cap_bytes.specs.Edit.{patched_all, AreInside, FitBytes}
use Rattle.cap_bytes.specs.Renewal.{Renews}
use Rattle.cap_bytes.proofs.Same.{spelled_same, same_part}
use Rattle.cap_bytes.proofs.Patches.{edited_split, inside_from}
use Rattle.cap_bytes.specs.Bytes.{AreBytes}
use Rattle.cap_renewal.specs.NewMethods.{KeepsSmall}
use Rattle.cap_renewal.specs.ExportEdits.{renewed_exported, exported_edits, exported_width, export_edits}
use Rattle.cap_renewal.specs.Along.{number_edits, two_bytes}
use Rattle.cap_renewal.proofs.Items.{IsItem, IsFit, all_inside, all_fit, all_renewed, all_wide, IsRenewing, has_more}
use Rattle.cap_renewal.proofs.Numbers.{number_item, number_fit, wide_u2}

record HasExported (bytes : List ℕ) (at : ℕ) (c : Exported) (after : ℕ) : Type 0 where
  field_count : ℕ
  method_count : ℕ
  offset : Spells u2 bytes at c.class_offset (at + 2)
  fields_counted : Spells u1 bytes (at + 2) field_count (at + 3)
  methods_counted : Spells u1 bytes (at + 3) method_count (at + 4)
  fields : Spells (repeat field_count u2) bytes (at + 4) c.fields (at + (4 + 2 * length c.fields))
  methods : Spells (repeat method_count u2) bytes (at + (4 + 2 * length c.fields)) c.methods after
  end : after ≡ at + exported_width c

has_exported : (bytes : List ℕ) (at : ℕ) (c : Exported) (after : ℕ) → Spells class_export_info bytes at c after → HasExported bytes at c after
unfolding Spells table
has_exported bytes at c after h =
    let o = h.3 in
    let f = o.3 in
    let g = f.3 in
    let m = g.3 in
    let a : h.1 ≡ at + 2 = h.2.2 in
    let b : o.1 ≡ h.1 + 1 = o.2.2 in
    let d : f.1 ≡ o.1 + 1 = f.2.2 in
    let fw : g.1 ≡ f.1 + 2 * length g.0 = all_wide u2 2 bytes (wide_u2 bytes) o.0 f.1 g.0 g.1 g.2 in
    let mw : m.1 ≡ g.1 + 2 * length m.0 = all_wide u2 2 bytes (wide_u2 bytes) f.0 g.1 m.0 m.1 m.2 in
    let is : c ≡ record { class_offset = h.0; fields = g.0; methods = m.0 } = m.3.0 in
    let z : after ≡ m.1 = m.3.1 in
    let three : o.1 ≡ at + 3 = omega arith in
    let four : f.1 ≡ at + 4 = omega arith in
    let there : g.1 ≡ at + (4 + 2 * length g.0) = omega arith in
    rw (is, z) (record {
      field_count = o.0;
      method_count = f.0;
      offset = subst (λ k. Spells u2 bytes at h.0 k) a h.2;
      fields_counted = rw (← three, ← a) o.2;
      methods_counted = rw (← four, ← three) f.2;
      fields = rw (← there, ← four) g.2;
      methods = rw (← there) m.2;
      end = omega arith;
    })

exported_made : (bytes : List ℕ) (at : ℕ) (c : Exported) (after : ℕ) → HasExported bytes at c after → Spells class_export_info bytes at c after
unfolding Spells table
exported_made bytes at c after h = grind (arith)

methods_inside : (to : ℕ → ℕ) (bytes : List ℕ) (at : ℕ) (c : Exported) (after : ℕ) → HasExported bytes at c after
    → AreInside (exported_edits to at c) (at + (4 + 2 * length c.fields)) after
methods_inside to bytes at c after p =
    all_inside u2 (number_edits to) two_bytes to bytes (number_item to bytes) p.method_count (at + (4 + 2 * length c.fields)) c.methods after p.methods

pub exported_item : (to : ℕ → ℕ) (bytes : List ℕ) → IsItem class_export_info (exported_edits to) exported_width (renewed_exported to) bytes
exported_item to bytes = record {
  wide = λ at c after h. (has_exported bytes at c after h).end;
  inside = λ at c after h.
      let p = has_exported bytes at c after h in
      inside_from (exported_edits to at c) at (at + (4 + 2 * length c.fields)) after (omega arith) (methods_inside to bytes at c after p);
  renewed = λ out at c after len h ed.
      let p = has_exported bytes at c after h in
      let end = p.end in
      let mid = at + (4 + 2 * length c.fields) in
      let both = edited_split [] (exported_edits to at c) at mid after bytes out (omega arith) (methods_inside to bytes at c after p) ed in
      let count = length-map c.methods to in
      exported_made out at (renewed_exported to c) after (record {
        field_count = p.field_count;
        method_count = p.method_count;
        offset = spelled_same u2 bytes out at c.class_offset (at + 2) len (same_part at mid at (at + 2) bytes out both.0 (omega arith) (omega arith)) p.offset;
        fields_counted =
            spelled_same u1 bytes out (at + 2) p.field_count (at + 3) len (same_part at mid (at + 2) (at + 3) bytes out both.0 (omega arith) (omega arith))
            p.fields_counted;
        methods_counted =
            spelled_same u1 bytes out (at + 3) p.method_count (at + 4) len (same_part at mid (at + 3) (at + 4) bytes out both.0 (omega arith) (omega arith))
            p.methods_counted;
        fields =
            spelled_same (repeat p.field_count u2) bytes out (at + 4) c.fields mid len
            (same_part at mid (at + 4) mid bytes out both.0 (omega arith) (omega arith)) p.fields;
        methods = all_renewed u2 (number_edits to) two_bytes to bytes (number_item to bytes) out len p.method_count mid c.methods after p.methods both.1;
        end = omega arith;
      });
}

exported_fit : (to : ℕ → ℕ) (bytes : List ℕ) → AreBytes bytes → KeepsSmall to → IsFit class_export_info (exported_edits to) bytes
exported_fit to bytes are keeps = grind (arith, number_item to bytes, number_fit to bytes are keeps, has_exported, all_fit)

pub record HasExport (bytes : List ℕ) (cs : List Exported) : Type 0 where
  pub count : ℕ
  pub head : Spells u1 bytes 0 count 1
  pub items : Spells (repeat count class_export_info) bytes 1 cs (length bytes)
  pub some : 1 ≤ length bytes

pub has_export : (bytes : List ℕ) (cs : List Exported) → Stands export_info bytes cs → HasExport bytes cs
unfolding Stands Spells
has_export bytes cs s = grind (arith, read_within)

export_made : (bytes : List ℕ) (cs : List Exported) → HasExport bytes cs → Stands export_info bytes cs
unfolding Stands Spells
export_made bytes cs h =
    (length bytes, (cs, length bytes, (h.count, 1, h.head, h.items), (tt {0}, length bytes, (omega arith, refl), (refl, refl))))

pub export_inside : (to : ℕ → ℕ) (bytes : List ℕ) (cs : List Exported) → Stands export_info bytes cs
    → AreInside (export_edits to cs) 0 (length bytes)
export_inside to bytes cs s =
    let h = has_export bytes cs s in
    inside_from (export_edits to cs) 0 1 (length bytes) (omega arith)
    (all_inside class_export_info (exported_edits to) exported_width (renewed_exported to) bytes (exported_item to bytes) h.count 1 cs (length bytes) h.items)

pub export_fit : (to : ℕ → ℕ) (bytes : List ℕ) (cs : List Exported) → AreBytes bytes → KeepsSmall to → Stands export_info bytes cs
    → FitBytes (export_edits to cs)
export_fit to bytes cs are keeps s = grind (arith, has_export bytes cs s, exported_item to bytes, exported_fit to bytes are keeps, all_fit)

pub export_renewed : (to : ℕ → ℕ) (bytes out : List ℕ) (cs : List Exported) → Stands export_info bytes cs
    → Renews (export_edits to cs) bytes out → Stands export_info out (map (renewed_exported to) cs)
export_renewed to bytes out cs s r =
    let h = has_export bytes cs s in
    let len = r.long in
    let is = exported_item to bytes in
    let inside = all_inside class_export_info (exported_edits to) exported_width (renewed_exported to) bytes is h.count 1 cs (length bytes) h.items in
    let both = edited_split [] (export_edits to cs) 0 1 (length bytes) bytes out (omega arith) inside r.inside in
    export_made out (map (renewed_exported to) cs) (record {
      count = h.count;
      head = spelled_same u1 bytes out 0 h.count 1 len both.0 h.head;
      items = grind (arith, all_renewed);
      some = omega (arith, h.some, len);
    })

-- where the loop over them begins
pub export_begins : (to : ℕ → ℕ) (bytes : List ℕ) (cs : List Exported) → Stands export_info bytes cs
    → IsRenewing class_export_info (exported_edits to) exported_width bytes (patched_all (export_edits to cs) bytes) 1 cs bytes
export_begins to bytes cs s = grind (arith, has_export bytes cs s, has_more)
