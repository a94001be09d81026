-- A class record with other offsets in its dispatch tables.
use Rattle.std.proofs.Common.{◌≡◌, ℕ, zero, suc, ◌+◌, ◌-◌, ◌*◌, ◌%◌, ◌≤◌, List, [], ◌∷◌, ◌++◌, length, map, Bool, true}
use Rattle.std.proofs.Common.{false, refl, sym, ap, subst, ◌∙◌, arith}
use Rattle.std.specs.Prelude.{nat_lt}
use Rattle.std.proofs.lemmas.List.{length-map}
use Rattle.cap_bytes.specs.declared.fault.Format.{Format}
use Rattle.cap_bytes.specs.Grammar.{Grammar, number, u1, u2, repeat, table, when, at_most, ◌>>=◌, give}
use Rattle.cap_bytes.specs.Spelling.{Spells, Stands}
use Rattle.cap_bytes.proofs.Wide.{read_within}
use Rattle.cap_bytes.proofs.UntilLoops.{moves_on}
use Rattle.cap_class.specs.ClassFormat.{Class, Instance, DispatchTables, Interface, is_interface}
use Rattle.cap_class.specs.ClassFormat.{class_flags, wrong_record, interface_info, instance_info}
use Rattle.cap_class.specs.ClassFormat.{tables_info, of_class, beyond_first, record_info, is_after, signature_pool, classes_info}
use Rattle.cap_bytes.specs.Edit.{Edit, AreInside, FitBytes}
use Rattle.cap_bytes.specs.Renewal.{Renews, IsEdited, AreSame}
use Rattle.cap_bytes.proofs.Same.{spelled_same, same_part}
use Rattle.cap_bytes.proofs.Patches.{edited_split, edited_last, inside_to, inside_from, inside_append, fit_append}
use Rattle.cap_bytes.specs.Bytes.{AreBytes}
use Rattle.cap_renewal.specs.NewMethods.{KeepsSmall}
use Rattle.cap_renewal.specs.ClassEdits.{renewed_class, class_edits, classes_edits}
use Rattle.cap_renewal.specs.Rooms.{TablesFit, AllRooms}
use Rattle.cap_renewal.specs.Along.{number_edits, two_bytes, table_edits}
use Rattle.cap_renewal.proofs.Items.{all_inside, all_fit, all_renewed, all_wide}
use Rattle.cap_renewal.proofs.Numbers.{number_item, number_fit, wide_u2}

-- ---- the two tables

record HasTables (bytes : List ℕ) (at : ℕ) (t : DispatchTables) (after : ℕ) : Type 0 where
  public_count : ℕ
  visible_count : ℕ
  first_base : Spells u1 bytes at t.public_base (at + 1)
  public_counted : Spells u1 bytes (at + 1) public_count (at + 2)
  second_base : Spells u1 bytes (at + 2) t.package_base (at + 3)
  visible_counted : Spells u1 bytes (at + 3) visible_count (at + 4)
  public : Spells (repeat public_count u2) bytes (at + 4) t.public (at + 4 + 2 * length t.public)
  visible : Spells (repeat visible_count u2) bytes (at + 4 + 2 * length t.public) t.visible after
  end : after ≡ at + 4 + 2 * length t.public + 2 * length t.visible

has_tables : (bytes : List ℕ) (at : ℕ) (t : DispatchTables) (after : ℕ) → Spells tables_info bytes at t after → HasTables bytes at t after
unfolding Spells table
has_tables bytes at t after h =
    let b = h.3 in
    let c = b.3 in
    let d = c.3 in
    let p = d.3 in
    let v = p.3 in
    let one : h.1 ≡ at + 1 = h.2.2 in
    let two : b.1 ≡ h.1 + 1 = b.2.2 in
    let three : c.1 ≡ b.1 + 1 = c.2.2 in
    let four : d.1 ≡ c.1 + 1 = d.2.2 in
    let pw : p.1 ≡ d.1 + 2 * length p.0 = all_wide u2 2 bytes (wide_u2 bytes) b.0 d.1 p.0 p.1 p.2 in
    let vw : v.1 ≡ p.1 + 2 * length v.0 = all_wide u2 2 bytes (wide_u2 bytes) d.0 p.1 v.0 v.1 v.2 in
    let is : t ≡ record { public_base = h.0; package_base = c.0; public = p.0; visible = v.0 } = v.3.0 in
    let z : after ≡ v.1 = v.3.1 in
    let m2 : b.1 ≡ at + 2 = omega arith in
    let m3 : c.1 ≡ at + 3 = omega arith in
    let m4 : d.1 ≡ at + 4 = omega arith in
    let mp : p.1 ≡ at + 4 + 2 * length p.0 = omega arith in
    rw (is, z) (record {
      public_count = b.0;
      visible_count = d.0;
      first_base = subst (λ m. Spells u1 bytes at h.0 m) one h.2;
      public_counted = rw (← m2, ← one) b.2;
      second_base = rw (← m3, ← m2) c.2;
      visible_counted = rw (← m4, ← m3) d.2;
      public = rw (← mp, ← m4) p.2;
      visible = rw (← mp) v.2;
      end = omega arith;
    })

tables_made : (bytes : List ℕ) (at : ℕ) (t : DispatchTables) (after : ℕ) → HasTables bytes at t after → Spells tables_info bytes at t after
unfolding Spells table
tables_made bytes at t after h = (
  t.public_base,
  at + 1,
  h.first_base,
  (
    h.public_count,
    at + 2,
    h.public_counted,
    (
      t.package_base,
      at + 3,
      h.second_base,
      (h.visible_count, at + 4, h.visible_counted, (t.public, at + 4 + 2 * length t.public, h.public, (t.visible, after, h.visible, (refl, refl)))),
    ),
  ),
)

both_edits : (ℕ → ℕ) → ℕ → DispatchTables → List Edit
both_edits to at t = table_edits to (at + 4) t.public ++ table_edits to (at + 4 + 2 * length t.public) t.visible

renewed_tables : (ℕ → ℕ) → DispatchTables → DispatchTables
renewed_tables to t = record { public_base = t.public_base; package_base = t.package_base; public = map to t.public; visible = map to t.visible }

public_inside : (to : ℕ → ℕ) (bytes : List ℕ) (at : ℕ) (t : DispatchTables) (after : ℕ) → HasTables bytes at t after
    → AreInside (table_edits to (at + 4) t.public) (at + 4) (at + 4 + 2 * length t.public)
public_inside to bytes at t after h =
    all_inside u2 (number_edits to) two_bytes to bytes (number_item to bytes) h.public_count (at + 4) t.public (at + 4 + 2 * length t.public) h.public

visible_inside : (to : ℕ → ℕ) (bytes : List ℕ) (at : ℕ) (t : DispatchTables) (after : ℕ) → HasTables bytes at t after
    → AreInside (table_edits to (at + 4 + 2 * length t.public) t.visible) (at + 4 + 2 * length t.public) after
visible_inside to bytes at t after h =
    all_inside u2 (number_edits to) two_bytes to bytes (number_item to bytes) h.visible_count (at + 4 + 2 * length t.public) t.visible after h.visible

tables_inside : (to : ℕ → ℕ) (bytes : List ℕ) (at : ℕ) (t : DispatchTables) (after : ℕ) → Spells tables_info bytes at t after
    → AreInside (both_edits to at t) at after
unfolding both_edits
tables_inside to bytes at t after s =
    let h = has_tables bytes at t after s in
    inside_from (table_edits to (at + 4) t.public ++ table_edits to (at + 4 + 2 * length t.public) t.visible) at (at + 4) after (omega arith)
    (inside_append (table_edits to (at + 4) t.public) (table_edits to (at + 4 + 2 * length t.public) t.visible) (at + 4) (at + 4 + 2 * length t.public)
    after (public_inside to bytes at t after h) (visible_inside to bytes at t after h))

tables_fit : (to : ℕ → ℕ) (bytes : List ℕ) (at : ℕ) (t : DispatchTables) (after : ℕ) → AreBytes bytes → KeepsSmall to
    → Spells tables_info bytes at t after → FitBytes (both_edits to at t)
unfolding both_edits
tables_fit to bytes at t after are keeps s =
    grind (arith, has_tables bytes at t after s, number_item to bytes, number_fit to bytes are keeps, fit_append, all_fit)

tables_renewed : (to : ℕ → ℕ) (bytes out : List ℕ) (at : ℕ) (t : DispatchTables) (after : ℕ) → length out ≡ length bytes
    → Spells tables_info bytes at t after → IsEdited (both_edits to at t) at after bytes out → Spells tables_info out at (renewed_tables to t) after
unfolding both_edits renewed_tables
tables_renewed to bytes out at t after len s ed =
    let h = has_tables bytes at t after s in
    let mid = at + 4 + 2 * length t.public in
    let pi = public_inside to bytes at t after h in
    let vi = visible_inside to bytes at t after h in
    let two = edited_split (table_edits to (at + 4) t.public) (table_edits to mid t.visible) at mid after bytes out
    (inside_from (table_edits to (at + 4) t.public) at (at + 4) mid (omega arith) pi) vi ed in
    let one = edited_split [] (table_edits to (at + 4) t.public) at (at + 4) mid bytes out (omega arith) pi two.0 in
    let cp = length-map t.public to in
    let cv = length-map t.visible to in
    let e = h.end in
    let publics = all_renewed u2 (number_edits to) two_bytes to bytes (number_item to bytes) out len h.public_count (at + 4) t.public mid h.public one.1 in
    let visibles = all_renewed u2 (number_edits to) two_bytes to bytes (number_item to bytes) out len h.visible_count mid t.visible after h.visible two.1 in
    let there : mid ≡ at + 4 + 2 * length (map to t.public) = omega arith in
    tables_made out at (record { public_base = t.public_base; package_base = t.package_base; public = map to t.public; visible = map to t.visible }) after
    (record {
      public_count = h.public_count;
      visible_count = h.visible_count;
      first_base = grind (arith, spelled_same, same_part);
      public_counted = grind (arith, spelled_same, same_part);
      second_base = grind (arith, spelled_same, same_part);
      visible_counted = grind (arith, spelled_same, same_part);
      public = subst (λ m. Spells (repeat h.public_count u2) out (at + 4) (map to t.public) m) there publics;
      visible = subst (λ m. Spells (repeat h.visible_count u2) out m (map to t.visible) after) there visibles;
      end = omega arith;
    })

-- ---- a record

wide_instance : (bytes : List ℕ) (at : ℕ) (i : Instance) (after : ℕ) → Spells instance_info bytes at i after → after ≡ at + 5
unfolding Spells
wide_instance bytes at i after h = grind (arith)

-- the parts of a class record after its first byte
record HasClass (bytes : List ℕ) (at first : ℕ) (c : Class) (after : ℕ) : Type 0 where
  instance : Instance
  tables : DispatchTables
  interfaces : List Interface
  mid : ℕ
  own : Spells instance_info bytes at instance (at + 5)
  dispatch : Spells tables_info bytes (at + 5) tables mid
  served : Spells (repeat (first % 16) (interface_info false)) bytes mid interfaces after

has_class : (bytes : List ℕ) (at offset first : ℕ) (c : Class) (after : ℕ) → Spells (beyond_first false offset first) bytes at c after
    → (h : HasClass bytes at first c after) × (c ≡ of_class offset first h.instance h.tables h.interfaces)
unfolding Spells
has_class bytes at offset first c after h =
    let t = h.3 in
    let i = t.3 in
    let w : h.1 ≡ at + 5 = wide_instance bytes at h.0 h.1 h.2 in
    let z : after ≡ i.1 = i.3.1 in (
      record {
        instance = h.0;
        tables = t.0;
        interfaces = i.0;
        mid = t.1;
        own = subst (λ m. Spells instance_info bytes at h.0 m) w h.2;
        dispatch = subst (λ m. Spells tables_info bytes m t.0 t.1) w t.2;
        served = subst (λ m. Spells (repeat (first % 16) (interface_info false)) bytes t.1 i.0 m) (sym z) i.2;
      },
      i.3.0,
    )

class_edits_at : (to : ℕ → ℕ) (offset first : ℕ) (i : Instance) (t : DispatchTables) (xs : List Interface)
    → is_interface (class_flags first) ≡ false → class_edits to (of_class offset first i t xs) ≡ both_edits to (offset + 6) t
unfolding both_edits
class_edits_at to offset first i t xs e = grind (arith)

interface_edits : (to : ℕ → ℕ) (c : Class) → is_interface c.flags ≡ true → class_edits to c ≡ []
interface_edits to c e = rw e refl

beyond_flags : (bytes : List ℕ) (at offset first : ℕ) (b : Bool) (c : Class) (after : ℕ) → Spells (beyond_first b offset first) bytes at c after
    → (c.flags ≡ class_flags first) × (c.offset ≡ offset)
unfolding Spells
beyond_flags bytes at offset first v c after h = grind (arith)

interface_same : (to : ℕ → ℕ) (bytes : List ℕ) (at offset first : ℕ) (c : Class) (after : ℕ)
    → Spells (beyond_first true offset first) bytes at c after → renewed_class to c ≡ c
unfolding Spells
interface_same to bytes at offset first c after h = rw h.3.0 refl

-- what stands after the first byte, at the place after that of the record
record IsBeyond (to : ℕ → ℕ) (bytes : List ℕ) (offset first : ℕ) (b : Bool) (c : Class) (after : ℕ) : Type 0 where
  inside : AreInside (class_edits to c) (offset + 1) after
  fit : AreBytes bytes → KeepsSmall to → FitBytes (class_edits to c)
  renewed : (out : List ℕ) → length out ≡ length bytes → IsEdited (class_edits to c) (offset + 1) after bytes out
      → Spells (beyond_first b offset first) out (offset + 1) (renewed_class to c) after

same_class : (to : ℕ → ℕ) (offset first : ℕ) (i : Instance) (t : DispatchTables) (xs : List Interface)
    → renewed_class to (of_class offset first i t xs) ≡ of_class offset first i (renewed_tables to t) xs
unfolding renewed_tables
same_class to offset first i t xs = refl

is_beyond : (to : ℕ → ℕ) (bytes : List ℕ) (offset first : ℕ) (b : Bool) (c : Class) (after : ℕ) → is_interface (class_flags first) ≡ b
    → Spells (beyond_first b offset first) bytes (offset + 1) c after → IsBeyond to bytes offset first b c after
unfolding Spells
is_beyond to bytes offset first true c after e h =
    let flags = beyond_flags bytes (offset + 1) offset first true c after h in
    let none : class_edits to c ≡ [] = interface_edits to c (ap is_interface flags.0 ∙ e) in
    let on : offset + 1 ≤ after = moves_on (beyond_first true offset first) bytes (offset + 1) c after h in
    record {
      inside = rw none on;
      fit = λ are keeps. rw none tt;
      renewed = grind (arith, interface_same, spelled_same);
    }
is_beyond to bytes offset first false c after e h =
    let p = has_class bytes (offset + 1) offset first c after h in
    let k = p.0 in
    let es : class_edits to c ≡ both_edits to (offset + 6) k.tables = ap (class_edits to) p.1
    ∙ class_edits_at to offset first k.instance k.tables k.interfaces e in
    let six : offset + 1 + 5 ≡ offset + 6 = omega arith in
    let dispatch : Spells tables_info bytes (offset + 6) k.tables k.mid = subst (λ m. Spells tables_info bytes m k.tables k.mid) six k.dispatch in
    let inside : AreInside (both_edits to (offset + 6) k.tables) (offset + 6) k.mid = tables_inside to bytes (offset + 6) k.tables k.mid dispatch in
    let on : k.mid ≤ after = moves_on (repeat (first % 16) (interface_info false)) bytes k.mid k.interfaces after k.served in
    let all = inside_to (both_edits to (offset + 6) k.tables) (offset + 6) k.mid after inside on in
    record {
      inside = rw es (inside_from (both_edits to (offset + 6) k.tables) (offset + 1) (offset + 6) after (omega arith) all);
      fit = λ are keeps. rw es (tables_fit to bytes (offset + 6) k.tables k.mid are keeps dispatch);
      renewed = λ out len ed.
          let whole : IsEdited (both_edits to (offset + 6) k.tables) (offset + 1) after bytes out = subst (λ xs. IsEdited xs (offset + 1) after bytes out)
          es ed in
          let one = edited_split [] (both_edits to (offset + 6) k.tables) (offset + 1) (offset + 6) after bytes out (omega arith) all whole in
          let two = edited_last (both_edits to (offset + 6) k.tables) (offset + 6) k.mid after bytes out inside on one.1 in
          let own : AreSame (offset + 1) (offset + 1 + 5) bytes out = same_part (offset + 1) (offset + 6) (offset + 1) (offset + 1 + 5) bytes out one.0
          (omega arith) (omega arith) in
          let served : AreSame k.mid after bytes out = two.1 in
          let made = tables_renewed to bytes out (offset + 6) k.tables k.mid len dispatch two.0 in
          rw p.1 (
            k.instance,
            offset + 1 + 5,
            spelled_same instance_info bytes out (offset + 1) k.instance (offset + 1 + 5) len own k.own,
            (
              renewed_tables to k.tables,
              k.mid,
              subst (λ m. Spells tables_info out m (renewed_tables to k.tables) k.mid) (sym six) made,
              (
                k.interfaces,
                after,
                spelled_same (repeat (first % 16) (interface_info false)) bytes out k.mid k.interfaces after len served k.served,
                (same_class to offset first k.instance k.tables k.interfaces, refl),
              ),
            ),
          );
    }

-- a record, wherever it may stand
record IsRecord (to : ℕ → ℕ) (bytes : List ℕ) (after_class : Bool) (at : ℕ) (c : Class) (after : ℕ) : Type 0 where
  inside : AreInside (class_edits to c) at after
  fit : AreBytes bytes → KeepsSmall to → FitBytes (class_edits to c)
  renewed : (out : List ℕ) → length out ≡ length bytes → IsEdited (class_edits to c) at after bytes out
      → Spells (record_info after_class) out at (renewed_class to c) after

is_record : (to : ℕ → ℕ) (bytes : List ℕ) (after_class : Bool) (at : ℕ) (c : Class) (after : ℕ)
    → Spells (record_info after_class) bytes at c after → IsRecord to bytes after_class at c after
unfolding Spells record_info
is_record to bytes after_class at c after h =
    let place : h.0 ≡ at = h.2.0 in
    let same : h.1 ≡ at = h.2.1 in
    let f = h.3 in
    let one : f.1 ≡ at + 1 = omega (arith, f.2.2, same) in
    let first = f.0 in
    let b = is_interface (class_flags first) in
    let rest : Spells (beyond_first b at first) bytes (at + 1) c after = subst (λ o. Spells (beyond_first b o first) bytes (at + 1) c after) place
    (subst (λ m. Spells (beyond_first b h.0 first) bytes m c after) one f.3) in
    let k = is_beyond to bytes at first b c after refl rest in
    let tested : Spells (number 1 (wrong_record after_class)) bytes at first (at + 1) = subst
    (λ m. Spells (number 1 (wrong_record after_class)) bytes at first m) one
    (subst (λ m. Spells (number 1 (wrong_record after_class)) bytes m first f.1) same f.2) in
    record {
      inside = inside_from (class_edits to c) at (at + 1) after (omega arith) k.inside;
      fit = k.fit;
      renewed = λ out len ed.
          let two = edited_split [] (class_edits to c) at (at + 1) after bytes out (omega arith) k.inside ed in (
            at,
            at,
            (refl, refl),
            (
              first,
              at + 1,
              spelled_same (number 1 (wrong_record after_class)) bytes out at first (at + 1) len two.0 tested,
              k.renewed out len two.1,
            ),
          );
    }

-- the records up to the end
record AreRecords (to : ℕ → ℕ) (bytes : List ℕ) (n : ℕ) (after_class : Bool) (at : ℕ) (cs : List Class) (after : ℕ) : Type 0 where
  inside : AreInside (classes_edits to cs) at after
  fit : AreBytes bytes → KeepsSmall to → FitBytes (classes_edits to cs)
  renewed : (out : List ℕ) → length out ≡ length bytes → IsEdited (classes_edits to cs) at after bytes out
      → Spells (at_most n record_info is_after after_class) out at (map (renewed_class to) cs) after

no_records : (to : ℕ → ℕ) (bytes : List ℕ) (n : ℕ) (after_class : Bool) (at : ℕ) (cs : List Class) (after : ℕ) → cs ≡ [] → after ≡ at
    → ((out : List ℕ) → length out ≡ length bytes → Spells (at_most n record_info is_after after_class) out at [] at)
    → AreRecords to bytes n after_class at cs after
no_records to bytes n after_class at cs after e d again = grind (arith)

when_true : {X : Type 0} (b : Bool) (otherwise : X) (g : Grammar X) (bytes : List ℕ) (at : ℕ) (x : X) (after : ℕ) → b ≡ true
    → Spells g bytes at x after → Spells (when b otherwise g) bytes at x after
when_true x otherwise g bytes at x2 after e h = grind (arith)

when_false : {X : Type 0} (b : Bool) (otherwise : X) (g : Grammar X) (bytes : List ℕ) (at : ℕ) → b ≡ false
    → Spells (when b otherwise g) bytes at otherwise at
unfolding Spells
when_false x otherwise g bytes at e = grind (arith)

more_records : (to : ℕ → ℕ) (bytes : List ℕ) (n : ℕ) (after_class : Bool) (at : ℕ) (c : Class) (mid : ℕ) (cs : List Class) (after : ℕ)
    → nat_lt 0 (length bytes - at) ≡ true
    → Spells (record_info after_class) bytes at c mid → AreRecords to bytes n (is_after after_class c) mid cs after
    → AreRecords to bytes (suc n) after_class at (c ∷ cs) after
unfolding Spells
more_records to bytes n after_class at c mid cs after some h rest =
    let k = is_record to bytes after_class at c mid h in
    record {
      inside = inside_append (class_edits to c) (classes_edits to cs) at mid after k.inside rest.inside;
      fit = λ are keeps. fit_append (class_edits to c) (classes_edits to cs) (k.fit are keeps) (rest.fit are keeps);
      renewed = grind (arith, edited_split, when_true);
    }

by_test : (to : ℕ → ℕ) (bytes : List ℕ) (n : ℕ) (after_class : Bool) (at : ℕ) (cs : List Class) (after : ℕ) (b : Bool)
    → nat_lt 0 (length bytes - at) ≡ b
    → ((s : Bool) (at' : ℕ) (xs : List Class) (end : ℕ) → Spells (at_most n record_info is_after s) bytes at' xs end
    → AreRecords to bytes n s at' xs end)
    → Spells (when b [] (record_info after_class >>= λ x. at_most n record_info is_after (is_after after_class x) >>= λ xs. give (x ∷ xs))) bytes at
    cs after → AreRecords to bytes (suc n) after_class at cs after
unfolding Spells
by_test to bytes n after_class at cs after false t others h = grind (arith, no_records, suc, when_false)
by_test to bytes n after_class at cs after true t others h =
    let e : cs ≡ h.0 ∷ h.3.0 = h.3.3.0 in
    let d : after ≡ h.3.1 = h.3.3.1 in
    rw (e, d) (more_records to bytes n after_class at h.0 h.1 h.3.0 h.3.1 t h.2 (others (is_after after_class h.0) h.1 h.3.0 h.3.1 h.3.2))

are_records : (to : ℕ → ℕ) (bytes : List ℕ) (n : ℕ) (after_class : Bool) (at : ℕ) (cs : List Class) (after : ℕ)
    → Spells (at_most n record_info is_after after_class) bytes at cs after → AreRecords to bytes n after_class at cs after
unfolding Spells
are_records to bytes zero after_class at cs after h = no_records to bytes zero after_class at cs after h.0 h.1 (λ out len. (refl, refl))
are_records to bytes (suc n) after_class at cs after h =
    let size : h.0 ≡ length bytes - at = h.2.0 in
    let same : h.1 ≡ at = h.2.1 in
    let items : Spells
    (when (nat_lt 0 (length bytes - at)) []
    (record_info after_class >>= λ x. at_most n record_info is_after (is_after after_class x) >>= λ xs. give (x ∷ xs))) bytes at cs after =
    subst
    (λ m. Spells
    (when (nat_lt 0 (length bytes - at)) []
    (record_info after_class >>= λ x. at_most n record_info is_after (is_after after_class x) >>= λ xs. give (x ∷ xs))) bytes m cs after) same
    (subst
    (λ r. Spells
    (when (nat_lt 0 r) [] (record_info after_class >>= λ x. at_most n record_info is_after (is_after after_class x) >>= λ xs. give (x ∷ xs))) bytes
    h.1 cs after) size h.3) in
    by_test to bytes n after_class at cs after (nat_lt 0 (length bytes - at)) refl (λ s' at' xs end d. are_records to bytes n s' at' xs end d) items

-- ---- the component

-- the records stand after the signature pool
pub record HasClasses (bytes : List ℕ) (format : Format) (cs : List Class) : Type 0 where
  pub pool : List ℕ
  pub start : ℕ
  pub head : Spells (signature_pool format) bytes 0 pool start
  pub fuel : ℕ
  pub same : fuel ≡ length bytes - start
  pub after : ℕ
  pub items : Spells (at_most fuel record_info is_after false) bytes start cs after
  pub within : after ≤ length bytes

pub has_classes : (format : Format) (bytes : List ℕ) (cs : List Class) → Stands (classes_info format) bytes cs → HasClasses bytes format cs
unfolding Stands Spells
has_classes format bytes cs s = grind (arith, read_within)

classes_made : (format : Format) (bytes : List ℕ) (cs : List Class) → HasClasses bytes format cs → Stands (classes_info format) bytes cs
unfolding Stands Spells
classes_made format bytes cs h = (h.after, (h.pool, h.start, h.head, (h.fuel, h.start, (h.same, refl), h.items)))

pub classes_inside : (to : ℕ → ℕ) (format : Format) (bytes : List ℕ) (cs : List Class) → Stands (classes_info format) bytes cs
    → AreInside (classes_edits to cs) 0 (length bytes)
classes_inside to format bytes cs s =
    let h = has_classes format bytes cs s in
    let k = are_records to bytes h.fuel false h.start cs h.after h.items in
    inside_from (classes_edits to cs) 0 h.start (length bytes) (omega arith) (inside_to (classes_edits to cs) h.start h.after (length bytes) k.inside h.within)

pub classes_fit : (to : ℕ → ℕ) (format : Format) (bytes : List ℕ) (cs : List Class) → AreBytes bytes → KeepsSmall to
    → Stands (classes_info format) bytes cs → FitBytes (classes_edits to cs)
classes_fit to format bytes cs are keeps s =
    let h = has_classes format bytes cs s in
    (are_records to bytes h.fuel false h.start cs h.after h.items).fit are keeps

pub classes_renewed : (to : ℕ → ℕ) (format : Format) (bytes out : List ℕ) (cs : List Class) → Stands (classes_info format) bytes cs
    → Renews (classes_edits to cs) bytes out → Stands (classes_info format) out (map (renewed_class to) cs)
classes_renewed to format bytes out cs s r =
    let h = has_classes format bytes cs s in
    let k = are_records to bytes h.fuel false h.start cs h.after h.items in
    let len = r.long in
    let inside = inside_to (classes_edits to cs) h.start h.after (length bytes) k.inside h.within in
    let two = edited_split [] (classes_edits to cs) 0 h.start (length bytes) bytes out (omega arith) inside r.inside in
    let last = edited_last (classes_edits to cs) h.start h.after (length bytes) bytes out k.inside h.within two.1 in
    classes_made format out (map (renewed_class to) cs) (record {
      pool = h.pool;
      start = h.start;
      head = spelled_same (signature_pool format) bytes out 0 h.pool h.start len two.0 h.head;
      fuel = h.fuel;
      same = h.same ∙ ap (λ l. l - h.start) (sym len);
      after = h.after;
      items = k.renewed out len last.0;
      within = omega (arith, h.within, len);
    })

rooms_more : (size : ℕ) (c : Class) (cs : List Class) → TablesFit size c → AllRooms size cs → AllRooms size (c ∷ cs)
rooms_more size c cs a b = (a, b)

room_beyond : (bytes : List ℕ) (at offset first : ℕ) (c : Class) (after : ℕ) → at ≡ offset + 1 → after ≤ length bytes
    → Spells (beyond_first false offset first) bytes at c after → c.offset + 10 + 2 * length c.public + 2 * length c.visible ≤ length bytes
room_beyond bytes at offset first c after e le h =
    let p = has_class bytes at offset first c after h in
    let k = p.0 in
    let t = has_tables bytes (at + 5) k.tables k.mid k.dispatch in
    let on : k.mid ≤ after = moves_on (repeat (first % 16) (interface_info false)) bytes k.mid k.interfaces after k.served in
    let end = t.end in
    rw p.1 (omega arith)

room_by : (bytes : List ℕ) (offset first : ℕ) (b : Bool) (c : Class) (at after : ℕ) → at ≡ offset + 1 → is_interface (class_flags first) ≡ b
    → after ≤ length bytes → Spells (beyond_first b offset first) bytes at c after → TablesFit (length bytes) c
room_by bytes offset first u c at after e b le h = grind (arith, beyond_flags, room_beyond)

record_room : (bytes : List ℕ) (after_class : Bool) (at : ℕ) (c : Class) (after : ℕ) → after ≤ length bytes
    → Spells (record_info after_class) bytes at c after → TablesFit (length bytes) c
unfolding Spells record_info
record_room bytes after_class at c after le h = grind (arith, room_by)

rooms_by : (bytes : List ℕ) (n : ℕ) (after_class : Bool) (at : ℕ) (cs : List Class) (after : ℕ) (b : Bool) → after ≤ length bytes
    → ((s : Bool) (at' : ℕ) (xs : List Class) (end : ℕ) → end ≤ length bytes → Spells (at_most n record_info is_after s) bytes at' xs end
    → AllRooms (length bytes) xs)
    → Spells (when b [] (record_info after_class >>= λ x. at_most n record_info is_after (is_after after_class x) >>= λ xs. give (x ∷ xs))) bytes at
    cs after → AllRooms (length bytes) cs
unfolding Spells
rooms_by bytes n after_class at cs after false le others h = rw h.0 tt
rooms_by bytes n after_class at cs after true le others h =
    let e : cs ≡ h.0 ∷ h.3.0 = h.3.3.0 in
    let d : after ≡ h.3.1 = h.3.3.1 in
    let last : h.3.1 ≤ length bytes = omega arith in
    let on : h.1 ≤ h.3.1 = moves_on (at_most n record_info is_after (is_after after_class h.0)) bytes h.1 h.3.0 h.3.1 h.3.2 in
    rw e
    (rooms_more (length bytes) h.0 h.3.0 (record_room bytes after_class at h.0 h.1 (omega arith) h.2)
    (others (is_after after_class h.0) h.1 h.3.0 h.3.1 last h.3.2))

records_room : (bytes : List ℕ) (n : ℕ) (after_class : Bool) (at : ℕ) (cs : List Class) (after : ℕ) → after ≤ length bytes
    → Spells (at_most n record_info is_after after_class) bytes at cs after → AllRooms (length bytes) cs
unfolding Spells
records_room bytes zero after_class at cs after le h = rw h.0 tt
records_room bytes (suc n) after_class at cs after le h =
    rooms_by bytes n after_class h.1 cs after (nat_lt 0 h.0) le (λ s' at' xs end l d. records_room bytes n s' at' xs end l d) h.3

pub classes_room : (format : Format) (bytes : List ℕ) (cs : List Class) → Stands (classes_info format) bytes cs → AllRooms (length bytes) cs
classes_room format bytes cs s = grind (arith, has_classes, records_room)
