-- The answer tells the first fault, or the lines and what is known of them.
use Rattle.std.proofs.Common.{◌≡◌, ℕ, zero, suc, ◌<◌, ◌≤◌, true, false, List, [], ◌∷◌, map, length, Option, Some, None, Result, Ok, Err}
use Rattle.std.proofs.Common.{refl, sym, ap, ◌∙◌, arith}
use Rattle.std.specs.Prelude.{All, IfSome, IfOk, slice_get, slice_index}
use Rattle.std.specs.Option.{option_map}
use Rattle.std.proofs.lemmas.Option.{slice_get-map}
use Rattle.std.proofs.lemmas.List.{length-map}
use Rattle.std.proofs.lemmas.Bool.{not-false}
use Rattle.jc_base.specs.declared.record.Iface.{Iface}
use Rattle.jc_base.proofs.Lists.{All-slice_get, IfSome-is}
use Rattle.jc_resolve.specs.declared.fault.LinkFault.{LinkFault}
use Rattle.jc_resolve.specs.declared.fault.LinkEnd.{LinkEnd}
use Rattle.jc_resolve.specs.declared.fault.LinkEnd.TheVariants.{Fault, Memory}
use Rattle.jc_resolve.specs.declared.naming.NamedClass.{NamedClass}
use Rattle.jc_resolve.specs.Fault.{link_place}
use Rattle.first_fault.specs.Least.{◌>>=◌}
use Rattle.first_fault.specs.First.{AllEmpty}
use Rattle.jc_resolve.specs.Named.{package_of, package_by}
use Rattle.first_fault.proofs.FirstTold.{IsTold, things-told, refused-first, accepted-empty}
use Rattle.jc_resolve.specs.Due.{IsDue}
use Rattle.jc_classes.specs.KnownClasses.{HasKnownLine}
use Rattle.jc_classes.specs.LineConditions.{is_class_number, is_class_record}
use Rattle.jc_classes.specs.LineConditions.{conditions}
use Rattle.jc_classes.specs.declared.lineage_type.Line.{Line}
use Rattle.jc_classes.specs.Outline.{LineTable, AreLines, is_interface_line, is_interface as interface_in_table, package_in_line}
use Rattle.jc_classes.specs.Outline.{package_of as package_in_table, parent_of, line_of, outline}
use Rattle.jc_classes.specs.Lines.{lines_agree, lineage_of, TellsLines, HaveLines}
use Rattle.jc_classes.proofs.Kinship.{chain-ancestors, acyclic}
use Rattle.jc_classes.proofs.FaultlessLines.{NoFault, no_fault}
use Rattle.jc_classes.proofs.Descent.{class-made, parent-class, parent-made, parent-plain, role-plain, role-thrown, are-classes}

lines-told : (cs : List NamedClass) (first : ℕ) (roles : List ℕ) → IsTold link_place (lines_agree cs first roles) (conditions cs first roles)
unfolding lines_agree
lines-told cs first roles = grind (arith, things-told)

pub agreed-empty : (cs : List NamedClass) (first : ℕ) (roles : List ℕ) → lines_agree cs first roles ≡ Ok (tt {0})
    → AllEmpty (conditions cs first roles)
agreed-empty cs first roles e = accepted-empty link_place (conditions cs first roles) (sym (lines-told cs first roles).same ∙ e)

told-by : (cs : List NamedClass) (first : ℕ) (roles : List ℕ) (s : Result (Unit {0}) LinkFault) (r : Result LineTable LinkEnd)
    → lines_agree cs first roles ≡ s → IsDue (s >>= λ _. Ok (outline cs roles)) r → TellsLines cs first roles r
told-by cs first roles (Ok x) (Ok t) e due = grind (arith, agreed-empty cs first roles e)
told-by cs first roles (Ok x) (Err (Fault f)) e due = absurd cc
told-by cs first roles (Ok x) (Err Memory) e due = tt {0}
told-by cs first roles (Err g) (Ok t) e due = absurd cc
told-by cs first roles (Err g) (Err (Fault f)) e due =
    let same : g ≡ f = cc in
    refused-first link_place (conditions cs first roles) f (sym (lines-told cs first roles).same ∙ e ∙ ap Err same)
told-by cs first roles (Err g) (Err Memory) e due = tt {0}

pub due-tells : (cs : List NamedClass) (first : ℕ) (roles : List ℕ) (r : Result LineTable LinkEnd) → IsDue (lineage_of cs first roles) r
    → TellsLines cs first roles r
unfolding lineage_of
due-tells cs first roles r due = told-by cs first roles (lines_agree cs first roles) r refl due

-- ---- what is known of the lines

package-same : (cs : List NamedClass) (roles : List ℕ) (c : ℕ) → package_in_table (outline cs roles) c ≡ package_of cs c
unfolding package_of package_in_table
package-same cs roles c = ap package_in_line (slice_get-map line_of cs c) ∙ same (slice_get cs c) where
  same : (o : Option NamedClass) → package_in_line (option_map line_of o) ≡ package_by o
  same None = refl
  same (Some r) = refl

earlier : (cs : List NamedClass) (roles : List ℕ) → All (HasKnownLine cs) cs → (c p : ℕ) → parent_of (outline cs roles) c ≡ Some p
    → package_in_table (outline cs roles) p ≤ package_in_table (outline cs roles) c
unfolding package_of
earlier cs roles known c p e =
    let is = parent-class cs roles c p e in
    let up : is.r.parent ≡ Some p = sym (parent-made cs roles c is) ∙ e in
    let before : package_of cs p ≤ is.r.«package» = IfSome-is (λ (q : ℕ). package_of cs q ≤ is.r.«package») is.r.parent p
    (All-slice_get (HasKnownLine cs) cs c is.r known is.at).earlier up in
    let home : package_of cs c ≡ is.r.«package» = ap package_by is.at in
    omega (arith, package-same cs roles p, package-same cs roles c)

interface-by : (cs : List NamedClass) (c : ℕ) (o : Option NamedClass) → slice_get cs c ≡ o → c < length cs → is_class_record o ≡ false
    → is_interface_line (option_map line_of o) ≡ true
interface-by cs c None e h no_class = absurd (past cs c h e) where
  past : (xs : List NamedClass) (i : ℕ) → i < length xs → slice_get xs i ≡ None → ⊥
  past [] i h e = omega arith
  past (x ∷ xs) zero h e = cc
  past (x ∷ xs) (suc i) h e = past xs i (omega arith) e
interface-by cs c (Some r) e h no_class = not-false r.interface no_class

interface-made : (cs : List NamedClass) (roles : List ℕ) (c : ℕ) → c < length cs → is_class_number cs c ≡ false
    → interface_in_table (outline cs roles) c ≡ true
unfolding interface_in_table is_class_number
interface-made cs roles c h e = ap is_interface_line (slice_get-map line_of cs c) ∙ interface-by cs c (slice_get cs c) refl h e

interfaces-made : (cs : List NamedClass) (first : ℕ) (roles : List ℕ) → All (HasKnownLine cs) cs → NoFault cs first roles
    → (c : ℕ) (o : Option NamedClass) → slice_get cs c ≡ o
    → IfSome o (λ r. All (λ (i : Iface). interface_in_table (outline cs roles) i.class ≡ true) r.interfaces)
interfaces-made cs first roles known sound c None e = tt
interfaces-made cs first roles known sound c (Some r) e =
    λ k d h. interface-made cs roles _ ((All-slice_get (HasKnownLine cs) cs c r known e).interfaces k d h) (sound.interfaces c r e k d h)

pub have-lines : (cs : List NamedClass) (first : ℕ) (roles : List ℕ) → All (HasKnownLine cs) cs → NoFault cs first roles
    → AreLines (outline cs roles) → HaveLines cs (outline cs roles)
have-lines cs first roles known sound are = record {
  count = length-map cs line_of;
  roles = λ k h. class-made cs roles (slice_index roles k) (role-plain cs first roles sound k h);
  thrown = λ k two h. (chain-ancestors cs roles are (slice_index roles 1) (slice_index roles k)).1 (role-thrown cs first roles sound k two h);
  descent = λ c h. acyclic cs first roles sound false c h;
  extension = λ c h. acyclic cs first roles sound true c h;
  ancestors = chain-ancestors cs roles are;
  supers = λ c p e. class-made cs roles p (parent-plain cs first roles known sound c p e);
  earlier = λ c p e. earlier cs roles known c p e;
  interfaces = λ c. interfaces-made cs first roles known sound c (slice_get cs c) refl;
}

lines-by : (cs : List NamedClass) (first : ℕ) (roles : List ℕ) (s : Result (Unit {0}) LinkFault) (r : Result LineTable LinkEnd)
    → All (HasKnownLine cs) cs → lines_agree cs first roles ≡ s
    → IsDue (s >>= λ _. Ok (outline cs roles)) r → IfOk r AreLines → IfOk r (HaveLines cs)
lines-by cs first roles (Ok x) (Ok t) known e due are = grind (arith, no_fault cs first roles (agreed-empty cs first roles e), have-lines)
lines-by cs first roles (Err g) (Ok t) known e due are = absurd cc
lines-by cs first roles s (Err f) known e due are = tt

pub due-lines : (cs : List NamedClass) (first : ℕ) (roles : List ℕ) (r : Result LineTable LinkEnd) → All (HasKnownLine cs) cs
    → IsDue (lineage_of cs first roles) r → IfOk r AreLines → IfOk r (HaveLines cs)
unfolding lineage_of
due-lines cs first roles r known due are = lines-by cs first roles (lines_agree cs first roles) r known refl due are

pub agreed-classes : (cs : List NamedClass) (first : ℕ) (roles rs : List ℕ) (lines : List Line) → All (HasKnownLine cs) cs → 0 < length roles
    → lines_agree cs first roles ≡ Ok (tt {0})
    → lines ≡ map line_of cs → rs ≡ roles → AreLines (record { lines = lines; roles = rs })
agreed-classes cs first roles rs lines known some e made same =
    rw (made, same) (are-classes cs first roles known (no_fault cs first roles (agreed-empty cs first roles e)) some)
