-- A table with the superclasses of lines has their chains.
use Rattle.std.proofs.Common.{◌≡◌, ℕ, zero, suc, ◌+◌, ◌<◌, get_or, take, List, [], ◌∷◌, ◌++◌, length, Option, Some, refl, sym}
use Rattle.std.proofs.Common.{ap, ◌∙◌, arith}
use Rattle.std.specs.Prelude.{slice_get, option_map, ◌==◌}
use Rattle.std.specs.List.{list_any}
use Rattle.std.proofs.lemmas.Option.{slice_get-map, get_or_from_slice_get}
use Rattle.std.proofs.lemmas.List.{length-map, take_more}
use Rattle.jc_base.specs.declared.record.ClassRec.{ClassRec}
use Rattle.jc_base.specs.Class.{ClassTable, IsClass, AreClasses, chain, chain_over}
use Rattle.jc_base.specs.Class.{list_of, parent_of, parent_in_record, is_interface}
use Rattle.jc_base.specs.Class.{is_interface_record}
use Rattle.jc_base.specs.Order.{is_on_chain}
use Rattle.jc_base.specs.Dispatch.{package_of, of_record}
use Rattle.jc_resolve.specs.declared.naming.NamedClass.{NamedClass}
use Rattle.jc_classes.specs.declared.overlay.ClassLayout.{ClassLayout}
use Rattle.jc_classes.specs.Outline.{LineTable, AreLines, IsClass as IsLineClass, chain as line_chain}
use Rattle.jc_classes.specs.Outline.{chain_over as line_chain_over, is_on_chain as on_line_chain}
use Rattle.jc_classes.specs.Outline.{parent_of as line_parent}
use Rattle.jc_classes.specs.Outline.{parent_in_line, is_interface as line_interface, is_interface_line}
use Rattle.jc_classes.specs.Outline.{package_of as line_package, package_in_line, line_of}
use Rattle.jc_classes.specs.Outline.{outline}
use Rattle.jc_classes.specs.Layout.{class_layout}
use Rattle.jc_classes.specs.Tables.{record_from, records_from, class_tables}

-- the same superclasses, interfaces and roles
pub record AreAlike (t : LineTable) (u : ClassTable) : Type 0 where
  pub count : length u.records ≡ length t.lines
  pub interfaces : (c : ℕ) → is_interface u c ≡ line_interface t c
  pub parents : (c : ℕ) → parent_of u c ≡ line_parent t c
  pub packages : (c : ℕ) → package_of u c ≡ line_package t c
  pub roles_are : u.roles ≡ t.roles

list_of-same : (f g : ℕ → List ℕ) → ((c : ℕ) → f c ≡ g c) → (o : Option ℕ) → list_of f o ≡ list_of g o
list_of-same f g same u = grind (arith)

chain_over-alike : (t : LineTable) (u : ClassTable) → AreAlike t u → (n c : ℕ) → chain_over u n c ≡ line_chain_over t n c
unfolding chain_over line_chain_over
chain_over-alike t u alike zero c = refl
chain_over-alike t u alike (suc n) c =
    ap (λ (o : Option ℕ). c ∷ list_of (chain_over u n) o) (alike.parents c)
    ∙ ap (λ (xs : List ℕ). c ∷ xs) (list_of-same (chain_over u n) (line_chain_over t n) (λ p. chain_over-alike t u alike n p) (line_parent t c))

pub chain-alike : (t : LineTable) (u : ClassTable) → AreAlike t u → (c : ℕ) → chain u c ≡ line_chain t c
unfolding chain line_chain
chain-alike t u alike c = ap (λ (n : ℕ). chain_over u n c) alike.count ∙ chain_over-alike t u alike (length t.lines) c

pub on_chain-alike : (t : LineTable) (u : ClassTable) → AreAlike t u → (d c : ℕ) → is_on_chain u d c ≡ on_line_chain t d c
unfolding is_on_chain on_line_chain
on_chain-alike t u alike d c = ap (list_any (λ x. x == d)) (chain-alike t u alike c)

pub class-alike : (t : LineTable) (u : ClassTable) → AreAlike t u → (c : ℕ) → IsLineClass t c → IsClass u c
class-alike t u alike c is = record { number = rw alike.count is.number; class = alike.interfaces c ∙ is.class }

pub classes-alike : (t : LineTable) (u : ClassTable) → AreAlike t u → AreLines t → AreClasses u
classes-alike t u alike are = grind (arith, class-alike, get_or, chain-alike)

-- ---- the table that is built

pub record_at : (t : LineTable) (all ks : List NamedClass) (a i : ℕ) → slice_get (records_from t all a ks) i
    ≡ option_map (λ k. record_from k (class_layout t all (a + i))) (slice_get ks i)
record_at t all [] a i = refl
record_at t all (k ∷ ks) a zero = grind (arith)
record_at t all (k ∷ ks) a (suc i) = grind (arith, suc, record_at t all ks (a + 1) i)

pub records-length : (t : LineTable) (all ks : List NamedClass) (a : ℕ) → length (records_from t all a ks) ≡ length ks
records-length t all [] a = refl
records-length t all (k ∷ ks) a = ap suc (records-length t all ks (a + 1))

-- the record of a class in the table
pub record_is : (t : LineTable) (classes : List NamedClass) (c : ℕ) → slice_get (class_tables t classes).records c
    ≡ option_map (λ k. record_from k (class_layout t classes c)) (slice_get classes c)
record_is t classes c =
    let same : 0 + c ≡ c = omega arith in
    record_at t classes classes 0 c ∙ ap (λ (n : ℕ). option_map (λ k. record_from k (class_layout t classes n)) (slice_get classes c)) same

-- lines are those of these classes
pub record IsOutline (t : LineTable) (classes : List NamedClass) : Type 0 where
  pub is : t ≡ outline classes t.roles

pub outline_at : (t : LineTable) (classes : List NamedClass) (c : ℕ) → IsOutline t classes
    → slice_get t.lines c ≡ option_map line_of (slice_get classes c)
outline_at t classes c o = ap (λ (u : LineTable). slice_get u.lines c) o.is ∙ slice_get-map line_of classes c

same_interface : (l : ClassLayout) (o : Option NamedClass) → is_interface_record (option_map (λ k. record_from k l) o) ≡ is_interface_line
    (option_map line_of o)
unfolding record_from
same_interface l y = grind (arith)

same_parent : (l : ClassLayout) (o : Option NamedClass) → parent_in_record (option_map (λ k. record_from k l) o) ≡ parent_in_line (option_map line_of o)
unfolding record_from
same_parent l y = grind (arith)

same_package : (l : ClassLayout) (o : Option NamedClass) → of_record 0 (λ r. r.«package») (option_map (λ k. record_from k l) o) ≡ package_in_line
    (option_map line_of o)
unfolding record_from
same_package l y = grind (arith)

pub tables-alike : (t : LineTable) (classes : List NamedClass) → IsOutline t classes → AreAlike t (class_tables t classes)
unfolding is_interface parent_of package_of line_interface line_parent line_package
tables-alike t classes o = record {
  count = records-length t classes classes 0 ∙ sym (ap (λ (u : LineTable). length u.lines) o.is ∙ length-map classes line_of);
  interfaces =
      λ c. ap is_interface_record (record_is t classes c) ∙ same_interface (class_layout t classes c) (slice_get classes c)
      ∙ ap is_interface_line (sym (outline_at t classes c o));
  parents =
      λ c. ap parent_in_record (record_is t classes c) ∙ same_parent (class_layout t classes c) (slice_get classes c)
      ∙ ap parent_in_line (sym (outline_at t classes c o));
  packages =
      λ c. ap (of_record 0 (λ r. r.«package»)) (record_is t classes c) ∙ same_package (class_layout t classes c) (slice_get classes c)
      ∙ ap package_in_line (sym (outline_at t classes c o));
  roles_are = refl;
}

pub tables-classes : (t : LineTable) (classes : List NamedClass) → IsOutline t classes → AreLines t → AreClasses (class_tables t classes)
tables-classes t classes o are = classes-alike t (class_tables t classes) (tables-alike t classes o) are

-- one more record
pub records_next : (t : LineTable) (classes : List NamedClass) (c : ℕ) (k : NamedClass) (l : ClassLayout) (r : ClassRec) (records : List ClassRec)
    → slice_get classes c ≡ Some k → l ≡ class_layout t classes c → r ≡ record_from k l → c < length classes
    → records ≡ take c (records_from t classes 0 classes) → records ++ (r ∷ []) ≡ take (c + 1) (records_from t classes 0 classes)
records_next t classes c k l r records at same is low before =
    let low_too : c < length (records_from t classes 0 classes) = omega (arith, records-length t classes classes 0) in
    let there : slice_get (records_from t classes 0 classes) c ≡ Some r = record_is t classes c
    ∙ ap (option_map (λ x. record_from x (class_layout t classes c))) at ∙ ap (λ (m : ClassLayout). Some (record_from k m)) (sym same)
    ∙ ap Some (sym is) in
    ap (λ (rs : List ClassRec). rs ++ (r ∷ [])) before
    ∙ ap (λ (x : ClassRec). take c (records_from t classes 0 classes) ++ (x ∷ []))
    (sym (get_or_from_slice_get (records_from t classes 0 classes) c r r there))
    ∙ sym (take_more (records_from t classes 0 classes) c r low_too)
