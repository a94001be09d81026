-- What the table of the classes of packages is.
use Rattle.std.proofs.Common.{◌≡◌, ℕ, ◌+◌, ◌<◌, ◌≤◌, List, [], ◌∷◌, length, refl, ap, ◌∙◌, arith}
use Rattle.std.specs.Prelude.{All, map, slice_index}
use Rattle.std.proofs.lemmas.List.{length-map}
use Rattle.std.proofs.lemmas.List.Elements.{All-weaker}
use Rattle.cap_package.specs.PackageRecord.{PackageRecord}
use Rattle.jc_base.specs.declared.ty.Ty.{Ty}
use Rattle.jc_base.specs.declared.ty.Ty.TheVariants.{Class}
use Rattle.jc_base.specs.declared.record.ClassRec.{ClassRec}
use Rattle.jc_base.specs.declared.record.MethodRec.{MethodRec}
use Rattle.jc_base.specs.Class.{ClassTable, IsClass, AreClasses, is_interface, throwable}
use Rattle.jc_base.specs.Order.{Below, is_below}
use Rattle.jc_base.specs.Cell.{IsDeclared}
use Rattle.jc_base.proofs.Subtypes.{Below-from_is_below}
use Rattle.jc_resolve.specs.declared.naming.NamedClass.{NamedClass}
use Rattle.jc_resolve.specs.Named as named
use Rattle.jc_resolve.specs.Named.{AreNamed, IsNamedClass, IsNamedMethod, IsSized, infos_of}
use Rattle.jc_classes.specs.Outline.{LineTable, is_on_chain}
use Rattle.jc_classes.specs.KnownLines.{AreInRange}
use Rattle.jc_classes.specs.Tables.{record_from, records_from}
use Rattle.jc_classes.proofs.ClassLines.{AreAlike, IsOutline, tables-alike, tables-classes, class-alike, on_chain-alike}
use Rattle.jc_classes.proofs.Linking.{interface_is, declared_by}
use Rattle.jc_link.specs.Fields.{HasCellsOf}
use Rattle.jc_link.specs.World.{classes_of, lineage_of, table_of, methods_of}
use Rattle.jc_link.specs.Known.{IsTableOf}

-- ---- what is asked of named classes

pub sized : (packages methods object : ℕ) (cs : List NamedClass) → All (IsNamedClass packages methods cs object) cs → All IsSized cs
sized packages methods object cs all = All-weaker (IsNamedClass packages methods cs object) IsSized (λ r is. is.sized) cs all

pub in_range : (packages methods object : ℕ) (cs : List NamedClass) → All (IsNamedClass packages methods cs object) cs → AreInRange cs
in_range packages methods object cs all = All-weaker (IsNamedClass packages methods cs object) _ (λ r is. is.interfaces) cs all

pub methods_in : (infos : List (List ℕ)) (object : ℕ) (cs : List NamedClass) (ms : List MethodRec) → All (IsNamedMethod infos cs object) ms
    → All (λ (m : MethodRec). m.class < length cs) ms
methods_in infos object cs ms all = All-weaker (IsNamedMethod infos cs object) _ (λ m is. is.class) ms all

-- ---- records keep the own cells of their classes

pub own-kept : (t : LineTable) (all ks : List NamedClass) (c : ℕ) → map (λ (r : ClassRec). r.own) (records_from t all c ks)
    ≡ map (λ (k : NamedClass). k.own) ks
unfolding record_from
own-kept t all [] c = refl
own-kept t all (k ∷ ks) c = ap (λ (l : List (List Ty)). k.own ∷ l) (own-kept t all ks (c + 1))

-- ---- the table of packages

module _ (ps : List PackageRecord) (roles : List ℕ) where
  outlined_is : IsOutline (lineage_of ps roles) (classes_of ps roles)
  outlined_is = record { is = refl }

  alike : AreAlike (lineage_of ps roles) (table_of ps roles)
  alike = tables-alike (lineage_of ps roles) (classes_of ps roles) outlined_is

  pub has-cells : HasCellsOf (classes_of ps roles) (slice_index roles 0) (table_of ps roles)
  has-cells = record { object = refl; own = own-kept (lineage_of ps roles) (classes_of ps roles) (classes_of ps roles) 0 }

  pub counted : length (table_of ps roles).records ≡ length (classes_of ps roles)
  counted = alike.count ∙ length-map (classes_of ps roles) _

  pub interface_same : (c : ℕ) → is_interface (table_of ps roles) c ≡ named.is_interface (classes_of ps roles) c
  interface_same c = alike.interfaces c ∙ interface_is (lineage_of ps roles) (classes_of ps roles) c outlined_is

  module _ (t : ClassTable) (is : IsTableOf ps roles t) where
    pub table-chains : AreClasses (table_of ps roles)
    table-chains = tables-classes (lineage_of ps roles) (classes_of ps roles) outlined_is is.chains

    pub role-class : (k : ℕ) → k < 8 → IsClass (table_of ps roles) (slice_index roles k)
    role-class k lt = grind (arith, class-alike, alike)

    below_same : (a b : ℕ) → is_below (table_of ps roles) (Class a) (Class b) ≡ is_on_chain (lineage_of ps roles) b a
    unfolding is_below
    below_same a b = on_chain-alike (lineage_of ps roles) (table_of ps roles) alike b a

    pub role-thrown : (k : ℕ) → 2 ≤ k → k < 8 → Below (table_of ps roles) (Class (slice_index roles k)) (Class (throwable (table_of ps roles)))
    role-thrown k two lt =
        let low : k < length roles = omega (arith, is.eight) in
        let above = is.lines.thrown k two low in
        Below-from_is_below (table_of ps roles) table-chains (Class (slice_index roles k)) (Class (slice_index roles 1))
        (below_same (slice_index roles k) (slice_index roles 1) ∙ above)

    pub declared : AreNamed (infos_of ps) (slice_index roles 0) (classes_of ps roles) (methods_of ps roles) → (ty : Ty)
        → named.IsDeclared (classes_of ps roles) (slice_index roles 0) ty → IsDeclared (table_of ps roles) ty
    declared named_are ty h =
        declared_by (lineage_of ps roles) (classes_of ps roles) outlined_is is.chains
        (record { count = is.lines.count; few = is.few; sized = sized _ _ _ (classes_of ps roles) named_are.classes })
        ty h
