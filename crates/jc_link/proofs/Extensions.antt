-- No interface of a world extends itself.
use Rattle.std.proofs.Common.{◌≡◌, ℕ, zero, suc, ◌+◌, List, [], ◌∷◌, refl, subst}
use Rattle.std.specs.Prelude.{Contains, Some, slice_get}
use Rattle.cap_package.specs.PackageRecord.{PackageRecord}
use Rattle.jc_base.specs.Class.{ClassTable}
use Rattle.jc_classes.specs.Outline.{LineTable}
use Rattle.jc_base.specs.Interface.{extended, extended_in, NoneExtendsItself}
use Rattle.jc_base.proofs.Leading.{Leads-along}
use Rattle.jc_resolve.specs.declared.naming.NamedClass.{NamedClass}
use Rattle.jc_classes.specs.Ancestor as named
use Rattle.jc_classes.specs.declared.overlay.ClassLayout.{ClassLayout}
use Rattle.jc_classes.specs.Layout.{class_layout}
use Rattle.jc_classes.specs.Tables.{record_from, records_from, class_tables}
use Rattle.jc_link.specs.World.{classes_of, lineage_of, table_of}
use Rattle.jc_link.specs.Known.{IsTableOf}

-- the record of a class names the interfaces that its component names
record-extends : (k : NamedClass) (l : ClassLayout) → extended_in (Some (record_from k l)) ≡ named.extended_in (Some k)
unfolding record_from
record-extends k l = refl

records-extend : (t : LineTable) (all ks : List NamedClass) (c n : ℕ) → extended_in (slice_get (records_from t all c ks) n) ≡ named.extended_in
    (slice_get ks n)
records-extend t all [] c n = refl
records-extend t all (k ∷ ks) c zero = record-extends k (class_layout t all c)
records-extend t all (k ∷ ks) c (suc n) = records-extend t all ks (c + 1) n

table-extends : (t : LineTable) (ks : List NamedClass) (n : ℕ) → extended (class_tables t ks) n ≡ named.extended ks n
unfolding extended named.extended
table-extends t ks n = records-extend t ks ks 0 n

pub none-extends-itself : (ps : List PackageRecord) (roles : List ℕ) (t : ClassTable) → IsTableOf ps roles t → NoneExtendsItself (table_of ps roles)
none-extends-itself ps roles t is = λ i leads.
    is.lines.extension i (Leads-along (λ x y h. subst (λ (xs : List ℕ). Contains xs y) (table-extends (lineage_of ps roles) (classes_of ps roles) x) h)
    leads)
