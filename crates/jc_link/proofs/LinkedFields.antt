-- The types of static fields are declared in the table of classes.
use Rattle.std.proofs.Common.{ℕ, ◌+◌, List, [], ◌∷◌, arith}
use Rattle.std.specs.Prelude.{All, slice_index}
use Rattle.std.proofs.lemmas.List.Elements.{All-nil}
use Rattle.cap_desc.specs.declared.type_list.TypeItem.{TypeItem}
use Rattle.cap_package.specs.PackageRecord.{PackageRecord}
use Rattle.jc_base.specs.declared.ty.Ty.{Ty}
use Rattle.jc_base.specs.declared.record.StaticRec.{StaticRec}
use Rattle.jc_base.specs.Class.{ClassTable}
use Rattle.jc_base.specs.Cell.{IsDeclared}
use Rattle.jc_resolve.specs.Named.{AreNamed, infos_of}
use Rattle.jc_resolve.specs.WorldTypes.{type_of}
use Rattle.jc_resolve.proofs.DeclaredTypes.{type_declared}
use Rattle.jc_link.specs.Statics.{StaticSite, cells_at, records_from, sites}
use Rattle.jc_link.specs.World.{classes_of, table_of, methods_of, statics_of}
use Rattle.jc_link.specs.Known.{IsTableOf}
use Rattle.jc_link.proofs.Tables.{declared}

fields_declared : (told : ℕ → TypeItem → Ty) (t : ClassTable) (slot : ℕ) (ss : List StaticSite)
    → ((k : ℕ) (item : TypeItem) → IsDeclared t (told k item)) → All (λ (f : StaticRec). IsDeclared t f.ty) (records_from told slot ss)
fields_declared told t slot [] each = All-nil (λ (f : StaticRec). IsDeclared t f.ty)
fields_declared told t slot (s ∷ others) each = grind (arith, fields_declared told t (slot + cells_at s.place) others each)

pub statics-declared : (ps : List PackageRecord) (roles : List ℕ) (t : ClassTable) → IsTableOf ps roles t
    → AreNamed (infos_of ps) (slice_index roles 0) (classes_of ps roles) (methods_of ps roles)
    → All (λ (f : StaticRec). IsDeclared (table_of ps roles) f.ty) (statics_of ps roles)
statics-declared ps roles t is known =
    fields_declared (type_of ps (slice_index roles 0)) (table_of ps roles) 0 (sites ps)
    (λ k item. declared ps roles t is known (type_of ps (slice_index roles 0) k item) (type_declared ps (slice_index roles 0) k item))
