-- What is known of names, of classes and of what stands on them on the way to a world.
use Rattle.std.specs.Prelude.{◌≡◌, ℕ, ◌≤◌, List, length, slice_index, sum_by, All}
use Rattle.cap_package.specs.PackageRecord.{PackageRecord}
use Rattle.jc_base.specs.Class.{ClassTable}
use Rattle.jc_base.specs.Cell.{IsDeclared, width, AreElementsOf}
use Rattle.jc_base.specs.Linked.{AreLinkedClasses, AreSlots, IsMember, IsStatic}
use Rattle.jc_resolve.specs.Named.{AreNamed, infos_of}
use Rattle.jc_resolve.specs.Names.{NamesRecord, named}
use Rattle.jc_classes.specs.Lines.{HaveLines}
use Rattle.jc_classes.specs.Outline.{AreLines}
use Rattle.jc_link.specs.Arrays.{array_records, initial_cells}
use Rattle.jc_link.specs.Pools.{pools}
use Rattle.cap_index.specs.Indexes.{indexes_of}
use Rattle.jc_link.specs.declared.linking.Resolved.{Resolved}
use Rattle.jc_link.specs.declared.linking.Taken.{Taken}
use Rattle.jc_link.specs.World.{classes_of, lineage_of, table_of, methods_of, statics_of}

-- the names of packages, in which everything is a number
pub record AreNamesOf (ps : List PackageRecord) (roles : List ℕ) (n : NamesRecord) : Type 0 where
  pub are : n ≡ named ps roles
  pub known : AreNamed (infos_of ps) (slice_index roles 0) (classes_of ps roles) (methods_of ps roles)

-- the table of the classes of packages, of which nothing is at fault
pub record IsTableOf (ps : List PackageRecord) (roles : List ℕ) (t : ClassTable) : Type 0 where
  pub is : t ≡ table_of ps roles
  pub lines : HaveLines (classes_of ps roles) (lineage_of ps roles)
  pub chains : AreLines (lineage_of ps roles)
  pub linked : AreLinkedClasses (length ps) (table_of ps roles) (methods_of ps roles)
  pub few : length (classes_of ps roles) ≤ 4096
  pub eight : length roles ≡ 8

-- the static fields of packages and the members of their pools
pub record AreResolved (ps : List PackageRecord) (roles : List ℕ) (x : Resolved) : Type 0 where
  pub packages : length ps ≤ 16
  pub methods : length (methods_of ps roles) ≤ 32768
  pub statics_are : x.statics ≡ statics_of ps roles
  pub pools_are : x.pools ≡ pools ps (table_of ps roles) (statics_of ps roles)
  pub cells : sum_by (λ f. width f.kind) x.statics ≤ 32768
  pub slots : AreSlots 0 x.statics
  pub fields :
      length (array_records ps) ≤ 4096
      → (t : ClassTable)
      → All (λ f. IsDeclared t f.ty) x.statics
      → All (IsStatic (length ps) t (array_records ps)) x.statics
  pub each : length x.pools ≡ length ps
  pub entries : All (λ pool. length pool ≤ 65535) x.pools
  pub members : All (All (IsMember (table_of ps roles) (methods_of ps roles) x.statics)) x.pools
  pub arrays : length (array_records ps) ≤ 4096
  pub array_cells : initial_cells (array_records ps) ≤ 32768

-- what a world takes of named packages besides
pub record AreTaken (n : NamesRecord) (x : Taken) : Type 0 where
  pub infos : x.infos ≡ infos_of n.packages
  pub bytes : All (λ info. length info ≤ 65535) x.infos
  pub arrays : x.arrays ≡ array_records n.packages
  pub elements : All (λ a. AreElementsOf a.kind a.initial) x.arrays
  pub indexes : x.indexes ≡ indexes_of n.packages n.methods
