-- From names to classes, and to what stands on them: what each step is given and what it tells.
use Rattle.std.proofs.Common.{◌≡◌, ℕ, ◌<◌, ◌≤◌, List, length, Result, Ok, Err, sym, ap, subst, ◌∙◌, arith}
use Rattle.std.specs.Prelude.{All, IfOk, slice_index}
use Rattle.std.proofs.lemmas.List.{length-map}
use Rattle.cap_package.specs.PackageRecord.{PackageRecord}
use Rattle.jc_base.specs.declared.record.MethodRec.{MethodRec}
use Rattle.jc_base.specs.Class.{ClassTable, IsClass, throwable}
use Rattle.jc_base.specs.Linked.{AreLinkedClasses}
use Rattle.jc_resolve.specs.declared.fault.LinkFault.{LinkFault}
use Rattle.jc_resolve.specs.declared.fault.LinkEnd.{LinkEnd}
use Rattle.jc_resolve.specs.declared.fault.LinkEnd.TheVariants.{Fault, Memory}
use Rattle.jc_resolve.specs.declared.naming.NamedClass.{NamedClass}
use Rattle.jc_resolve.specs.Fault.{link_place}
use Rattle.first_fault.specs.Least.{◌>>=◌}
use Rattle.first_fault.specs.First.{IsFirst, AllEmpty}
use Rattle.jc_base.proofs.Bodies.{linked_more}
use Rattle.jc_resolve.specs.Named.{AreNamed, infos_of}
use Rattle.jc_resolve.specs.Conditions as names
use Rattle.jc_resolve.specs.Due.{IsDue}
use Rattle.jc_resolve.specs.Names.{NamesRecord, named, names_of, TellsNames}
use Rattle.jc_resolve.proofs.ConditionLists.{AllEmpty-append, IsFirst-append_left, IsFirst-append_right}
use Rattle.jc_classes.specs.LineConditions as lineage
use Rattle.jc_classes.specs.KnownClasses.{HasKnownLine}
use Rattle.jc_classes.specs.Lines as lines
use Rattle.jc_classes.specs.Lines.{HaveLines}
use Rattle.jc_classes.specs.Outline.{LineTable, AreLines, outline}
use Rattle.jc_classes.proofs.Naming.{named-known}
use Rattle.jc_classes.specs.TableConditions as classes
use Rattle.jc_classes.specs.KnownLines.{HaveSuperclasses, AreInRange}
use Rattle.jc_classes.specs.Tables.{class_tables, Links, TellsTableEnd}
use Rattle.jc_link.specs.Fields.{HasCellsOf}
use Rattle.jc_link.specs.World.{classes_of, lineage_of, methods_of, first_classes}
use Rattle.jc_link.specs.World.{class_conditions, table_conditions, member_conditions, conditions}
use Rattle.jc_link.specs.World.{TellsFirst, TableTells, LinkTells}
use Rattle.jc_link.specs.declared.linking.Resolved.{Resolved}
use Rattle.jc_link.specs.declared.tabling.Tabled.{Tabled}
use Rattle.jc_link.specs.Known.{AreNamesOf, IsTableOf}
use Rattle.jc_link.proofs.Tables.{in_range, has-cells, counted, role-class}

-- ---- names

named-by : (ps : List PackageRecord) (roles : List ℕ) (n : NamesRecord) (r : Result (Unit {0}) LinkFault) → (r >>= λ done. Ok (named ps roles))
    ≡ Ok n → n ≡ named ps roles
named-by ps roles n u e = grind (arith)

pub names_known : (ps : List PackageRecord) (roles : List ℕ) (n : NamesRecord) → names_of ps roles ≡ Ok n
    → AreNamed (infos_of ps) (slice_index roles 0) n.classes n.methods → AreNamesOf ps roles n
unfolding names_of
names_known ps roles n e known = grind (arith, named-by)

pub names_first : (ps : List PackageRecord) (r : Result NamesRecord LinkEnd) → TellsNames ps r → TellsFirst (names.conditions ps) r
names_first ps y h = grind (arith)

pub names_answered : (ps : List PackageRecord) (roles : List ℕ) (r : Result NamesRecord LinkEnd) → IsDue (names_of ps roles) r
    → IfOk r (λ n. AreNamed (infos_of ps) (slice_index roles 0) n.classes n.methods) → IfOk r (AreNamesOf ps roles)
names_answered ps roles z e known = grind (arith, names_known)

-- ---- classes

module _ (ps : List PackageRecord) (roles : List ℕ) (n : NamesRecord) (of : AreNamesOf ps roles n) where
  pub classes-are : n.classes ≡ classes_of ps roles
  classes-are = ap (λ (m : NamesRecord). m.classes) of.are

  pub methods-are : n.methods ≡ methods_of ps roles
  methods-are = ap (λ (m : NamesRecord). m.methods) of.are

  pub packages-are : n.packages ≡ ps
  packages-are = ap (λ (m : NamesRecord). m.packages) of.are

  pub roles-are : n.roles ≡ roles
  roles-are = ap (λ (m : NamesRecord). m.roles) of.are

  -- what holds of the packages and the roles of names holds of these, and the other way
  homes_count : length (infos_of ps) ≡ length ps
  homes_count = length-map ps _

  pub homes-known : All (λ (m : MethodRec). m.package < length ps) n.methods
  homes-known = grind (arith, homes_count, methods-are)

  pub along : (P : List PackageRecord → List ℕ → Type 0) → P n.packages n.roles → P ps roles
  along P h = subst (λ (xs : List PackageRecord). P xs roles) packages-are (subst (λ (rs : List ℕ). P n.packages rs) roles-are h)

  pub back : (P : List PackageRecord → List ℕ → Type 0) → P ps roles → P n.packages n.roles
  back P h = subst (λ (rs : List ℕ). P n.packages rs) (sym roles-are) (subst (λ (xs : List PackageRecord). P xs roles) (sym packages-are) h)

  pub lines_known : (cs : List NamedClass) → cs ≡ n.classes → All (HasKnownLine cs) cs
  lines_known cs e = grind (arith, classes-are, named-known)

  pub range_known : (cs : List NamedClass) → cs ≡ n.classes → AreInRange cs
  range_known cs e = grind (arith, classes-are, in_range)

  pub methods_known : (cs : List NamedClass) (ms : List MethodRec) → cs ≡ n.classes → ms ≡ n.methods
      → All (λ (m : MethodRec). m.class < length cs) ms
  methods_known cs ms e f = grind (arith, methods-are, classes-are)

  pub classes_known : (cs : List NamedClass) (t : LineTable) → cs ≡ n.classes → length cs ≤ 4096 → HaveLines cs t → HaveSuperclasses t cs
  classes_known cs t e few have = grind (arith, classes-are)

  -- the first fault of superclasses, roles and interfaces
  pub line_first : (cs : List NamedClass) (first : ℕ) (f : LinkFault) → cs ≡ n.classes → first ≡ first_classes ps
      → IsFirst link_place (lineage.conditions cs first roles) f → IsFirst link_place (class_conditions ps roles) f
  line_first cs first f e g h = grind (arith, classes-are)

  line_empty : (cs : List NamedClass) (first : ℕ) → cs ≡ n.classes → first ≡ first_classes ps → AllEmpty (lineage.conditions cs first roles)
      → AllEmpty (lineage.conditions (classes_of ps roles) (first_classes ps) roles)
  line_empty cs first e g h = grind (arith, classes-are)

  lineage_same : (cs : List NamedClass) (t : LineTable) → cs ≡ n.classes → t ≡ outline cs roles → t ≡ lineage_of ps roles
  lineage_same cs t e o = o ∙ ap (λ (xs : List NamedClass). outline xs roles) (e ∙ classes-are)

  conditions_same : (cs : List NamedClass) (ms : List MethodRec) (t : LineTable) → cs ≡ n.classes → ms ≡ n.methods → t ≡ outline cs roles
      → classes.conditions t cs ms ≡ classes.conditions (lineage_of ps roles) (classes_of ps roles) (methods_of ps roles)
  conditions_same cs ms t e m o = grind (arith, lineage_same, classes-are, methods-are)

  -- the first fault of dispatch lists and instances
  pub class_first : (cs : List NamedClass) (ms : List MethodRec) (first : ℕ) (t : LineTable) (f : LinkFault) → cs ≡ n.classes → ms ≡ n.methods
      → first ≡ first_classes ps → t ≡ outline cs roles
      → AllEmpty (lineage.conditions cs first roles) → IsFirst link_place (classes.conditions t cs ms) f
      → IsFirst link_place (class_conditions ps roles) f
  class_first cs ms first t f e m g o none h = grind (arith, line_empty, conditions_same)

  -- the same of what linking ends with
  pub line_told : (cs : List NamedClass) (first : ℕ) (end : LinkEnd) → cs ≡ n.classes → first ≡ first_classes ps
      → lines.TellsLines cs first roles (Err end) → TellsFirst {A = ClassTable} (class_conditions ps roles) (Err end)
  line_told cs first (Fault f) e g h = line_first cs first f e g h
  line_told cs first Memory e g h = tt {0}

  pub class_told : (cs : List NamedClass) (ms : List MethodRec) (first : ℕ) (t : LineTable) (end : LinkEnd) → cs ≡ n.classes → ms ≡ n.methods
      → first ≡ first_classes ps → t ≡ outline cs roles
      → AllEmpty (lineage.conditions cs first roles) → TellsTableEnd t cs ms (Err end) → TellsFirst {A = ClassTable} (class_conditions ps roles) (Err end)
  class_told cs ms first t (Fault f) e m g o none h = class_first cs ms first t f e m g o none h
  class_told cs ms first t Memory e m g o none h = tt {0}

  pub class_empty : (cs : List NamedClass) (ms : List MethodRec) (first : ℕ) (t : LineTable) → cs ≡ n.classes → ms ≡ n.methods
      → first ≡ first_classes ps → t ≡ outline cs roles
      → AllEmpty (lineage.conditions cs first roles) → AllEmpty (classes.conditions t cs ms) → AllEmpty (class_conditions ps roles)
  class_empty cs ms first t e m g o none h = grind (arith, line_empty, conditions_same)

  -- the table that is made
  pub table_known : (cs : List NamedClass) (ms : List MethodRec) (t : LineTable) (u : ClassTable) → cs ≡ n.classes → ms ≡ n.methods
      → length cs ≤ 4096 → length t.roles ≡ 8 → t ≡ outline cs roles → AreLines t → HaveLines cs t → u ≡ class_tables t cs
      → Links t cs ms u
      → IsTableOf ps roles u
  table_known cs ms t u e m few eight o are have made links = grind (arith, classes-are, methods-are, lineage_same, length-map)

  -- ---- what stands on the classes is asked of names and a table

  pub cells_known : (t : ClassTable) → IsTableOf ps roles t → HasCellsOf n.classes (slice_index n.roles 0) t
  cells_known t is = grind (arith, roles-are, classes-are, has-cells)

  pub linked_known : (t : ClassTable) → IsTableOf ps roles t → AreLinkedClasses (length n.packages) t n.methods
  linked_known t is = grind (arith, packages-are, methods-are)

  pub linked_few : (t : ClassTable) → IsTableOf ps roles t → length n.packages ≤ 16 → AreLinkedClasses 16 t n.methods
  linked_few t is few = linked_more (length n.packages) 16 t n.methods few (linked_known t is)

  pub count_known : (t : ClassTable) → IsTableOf ps roles t → length t.records ≡ length n.classes
  count_known t is = ap (λ (u : ClassTable). length u.records) is.is ∙ counted ps roles ∙ ap length (sym classes-are)

  -- the class of each method stands in the table
  pub methods_of_table : (t : ClassTable) → IsTableOf ps roles t → (ms : List MethodRec) → ms ≡ n.methods
      → All (λ (m : MethodRec). m.class < length t.records) ms
  methods_of_table t is ms e = grind (arith, count_known, methods_known)

  role_known : (t : ClassTable) → IsTableOf ps roles t → (k : ℕ) → k < 8 → IsClass t (slice_index t.roles k)
  role_known t is k lt = subst (λ (u : ClassTable). IsClass u (slice_index u.roles k)) (sym is.is) (role-class ps roles t is k lt)

  pub throwable_known : (t : ClassTable) → IsTableOf ps roles t → IsClass t (throwable t)
  throwable_known t is = role_known t is 1 (omega arith)

  pub roles_known : (t : ClassTable) → IsTableOf ps roles t → (k : ℕ) → k < 8 → slice_index t.roles k < length t.records
  roles_known t is k lt = (role_known t is k lt).number

pub outline_roles : (cs : List NamedClass) (roles : List ℕ) (t : LineTable) → t ≡ outline cs roles → t ≡ outline cs t.roles
outline_roles cs roles t e = e ∙ ap (outline cs) (sym (ap (λ (u : LineTable). u.roles) e))

-- ---- the conditions one after the other

module _ (ps : List PackageRecord) (roles : List ℕ) (f : LinkFault) where
  pub names_table : IsFirst link_place (names.conditions ps) f → IsFirst link_place (table_conditions ps roles) f
  names_table h = IsFirst-append_left link_place (names.conditions ps) (class_conditions ps roles) f h

  pub classes_table : AllEmpty (names.conditions ps) → IsFirst link_place (class_conditions ps roles) f → IsFirst link_place (table_conditions ps roles) f
  classes_table none h = IsFirst-append_right link_place (names.conditions ps) (class_conditions ps roles) f none h

  pub table_all : IsFirst link_place (table_conditions ps roles) f → IsFirst link_place (conditions ps roles) f
  table_all h = IsFirst-append_left link_place (table_conditions ps roles) (member_conditions ps roles) f h

  pub members_all : AllEmpty (table_conditions ps roles) → IsFirst link_place (member_conditions ps roles) f → IsFirst link_place (conditions ps roles) f
  members_all none h = IsFirst-append_right link_place (table_conditions ps roles) (member_conditions ps roles) f none h

module _ (ps : List PackageRecord) (roles : List ℕ) where
  pub table_empty : AllEmpty (names.conditions ps) → AllEmpty (class_conditions ps roles) → AllEmpty (table_conditions ps roles)
  table_empty none others = AllEmpty-append (names.conditions ps) (class_conditions ps roles) none others

  pub all_empty : AllEmpty (table_conditions ps roles) → AllEmpty (member_conditions ps roles) → AllEmpty (conditions ps roles)
  all_empty none others = AllEmpty-append (table_conditions ps roles) (member_conditions ps roles) none others

-- ---- what each step tells of the whole

module _ (ps : List PackageRecord) (roles : List ℕ) where
  pub names_tell : (end : LinkEnd) → TellsFirst {A = NamesRecord} (names.conditions ps) (Err end)
      → TellsFirst {A = Tabled} (table_conditions ps roles) (Err end)
  names_tell x h = grind (arith, names_table)

  pub classes_tell : (end : LinkEnd) → AllEmpty (names.conditions ps) → TellsFirst {A = ClassTable} (class_conditions ps roles) (Err end)
      → TellsFirst {A = Tabled} (table_conditions ps roles) (Err end)
  classes_tell x none h = grind (arith, classes_table)

  pub table_told : (end : LinkEnd) → TellsFirst {A = Tabled} (table_conditions ps roles) (Err end) → TableTells ps roles (Err end)
  table_told x h = grind (arith)

  pub table_tells : (end : LinkEnd) → TellsFirst {A = Tabled} (table_conditions ps roles) (Err end) → LinkTells ps roles (Err end)
  table_tells x h = grind (arith, table_all)

  pub members_tell : (end : LinkEnd) → AllEmpty (table_conditions ps roles) → TellsFirst {A = Resolved} (member_conditions ps roles) (Err end)
      → LinkTells ps roles (Err end)
  members_tell x none h = grind (arith, members_all)
