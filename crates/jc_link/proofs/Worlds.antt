-- The lists that packages and roles make are those of a world.
use Rattle.std.proofs.Common.{◌≡◌, ℕ, ◌≤◌, List, Option, length, sym, subst, ◌∙◌, arith}
use Rattle.std.specs.Prelude.{All, slice_index, sum_by}
use Rattle.std.proofs.lemmas.List.{length-map}
use Rattle.cap_package.specs.PackageRecord.{PackageRecord}
use Rattle.jc_base.specs.declared.record.MethodRec.{MethodRec}
use Rattle.jc_base.specs.declared.record.ArrayRec.{ArrayRec}
use Rattle.jc_base.specs.Class.{ClassTable}
use Rattle.jc_base.specs.Cell.{IsDeclared, width, AreElementsOf}
use Rattle.jc_base.specs.Linked.{IsMember, IsStatic, AreSlots}
use Rattle.jc_base.specs.Laws.{ConcreteIsDecided}
use Rattle.jc_base.specs.World.{Linked, IsWorld}
use Rattle.jc_resolve.specs.Named.{AreNamed, infos_of}
use Rattle.first_fault.specs.First.{AllEmpty}
use Rattle.jc_resolve.specs.Names.{NamesRecord}
use Rattle.cap_index.specs.Indexes.{indexes_of}
use Rattle.cap_index.proofs.Listing.{indexes-each}
use Rattle.jc_link.specs.Arrays.{array_records, initial_cells}
use Rattle.jc_link.specs.Pools.{pools}
use Rattle.jc_link.specs.declared.linking.Resolved.{Resolved}
use Rattle.jc_link.specs.World.{classes_of, table_of, methods_of, statics_of, AreListsOf, table_conditions, member_conditions, IsLinked}
use Rattle.jc_link.specs.Known.{AreNamesOf, IsTableOf, AreResolved}
use Rattle.jc_link.proofs.Tables.{counted, table-chains}
use Rattle.jc_link.proofs.Extensions.{none-extends-itself}
use Rattle.jc_link.proofs.Steps.{methods-are, packages-are, along, all_empty}
use Rattle.jc_link.proofs.Methods.{methods-linked}
use Rattle.jc_link.proofs.LinkedFields.{statics-declared}
use Rattle.jc_link.proofs.LinkedRoles.{are-roles}

-- what is known of the lists beside what they are
pub record AreKnownLists (ps : List PackageRecord) (w : Linked) : Type 0 where
  pub packages : length ps ≤ 16
  pub bytes : All (λ info. length info ≤ 65535) w.infos
  pub entries : All (λ pool. length pool ≤ 65535) w.pools
  pub each : length w.pools ≡ length ps
  pub members : All (All (IsMember w.classes w.methods w.statics)) w.pools
  pub methods : length w.methods ≤ 32768
  pub cells : sum_by (λ f. width f.kind) w.statics ≤ 32768
  pub slots : AreSlots 0 w.statics
  pub fields : length (array_records ps) ≤ 4096 → (t : ClassTable) → All (λ f. IsDeclared t f.ty) w.statics
      → All (IsStatic (length ps) t (array_records ps)) w.statics
  pub arrays : length w.arrays ≤ 4096
  pub array_cells : sum_by (λ a. length a.initial) w.arrays ≤ 32768
  pub elements : All (λ a. AreElementsOf a.kind a.initial) w.arrays

module _ (ps : List PackageRecord) (roles : List ℕ) where
  abbrev world_of : Linked
  world_of =
      record {
        infos = infos_of ps;
        pools = pools ps (table_of ps roles) (statics_of ps roles);
        classes = table_of ps roles;
        methods = methods_of ps roles;
        statics = statics_of ps roles;
        arrays = array_records ps;
        indexes = indexes_of ps (methods_of ps roles);
      }

  infos_count : length (infos_of ps) ≡ length ps
  infos_count = length-map ps _

  made : ConcreteIsDecided → (t : ClassTable) → IsTableOf ps roles t → AreNamed (infos_of ps) (slice_index roles 0) (classes_of ps roles)
      (methods_of ps roles) → AllEmpty (member_conditions ps roles) → AreKnownLists ps world_of → IsWorld world_of
  made decided t is known (static_cells, (members, (catches, (arrays, (abstract, done))))) lists = record {
    limits = record {
      packages = rw infos_count lists.packages;
      bytes = lists.bytes;
      entries = lists.entries;
      classes = rw (counted ps roles) is.few;
      methods = lists.methods;
      static_cells = lists.cells;
      arrays = lists.arrays;
      array_cells = lists.array_cells;
    };
    one_pool_each = lists.each ∙ sym infos_count;
    members = lists.members;
    chains = table-chains ps roles t is;
    extension = none-extends-itself ps roles t is;
    classes = rw infos_count is.linked;
    methods = methods-linked ps roles t is members catches known;
    statics = rw infos_count (lists.fields lists.arrays (table_of ps roles) (statics-declared ps roles t is known));
    slots = lists.slots;
    arrays = lists.elements;
    roles = are-roles decided ps roles t is abstract;
    one_index_each = indexes-each ps (methods_of ps roles);
  }

  same_world : (w : Linked) → AreListsOf ps roles w → world_of ≡ w
  same_world w l = grind (arith)

  -- the lists of packages and roles, of which nothing is at fault, are a world
  pub are-world : ConcreteIsDecided → (t : ClassTable) (w : Linked) → IsTableOf ps roles t
      → AreNamed (infos_of ps) (slice_index roles 0) (classes_of ps roles) (methods_of ps roles) → AllEmpty (member_conditions ps roles)
      → AreListsOf ps roles w → AreKnownLists ps w → IsWorld w
  are-world decided t w is known none l lists =
      let e : world_of ≡ w = same_world w l in
      subst IsWorld e (made decided t is known none (subst (AreKnownLists ps) (sym e) lists))

-- ---- the lists that are made

module _ (ps : List PackageRecord) (roles : List ℕ) (n : NamesRecord) (of : AreNamesOf ps roles n) (t : ClassTable) (is : IsTableOf ps roles t)
    (x : Resolved) (r : AreResolved n.packages n.roles x)
    (infos : List (List ℕ)) (i : infos ≡ infos_of ps) (methods : List MethodRec) (m : methods ≡ n.methods) (arrays : List ArrayRec)
    (a : arrays ≡ array_records ps)
    (indexes : List (Option (List ℕ))) (x_is : indexes ≡ indexes_of n.packages n.methods) where
  abbrev made_of : Linked
  made_of = record { infos = infos; pools = x.pools; classes = t; methods = methods; statics = x.statics; arrays = arrays; indexes = indexes }

  resolved : AreResolved ps roles x
  resolved = along ps roles n of (λ (xs : List PackageRecord) (rs : List ℕ). AreResolved xs rs x) r

  methods_same : methods ≡ methods_of ps roles
  methods_same = m ∙ methods-are ps roles n of

  indexes_same : indexes ≡ indexes_of ps (methods_of ps roles)
  indexes_same = grind (arith, packages-are, methods-are)

  pub lists-are : AreListsOf ps roles
      (record { infos = infos; pools = x.pools; classes = t; methods = methods; statics = x.statics; arrays = arrays; indexes = indexes })
  lists-are = grind (arith, methods_same, indexes_same)

  known_lists : All (λ info. length info ≤ 65535) infos → All (λ (b : ArrayRec). AreElementsOf b.kind b.initial) arrays → AreKnownLists ps made_of
  known_lists bytes elements = record {
    packages = resolved.packages;
    bytes = bytes;
    entries = resolved.entries;
    each = resolved.each;
    members = grind (arith, methods_same);
    methods = subst (λ (ms : List MethodRec). length ms ≤ 32768) (sym methods_same) resolved.methods;
    cells = resolved.cells;
    slots = resolved.slots;
    fields = resolved.fields;
    arrays = subst (λ (bs : List ArrayRec). length bs ≤ 4096) (sym a) resolved.arrays;
    array_cells = subst (λ (bs : List ArrayRec). initial_cells bs ≤ 32768) (sym a) resolved.array_cells;
    elements = elements;
  }

  pub world-made : ConcreteIsDecided → AllEmpty (member_conditions n.packages n.roles) → All (λ info. length info ≤ 65535) infos
      → All (λ (b : ArrayRec). AreElementsOf b.kind b.initial) arrays
      → IsWorld (record { infos = infos; pools = x.pools; classes = t; methods = methods; statics = x.statics; arrays = arrays; indexes = indexes })
  world-made decided none bytes elements =
      are-world ps roles decided t made_of is of.known
      (along ps roles n of (λ (xs : List PackageRecord) (rs : List ℕ). AllEmpty (member_conditions xs rs)) none) lists-are
      (known_lists bytes elements)

  pub linked-made : (w : Linked)
      → w ≡ record { infos = infos; pools = x.pools; classes = t; methods = methods; statics = x.statics; arrays = arrays; indexes = indexes }
      → AllEmpty (table_conditions ps roles) → AllEmpty (member_conditions n.packages n.roles) → IsLinked ps roles w
  linked-made w e none others = grind (arith, all_empty, lists-are)
