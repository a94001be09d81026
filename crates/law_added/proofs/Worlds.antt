-- The world that packages make is the beginning of the one that they make with more packages after them.
use Rattle.std.proofs.Common.{◌≡◌, ◌<◌, ◌≤◌, ◌+◌, ℕ, zero, suc, List, [], ◌∷◌, ◌++◌, length, slice_get, slice_index}
use Rattle.std.proofs.Common.{Option, Some, None, IfSome, refl, sym, ap, subst, ◌∙◌, arith, All}
use Rattle.std.specs.Prelude.{filter_map}
use Rattle.std.proofs.lemmas.List.{map-append, length-map}
use Rattle.first_fault.specs.First.{AllEmpty}
use Rattle.cap_package.specs.PackageRecord.{PackageRecord}
use Rattle.cap_pool.specs.PoolFormat.{Entry}
use Rattle.jc_base.specs.declared.record.Member.{Member}
use Rattle.jc_base.specs.declared.record.MethodRec.{MethodRec}
use Rattle.std.specs.Prelude.{drop}
use Rattle.std.proofs.lemmas.List.{take-append-drop}
use Rattle.jc_base.specs.declared.record.Member.TheVariants.{ClassOf}
use Rattle.jc_base.specs.Class.{ClassTable, AreClasses}
use Rattle.jc_base.specs.Linked.{list_at}
use Rattle.jc_base.specs.World.{Linked, member_at}
use Rattle.jc_resolve.specs.Conditions as names
use Rattle.jc_resolve.specs.Named.{IsAgreed, infos_of}
use Rattle.jc_resolve.specs.NamedClasses.{named_classes}
use Rattle.jc_resolve.specs.NamedMethods.{named_methods, named_method}
use Rattle.jc_resolve.specs.Numbering.{NumberedMethod, numbered_classes, numbered_methods, methods_after}
use Rattle.jc_classes.specs.LineConditions as lineage
use Rattle.jc_classes.specs.Outline.{AreLines}
use Rattle.jc_classes.specs.TableConditions as classes
use Rattle.jc_link.specs.Pools.{pools_after, pools}
use Rattle.jc_link.specs.Members.{member_of}
use Rattle.cap_index.specs.Indexes.{indexes_of}
use Rattle.jc_link.specs.Arrays.{array_records}
use Rattle.jc_resolve.proofs.ConditionLists.{AllEmpty-before}
use Rattle.jc_resolve.proofs.NumberedLaws.{IsDescribed, all-described}
use Rattle.jc_resolve.proofs.NamedClassLaws.{describes-class, class-described}
use Rattle.jc_resolve.proofs.OwnClasses.{own-reference}
use Rattle.jc_link.specs.World.{classes_of, lineage_of, table_of, methods_of, statics_of, class_conditions, table_conditions}
use Rattle.jc_link.specs.World.{member_conditions, conditions, AreListsOf, IsLinked}
use Rattle.law_added.specs.Added.{Begins, HasMore}
use Rattle.law_added.specs.Worlds.{WorldsBegin}
use Rattle.jc_base.proofs.Lists.{All-slice_get, slice_get-farther}
use Rattle.law_added.proofs.Lists.{begins, each_after}
use Rattle.law_added.proofs.Numbers.{methods_are, methods_until, methods_from, each_mapped}
use Rattle.law_added.proofs.Own.{own_number, all_at}
use Rattle.law_added.proofs.Records.{added_classes, classes_begin, added_methods, methods_begin}
use Rattle.jc_classes.proofs.ClassLines.{tables-classes}
use Rattle.law_added.proofs.Lines.{lines_are}
use Rattle.law_added.proofs.Tables.{IsGrown, tables_grown}
use Rattle.law_added.proofs.Members.{member_front}
use Rattle.law_added.proofs.Named.{pools_know}
use Rattle.law_added.proofs.Begun.{IsBegun}
use Rattle.law_added.proofs.Statics.{arrays_begin, HaveStaticsThen, statics_then, added_indexes, indexes_begin}

-- ---- conditions

lines_of : (ps : List PackageRecord) (roles : List ℕ) → AllEmpty (conditions ps roles) → 0 < length roles → AreLines (lineage_of ps roles)
lines_of ps roles none some = grind (arith, lines_are, slice_index)

-- ---- lists

module _ (ps qs : List PackageRecord) (roles : List ℕ) (none : AllEmpty (conditions ps roles)) (none_more : AllEmpty (conditions (ps ++ qs) roles))
    (some : 0 < length roles) where
  abbrev role : ℕ
  role = slice_index roles 0

  cs_are : classes_of (ps ++ qs) roles ≡ classes_of ps roles ++ added_classes ps qs role
  cs_are = classes_begin ps qs role

  count : length (classes_of ps roles) ≡ length (numbered_classes ps)
  unfolding named_classes
  count = length-map (numbered_classes ps) _

  abbrev t : ClassTable
  t = table_of ps roles

  abbrev u : ClassTable
  u = table_of (ps ++ qs) roles

  grown : IsGrown (length (numbered_classes ps)) t u
  grown = grind (arith, cs_are, lines_of, tables_grown, count, length)

  abbrev fields : HaveStaticsThen role ps qs
  fields = statics_then role ps qs

  statics_begin : statics_of (ps ++ qs) roles ≡ statics_of ps roles ++ fields.added
  statics_begin = fields.begin

  -- ---- pools

  added_pools : List (List Member)
  added_pools = pools_after (member_of (ps ++ qs) u (statics_of (ps ++ qs) roles)) (length ps) qs

  named_alike : (f g : Entry → Option Member) (es : List Entry) → ((e : Entry) → f e ≡ g e) → filter_map f es ≡ filter_map g es
  named_alike f g [] same = refl
  named_alike f g (e ∷ es) same = rw (same e, named_alike f g es same) refl

  pools_from : (k : ℕ) (rest : List PackageRecord) → k + length rest ≡ length ps
      → pools_after (member_of (ps ++ qs) u (statics_of (ps ++ qs) roles)) k (rest ++ qs)
      ≡ pools_after (member_of ps t (statics_of ps roles)) k rest ++ added_pools
  unfolding added_pools
  pools_from k [] e = grind (arith, length)
  pools_from k (p ∷ rest) e =
      let lt : k < length ps = omega (arith, e) in
      grind (arith, lt, named_alike, statics_begin, member_front, grown, pools_from (k + 1) rest (omega (arith, e)))

  pools_begin : pools (ps ++ qs) u (statics_of (ps ++ qs) roles) ≡ pools ps t (statics_of ps roles) ++ added_pools
  pools_begin = pools_from 0 ps (omega arith)

  -- ---- methods

  own_homes : (i : ℕ) → IfSome (slice_get (named_methods ps roles) i) (λ m. m.«package» < length ps)
  unfolding named_methods named_method
  own_homes =
      each_mapped (λ (m : MethodRec). m.«package» < length ps) (named_method ps roles) (numbered_methods ps)
      (λ i. by (slice_get (numbered_methods ps) i) (methods_until 0 ps i))
    where
      by : (o : Option NumberedMethod) → IfSome o (λ m. m.home < 0 + length ps) → IfSome o (λ m. (named_method ps roles m).«package» < length ps)
      by None h = tt
      by (Some m) h = omega (arith, h)

  added_homes : (i : ℕ) → IfSome (slice_get (added_methods ps qs roles) i) (λ m. length ps ≤ m.«package»)
  unfolding added_methods named_method
  added_homes =
      each_mapped (λ (m : MethodRec). length ps ≤ m.«package») (named_method (ps ++ qs) roles) (methods_after (length ps) qs)
      (λ i. by (slice_get (methods_after (length ps) qs) i) (methods_from (length ps) (length ps) qs (omega arith) i))
    where
      by : (o : Option NumberedMethod) → IfSome o (λ m. length ps ≤ m.home) → IfSome o (λ m. length ps ≤ (named_method (ps ++ qs) roles m).«package»)
      by None h = tt
      by (Some m) h = h

  -- the methods of the packages before are of their classes
  own_class : (i : ℕ) → IfSome (slice_get (named_methods ps roles) i) (λ m. m.class < length (numbered_classes ps))
  unfolding named_methods named_method
  own_class =
      each_mapped (λ (m : MethodRec). m.class < length (numbered_classes ps)) (named_method ps roles) (numbered_methods ps)
      (λ i. by (slice_get (numbered_methods ps) i) (all_at (IsDescribed ps) (numbered_methods ps) (all-described ps) i))
    where
      by : (o : Option NumberedMethod) → IfSome o (IsDescribed ps) → IfSome o (λ m. (named_method ps roles m).class < length (numbered_classes ps))
      by None d = tt
      by (Some m) d =
          let names_none = AllEmpty-before (names.conditions ps) (class_conditions ps roles)
          (AllEmpty-before (table_conditions ps roles) (member_conditions ps roles) none) in
          let x = describes-class ps m.home m.of_package m.class names_none d.«package» d.class in
          omega (arith, x.below, class-described ps m.home m.class x)

  -- the methods that are added are of classes that are added
  added_class : (agreed : All IsAgreed (ps ++ qs)) (i : ℕ)
      → IfSome (slice_get (added_methods ps qs roles) i) (λ m. length t.records ≤ m.class)
  unfolding added_methods named_method
  added_class agreed =
      each_mapped (λ (m : MethodRec). length t.records ≤ m.class) (named_method (ps ++ qs) roles) (methods_after (length ps) qs)
      (λ i. later_class (slice_get (methods_after (length ps) qs) i) (methods_from (length ps) (length ps) qs (omega arith) i) (described i))
    where
      described : (i : ℕ) → IfSome (slice_get (methods_after (length ps) qs) i) (IsDescribed (ps ++ qs))
      described i =
          subst (λ o. IfSome o (IsDescribed (ps ++ qs)))
          (slice_get-farther (numbered_methods ps) (methods_after (length ps) qs) i (length (numbered_methods ps) + i) refl)
          (subst (λ ms. IfSome (slice_get ms (length (numbered_methods ps) + i)) (IsDescribed (ps ++ qs))) (methods_are ps qs)
          (all_at (IsDescribed (ps ++ qs)) (numbered_methods (ps ++ qs)) (all-described (ps ++ qs)) (length (numbered_methods ps) + i)))

      later_class : (o : Option NumberedMethod) → IfSome o (λ m. length ps ≤ m.home) → IfSome o (IsDescribed (ps ++ qs))
          → IfSome o (λ m. length t.records ≤ (named_method (ps ++ qs) roles m).class)
      later_class None a d = tt
      later_class (Some m) a d =
          let is = All-slice_get IsAgreed (ps ++ qs) m.home m.of_package agreed d.«package» in
          let own = own-reference m.of_package is m.class d.class in
          let names_none = AllEmpty-before (names.conditions (ps ++ qs)) (class_conditions (ps ++ qs) roles)
          (AllEmpty-before (table_conditions (ps ++ qs) roles) (member_conditions (ps ++ qs) roles) none_more) in
          let x = describes-class (ps ++ qs) m.home m.of_package m.class names_none d.«package» d.class in
          let most = own_number ps qs m.home m.class.class_ref x.number a own x.named in
          let same = class-described (ps ++ qs) m.home m.class x in
          omega (arith, most, same, grown.count)

  -- ---- worlds

  module _ (v w : Linked) (first : AreListsOf ps roles v) (second : AreListsOf (ps ++ qs) roles w) (agreed : All IsAgreed (ps ++ qs)) where
    begin_by : {X : Type 0} (xs ys some_xs all_ys rest : List X) → xs ≡ some_xs → ys ≡ all_ys → all_ys ≡ some_xs ++ rest → Begins xs ys
    begin_by xs ys some_xs all_ys rest a b e = begins xs ys rest (b ∙ e ∙ ap (λ zs. zs ++ rest) (sym a))

    v_records : v.classes.records ≡ t.records
    v_records = ap (λ (x : ClassTable). x.records) first.classes

    methods_split : w.methods ≡ v.methods ++ added_methods ps qs roles
    methods_split = second.methods ∙ methods_begin ps qs roles ∙ ap (λ ms. ms ++ added_methods ps qs roles) (sym first.methods)

    -- the classes of the first world, as the rules see them in the second one
    pub classes-grown : IsGrown (length v.classes.records) v.classes w.classes
    classes-grown = grind (arith, length, grown, count)

    pub few-classes : AreClasses v.classes
    few-classes =
        subst AreClasses (sym first.classes)
        (tables-classes (lineage_of ps roles) (classes_of ps roles) (record { is = refl }) (lines_of ps roles none some))

    pub many-classes : AreClasses w.classes
    many-classes =
        subst AreClasses (sym second.classes)
        (tables-classes (lineage_of (ps ++ qs) roles) (classes_of (ps ++ qs) roles) (record { is = refl }) (lines_of (ps ++ qs) roles none_more some))

    pub methods-split : w.methods ≡ v.methods ++ added_methods ps qs roles
    methods-split = methods_split

    counted : length v.classes.records ≡ length (numbered_classes ps)
    counted = ap length v_records ∙ grown.count

    pub added-apart : (i : ℕ) → IfSome (slice_get (added_methods ps qs roles) i) (λ m. length v.classes.records ≤ m.class)
    added-apart i = subst (λ k. IfSome (slice_get (added_methods ps qs roles) i) (λ m. k ≤ m.class)) (sym (ap length v_records)) (added_class agreed i)

    pub own-classes : (i : ℕ) → IfSome (slice_get v.methods i) (λ m. m.class < length v.classes.records)
    own-classes i = grind (arith, slice_get, length, counted, own_class)

    pub pool-knows : (k n c : ℕ) → member_at v k n ≡ Some (ClassOf c) → c < length v.classes.records
    pool-knows k n c e = grind (arith, slice_get, counted, pools_know)

    pub world-begins : HasMore v w
    world-begins = record {
      infos = begin_by v.infos w.infos (infos_of ps) (infos_of (ps ++ qs)) (infos_of qs) first.infos second.infos (map-append _ ps qs);
      pools = begin_by v.pools w.pools _ _ added_pools first.pools second.pools pools_begin;
      classes = begin_by v.classes.records w.classes.records t.records u.records grown.more v_records
          (ap (λ (x : ClassTable). x.records) second.classes) grown.records;
      roles = ap (λ (x : ClassTable). x.roles) second.classes ∙ grown.roles ∙ sym (ap (λ (x : ClassTable). x.roles) first.classes);
      methods = begins v.methods w.methods (added_methods ps qs roles) methods_split;
      statics = begin_by v.statics w.statics (statics_of ps roles) (statics_of (ps ++ qs) roles) fields.added first.statics second.statics statics_begin;
      arrays = begin_by v.arrays w.arrays (array_records ps) (array_records (ps ++ qs)) (array_records qs) first.arrays second.arrays (arrays_begin ps qs);
      indexes = begin_by v.indexes w.indexes (indexes_of ps (methods_of ps roles)) (indexes_of (ps ++ qs) (methods_of (ps ++ qs) roles))
          (added_indexes ps qs (named_methods ps roles) (added_methods ps qs roles) own_homes added_homes [] (named_methods ps roles))
          first.indexes second.indexes
          (ap (indexes_of (ps ++ qs)) (methods_begin ps qs roles)
          ∙ indexes_begin ps qs (named_methods ps roles) (added_methods ps qs roles) own_homes added_homes);
      apart = λ n le.
          subst (λ k. IfSome (slice_get w.methods n) (λ m. k ≤ m.class)) (sym (ap length v_records))
          (subst (λ ms. IfSome (slice_get ms n) (λ m. length t.records ≤ m.class)) (sym methods_split)
          (each_after (λ (m : MethodRec). length t.records ≤ m.class) v.methods (added_methods ps qs roles) (added_class agreed) n le));
      later = λ n le.
          subst (λ k. IfSome (slice_get w.methods n) (λ m. k ≤ m.«package»)) (sym (ap length first.infos ∙ length-map ps _))
          (subst (λ ms. IfSome (slice_get ms n) (λ m. length ps ≤ m.«package»)) (sym methods_split)
          (each_after (λ (m : MethodRec). length ps ≤ m.«package») v.methods (added_methods ps qs roles) added_homes n le));
    }

-- an element of a list that has more after it
list_there : {X : Type 0} (xs ys : List (List X)) (k n : ℕ) (x : X) → slice_get (list_at xs k) n ≡ Some x → slice_get (list_at (xs ++ ys) k) n ≡ Some x
list_there [] ys k n x e = absurd cc
list_there (l ∷ xs) ys zero n x e = e
list_there (l ∷ xs) ys (suc k) n x e = list_there xs ys k n x e

pub begun_list : {X : Type 0} (xs ys : List X) → Begins xs ys → ys ≡ xs ++ drop (length xs) ys
begun_list xs ys e = sym (take-append-drop (length xs) ys) ∙ ap (λ zs. zs ++ drop (length xs) ys) e

-- as the rules see them
pub linked-begun : (ps qs : List PackageRecord) (roles : List ℕ) (v w : Linked) → 0 < length roles → All IsAgreed (ps ++ qs) → IsLinked ps roles v
    → IsLinked (ps ++ qs) roles w → IsBegun v w
linked-begun ps qs roles v w some agreed small large =
    let none = small.faultless in
    let more = large.faultless in
    let first = small.lists in
    let second = large.lists in
    let begins_so = world-begins ps qs roles none more some v w first second agreed in
    record {
      grown = classes-grown ps qs roles none more some v w first second agreed;
      few = few-classes ps qs roles none more some v w first second agreed;
      many = many-classes ps qs roles none more some v w first second agreed;
      added = added_methods ps qs roles;
      methods = methods-split ps qs roles none more some v w first second agreed;
      own = own-classes ps qs roles none more some v w first second agreed;
      apart = added-apart ps qs roles none more some v w first second agreed;
      pools = λ k n m e.
          subst (λ x. slice_get (list_at x k) n ≡ Some m) (sym (begun_list v.pools w.pools begins_so.pools))
          (list_there v.pools (drop (length v.pools) w.pools) k n m e);
      known = pool-knows ps qs roles none more some v w first second agreed;
    }

-- packages that make a world, and make another one with more packages after them
pub worlds-begin : WorldsBegin
worlds-begin ps qs roles v w some agreed small large =
    world-begins ps qs roles small.faultless large.faultless some v w small.lists large.lists agreed
