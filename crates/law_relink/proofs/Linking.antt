-- The packages with a last one that is written anew make a world.
use Rattle.std.proofs.Common.{◌≡◌, ◌≤◌, ◌<◌, ◌+◌, ℕ, suc, List, [], ◌∷◌, ◌++◌, length, map, Option, Some, None, option_to_list}
use Rattle.std.proofs.Common.{slice_index, refl, sym, ap, subst, ◌∙◌, arith, length-append}
use Rattle.std.specs.Prelude.{if◌then◌else◌, nat_lt}
use Rattle.std.proofs.lemmas.List.{length-map}
use Rattle.cap_package.specs.PackageRecord.{PackageRecord, names_interface}
use Rattle.cap_package.specs.Parts.{Lent}
use Rattle.cap_package.specs.StandsFor.{StandsFor}
use Rattle.cap_package.proofs.InfoLaws.{info-short}
use Rattle.cap_renewal.specs.ClassEdits.{renewed_class}
use Rattle.first_fault.specs.First.{AllEmpty}
use Rattle.jc_base.specs.declared.record.MethodRec.{MethodRec}
use Rattle.jc_base.specs.World.{Linked}
use Rattle.jc_base.proofs.Eaching.{Each-from_All}
use Rattle.jc_decode.specs.declared.symbols.Laid.{Laid}
use Rattle.jc_resolve.specs.declared.fault.LinkFault.TheVariants.{TooManyStatics}
use Rattle.jc_resolve.specs.Named.{infos_of}
use Rattle.jc_resolve.specs.Numbering.{NumberedMethod, numbered_methods}
use Rattle.jc_resolve.specs.NamedMethods.{named_method, offset_in_info}
use Rattle.jc_resolve.specs.Conditions as names
use Rattle.jc_resolve.proofs.ConditionLists.{AllEmpty-append, AllEmpty-before, AllEmpty-after}
use Rattle.jc_classes.specs.LineConditions as lineage
use Rattle.jc_classes.specs.Outline.{outline}
use Rattle.jc_classes.specs.TableConditions as classes
use Rattle.jc_classes.specs.Tables.{class_tables}
use Rattle.jc_link.specs.Arrays.{array_records}
use Rattle.jc_link.specs.Room.{statics_fault, arrays_fault}
use Rattle.jc_link.specs.Catches.{bad_catches}
use Rattle.jc_link.specs.Pools.{pools, missing_members}
use Rattle.cap_index.specs.Indexes.{indexes_of}
use Rattle.jc_link.specs.World.{classes_of, table_of, methods_of, statics_of, first_classes, table_conditions, member_conditions, IsLinked}
use Rattle.law_package.specs.Changes.{changes, now_at}
use Rattle.law_package.specs.Rewritten.{IsRewritten}
use Rattle.law_package.proofs.Lists.{Each}
use Rattle.law_laid.specs.Apart.{apart_from_code}
use Rattle.law_relink.specs.Last.{and_last}
use Rattle.law_relink.specs.WorldAgain.{LinksAgain}
use Rattle.law_relink.specs.Replaced.{EachMayReplace, AreMethodsOf}
use Rattle.law_relink.proofs.Conditions.{conditions_same}
use Rattle.law_relink.proofs.Classes.{classes_link}
use Rattle.law_relink.proofs.Twins.{Twin, before_in, laid_in, are_twins, OfClass}
use Rattle.law_relink.proofs.Known.{IsKnownTwin, known_twins, twins_in, twin_changes, had_code, MayBeLaid}
use Rattle.law_relink.proofs.Apart.{own_methods, named_split, methods_apart}
use Rattle.law_relink.proofs.Statics.{arrays_same, cells_same, statics_same}
use Rattle.law_relink.proofs.Methods.{class_conditions_same, abstract_roles_same}
use Rattle.law_relink.proofs.Calls.{homes_classes, homes_after}
use Rattle.law_relink.proofs.Pools.{none_missing, pools_same}
use Rattle.law_relink.proofs.Catches.{LaidCatch, laid_catches, none_bad}

-- ---- the methods of the earlier packages, and those of the last

before_all : (n : ℕ) (ps : List PackageRecord) (roles : List ℕ) (ms : List NumberedMethod)
    → Each (λ (m : NumberedMethod). m.home < n) ms → Each (λ (r : MethodRec). r.package < n) (map (named_method ps roles) ms)
unfolding named_method
before_all n ps roles [] h = tt
before_all n ps roles (m ∷ ms) h = (h.0, before_all n ps roles ms h.1)

last_all : (n : ℕ) (ps : List PackageRecord) (roles : List ℕ) (ms : List NumberedMethod)
    → Each (λ (m : NumberedMethod). m.home ≡ n) ms → Each (λ (r : MethodRec). r.package ≡ n) (map (named_method ps roles) ms)
unfolding named_method
last_all n ps roles [] h = tt
last_all n ps roles (m ∷ ms) h = (h.0, last_all n ps roles ms h.1)

-- the methods of the earlier packages are these
pub earlier_homes : (ps : List PackageRecord) (p : PackageRecord) (roles : List ℕ)
    → Each (λ (r : MethodRec). r.package < length ps) (map (named_method (and_last ps p) roles) (numbered_methods ps))
earlier_homes ps p roles = grind (arith, before_all, length, homes_after)

one_split : (n : ℕ) (xs ys us vs : List MethodRec) → xs ++ ys ≡ us ++ vs → Each (λ (r : MethodRec). r.package < n) xs
    → Each (λ (r : MethodRec). r.package ≡ n) ys
    → Each (λ (r : MethodRec). r.package + 1 < n + 1) us → Each (λ (r : MethodRec). r.package + 1 ≡ n + 1) vs
    → (us ≡ xs) × (vs ≡ ys)
one_split n [] ys [] vs e a b c d = (refl, sym e)
one_split n [] ys (u ∷ us) vs e a b c d = grind (arith)
one_split n (x ∷ xs) ys [] vs e a b c d = grind (arith)
one_split n (x ∷ xs) ys (u ∷ us) vs e a b c d =
    let s : x ≡ u = cc in
    let t : xs ++ ys ≡ us ++ vs = cc in
    grind (arith, s, t, one_split n xs ys us vs t a.1 b c.1 d)

pub record ArePartsOf (ps : List PackageRecord) (p : PackageRecord) (roles : List ℕ) (before own : List MethodRec) : Type 0 where
  pub before_is : before ≡ map (named_method (and_last ps p) roles) (numbered_methods ps)
  pub own_is : own ≡ map (named_method (and_last ps p) roles) (own_methods ps p)

pub are_parts : (ps : List PackageRecord) (p : PackageRecord) (roles : List ℕ) (w : Linked) (before own : List MethodRec)
    → IsLinked (and_last ps p) roles w → AreMethodsOf w before own → ArePartsOf ps p roles before own
are_parts ps p roles w before own l parted =
    let n = length ps in
    let long : length w.infos ≡ n + 1 = ap length l.lists.infos ∙ length-map (and_last ps p) (λ (x : PackageRecord). x.methods.info)
    ∙ length-append ps (p ∷ []) in
    let named = named_method (and_last ps p) roles in
    let r = one_split n (map named (numbered_methods ps)) (map named (own_methods ps p)) before own
    (sym (named_split ps p roles) ∙ sym l.lists.methods ∙ parted.parts)
    (earlier_homes ps p roles)
    (last_all n (and_last ps p) roles (own_methods ps p) (homes_classes n p 0 p.description.items.classes))
    (subst (λ k. Each (λ (m : MethodRec). m.package + 1 < k) before) long
    (Each-from_All (λ (m : MethodRec). m.package + 1 < length w.infos) before parted.earlier))
    (subst (λ k. Each (λ (m : MethodRec). m.package + 1 ≡ k) own) long
    (Each-from_All (λ (m : MethodRec). m.package + 1 ≡ length w.infos) own parted.last)) in
    record { before_is = r.0; own_is = r.1 }

-- ---- what may be laid for each method

may_each : (ps : List PackageRecord) (roles : List ℕ) (k : ℕ) (p : PackageRecord) (ts : List Twin)
    → EachMayReplace (map (named_method ps roles) (map (before_in k p) ts)) (map laid_in ts) → Each (MayBeLaid ps roles k p) ts
may_each ps roles k p [] h = tt
may_each ps roles k p (t ∷ ts) h = (
  λ l e. h 0 (named_method ps roles (before_in k p t)) l refl (ap (λ o. Some o) e),
  may_each ps
      roles k p ts (λ n. h (suc n)),
)

pub may_twins : (ps : List PackageRecord) (p q : PackageRecord) (laid : List (Option Laid)) (roles : List ℕ) (w : Linked)
    (before own : List MethodRec)
    → IsRewritten p laid q → IsLinked (and_last ps p) roles w → AreMethodsOf w before own → EachMayReplace own laid
    → Each (MayBeLaid (and_last ps p) roles (length ps) p) (twins_in p q laid)
may_twins ps p q laid roles w before own r l parted may =
    let two = are_twins (names_interface p.classes) (length ps) p q 0 p.description.items.classes q.description.items.classes laid
    r.description.classes r.each in
    let is = (are_parts ps p roles w before own l parted).own_is ∙ ap (map (named_method (and_last ps p) roles)) (sym two.before) in
    grind (arith, two, is, may_each, length, map)

-- ---- the conditions

module _ (parts new_parts : List Lent) (ps : List PackageRecord) (p q : PackageRecord) (laid : List (Option Laid)) (roles : List ℕ)
    (s : StandsFor parts p) (t : StandsFor new_parts q) (r : IsRewritten p laid q) where
  abbrev now : List PackageRecord
  now = and_last ps q

  abbrev old : List PackageRecord
  old = and_last ps p

  short : length q.methods.info ≤ 65535
  short = info-short 7 t.said.methods.file q.methods.info t.said.methods.framed

  classes_same : classes_of now roles ≡ classes_of old roles
  classes_same = classes_link parts ps p q laid (slice_index roles 0) s r short

  table_same : table_of now roles ≡ table_of old roles
  table_same = ap (λ cs. class_tables (outline cs roles) cs) classes_same

  fields_same : statics_of now roles ≡ statics_of old roles
  fields_same = statics_same ps p q laid (slice_index roles 0) r

  first_same : first_classes now ≡ first_classes old
  first_same = by ps
    where
      by : (xs : List PackageRecord) → first_classes (and_last xs q) ≡ first_classes (and_last xs p)
      by [] = ap length r.classes ∙ length-map p.classes (renewed_class (now_at (changes p laid q)))
      by (x ∷ xs) = refl

  table_conditions_same : map apart_from_code (methods_of now roles) ≡ map apart_from_code (methods_of old roles)
      → table_conditions now roles ≡ table_conditions old roles
  table_conditions_same apart = grind (arith, conditions_same, first_same, classes_same, class_conditions_same)

  statics_room : statics_fault now ≡ statics_fault old
  statics_room = ap (λ n. if nat_lt 32768 n then Some (TooManyStatics n) else None) (cells_same ps p q laid r)

  arrays_room : arrays_fault now ≡ arrays_fault old
  arrays_room = grind (arith, length, arrays_same)

  -- each handler that is laid catches all, or a class below throwable
  all_catch : bad_catches old (table_of old roles) ≡ [] → Each (MayBeLaid old roles (length ps) p) (twins_in p q laid)
      → Each (LaidCatch ps p q laid r (table_of old roles)) (changes p laid q)
  all_catch none may = twin_changes p q laid (LaidCatch ps p q laid r (table_of old roles)) r
      (by (twins_in p q laid) (known_twins parts new_parts p q laid s t r) may)
    where
      by : (ts : List Twin) → Each (IsKnownTwin p q laid) ts → Each (MayBeLaid old roles (length ps) p) ts
          → Each (OfClass (names_interface p.classes) (LaidCatch ps p q laid r (table_of old roles))) ts
      by [] i m = tt
      by (x ∷ ts) i m = (
        λ class k l e.
            let may = m.0 l e in
            let had = had_code old roles (length ps) p q laid x l i.0 may in
            laid_catches ps p q laid r (table_of old roles) (slice_index roles 1)
            (offset_in_info (x.old.method_offset + had.known.was.header.size)) x.old
            (named_method old roles (before_in (length ps) p x)).handlers l none
            (ap (λ (y : MethodRec). y.handlers) had.is) may.catches,
        by ts i.1 m.1,
      )

  member_conditions_pass : map apart_from_code (methods_of now roles) ≡ map apart_from_code (methods_of old roles)
      → Each (MayBeLaid old roles (length ps) p) (twins_in p q laid)
      → AllEmpty (member_conditions old roles) → AllEmpty (member_conditions now roles)
  member_conditions_pass apart may (cells, (members, (catches, (arrays, (abstract, done))))) =
      let missing = none_missing parts ps p q laid s r short (table_of old roles) (statics_of old roles) members in
      let bad = none_bad ps p q laid r (table_of old roles) parts s (all_catch catches may) catches in
      grind (arith, missing, bad, table_same, fields_same, abstract_roles_same, option_to_list, statics_room, arrays_room)

  pub links : (w : Linked) → IsLinked old roles w → Each (MayBeLaid old roles (length ps) p) (twins_in p q laid)
      → LinksAgain ps q roles w
  links w l may =
      let apart : map apart_from_code (methods_of now roles) ≡ map apart_from_code (methods_of old roles) =
      methods_apart parts new_parts ps p q laid roles r s t may in
      let on_table = AllEmpty-before (table_conditions old roles) (member_conditions old roles) l.faultless in
      let on_members = AllEmpty-after (table_conditions old roles) (member_conditions old roles) l.faultless in
      let table : AllEmpty (table_conditions now roles) = subst AllEmpty (sym (table_conditions_same apart)) on_table in
      let members = member_conditions_pass apart may on_members in
      let missing : missing_members old (table_of old roles) (statics_of old roles) ≡ [] = on_members.1.0 in
      let pools_are : pools now (table_of now roles) (statics_of now roles)
      ≡ pools old (table_of old roles) (statics_of old roles) =
      ap (λ x. pools now x (statics_of now roles)) table_same ∙ ap (pools now (table_of old roles)) fields_same
      ∙ pools_same parts ps p q laid s r short (table_of old roles) (statics_of old roles) missing in
      record {
        world = record {
          infos = infos_of now;
          pools = pools now (table_of now roles) (statics_of now roles);
          classes = table_of now roles;
          methods = methods_of now roles;
          statics = statics_of now roles;
          arrays = array_records now;
          indexes = indexes_of now (methods_of now roles);
        };
        linked = record {
          faultless = AllEmpty-append (table_conditions now roles) (member_conditions now roles) table members;
          lists = record {
            infos = refl;
            pools = refl;
            classes = refl;
            methods = refl;
            statics = refl;
            arrays = refl;
            indexes =
                refl;
          };
        };
        same = record {
          pools = l.lists.pools ∙ sym pools_are;
          classes = l.lists.classes ∙ sym table_same;
          methods = ap (map apart_from_code) l.lists.methods ∙ sym apart;
          statics = l.lists.statics ∙ sym fields_same;
          arrays = l.lists.arrays ∙ sym (arrays_same ps p q laid r);
        };
      }
