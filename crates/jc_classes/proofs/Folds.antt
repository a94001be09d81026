-- The least fault of the things of all classes, class by class.
use Rattle.std.proofs.Common.{◌≡◌, ℕ, suc, ◌+◌, ◌≤◌, ◌<◌, get_or, drop, drop-cons, append-nil, List, [], ◌∷◌, ◌++◌, length, map}
use Rattle.std.proofs.Common.{flat_map, Option, Some, None, refl, sym, ap, ◌∙◌, arith}
use Rattle.std.specs.Prelude.{All, Bool, nat_lt, if◌then◌else◌, IfSome, option_map}
use Rattle.std.specs.List.{range_with_len}
use Rattle.std.proofs.lemmas.List.Sums.{fold-append}
use Rattle.std.proofs.lemmas.List.{drop_all, map-id}
use Rattle.std.proofs.lemmas.Grind.{flat_map-append}
use Rattle.std.proofs.lemmas.List.FromFn.{map-range_with_len_more, get_or-map-range_with_len, length-map-range_with_len}
use Rattle.jc_resolve.specs.NamedClasses.{no_table}
use Rattle.jc_base.proofs.Lists.{All-slice_get}
use Rattle.jc_base.specs.declared.record.MethodRec.{MethodRec}
use Rattle.jc_classes.specs.Outline.{LineTable}
use Rattle.jc_resolve.specs.declared.fault.LinkFault.{LinkFault}
use Rattle.jc_resolve.specs.declared.fault.LinkFault.TheVariants.{InstanceLong}
use Rattle.jc_resolve.specs.declared.naming.DispatchTable.{DispatchTable}
use Rattle.jc_resolve.specs.declared.naming.NamedClass.{NamedClass}
use Rattle.jc_resolve.specs.Named.{IsByteTable, IsSized}
use Rattle.jc_resolve.specs.Fault.{link_place}
use Rattle.first_fault.specs.Least.{least_from, least_of, lesser}
use Rattle.jc_classes.specs.KnownLines.{HaveSuperclasses}
use Rattle.jc_classes.specs.declared.overlay.ClassLayout.{ClassLayout}
use Rattle.jc_classes.specs.Entries.{reach, reach_of}
use Rattle.jc_classes.specs.Layout.{of_class, public_table, visible_table, public_entries}
use Rattle.jc_classes.specs.Layout.{visible_entries, instance_cells, class_layout, layouts}
use Rattle.jc_classes.specs.Slots.{HasShortLists}
use Rattle.jc_classes.specs.Signatures.{entry_method}
use Rattle.jc_classes.specs.TableConditions.{DispatchEntry, entries_from, Replacement, replacements_from, long_fault}
use Rattle.jc_classes.proofs.Overlays.{length-entries}
use Rattle.jc_classes.proofs.Fills.{sized_at}

-- the class of a method of an entry
pub class_known : (methods : List MethodRec) (n : ℕ) (entry : Option ℕ) (m : MethodRec) → All (λ (k : MethodRec). k.class < n) methods
    → Some m ≡ entry_method methods entry → m.class < n
class_known methods n None m all e = absurd cc
class_known methods n (Some k) m all e = All-slice_get (λ (k : MethodRec). k.class < n) methods k m all (sym e)

-- ---- entry by entry

pub entries_next : (fault : DispatchEntry → Option LinkFault) (c token i : ℕ) (list : List (Option ℕ)) (least : Option LinkFault) (d : Option ℕ)
    → i < length list
    → least_from link_place least fault (entries_from c token (drop i list)) ≡ least_from link_place
    (lesser link_place least (fault (record { class = c; token = token; method = get_or list i d }))) fault
    (entries_from c (token + 1) (drop (i + 1) list))
entries_next fault c token i list least d h = grind (arith, suc, drop-cons, get_or)

pub entries_end : (fault : DispatchEntry → Option LinkFault) (c token i : ℕ) (list : List (Option ℕ)) (least : Option LinkFault) → length list ≤ i
    → least_from link_place least fault (entries_from c token (drop i list)) ≡ least
entries_end fault c token i list least h = rw (drop_all i list h) refl

pub ruleset entry_folds = (entries_next, entries_end)

-- ---- class by class

range_more : (n : ℕ) → range_with_len 0 (n + 1) ≡ range_with_len 0 n ++ (n ∷ [])
range_more n =
    sym (map-id (range_with_len 0 (n + 1)))
    ∙ map-range_with_len_more (λ (k : ℕ). k) 0 n n (omega arith)
    ∙ ap (λ (ks : List ℕ). ks ++ (n ∷ [])) (map-id (range_with_len 0 n))

pub least_next : {X : Type 0} (fault : X → Option LinkFault) (f : ℕ → List X) (n : ℕ) (least : Option LinkFault)
    → least ≡ least_of link_place fault (flat_map f (range_with_len 0 n))
    → least_from link_place least fault (f n) ≡ least_of link_place fault (flat_map f (range_with_len 0 (n + 1)))
least_next fault f n least e = grind (arith, fold-append, flat_map, range_more, flat_map-append, append-nil)

pub least_both : {X : Type 0} (fault : X → Option LinkFault) (xs ys : List X) (least : Option LinkFault)
    → least_from link_place (least_from link_place least fault xs) fault ys ≡ least_from link_place least fault (xs ++ ys)
least_both fault xs ys least = sym (fold-append _ least xs ys)

-- ---- how long dispatch lists are

reach_few : (table : DispatchTable) → IsByteTable table → reach table ≤ 510
unfolding reach
reach_few table h = grind (arith)

table_few_by : (f : NamedClass → DispatchTable) → ((k : NamedClass) → IsSized k → IsByteTable (f k)) → (o : Option NamedClass)
    → IfSome o IsSized → IsByteTable (of_class no_table f o)
table_few_by f each z h = grind (arith)

public_few : (classes : List NamedClass) (c : ℕ) → All IsSized classes → reach (public_table classes c) ≤ 510
unfolding public_table
public_few classes c all = grind (arith, reach_few, table_few_by, sized_at)

visible_few : (classes : List NamedClass) (c : ℕ) → All IsSized classes → reach (visible_table classes c) ≤ 510
unfolding visible_table
visible_few classes c all = grind (arith, reach_few, table_few_by, sized_at)

reach_of_few : (f : ℕ → DispatchTable) → ((c : ℕ) → reach (f c) ≤ 510) → (cs : List ℕ) → reach_of (map f cs) ≤ 510
reach_of_few f each [] = omega arith
reach_of_few f each (c ∷ cs) = omega (arith, each c, reach_of_few f each cs)

pub lists_short : (t : LineTable) (classes : List NamedClass) (c : ℕ) → All IsSized classes → HasShortLists (class_layout t classes c)
unfolding class_layout public_entries visible_entries
lists_short t classes c all = grind (arith, length-entries, reach_of_few, public_few, visible_few)

-- the layout of a class in the list of all
pub layout_is : (t : LineTable) (classes : List NamedClass) (all : List ClassLayout) (c : ℕ) (d : ClassLayout) → all ≡ layouts t classes
    → c < length classes → get_or all c d ≡ class_layout t classes c
layout_is t classes all c d e h = grind (arith, get_or, get_or-map-range_with_len)

pub layout_short : (t : LineTable) (classes : List NamedClass) (all : List ClassLayout) (c : ℕ) (d : ClassLayout) → all ≡ layouts t classes
    → c < length classes → HaveSuperclasses t classes → HasShortLists (get_or all c d)
layout_short t classes all c d e h known = rw (layout_is t classes all c d e h) (lists_short t classes c known.sized)

pub layouts_count : (t : LineTable) (classes : List NamedClass) (all : List ClassLayout) → all ≡ layouts t classes → length all ≡ length classes
layouts_count t classes all e = ap length e ∙ length-map-range_with_len (class_layout t classes) 0 (length classes)

pub ruleset folds = (least_next, least_both, layout_is, layout_short, layouts_count)

pub layout_at : (t : LineTable) (classes : List NamedClass) (all : List ClassLayout) (c : ℕ) (l : ClassLayout) → all ≡ layouts t classes
    → c < length classes → l ≡ get_or all c l → l ≡ class_layout t classes c
layout_at t classes all c l e h is = is ∙ layout_is t classes all c l e h

-- ---- replacement by replacement

pub replacements_next : (fault : Replacement → Option LinkFault) (c first i : ℕ) (inherited list : List (Option ℕ)) (least : Option LinkFault)
    (d e : Option ℕ) → i < length inherited → i < length list
    → least_from link_place least fault (replacements_from c (first + i) (drop i inherited) (drop i list))
    ≡ least_from link_place
    (lesser link_place least (fault (record { class = c; token = first + i; inherited = get_or inherited i d; method = get_or list i e }))) fault
    (replacements_from c (first + (i + 1)) (drop (i + 1) inherited) (drop (i + 1) list))
replacements_next fault c first i inherited list least d e h k = grind (arith, suc, drop-cons, get_or)

-- ---- the superclass among all classes

pub above_at : (t : LineTable) (classes : List NamedClass) (all : List ClassLayout) (p : ℕ) (d : ClassLayout) (o : Option ℕ)
    → all ≡ layouts t classes → p < length t.lines → HaveSuperclasses t classes → Some p ≡ o → d ≡ get_or all p d
    → Some d ≡ option_map (class_layout t classes) o
above_at t classes all p d o e h known is at = grind (arith, layout_at)

pub ruleset above_in_all = (above_at, layouts_count)

-- ---- class numbers one by one

long_by : (c cells : ℕ) (t : LineTable) (classes : List NamedClass) (b : Bool) → nat_lt 32767 cells ≡ b → cells ≡ instance_cells t classes c
    → (if b then Some (InstanceLong c cells) else None) ≡ long_fault t classes c
unfolding long_fault
long_by c cells t classes b e is = rw (← is, e) refl

pub cells_are : (t : LineTable) (classes : List NamedClass) (all : List ClassLayout) (c : ℕ) (l : ClassLayout) → all ≡ layouts t classes
    → c < length classes → l ≡ get_or all c l → l.cells ≡ instance_cells t classes c
unfolding class_layout
cells_are t classes all c l e h is = ap (λ (x : ClassLayout). x.cells) (layout_at t classes all c l e h is)

pub long_next : (t : LineTable) (classes : List NamedClass) (all : List ClassLayout) (c : ℕ) (d : ClassLayout) (least fault : Option LinkFault)
    → all ≡ layouts t classes → c < length classes → d ≡ get_or all c d
    → fault ≡ (if nat_lt 32767 d.cells then Some (InstanceLong c d.cells) else None) → least ≡ least_of link_place (long_fault t classes)
    (range_with_len 0 c)
    → lesser link_place least fault ≡ least_of link_place (long_fault t classes) (range_with_len 0 (c + 1))
long_next t classes all c d least fault e h at is before = grind (arith, long_by, cells_are, fold-append, range_more)

pub ruleset long_folds = (long_next, layouts_count)

pub public_at : (t : LineTable) (classes : List NamedClass) (all : List ClassLayout) (c : ℕ) (l : ClassLayout) → all ≡ layouts t classes
    → c < length classes → l ≡ get_or all c l → l.public ≡ public_entries t classes c
unfolding class_layout
public_at t classes all c l e h is = ap (λ (x : ClassLayout). x.public) (layout_at t classes all c l e h is)

pub public_is : (t : LineTable) (classes : List NamedClass) (all : List ClassLayout) (c : ℕ) (d : ClassLayout) → all ≡ layouts t classes
    → c < length classes → (get_or all c d).public ≡ public_entries t classes c
unfolding class_layout
public_is t classes all c d e h = ap (λ (x : ClassLayout). x.public) (layout_is t classes all c d e h)

pub visible_is : (t : LineTable) (classes : List NamedClass) (all : List ClassLayout) (c : ℕ) (d : ClassLayout) → all ≡ layouts t classes
    → c < length classes → (get_or all c d).visible ≡ visible_entries t classes c
unfolding class_layout
visible_is t classes all c d e h = ap (λ (x : ClassLayout). x.visible) (layout_is t classes all c d e h)
