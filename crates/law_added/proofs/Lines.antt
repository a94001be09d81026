-- Classes of the packages before keep their superclasses, and so their dispatch lists and cells.
use Rattle.std.proofs.Common.{◌≡◌, ◌<◌, ◌≤◌, ◌+◌, ℕ, zero, suc, List, [], ◌∷◌, ◌++◌, length, map, slice_get, get_or, Bool}
use Rattle.std.proofs.Common.{Option, Some, None, IfSome, refl, sym, ap, subst, ◌∙◌, arith, All, cond}
use Rattle.std.specs.Prelude.{if◌then◌else◌, ◌==◌}
use Rattle.std.specs.Prelude.{take}
use Rattle.std.specs.List.{take_while, prefix_len, sum_by}
use Rattle.std.proofs.lemmas.List.Sums.{sum_by-cons}
use Rattle.std.proofs.lemmas.List.{map-append, length-map}
use Rattle.std.proofs.lemmas.List.Elements.{All-map}
use Rattle.first_fault.specs.First.{AllEmpty}
use Rattle.cap_class.specs.ClassFormat.{is_interface as is_interface_flags}
use Rattle.cap_package.specs.PackageRecord.{PackageRecord}
use Rattle.jc_base.specs.declared.record.ClassRec.{ClassRec}
use Rattle.jc_base.specs.Class.{list_of}
use Rattle.jc_resolve.specs.declared.naming.NamedClass.{NamedClass}
use Rattle.jc_resolve.specs.Numbering.{NumberedClass, numbered_classes}
use Rattle.jc_resolve.specs.NamedClasses.{named_class, named_classes, named_interface, named_proper}
use Rattle.jc_resolve.proofs.ClassFacts.{parent_within, parent_earlier, interfaces_within}
use Rattle.jc_classes.specs.KnownClasses.{HasKnownLine}
use Rattle.jc_classes.specs.LineConditions as lineage
use Rattle.jc_classes.specs.Outline.{LineTable, AreLines, line_of, outline, package_of, package_in_line, parent_of, parent_in_line, chain}
use Rattle.jc_classes.specs.Layout.{public_table, visible_table, own_of, of_class, home_run, public_entries, visible_entries, instance_cells, class_layout}
use Rattle.jc_classes.specs.Entries.{dispatch_list}
use Rattle.jc_classes.specs.Tables.{records_from, class_tables}
use Rattle.jc_classes.proofs.Climbs.{chain_step}
use Rattle.jc_classes.proofs.Outlines.{parent_known}
use Rattle.jc_classes.proofs.FaultlessLines.{no_fault}
use Rattle.jc_classes.proofs.Descent.{are-classes}
use Rattle.jc_base.proofs.Lists.{slice_get-left}

-- ---- what is known of named classes

module _ (ps : List PackageRecord) (object : ℕ) where
  known_by : (c : NumberedClass) (b : Bool) → HasKnownLine (named_classes ps object) (if b then named_interface ps c else named_proper ps object c)
  known_by c x = grind (arith, interfaces_within, parent_within, parent_earlier)

  known_line : (c : NumberedClass) → HasKnownLine (named_classes ps object) (named_class ps object c)
  unfolding named_class
  known_line c = known_by c (is_interface_flags c.record_of.flags)

  pub known_lines : All (HasKnownLine (named_classes ps object)) (named_classes ps object)
  unfolding named_classes
  known_lines =
      All-map (HasKnownLine (named_classes ps object)) (named_class ps object) (numbered_classes ps) (λ i d lt. known_line (get_or (numbered_classes ps) i d))

  pub lines_are : (first : ℕ) (roles : List ℕ) → AllEmpty (lineage.conditions (named_classes ps object) first roles) → 0 < length roles
      → AreLines (outline (named_classes ps object) roles)
  lines_are first roles none some =
      are-classes (named_classes ps object) first roles known_lines (no_fault (named_classes ps object) first roles none) some

-- ---- lists

prefix-alike : (p q : ℕ → Bool) (n : ℕ) → ((a : ℕ) → a < n → p a ≡ q a) → (xs : List ℕ) → All (λ a. a < n) xs → prefix_len p xs ≡ prefix_len q xs
prefix-alike p q n same [] h = refl
prefix-alike p q n same (x ∷ xs) h =
    ap (λ b. cond b (1 + prefix_len p xs) 0) (same x (h 0 x (omega arith)))
    ∙ ap (λ k. cond (q x) (1 + k) 0) (prefix-alike p q n same xs (λ i d lt. h (suc i) d (omega (arith, lt))))

take_while-alike : (p q : ℕ → Bool) (n : ℕ) → ((a : ℕ) → a < n → p a ≡ q a) → (xs : List ℕ) → All (λ a. a < n) xs → take_while p xs ≡ take_while q xs
take_while-alike p q n same xs h = ap (λ k. take k xs) (prefix-alike p q n same xs h)

pub mapped-alike : {Y : Type 0} (f g : ℕ → Y) (n : ℕ) → ((a : ℕ) → a < n → f a ≡ g a) → (xs : List ℕ) → All (λ a. a < n) xs → map f xs ≡ map g xs
mapped-alike f g n same [] h = refl
mapped-alike f g n same (x ∷ xs) h =
    ap (λ y. y ∷ map f xs) (same x (h 0 x (omega arith)))
    ∙ ap (λ ys. g x ∷ ys) (mapped-alike f g n same xs (λ i d lt. h (suc i) d (omega (arith, lt))))

summed-alike : (f g : ℕ → ℕ) (n : ℕ) → ((a : ℕ) → a < n → f a ≡ g a) → (xs : List ℕ) → All (λ a. a < n) xs → sum_by f xs ≡ sum_by g xs
summed-alike f g n same [] h = refl
summed-alike f g n same (x ∷ xs) h =
    sum_by-cons f x xs
    ∙ ap (λ k. k + sum_by f xs) (same x (h 0 x (omega arith)))
    ∙ ap (λ k. g x + k) (summed-alike f g n same xs (λ i d lt. h (suc i) d (omega (arith, lt))))
    ∙ sym (sum_by-cons g x xs)

within_front : (n k : ℕ) (xs : List ℕ) → All (λ a. a < n) xs → All (λ a. a < n) (take k xs)
within_front n zero xs h i d lt = absurd (omega (arith, lt))
within_front n (suc k) [] h i d lt = absurd (omega (arith, lt))
within_front n (suc k) (x ∷ xs) h zero d lt = h 0 x (omega arith)
within_front n (suc k) (x ∷ xs) h (suc i) d lt = within_front n k xs (λ j e less. h (suc j) e (omega (arith, less))) i d (omega (arith, lt))

-- ---- classes with more after them

module _ (cs more : List NamedClass) (roles : List ℕ) (are : AreLines (outline cs roles)) (grown : AreLines (outline (cs ++ more) roles)) where
  abbrev few : LineTable
  few = outline cs roles

  abbrev many : LineTable
  many = outline (cs ++ more) roles

  count : length few.lines ≡ length cs
  count = length-map cs line_of

  line_front : (c : ℕ) → c < length cs → slice_get many.lines c ≡ slice_get few.lines c
  line_front c lt = grind (arith, slice_get, map-append, slice_get-left, map, count)

  parent_front : (c : ℕ) → c < length cs → parent_of many c ≡ parent_of few c
  unfolding parent_of
  parent_front c lt = ap parent_in_line (line_front c lt)

  package_front : (c : ℕ) → c < length cs → package_of many c ≡ package_of few c
  unfolding package_of
  package_front c lt = ap package_in_line (line_front c lt)

  -- ---- chains

  record IsChainBoth (c : ℕ) (xs : List ℕ) : Type 0 where
    pub both : chain many c ≡ xs
    pub within : All (λ a. a < length cs) xs

  one : (c : ℕ) (xs ys : List ℕ) → c < length cs → xs ≡ c ∷ ys → All (λ a. a < length cs) ys → All (λ a. a < length cs) xs
  one c xs ys lt e h = subst (All (λ a. a < length cs)) (sym e) (go h)
    where
      go : All (λ a. a < length cs) ys → All (λ a. a < length cs) (c ∷ ys)
      go h zero d less = lt
      go h (suc i) d less = h i d (omega (arith, less))

  both_by : (xs : List ℕ) (c : ℕ) (o : Option ℕ) → chain few c ≡ xs → c < length cs → parent_of few c ≡ o → IfSome o (λ p. p < length cs)
      → IsChainBoth c xs
  both_by [] c o e lt up h = absurd (let s : c ∷ list_of (chain few) (parent_of few c) ≡ [] = sym (chain_step few c are) ∙ e in cc)
  both_by (x ∷ ys) c None e lt up h = grind (arith, chain_step, parent_front, one)
  both_by (x ∷ ys) c (Some p) e lt up h =
      let low : c ∷ chain few p ≡ x ∷ ys = sym (chain_step few c are ∙ ap (λ o. c ∷ list_of (chain few) o) up) ∙ e in
      let rest : chain few p ≡ ys = cc in
      let head : c ≡ x = cc in
      let next = parent_known few p (parent_of few p) are refl in
      let above = both_by ys p (parent_of few p) rest h refl (subst (λ n. IfSome (parent_of few p) (λ q. q < n)) count next) in
      grind (arith, head, above, chain_step, parent_front, one)

  chain_both : (c : ℕ) → c < length cs → IsChainBoth c (chain few c)
  chain_both c lt =
      let next = parent_known few c (parent_of few c) are refl in
      both_by (chain few c) c (parent_of few c) refl lt refl (subst (λ n. IfSome (parent_of few c) (λ q. q < n)) count next)

  pub chain_front : (c : ℕ) → c < length cs → chain many c ≡ chain few c
  chain_front c lt = (chain_both c lt).both

  pub chain_within : (c : ℕ) → c < length cs → All (λ a. a < length cs) (chain few c)
  chain_within c lt = (chain_both c lt).within

  -- ---- dispatch lists and cells

  asked : {A : Type 0} (d : A) (f : NamedClass → A) (c : ℕ) → c < length cs → of_class d f (slice_get (cs ++ more) c) ≡ of_class d f (slice_get cs c)
  asked d f c lt = ap (of_class d f) (slice_get-left cs more c lt)

  public_front : (c : ℕ) → c < length cs → public_entries many (cs ++ more) c ≡ public_entries few cs c
  unfolding public_entries public_table
  public_front c lt =
      ap (λ xs. dispatch_list (map (public_table (cs ++ more)) xs)) (chain_front c lt)
      ∙ ap dispatch_list
      (mapped-alike (public_table (cs ++ more)) (public_table cs) (length cs) (λ a less. asked _ (λ k. k.public) a less) (chain few c) (chain_within c lt))

  run_front : (c : ℕ) → c < length cs → home_run many c ≡ home_run few c
  unfolding home_run
  run_front c lt =
      ap (take_while (λ a. package_of many a == package_of many c)) (chain_front c lt)
      ∙ take_while-alike (λ a. package_of many a == package_of many c) (λ a. package_of few a == package_of few c) (length cs)
      (λ a less. ap (λ n. n == package_of many c) (package_front a less) ∙ ap (λ n. package_of few a == n) (package_front c lt))
      (chain few c) (chain_within c lt)

  run_within : (c : ℕ) → c < length cs → All (λ a. a < length cs) (home_run few c)
  unfolding home_run
  run_within c lt = grind (arith, length, chain_within, within_front)

  visible_front : (c : ℕ) → c < length cs → visible_entries many (cs ++ more) c ≡ visible_entries few cs c
  unfolding visible_entries visible_table
  visible_front c lt =
      ap (λ xs. dispatch_list (map (visible_table (cs ++ more)) xs)) (run_front c lt)
      ∙ ap dispatch_list
      (mapped-alike (visible_table (cs ++ more)) (visible_table cs) (length cs) (λ a less. asked _ (λ k. k.visible) a less) (home_run few c) (run_within c lt))

  cells_front : (c : ℕ) → c < length cs → instance_cells many (cs ++ more) c ≡ instance_cells few cs c
  unfolding instance_cells own_of
  cells_front c lt =
      ap (sum_by (λ a. length (own_of (cs ++ more) a))) (chain_front c lt)
      ∙ summed-alike (λ a. length (own_of (cs ++ more) a)) (λ a. length (own_of cs a)) (length cs)
      (λ a less. ap length (asked [] (λ k. k.own) a less)) (chain few c) (chain_within c lt)

  layout_front : (c : ℕ) → c < length cs → class_layout many (cs ++ more) c ≡ class_layout few cs c
  unfolding class_layout
  layout_front c lt = rw (public_front c lt, visible_front c lt, cells_front c lt) refl

  -- ---- records

  records_front : (c : ℕ) (ks : List NamedClass) → c + length ks ≤ length cs → records_from many (cs ++ more) c ks ≡ records_from few cs c ks
  records_front c [] le = refl
  records_front c (k ∷ ks) le = grind (arith, layout_front, records_front (c + 1) ks (omega (arith, le)))

  records_split : (t : LineTable) (all : List NamedClass) (c : ℕ) (ks ls : List NamedClass)
      → records_from t all c (ks ++ ls) ≡ records_from t all c ks ++ records_from t all (c + length ks) ls
  records_split t all c [] ls = ap (λ n. records_from t all n ls) (let e : c ≡ c + 0 = omega arith in e)
  records_split t all c (k ∷ ks) ls = grind (arith, length, suc, records_split t all (c + 1) ks ls)

  pub added_records : List ClassRec
  added_records = records_from many (cs ++ more) (length cs) more

  pub tables_begin : (class_tables many (cs ++ more)).records ≡ (class_tables few cs).records ++ added_records
  unfolding added_records
  tables_begin = grind (arith, records_split, length, added_records, records_front)
