-- The places of methods: an offset is renewed to that of the method of the same number.
use Rattle.std.proofs.Common.{◌≡◌, ◌<◌, ◌+◌, ℕ, suc, List, [], ◌∷◌, ◌++◌, length, map, find, Bool, true, false, cond, not, Option}
use Rattle.std.proofs.Common.{Some, None, ◌⊎◌, inl, inr, refl, sym, ap, subst, ◌∙◌, arith}
use Rattle.std.specs.Prelude.{if◌then◌else◌, ◌==◌, ◌&&◌}
use Rattle.std.proofs.lemmas.List.{map-append, length-map}
use Rattle.std.proofs.lemmas.Bool.{eqb-true, eqb-false, ne_eqb, eq-eqb}
use Rattle.cap_desc.specs.DescriptorFormat.{MethodDescriptor, ClassDescriptor}
use Rattle.cap_desc.specs.Members.{methods_but}
use Rattle.cap_package.specs.PackageRecord.{PackageRecord, names_interface}
use Rattle.cap_package.specs.StandsFor.{StandsFor}
use Rattle.cap_package.specs.Parts.{Lent}
use Rattle.jc_decode.specs.declared.symbols.Laid.{Laid}
use Rattle.jc_resolve.specs.declared.fault.RecordPlace.{RecordPlace}
use Rattle.jc_resolve.specs.Numbering.{NumberedMethod, methods_of_class, methods_of_classes, methods_after, place_of_method, method_places, is_at, method_at}
use Rattle.law_package.specs.Changes.{Change, changes, stood_at, offset_by, now_at}
use Rattle.law_package.specs.Written.{IsMethodWritten}
use Rattle.law_package.specs.Rewritten.{bare_method, bare_class, IsRewritten}
use Rattle.law_package.proofs.Lists.{Each, Has, each_at, each_of}
use Rattle.law_package.proofs.Owners.{Distinct}
use Rattle.cap_package.proofs.Agreed.{agrees}
use Rattle.law_package.proofs.Zipped.{now_of, old_of}
use Rattle.law_package.proofs.Bare.{but_same, same_interfaces}
use Rattle.law_package.proofs.Facts.{news, olds, all_written}
use Rattle.law_package.proofs.Standing.{offset_of, apart, compare, one_ends, sizes_end, sizes_some}
use Rattle.law_package.proofs.Kept.{map_twice}
use Rattle.law_relink.specs.Last.{and_last}
use Rattle.law_relink.proofs.Lists.{position_alike}

-- ---- which methods of a package stand at an offset

abbrev flagged : (ℕ → Bool) → (ℕ → Bool) → List ClassDescriptor → List Bool
flagged test interfaces [] = []
flagged test interfaces (c ∷ cs) = map (λ (m : MethodDescriptor). if not (interfaces c.class_ref) then test m.method_offset else false)
    c.methods ++ flagged test interfaces cs

at_by : (n k o x : ℕ) (b : Bool) → is_at (record { «package» = n; offset = o })
    (if b then Some (record { «package» = k; offset = x }) else None) ≡ (if b then n == k && o == x else false)
at_by n k o x x2 = grind (arith)

in_class : (n k o : ℕ) (p : PackageRecord) (i : ℕ) (c : ClassDescriptor) (j : ℕ) (ms : List MethodDescriptor)
    → map (is_at (record { «package» = n; offset = o })) (map place_of_method (methods_of_class k p i c j ms))
    ≡ map (λ (m : MethodDescriptor). if not (names_interface p.classes c.class_ref) then n == k && o == m.method_offset else false) ms
in_class n k o p i c j [] = refl
in_class n k o p i c j (m ∷ ms) = grind (arith, map, at_by, not, in_class n k o p i c (j + 1) ms)

in_classes : (n k o : ℕ) (p : PackageRecord) (i : ℕ) (cs : List ClassDescriptor)
    → map (is_at (record { «package» = n; offset = o })) (map place_of_method (methods_of_classes k p i cs))
    ≡ flagged (λ x. n == k && o == x) (names_interface p.classes) cs
in_classes n k o p i [] = refl
in_classes n k o p i (c ∷ cs) =
    ap (map (is_at (record { «package» = n; offset = o }))) (map-append place_of_method (methods_of_class k p i c 0 c.methods)
    (methods_of_classes k p (i + 1) cs))
    ∙ map-append (is_at (record { «package» = n; offset = o })) (map place_of_method (methods_of_class k p i c 0 c.methods))
    (map place_of_method (methods_of_classes k p (i + 1) cs))
    ∙ ap (λ bs. bs ++ map (is_at (record { «package» = n; offset = o })) (map place_of_method (methods_of_classes k p (i + 1) cs)))
    (in_class n k o p i c 0 c.methods)
    ∙ ap (λ bs. map (λ (m : MethodDescriptor). if not (names_interface p.classes c.class_ref) then n == k && o == m.method_offset else false)
    c.methods ++ bs) (in_classes n k o p (i + 1) cs)

-- ---- before and after

interfaces_same : (test : ℕ → Bool) (s t : ℕ → Bool) (cs : List ClassDescriptor) → ((r : ℕ) → s r ≡ t r)
    → flagged test s cs ≡ flagged test t cs
interfaces_same test s t [] h = refl
interfaces_same test s t (c ∷ cs) h = grind (arith, map, not, interfaces_same test s t cs h)

both_parts : (xs ys us vs : List Bool) → length xs ≡ length ys → xs ++ us ≡ ys ++ vs → (xs ≡ ys) × (us ≡ vs)
both_parts [] [] us vs l e = (refl, e)
both_parts [] (y ∷ ys) us vs l e = absurd (omega arith)
both_parts (x ∷ xs) [] us vs l e = absurd (omega arith)
both_parts (x ∷ xs) (y ∷ ys) us vs l e =
    let h : x ≡ y = cc in
    let t : xs ++ us ≡ ys ++ vs = cc in
    grind (arith, h, t, both_parts xs ys us vs (omega arith) t)

abbrev tested : (ℕ → Bool) → MethodDescriptor → Bool
tested test m = test m.method_offset

flags_by : (now was : ℕ → Bool) (set : ℕ → Bool) (c d : ClassDescriptor) (cs ds : List ClassDescriptor) (b : Bool) → set c.class_ref ≡ b
    → d.class_ref ≡ c.class_ref → bare_class set d ≡ bare_class set c
    → map (tested now) (if b then methods_but set ds else d.methods ++ methods_but set ds)
    ≡ map (tested was) (if b then methods_but set cs else c.methods ++ methods_but set cs)
    → (map (tested now) (methods_but set ds) ≡ map (tested was) (methods_but set cs) → flagged now set ds ≡ flagged was set cs)
    → map (λ (m : MethodDescriptor). if not b then now m.method_offset else false) d.methods ++ flagged now set ds
    ≡ map (λ (m : MethodDescriptor). if not b then was m.method_offset else false) c.methods ++ flagged was set cs
flags_by now was set c d cs ds true e r s h others =
    let same : d.methods ≡ c.methods = sym (ap (λ b. if b then d.methods else map bare_method d.methods) (ap set r ∙ e))
    ∙ ap (λ (x : ClassDescriptor). x.methods) s ∙ ap (λ b. if b then c.methods else map bare_method c.methods) e in
    ap (λ ms. map (λ (m : MethodDescriptor). false) ms ++ flagged now set ds) same
    ∙ ap (λ bs. map (λ (m : MethodDescriptor). false) c.methods ++ bs) (others h)
flags_by now was set c d cs ds false e r s h others =
    let same : map bare_method d.methods ≡ map bare_method c.methods =
    sym (ap (λ b. if b then d.methods else map bare_method d.methods) (ap set r ∙ e)) ∙ ap (λ (x : ClassDescriptor). x.methods) s
    ∙ ap (λ b. if b then c.methods else map bare_method c.methods) e in
    let l : length (map (tested now) d.methods) ≡ length (map (tested was) c.methods) =
    length-map d.methods (tested now) ∙ sym (length-map d.methods bare_method) ∙ ap length same ∙ length-map c.methods bare_method
    ∙ sym (length-map c.methods (tested was)) in
    grind (arith, l, both_parts, map, map-append)

flags_alike : (now was : ℕ → Bool) (set : ℕ → Bool) (cs ds : List ClassDescriptor) → map (bare_class set) ds ≡ map (bare_class set) cs
    → map (tested now) (methods_but set ds) ≡ map (tested was) (methods_but set cs) → flagged now set ds ≡ flagged was set cs
flags_alike now was set [] [] e h = refl
flags_alike now was set [] (d ∷ ds) e h = absurd cc
flags_alike now was set (c ∷ cs) [] e h = absurd cc
flags_alike now was set (c ∷ cs) (d ∷ ds) e h =
    let s : bare_class set d ≡ bare_class set c = cc in
    let t : map (bare_class set) ds ≡ map (bare_class set) cs = cc in
    let r : d.class_ref ≡ c.class_ref = ap (λ (x : ClassDescriptor). x.class_ref) s in
    ap (λ b. map (λ (m : MethodDescriptor). if not b then now m.method_offset else false) d.methods ++ flagged now set ds) (ap set r)
    ∙ flags_by now was set c d cs ds (set c.class_ref) refl r s
    (ap (λ b. map (tested now) (if b then methods_but set ds else d.methods ++ methods_but set ds)) (sym (ap set r))
    ∙ h) (flags_alike now was set cs ds t)

-- ---- the offset of a described method

differ_now : (p q : PackageRecord) (all : List Change) (c d : Change) → Each (IsMethodWritten p q all) all → Has all c → Has all d
    → (offset_of c ≡ offset_of d → ⊥) → c.now.method_offset ≡ d.now.method_offset → ⊥
differ_now p q all c d ws hc hd ne same = by (compare (offset_of c) (offset_of d) ne)
  where
    by : (offset_of c < offset_of d) ⊎ (offset_of d < offset_of c) → ⊥
    by (inl lt) =
        let e = one_ends p q all c d (each_at (IsMethodWritten p q all) all c ws hc) (each_at (IsMethodWritten p q all) all d ws hd) hc lt in
        let f = sizes_end q.methods.info c.now in
        let g = sizes_some q.methods.info c.now in
        absurd (omega arith)
    by (inr lt) =
        let e = one_ends p q all d c (each_at (IsMethodWritten p q all) all d ws hd) (each_at (IsMethodWritten p q all) all c ws hc) hd lt in
        let f = sizes_end q.methods.info d.now in
        let g = sizes_some q.methods.info d.now in
        absurd (omega arith)

equal_if : (a b x y : ℕ) → (a ≡ b → x ≡ y) → ((a ≡ b → ⊥) → x ≡ y → ⊥) → (x == y) ≡ (a == b)
equal_if a b x y there apart_now = by (a == b) refl (x == y) refl
  where
    by : (s : Bool) → (a == b) ≡ s → (t : Bool) → (x == y) ≡ t → (x == y) ≡ (a == b)
    by true e true g = g ∙ sym e
    by false e false g = g ∙ sym e
    by true e false g = absurd (eqb-false x y g (there (eqb-true a b e)))
    by false e true g = absurd (apart_now (eqb-false a b e) (eqb-true x y g))

find_has : (cs : List Change) (c : Change) → Has cs c → Distinct offset_of cs → find (stood_at (offset_of c)) cs ≡ Some c
find_has [] c h d = absurd h
find_has (x ∷ cs) c (inl s) d = grind (arith, cond, find, eq-eqb)
find_has (x ∷ cs) c (inr h) d =
    let ne = each_at (λ (y : Change). offset_of y ≡ offset_of x → ⊥) cs c d.0 h in
    grind (arith, ne, cond, find, ne_eqb, find_has cs c h d.1)

pub now_has : (cs : List Change) (c : Change) → Has cs c → Distinct offset_of cs → now_at cs (offset_of c) ≡ c.now.method_offset
unfolding now_at
now_has cs c h d = ap (offset_by (offset_of c)) (find_has cs c h d)

-- an offset is that of a described method exactly where the renewed one is
asked_alike : (p q : PackageRecord) (cs : List Change) (d c : Change) → Each (IsMethodWritten p q cs) cs → Distinct offset_of cs
    → Has cs d → Has cs c → (now_at cs (offset_of d) == c.now.method_offset) ≡ (offset_of d == c.source.method.method_offset)
asked_alike p q cs d c ws apart_cs hd hc = grind (arith, now_has, equal_if, differ_now)

pub map_each_same : {X Y : Type 0} (f g : X → Y) (xs : List X) → Each (λ x. f x ≡ g x) xs → map f xs ≡ map g xs
map_each_same f g [] h = refl
map_each_same f g (x ∷ xs) h = ap (λ y. y ∷ map f xs) h.0 ∙ ap (λ ys. g x ∷ ys) (map_each_same f g xs h.1)

-- ---- numbers of methods

pub to_set : (p q : PackageRecord) (laid : List (Option Laid)) → IsRewritten p laid q → (r : ℕ)
    → names_interface q.classes r ≡ names_interface p.classes r
to_set p q laid r n = ap (λ cs. names_interface cs n) r.classes ∙ same_interfaces (now_at (changes p laid q)) p.classes n

pub record SameFlags (now was : RecordPlace) (ps : List PackageRecord) (k : ℕ) (p q : PackageRecord) : Type 0 where
  pub others : (j : ℕ) (r : PackageRecord) → j < k + length ps
      → map (is_at now) (map place_of_method (methods_of_classes j r 0 r.description.items.classes))
      ≡ map (is_at was) (map place_of_method (methods_of_classes j r 0 r.description.items.classes))
  pub last : map (is_at now) (map place_of_method (methods_of_classes (k + length ps) q 0 q.description.items.classes))
      ≡ map (is_at was) (map place_of_method (methods_of_classes (k + length ps) p 0 p.description.items.classes))

two_maps : (place : RecordPlace) (xs ys : List NumberedMethod) → map (is_at place) (map place_of_method (xs ++ ys))
    ≡ map (is_at place) (map place_of_method xs) ++ map (is_at place) (map place_of_method ys)
two_maps place xs ys = grind (arith, map, map-append)

all_flags : (now was : RecordPlace) (k : ℕ) (ps : List PackageRecord) (p q : PackageRecord) → SameFlags now was ps k p q
    → map (is_at now) (map place_of_method (methods_after k (and_last ps q)))
    ≡ map (is_at was) (map place_of_method (methods_after k (and_last ps p)))
all_flags now was k [] p q s =
    let z : k + 0 ≡ k = omega arith in
    let e = subst (λ n. map (is_at now) (map place_of_method (methods_of_classes n q 0 q.description.items.classes))
    ≡ map (is_at was) (map place_of_method (methods_of_classes n p 0 p.description.items.classes))) z s.last in
    two_maps now (methods_of_classes k q 0 q.description.items.classes) [] ∙ ap (λ bs. bs ++ []) e
    ∙ sym (two_maps was (methods_of_classes k p 0 p.description.items.classes) [])
all_flags now was k (r ∷ ps) p q s =
    let z : k + suc (length ps) ≡ k + 1 + length ps = omega arith in
    let rest = all_flags now was (k + 1) ps p q (record {
      others = λ j x lt. s.others j x (omega arith);
      last = subst (λ n. map (is_at now) (map place_of_method (methods_of_classes n q 0 q.description.items.classes))
          ≡ map (is_at was) (map place_of_method (methods_of_classes n p 0 p.description.items.classes))) z s.last;
    }) in
    two_maps now (methods_of_classes k r 0 r.description.items.classes) (methods_after (k + 1) (and_last ps q))
    ∙ ap (λ bs. bs ++ map (is_at now) (map place_of_method (methods_after (k + 1) (and_last ps q)))) (s.others k r (omega arith))
    ∙ ap (λ bs. map (is_at was) (map place_of_method (methods_of_classes k r 0 r.description.items.classes)) ++ bs) rest
    ∙ sym (two_maps was (methods_of_classes k r 0 r.description.items.classes) (methods_after (k + 1) (and_last ps p)))

other_number : (a n : ℕ) → (a < n) → (n == a) ≡ false
other_number a n lt = grind arith

other_number' : (a n : ℕ) → (a < n) → (a == n) ≡ false
other_number' a n lt = grind arith

-- of a package before the last
pub earlier_method : (ps : List PackageRecord) (p q : PackageRecord) (laid : List (Option Laid)) (k o : ℕ) → IsRewritten p laid q
    → k < length ps
    → method_at (and_last ps q) (record { «package» = k; offset = o })
    ≡ method_at (and_last ps p) (record { «package» = k; offset = o })
unfolding method_at
earlier_method ps p q laid k o r lt =
    let place : RecordPlace = record { «package» = k; offset = o } in
    let n = 0 + length ps in
    let set = names_interface p.classes in
    let no : (k == n) ≡ false = other_number' k n (omega arith) in
    position_alike (is_at place) (is_at place) (method_places (and_last ps q)) (method_places (and_last ps p))
    (all_flags place place 0 ps p q (record {
      others = λ j x less. refl;
      last = in_classes k n o q 0 q.description.items.classes
          ∙ ap (λ b. flagged (λ x. b && o == x) (names_interface q.classes) q.description.items.classes) no
          ∙ interfaces_same (λ x. false) (names_interface q.classes) set q.description.items.classes (to_set p q laid r)
          ∙ flags_alike (λ x. false) (λ x. false) set p.description.items.classes q.description.items.classes r.description.classes
          (map_false (methods_but set q.description.items.classes) (methods_but set p.description.items.classes)
          (ap length (sym (but_same (names_interface q.classes) set q.description.items.classes (to_set p q laid r))
          ∙ sym (news p q laid r)) ∙ length-map (changes p laid q) now_of ∙ sym (length-map (changes p laid q) old_of)
          ∙ ap length (olds p q laid r)))
          ∙ sym (ap (λ b. flagged (λ x. b && o == x) set p.description.items.classes) no)
          ∙ sym (in_classes k n o p 0 p.description.items.classes);
    }))
  where
    map_false : (xs ys : List MethodDescriptor) → length xs ≡ length ys → map (λ (m : MethodDescriptor). false) xs
        ≡ map (λ (m : MethodDescriptor). false) ys
    map_false [] [] e = refl
    map_false [] (y ∷ ys) e = absurd (omega arith)
    map_false (x ∷ xs) [] e = absurd (omega arith)
    map_false (x ∷ xs) (y ∷ ys) e = ap (λ bs. false ∷ bs) (map_false xs ys (omega arith))

-- of the last package: that of a described method
pub last_method : (parts : List Lent) (ps : List PackageRecord) (p q : PackageRecord) (laid : List (Option Laid)) (d : Change)
    → StandsFor parts p → IsRewritten p laid q → Has (changes p laid q) d
    → method_at (and_last ps q) (record { «package» = length ps; offset = now_at (changes p laid q) (offset_of d) })
    ≡ method_at (and_last ps p) (record { «package» = length ps; offset = offset_of d })
unfolding method_at
last_method parts ps p q laid d s r h =
    let cs = changes p laid q in
    let n = length ps in
    let o = offset_of d in
    let now : RecordPlace = record { «package» = n; offset = now_at cs o } in
    let was : RecordPlace = record { «package» = n; offset = o } in
    let set = names_interface p.classes in
    let ws = all_written p q laid r in
    let apart_cs = apart parts p q laid (agrees parts p s.agree) r in
    let z : n ≡ 0 + n = omega arith in
    let tests : map (tested (λ x. n == 0 + n && now_at cs o == x)) (methods_but set q.description.items.classes)
    ≡ map (tested (λ x. n == 0 + n && o == x)) (methods_but set p.description.items.classes) =
    ap (map (tested (λ x. n == 0 + n && now_at cs o == x)))
    (sym (but_same (names_interface q.classes) set q.description.items.classes (to_set p q laid r)) ∙ sym (news p q laid r))
    ∙ map_twice (tested (λ x. n == 0 + n && now_at cs o == x)) now_of cs
    ∙ map_each_same (λ (c : Change). n == 0 + n && now_at cs o == c.now.method_offset)
    (λ (c : Change). n == 0 + n && o == c.source.method.method_offset) cs
    (each_of (λ (c : Change). (n == 0 + n && now_at cs o == c.now.method_offset)
    ≡ (n == 0 + n && o == c.source.method.method_offset)) cs
    (λ c g. ap (λ b. n == 0 + n && b) (asked_alike p q cs d c ws apart_cs h g)))
    ∙ sym (map_twice (tested (λ x. n == 0 + n && o == x)) old_of cs)
    ∙ ap (map (tested (λ x. n == 0 + n && o == x))) (olds p q laid r) in
    position_alike (is_at now) (is_at was) (method_places (and_last ps q)) (method_places (and_last ps p))
    (all_flags now was 0 ps p q (record {
      others = λ j x less. in_classes n j (now_at cs o) x 0 x.description.items.classes
          ∙ ap (λ b. flagged (λ y. b && now_at cs o == y) (names_interface x.classes) x.description.items.classes)
          (other_number j n (omega arith))
          ∙ sym (ap (λ b. flagged (λ y. b && o == y) (names_interface x.classes) x.description.items.classes)
          (other_number j n (omega arith)))
          ∙ sym (in_classes n j o x 0 x.description.items.classes);
      last = in_classes n (0 + n) (now_at cs o) q 0 q.description.items.classes
          ∙ interfaces_same (λ x. n == 0 + n && now_at cs o == x) (names_interface q.classes) set q.description.items.classes
          (to_set p q laid r)
          ∙ flags_alike (λ x. n == 0 + n && now_at cs o == x) (λ x. n == 0 + n && o == x) set p.description.items.classes
          q.description.items.classes r.description.classes tests
          ∙ sym (in_classes n (0 + n) o p 0 p.description.items.classes);
    }))
