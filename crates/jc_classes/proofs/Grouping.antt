-- Methods grouped by class.
use Rattle.std.proofs.Common.{◌≡◌, ℕ, zero, suc, ◌+◌, ◌<◌, set, get_or, take, Bool, true, false, List, [], ◌∷◌, ◌++◌, append-nil, arith}
use Rattle.std.proofs.Common.{length, replicate, Option, Some, refl, sym, ap, subst, ◌∙◌, inl, inr}
use Rattle.std.specs.Prelude.{◌==◌, ◌||◌, ◌&&◌, not, IfSome, slice_get, if◌then◌else◌}
use Rattle.std.specs.List.{list_all}
use Rattle.std.proofs.lemmas.Bool.{eqb-true, eq-eqb, false_from_ne_true, cases_eq}
use Rattle.std.proofs.lemmas.List.{length-set, length-replicate, take_more}
use Rattle.std.proofs.lemmas.Option.{slice_get_within}
use Rattle.jc_base.specs.declared.record.MethodRec.{MethodRec}
use Rattle.jc_base.proofs.Lists.{IfSome-is, slice_get-set_here, slice_get-set_other}
use Rattle.jc_classes.specs.Groups.{AreGroups, IsMethodAdded, methods_of}

pub added : (m : MethodRec) (old new : List (List MethodRec)) (before after : List MethodRec) → slice_get old m.class ≡ Some before
    → after ≡ before ++ (m ∷ []) → new ≡ set old m.class after → IsMethodAdded m old new
added m old new before after found e is = record { before = before; found = found; set_is = is ∙ ap (set old m.class) e }

pub ruleset adding = (added)

no_group : (n d : ℕ) → IfSome (slice_get {X = List MethodRec} (replicate n []) d) (λ g. g ≡ [])
no_group zero d = tt
no_group (suc n) zero = refl
no_group (suc n) (suc d) = no_group n d

pub groups_none : (n : ℕ) (groups : List (List MethodRec)) → groups ≡ replicate n [] → AreGroups n [] groups
groups_none n groups e = grind (arith, length-replicate, no_group)

keep_or_skip : (x : MethodRec) (b c : Bool) (m : MethodRec) (xs ys : List MethodRec) → ys ≡ xs ++ (if b then m ∷ [] else [])
    → (if c then x ∷ ys else ys) ≡ (if c then x ∷ xs else xs) ++ (if b then m ∷ [] else [])
keep_or_skip x b z m xs ys e = grind (arith)

methods_by : (methods : List MethodRec) (m : MethodRec) (d : ℕ) (b : Bool) → (m.class == d) ≡ b → methods_of (methods ++ (m ∷ [])) d
    ≡ methods_of methods d ++ (if b then m ∷ [] else [])
methods_by [] m d true e = rw e refl
methods_by [] m d false e = rw e refl
methods_by (x ∷ xs) m d b e = keep_or_skip x b (x.class == d) m (methods_of xs d) (methods_of (xs ++ (m ∷ [])) d) (methods_by xs m d b e)

pub groups_more : (n : ℕ) (methods : List MethodRec) (m : MethodRec) (old new : List (List MethodRec)) → AreGroups n methods old
    → IsMethodAdded m old new → AreGroups n (methods ++ (m ∷ [])) new
groups_more n methods m old new are is = record {
  count = ap length is.set_is ∙ length-set old m.class (is.before ++ (m ∷ [])) ∙ are.count;
  each = λ d. elim (cases_eq m.class d) [
    | inl e ↦
        let before : is.before ≡ methods_of methods m.class = IfSome-is (λ g. g ≡ methods_of methods m.class) (slice_get old m.class) is.before
        (are.each m.class) is.found in
        let here : slice_get new m.class ≡ Some (is.before ++ (m ∷ [])) = ap (λ (gs : List (List MethodRec)). slice_get gs m.class) is.set_is
        ∙ slice_get-set_here old m.class (is.before ++ (m ∷ [])) (slice_get_within old m.class is.before is.found) in
        let right : is.before ++ (m ∷ []) ≡ methods_of (methods ++ (m ∷ [])) m.class = ap (λ (g : List MethodRec). g ++ (m ∷ [])) before
        ∙ sym (methods_by methods m m.class true (eq-eqb m.class m.class refl)) in
        subst (λ (k : ℕ). IfSome (slice_get new k) (λ g. g ≡ methods_of (methods ++ (m ∷ [])) k)) e
        (subst (λ (o : Option (List MethodRec)). IfSome o (λ g. g ≡ methods_of (methods ++ (m ∷ [])) m.class)) (sym here) right)
    | inr ne ↦
        let there : slice_get new d ≡ slice_get old d = ap (λ (gs : List (List MethodRec)). slice_get gs d) is.set_is
        ∙ slice_get-set_other old m.class d (is.before ++ (m ∷ [])) ne in
        let none : (m.class == d) ≡ false = false_from_ne_true (m.class == d) (λ e. ne (eqb-true m.class d e)) in
        let same : methods_of methods d ≡ methods_of (methods ++ (m ∷ [])) d = sym
        (methods_by methods m d false none ∙ append-nil (methods_of methods d)) in
        subst (λ (ms : List MethodRec). IfSome (slice_get new d) (λ g. g ≡ ms)) same
        (subst (λ (o : Option (List MethodRec)). IfSome o (λ g. g ≡ methods_of methods d)) (sym there) (are.each d))
  ];
}

pub groups_next : (n : ℕ) (methods : List MethodRec) (i : ℕ) (m : MethodRec) (old new : List (List MethodRec)) → m ≡ get_or methods i m
    → i < length methods → AreGroups n (take i methods) old → IsMethodAdded m old new → AreGroups n (take (i + 1) methods) new
groups_next n methods i m old new at h are is = grind (arith, take_more methods i m h, groups_more n (take i methods) m old new are is)

pub ruleset grouping = (groups_none, groups_next)

-- ---- what holds of the methods of a class

test_or_skip : (p : MethodRec → Bool) (m : MethodRec) (ms : List MethodRec) (b whole : Bool) → list_all p ms ≡ whole
    → list_all p (if b then m ∷ ms else ms) ≡ ((not b || p m) && whole)
test_or_skip p m ms u whole e = grind (arith)

pub all_of_class : (p : MethodRec → Bool) (methods : List MethodRec) (d : ℕ)
    → list_all p (methods_of methods d) ≡ list_all (λ (m : MethodRec). not (m.class == d) || p m) methods
all_of_class p [] d = refl
all_of_class p (m ∷ ms) d = grind (arith, test_or_skip, all_of_class p ms d)
