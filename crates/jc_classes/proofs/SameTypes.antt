-- Types and signatures that are the same.
use Rattle.std.proofs.Common.{◌≡◌, ℕ, suc, ◌+◌, ◌<◌, Bool, true, false, List, [], ◌∷◌, length, drop, get_or, refl, ap, subst}
use Rattle.std.proofs.Common.{◌∙◌, ◌≤◌, arith, drop-cons, add-one}
use Rattle.std.proofs.lemmas.List.{drop_all}
use Rattle.std.specs.Prelude.{◌&&◌, ◌↔◌, IsTrue, Option, Some, None}
use Rattle.std.proofs.lemmas.Bool.{false≢true, and_parts}
use Rattle.jc_base.specs.declared.ty.Ty.{Ty}
use Rattle.jc_base.specs.declared.record.Sig.{Sig}
use Rattle.jc_base.specs.declared.record.MethodRec.{MethodRec}
use Rattle.jc_base.specs.SameType.{same_type}
use Rattle.jc_base.proofs.SameTypes.{same_type-equal, same_type-itself}
use Rattle.jc_classes.specs.Signatures.{same_types, same_result, same_sig, same_signature, entry_signature}

-- lists of different lengths are not the same
pub same-lengths : (xs ys : List Ty) → same_types xs ys ≡ true → length xs ≡ length ys
same-lengths [] [] e = refl
same-lengths [] (y ∷ ys) e = absurd (false≢true e)
same-lengths (x ∷ xs) [] e = absurd (false≢true e)
same-lengths (x ∷ xs) (y ∷ ys) e = ap suc (same-lengths xs ys (and_parts (same_type x y) (same_types xs ys) e).1)

pub same_types-differ : (xs ys : List Ty) → (length xs ≡ length ys → ⊥) → false ≡ same_types xs ys
same_types-differ xs ys ne = grind (arith, same-lengths)

pub same_types-step : (xs ys : List Ty) (i : ℕ) (d e : Ty) → i < length xs → length xs ≡ length ys
    → same_types (drop i xs) (drop i ys) ≡ (same_type (get_or xs i d) (get_or ys i e) && same_types (drop (i + 1) xs) (drop (i + 1) ys))
same_types-step xs ys i d e h same = grind (arith, add-one, drop-cons)

-- the turn of the loop at types that are the same, and at types that differ
pub same_types-next : (xs ys : List Ty) (i : ℕ) (d e : Ty) → i < length xs → length xs ≡ length ys → same_type (get_or xs i d) (get_or ys i e)
    ≡ true → same_types (drop i xs) (drop i ys) ≡ same_types xs ys
    → same_types (drop (i + 1) xs) (drop (i + 1) ys) ≡ same_types xs ys
same_types-next xs ys i d e h same on before = grind (arith, same_types-step xs ys i d e h same)

pub same_types-other : (xs ys : List Ty) (i : ℕ) (d e : Ty) → i < length xs → length xs ≡ length ys → same_type (get_or xs i d) (get_or ys i e)
    ≡ false → same_types (drop i xs) (drop i ys) ≡ same_types xs ys
    → false ≡ same_types xs ys
same_types-other xs ys i d e h same on before = grind (arith, same_types-step xs ys i d e h same)

pub same_types-whole : (xs ys : List Ty) (i : ℕ) → length xs ≤ i → length xs ≡ length ys → same_types (drop i xs) (drop i ys)
    ≡ same_types xs ys → true ≡ same_types xs ys
same_types-whole xs ys i h same before = grind (arith, drop_all)

pub ruleset same_lists = (same_types-differ, same_types-next, same_types-other, same_types-whole)

-- ---- what is the same is equal

same_types-equal : (xs ys : List Ty) → same_types xs ys ≡ true → xs ≡ ys
same_types-equal [] [] e = refl
same_types-equal [] (y ∷ ys) e = absurd (false≢true e)
same_types-equal (x ∷ xs) [] e = absurd (false≢true e)
same_types-equal (x ∷ xs) (y ∷ ys) e =
    let first : x ≡ y = same_type-equal x y (and_parts (same_type x y) (same_types xs ys) e).0 in
    let rest : xs ≡ ys = same_types-equal xs ys (and_parts (same_type x y) (same_types xs ys) e).1 in
    rw (first, rest) refl

same_types-itself : (xs : List Ty) → same_types xs xs ≡ true
same_types-itself [] = refl
same_types-itself (x ∷ xs) = rw (same_type-itself x) (same_types-itself xs)

same_result-equal : (a b : Option Ty) → same_result a b ≡ true → a ≡ b
same_result-equal None None e = refl
same_result-equal None (Some b) e = absurd (false≢true e)
same_result-equal (Some a) None e = absurd (false≢true e)
same_result-equal (Some a) (Some b) e = ap Some (same_type-equal a b e)

same_sig-equal : (a b : Sig) → same_sig a b ≡ true → a ≡ b
unfolding same_sig
same_sig-equal a b e =
    let args : a.args ≡ b.args = same_types-equal a.args b.args (and_parts (same_types a.args b.args) (same_result a.result b.result) e).0 in
    let results : a.result ≡ b.result = same_result-equal a.result b.result (and_parts (same_types a.args b.args) (same_result a.result b.result) e).1 in
    equal_parts a b args results where
      equal_parts : (a b : Sig) → a.args ≡ b.args → a.result ≡ b.result → a ≡ b
      equal_parts a b e f =
          ap (λ (xs : List Ty). let s : Sig = record { args = xs; result = a.result } in s) e
          ∙ ap (λ (r : Option Ty). let s : Sig = record { args = b.args; result = r } in s) f

pub same_sig-itself : (a : Sig) → same_sig a a ≡ true
unfolding same_sig
same_sig-itself a = grind (arith, same_types-itself, same_type-itself)

pub same_signature-equal : (a b : Option Sig) → same_signature a b ≡ true → a ≡ b
same_signature-equal None None e = refl
same_signature-equal None (Some b) e = absurd (false≢true e)
same_signature-equal (Some a) None e = absurd (false≢true e)
same_signature-equal (Some a) (Some b) e = ap Some (same_sig-equal a b e)

same_signature-itself : (a : Option Sig) → same_signature a a ≡ true
same_signature-itself x = grind (arith, same_sig-itself)

-- two entries have the same signature exactly where their signatures are equal
pub same_signature-exact : (a b : Option Sig) → IsTrue (same_signature a b) ↔ (a ≡ b)
same_signature-exact a b = (λ e. same_signature-equal a b e, λ e. subst (λ (o : Option Sig). IsTrue (same_signature a o)) e (same_signature-itself a))

pub same_signature-by : (methods : List MethodRec) (a b : Option ℕ) (r : Bool)
    → r ≡ same_signature (entry_signature methods a) (entry_signature methods b)
    → IsTrue r ↔ (entry_signature methods a ≡ entry_signature methods b)
same_signature-by methods a b r e = grind (arith, same_signature-exact)

pub same_entry : (methods : List MethodRec) (a b : Option ℕ) → a ≡ b → true ≡ same_signature (entry_signature methods a) (entry_signature methods b)
same_entry methods a b e = grind (arith, same_signature-itself)

pub ruleset signatures = (same_signature-by, same_entry)
