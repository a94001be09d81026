-- Classes in an order.
use Rattle.std.proofs.Common.{◌≡◌, ℕ, ◌+◌, ◌<◌, ◌≤◌, ◌⊎◌, inl, inr, ⊎_elim, Bool}
use Rattle.std.proofs.Common.{true, false, if◌then◌else◌, List, [], ◌∷◌, ◌++◌, length, sym}
use Rattle.std.proofs.Common.{subst, arith}
use Rattle.std.specs.Prelude.{Some, Contains, slice_get, ◌==◌}
use Rattle.std.specs.List.{list_any}
use Rattle.std.proofs.lemmas.Bool.{cases_lt, eqb-true}
use Rattle.std.proofs.lemmas.Option.{slice_get_within, slice_get-get_or, get_or_from_slice_get}
use Rattle.std.proofs.lemmas.List.{length-append}
use Rattle.std.proofs.lemmas.List.Elements.{Contains-append_left, Contains-push_cases}
use Rattle.indexmap.specs.IndexSet.{insert_key}
use Rattle.indexmap.proofs.CallerLemmas.{Contains-insert_key}
use Rattle.jc_base.specs.Class.{ClassTable, IsClass}
use Rattle.vm_bound.specs.Blocks.{IsOrder, IsPlaced}

abbrev pub inserted : List ℕ → ℕ → List ℕ
inserted xs x = insert_key (λ a b. a == b) xs x

pub placed-class : (t : ClassTable) (old : List ℕ) (c : ℕ) (new : List ℕ) → IsClass t c → new ≡ inserted old c → IsPlaced t old c new
placed-class t old c new class e = subst (IsPlaced t old c) (sym e) (record {
  kept = λ x h. kept (list_any (λ b. c == b) old) x h;
  only = λ x h. only (list_any (λ b. c == b) old) x h;
  there = λ k. Contains-insert_key (λ a b. a == b) eqb-true old c;
  many = many (list_any (λ b. c == b) old);
})
  where
    kept : (b : Bool) (x : ℕ) → Contains old x → Contains (if b then old else old ++ c ∷ []) x
    kept true x h = h
    kept false x h = Contains-append_left old (c ∷ []) x h

    only : (b : Bool) (x : ℕ) → Contains (if b then old else old ++ c ∷ []) x → Contains old x ⊎ IsClass t x
    only true x h = inl h
    only false x h = ⊎_elim (λ was. inl was) (λ is. inr (subst (IsClass t) is class)) (Contains-push_cases old c x h)

    many : (b : Bool) → length (if b then old else old ++ c ∷ []) ≤ length old + 1
    many true = omega arith
    many false = let e = length-append old (c ∷ []) in omega (arith, e)

-- some classes stand in an order, among them those below a bound
pub record ArePlaced (t : ClassTable) (bound many : ℕ) (xs : List ℕ) : Type 0 where
  pub only : (c : ℕ) → Contains xs c → IsClass t c
  pub all : (c : ℕ) → c < bound → IsClass t c → Contains xs c
  pub most : length xs ≤ many

-- one more, whichever it is
pub placed-any : (t : ClassTable) (many c : ℕ) (old new : List ℕ) → IsPlaced t old c new → ArePlaced t 0 many old → ArePlaced t 0 (many + 1) new
placed-any t many c old new is before = record {
  only = λ x h. ⊎_elim (λ was. before.only x was) (λ class. class) (is.only x h);
  all = λ x l class. absurd (omega (arith, l));
  most = (let a = before.most in let b = is.many in omega (arith, a, b));
}

-- one more, by number
pub placed-next : (t : ClassTable) (c many : ℕ) (old new : List ℕ) → IsPlaced t old c new → ArePlaced t c many old → ArePlaced t (c + 1) (many + 1) new
placed-next t c many old new is before = record {
  only = λ x h. ⊎_elim (λ was. before.only x was) (λ class. class) (is.only x h);
  all = λ x l class. elim (cases_lt x c) [
    | inl lower ↦ is.kept x (before.all x lower class)
    | inr past ↦
        let e : c ≡ x = omega (arith, l, past) in
        subst (Contains new) e (is.there (subst (IsClass t) (sym e) class))
  ];
  most = (let a = before.most in let b = is.many in omega (arith, a, b));
}

pub contains-at : (xs : List ℕ) (p c : ℕ) → slice_get xs p ≡ Some c → Contains xs c
contains-at xs p c e = (p, slice_get_within xs p c e, get_or_from_slice_get xs p c _ e)

pub placed-order : (t : ClassTable) (many : ℕ) (xs : List ℕ) → ArePlaced t (length t.records) many xs → IsOrder t xs
placed-order t many xs placed = record {
  only = λ p c e. placed.only c (contains-at xs p c e);
  all = grind (arith, slice_get-get_or);
}
