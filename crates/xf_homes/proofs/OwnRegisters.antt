-- The arguments of a method at their declared types: each stands where its register is.
use Rattle.std.proofs.Common.{◌≡◌, ℕ, zero, suc, ◌+◌, inl, inr, Bool, true, false, if◌then◌else◌, List, [], ◌∷◌, ◌++◌, length}
use Rattle.std.proofs.Common.{sum_by, All, Option, Some, slice_get, refl, sym, ◌∙◌, ap, subst, arith}
use Rattle.std.proofs.lemmas.List.Sums.{sum_by-cons}
use Rattle.std.proofs.lemmas.List.Elements.{All-head, All-tail}
use Rattle.jc_base.specs.declared.ty.Ty.{Ty}
use Rattle.jc_base.specs.declared.ty.Ty.TheVariants.{IntHigh, IntLow, Class}
use Rattle.jc_base.specs.declared.record.MethodRec.{MethodRec}
use Rattle.jc_base.specs.Cell.{IsNoHalf, AreWhole, no_cells, whole_int, one_cell}
use Rattle.jc_base.specs.Each.{IsAmong}
use Rattle.jc_base.specs.Linked.{receiver_words}
use Rattle.jc_rules.specs.Flow.{IsNotTop}
use Rattle.xf_homes.specs.declared.home.Home.{Home}
use Rattle.xf_homes.specs.Value.{value_of, value_in_cells, type_width}
use Rattle.xf_homes.specs.Home.{IsArgument, argument_types}
use Rattle.xf_homes.specs.Order.{SlotsFollow, register_sum}
use Rattle.xf_homes.specs.Walk.{values_from, argument_homes}

-- ---- single cells

-- a cell that is a value by itself
record IsOwnValue (a : Ty) : Type 0 where
  value : (next : Option Ty) → value_of (Some a) next ≡ Some a
  one : type_width a ≡ 1
  first : (slot : ℕ) (ts : List Ty) → values_from slot (a ∷ ts) ≡ record { slot = slot; ty = a } ∷ values_from (suc slot) ts

own-value : (a : Ty) → IsNoHalf a → IsNotTop a → IsOwnValue a
own-value x n top = grind (arith)

-- ---- values of lists

value-later : (x : Ty) (xs : List Ty) (n : ℕ) → value_in_cells (x ∷ xs) (suc n) ≡ value_in_cells xs n
unfolding value_in_cells
value-later x xs n = let e : suc n + 1 ≡ suc (n + 1) = omega arith in ap (λ k. value_of (slice_get xs n) (slice_get (x ∷ xs) k)) e

value-first : (x : Ty) (xs : List Ty) → value_in_cells (x ∷ xs) 0 ≡ value_of (Some x) (slice_get xs 0)
unfolding value_in_cells
value-first x xs = refl

none-there : (n : ℕ) (ty : Ty) → value_in_cells [] n ≡ Some ty → ⊥
unfolding value_in_cells
none-there n ty e = absurd (cc)

-- a value of the list, at its slot
record IsIn (slot : ℕ) (types : List Ty) (h : Home) : Type 0 where
  number : ℕ
  at : slot + number ≡ h.slot
  value : value_in_cells types number ≡ Some h.ty

later-in : (slot : ℕ) (x : Ty) (xs : List Ty) (h : Home) → IsIn (suc slot) xs h → IsIn slot (x ∷ xs) h
later-in slot x xs h i = record {
  number = suc i.number;
  at = let e : slot + suc i.number ≡ suc slot + i.number = omega arith in e ∙ i.at;
  value = value-later x xs i.number ∙ i.value;
}

some-type : {a b : Ty} → ◌≡◌ {A = Option Ty} (Some a) (Some b) → a ≡ b
some-type e = cc

home-is : (slot : ℕ) (ty : Ty) (h : Home) → slot ≡ h.slot → ty ≡ h.ty → record { slot = slot; ty = ty } ≡ h
home-is slot ty h e f = ap (λ (n : ℕ). record { slot = n; ty = ty }) e ∙ ap (λ (t : Ty). record { slot = h.slot; ty = t }) f

values-in : {types : List Ty} → AreWhole types → All IsNotTop types → (slot : ℕ) (h : Home) → IsAmong h (values_from slot types) → IsIn slot types h
values-in no_cells top slot h a = absurd a
values-in (whole_int {types = ts} whole) top slot h (inl e) = grind (arith, value-first)
values-in (whole_int {types = ts} whole) top slot h (inr a) =
    later-in slot IntHigh (IntLow ∷ ts) h
    (later-in (suc slot) IntLow ts h (values-in whole (All-tail IsNotTop IntLow ts (All-tail IsNotTop IntHigh (IntLow ∷ ts) top)) (suc (suc slot)) h
    a))
values-in (one_cell {a = x} {types = ts} n whole) top slot h a =
    by (subst (IsAmong h) ((own-value x n (All-head IsNotTop x ts top)).first slot ts) a) (values-in whole (All-tail IsNotTop x ts top) (suc slot) h)
  where
    by : IsAmong h (record { slot = slot; ty = x } ∷ values_from (suc slot) ts) → (IsAmong h (values_from (suc slot) ts) → IsIn (suc slot) ts h)
        → IsIn slot (x ∷ ts) h
    by (inl e) rest = record {
      number = 0;
      at = let s : slot + 0 ≡ slot = omega arith in s ∙ ap (λ (k : Home). k.slot) e;
      value = value-first x ts ∙ (own-value x n (All-head IsNotTop x ts top)).value (slice_get ts 0) ∙ ap (λ (k : Home). Some k.ty) e;
    }
    by (inr a) rest = later-in slot x ts h (rest a)

in-values : {types : List Ty} → AreWhole types → All IsNotTop types → (slot n : ℕ) (ty : Ty) → value_in_cells types n ≡ Some ty
    → IsAmong (record { slot = slot + n; ty = ty }) (values_from slot types)
in-values no_cells top slot n ty v = absurd (none-there n ty v)
in-values (whole_int {types = ts} whole) top slot zero ty v = grind (arith, home-is, some-type, value-first)
in-values (whole_int {types = ts} whole) top slot (suc zero) ty v = grind (arith, value-later, value-first)
in-values (whole_int {types = ts} whole) top slot (suc (suc n)) ty v =
    let s : suc (suc slot) + n ≡ slot + suc (suc n) = omega arith in
    inr (subst (λ k. IsAmong (record { slot = k; ty = ty }) (values_from (suc (suc slot)) ts)) s
    (in-values whole (All-tail IsNotTop IntLow ts (All-tail IsNotTop IntHigh (IntLow ∷ ts) top)) (suc (suc slot)) n ty
    (sym (value-later IntLow ts n) ∙ sym (value-later IntHigh (IntLow ∷ ts) (suc n)) ∙ v)))
in-values (one_cell {a = x} {types = ts} p whole) top slot zero ty v = grind (arith, own-value, home-is, some-type, value-first, slice_get)
in-values (one_cell {a = x} {types = ts} p whole) top slot (suc n) ty v =
    let own = own-value x p (All-head IsNotTop x ts top) in
    let s : suc slot + n ≡ slot + suc n = omega arith in
    subst (IsAmong (record { slot = slot + suc n; ty = ty })) (sym (own.first slot ts))
    (inr
    (subst (λ k. IsAmong (record { slot = k; ty = ty }) (values_from (suc slot) ts)) s
    (in-values whole (All-tail IsNotTop x ts top) (suc slot) n ty (sym (value-later x ts n) ∙ v))))

stand-from : {types : List Ty} → AreWhole types → All IsNotTop types → (slot : ℕ) → SlotsFollow slot (values_from slot types)
stand-from no_cells top slot = tt
stand-from (whole_int {types = ts} whole) top slot =
    let s : suc (suc slot) ≡ slot + 2 = omega arith in (
      refl,
      subst (λ k. SlotsFollow k (values_from (suc (suc slot)) ts)) s
          (stand-from whole (All-tail IsNotTop IntLow ts (All-tail IsNotTop IntHigh (IntLow ∷ ts) top)) (suc (suc slot))),
    )
stand-from (one_cell {a = x} {types = ts} p whole) top slot =
    let own = own-value x p (All-head IsNotTop x ts top) in
    let s : suc slot ≡ slot + type_width x = omega (arith, own.one) in
    subst (SlotsFollow slot) (sym (own.first slot ts))
    (refl, subst (λ k. SlotsFollow k (values_from (suc slot) ts)) s (stand-from whole (All-tail IsNotTop x ts top) (suc slot)))

sum-values : {types : List Ty} → AreWhole types → All IsNotTop types → (slot : ℕ) → register_sum (values_from slot types) ≡ length types
unfolding register_sum
sum-values no_cells top slot = refl
sum-values (whole_int {types = ts} whole) top slot =
    let rest = sum-values whole (All-tail IsNotTop IntLow ts (All-tail IsNotTop IntHigh (IntLow ∷ ts) top)) (suc (suc slot)) in
    sum_by-cons (λ h. type_width h.ty) (record { slot = slot; ty = IntHigh }) (values_from (suc (suc slot)) ts) ∙ omega (arith, rest)
sum-values (one_cell {a = x} {types = ts} p whole) top slot =
    let own = own-value x p (All-head IsNotTop x ts top) in
    let rest = sum-values whole (All-tail IsNotTop x ts top) (suc slot) in
    ap (sum_by (λ h. type_width h.ty)) (own.first slot ts) ∙ sum_by-cons (λ h. type_width h.ty) (record { slot = slot; ty = x })
    (values_from (suc slot) ts) ∙ omega (arith, rest, own.one)

-- ---- the arguments of a method

pub record AreArguments (r : MethodRec) : Type 0 where
  pub sound : (h : Home) → IsAmong h (argument_homes r) → IsArgument r h
  pub complete : (h : Home) → IsArgument r h → IsAmong h (argument_homes r)
  pub stand : SlotsFollow 0 (argument_homes r)
  pub filled : register_sum (argument_homes r) ≡ length r.sig.args + receiver_words r.is_static

module _ (r : MethodRec) (whole : AreWhole r.sig.args) (top : All IsNotTop r.sig.args) where
  -- the receiver is one more value in front
  with-receiver : AreWhole (argument_types r) → All IsNotTop (argument_types r) → argument_homes r ≡ values_from 0 (argument_types r)
      → length (argument_types r) ≡ length r.sig.args + receiver_words r.is_static → AreArguments r
  with-receiver all topless same size = grind (arith, values-in, in-values, stand-from, sum-values)

  are-arguments-by : (b : Bool) → r.is_static ≡ b → AreArguments r
  are-arguments-by true e = grind (arith, with-receiver)
  are-arguments-by false e = with-receiver
      (subst (λ c. AreWhole ((if c then [] else Class r.class ∷ []) ++ r.sig.args)) (sym e) (one_cell tt whole))
      (subst (λ c. All IsNotTop ((if c then [] else Class r.class ∷ []) ++ r.sig.args)) (sym e) (λ k d lt. topless-cons k d lt))
      (rw e refl) (rw e (omega arith))
    where
      topless-cons : All IsNotTop (Class r.class ∷ r.sig.args)
      topless-cons zero d lt = tt
      topless-cons (suc k) d lt = top k d (omega arith)

pub are-arguments : (r : MethodRec) → AreWhole r.sig.args → All IsNotTop r.sig.args → AreArguments r
are-arguments r whole top = are-arguments-by r whole top r.is_static refl
