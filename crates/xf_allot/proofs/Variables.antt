-- Variables in registers, and the registers that they are given.
use Rattle.std.proofs.Common.{◌≡◌, ℕ, zero, suc, ◌+◌, ◌-◌, ◌<◌, ◌≤◌, inl, inr, List, [], ◌∷◌, ◌++◌, length, drop, map, refl, sym, ap, ◌∙◌, subst, arith}
use Rattle.std.proofs.Common.{All, get_or, append_assoc}
use Rattle.std.specs.Prelude.{Bool, true, false, not, MatchBool, Option, Some, slice_get}
use Rattle.std.proofs.Math.ListN.{drop_of_length-le}
use Rattle.std.proofs.lemmas.Option.{slice_get_within}
use Rattle.std.proofs.Math.Nat.{le-max_right}
use Rattle.std.proofs.Math.Seq.{drop-cons, drop-nil}
use Rattle.std.proofs.lemmas.Bool.{cases_lt}
use Rattle.std.proofs.lemmas.List.{append-nil, length-append, length-drop, map-append}
use Rattle.std.proofs.lemmas.List.Elements.{All-cons, All-head, All-map, All-nil, All-push, All-tail, All-weaker, Contains-append_left, Contains-push}
use Rattle.jc_base.specs.declared.ty.Ty.{Ty}
use Rattle.jc_base.specs.declared.ty.Ty.TheVariants as types
use Rattle.jc_base.specs.World.{Linked}
use Rattle.jc_base.proofs.Lists.{slice_get-farther, slice_get-front, slice_get-some}
use Rattle.jc_control.specs.Method.{Method}
use Rattle.law_share.specs.Variable.{AreVariables, no_variables, one_register, two_registers, HasRegister, Interferes, IsWhole}
use Rattle.law_share.specs.Variable.{first_written, second_written, both_live}
use Rattle.law_share.specs.Variable as law
use Rattle.law_share.specs.Sharing.{AreAllotted, none_allotted, more_allotted, FitsBeside, IsLeastFit, IsNumbered, numbered_argument}
use Rattle.law_share.specs.Sharing.{numbered_variable, end_of, fits_after, fits_before, fits_with}
use Rattle.law_share.specs.Sharing as sharing
use Rattle.xf_allot.specs.declared.allotting.Allotment.{Allotment}
use Rattle.xf_allot.specs.declared.fitting.Allotted.{Allotted}
use Rattle.xf_allot.specs.declared.fitting.Variable.{Variable}
use Rattle.xf_allot.specs.Allotting.{AllFit, IsSized, LiesBefore, MeetsOne, given_of, numbers_from, Gives, IsAllottedTo, AreAllottedBy}
use Rattle.xf_allot.specs.Graph.{AreApart, apart_forth, apart_back, apart_first, AreFound}
use Rattle.xf_allot.specs.Variable.{allotted_of, variable_of, IsFirstOf, HasNone}
use Rattle.xf_live.specs.declared.interference.Interference.{Interference}
use Rattle.xf_live.specs.Interference.{Tells}

-- ---- the variable at a register

rest-whole : {x : ℕ} {all : List Ty} {vs : List law.Variable} → AreVariables x all vs → (ty : Ty) (tys : List Ty) → all ≡ ty ∷ tys → IsWhole ty
    → (us : List law.Variable) × AreVariables (x + 1) tys us
rest-whole no_variables ty tys e whole = absurd (cc)
rest-whole {x = x} (one_register {tys = others} {vs = us} _ rest) ty tys e whole = grind (arith)
rest-whole (two_registers {tys = others} rest) ty tys e whole = let high : types.IntHigh ≡ ty = cc in absurd (subst IsWhole (sym high) whole)

pub whole-first : (x : ℕ) (ty : Ty) (tys : List Ty) → IsWhole ty → IsFirstOf x (ty ∷ tys) (record { register = x; width = 1; ty = ty })
whole-first x ty tys whole = record {
  at = refl;
  some = omega arith;
  most = omega arith;
  inside = omega arith;
  front = λ vs are. one_register whole are;
  rest = λ vs are. rest-whole are ty tys refl whole;
}

pub int-first : (x : ℕ) (tys : List Ty) → IsFirstOf x (types.IntHigh ∷ types.IntLow ∷ tys) (record { register = x; width = 2; ty = types.IntHigh })
int-first x tys = record {
  at = refl;
  some = omega arith;
  most = omega arith;
  inside = omega arith;
  front = λ vs are. two_registers are;
  rest = λ vs are. by vs are;
}
  where
    by : (vs : List law.Variable) → AreVariables x (types.IntHigh ∷ types.IntLow ∷ tys) vs → (us : List law.Variable) × AreVariables (x + 2) tys us
    by _ (one_register whole rest) = absurd whole
    by _ (two_registers {vs = us} rest) = (us, rest)

-- a type of no value, and a low half that stands first
pub unwhole-none : (x : ℕ) (ty : Ty) (tys : List Ty) → ¬ (IsWhole ty) → ¬ (ty ≡ types.IntHigh) → HasNone x (ty ∷ tys)
unwhole-none x ty tys none apart x2 x22 = grind (arith)

-- a high half with nothing behind it, or no low half
pub high-none : (x : ℕ) (tys : List Ty) → ((rest : List Ty) → ¬ (tys ≡ types.IntLow ∷ rest)) → HasNone x (types.IntHigh ∷ tys)
high-none x tys none x2 x22 = grind (arith)

-- in registers of these types, where the first of the rest is this one
module _ (tys : List Ty) (x : ℕ) (d : Ty) (lt : x < length tys) where
  here-drop : drop x tys ≡ get_or tys x d ∷ drop (suc x) tys
  here-drop = drop-cons tys x d lt

  pub whole-there : IsWhole (get_or tys x d) → IsFirstOf x (drop x tys) (record { register = x; width = 1; ty = get_or tys x d })
  whole-there whole = grind (arith, whole-first x (get_or tys x d) (drop (suc x) tys) whole, here-drop)

  pub unwhole-there : ¬ (IsWhole (get_or tys x d)) → ¬ (get_or tys x d ≡ types.IntHigh) → HasNone x (drop x tys)
  unwhole-there none apart = subst (HasNone x) (sym here-drop) (unwhole-none x (get_or tys x d) (drop (suc x) tys) none apart)

  high-drop : get_or tys x d ≡ types.IntHigh → drop x tys ≡ types.IntHigh ∷ drop (suc x) tys
  high-drop high = here-drop ∙ ap (λ (t : Ty). t ∷ drop (suc x) tys) high

  pub int-there : get_or tys x d ≡ types.IntHigh → suc x < length tys → get_or tys (suc x) d ≡ types.IntLow
      → IsFirstOf x (drop x tys) (record { register = x; width = 2; ty = types.IntHigh })
  int-there high more low =
      let both : drop x tys ≡ types.IntHigh ∷ types.IntLow ∷ drop (suc (suc x)) tys =
      high-drop high ∙ ap (λ (ts : List Ty). types.IntHigh ∷ ts) (drop-cons tys (suc x) d more ∙ ap (λ (t : Ty). t ∷ drop (suc (suc x)) tys) low) in
      subst (λ (ts : List Ty). IsFirstOf x ts (record { register = x; width = 2; ty = types.IntHigh })) (sym both) (int-first x (drop (suc (suc x)) tys))

  no-low : (ts rest : List Ty) → ts ≡ [] → ¬ (ts ≡ types.IntLow ∷ rest)
  no-low ts rest none e = absurd (cc)

  pub high-alone : get_or tys x d ≡ types.IntHigh → length tys ≤ suc x → HasNone x (drop x tys)
  high-alone high le = grind (arith, high-drop, high-none, drop, suc, no-low, drop_of_length-le)

  first-is : (t u : Ty) (ts us : List Ty) → t ∷ ts ≡ u ∷ us → t ≡ u
  first-is t u ts us e = cc

  pub high-other : get_or tys x d ≡ types.IntHigh → suc x < length tys → ¬ (get_or tys (suc x) d ≡ types.IntLow) → HasNone x (drop x tys)
  high-other high more none = grind (arith, high-drop, high-none, drop, suc, first-is, get_or, drop-cons)

-- ---- interference

module _ (w : Linked) (m : Method) where
  meets-interfere : (k l : law.Variable) (x y : ℕ) → HasRegister k x → HasRegister l y → AreApart w m x y → Interferes w m k l
  meets-interfere k l x y h g (apart_forth c) = first_written h g c
  meets-interfere k l x y h g (apart_back c) = second_written h g c
  meets-interfere k l x y h g (apart_first a b) = both_live h g a b

  pub one-interferes : (k l : law.Variable) (x : ℕ) → HasRegister k x → MeetsOne w m x l → Interferes w m k l
  one-interferes k l x has meets = meets-interfere k l x meets.register has meets.has meets.apart

  -- where none of the registers meets one, they do not
  pub none-interferes : (k l : law.Variable) → ((x : ℕ) → HasRegister k x → ¬ (MeetsOne w m x l)) → ¬ (Interferes w m k l)
  none-interferes k l none (first_written {x = x} {y = y} h g c) = none x h (record { register = y; has = g; apart = apart_forth c })
  none-interferes k l none (second_written {x = x} {y = y} h g c) = none x h (record { register = y; has = g; apart = apart_back c })
  none-interferes k l none (both_live {x = x} {y = y} h g a b) = none x h (record { register = y; has = g; apart = apart_first a b })

  -- ---- what fits

  all-unmap : {A B : Type 0} (P : B → Type 0) (f : A → B) (xs : List A) → All P (map f xs) → All (λ x. P (f x)) xs
  all-unmap P f [] all = All-nil (λ x. P (f x))
  all-unmap P f (x ∷ xs) all = All-cons (λ y. P (f y)) x xs (All-head P (f x) (map f xs) all) (all-unmap P f xs (All-tail P (f x) (map f xs) all))

  pub fits-least :
      (k : Variable) (before : List Allotted) (at : ℕ) → m.rec.nargs ≤ at
      → ((n : ℕ) → m.rec.nargs ≤ n → n < at → ¬ (All (λ other. FitsBeside w m (variable_of k) n (allotted_of other)) before))
      → All (λ other. FitsBeside w m (variable_of k) at (allotted_of other)) before
      → IsLeastFit w m (map allotted_of before) (variable_of k) at
  fits-least k before at from none fits = record {
    fits = record { no_argument = from; beside = All-map (FitsBeside w m (variable_of k) at) allotted_of before fits };
    least = λ n lt fit. none n fit.no_argument lt (all-unmap (FitsBeside w m (variable_of k) n) allotted_of before fit.beside);
  }

  -- behind all that are given out
  pub last-fits : (k : Variable) (before : List Allotted) → All (LiesBefore k.register) before
      → All (λ other. FitsBeside w m (variable_of k) k.register (allotted_of other)) before
  last-fits k before all = grind (arith)

  -- ---- one variable more

  drop-twice : {A : Type 0} (a b : ℕ) (xs : List A) → drop b (drop a xs) ≡ drop (a + b) xs
  drop-twice zero b xs = let e : 0 + b ≡ b = omega arith in ap (λ n. drop n xs) (sym e)
  drop-twice (suc a) b [] = drop-nil b ∙ sym (drop-nil (suc a + b))
  drop-twice (suc a) b (x ∷ xs) = let e : suc a + b ≡ suc (a + b) = omega arith in drop-twice a b xs ∙ sym (ap (λ n. drop n (x ∷ xs)) e)

  abbrev variables_in : List sharing.Allotted → List law.Variable
  variables_in given = map (λ a. a.variable) given

  pub numbers-at : (at width x n : ℕ) → slice_get (numbers_from at width) x ≡ Some n → (x < width) × (n ≡ at + x)
  numbers-at at zero x n e = absurd (cc)
  numbers-at at (suc width) zero n e = (omega arith, (let same : at ≡ n = cc in omega (arith, same)))
  numbers-at at (suc width) (suc x) n e = let r = numbers-at (at + 1) width x n e in let is = r.1 in let lt = r.0 in (omega (arith, lt), omega (arith, is))

  numbers-length : (at width : ℕ) → length (numbers_from at width) ≡ width
  numbers-length at zero = refl
  numbers-length at (suc width) = ap suc (numbers-length (at + 1) width)

  numbered-on : (nargs : ℕ) (given : List sharing.Allotted) (a : sharing.Allotted) (x n : ℕ) → IsNumbered nargs given x n
      → IsNumbered nargs (given ++ a ∷ []) x n
  numbered-on nargs given a x _ (numbered_argument lt) = numbered_argument lt
  numbered-on nargs given a x _ (numbered_variable b there has) = numbered_variable b (Contains-append_left given (a ∷ []) b there) has

  module _ (types : List Ty) (few : length types ≤ 255) (k : Variable) (old new : Allotment) (is : IsAllottedTo w m types old)
      (first : IsFirstOf (length old.numbers.items) (drop (length old.numbers.items) types) k) (gives : Gives w m k old new) where
    abbrev x : ℕ
    x = length old.numbers.items

    abbrev more : sharing.Allotted
    more = record { variable = variable_of k; at = gives.at }

    given-is : given_of new ≡ given_of old ++ more ∷ []
    given-is = ap (map allotted_of) gives.given ∙ map-append allotted_of old.given.items (record { variable = k; at = gives.at } ∷ [])

    long-now : length new.numbers.items ≡ x + k.width
    long-now = ap length gives.numbers ∙ (length-append old.numbers.items (numbers_from gives.at k.width) ∙ ap (λ n. x + n) (numbers-length gives.at k.width))

    behind : drop k.width (drop x types) ≡ drop (x + k.width) types
    behind = drop-twice x k.width types

    inside : x + k.width ≤ length types
    inside = grind (arith, length-drop)

    variables-is : (vs : List law.Variable) → variables_in (given_of new) ++ vs ≡ variables_in (given_of old) ++ variable_of k ∷ vs
    variables-is vs = grind (arith, given-is, map-append, append_assoc)

    given-on : (rest : List sharing.Allotted) → given_of new ++ rest ≡ given_of old ++ more ∷ rest
    given-on rest = ap (λ (gs : List sharing.Allotted). gs ++ rest) given-is ∙ append_assoc (given_of old) (more ∷ []) rest

    its-at : k.register ≡ x
    its-at = first.at

    lies-new : All (LiesBefore (length new.numbers.items)) new.given.items
    lies-new =
        let at = its-at in
        let most = gives.most in
        let some = first.some in
        subst (All (LiesBefore (length new.numbers.items))) (sym gives.given)
        (All-push (LiesBefore (length new.numbers.items)) old.given.items (record { variable = k; at = gives.at })
        (All-weaker (LiesBefore x) (LiesBefore (length new.numbers.items))
        (λ a lies. (let le = lies.given in let e = long-now in record { sized = lies.sized; given = omega (arith, le, e) })) old.given.items is.before)
        (record { sized = sized; given = (let e = long-now in omega (arith, e, most, at)) }))
      where
        sized : IsSized k
        sized = record { some = first.some; most = first.most; inside = (let at = its-at in let le = inside in omega (arith, at, le, few)) }

    some-one : (a b : ℕ) → ◌≡◌ {A = Option ℕ} (Some a) (Some b) → a ≡ b
    some-one a b e = cc

    numbered-new : (y n : ℕ) → slice_get new.numbers.items y ≡ Some n → IsNumbered m.rec.nargs (given_of new) y n
    numbered-new y n there = subst (λ (gs : List sharing.Allotted). IsNumbered m.rec.nargs gs y n) (sym given-is) (elim (cases_lt y x) [
      | inl before ↦
          let v = slice_get-some old.numbers.items y before in
          let same : v.0 ≡ n = some-one v.0 n (sym (slice_get-front old.numbers.items (numbers_from gives.at k.width) y v.0 v.1) ∙ it) in
          numbered-on m.rec.nargs (given_of old) more y n (is.numbered y n (v.1 ∙ ap (λ (a : ℕ). Some a) same))
      | inr behind ↦
          let far = slice_get-farther old.numbers.items (numbers_from gives.at k.width) (y - x) y (omega (arith, behind)) in
          let r = numbers-at gives.at k.width (y - x) n (sym far ∙ it) in
          let lt = r.0 in
          let number = r.1 in
          let at = its-at in
          subst (IsNumbered m.rec.nargs (given_of old ++ more ∷ []) y) (number-same n behind number)
          (numbered_variable more (Contains-push (given_of old) more)
          (record { from = omega (arith, at, behind); before = omega (arith, at, behind, lt) }))
    ])
      where
        it : slice_get (old.numbers.items ++ numbers_from gives.at k.width) y ≡ Some n
        it = ap (λ (ns : List ℕ). slice_get ns y) (sym gives.numbers) ∙ there

        number-same : (n : ℕ) → x ≤ y → n ≡ gives.at + (y - x) → more.at + (y - more.variable.register) ≡ n
        number-same n behind number = let at = its-at in omega (arith, at, behind, number)

    pub allotted-more : IsAllottedTo w m types new
    allotted-more = record {
      from = (let le = is.from in let e = long-now in omega (arith, le, e));
      within = (let le = inside in let e = long-now in omega (arith, le, e));
      before = lies-new;
      variables = λ vs are.
          subst (AreVariables m.rec.nargs (drop m.rec.nargs types)) (sym (variables-is vs))
          (is.variables (variable_of k ∷ vs) (first.front vs
          (subst (λ (tys : List Ty). AreVariables (x + k.width) tys vs) (sym behind)
          (subst (λ n. AreVariables n (drop n types) vs) long-now are))));
      rest = λ vs are. rest-new (is.rest vs are);
      allotted = λ ks rest are.
          subst (λ (us : List law.Variable). AreAllotted w m [] us (given_of new ++ rest)) (sym (variables-is ks))
          (subst (AreAllotted w m [] (variables_in (given_of old) ++ variable_of k ∷ ks)) (sym (given-on rest))
          (is.allotted (variable_of k ∷ ks) (more ∷ rest) (more_allotted (variable_of k) gives.at gives.least
          (subst (λ (gs : List sharing.Allotted). AreAllotted w m gs ks rest) given-is are))));
      numbered = numbered-new;
    }
      where
        rest-new : ((us : List law.Variable) × AreVariables x (drop x types) us)
            → (us : List law.Variable) × AreVariables (length new.numbers.items) (drop (length new.numbers.items) types) us
        rest-new before =
            let r = first.rest before.0 before.1 in (
              r.0,
              subst (λ n. AreVariables n (drop n types) r.0) (sym long-now)
                  (subst (λ (tys : List Ty). AreVariables (x + k.width) tys r.0) behind r.1),
            )

  -- ---- the first and the last

  pub allotted-none :
      (types : List Ty) (s : Allotment) → m.rec.nargs ≤ length types → s.given.items ≡ [] → length s.numbers.items ≡ m.rec.nargs
      → ((x n : ℕ) → slice_get s.numbers.items x ≡ Some n → n ≡ x) → IsAllottedTo w m types s
  allotted-none types s le empty count same = record {
    from = omega (arith, count);
    within = omega (arith, count, le);
    before = subst (All (LiesBefore (length s.numbers.items))) (sym empty) (All-nil (LiesBefore (length s.numbers.items)));
    variables = λ vs are.
        subst (λ (gs : List Allotted). AreVariables m.rec.nargs (drop m.rec.nargs types) (variables_in (map allotted_of gs) ++ vs)) (sym empty)
        (subst (λ n. AreVariables n (drop n types) vs) count are);
    rest = λ vs are. (vs, subst (λ n. AreVariables n (drop n types) vs) (sym count) are);
    allotted = λ ks more are.
        subst (λ (gs : List Allotted). AreAllotted w m [] (variables_in (map allotted_of gs) ++ ks) (map allotted_of gs ++ more)) (sym empty)
        (subst (λ (gs : List Allotted). AreAllotted w m (map allotted_of gs) ks more) empty are);
    numbered = λ x n there.
        subst (IsNumbered m.rec.nargs (given_of s) x) (sym (same x n there))
        (numbered_argument (let lt = slice_get_within s.numbers.items x n there in omega (arith, lt, count)));
  }

  pub allotted-all : (types : List Ty) (s : Allotment) → length types ≤ length s.numbers.items → IsAllottedTo w m types s → AreAllottedBy w m types s
  allotted-all types s ge is =
      let le = is.within in
      let count : length s.numbers.items ≡ length types = omega (arith, ge, le) in
      let none : drop (length s.numbers.items) types ≡ [] = drop_of_length-le types ge in
      record {
        variables = variables_in (given_of s);
        are =
            subst (AreVariables m.rec.nargs (drop m.rec.nargs types)) (append-nil (variables_in (given_of s)))
            (is.variables [] (subst (λ (tys : List Ty). AreVariables (length s.numbers.items) tys []) (sym none) no_variables));
        allotted =
            subst (λ (ks : List law.Variable). AreAllotted w m [] ks (given_of s)) (append-nil (variables_in (given_of s)))
            (subst (AreAllotted w m [] (variables_in (given_of s) ++ [])) (append-nil (given_of s)) (is.allotted [] [] none_allotted));
        count = count;
        before = subst (λ n. All (LiesBefore n) s.given.items) count is.before;
        numbered = is.numbered;
      }

-- ---- what is found of two registers

module _ (w : Linked) (m : Method) (found : Interference) (are : AreFound w m found) where
  pub found-here : (k : law.Variable) (x y : ℕ) → x < 256 → y < 256 → k.register ≤ y → y < k.register + k.width → Tells found x y → MeetsOne w m x k
  found-here k x y lx ly from before tells =
      record { register = y; has = record { from = from; before = before }; apart = (are x y lx ly).0 tells }

  pub none-more : (first x y : ℕ) → x < 256 → y < 256 → ((n : ℕ) → first ≤ n → n < y → ¬ (AreApart w m x n)) → ¬ (Tells found x y)
      → (n : ℕ) → first ≤ n → n < y + 1 → ¬ (AreApart w m x n)
  none-more first x y lx ly none not n from lt apart = elim (cases_lt n y) [
    | inl before ↦ none n from before apart
    | inr ge ↦
        let same : n ≡ y = omega (arith, ge, lt) in
        not ((are x y lx ly).1 (subst (AreApart w m x) same apart))
  ]

  pub none-found : (k : law.Variable) (x y : ℕ) → k.register + k.width ≤ y → ((n : ℕ) → k.register ≤ n → n < y → ¬ (AreApart w m x n)) → ¬ (MeetsOne w m x k)
  none-found k x y end none meets =
      let from = meets.has.from in
      let before = meets.has.before in
      none meets.register from (omega (arith, before, end)) meets.apart

-- the next register meets none either
pub meets-more : (w : Linked) (m : Method) (k : law.Variable) (first x : ℕ) → ((n : ℕ) → first ≤ n → n < x → ¬ (MeetsOne w m n k)) → ¬ (MeetsOne w m x k)
    → (n : ℕ) → first ≤ n → n < x + 1 → ¬ (MeetsOne w m n k)
meets-more w m k first x none not n from lt meets = grind (arith, cases_lt n x)

-- so no registers of both do
pub none-meet : (w : Linked) (m : Method) (j k : law.Variable) (x : ℕ) → j.register + j.width ≤ x
    → ((n : ℕ) → j.register ≤ n → n < x → ¬ (MeetsOne w m n k)) → ¬ (Interferes w m j k)
none-meet w m j k x end none =
    none-interferes w m j k (λ y has meets. (let before = has.before in none y has.from (omega (arith, before, end)) meets))

-- the next registers do not fit either
pub unfit-more : (w : Linked) (m : Method) (k : Variable) (before : List Allotted) (first at : ℕ)
    → ((n : ℕ) → first ≤ n → n < at → ¬ (AllFit w m k n before)) → ¬ (AllFit w m k at before) → (n : ℕ) → first ≤ n → n < at + 1 → ¬ (AllFit w m k n before)
unfit-more w m k before first at none not n from lt fits = elim (cases_lt n at) [
  | inl earlier ↦ none n from earlier fits
  | inr ge ↦
      let same : n ≡ at = omega (arith, ge, lt) in
      not (subst (λ y. AllFit w m k y before) same fits)
]

-- ---- fitting beside one

pub unfit : (w : Linked) (m : Method) (k : Variable) (at : ℕ) (a : Allotted) → ¬ (a.at + a.variable.width ≤ at) → ¬ (at + k.width ≤ a.at)
    → ((a.at ≡ at) → (a.variable.width ≡ k.width) → (a.variable.ty ≡ k.ty) → ¬ (Interferes w m (variable_of a.variable) (variable_of k)) → ⊥)
    → ¬ (FitsBeside w m (variable_of k) at (allotted_of a))
unfit w m k at a after before same (fits_after le) = after le
unfit w m k at a after before same (fits_before le) = before le
unfit w m k at a after before same (fits_with here width ty apart) = same here width ty apart

-- ---- where they end

pub end-from : (nargs : ℕ) (given : List sharing.Allotted) → nargs ≤ end_of nargs given
end-from nargs [] = omega arith
end-from nargs (a ∷ given) = grind (arith, le-max_right, end-from nargs given)

pub fits-decided : (w : Linked) (m : Method) (k : Variable) (at : ℕ) (a : Allotted) (b : Bool) → ¬ (a.at + a.variable.width ≤ at) → ¬ (at + k.width ≤ a.at)
    → a.at ≡ at → a.variable.width ≡ k.width → a.variable.ty ≡ k.ty
    → MatchBool b (Interferes w m (variable_of a.variable) (variable_of k)) (¬ (Interferes w m (variable_of a.variable) (variable_of k)))
    → MatchBool (not b) (FitsBeside w m (variable_of k) at (allotted_of a)) (¬ (FitsBeside w m (variable_of k) at (allotted_of a)))
fits-decided w m k at a true after before here width ty h = unfit w m k at a after before (λ _ _ _ apart. apart h)
fits-decided w m k at a false after before here width ty h = fits_with here width ty h

-- numbers are added
pub numbers-more : (xs : List ℕ) (at width : ℕ) → 1 ≤ width → length xs < length (xs ++ numbers_from at width)
numbers-more xs at zero some = absurd (omega (arith, some))
numbers-more xs at (suc n) some = let long = length-append xs (numbers_from at (suc n)) in omega (arith, long)
