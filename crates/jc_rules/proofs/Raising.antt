-- Raising the cells of a list, one after another, to the join with those of another list.
use Rattle.std.proofs.Common.{◌≡◌, ℕ, zero, suc, ◌+◌, ◌<◌, ◌≤◌, ◌||◌, if◌then◌else◌, Bool, true, false, ◌⊎◌, inl, inr}
use Rattle.std.proofs.Common.{List, [], ◌∷◌, ◌++◌, length, reverse, get_or, set, All, sum_by, refl, sym, ◌∙◌, ap, subst, arith, MatchBool}
use Rattle.std.proofs.lemmas.List.{length-set, reverse-append, get_or-set_same, get_or-set_other, get_or_default}
use Rattle.std.proofs.lemmas.List.Elements.{All-set}
use Rattle.std.proofs.lemmas.List.Sorted.{IsPermutation-reverse, sum_by-IsPermutation}
use Rattle.std.proofs.lemmas.List.Sums.{sum_by-set}
use Rattle.jc_base.specs.declared.ty.Ty.{Ty}
use Rattle.jc_base.specs.declared.ty.Ty.TheVariants.{Top}
use Rattle.jc_base.specs.Class.{ClassTable}
use Rattle.jc_base.proofs.Lists.{All-reverse, All-turned}
use Rattle.jc_base.specs.Order.{Below, same, anything, IsJoin, IsKnown, StaysOrRises, rises_left}
use Rattle.jc_rules.specs.declared.state.Merged.TheVariants.{Same, Risen}
use Rattle.jc_rules.specs.Flow.{CellsJoin, none_joined, more_joined, IsNotTop}
use Rattle.jc_rules.specs.Typing.{Clashes, cells, IsMerged}

-- whether any rose
abbrev pub RoseTo : ClassTable → List Ty → List Ty → Bool → Type 0
RoseTo t old now b = MatchBool b (sum_by (rises_left t) now < sum_by (rises_left t) old) (now ≡ old)

-- the first n cells are joined, and those after are as they were
pub record RaisedTo (t : ClassTable) (old others : List Ty) (n : ℕ) (now : List Ty) (rises : Bool) : Type 0 where
  pub count : length now ≡ length old
  pub known : All (IsKnown t) now
  pub joined : (k : ℕ) → k < n → IsJoin t (get_or old k Top) (get_or others k Top) (get_or now k Top)
  pub farther : (k : ℕ) → n ≤ k → get_or now k Top ≡ get_or old k Top
  pub rose : RoseTo t old now rises

pub CellsJoin-by_index : (t : ClassTable) (xs ys js : List Ty) → length xs ≡ length ys → length js ≡ length xs
    → ((k : ℕ) → k < length xs → IsJoin t (get_or xs k Top) (get_or ys k Top) (get_or js k Top)) → CellsJoin t xs ys js
CellsJoin-by_index t [] [] [] e d h = none_joined
CellsJoin-by_index t [] [] (j ∷ js) e d h = absurd (omega arith)
CellsJoin-by_index t [] (y ∷ ys) js e d h = absurd (omega arith)
CellsJoin-by_index t (x ∷ xs) [] js e d h = absurd (omega arith)
CellsJoin-by_index t (x ∷ xs) (y ∷ ys) [] e d h = absurd (omega arith)
CellsJoin-by_index t (x ∷ xs) (y ∷ ys) (j ∷ js) e d h =
    more_joined (h 0 (omega arith)) (CellsJoin-by_index t xs ys js (omega arith) (omega arith) (λ k lt. h (suc k) (omega arith)))

split_last : (k n : ℕ) → k < n + 1 → (k < n) ⊎ (k ≡ n)
split_last zero zero h = inr refl
split_last zero (suc n) h = inl (omega arith)
split_last (suc k) zero h = absurd (omega arith)
split_last (suc k) (suc n) h = suc_cases (split_last k n (omega arith))
  where
    suc_cases : (k < n) ⊎ (k ≡ n) → (suc k < suc n) ⊎ (suc k ≡ suc n)
    suc_cases (inl lt) = inl (omega arith)
    suc_cases (inr e) = inr (ap suc e)

module _ (t : ClassTable) (old others : List Ty) (n : ℕ) (now : List Ty) (b : Bool) (r : RaisedTo t old others n now b) (lt : n < length others)
    (len : length old ≡ length others) where
  private_held : (a : Ty) → a ≡ get_or now n a → a ≡ get_or old n Top
  private_held a e = e ∙ get_or_default now n a Top (omega (arith, r.count)) ∙ r.farther n (omega arith)

  private_join : (a d j : Ty) → a ≡ get_or now n a → IsJoin t a (get_or others n d) j → IsJoin t (get_or old n Top) (get_or others n Top) j
  private_join a d j e is = grind (arith, get_or, private_held, get_or_default)

  -- the next cell stays
  pub raised_same : (a d : Ty) → a ≡ get_or now n a → IsJoin t a (get_or others n d) a → RaisedTo t old others (n + 1) now b
  raised_same a d e is = record {
    count = r.count;
    known = r.known;
    joined = λ k less. elim (split_last k n less) [
      | inl before ↦ r.joined k before
      | inr here ↦ subst (λ m. IsJoin t (get_or old m Top) (get_or others m Top) (get_or now m Top)) (sym here)
          (subst (IsJoin t (get_or old n Top) (get_or others n Top)) (e ∙ get_or_default now n a Top (omega (arith, r.count))) (private_join a d a e is))
    ];
    farther = λ k le. r.farther k (omega arith);
    rose = r.rose;
  }

  private_less : (b : Bool) → RoseTo t old now b → (j : Ty) → rises_left t j < rises_left t (get_or now n Top)
      → sum_by (rises_left t) (set now n j) < sum_by (rises_left t) old
  private_less true h j less = let e = sum_by-set (rises_left t) now n j Top (omega (arith, r.count)) in omega arith
  private_less false h j less =
      let e = sum_by-set (rises_left t) now n j Top (omega (arith, r.count)) in let f : sum_by (rises_left t) now ≡ sum_by (rises_left t) old = ap
      (sum_by (rises_left t)) h in omega arith

  -- the next cell rises
  pub raised_next : (a d j : Ty) → a ≡ get_or now n a → IsJoin t a (get_or others n d) j → IsKnown t j → rises_left t j < rises_left t a
      → RaisedTo t old others (n + 1) (set now n j) true
  raised_next a d j e is known less = record {
    count = length-set now n j ∙ r.count;
    known = All-set (IsKnown t) now n j known r.known;
    joined = λ k lower. elim (split_last k n lower) [
      | inl before ↦ subst (IsJoin t (get_or old k Top) (get_or others k Top)) (sym (get_or-set_other now n k j Top (λ same. absurd (omega arith))))
          (r.joined k before)
      | inr here ↦ subst (λ m. IsJoin t (get_or old m Top) (get_or others m Top) (get_or (set now n j) m Top)) (sym here)
          (subst (IsJoin t (get_or old n Top) (get_or others n Top)) (sym (get_or-set_same now n j Top (omega (arith, r.count)))) (private_join a d j e is))
    ];
    farther = λ k le. get_or-set_other now n k j Top (λ same. absurd (omega arith)) ∙ r.farther k (omega arith);
    rose = private_less b r.rose j (subst (λ x. rises_left t j < rises_left t x) (e ∙ get_or_default now n a Top (omega (arith, r.count))) less);
  }

-- all cells are joined
pub raised_all : (t : ClassTable) (old others : List Ty) (n : ℕ) (now : List Ty) (b : Bool) → RaisedTo t old others n now b → length others ≤ n
    → length old ≡ length others → CellsJoin t old others now
raised_all t old others n now b r le len = CellsJoin-by_index t old others now len r.count (λ k lt. r.joined k (omega arith))

CellsJoin-append : (t : ClassTable) {xs ys js us vs ks : List Ty} → CellsJoin t xs ys js → CellsJoin t us vs ks
    → CellsJoin t (xs ++ us) (ys ++ vs) (js ++ ks)
CellsJoin-append t none_joined q = q
CellsJoin-append t (more_joined h p) q = more_joined h (CellsJoin-append t p q)

pub CellsJoin-reverse : (t : ClassTable) {xs ys js : List Ty} → CellsJoin t xs ys js → CellsJoin t (reverse xs) (reverse ys) (reverse js)
CellsJoin-reverse t none_joined = none_joined
CellsJoin-reverse t (more_joined {a} {b} {j} {xs} {ys} {js} h p) =
    let turned : CellsJoin t (reverse xs ++ a ∷ []) (reverse ys ++ b ∷ []) (reverse js ++ j ∷ []) = CellsJoin-append t (CellsJoin-reverse t p)
    (more_joined h none_joined) in
    subst (λ us. CellsJoin t us (reverse (b ∷ ys)) (reverse (j ∷ js))) (sym (reverse-append (a ∷ []) xs))
    (subst (λ us. CellsJoin t (reverse xs ++ a ∷ []) us (reverse (j ∷ js))) (sym (reverse-append (b ∷ []) ys))
    (subst (CellsJoin t (reverse xs ++ a ∷ []) (reverse ys ++ b ∷ [])) (sym (reverse-append (j ∷ []) js)) turned))

sum_by-reverse : (f : Ty → ℕ) (xs : List Ty) → sum_by f (reverse xs) ≡ sum_by f xs
sum_by-reverse f xs = sum_by-IsPermutation f xs (reverse xs) (IsPermutation-reverse xs)

-- a cell's join is Top
pub clash_cells : (t : ClassTable) (regs others old stack joined : List Ty) → CellsJoin t old stack joined → ¬ (All IsNotTop joined)
    → Clashes t (record { regs = regs; stack = reverse old }) (record { regs = others; stack = reverse stack })
clash_cells t regs others old stack joined j n = cells (CellsJoin-reverse t j) (λ all. n (All-turned IsNotTop joined all))

module _ (t : ClassTable) (regs other_regs new_regs stack other_stack new_stack : List Ty) (rj : CellsJoin t regs other_regs new_regs)
    (sj : CellsJoin t stack other_stack new_stack) (none : All IsNotTop new_stack) where
  -- both parts are joined
  pub merged : (s r : Bool) → RoseTo t stack new_stack s → RoseTo t regs new_regs r → IsMerged t (record { regs = regs; stack = reverse stack })
      (record { regs = other_regs; stack = reverse other_stack }) (record { regs = new_regs; stack = reverse new_stack }) (if s || r then Risen else Same)
  merged true r hs hr = (
    record { regs = rj; stack = CellsJoin-reverse t sj; no_top = All-reverse IsNotTop new_stack none },
    fewer r hr,
  )
    where
      fewer : (r : Bool) → RoseTo t regs new_regs r → sum_by (rises_left t) new_regs + sum_by (rises_left t) (reverse new_stack) < sum_by (rises_left t)
          regs + sum_by (rises_left t) (reverse stack)
      fewer true h = omega (arith, sum_by-reverse (rises_left t) new_stack, sum_by-reverse (rises_left t) stack, hs)
      fewer false h = omega (arith, sum_by-reverse (rises_left t) new_stack, sum_by-reverse (rises_left t) stack, hs, ap (sum_by (rises_left t)) h)
  merged false true hs hr = (
    record { regs = rj; stack = CellsJoin-reverse t sj; no_top = All-reverse IsNotTop new_stack none },
    omega (arith, hr, ap (λ xs. sum_by (rises_left t) (reverse xs)) hs),
  )
  merged false false hs hr = (
    record {
      regs = subst (CellsJoin t regs other_regs) hr rj;
      stack = CellsJoin-reverse t (subst (CellsJoin t stack other_stack) hs sj);
      no_top = All-reverse IsNotTop stack (subst (All IsNotTop) hs none);
    },
    cc,
  )

-- where one of two types is above the other, it is their join
pub join-over : (t : ClassTable) (a b : Ty) → Below t a b → IsJoin t a b b
join-over t a b below = record { left = below; right = same; least = λ u p q. q }

-- what is not other than Top is above each type
pub top-above : (t : ClassTable) (a b : Ty) → ¬ (IsNotTop a) → Below t b a
top-above t Top b h = anything
top-above t _ b h = absurd (h tt)

-- a type above another has fewer rises left, where they are not the same
pub rises-above : (t : ClassTable) (a b : Ty) → StaysOrRises t a b → ¬ (b ≡ a) → rises_left t b < rises_left t a
rises-above t a b u n = grind (arith)
