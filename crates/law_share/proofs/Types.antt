-- The types of the registers that variables share.
use Rattle.std.proofs.Common.{◌≡◌, ℕ, zero, suc, ◌+◌, ◌-◌, ◌<◌, ◌≤◌, ◌⊎◌, inl, inr, ⊎_elim, List, [], ◌∷◌, ◌++◌, length}
use Rattle.std.proofs.Common.{refl, ap, ◌∙◌, subst, arith, All, set}
use Rattle.std.specs.Prelude.{Some, Contains, slice_get}
use Rattle.std.proofs.lemmas.List.{length-set, get_or-set_same, get_or-set_other}
use Rattle.std.proofs.lemmas.List.Elements.{All-contains, All-set, Contains-append_left, Contains-push, Contains-push_cases}
use Rattle.jc_base.specs.declared.ty.Ty.{Ty}
use Rattle.jc_base.specs.declared.ty.Ty.TheVariants.{IntHigh, IntLow}
use Rattle.jc_base.specs.Each.{IsAmong}
use Rattle.jc_base.specs.World.{Linked}
use Rattle.jc_control.specs.Method.{Method}
use Rattle.jc_rules.specs.Effect.{reg}
use Rattle.law_share.specs.Variable.{Variable, IsWhole, AreVariables, no_variables, one_register, two_registers, HasRegister}
use Rattle.law_share.specs.Sharing.{Allotted, FitsBeside, fits_after, fits_before, fits_with}
use Rattle.law_share.specs.Sharing.{AreAllotted, none_allotted, more_allotted, end_of}

-- ---- variables and their types

-- a variable has one register, or two for an int
pub data IsProper : Variable → Type 0 where
  proper_one : {x : ℕ} {ty : Ty} → IsWhole ty → IsProper (record { register = x; width = 1; ty = ty })
  proper_int : {x : ℕ} → IsProper (record { register = x; width = 2; ty = IntHigh })

pub all-proper : {x : ℕ} {tys : List Ty} {ks : List Variable} → AreVariables x tys ks → (k : Variable) → IsAmong k ks → IsProper k
all-proper no_variables k among = absurd among
all-proper (one_register whole rest) k (inl here) = subst IsProper here (proper_one whole)
all-proper (one_register whole rest) k (inr later) = all-proper rest k later
all-proper (two_registers rest) k (inl here) = subst IsProper here proper_int
all-proper (two_registers rest) k (inr later) = all-proper rest k later

-- the type of a register of a variable
abbrev pub type_in : Variable → ℕ → Ty
type_in k zero = k.ty
type_in k (suc n) = IntLow

one-first : (n : ℕ) (x : ℕ) (ty : Ty) (tys : List Ty) → n ≡ 0
    → slice_get (ty ∷ tys) n ≡ Some (type_in (record { register = x; width = 1; ty = ty }) n)
one-first zero x ty tys e = refl
one-first (suc n) x ty tys e = absurd (omega (arith, e))

two-first : (n : ℕ) (x : ℕ) (tys : List Ty) → n < 2
    → slice_get (IntHigh ∷ IntLow ∷ tys) n ≡ Some (type_in (record { register = x; width = 2; ty = IntHigh }) n)
two-first zero x tys lt = refl
two-first (suc zero) x tys lt = refl
two-first (suc (suc n)) x tys lt = absurd (omega (arith, lt))

one-there : (x y : ℕ) (ty : Ty) → HasRegister (record { register = x; width = 1; ty = ty }) y → y - x ≡ 0
one-there x y ty has = let a = has.from in let b = has.before in omega (arith, a, b)

two-there : (x y : ℕ) → HasRegister (record { register = x; width = 2; ty = IntHigh }) y → y - x < 2
two-there x y has = let a = has.from in let b = has.before in omega (arith, a, b)

pub variable-type : {x : ℕ} {tys : List Ty} {ks : List Variable} → AreVariables x tys ks → (k : Variable) → IsAmong k ks → (y : ℕ) → HasRegister k y
    → (x ≤ k.register) × (slice_get tys (y - x) ≡ Some (type_in k (y - k.register)))
variable-type no_variables k among y has = absurd among
variable-type (one_register {x = x} {ty = ty} {tys = tys} whole rest) k (inl here) y has = grind (arith, one-first, one-there)
variable-type (one_register {x = x} {ty = ty} {tys = tys} whole rest) k (inr later) y has =
    let r = variable-type rest k later y has in
    let le = r.0 in
    let from = has.from in
    let next : y - x ≡ suc (y - (x + 1)) = omega (arith, le, from) in
    (omega (arith, le), ap (slice_get (ty ∷ tys)) next ∙ r.1)
variable-type (two_registers {x = x} {tys = tys} rest) k (inl here) y has = grind (arith, two-first, two-there)
variable-type (two_registers {x = x} {tys = tys} rest) k (inr later) y has =
    let r = variable-type rest k later y has in
    let le = r.0 in
    let from = has.from in
    let next : y - x ≡ suc (suc (y - (x + 2))) = omega (arith, le, from) in
    (omega (arith, le), ap (slice_get (IntHigh ∷ IntLow ∷ tys)) next ∙ r.1)

-- ---- registers with the types of what they are given to

abbrev pub typed_at : Ty → ℕ → List Ty → List Ty
typed_at IntHigh at tys = set (set tys at IntHigh) (at + 1) IntLow
typed_at ty at tys = set tys at ty

abbrev pub types_in : List Allotted → List Ty → List Ty
types_in [] tys = tys
types_in (a ∷ given) tys = types_in given (typed_at a.variable.ty a.at tys)

typed-whole : (ty : Ty) (at : ℕ) (tys : List Ty) → IsWhole ty → typed_at ty at tys ≡ set tys at ty
typed-whole IntHigh at tys whole = absurd whole
typed-whole _ at tys whole = refl

typed-length : (ty : Ty) (at : ℕ) (tys : List Ty) → length (typed_at ty at tys) ≡ length tys
typed-length IntHigh at tys = length-set (set tys at IntHigh) (at + 1) IntLow ∙ length-set tys at IntHigh
typed-length ty at tys = length-set tys at ty

pub types-length : (given : List Allotted) (tys : List Ty) → length (types_in given tys) ≡ length tys
types-length [] tys = refl
types-length (a ∷ given) tys = types-length given (typed_at a.variable.ty a.at tys) ∙ typed-length a.variable.ty a.at tys

-- registers beside those of the variable are as before
untouched : (k : Variable) (at : ℕ) (tys : List Ty) (y : ℕ) → IsProper k → (y < at) ⊎ (at + k.width ≤ y) → reg (typed_at k.ty at tys) y ≡ reg tys y
untouched _ at tys y (proper_one {ty = ty} whole) out = grind (arith, typed-whole, get_or-set_other, ⊎_elim)
untouched _ at tys y proper_int out = grind (arith, get_or-set_other, ⊎_elim)

-- the registers have the types of the variable
pub record HoldsTypes (tys : List Ty) (a : Allotted) : Type 0 where
  pub first : reg tys a.at ≡ a.variable.ty
  pub second : a.variable.width ≡ 2 → reg tys (a.at + 1) ≡ IntLow

put-holds : (k : Variable) (at : ℕ) (tys : List Ty) → IsProper k → at + k.width ≤ length tys
    → HoldsTypes (typed_at k.ty at tys) (record { variable = k; at = at })
put-holds _ at tys (proper_one {ty = ty} whole) le = grind (arith, typed-whole, get_or-set_same)
put-holds _ at tys proper_int le = grind (arith, length-set, get_or-set_other, get_or-set_same)

pub width-most : (k : Variable) → IsProper k → (1 ≤ k.width) × (k.width ≤ 2)
width-most _ (proper_one whole) = (omega arith, omega arith)
width-most _ proper_int = (omega arith, omega arith)

module _ (w : Linked) (m : Method) where
  put-keeps : (k : Variable) (at : ℕ) (b : Allotted) (tys : List Ty) → IsProper k → IsProper b.variable → at + k.width ≤ length tys
      → FitsBeside w m k at b → HoldsTypes tys b → HoldsTypes (typed_at k.ty at tys) b
  put-keeps k at b tys proper also le (fits_after out) h = grind (arith, width-most, untouched)
  put-keeps k at b tys proper also le (fits_before out) h = grind (arith, untouched)
  put-keeps k at b tys proper also le (fits_with same width ty apart) h = grind (arith, put-holds k at tys proper le)

  -- ---- all of them

  abbrev AllHold : List Allotted → List Ty → Type 0
  AllHold before tys = (b : Allotted) → Contains before b → IsProper b.variable × HoldsTypes tys b

  pub all-hold :
      (nargs : ℕ) {before given : List Allotted} {ks : List Variable} → AreAllotted w m before ks given → (tys : List Ty)
      → ((k : Variable) → IsAmong k ks → IsProper k) → end_of nargs given ≤ length tys → AllHold before tys
      → (a : Allotted) → Contains before a ⊎ IsAmong a given → HoldsTypes (types_in given tys) a
  all-hold nargs none_allotted tys proper le all a (inl listed) = (all a listed).1
  all-hold nargs none_allotted tys proper le all a (inr among) = absurd among
  all-hold nargs (more_allotted k at {before = before} {given = given} fit rest) tys proper le all a where_ =
      let new : Allotted = record { variable = k; at = at } in
      let its = proper k (inl refl) in
      let fits : at + k.width ≤ length tys = omega (arith, le) in
      let long = typed-length k.ty at tys in
      all-hold nargs rest (typed_at k.ty at tys) (λ l among. proper l (inr among)) (omega (arith, le, long))
      (λ b listed. ⊎_elim
      (λ old. ((all b old).0, put-keeps k at b tys its (all b old).0 fits (All-contains (FitsBeside w m k at) before b fit.fits.beside old) (all b old).1))
      (λ now. subst (λ (c : Allotted). IsProper c.variable × HoldsTypes (typed_at k.ty at tys) c) now (its, put-holds k at tys its fits))
      (Contains-push_cases before new b listed)) a
      (⊎_elim (λ listed. inl (Contains-append_left before (new ∷ []) a listed))
      (λ among. ⊎_elim (λ here. inl (subst (Contains (before ++ new ∷ [])) here (Contains-push before new))) (λ later. inr later) among) where_)

  -- registers before all that are given out
  pub low-untouched :
      (nargs : ℕ) {before given : List Allotted} {ks : List Variable} → AreAllotted w m before ks given → (tys : List Ty)
      → ((k : Variable) → IsAmong k ks → IsProper k) → ((a : Allotted) → IsAmong a given → nargs ≤ a.at) → (y : ℕ) → y < nargs
      → reg (types_in given tys) y ≡ reg tys y
  low-untouched nargs none_allotted tys proper from y lt = refl
  low-untouched nargs (more_allotted k at fit rest) tys proper from y lt =
      let le = from (record { variable = k; at = at }) (inl refl) in
      low-untouched nargs rest (typed_at k.ty at tys) (λ l among. proper l (inr among)) (λ a among. from a (inr among)) y lt
      ∙ untouched k at tys y (proper k (inl refl)) (inl (omega (arith, le, lt)))

-- what holds of the types of variables and of the halves of an int holds of all
pub types-all : (P : Ty → Type 0) → P IntHigh → P IntLow → (given : List Allotted) (tys : List Ty)
    → ((a : Allotted) → IsAmong a given → P a.variable.ty) → All P tys → All P (types_in given tys)
types-all P high low [] tys each all = all
types-all P high low (a ∷ given) tys each all =
    types-all P high low given (typed_at a.variable.ty a.at tys) (λ b among. each b (inr among)) (put a.variable.ty (each a (inl refl)))
  where
    put : (ty : Ty) → P ty → All P (typed_at ty a.at tys)
    put IntHigh is = All-set P (set tys a.at IntHigh) (a.at + 1) IntLow low (All-set P tys a.at IntHigh high all)
    put ty is = All-set P tys a.at ty is all
