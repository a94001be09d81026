-- Registers that variables share: there is one way, and it keeps apart what has to be.
use Rattle.std.proofs.Common.{◌≡◌, ℕ, ◌+◌, ◌-◌, ◌<◌, ◌≤◌, ◌⊎◌, inl, inr, ⊎_elim, max, List, [], ◌∷◌, ◌++◌, length, drop, refl, sym, ap}
use Rattle.std.proofs.Common.{◌∙◌, subst, arith, All}
use Rattle.std.specs.Prelude.{Contains}
use Rattle.std.proofs.lemmas.Bool.{cases_lt}
use Rattle.std.proofs.lemmas.List.Elements.{All-nil, All-contains, All-push, All-weaker, Contains-append_left, Contains-push}
use Rattle.jc_base.specs.declared.ty.Ty.{Ty}
use Rattle.jc_base.specs.declared.ty.Ty.TheVariants.{IntHigh}
use Rattle.jc_base.specs.Each.{IsAmong}
use Rattle.jc_base.specs.World.{Linked}
use Rattle.jc_base.proofs.Eaching.{Contains-from_IsAmong, IsAmong-from_Contains}
use Rattle.jc_decode.specs.declared.insn.Placed.{Placed}
use Rattle.jc_control.specs.Method.{Method}
use Rattle.jc_ops.specs.declared.operation.Operation.{Operation}
use Rattle.jc_rules.specs.FlowLaws.{IsOrderOfCells}
use Rattle.card_typing.specs.Typing.{IsLeastCardTyping}
use Rattle.law_share.specs.Live.{Operates, Writes, MayLeadTo, IsLiveAt}
use Rattle.law_share.specs.Variable.{Variable, AreVariables, no_variables, one_register, two_registers}
use Rattle.law_share.specs.Variable.{HasRegister, Clash, Interferes, first_written}
use Rattle.law_share.specs.Variable.{second_written}
use Rattle.law_share.specs.Sharing.{Allotted, FitsBeside, fits_after, fits_before, fits_with}
use Rattle.law_share.specs.Sharing.{IsLeastFit, AreAllotted, none_allotted, more_allotted}
use Rattle.law_share.specs.Sharing.{IsNumbered, numbered_argument, numbered_variable, end_of}
use Rattle.law_share.specs.Laws.{VariablesAreOne, AllotmentIsOne, MethodsShareInOneWay, SharingOrKept, HasNumber, RegistersHaveNumbers}
use Rattle.law_share.specs.Laws.{RegistersAreNoMore, WrittenStayApart}

-- ---- one way

pub variables-are-one : VariablesAreOne
variables-are-one x _ _ _ no_variables no_variables = refl
variables-are-one x _ _ _ (one_register {ty = ty} {tys = tys} {vs = vs} whole a) (one_register {vs = us} again b) =
    ap (λ (rest : List Variable). record { register = x; width = 1; ty = ty } ∷ rest) (variables-are-one (x + 1) tys vs us a b)
variables-are-one x _ _ _ (one_register whole a) (two_registers b) = absurd whole
variables-are-one x _ _ _ (two_registers a) (one_register whole b) = absurd whole
variables-are-one x _ _ _ (two_registers {tys = tys} {vs = vs} a) (two_registers {vs = us} b) =
    ap (λ (rest : List Variable). record { register = x; width = 2; ty = IntHigh } ∷ rest) (variables-are-one (x + 2) tys vs us a b)

least-one : (w : Linked) (m : Method) (before : List Allotted) (k : Variable) (a b : ℕ) → IsLeastFit w m before k a → IsLeastFit w m before k b → a ≡ b
least-one w m before k a b f g = elim (cases_lt a b) [
  | inl lt ↦ absurd (g.least a lt f.fits)
  | inr ge ↦ elim (cases_lt b a) [
    | inl lt ↦ absurd (f.least b lt g.fits)
    | inr also ↦ omega (arith, ge, also)
  ]
]

allotted-one : (w : Linked) (m : Method) {before : List Allotted} {ks : List Variable} {given bs : List Allotted}
    → AreAllotted w m before ks given → AreAllotted w m before ks bs → given ≡ bs
allotted-one w m none_allotted none_allotted = refl
allotted-one w m (more_allotted k at {before = before} {ks = ks} {given = given} f a) (more_allotted _ on {given = bs} g b) =
    let same : on ≡ at = least-one w m before k on at g f in
    let also : AreAllotted w m (before ++ record { variable = k; at = at } ∷ []) ks bs =
    subst (λ n. AreAllotted w m (before ++ record { variable = k; at = n } ∷ []) ks bs) same b in
    ap (λ (rest : List Allotted). record { variable = k; at = at } ∷ rest) (allotted-one w m a also)
    ∙ ap (λ n. record { variable = k; at = n } ∷ bs) (sym same)

pub allotment-is-one : AllotmentIsOne
allotment-is-one w m ks given bs a b = allotted-one w m a b

-- ---- variables in order

-- the first of several variables, and the others behind it
record Splits (x : ℕ) (tys : List Ty) (k : Variable) (ks : List Variable) : Type 0 where
  others : List Ty
  at : k.register ≡ x
  some : 1 ≤ k.width
  rest : AreVariables (x + k.width) others ks
  long : length tys ≡ k.width + length others

splits : {x : ℕ} {tys : List Ty} {k : Variable} {ks : List Variable} → AreVariables x tys (k ∷ ks) → Splits x tys k ks
splits (one_register {tys = tys} whole rest) = record { others = tys; at = refl; some = omega arith; rest = rest; long = omega arith }
splits (two_registers {tys = tys} rest) = record { others = tys; at = refl; some = omega arith; rest = rest; long = omega arith }

no-types : {x : ℕ} {tys : List Ty} → AreVariables x tys [] → length tys ≡ 0
no-types no_variables = refl

module _ (w : Linked) (m : Method) where
  abbrev nargs : ℕ
  nargs = m.rec.nargs

  -- the variables lie from a register on
  from-there : {x : ℕ} {tys : List Ty} {before : List Allotted} {ks : List Variable} {given : List Allotted}
      → AreVariables x tys ks → AreAllotted w m before ks given → (a : Allotted) → IsAmong a given → x ≤ a.variable.register
  from-there vs none_allotted a among = absurd among
  from-there {x = x} vs (more_allotted k at fit rest) a (inl here) = grind (arith, splits vs)
  from-there {x = x} vs (more_allotted k at fit rest) a (inr later) =
      let s = splits vs in
      let le = from-there {x = x + k.width} s.rest rest a later in
      omega (arith, le)

  -- each register is in one of them
  covered : {x : ℕ} {tys : List Ty} {before : List Allotted} {ks : List Variable} {given : List Allotted}
      → AreVariables x tys ks → AreAllotted w m before ks given → (y : ℕ) → x ≤ y → y < x + length tys
      → (a : Allotted) × IsAmong a given × HasRegister a.variable y
  covered vs none_allotted y from lt = let e = no-types vs in absurd (omega (arith, from, lt, e))
  covered {x = x} vs (more_allotted k at fit rest) y from lt =
      let s = splits vs in
      let first = s.at in
      let long = s.long in
      elim (cases_lt y (k.register + k.width)) [
        | inl here ↦ (record { variable = k; at = at }, inl refl, record { from = omega (arith, first, from); before = here })
        | inr behind ↦
            let r = covered {x = x + k.width} s.rest rest y (omega (arith, first, behind)) (omega (arith, long, lt)) in
            (r.0, inr r.1, r.2)
      ]

  -- and in one alone
  holder-one : {x : ℕ} {tys : List Ty} {before : List Allotted} {ks : List Variable} {given : List Allotted}
      → AreVariables x tys ks → AreAllotted w m before ks given → (a b : Allotted) → IsAmong a given → IsAmong b given → (y : ℕ)
      → HasRegister a.variable y → HasRegister b.variable y → a ≡ b
  holder-one vs none_allotted a b among also y f g = absurd among
  holder-one vs (more_allotted k at fit rest) a b (inl here) (inl there) y f g = sym here ∙ there
  holder-one vs (more_allotted k at fit rest) a b (inl here) (inr later) y f g =
      let s = splits vs in
      let first = s.at in
      let head : HasRegister k y = subst (λ (c : Allotted). HasRegister c.variable y) (sym here) f in
      let lt = head.before in
      let from = g.from in
      let behind = from-there s.rest rest b later in
      absurd (omega (arith, first, lt, from, behind))
  holder-one vs (more_allotted k at fit rest) a b (inr later) (inl there) y f g =
      let s = splits vs in
      let first = s.at in
      let head : HasRegister k y = subst (λ (c : Allotted). HasRegister c.variable y) (sym there) g in
      let lt = head.before in
      let from = f.from in
      let behind = from-there s.rest rest a later in
      absurd (omega (arith, first, lt, from, behind))
  holder-one {x = x} vs (more_allotted k at fit rest) a b (inr later) (inr also) y f g =
      holder-one {x = x + k.width} (splits vs).rest rest a b later also y f g

  pub among-variable : {before : List Allotted} {ks : List Variable} {given : List Allotted} → AreAllotted w m before ks given → (a : Allotted)
      → IsAmong a given → IsAmong a.variable ks
  among-variable none_allotted a among = absurd among
  among-variable (more_allotted k at fit rest) a (inl here) = inl (ap (λ (b : Allotted). b.variable) here)
  among-variable (more_allotted k at fit rest) a (inr later) = inr (among-variable rest a later)

  -- ---- new registers

  pub no-argument : {before : List Allotted} {ks : List Variable} {given : List Allotted} → AreAllotted w m before ks given → (a : Allotted) → IsAmong a given
      → nargs ≤ a.at
  no-argument none_allotted a among = absurd among
  no-argument (more_allotted k at fit rest) a (inl here) = subst (λ (b : Allotted). nargs ≤ b.at) here fit.fits.no_argument
  no-argument (more_allotted k at fit rest) a (inr later) = no-argument rest a later

  -- the registers behind all that are given out fit
  at-most :
      (before : List Allotted) (k : Variable) (at : ℕ) → nargs ≤ k.register → All (λ (b : Allotted). b.at + b.variable.width ≤ k.register) before
      → IsLeastFit w m before k at → at ≤ k.register
  at-most before k at from all least = grind (arith, cases_lt)

  all-within : (x y : ℕ) (before : List Allotted) (a : Allotted) → x ≤ y → a.at + a.variable.width ≤ y
      → All (λ (b : Allotted). b.at + b.variable.width ≤ x) before → All (λ (b : Allotted). b.at + b.variable.width ≤ y) (before ++ a ∷ [])
  all-within x y before a le last all =
      All-push (λ (b : Allotted). b.at + b.variable.width ≤ y) before a
      (All-weaker (λ (b : Allotted). b.at + b.variable.width ≤ x) (λ (b : Allotted). b.at + b.variable.width ≤ y) (λ b h. omega (arith, h, le)) before all)
      last

  falls : {x : ℕ} {tys : List Ty} {before : List Allotted} {ks : List Variable} {given : List Allotted}
      → AreVariables x tys ks → AreAllotted w m before ks given → nargs ≤ x → All (λ (b : Allotted). b.at + b.variable.width ≤ x) before
      → (a : Allotted) → IsAmong a given → a.at ≤ a.variable.register
  falls vs none_allotted from all a among = absurd among
  falls {x = x} vs (more_allotted k at {before = before} fit rest) from all a among =
      let s = splits vs in
      let first = s.at in
      let le : at ≤ k.register =
      at-most before k at (omega (arith, first, from)) (subst (λ n. All (λ (b : Allotted). b.at + b.variable.width ≤ n) before) (sym first) all) fit in
      ⊎_elim (λ here. subst (λ (b : Allotted). b.at ≤ b.variable.register) here le)
      (λ later. falls {x = x + k.width} s.rest rest (omega (arith, from))
      (all-within x (x + k.width) before (record { variable = k; at = at }) (omega arith) (omega (arith, le, first)) all) a later) among

  ends-within : {x : ℕ} {tys : List Ty} {before : List Allotted} {ks : List Variable} {given : List Allotted}
      → AreVariables x tys ks → AreAllotted w m before ks given → nargs ≤ x → All (λ (b : Allotted). b.at + b.variable.width ≤ x) before
      → end_of nargs given ≤ x + length tys
  ends-within vs none_allotted from all = omega (arith, from)
  ends-within {x = x} vs (more_allotted k at {before = before} fit rest) from all =
      let s = splits vs in
      let first = s.at in
      let long = s.long in
      let le : at ≤ k.register =
      at-most before k at (omega (arith, first, from)) (subst (λ n. All (λ (b : Allotted). b.at + b.variable.width ≤ n) before) (sym first) all) fit in
      let more = ends-within {x = x + k.width} s.rest rest (omega (arith, from))
      (all-within x (x + k.width) before (record { variable = k; at = at }) (omega arith) (omega (arith, le, first)) all) in
      omega (arith, le, first, long, more)

  pub before-end : (given : List Allotted) (a : Allotted) → IsAmong a given → a.at + a.variable.width ≤ end_of nargs given
  before-end [] a among = absurd among
  before-end (b ∷ bs) a (inl here) = subst (λ (c : Allotted). c.at + c.variable.width ≤ max (b.at + b.variable.width) (end_of nargs bs)) here (omega arith)
  before-end (b ∷ bs) a (inr later) = let le = before-end bs a later in omega (arith, le)

  pub arguments-before-end : (given : List Allotted) → nargs ≤ end_of nargs given
  arguments-before-end [] = omega arith
  arguments-before-end (b ∷ bs) = let le = arguments-before-end bs in omega (arith, le)

  -- ---- two variables

  beside-before : {before : List Allotted} {ks : List Variable} {given : List Allotted} → AreAllotted w m before ks given → (a b : Allotted)
      → Contains before a → IsAmong b given → FitsBeside w m b.variable b.at a
  beside-before none_allotted a b listed among = absurd among
  beside-before (more_allotted k at {before = before} fit rest) a b listed (inl here) =
      subst (λ (c : Allotted). FitsBeside w m c.variable c.at a) here (All-contains (FitsBeside w m k at) before a fit.fits.beside listed)
  beside-before (more_allotted k at {before = before} fit rest) a b listed (inr later) =
      beside-before rest a b (Contains-append_left before (record { variable = k; at = at } ∷ []) a listed) later

  either : {before : List Allotted} {ks : List Variable} {given : List Allotted} → AreAllotted w m before ks given → (a b : Allotted)
      → IsAmong a given → IsAmong b given → (a ≡ b) ⊎ (FitsBeside w m b.variable b.at a ⊎ FitsBeside w m a.variable a.at b)
  either none_allotted a b among also = absurd among
  either (more_allotted k at fit rest) a b (inl here) (inl there) = inl (sym here ∙ there)
  either (more_allotted k at {before = before} fit rest) a b (inl here) (inr later) =
      inr (inl (beside-before rest a b (subst (Contains (before ++ record { variable = k; at = at } ∷ [])) here
      (Contains-push before (record { variable = k; at = at }))) later))
  either (more_allotted k at {before = before} fit rest) a b (inr later) (inl there) =
      inr (inr (beside-before rest b a (subst (Contains (before ++ record { variable = k; at = at } ∷ [])) there
      (Contains-push before (record { variable = k; at = at }))) later))
  either (more_allotted k at fit rest) a b (inr later) (inr also) = either rest a b later also

  -- where they share a register, they share all in their order, and don't interfere
  shares :
      (a b : Allotted) (x y : ℕ) → FitsBeside w m b.variable b.at a → HasRegister a.variable x → HasRegister b.variable y
      → a.at + (x - a.variable.register) ≡ b.at + (y - b.variable.register) → ¬ (Interferes w m a.variable b.variable)
  shares a b x y (fits_after le) f g e = grind (arith)
  shares a b x y (fits_before le) f g e = grind (arith)
  shares a b x y (fits_with same width ty apart) f g e = apart

  stay-apart :
      {tys : List Ty} {ks : List Variable} {given : List Allotted} → AreVariables nargs tys ks → AreAllotted w m [] ks given
      → (i : Placed) (op : Operation) (q x y live written : ℕ) → Operates w m i op → Writes w op y → ¬ (Writes w op x) → MayLeadTo m i q
      → IsLiveAt w m x q → IsNumbered nargs given x live → IsNumbered nargs given y written → ¬ (live ≡ written)
  stay-apart vs all i op q x y _ _ operates writes other leads is (numbered_argument lt) (numbered_argument also) e = grind (arith)
  stay-apart {given = given} vs all i op q x y _ _ operates writes other leads is (numbered_argument lt) (numbered_variable b listed has) e =
      grind (arith, no-argument all b (IsAmong-from_Contains b given listed))
  stay-apart {given = given} vs all i op q x y _ _ operates writes other leads is (numbered_variable a listed has) (numbered_argument also) e =
      grind (arith, no-argument all a (IsAmong-from_Contains a given listed))
  stay-apart {given = given} vs all i op q x y _ _ operates writes other leads is (numbered_variable a listed has) (numbered_variable b there own) e =
      let clash : Clash w m y x =
      record { instruction = i; op = op; operates = operates; writes = writes; next = q; leads = leads; live = is } in
      ⊎_elim
      (λ same.
      let also : a.at + (x - a.variable.register) ≡ a.at + (y - a.variable.register) =
      subst (λ (c : Allotted). a.at + (x - a.variable.register) ≡ c.at + (y - c.variable.register)) (sym same) e in
      let mine : HasRegister a.variable y = subst (λ (c : Allotted). HasRegister c.variable y) (sym same) own in
      let f = has.from in
      let g = mine.from in
      let one : y ≡ x = omega (arith, also, f, g) in
      other (subst (Writes w op) one writes))
      (λ fits. ⊎_elim
      (λ first. shares a b x y first has own e (second_written has own clash))
      (λ second. shares b a y x second own has (sym e) (first_written own has clash)) fits)
      (either all a b (IsAmong-from_Contains a given listed) (IsAmong-from_Contains b given there))

  -- ---- the number of a register

  number-of : {tys : List Ty} {ks : List Variable} {given : List Allotted} (x : ℕ) → AreVariables nargs tys ks → AreAllotted w m [] ks given
      → x < nargs + length tys → HasNumber nargs given x
  number-of {given = given} x vs all lt = elim (cases_lt x nargs) [
    | inl argument ↦ record {
      number = x;
      is = numbered_argument argument;
      one = λ y is. argument-one y argument is;
      falls = omega arith;
      inside = (let le = arguments-before-end given in omega (arith, le, argument));
    }
    | inr from ↦
        let found = covered vs all x from lt in
        let a = found.0 in
        let has = found.2 in
        let first = has.from in
        let last = has.before in
        let less = falls vs all (omega arith) (All-nil (λ (b : Allotted). b.at + b.variable.width ≤ nargs)) a found.1 in
        let end = before-end given a found.1 in
        record {
          number = a.at + (x - a.variable.register);
          is = numbered_variable a (Contains-from_IsAmong a given found.1) has;
          one = λ y is. variable-one a found.1 has from y is;
          falls = omega (arith, first, less);
          inside = omega (arith, first, last, end);
        }
  ]
    where
      argument-one : (y : ℕ) → x < nargs → IsNumbered nargs given x y → y ≡ x
      argument-one _ argument (numbered_argument again) = refl
      argument-one _ argument (numbered_variable a listed has) =
          let from = from-there vs all a (IsAmong-from_Contains a given listed) in
          let first = has.from in
          absurd (omega (arith, argument, from, first))

      variable-one : (a : Allotted) → IsAmong a given → HasRegister a.variable x → nargs ≤ x → (y : ℕ) → IsNumbered nargs given x y
          → y ≡ a.at + (x - a.variable.register)
      variable-one a among has from _ (numbered_argument lt) = absurd (omega (arith, from, lt))
      variable-one a among has from _ (numbered_variable b listed own) =
          ap (λ (c : Allotted). c.at + (x - c.variable.register)) (holder-one vs all b a (IsAmong-from_Contains b given listed) among x own has)

pub written-stay-apart : WrittenStayApart
written-stay-apart w m tys ks given vs all = stay-apart w m vs all

pub registers-have-numbers : RegistersHaveNumbers
registers-have-numbers w m tys ks given x vs all lt = number-of w m x vs all lt

pub registers-are-no-more : RegistersAreNoMore
registers-are-no-more w m tys ks given vs all =
    ends-within w m vs all (omega arith) (All-nil (λ (b : Allotted). b.at + b.variable.width ≤ m.rec.nargs))

-- ---- a method

-- two least lists of registers are one
least-regs : (w : Linked) (m : Method) (regs others : List Ty) → IsOrderOfCells w.classes → IsLeastCardTyping w m regs → IsLeastCardTyping w m others
    → regs ≡ others
least-regs w m regs others order a b = order.apart (a.least others b.stacks b.typing) (b.least regs a.stacks a.typing)

pub methods-share-in-one-way : (w : Linked) → IsOrderOfCells w.classes → MethodsShareInOneWay w
methods-share-in-one-way w order m given bs locals others a b =
    let regs : a.regs ≡ b.regs = least-regs w m a.regs b.regs order a.typed b.typed in
    let variables : a.variables ≡ b.variables =
    variables-are-one m.rec.nargs (drop m.rec.nargs b.regs) a.variables b.variables
    (subst (λ rs. AreVariables m.rec.nargs (drop m.rec.nargs rs) a.variables) regs a.are) b.are in
    let one : given ≡ bs =
    allotment-is-one w m b.variables given bs (subst (λ ks. AreAllotted w m [] ks given) variables a.allotted) b.allotted in
    let end : end_of m.rec.nargs given ≡ end_of m.rec.nargs bs = ap (end_of m.rec.nargs) one in
    let first = a.size in
    let second = b.size in
    (one, omega (arith, first, second, end))

pub sharing-or-kept : (w : Linked) → IsOrderOfCells w.classes → SharingOrKept w
sharing-or-kept w order m given locals a keeps =
    let regs : a.regs ≡ keeps.regs = least-regs w m a.regs keeps.regs order a.typed keeps.typed in
    keeps.none a.variables (subst (λ rs. AreVariables m.rec.nargs (drop m.rec.nargs rs) a.variables) regs a.are)
