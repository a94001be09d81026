-- Operations under the new numbers of registers.
use Rattle.std.proofs.Common.{◌≡◌, ℕ, zero, suc, ◌+◌, ◌-◌, ◌<◌, ◌≤◌, ◌⊎◌, inl, inr}
use Rattle.std.proofs.Common.{⊎_elim, max, List, [], ◌∷◌, ◌++◌, length, drop, map, reverse}
use Rattle.std.proofs.Common.{refl, sym, ap, ◌∙◌, subst, arith, Contains, set}
use Rattle.std.specs.Prelude.{Option, Some, None, Result, Ok, IsSomeAnd, slice_get, ⊤}
use Rattle.std.proofs.lemmas.Bool.{cases_lt}
use Rattle.std.proofs.lemmas.List.{length-drop, length-set, get_or-set_same, get_or-set_other}
use Rattle.std.proofs.lemmas.Option.{get_or_from_slice_get, slice_get-get_or}
use Rattle.jc_base.specs.declared.ty.Kind.{Kind}
use Rattle.jc_base.specs.declared.ty.Kind.TheVariants as kinds
use Rattle.jc_base.specs.declared.ty.Ty.{Ty}
use Rattle.jc_base.specs.declared.ty.Ty.TheVariants.{Top, Bottom, IntHigh, IntLow}
use Rattle.jc_base.specs.declared.ty.Ty.TheVariants as types
use Rattle.jc_base.specs.Class.{ClassTable}
use Rattle.jc_base.specs.Order.{Below, same, joined, nothing, anything, null_object}
use Rattle.jc_base.specs.Order.{null_array, subclass, array_object, array_array, IsArray, of_booleans}
use Rattle.jc_base.specs.Order.{of_bytes, of_shorts, of_ints, of_references}
use Rattle.jc_base.specs.World.{Linked, IsWorld}
use Rattle.jc_base.specs.Each.{IsAmong}
use Rattle.jc_base.proofs.Eaching.{IsAmong-from_Contains}
use Rattle.jc_decode.specs.declared.insn.Placed.{Placed}
use Rattle.jc_control.specs.Method.{Method, IsMethodOf}
use Rattle.jc_ops.specs.declared.fault.RuleFault.{RuleFault}
use Rattle.jc_ops.specs.declared.operation.Arithmetic.{Arithmetic}
use Rattle.jc_ops.specs.declared.operation.Arithmetic.TheVariants as arithmetic
use Rattle.jc_ops.specs.declared.operation.Branch.{Branch}
use Rattle.jc_ops.specs.declared.operation.Branch.TheVariants as branches
use Rattle.jc_ops.specs.declared.operation.Holder.TheVariants as holders
use Rattle.jc_ops.specs.declared.operation.Move.{Move}
use Rattle.jc_ops.specs.declared.operation.Move.TheVariants as moves
use Rattle.jc_ops.specs.declared.operation.Operation.{Operation}
use Rattle.jc_ops.specs.declared.operation.Operation.TheVariants as ops
use Rattle.jc_ops.specs.declared.operation.Sort.TheVariants as sorts
use Rattle.jc_ops.specs.declared.operation.Width.{Width}
use Rattle.jc_ops.specs.declared.operation.Width.TheVariants as widths
use Rattle.jc_ops.specs.declared.operation.Want.{Want}
use Rattle.jc_ops.specs.declared.operation.Want.TheVariants.{Value}
use Rattle.jc_ops.specs.Alike.{equal, loads, stores, increments}
use Rattle.jc_rules.specs.declared.demand.Demand.{Demand}
use Rattle.jc_rules.specs.declared.demand.Demand.TheVariants.{Registers, Depth, Cell, Cut, Held}
use Rattle.jc_rules.specs.declared.effect.Mode.TheVariants.{Flow}
use Rattle.jc_rules.specs.declared.rule.Outcome.{Outcome}
use Rattle.jc_rules.specs.Apply.{OperationApplies}
use Rattle.jc_rules.specs.Demand.{Frame, Meets, SatisfiesAll}
use Rattle.jc_rules.specs.Effect.{reg, WritesInt}
use Rattle.jc_rules.specs.Flow.{CellsBelow}
use Rattle.jc_rules.specs.Footprint.{footprint, registers_asked, registers_read}
use Rattle.jc_rules.specs.Rule.{demands, args_at, arithmetic_demands, array_write_demands}
use Rattle.jc_rules.specs.Rule.{branch_demands, cells_wanted, move_demands, number}
use Rattle.jc_rules.specs.Rule.{receiver_wanted, two_numbers, value_size, value_wanted}
use Rattle.jc_rules.proofs.CellLists.{cells-length}
use Rattle.jc_rules.proofs.Footprints.{met-is-there, asked-is-there}
use Rattle.card_typing.proofs.Own.{start-length}
use Rattle.card_typing.specs.Typing.{CardTyping, frame_at}
use Rattle.law_share.specs.Live.{Operates, Writes, MayLeadTo, IsLiveAt, live_read, live_on}
use Rattle.law_share.specs.Retyped.{HasShared}
use Rattle.law_share.specs.Variable.{Variable, IsWhole, AreVariables, HasRegister}
use Rattle.law_share.specs.Sharing.{Allotted, AreAllotted, IsNumbered, numbered_argument, numbered_variable, end_of}
use Rattle.law_share.specs.Laws.{HasNumber}
use Rattle.law_share.specs.Renamed.{register_total, BeginsAlike}
use Rattle.law_share.specs.Renumbered.{renumbered, IsRenumberedTo, OperationsAreRenumbered, RenumberedStayApart, RenumberedBeginAlike}
use Rattle.law_share.proofs.Allotting.{among-variable, no-argument, registers-have-numbers, written-stay-apart}
use Rattle.law_share.proofs.Quiet.{IsStoring, quiet-or-stores}
use Rattle.law_share.proofs.Retyping.{below-there}
use Rattle.law_share.proofs.Types.{IsProper, proper_one, proper_int, all-proper, type_in, variable-type}
use Rattle.jc_base.proofs.Lists.{slice_get-drop}

-- ---- operations that name no register, and those that read register 0

record NamesNone (ds : List Demand) : Type 0 where
  reads : registers_read ds ≡ []
  asked : registers_asked ds ≡ 0

none-cells : (n : ℕ) (tys : List Ty) (ds : List Demand) → NamesNone ds → NamesNone (cells_wanted n tys ++ ds)
none-cells n [] ds none = none
none-cells n (ty ∷ tys) ds none = let r = none-cells (n + 1) tys ds none in record { reads = r.reads; asked = r.asked }

none-receiver : (n : ℕ) (want : Option Want) → NamesNone (receiver_wanted n want)
none-receiver n None = record { reads = refl; asked = refl }
none-receiver n (Some want) = record { reads = refl; asked = refl }

none-value : (ty : Ty) → NamesNone (value_wanted ty)
none-value IntHigh = record { reads = refl; asked = refl }
none-value _ = record { reads = refl; asked = refl }

none-number : (width : Width) (n : ℕ) → NamesNone (number width n)
none-number widths.Short n = record { reads = refl; asked = refl }
none-number widths.Int n = record { reads = refl; asked = refl }

none-two : (width : Width) → NamesNone (two_numbers width)
none-two widths.Short = record { reads = refl; asked = refl }
none-two widths.Int = record { reads = refl; asked = refl }

none-move : (move : Move) → NamesNone (move_demands move)
none-move moves.Pop = record { reads = refl; asked = refl }
none-move _ = record { reads = refl; asked = refl }

none-arithmetic : (a : Arithmetic) → NamesNone (arithmetic_demands a)
none-arithmetic (arithmetic.Binary o width) = none-two width
none-arithmetic (arithmetic.Negate width) = none-number width 0
none-arithmetic _ = record { reads = refl; asked = refl }

none-array : (t : ClassTable) (kind : Kind) → NamesNone (array_write_demands t kind)
none-array t kinds.Ref = record { reads = refl; asked = refl }
none-array t _ = record { reads = refl; asked = refl }

none-branch : (t : ClassTable) (b : Branch) → NamesNone (branch_demands t b)
none-branch t branches.Always = record { reads = refl; asked = refl }
none-branch t _ = record { reads = refl; asked = refl }

none-behind : (ty : Ty) (n : ℕ) (want : Want) → NamesNone (value_wanted ty ++ Cell n want ∷ [])
none-behind IntHigh n want = record { reads = refl; asked = refl }
none-behind _ n want = record { reads = refl; asked = refl }

record NamesThis (ds : List Demand) : Type 0 where
  reads : registers_read ds ≡ 0 ∷ []
  asked : registers_asked ds ≡ 1

this-behind : (ty wanted : Ty) → NamesThis (Registers 0 1 ∷ (value_wanted ty ++ Held 0 wanted ∷ []))
this-behind IntHigh wanted = record { reads = refl; asked = refl }
this-behind _ wanted = record { reads = refl; asked = refl }

abbrev NamesFew : List Demand → Type 0
NamesFew ds = NamesNone ds ⊎ NamesThis ds

-- ---- the types of halves

-- of no object and no array
abbrev IsBare : Ty → Type 0
IsBare Bottom = ⊤
IsBare IntHigh = ⊤
IsBare IntLow = ⊤
IsBare Top = ⊤
IsBare _ = ⊥

array-bare : {a : Ty} → IsArray a → IsBare a → ⊥
array-bare of_booleans bare = bare
array-bare of_bytes bare = bare
array-bare of_shorts bare = bare
array-bare of_ints bare = bare
array-bare of_references bare = bare

module _ (t : ClassTable) where
  below-bottom : {a b : Ty} → Below t a b → b ≡ Bottom → a ≡ Bottom
  below-bottom same e = e
  below-bottom (joined p q) e = below-bottom p (below-bottom q e)
  below-bottom nothing e = refl
  below-bottom anything e = absurd (cc)
  below-bottom null_object e = absurd (cc)
  below-bottom (null_array array) e = absurd (array-bare array (subst IsBare (sym e) tt))
  below-bottom (subclass up) e = absurd (cc)
  below-bottom (array_object array is) e = absurd (cc)
  below-bottom (array_array below) e = absurd (cc)

  below-high : {a b : Ty} → Below t a b → b ≡ IntHigh → (a ≡ IntHigh) ⊎ (a ≡ Bottom)
  below-high same e = inl e
  below-high (joined p q) e = ⊎_elim (λ high. below-high p high) (λ none. inr (below-bottom p none)) (below-high q e)
  below-high nothing e = inr refl
  below-high anything e = absurd (cc)
  below-high null_object e = absurd (cc)
  below-high (null_array array) e = absurd (array-bare array (subst IsBare (sym e) tt))
  below-high (subclass up) e = absurd (cc)
  below-high (array_object array is) e = absurd (cc)
  below-high (array_array below) e = absurd (cc)

  below-low : {a b : Ty} → Below t a b → b ≡ IntLow → (a ≡ IntLow) ⊎ (a ≡ Bottom)
  below-low same e = inl e
  below-low (joined p q) e = ⊎_elim (λ low. below-low p low) (λ none. inr (below-bottom p none)) (below-low q e)
  below-low nothing e = inr refl
  below-low anything e = absurd (cc)
  below-low null_object e = absurd (cc)
  below-low (null_array array) e = absurd (array-bare array (subst IsBare (sym e) tt))
  below-low (subclass up) e = absurd (cc)
  below-low (array_object array is) e = absurd (cc)
  below-low (array_array below) e = absurd (cc)

  above-top : {a b : Ty} → Below t a b → a ≡ Top → b ≡ Top
  above-top same e = e
  above-top (joined p q) e = above-top q (above-top p e)
  above-top nothing e = absurd (cc)
  above-top anything e = refl
  above-top null_object e = absurd (cc)
  above-top (null_array array) e = absurd (cc)
  above-top (subclass up) e = absurd (cc)
  above-top (array_object array is) e = absurd (array-bare array (subst IsBare (sym e) tt))
  above-top (array_array below) e = absurd (cc)

  above-high : {a b : Ty} → Below t a b → a ≡ IntHigh → (b ≡ IntHigh) ⊎ (b ≡ Top)
  above-high same e = inl e
  above-high (joined p q) e = ⊎_elim (λ high. above-high q high) (λ top. inr (above-top q top)) (above-high p e)
  above-high nothing e = absurd (cc)
  above-high anything e = inr refl
  above-high null_object e = absurd (cc)
  above-high (null_array array) e = absurd (cc)
  above-high (subclass up) e = absurd (cc)
  above-high (array_object array is) e = absurd (array-bare array (subst IsBare (sym e) tt))
  above-high (array_array below) e = absurd (cc)

  above-low : {a b : Ty} → Below t a b → a ≡ IntLow → (b ≡ IntLow) ⊎ (b ≡ Top)
  above-low same e = inl e
  above-low (joined p q) e = ⊎_elim (λ low. above-low q low) (λ top. inr (above-top q top)) (above-low p e)
  above-low nothing e = absurd (cc)
  above-low anything e = inr refl
  above-low null_object e = absurd (cc)
  above-low (null_array array) e = absurd (cc)
  above-low (subclass up) e = absurd (cc)
  above-low (array_object array is) e = absurd (array-bare array (subst IsBare (sym e) tt))
  above-low (array_array below) e = absurd (cc)

-- a type that is no value's in one register alone, and may be that of a high half, or of a low one
data MayBeHigh : Ty → Type 0 where
  high_half : MayBeHigh IntHigh
  high_bottom : MayBeHigh Bottom
  high_top : MayBeHigh Top

data MayBeLow : Ty → Type 0 where
  low_half : MayBeLow IntLow
  low_bottom : MayBeLow Bottom
  low_top : MayBeLow Top

high-unwhole : {a : Ty} → MayBeHigh a → ¬ (IsWhole a)
high-unwhole high_half whole = whole
high-unwhole high_bottom whole = whole
high-unwhole high_top whole = whole

low-unwhole : {a : Ty} → MayBeLow a → ¬ (IsWhole a)
low-unwhole low_half whole = whole
low-unwhole low_bottom whole = whole
low-unwhole low_top whole = whole

low-not-high : {a : Ty} → MayBeHigh a → a ≡ IntLow → ⊥
low-not-high high_half e = cc
low-not-high high_bottom e = cc
low-not-high high_top e = cc

high-not-low : {a : Ty} → MayBeLow a → a ≡ IntHigh → ⊥
high-not-low low_half e = cc
high-not-low low_bottom e = cc
high-not-low low_top e = cc

-- ---- the numbers of a method's registers

module _ (v : Linked) (links : IsWorld v) (m : Method) (regs : List Ty) (stacks : ℕ → List Ty) (ks : List Variable) (given : List Allotted)
    (f : ℕ → ℕ) (is : IsMethodOf v m) (ty : CardTyping v m regs stacks) (vs : AreVariables m.rec.nargs (drop m.rec.nargs regs) ks)
    (all : AreAllotted v m [] ks given) (numbers : (x : ℕ) → x < register_total m → IsNumbered m.rec.nargs given x (f x))
  where
    abbrev nargs : ℕ
    nargs = m.rec.nargs

    abbrev end : ℕ
    end = end_of nargs given

    count : length regs ≡ register_total m
    count = sym (cells-length v.classes ty.declared) ∙ start-length v links m is

    has-number : (x : ℕ) → x < length regs → HasNumber nargs given x
    has-number x lt =
        registers-have-numbers v m (drop nargs regs) ks given x vs all (let long = length-drop nargs regs in let total = count in omega
        (arith, lt, long, total))

    number-is : (x : ℕ) (lt : x < length regs) → f x ≡ (has-number x lt).number
    number-is x lt = (has-number x lt).one (f x) (numbers x (let total = count in omega (arith, lt, total)))

    falls-to : (x : ℕ) → x < length regs → f x ≤ x
    falls-to x lt = let is = number-is x lt in let le = (has-number x lt).falls in omega (arith, is, le)

    inside : (x : ℕ) → x < length regs → f x < end
    inside x lt = let is = number-is x lt in let less = (has-number x lt).inside in omega (arith, is, less)

    -- the number of a register is any that it has
    is-number : (x y : ℕ) → x < length regs → IsNumbered nargs given x y → f x ≡ y
    is-number x y lt named = number-is x lt ∙ sym ((has-number x lt).one y named)

    zero-stays : 0 < length regs → f 0 ≡ 0
    zero-stays lt = let le = falls-to 0 lt in omega (arith, le)

    -- the type of a register of a variable
    its-type : (a : Allotted) → Contains given a → (x : ℕ) → HasRegister a.variable x
        → (nargs ≤ a.variable.register) × (slice_get (drop nargs regs) (x - nargs) ≡ Some (type_in a.variable (x - a.variable.register)))
    its-type a listed x has = variable-type vs a.variable (among-variable v m all a (IsAmong-from_Contains a given listed)) x has

    type-there : (a : Allotted) → Contains given a → (x : ℕ) → HasRegister a.variable x → type_in a.variable (x - a.variable.register) ≡ reg regs x
    type-there a listed x has =
        let t = its-type a listed x has in
        let from = t.0 in
        let first = has.from in
        let at : nargs + (x - nargs) ≡ x = omega (arith, from, first) in
        let found : slice_get regs x ≡ Some (type_in a.variable (x - a.variable.register)) =
        ap (slice_get regs) (sym at) ∙ (sym (slice_get-drop nargs (x - nargs) regs) ∙ t.1) in
        sym (get_or_from_slice_get regs x (type_in a.variable (x - a.variable.register)) Top found)

    proper-of : (a : Allotted) → Contains given a → IsProper a.variable
    proper-of a listed = all-proper vs a.variable (among-variable v m all a (IsAmong-from_Contains a given listed))

    -- a variable with a register that may have a high half has the next too
    next-there : (k : Variable) → IsProper k → (x : ℕ) → HasRegister k x → MayBeHigh (type_in k (x - k.register)) → HasRegister k (x + 1)
    next-there _ (proper_one {x = r} {ty = one} whole) x has high = grind (arith, high-unwhole)
    next-there _ (proper_int {x = r}) x has high = grind (arith, cases_lt, suc, low-not-high)

    -- and no variable begins with a low half
    not-first : (k : Variable) → IsProper k → ¬ (MayBeLow (type_in k 0))
    not-first _ (proper_one whole) low = low-unwhole low whole
    not-first _ proper_int low = high-not-low low refl

    -- halves of an int stay beside one another
    beside : (x : ℕ) → x + 1 < length regs → MayBeHigh (reg regs x) → MayBeLow (reg regs (x + 1)) → f (x + 1) ≡ f x + 1
    beside x lt high low = elim (cases_lt (x + 1) nargs) [
      | inl argument ↦
          let first = is-number x x (omega (arith, lt)) (numbered_argument (omega (arith, argument))) in
          let second = is-number (x + 1) (x + 1) lt (numbered_argument argument) in
          omega (arith, first, second)
      | inr local ↦ second local (f (x + 1)) refl (numbers (x + 1) (let total = count in omega (arith, lt, total)))
    ]
      where
        first : (y : ℕ) → f x ≡ y → IsNumbered nargs given x y → nargs ≤ x → f (x + 1) ≡ f x + 1
        first _ e (numbered_argument argument) from = absurd (omega (arith, argument, from))
        first _ e (numbered_variable a listed has) from =
            let next = next-there a.variable (proper-of a listed) x has (subst MayBeHigh (sym (type-there a listed x has)) high) in
            let one = is-number (x + 1) (a.at + (x + 1 - a.variable.register)) lt (numbered_variable a listed next) in
            let lies = has.from in
            omega (arith, one, e, lies)

        second : nargs ≤ x + 1 → (y : ℕ) → f (x + 1) ≡ y → IsNumbered nargs given (x + 1) y → f (x + 1) ≡ f x + 1
        second local _ e (numbered_argument argument) = absurd (omega (arith, argument, local))
        second local _ e (numbered_variable a listed has) = elim (cases_lt x nargs) [
          | inl argument ↦
              let t = its-type a listed (x + 1) has in
              let from = t.0 in
              let lies = has.from in
              let zero_at : x + 1 - a.variable.register ≡ 0 = omega (arith, argument, from, lies) in
              absurd (not-first a.variable (proper-of a listed)
              (subst (λ n. MayBeLow (type_in a.variable n)) zero_at (subst MayBeLow (sym (type-there a listed (x + 1) has)) low)))
          | inr from ↦ first (f x) refl (numbers x (let total = count in omega (arith, lt, total))) from
        ]

    -- ---- what an operation finds

    found-at : (P : Ty → Type 0) (x : ℕ) → x < length regs → IsSomeAnd (slice_get regs x) P → P (reg regs x)
    found-at P x lt h = subst (λ (o : Option Ty). IsSomeAnd o P) (slice_get-get_or regs x Top lt) h

    high-read : (a : Ty) → Below v.classes a IntHigh → MayBeHigh a
    high-read a below = ⊎_elim (λ e. subst MayBeHigh (sym e) high_half) (λ e. subst MayBeHigh (sym e) high_bottom) (below-high v.classes below refl)

    low-read : (a : Ty) → Below v.classes a IntLow → MayBeLow a
    low-read a below = ⊎_elim (λ e. subst MayBeLow (sym e) low_half) (λ e. subst MayBeLow (sym e) low_bottom) (below-low v.classes below refl)

    high-stored : (a : Ty) → Below v.classes IntHigh a → MayBeHigh a
    high-stored a below = ⊎_elim (λ e. subst MayBeHigh (sym e) high_half) (λ e. subst MayBeHigh (sym e) high_top) (above-high v.classes below refl)

    low-stored : (a : Ty) → Below v.classes IntLow a → MayBeLow a
    low-stored a below = ⊎_elim (λ e. subst MayBeLow (sym e) low_half) (λ e. subst MayBeLow (sym e) low_top) (above-low v.classes below refl)

    -- an int that is read
    read-beside : (x : ℕ) (stack : List Ty)
        → SatisfiesAll v.classes (record { regs = regs; stack = stack }) (Registers x 2 ∷ Held x IntHigh ∷ Held (x + 1) IntLow ∷ [])
        → (x + 1 < length regs) × (f (x + 1) ≡ f x + 1)
    read-beside x stack asked =
        let room = asked.0 in
        let lt : x + 1 < length regs = omega (arith, room) in (
          lt,
          beside x lt
              (high-read (reg regs x) (found-at (Meets v.classes (Value IntHigh)) x (omega (arith, room)) asked.1.0))
              (low-read (reg regs (x + 1)) (found-at (Meets v.classes (Value IntLow)) (x + 1) lt asked.1.1.0)),
        )

    -- an int that is stored
    stored-beside : (x : ℕ) (after : List Ty) → x + 2 ≤ length regs → WritesInt v.classes Flow x regs after → CellsBelow v.classes after regs
        → (x + 1 < length regs) × (f (x + 1) ≡ f x + 1)
    stored-beside x after room u below =
        let lt : x + 1 < length regs = omega (arith, room) in
        let written : after ≡ set (set regs x IntHigh) (x + 1) IntLow =
        u.low.after_is ∙ (ap (set u.between (x + 1)) u.low.stored
        ∙ ap (λ (ys : List Ty). set ys (x + 1) IntLow) (u.high.after_is ∙ ap (set regs x) u.high.stored)) in
        let long = length-set regs x IntHigh in
        let high : reg after x ≡ IntHigh =
        ap (λ (ys : List Ty). reg ys x) written
        ∙ (get_or-set_other (set regs x IntHigh) (x + 1) x IntLow Top (λ e. omega (arith, e)) ∙ get_or-set_same regs x IntHigh Top (omega (arith, room))) in
        let low : reg after (x + 1) ≡ IntLow =
        ap (λ (ys : List Ty). reg ys (x + 1)) written ∙ get_or-set_same (set regs x IntHigh) (x + 1) IntLow Top (omega (arith, lt, long)) in (
          lt,
          beside x lt (high-stored (reg regs x) (below-there v.classes after regs x IntHigh high below))
              (low-stored (reg regs (x + 1)) (below-there v.classes after regs (x + 1) IntLow low below)),
        )

    -- ---- each kind

    abbrev Is : Operation → Operation → Type 0
    Is a b = IsRenumberedTo v f end a b

    one-written : (a b : ℕ) → a ≡ f b → (k : ℕ) → k < 1 → a + k ≡ f (b + k)
    one-written a b e zero lt = let p : a + 0 ≡ a = omega arith in let q : b + 0 ≡ b = omega arith in p ∙ (e ∙ ap f (sym q))
    one-written a b e (suc k) lt = absurd (omega (arith, lt))

    two-written : (x : ℕ) → f (x + 1) ≡ f x + 1 → (k : ℕ) → k < 2 → f x + k ≡ f (x + k)
    two-written x e zero lt = let p : f x + 0 ≡ f x = omega arith in let q : x + 0 ≡ x = omega arith in p ∙ ap f (sym q)
    two-written x e (suc zero) lt = sym e
    two-written x e (suc (suc k)) lt = absurd (omega (arith, lt))

    none-written : (a b : ℕ) (n : ℕ) → n ≡ 0 → (k : ℕ) → k < n → a + k ≡ f (b + k)
    none-written a b n none k lt = absurd (omega (arith, none, lt))

    -- one that names no register, or reads register 0
    few : (op : Operation) (stack : List Ty) → SatisfiesAll v.classes (record { regs = regs; stack = stack }) (demands v op)
        → NamesFew (demands v op) → (footprint v op).written ≡ 0 → Is op op
    few op stack asked (inl none) quiet = record {
      alike = equal;
      reads = none.reads ∙ sym (ap (map f) none.reads);
      asked = (let no = none.asked in omega (arith, no));
      writes = none-written (footprint v op).register (footprint v op).register (footprint v op).written quiet;
    }
    few op stack asked (inr this) quiet =
        let one = this.asked in
        let room = (asked-is-there (length regs) (length stack) (demands v op)).registers
        (met-is-there v (record { regs = regs; stack = stack }) (demands v op) asked) in
        let some : 0 < length regs = omega (arith, one, room) in
        let stays = zero-stays some in
        let lt = inside 0 some in
        record {
          alike = equal;
          reads = this.reads ∙ (ap (λ n. n ∷ []) (sym stays) ∙ sym (ap (map f) this.reads));
          asked = omega (arith, one, stays, lt);
          writes = none-written (footprint v op).register (footprint v op).register (footprint v op).written quiet;
        }

    quiet : (op : Operation) → (IsStoring op → ⊥) → (footprint v op).written ≡ 0
    quiet op none = ⊎_elim (λ q. q) (λ is. absurd (none is)) (quiet-or-stores v op)

    asked-one : (y : ℕ) → y < end → max (y + 1) (max (y + 1) 0) ≤ end
    asked-one y lt = omega (arith, lt)

    asked-two : (y : ℕ) → y + 1 < end → max (y + 2) (max (y + 1) (max (y + 1 + 1) 0)) ≤ end
    asked-two y lt = omega (arith, lt)

    stored-one : (y : ℕ) → y < end → max (y + 1) 0 ≤ end
    stored-one y lt = omega (arith, lt)

    stored-two : (y : ℕ) → y + 1 < end → max (y + 2) 0 ≤ end
    stored-two y lt = omega (arith, lt)

    next-inside : (x : ℕ) → x + 1 < length regs → f (x + 1) ≡ f x + 1 → f x + 1 < end
    next-inside x lt e = let less = inside (x + 1) lt in omega (arith, less, e)

    read-two : (x : ℕ) → f (x + 1) ≡ f x + 1 → f x ∷ (f x + 1) ∷ [] ≡ map f (x ∷ (x + 1) ∷ [])
    read-two x e = ap (λ n. f x ∷ n ∷ []) (sym e)

    renumber : (op : Operation) (limit : ℕ) (stack : List Ty) (after : Frame) (o : Outcome)
        → OperationApplies v limit op Flow (record { regs = regs; stack = stack }) after o → CellsBelow v.classes after.regs regs
        → Is op (renumbered f op)
    renumber (ops.Load sorts.Reference x) limit stack after o a below =
        let room = a.asked.0 in
        record {
          alike = loads;
          reads = refl;
          asked = asked-one (f x) (inside x (omega (arith, room)));
          writes = none-written 0 0 0 refl;
        }
    renumber (ops.Load sorts.Short x) limit stack after o a below =
        let room = a.asked.0 in
        record { alike = loads; reads = refl; asked = asked-one (f x) (inside x (omega (arith, room))); writes = none-written 0 0 0 refl }
    renumber (ops.Load sorts.Int x) limit stack after o a below =
        let both = read-beside x stack a.asked in
        record {
          alike = loads;
          reads = read-two x both.1;
          asked = asked-two (f x) (next-inside x both.0 both.1);
          writes = none-written 0 0 0 refl;
        }
    renumber (ops.Store sorts.Reference x) limit stack after o a below =
        let room = a.asked.0 in
        record {
          alike = stores;
          reads = refl;
          asked = stored-one (f x) (inside x (omega (arith, room)));
          writes = one-written (f x) x refl;
        }
    renumber (ops.Store sorts.Short x) limit stack after o a below =
        let room = a.asked.0 in
        record {
          alike = stores;
          reads = refl;
          asked = stored-one (f x) (inside x (omega (arith, room)));
          writes = one-written (f x) x refl;
        }
    renumber (ops.Store sorts.Int x) limit stack after o a below =
        let both = stored-beside x after.regs a.asked.0 a.regs below in
        record {
          alike = stores;
          reads = refl;
          asked = stored-two (f x) (next-inside x both.0 both.1);
          writes = two-written x both.1;
        }
    renumber (ops.Increment widths.Short x amount) limit stack after o a below =
        let room = a.asked.0 in
        record {
          alike = increments;
          reads = refl;
          asked = asked-one (f x) (inside x (omega (arith, room)));
          writes = one-written (f x) x refl;
        }
    renumber (ops.Increment widths.Int x amount) limit stack after o a below =
        let both = read-beside x stack a.asked in
        record {
          alike = increments;
          reads = read-two x both.1;
          asked = asked-two (f x) (next-inside x both.0 both.1);
          writes = two-written x both.1;
        }
    renumber (ops.Constant c) limit stack after o a below =
        few (ops.Constant c) stack a.asked (inl (record { reads = refl; asked = refl })) (quiet (ops.Constant c) (λ is. is))
    renumber (ops.Move move) limit stack after o a below = few (ops.Move move) stack a.asked (inl (none-move move)) (quiet (ops.Move move) (λ is. is))
    renumber (ops.Arithmetic b) limit stack after o a below =
        few (ops.Arithmetic b) stack a.asked (inl (none-arithmetic b)) (quiet (ops.Arithmetic b) (λ is. is))
    renumber (ops.ArrayRead kind) limit stack after o a below =
        few (ops.ArrayRead kind) stack a.asked (inl (record { reads = refl; asked = refl })) (quiet (ops.ArrayRead kind) (λ is. is))
    renumber (ops.ArrayWrite kind) limit stack after o a below =
        few (ops.ArrayWrite kind) stack a.asked (inl (none-array v.classes kind)) (quiet (ops.ArrayWrite kind) (λ is. is))
    renumber ops.ArrayLength limit stack after o a below =
        few ops.ArrayLength stack a.asked (inl (record { reads = refl; asked = refl })) (quiet ops.ArrayLength (λ is. is))
    renumber (ops.Branch branch) limit stack after o a below =
        few (ops.Branch branch) stack a.asked (inl (none-branch v.classes branch)) (quiet (ops.Branch branch) (λ is. is))
    renumber (ops.Switch width) limit stack after o a below =
        few (ops.Switch width) stack a.asked (inl (none-number width 0)) (quiet (ops.Switch width) (λ is. is))
    renumber (ops.StaticRead field) limit stack after o a below =
        few (ops.StaticRead field) stack a.asked (inl (record { reads = refl; asked = refl })) (quiet (ops.StaticRead field) (λ is. is))
    renumber (ops.StaticWrite field) limit stack after o a below =
        few (ops.StaticWrite field) stack a.asked (inl (none-value field.ty)) (quiet (ops.StaticWrite field) (λ is. is))
    renumber (ops.FieldRead field holders.Stack) limit stack after o a below =
        few (ops.FieldRead field holders.Stack) stack a.asked (inl (record { reads = refl; asked = refl }))
        (quiet (ops.FieldRead field holders.Stack) (λ is. is))
    renumber (ops.FieldRead field holders.This) limit stack after o a below =
        few (ops.FieldRead field holders.This) stack a.asked (inr (record { reads = refl; asked = refl }))
        (quiet (ops.FieldRead field holders.This) (λ is. is))
    renumber (ops.FieldWrite field holders.Stack) limit stack after o a below =
        few (ops.FieldWrite field holders.Stack) stack a.asked
        (inl (none-behind field.ty (value_size field.ty) (Value (types.Class field.class))))
        (quiet (ops.FieldWrite field holders.Stack) (λ is. is))
    renumber (ops.FieldWrite field holders.This) limit stack after o a below =
        few (ops.FieldWrite field holders.This) stack a.asked (inr (this-behind field.ty (types.Class field.class)))
        (quiet (ops.FieldWrite field holders.This) (λ is. is))
    renumber (ops.Call callee) limit stack after o a below =
        let args = args_at (slice_get v.methods callee.method) in
        few (ops.Call callee) stack a.asked
        (inl (none-cells 0 (reverse args) (receiver_wanted (length args) callee.receiver) (none-receiver (length args) callee.receiver)))
        (quiet (ops.Call callee) (λ is. is))
    renumber (ops.New place class) limit stack after o a below =
        few (ops.New place class) stack a.asked (inl (record { reads = refl; asked = refl })) (quiet (ops.New place class) (λ is. is))
    renumber (ops.NewArray kind) limit stack after o a below =
        few (ops.NewArray kind) stack a.asked (inl (record { reads = refl; asked = refl })) (quiet (ops.NewArray kind) (λ is. is))
    renumber ops.Throw limit stack after o a below =
        few ops.Throw stack a.asked (inl (record { reads = refl; asked = refl })) (quiet ops.Throw (λ is. is))
    renumber (ops.TypeTest test tested) limit stack after o a below =
        few (ops.TypeTest test tested) stack a.asked (inl (record { reads = refl; asked = refl })) (quiet (ops.TypeTest test tested) (λ is. is))
    renumber (ops.Return None) limit stack after o a below =
        few (ops.Return None) stack a.asked (inl (record { reads = refl; asked = refl })) (quiet (ops.Return None) (λ is. is))
    renumber (ops.Return (Some result)) limit stack after o a below =
        few (ops.Return (Some result)) stack a.asked (inl (none-value result)) (quiet (ops.Return (Some result)) (λ is. is))

    -- an operation of the method
    ok-one : (a b : Operation) → ◌≡◌ {A = Result Operation RuleFault} (Ok a) (Ok b) → a ≡ b
    ok-one a b e = cc

    operation-renumbered : (i : Placed) (op : Operation) → Operates v m i op → Is op (renumbered f op)
    operation-renumbered i op operates =
        let typed = ty.typed i operates.stands in
        let rule = typed.applies.1 in
        let one : rule.operation ≡ op = ok-one rule.operation op (rule.resolves ∙ sym operates.resolves) in
        subst (λ (x : Operation). Is x (renumbered f x)) one
        (renumber rule.operation m.rec.max_stack (stacks i.place) typed.after typed.applies.0 rule.does typed.stored)

    -- ---- what is live

    -- a register that is read is asked for
    read-within : (ds : List Demand) (x : ℕ) → IsAmong x (registers_read ds) → x < registers_asked ds
    read-within [] x among = absurd among
    read-within (Held y wanted ∷ ds) x (inl here) = omega (arith, here)
    read-within (Held y wanted ∷ ds) x (inr later) = let lt = read-within ds x later in omega (arith, lt)
    read-within (Registers y n ∷ ds) x among = let lt = read-within ds x among in omega (arith, lt)
    read-within (Depth n ∷ ds) x among = read-within ds x among
    read-within (Cell n want ∷ ds) x among = read-within ds x among
    read-within (Cut n ∷ ds) x among = read-within ds x among

    -- what an operation of the method asks for is there
    room-there : (i : Placed) (op : Operation) → Operates v m i op → registers_asked (demands v op) ≤ length regs
    room-there i op operates =
        let rule = (ty.typed i operates.stands).applies.1 in
        let one : rule.operation ≡ op = ok-one rule.operation op (rule.resolves ∙ sym operates.resolves) in
        let ds = demands v rule.operation in
        subst (λ (o : Operation). registers_asked (demands v o) ≤ length regs) one
        ((asked-is-there (length regs) (length (stacks i.place)) ds).registers (met-is-there v (frame_at regs stacks i.place) ds rule.does.asked))

    live-within : (x q : ℕ) → IsLiveAt v m x q → x < length regs
    live-within x _ (live_read i op operates reads) =
        let lt = read-within (demands v op) x (IsAmong-from_Contains x (registers_read (demands v op)) reads) in
        let room = room-there i op operates in
        omega (arith, lt, room)
    live-within x _ (live_on i op q operates none leads live) = live-within x q live

    named : (x : ℕ) → x < length regs → IsNumbered nargs given x (f x)
    named x lt = numbers x (let total = count in omega (arith, lt, total))

    -- what is written under a new number was written under the old one
    written-from : (a b : Operation) (y : ℕ) → IsRenumberedTo v f end a b → (footprint v b).written ≡ (footprint v a).written → Writes v b y
        → (k : ℕ) × (k < (footprint v a).written) × (y ≡ f ((footprint v a).register + k))
    written-from a b y is count writes =
        let from = writes.from in
        let before = writes.before in
        let k : ℕ = y - (footprint v b).register in
        let lt : k < (footprint v a).written = omega (arith, from, before, count) in
        let at : y ≡ (footprint v b).register + k = omega (arith, from) in
        (k, lt, at ∙ is.writes k lt)

    same-count : (op : Operation) → (footprint v (renumbered f op)).written ≡ (footprint v op).written
    same-count (ops.Load sorts.Reference x) = refl
    same-count (ops.Load sorts.Short x) = refl
    same-count (ops.Load sorts.Int x) = refl
    same-count (ops.Store sorts.Reference x) = refl
    same-count (ops.Store sorts.Short x) = refl
    same-count (ops.Store sorts.Int x) = refl
    same-count (ops.Increment width x amount) = refl
    same-count _ = refl

    written-inside : (op : Operation) (k : ℕ) → k < (footprint v op).written → (footprint v op).register + k < registers_asked (demands v op)
    written-inside op k lt = ⊎_elim (λ none. absurd (omega (arith, none, lt))) (λ is. by op is lt) (quiet-or-stores v op)
      where
        by : (op : Operation) → IsStoring op → k < (footprint v op).written → (footprint v op).register + k < registers_asked (demands v op)
        by (ops.Store sorts.Reference x) is lt = omega (arith, lt)
        by (ops.Store sorts.Short x) is lt = omega (arith, lt)
        by (ops.Store sorts.Int x) is lt = omega (arith, lt)
        by (ops.Increment widths.Short x amount) is lt = omega (arith, lt)
        by (ops.Increment widths.Int x amount) is lt = omega (arith, lt)
        by _ is lt = absurd is

    apart-still : (i : Placed) (op : Operation) (q x : ℕ) → Operates v m i op → MayLeadTo m i q → IsLiveAt v m x q → ¬ (Writes v op x)
        → ¬ (Writes v (renumbered f op) (f x))
    apart-still i op q x operates leads live none writes =
        let w = written-from op (renumbered f op) (f x) (operation-renumbered i op operates) (same-count op) writes in
        let y : ℕ = (footprint v op).register + w.0 in
        let less = w.1 in
        let inside_y = written-inside op w.0 w.1 in
        let room = room-there i op operates in
        written-stay-apart v m (drop nargs regs) ks given vs all i op q x y (f x) (f y) operates
        (record { from = omega arith; before = omega (arith, less) }) none leads live (named x (live-within x q live))
        (named y (omega (arith, inside_y, room))) w.2

    begins-alike : (target : Method) (x : ℕ) → HasShared m given target → IsLiveAt v m x 0 → BeginsAlike m target f x
    begins-alike target x has live =
        let lt = live-within x 0 live in
        let total = count in
        let end_there = has.total in
        let less = inside x lt in
        record {
          argument = λ argument. is-number x x lt (numbered_argument argument);
          variable = λ local. from-there local (f x) (named x lt);
          there = inl (omega (arith, lt, total), omega (arith, less, end_there));
        }
      where
        from-there : nargs ≤ x → (y : ℕ) → IsNumbered nargs given x y → nargs ≤ y
        from-there local _ (numbered_argument argument) = absurd (omega (arith, argument, local))
        from-there local _ (numbered_variable a listed own) =
            let le = no-argument v m all a (IsAmong-from_Contains a given listed) in
            omega (arith, le)

pub operations-are-renumbered : (v : Linked) → IsWorld v → OperationsAreRenumbered v
operations-are-renumbered v links m given f i op r operates =
    operation-renumbered v links m r.regs r.stacks r.variables given f r.method r.typed r.are r.allotted r.numbered i op operates

pub renumbered-stay-apart : (v : Linked) → IsWorld v → RenumberedStayApart v
renumbered-stay-apart v links m given f i op q x r operates leads live none =
    apart-still v links m r.regs r.stacks r.variables given f r.method r.typed r.are r.allotted r.numbered i op q x operates leads live none

pub renumbered-begin-alike : (v : Linked) → IsWorld v → RenumberedBeginAlike v
renumbered-begin-alike v links m target given f x r has live =
    begins-alike v links m r.regs r.stacks r.variables given f r.method r.typed r.are r.allotted r.numbered target x has live
