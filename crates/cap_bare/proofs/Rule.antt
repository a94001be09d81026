-- An instruction's rule over a stack of shorts, told by the number of its cells.
use Rattle.std.proofs.Common.{◌≡◌, ◌∙◌, sym, ap, subst, ℕ, zero, suc, ◌+◌, ◌-◌, ◌<◌, ◌≤◌, Bool, true, false, Option, Some, None}
use Rattle.std.proofs.Common.{Result, Ok, Err, List, [], ◌∷◌, ◌++◌, length, refl, arith}
use Rattle.std.proofs.lemmas.Bool.{ltb-true, lt-ltb}
use Rattle.std.proofs.lemmas.Bool.Decides.{nat_tests}
use Rattle.std.proofs.lemmas.List.{replicate-append-replicate, length-replicate, append_cancel_left, length-append}
use Rattle.std.specs.Prelude.{if◌then◌else◌, nat_lt, IfSome, IsSomeAnd, slice_get}
use Rattle.cap_bare.specs.declared.format.Bare.{Bare}
use Rattle.cap_bare.specs.declared.instruction.Instruction.{Instruction}
use Rattle.cap_bare.specs.declared.fault.BareKind.{BareKind}
use Rattle.cap_bare.specs.declared.fault.BareKind.TheVariants.{NoLocal, Underflow, Overflow}
use Rattle.cap_bare.specs.Effects.{register_of, register_read, register_written, cells_taken, cells_given}
use Rattle.cap_bare.specs.Typing.{Kind, bottom, short, IsBelow, below_itself, below_short, shorts, register_count, Applies}
use Rattle.cap_bare.specs.Met.{RuleFails, fails_local, fails_cells, fails_room}
use Rattle.cap_bare.specs.Walk.{if_local, applied}

-- lists of shorts
pub shorts-split : (d n : ℕ) → n ≤ d → shorts d ≡ shorts n ++ shorts (d - n)
shorts-split d n le = grind (arith, replicate-append-replicate)

pub shorts-join : (m n : ℕ) → shorts m ++ shorts n ≡ shorts (n + m)
shorts-join m n = let e : m + n ≡ n + m = omega arith in replicate-append-replicate m n short ∙ ap shorts e

pub shorts-length : (n : ℕ) → length (shorts n) ≡ n
shorts-length n = length-replicate n short

pub shorts-one : (m n : ℕ) → shorts m ≡ shorts n → m ≡ n
shorts-one m n e = sym (shorts-length m) ∙ ap length e ∙ shorts-length n

pub shorts-none : (n : ℕ) → shorts n ≡ [] → n ≡ 0
shorts-none n e = shorts-one n 0 e

-- what so many shorts end with, after so many of them
pub shorts-rest : (d n : ℕ) (rest : List Kind) → shorts d ≡ shorts n ++ rest → (n ≤ d) × (rest ≡ shorts (d - n))
shorts-rest d n rest e =
    let lengths : length (shorts d) ≡ length (shorts n ++ rest) = ap length e in
    let le : n ≤ d = omega (arith, lengths, length-append (shorts n) rest, shorts-length d, shorts-length n) in
    (le, append_cancel_left (shorts n) rest (shorts (d - n)) (sym e ∙ shorts-split d n le))

-- the register that is read or written is the one that is named
pub read-named : (i : Instruction) (n : ℕ) → IfSome (register_of i) (λ x. x < n) → IfSome (register_read i) (λ x. x < n)
read-named x n h = grind (arith)

pub written-named : (i : Instruction) (n : ℕ) → IfSome (register_of i) (λ x. x < n) → IfSome (register_written i) (λ x. x < n)
written-named x n h = grind (arith)

below-any : (k : Kind) → IsBelow k short
below-any bottom = below_short
below-any short = below_itself

-- a register that is there holds a type below that of shorts
pub get-below : (registers : List Kind) (x : ℕ) → x < length registers → IsSomeAnd (slice_get registers x) (λ k. IsBelow k short)
get-below [] x h = absurd (omega arith)
get-below (k ∷ ks) zero h = below-any k
get-below (k ∷ ks) (suc x) h = get-below ks x (omega arith)

read-below : (o : Option ℕ) (registers : List Kind) (n : ℕ) → length registers ≡ n → IfSome o (λ x. x < n)
    → IfSome o (λ x. IsSomeAnd (slice_get registers x) (λ k. IsBelow k short))
read-below x registers n e h = grind (arith, get-below)

-- the rule's tests passed
pub record Applied (bare : Bare) (i : Instruction) (depth after : ℕ) : Type 0 where
  pub local : IfSome (register_of i) (λ x. x < register_count bare)
  pub enough : cells_taken i ≤ depth
  pub value : after ≡ depth - cells_taken i + cells_given i
  pub room : after ≤ bare.max_stack

within-ok : (bare : Bare) (o : Option ℕ) (depth after : ℕ) (rest : Result ℕ BareKind) → if_local bare o depth rest ≡ Ok after
    → IfSome o (λ x. x < register_count bare) × (rest ≡ Ok after)
within-ok bare None depth after rest h = (tt, h)
within-ok bare (Some x) depth after rest h = by_test (nat_lt x (register_count bare)) refl h
  where
    by_test : (b : Bool) → nat_lt x (register_count bare) ≡ b → (if b then rest else Err (NoLocal x)) ≡ Ok after
        → (x < register_count bare) × (rest ≡ Ok after)
    by_test true e h = (ltb-true _ _ e, h)
    by_test false e h = absurd (cc)

abbrev cells : ℕ → ℕ → ℕ → ℕ → Result ℕ BareKind
cells taken max depth after = if nat_lt depth taken then Err Underflow else if nat_lt max after then Err Overflow else Ok after

cells-ok : (taken max depth next after : ℕ) → cells taken max depth next ≡ Ok after
    → (taken ≤ depth) × (next ≤ max) × (after ≡ next)
cells-ok taken max depth next after h = by_test (nat_lt depth taken) refl (nat_lt max next) refl h
  where
    by_test : (b : Bool) → nat_lt depth taken ≡ b → (c : Bool) → nat_lt max next ≡ c
        → (if b then Err Underflow else if c then Err Overflow else Ok next) ≡ Ok after
        → (taken ≤ depth) × (next ≤ max) × (after ≡ next)
    by_test true d c e h = absurd (cc)
    by_test false d true e h = absurd (cc)
    by_test false d false e h = (grind (arith, nat_tests), grind (arith, nat_tests), cc)

pub applied-ok : (bare : Bare) (i : Instruction) (depth after : ℕ) → applied bare i depth ≡ Ok after → Applied bare i depth after
applied-ok bare i depth after h = grind (arith, within-ok, cells-ok)

pub applied-is : (bare : Bare) (i : Instruction) (depth after : ℕ) → Applied bare i depth after → applied bare i depth ≡ Ok after
applied-is bare i depth after a = by_local (register_of i) a.local
  where
    rest : cells (cells_taken i) bare.max_stack depth (depth - cells_taken i + cells_given i) ≡ Ok after
    rest = grind (arith, nat_tests, a.enough, a.value, a.room)

    by_local : (o : Option ℕ) → IfSome o (λ x. x < register_count bare)
        → if_local bare o depth (cells (cells_taken i) bare.max_stack depth (depth - cells_taken i + cells_given i)) ≡ Ok after
    by_local x h = grind (arith, lt-ltb)

-- then the rule applies, whatever the types in the registers
pub applies : (bare : Bare) (i : Instruction) (registers : List Kind) (depth after : ℕ) → length registers ≡ register_count bare
    → Applied bare i depth after → Applies bare i registers (shorts depth) (shorts after)
applies bare i registers depth after e a = record {
  local = a.local;
  read = read-below (register_read i) registers (register_count bare) e (read-named i (register_count bare) a.local);
  rest = shorts (depth - cells_taken i);
  takes = shorts-split depth (cells_taken i) a.enough;
  gives = ap shorts a.value ∙ sym (shorts-join (cells_given i) (depth - cells_taken i));
  room = omega (arith, a.room, shorts-length after);
}

-- and where the rule applies, they pass
pub applied-from : (bare : Bare) (i : Instruction) (registers : List Kind) (depth : ℕ) (after : List Kind)
    → Applies bare i registers (shorts depth) after
    → Applied bare i depth (depth - cells_taken i + cells_given i) × (after ≡ shorts (depth - cells_taken i + cells_given i))
applied-from bare i registers depth after a =
    let r = shorts-rest depth (cells_taken i) a.rest a.takes in
    let e : after ≡ shorts (depth - cells_taken i + cells_given i) =
    a.gives ∙ ap (λ ks. shorts (cells_given i) ++ ks) r.1 ∙ shorts-join (cells_given i) (depth - cells_taken i) in
    let room : depth - cells_taken i + cells_given i ≤ bare.max_stack =
    omega (arith, a.room, ap length e, shorts-length (depth - cells_taken i + cells_given i)) in
    (record { local = a.local; enough = r.0; value = refl; room = room }, e)

-- the first failure of the rule
within-err : (bare : Bare) (i : Instruction) (o : Option ℕ) (stack : List Kind) (depth : ℕ) (kind : BareKind) (rest : Result ℕ BareKind)
    → register_of i ≡ o
    → (IfSome o (λ x. x < register_count bare) → rest ≡ Err kind → RuleFails bare i stack kind)
    → if_local bare o depth rest ≡ Err kind → RuleFails bare i stack kind
within-err bare i None stack depth kind rest e more h = more tt h
within-err bare i (Some x) stack depth kind rest e more h = by_test (nat_lt x (register_count bare)) refl h
  where
    by_test : (b : Bool) → nat_lt x (register_count bare) ≡ b → (if b then rest else Err (NoLocal x)) ≡ Err kind
        → RuleFails bare i stack kind
    by_test true t h = more (ltb-true _ _ t) h
    by_test false t h =
        let same : NoLocal x ≡ kind = cc in
        let le : register_count bare ≤ x = grind (arith, nat_tests) in
        subst (RuleFails bare i stack) same (fails_local x e le)

pub applied-err : (bare : Bare) (i : Instruction) (depth : ℕ) (kind : BareKind) → applied bare i depth ≡ Err kind
    → RuleFails bare i (shorts depth) kind
applied-err bare i depth kind h =
    within-err bare i (register_of i) (shorts depth) depth kind _ refl
    (λ local k. by_test local (nat_lt depth (cells_taken i)) refl (nat_lt bare.max_stack (depth - cells_taken i + cells_given i)) refl k) h
  where
    by_test : IfSome (register_of i) (λ x. x < register_count bare) → (b : Bool) → nat_lt depth (cells_taken i) ≡ b
        → (c : Bool) → nat_lt bare.max_stack (depth - cells_taken i + cells_given i) ≡ c
        → (if b then Err Underflow else if c then Err Overflow else Ok (depth - cells_taken i + cells_given i)) ≡ Err kind
        → RuleFails bare i (shorts depth) kind
    by_test local true d c e k =
        let same : Underflow ≡ kind = cc in
        let lt : length (shorts depth) < cells_taken i = omega (arith, ltb-true _ _ d, shorts-length depth) in
        subst (RuleFails bare i (shorts depth)) same (fails_cells local lt)
    by_test local false d true e k =
        let same : Overflow ≡ kind = cc in
        let enough : cells_taken i ≤ depth = grind (arith, nat_tests) in
        let lt : bare.max_stack < length (shorts (cells_given i) ++ shorts (depth - cells_taken i)) =
        omega (arith, ltb-true _ _ e, ap length (shorts-join (cells_given i) (depth - cells_taken i)), shorts-length (depth - cells_taken i + cells_given i)) in
        subst (RuleFails bare i (shorts depth)) same (fails_room local (shorts (depth - cells_taken i)) (shorts-split depth (cells_taken i) enough) lt)
    by_test local false d false e k = absurd (cc)
