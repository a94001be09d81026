-- The operations of the instructions that rewriting emits in place of others: rows of the table at their opcodes.
use Rattle.std.proofs.Common.{◌≡◌, ◌⊎◌, ℕ, ◌-◌, ◌%◌, ◌<◌, ◌==◌, Bool, true, false, ◌||◌, if◌then◌else◌, inl, inr, List}
use Rattle.std.proofs.Common.{[], ◌∷◌, map, replicate, Result, Ok, Err, refl, sym, ◌∙◌, ap, subst, arith}
use Rattle.std.specs.Prelude.{pos, ℤ}
use Rattle.std.specs.List.{range_with_len}
use Rattle.std.proofs.lemmas.Bool.Decides.{nat_tests}
use Rattle.std.proofs.Math.Nat.{mod-eq_of_lt}
use Rattle.jc_base.specs.Each.{Each}
use Rattle.jc_base.specs.declared.ty.Kind.{Kind}
use Rattle.jc_base.specs.declared.ty.Kind.TheVariants as cells
use Rattle.jc_base.specs.declared.record.MethodRec.{MethodRec}
use Rattle.jc_base.specs.World.{Linked, member_at}
use Rattle.jc_decode.specs.declared.insn.Insn.{Insn}
use Rattle.jc_decode.specs.Forms.{wide}
use Rattle.jc_decode.specs.Symbols.{jump}
use Rattle.jc_decode.proofs.Passed.{passed-at}
use Rattle.jc_ops.specs.declared.fault.RuleFault.{RuleFault}
use Rattle.jc_ops.specs.declared.operation.Branch.{Branch}
use Rattle.jc_ops.specs.declared.operation.Branch.TheVariants as branches
use Rattle.jc_ops.specs.declared.operation.Holder.TheVariants as holders
use Rattle.jc_ops.specs.declared.operation.InstanceField.{InstanceField}
use Rattle.jc_ops.specs.declared.operation.Move.TheVariants as moves
use Rattle.jc_ops.specs.declared.operation.Operation.{Operation}
use Rattle.jc_ops.specs.declared.operation.Operation.TheVariants as ops
use Rattle.jc_ops.specs.declared.operation.Width.{Width}
use Rattle.jc_ops.specs.Resolve.{resolved, on, instance_field, short_of}
use Rattle.jc_ops.specs.Row.{row_at, table, unused, by_sort, by_width, by_kind}
use Rattle.jc_ops.specs.Row.{first_four, by_register, literals, binaries, orders_all, branching}
use Rattle.xf_emission.specs.Move.{with_byte}
use Rattle.xf_emission.proofs.RowByRow as kind
use Rattle.xf_emission.proofs.RowByRow.{kind_at, kinds, kind-of}
use Rattle.xf_emission.specs.Mnemonics.{from_read, from_write, swap_x, goto_w, pop, pop2}
use Rattle.jc_rules.proofs.Decides.{ok-same}

-- ---- the opcodes of a kind

abbrev is_increase : kind.Kind → Bool
is_increase kind.increasing = true
is_increase k = false

abbrev is_reading : kind.Kind → Bool
is_reading kind.reading = true
is_reading k = false

abbrev is_writing : kind.Kind → Bool
is_writing kind.writing = true
is_writing k = false

abbrev is_branching : kind.Kind → Bool
is_branching kind.branching_kind = true
is_branching k = false

abbrev increases : ℕ → Bool
increases op = if is_increase (kind_at op) then op == 89 || (op == 90 || (op == 150 || op == 151)) else true

abbrev reads : ℕ → Bool
reads op = if is_reading (kind_at op) then op == 173 || (op == 174 || (op == 175 || op == 176)) else true

abbrev writes : ℕ → Bool
writes op = if is_writing (kind_at op) then op == 181 || (op == 182 || (op == 183 || op == 184)) else true

increases-all : map increases (range_with_len 0 256) ≡ replicate 256 true
unfolding kind_at kinds
increases-all = refl

reads-all : map reads (range_with_len 0 256) ≡ replicate 256 true
unfolding kind_at kinds
reads-all = refl

writes-all : map writes (range_with_len 0 256) ≡ replicate 256 true
unfolding kind_at kinds
writes-all = refl

one-of : (op a b c d : ℕ) → (op == a || (op == b || (op == c || op == d))) ≡ true → (op ≡ a) ⊎ (op ≡ b) ⊎ (op ≡ c) ⊎ (op ≡ d)
one-of op a b c d e = by (op == a) (op == b) (op == c) (op == d) refl refl refl refl e
  where
    is : (m : ℕ) → (op == m) ≡ true → op ≡ m
    is m e = grind (arith, nat_tests, e)

    by : (p q r s : Bool) → (op == a) ≡ p → (op == b) ≡ q → (op == c) ≡ r → (op == d) ≡ s → (p || (q || (r || s))) ≡ true → (op ≡ a)
        ⊎ (op ≡ b) ⊎ (op ≡ c) ⊎ (op ≡ d)
    by true q r s e f g h t = inl (is a e)
    by false true r s e f g h t = inr (inl (is b f))
    by false false true s e f g h t = inr (inr (inl (is c g)))
    by false false false true e f g h t = inr (inr (inr (is d h)))
    by false false false false e f g h t = absurd (cc)

when : (b : Bool) (x : Bool) → b ≡ true → (if b then x else true) ≡ true → x ≡ true
when true x e f = f
when false x e f = absurd (cc)

-- ---- increments

at-register : ℕ → Operation → Operation
at-register k (ops.Increment width x amount) = ops.Increment width k amount
at-register k op = op

-- an increment of another register
pub increased-at : (w : Linked) (m r : MethodRec) (place n : ℕ) (i : Insn) (width : Width) (x k : ℕ) (amount : ℤ) → i.op < 256 → k < 256
    → resolved w m place i (row_at i.op) ≡ Ok (ops.Increment width x amount) → resolved w r n (record i { x = pos k }) (row_at i.op)
    ≡ Ok (ops.Increment width k amount)
unfolding row_at table by_sort by_width by_kind first_four by_register literals binaries orders_all branching unused at-register
increased-at w m r place n i width x k amount lt small e =
    by (one-of i.op 89 90 150 151 (when (is_increase (kind_at i.op)) _ (ap is_increase (sym is)) (passed-at increases increases-all i.op lt)))
  where
    is : kind.increasing ≡ kind_at i.op
    is = kind-of w m place i (ops.Increment width x amount) lt e

    again : (op : ℕ) → i.op ≡ op → resolved w r n (record i { x = pos k }) (row_at op) ≡ Ok (ops.Increment width k amount)
        → resolved w r n (record i { x = pos k }) (row_at i.op) ≡ Ok (ops.Increment width k amount)
    again op own f = ap (λ o. resolved w r n (record i { x = pos k }) (row_at o)) own ∙ f

    here : (op : ℕ) → i.op ≡ op → resolved w m place i (row_at op) ≡ Ok (ops.Increment width x amount)
    here op own = ap (λ o. resolved w m place i (row_at o)) (sym own) ∙ e

    moved : (a : Operation) → ◌≡◌ {A = Result Operation RuleFault} (Ok a) (Ok (ops.Increment width x amount))
        → ◌≡◌ {A = Result Operation RuleFault} (Ok (at-register k a)) (Ok (ops.Increment width k amount))
    moved a f = ap (λ o. Ok (at-register k o)) (ok-same f)

    byte : (v : Width) → ◌≡◌ {A = Result Operation RuleFault} (Ok (ops.Increment v (k % 256) i.y)) (Ok (ops.Increment v k i.y))
    byte v = ap (λ (j : ℕ). Ok (ops.Increment v j i.y)) (mod-eq_of_lt {n = k} {m = 256} small)

    by : (i.op ≡ 89) ⊎ (i.op ≡ 90) ⊎ (i.op ≡ 150) ⊎ (i.op ≡ 151) → resolved w r n (record i { x = pos k }) (row_at i.op)
        ≡ Ok (ops.Increment width k amount)
    by (inl own) = again 89 own (byte _ ∙ moved _ (here 89 own))
    by (inr (inl own)) = again 90 own (byte _ ∙ moved _ (here 90 own))
    by (inr (inr (inl own))) = again 150 own (byte _ ∙ moved _ (here 150 own))
    by (inr (inr (inr own))) = again 151 own (byte _ ∙ moved _ (here 151 own))

-- ---- fields of `this`

on-stack : Operation → Operation
on-stack (ops.FieldRead f h) = ops.FieldRead f holders.Stack
on-stack (ops.FieldWrite f h) = ops.FieldWrite f holders.Stack
on-stack op = op

read-again : (found : Result InstanceField RuleFault) (f : InstanceField) → on (λ g. ops.FieldRead g holders.This) found
    ≡ Ok (ops.FieldRead f holders.This) → on (λ g. ops.FieldRead g holders.Stack) found ≡ Ok (ops.FieldRead f holders.Stack)
unfolding on-stack
read-again (Ok g) f e = ap (λ o. Ok (on-stack o)) (ok-same e)
read-again (Err fault) f e = absurd (cc)

write-again : (found : Result InstanceField RuleFault) (f : InstanceField) → on (λ g. ops.FieldWrite g holders.This) found
    ≡ Ok (ops.FieldWrite f holders.This) → on (λ g. ops.FieldWrite g holders.Stack) found ≡ Ok (ops.FieldWrite f holders.Stack)
unfolding on-stack
write-again (Ok g) f e = ap (λ o. Ok (on-stack o)) (ok-same e)
write-again (Err fault) f e = absurd (cc)

-- a read of a field of `this`, as that of an object on the stack
pub read-on-stack : (w : Linked) (m r : MethodRec) (place n : ℕ) (i : Insn) (f : InstanceField) → i.op < 256 → m.package ≡ r.package
    → resolved w m place i (row_at i.op) ≡ Ok (ops.FieldRead f holders.This) → resolved w r n (record i { op = i.op - from_read }) (row_at (i.op - from_read))
    ≡ Ok (ops.FieldRead f holders.Stack)
unfolding row_at table by_sort by_width by_kind first_four by_register literals binaries orders_all branching unused
read-on-stack w m r place n i f lt home e =
    by (one-of i.op 173 174 175 176 (when (is_reading (kind_at i.op)) _ (ap is_reading (sym is)) (passed-at reads reads-all i.op lt)))
  where
    is : kind.reading ≡ kind_at i.op
    is = kind-of w m place i (ops.FieldRead f holders.This) lt e

    here : (op : ℕ) → i.op ≡ op → resolved w m place i (row_at op) ≡ Ok (ops.FieldRead f holders.This)
    here op own = ap (λ o. resolved w m place i (row_at o)) (sym own) ∙ e

    again : (op : ℕ) → i.op ≡ op → resolved w r n (record i { op = op - from_read }) (row_at (op - from_read)) ≡ Ok (ops.FieldRead f holders.Stack)
        → resolved w r n (record i { op = i.op - from_read }) (row_at (i.op - from_read)) ≡ Ok (ops.FieldRead f holders.Stack)
    again op own g = ap (λ o. resolved w r n (record i { op = o - from_read }) (row_at (o - from_read))) own ∙ g

    member : (k : Kind) → instance_field w.classes (short_of i.x) k (member_at w r.package (short_of i.x)) ≡ instance_field w.classes (short_of i.x) k
        (member_at w m.package (short_of i.x))
    member k = ap (λ p. instance_field w.classes (short_of i.x) k (member_at w p (short_of i.x))) (sym home)

    row : (k : Kind) → on (λ g. ops.FieldRead g holders.This) (instance_field w.classes (short_of i.x) k (member_at w m.package (short_of i.x)))
        ≡ Ok (ops.FieldRead f holders.This)
        → on (λ g. ops.FieldRead g holders.Stack) (instance_field w.classes (short_of i.x) k (member_at w r.package (short_of i.x)))
        ≡ Ok (ops.FieldRead f holders.Stack)
    row k g = grind (arith, read-again)

    by : (i.op ≡ 173) ⊎ (i.op ≡ 174) ⊎ (i.op ≡ 175) ⊎ (i.op ≡ 176) → resolved w r n (record i { op = i.op - from_read }) (row_at (i.op - from_read))
        ≡ Ok (ops.FieldRead f holders.Stack)
    by (inl own) = again 173 own (row cells.Ref (here 173 own))
    by (inr (inl own)) = again 174 own (row cells.Byte (here 174 own))
    by (inr (inr (inl own))) = again 175 own (row cells.Short (here 175 own))
    by (inr (inr (inr own))) = again 176 own (row cells.Int (here 176 own))

-- a write of a field of `this`, as that of an object on the stack
pub write-on-stack : (w : Linked) (m r : MethodRec) (place n : ℕ) (i : Insn) (f : InstanceField) → i.op < 256 → m.package ≡ r.package
    → resolved w m place i (row_at i.op) ≡ Ok (ops.FieldWrite f holders.This) → resolved w r n (record i { op = i.op - from_write })
    (row_at (i.op - from_write))
    ≡ Ok (ops.FieldWrite f holders.Stack)
unfolding row_at table by_sort by_width by_kind first_four by_register literals binaries orders_all branching unused
write-on-stack w m r place n i f lt home e =
    by (one-of i.op 181 182 183 184 (when (is_writing (kind_at i.op)) _ (ap is_writing (sym is)) (passed-at writes writes-all i.op lt)))
  where
    is : kind.writing ≡ kind_at i.op
    is = kind-of w m place i (ops.FieldWrite f holders.This) lt e

    here : (op : ℕ) → i.op ≡ op → resolved w m place i (row_at op) ≡ Ok (ops.FieldWrite f holders.This)
    here op own = ap (λ o. resolved w m place i (row_at o)) (sym own) ∙ e

    again : (op : ℕ) → i.op ≡ op → resolved w r n (record i { op = op - from_write }) (row_at (op - from_write)) ≡ Ok (ops.FieldWrite f holders.Stack)
        → resolved w r n (record i { op = i.op - from_write }) (row_at (i.op - from_write)) ≡ Ok (ops.FieldWrite f holders.Stack)
    again op own g = ap (λ o. resolved w r n (record i { op = o - from_write }) (row_at (o - from_write))) own ∙ g

    member : (k : Kind) → instance_field w.classes (short_of i.x) k (member_at w r.package (short_of i.x)) ≡ instance_field w.classes (short_of i.x) k
        (member_at w m.package (short_of i.x))
    member k = ap (λ p. instance_field w.classes (short_of i.x) k (member_at w p (short_of i.x))) (sym home)

    row : (k : Kind) → on (λ g. ops.FieldWrite g holders.This) (instance_field w.classes (short_of i.x) k (member_at w m.package (short_of i.x)))
        ≡ Ok (ops.FieldWrite f holders.This)
        → on (λ g. ops.FieldWrite g holders.Stack) (instance_field w.classes (short_of i.x) k (member_at w r.package (short_of i.x)))
        ≡ Ok (ops.FieldWrite f holders.Stack)
    row k g = grind (arith, write-again)

    by : (i.op ≡ 181) ⊎ (i.op ≡ 182) ⊎ (i.op ≡ 183) ⊎ (i.op ≡ 184) → resolved w r n (record i { op = i.op - from_write }) (row_at (i.op - from_write))
        ≡ Ok (ops.FieldWrite f holders.Stack)
    by (inl own) = again 181 own (row cells.Ref (here 181 own))
    by (inr (inl own)) = again 182 own (row cells.Byte (here 182 own))
    by (inr (inr (inl own))) = again 183 own (row cells.Short (here 183 own))
    by (inr (inr (inr own))) = again 184 own (row cells.Int (here 184 own))

-- ---- goto, pop and swaps

pub goto-is : (w : Linked) (r : MethodRec) (n : ℕ) → resolved w r n (jump goto_w) (row_at goto_w) ≡ Ok (ops.Branch branches.Always)
unfolding row_at table by_sort by_width by_kind first_four by_register literals binaries orders_all branching unused
goto-is w r n = refl

pub pop-is : (w : Linked) (r : MethodRec) (n : ℕ) (i : Insn) → resolved w r n i (row_at pop) ≡ Ok (ops.Move moves.Pop)
unfolding row_at table by_sort by_width by_kind first_four by_register literals binaries orders_all branching unused
pop-is w r n i = refl

pub pop-two-is : (w : Linked) (r : MethodRec) (n : ℕ) (i : Insn) → resolved w r n i (row_at pop2) ≡ Ok (ops.Move moves.PopTwo)
unfolding row_at table by_sort by_width by_kind first_four by_register literals binaries orders_all branching unused
pop-two-is w r n i = refl

pub swap-one-is : (w : Linked) (r : MethodRec) (n : ℕ) → resolved w r n (with_byte swap_x 17) (row_at swap_x) ≡ Ok (ops.Move (moves.Exchange 1 1))
unfolding row_at table by_sort by_width by_kind first_four by_register literals binaries orders_all branching unused
swap-one-is w r n = refl

pub swap-two-is : (w : Linked) (r : MethodRec) (n : ℕ) → resolved w r n (with_byte swap_x 18) (row_at swap_x) ≡ Ok (ops.Move (moves.Exchange 1 2))
unfolding row_at table by_sort by_width by_kind first_four by_register literals binaries orders_all branching unused
swap-two-is w r n = refl

-- ---- branches

abbrev branches_all : List ℕ
branches_all =
    96 ∷ 97 ∷ 98 ∷ 99 ∷ 100 ∷ 101 ∷ 102 ∷ 103 ∷ 104 ∷ 105 ∷ 106 ∷ 107 ∷ 108 ∷ 109 ∷ 110 ∷ 111 ∷ 112
    ∷ 152 ∷ 153 ∷ 154 ∷ 155 ∷ 156 ∷ 157 ∷ 158 ∷ 159 ∷ 160 ∷ 161 ∷ 162 ∷ 163 ∷ 164 ∷ 165 ∷ 166 ∷ 167 ∷ 168 ∷ []

abbrev is_in : ℕ → List ℕ → Bool
is_in op [] = false
is_in op (k ∷ ks) = op == k || is_in op ks

abbrev branch_test : ℕ → Bool
branch_test op = if is_branching (kind_at op) then is_in op branches_all else true

branch-all : map branch_test (range_with_len 0 256) ≡ replicate 256 true
unfolding kind_at kinds
branch-all = refl

each-is : (P : ℕ → Type 0) (op : ℕ) (ks : List ℕ) → Each P ks → is_in op ks ≡ true → P op
each-is P op [] all e = absurd (cc)
each-is P op (k ∷ ks) all e = by (op == k) refl e (λ f. each-is P op ks all.1 f)
  where
    by : (b : Bool) → (op == k) ≡ b → (b || is_in op ks) ≡ true → (is_in op ks ≡ true → P op) → P op
    by true q f rest = let own : op ≡ k = grind (arith, nat_tests, q) in subst P (sym own) all.0
    by false q f rest = rest f

wide-alike : (w : Linked) (m r : MethodRec) (place n : ℕ) (i : Insn)
    → Each (λ op. resolved w r n (jump (wide op)) (row_at (wide op)) ≡ resolved w m place i (row_at op)) branches_all
unfolding row_at table by_sort by_width by_kind first_four by_register literals binaries orders_all branching unused
wide-alike w m r place n i = grind (arith)

-- a branch in its wide form
pub wide-is : (w : Linked) (m r : MethodRec) (place n : ℕ) (i : Insn) (b : Branch) → i.op < 256
    → resolved w m place i (row_at i.op) ≡ Ok (ops.Branch b) → resolved w r n (jump (wide i.op)) (row_at (wide i.op)) ≡ Ok (ops.Branch b)
wide-is w m r place n i b lt e =
    let is : kind.branching_kind ≡ kind_at i.op = kind-of w m place i (ops.Branch b) lt e in
    let among = when (is_branching (kind_at i.op)) (is_in i.op branches_all) (ap is_branching (sym is)) (passed-at branch_test branch-all i.op lt) in
    each-is (λ op. resolved w r n (jump (wide op)) (row_at (wide op)) ≡ resolved w m place i (row_at op)) i.op branches_all (wide-alike w m r place n i)
    among ∙ e
