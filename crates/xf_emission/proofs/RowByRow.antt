-- The form of an operation by the opcode of its instruction; and only what `new` makes rests on the place.
use Rattle.std.proofs.Common.{◌≡◌, ◌<◌, ℕ, zero, suc, Bool, true, false, if◌then◌else◌, List, [], ◌∷◌, ◌++◌, length, replicate}
use Rattle.std.proofs.Common.{Option, Some, Result, Ok, Err, refl, sym, ap, ◌∙◌, arith}
use Rattle.std.specs.Prelude.{slice_index_or, ⊤}
use Rattle.jc_base.specs.declared.record.Member.{Member}
use Rattle.jc_base.specs.declared.record.Member.TheVariants.{ClassOf}
use Rattle.jc_base.specs.declared.record.MethodRec.{MethodRec}
use Rattle.jc_base.specs.Dispatch.{is_concrete}
use Rattle.jc_base.specs.World.{Linked}
use Rattle.jc_decode.specs.declared.insn.Insn.{Insn}
use Rattle.jc_ops.specs.declared.fault.RuleFault.{RuleFault}
use Rattle.jc_ops.specs.declared.fault.RuleFault.TheVariants.{NotConcrete}
use Rattle.jc_ops.specs.declared.operation.Holder.{Holder}
use Rattle.jc_ops.specs.declared.operation.Holder.TheVariants as holders
use Rattle.jc_ops.specs.declared.operation.Operation.{Operation}
use Rattle.jc_ops.specs.declared.operation.Operation.TheVariants as ops
use Rattle.jc_ops.specs.Row.{row_at, table, unused, by_sort, by_width, by_kind}
use Rattle.jc_ops.specs.Row.{first_four, by_register, literals, binaries, orders_all, branching}
use Rattle.jc_ops.specs.Resolve.{resolved, on, new_object}
use Rattle.jc_rules.proofs.Decides.{ok-same}

-- what the emission asks of an operation: a branch, a switch, an increment, a read or a write of a field of `this`, or something else
pub data Kind : Type 0 where
  branching_kind : Kind
  switching : Kind
  increasing : Kind
  reading : Kind
  writing : Kind
  other_kind : Kind

abbrev by_holder : Kind → Holder → Kind
by_holder k holders.This = k
by_holder k holders.Stack = other_kind

abbrev pub op_kind : Operation → Kind
op_kind (ops.Branch b) = branching_kind
op_kind (ops.Switch width) = switching
op_kind (ops.Increment width x amount) = increasing
op_kind (ops.FieldRead f h) = by_holder reading h
op_kind (ops.FieldWrite f h) = by_holder writing h
op_kind op = other_kind

-- the operation at another place
abbrev pub moved_to : ℕ → Operation → Operation
moved_to place (ops.New old c) = ops.New place c
moved_to place op = op

-- the kinds by opcode
unfoldable pub kinds : List Kind
kinds =
    replicate 89 other_kind ++ replicate 2 increasing ++ replicate 5 other_kind ++ replicate 17 branching_kind ++ replicate 2 other_kind
    ++ replicate 4 switching ++ replicate 31 other_kind ++ replicate 2 increasing ++ replicate 17 branching_kind ++ replicate 4 other_kind
    ++ replicate 4 reading ++ replicate 4 other_kind ++ replicate 4 writing ++ replicate 71 other_kind

unfoldable pub kind_at : ℕ → Kind
kind_at op = slice_index_or kinds op other_kind

-- ---- what a row gives

-- the operations that are made so are of a kind, and at another place they are as here
record Gives (resolve : Linked → MethodRec → ℕ → Insn → Result Operation RuleFault) (k : Kind) : Type 0 where
  kind : (w : Linked) (m : MethodRec) (place : ℕ) (i : Insn) (op : Operation) → resolve w m place i ≡ Ok op → op_kind op ≡ k
  moved : (w : Linked) (m : MethodRec) (place other : ℕ) (i : Insn) (op : Operation) → resolve w m place i ≡ Ok op
      → resolve w m other i ≡ Ok (moved_to other op)

-- the operation is at hand
plain : (f : Insn → Operation) (k : Kind) → ((i : Insn) (n : ℕ) → ◌≡◌ {A = Kind × Operation} (op_kind (f i), f i) (k, moved_to n (f i)))
    → Gives (λ w m place i. Ok (f i)) k
plain f k is = record {
  kind = λ w m place i op e. ap op_kind (sym (ok-same e)) ∙ ap (λ q. q.0) (is i place);
  moved = λ w m place other i op e. ap Ok (ap (λ q. q.1) (is i other) ∙ ap (moved_to other) (ok-same e));
}

-- it is made of what is named
named : {X : Type 0} (f : X → Operation) (find : Linked → MethodRec → Insn → Result X RuleFault) (k : Kind)
    → ((x : X) (n : ℕ) → ◌≡◌ {A = Kind × Operation} (op_kind (f x), f x) (k, moved_to n (f x)))
    → Gives (λ w m place i. on f (find w m i)) k
named {X = X} f find k is = record {
  kind = λ w m place i op e. by-kind (find w m i) op e;
  moved = λ w m place other i op e. by-place (find w m i) other op e;
}
  where
    by-kind : (r : Result X RuleFault) (op : Operation) → on f r ≡ Ok op → op_kind op ≡ k
    by-kind (Ok x) op e = ap op_kind (sym (ok-same e)) ∙ ap (λ q. q.0) (is x 0)
    by-kind (Err fault) op e = absurd (cc)

    by-place : (r : Result X RuleFault) (other : ℕ) (op : Operation) → on f r ≡ Ok op → on f r ≡ Ok (moved_to other op)
    by-place x other op e = grind (arith, ok-same)

-- an object is made at the place
made : (pool : Insn → ℕ) (find : Linked → MethodRec → Insn → Option Member) → Gives (λ w m place i. new_object w place (pool i) (find w m i))
    other_kind
made pool find = record {
  kind = λ w m place i op e. by-kind w place (pool i) (find w m i) op e;
  moved = λ w m place other i op e. by-place w place other (pool i) (find w m i) op e;
}
  where
    by-kind : (w : Linked) (place pool : ℕ) (m : Option Member) (op : Operation) → new_object w place pool m ≡ Ok op → op_kind op ≡ other_kind
    by-kind w place pool (Some (ClassOf c)) op e = by (is_concrete w.classes w.methods c) e
      where
        by : (b : Bool) → (if b then Ok (ops.New place c) else Err (NotConcrete c)) ≡ Ok op → op_kind op ≡ other_kind
        by true e = ap op_kind (sym (ok-same e))
        by false e = absurd (cc)
    by-kind w place pool m op e = absurd (cc)

    by-place : (w : Linked) (place other pool : ℕ) (m : Option Member) (op : Operation) → new_object w place pool m ≡ Ok op
        → new_object w other pool m ≡ Ok (moved_to other op)
    by-place w place other pool (Some (ClassOf c)) op e = by (is_concrete w.classes w.methods c) e
      where
        by : (b : Bool) → (if b then Ok (ops.New place c) else Err (NotConcrete c)) ≡ Ok op
            → (if b then Ok (ops.New other c) else Err (NotConcrete c)) ≡ Ok (moved_to other op)
        by true e = ap (λ o. Ok (moved_to other o)) (ok-same e)
        by false e = absurd (cc)
    by-place w place other pool m op e = absurd (cc)

-- ---- all rows

abbrev AllGive : {R : Type 0} → (R → Linked → MethodRec → ℕ → Insn → Result Operation RuleFault) → List R → List Kind → Type 0
AllGive f [] ks = ⊤
AllGive f (r ∷ rs) [] = ⊥
AllGive f (r ∷ rs) (k ∷ ks) = Gives (f r) k × AllGive f rs ks

gives-at : {R : Type 0} (f : R → Linked → MethodRec → ℕ → Insn → Result Operation RuleFault) (rs : List R) (ks : List Kind) (d : R)
    → AllGive f rs ks → (n : ℕ) → n < length rs
    → Gives (f (slice_index_or rs n d)) (slice_index_or ks n other_kind)
gives-at f [] ks d all n lt = absurd (omega arith)
gives-at f (r ∷ rs) [] d all n lt = absurd all
gives-at f (r ∷ rs) (k ∷ ks) d all zero lt = all.0
gives-at f (r ∷ rs) (k ∷ ks) d all (suc n) lt = gives-at f rs ks d all.1 n (omega arith)

pair : {A B : Type 0} → A → B → A × B
pair a b = (a, b)

-- row by row
all-give : AllGive (λ row w m place i. resolved w m place i row) table kinds
unfolding table by_sort by_width by_kind first_four by_register literals binaries orders_all branching unused kinds
all-give =
    (pair (plain _ _ (λ i n. refl)) (pair (plain _ _ (λ i n. refl)) (pair (plain _ _ (λ i n. refl)) (pair (plain _ _ (λ i n. refl))
    (pair (plain _ _ (λ i n. refl)) (pair (plain _ _ (λ i n. refl)) (pair (plain _ _ (λ i n. refl)) (pair (plain _ _ (λ i n. refl))
    (pair (plain _ _ (λ i n. refl)) (pair (plain _ _ (λ i n. refl)) (pair (plain _ _ (λ i n. refl)) (pair (plain _ _ (λ i n. refl))
    (pair (plain _ _ (λ i n. refl)) (pair (plain _ _ (λ i n. refl)) (pair (plain _ _ (λ i n. refl)) (pair (plain _ _ (λ i n. refl))
    (pair (plain _ _ (λ i n. refl)) (pair (plain _ _ (λ i n. refl)) (pair (plain _ _ (λ i n. refl)) (pair (plain _ _ (λ i n. refl))
    (pair (plain _ _ (λ i n. refl)) (pair (plain _ _ (λ i n. refl)) (pair (plain _ _ (λ i n. refl)) (pair (plain _ _ (λ i n. refl))
    (pair (plain _ _ (λ i n. refl)) (pair (plain _ _ (λ i n. refl)) (pair (plain _ _ (λ i n. refl)) (pair (plain _ _ (λ i n. refl))
    (pair (plain _ _ (λ i n. refl)) (pair (plain _ _ (λ i n. refl)) (pair (plain _ _ (λ i n. refl)) (pair (plain _ _ (λ i n. refl))
    (pair (plain _ _ (λ i n. refl)) (pair (plain _ _ (λ i n. refl)) (pair (plain _ _ (λ i n. refl)) (pair (plain _ _ (λ i n. refl))
    (pair (plain _ _ (λ i n. refl)) (pair (plain _ _ (λ i n. refl)) (pair (plain _ _ (λ i n. refl)) (pair (plain _ _ (λ i n. refl))
    (pair (plain _ _ (λ i n. refl)) (pair (plain _ _ (λ i n. refl)) (pair (plain _ _ (λ i n. refl)) (pair (plain _ _ (λ i n. refl))
    (pair (plain _ _ (λ i n. refl)) (pair (plain _ _ (λ i n. refl)) (pair (plain _ _ (λ i n. refl)) (pair (plain _ _ (λ i n. refl))
    (pair (plain _ _ (λ i n. refl)) (pair (plain _ _ (λ i n. refl)) (pair (plain _ _ (λ i n. refl)) (pair (plain _ _ (λ i n. refl))
    (pair (plain _ _ (λ i n. refl)) (pair (plain _ _ (λ i n. refl)) (pair (plain _ _ (λ i n. refl)) (pair (plain _ _ (λ i n. refl))
    (pair (plain _ _ (λ i n. refl)) (pair (plain _ _ (λ i n. refl)) (pair (plain _ _ (λ i n. refl)) (pair (plain _ _ (λ i n. refl))
    (pair (plain _ _ (λ i n. refl)) (pair (plain _ _ (λ i n. refl)) (pair (plain _ _ (λ i n. refl)) (pair (plain _ _ (λ i n. refl))
    (pair (plain _ _ (λ i n. refl)) (pair (plain _ _ (λ i n. refl)) (pair (plain _ _ (λ i n. refl)) (pair (plain _ _ (λ i n. refl))
    (pair (plain _ _ (λ i n. refl)) (pair (plain _ _ (λ i n. refl)) (pair (plain _ _ (λ i n. refl)) (pair (plain _ _ (λ i n. refl))
    (pair (plain _ _ (λ i n. refl)) (pair (plain _ _ (λ i n. refl)) (pair (plain _ _ (λ i n. refl)) (pair (plain _ _ (λ i n. refl))
    (pair (plain _ _ (λ i n. refl)) (pair (plain _ _ (λ i n. refl)) (pair (plain _ _ (λ i n. refl)) (pair (plain _ _ (λ i n. refl))
    (pair (plain _ _ (λ i n. refl)) (pair (plain _ _ (λ i n. refl)) (pair (plain _ _ (λ i n. refl)) (pair (plain _ _ (λ i n. refl))
    (pair (plain _ _ (λ i n. refl)) (pair (plain _ _ (λ i n. refl)) (pair (plain _ _ (λ i n. refl)) (pair (plain _ _ (λ i n. refl))
    (pair (plain _ _ (λ i n. refl)) (pair (plain _ _ (λ i n. refl)) (pair (plain _ _ (λ i n. refl)) (pair (plain _ _ (λ i n. refl))
    (pair (plain _ _ (λ i n. refl)) (pair (plain _ _ (λ i n. refl)) (pair (plain _ _ (λ i n. refl)) (pair (plain _ _ (λ i n. refl))
    (pair (plain _ _ (λ i n. refl)) (pair (plain _ _ (λ i n. refl)) (pair (plain _ _ (λ i n. refl)) (pair (plain _ _ (λ i n. refl))
    (pair (plain _ _ (λ i n. refl)) (pair (plain _ _ (λ i n. refl)) (pair (plain _ _ (λ i n. refl)) (pair (plain _ _ (λ i n. refl))
    (pair (plain _ _ (λ i n. refl)) (pair (plain _ _ (λ i n. refl)) (pair (plain _ _ (λ i n. refl)) (pair (plain _ _ (λ i n. refl))
    (pair (plain _ _ (λ i n. refl)) (pair (plain _ _ (λ i n. refl)) (pair (plain _ _ (λ i n. refl)) (pair (plain _ _ (λ i n. refl))
    (pair (plain _ _ (λ i n. refl)) (pair (plain _ _ (λ i n. refl)) (pair (plain _ _ (λ i n. refl)) (pair (plain _ _ (λ i n. refl))
    (pair (plain _ _ (λ i n. refl)) (pair (plain _ _ (λ i n. refl)) (pair (plain _ _ (λ i n. refl)) (pair (named _ _ _ (λ x n. refl))
    (pair (named _ _ _ (λ x n. refl)) (pair (named _ _ _ (λ x n. refl)) (pair (named _ _ _ (λ x n. refl)) (pair (named _ _ _ (λ x n. refl))
    (pair (named _ _ _ (λ x n. refl)) (pair (named _ _ _ (λ x n. refl)) (pair (named _ _ _ (λ x n. refl)) (pair (named _ _ _ (λ x n. refl))
    (pair (named _ _ _ (λ x n. refl)) (pair (named _ _ _ (λ x n. refl)) (pair (named _ _ _ (λ x n. refl)) (pair (named _ _ _ (λ x n. refl))
    (pair (named _ _ _ (λ x n. refl)) (pair (named _ _ _ (λ x n. refl)) (pair (named _ _ _ (λ x n. refl)) (pair (named _ _ _ (λ x n. refl))
    (pair (named _ _ _ (λ x n. refl)) (pair (named _ _ _ (λ x n. refl)) (pair (named _ _ _ (λ x n. refl)) (pair (named _ _ _ (λ x n. refl))
    (pair (named _ _ _ (λ x n. refl)) (pair (named _ _ _ (λ x n. refl)) (pair (named _ _ _ (λ x n. refl)) (pair (made _ _)
    (pair (plain _ _ (λ i n. refl)) (pair (named _ _ _ (λ x n. refl)) (pair (plain _ _ (λ i n. refl)) (pair (plain _ _ (λ i n. refl))
    (pair (named _ _ _ (λ x n. refl)) (pair (named _ _ _ (λ x n. refl)) (pair (plain _ _ (λ i n. refl)) (pair (plain _ _ (λ i n. refl))
    (pair (plain _ _ (λ i n. refl)) (pair (plain _ _ (λ i n. refl)) (pair (plain _ _ (λ i n. refl)) (pair (plain _ _ (λ i n. refl))
    (pair (plain _ _ (λ i n. refl)) (pair (plain _ _ (λ i n. refl)) (pair (plain _ _ (λ i n. refl)) (pair (plain _ _ (λ i n. refl))
    (pair (plain _ _ (λ i n. refl)) (pair (plain _ _ (λ i n. refl)) (pair (plain _ _ (λ i n. refl)) (pair (plain _ _ (λ i n. refl))
    (pair (plain _ _ (λ i n. refl)) (pair (plain _ _ (λ i n. refl)) (pair (plain _ _ (λ i n. refl)) (pair (plain _ _ (λ i n. refl))
    (pair (plain _ _ (λ i n. refl)) (pair (named _ _ _ (λ x n. refl)) (pair (named _ _ _ (λ x n. refl)) (pair (named _ _ _ (λ x n. refl))
    (pair (named _ _ _ (λ x n. refl)) (pair (named _ _ _ (λ x n. refl)) (pair (named _ _ _ (λ x n. refl)) (pair (named _ _ _ (λ x n. refl))
    (pair (named _ _ _ (λ x n. refl)) (pair (named _ _ _ (λ x n. refl)) (pair (named _ _ _ (λ x n. refl)) (pair (named _ _ _ (λ x n. refl))
    (pair (named _ _ _ (λ x n. refl)) (pair (named _ _ _ (λ x n. refl)) (pair (named _ _ _ (λ x n. refl)) (pair (named _ _ _ (λ x n. refl))
    (pair (named _ _ _ (λ x n. refl)) (pair (plain _ _ (λ i n. refl)) (pair (plain _ _ (λ i n. refl)) (pair (plain _ _ (λ i n. refl))
    (pair (plain _ _ (λ i n. refl)) (pair (plain _ _ (λ i n. refl)) (pair (plain _ _ (λ i n. refl)) (pair (plain _ _ (λ i n. refl))
    (pair (plain _ _ (λ i n. refl)) (pair (plain _ _ (λ i n. refl)) (pair (plain _ _ (λ i n. refl)) (pair (plain _ _ (λ i n. refl))
    (pair (plain _ _ (λ i n. refl)) (pair (plain _ _ (λ i n. refl)) (pair (plain _ _ (λ i n. refl)) (pair (plain _ _ (λ i n. refl))
    (pair (plain _ _ (λ i n. refl)) (pair (plain _ _ (λ i n. refl)) (pair (plain _ _ (λ i n. refl)) (pair (plain _ _ (λ i n. refl))
    (pair (plain _ _ (λ i n. refl)) (pair (plain _ _ (λ i n. refl)) (pair (plain _ _ (λ i n. refl)) (pair (plain _ _ (λ i n. refl))
    (pair (plain _ _ (λ i n. refl)) (pair (plain _ _ (λ i n. refl)) (pair (plain _ _ (λ i n. refl)) (pair (plain _ _ (λ i n. refl))
    (pair (plain _ _ (λ i n. refl)) (pair (plain _ _ (λ i n. refl)) (pair (plain _ _ (λ i n. refl)) (pair (plain _ _ (λ i n. refl))
    (pair (plain _ _ (λ i n. refl)) (pair (plain _ _ (λ i n. refl)) (pair (plain _ _ (λ i n. refl)) (pair (plain _ _ (λ i n. refl))
    (pair (plain _ _ (λ i n. refl)) (pair (plain _ _ (λ i n. refl)) (pair (plain _ _ (λ i n. refl)) (pair (plain _ _ (λ i n. refl))
    (pair (plain _ _ (λ i n. refl)) (pair (plain _ _ (λ i n. refl)) (pair (plain _ _ (λ i n. refl)) (pair (plain _ _ (λ i n. refl))
    (pair (plain _ _ (λ i n. refl)) (pair (plain _ _ (λ i n. refl)) (pair (plain _ _ (λ i n. refl)) (pair (plain _ _ (λ i n. refl))
    (pair (plain _ _ (λ i n. refl)) (pair (plain _ _ (λ i n. refl)) (pair (plain _ _ (λ i n. refl)) (pair (plain _ _ (λ i n. refl))
    (pair (plain _ _ (λ i n. refl)) (pair (plain _ _ (λ i n. refl)) (pair (plain _ _ (λ i n. refl)) (pair (plain _ _ (λ i n. refl))
    (pair (plain _ _ (λ i n. refl)) (pair (plain _ _ (λ i n. refl)) (pair (plain _ _ (λ i n. refl)) (pair (plain _ _ (λ i n. refl))
    (pair (plain _ _ (λ i n. refl)) (pair (plain _ _ (λ i n. refl)) (pair (plain _ _ (λ i n. refl)) (pair (plain _ _ (λ i n. refl))
    (pair (plain _ _ (λ i n. refl)) (pair (plain _ _ (λ i n. refl)) (pair (plain _ _ (λ i n. refl)) (pair (plain _ _ (λ i n. refl))
    (pair (plain _ _ (λ i n. refl))
    (pair (plain _ _ (λ i n. refl))
    (pair (plain _ _ (λ i n. refl))
    (pair (plain _ _ (λ i n. refl))
    tt))))))))))))))))))))))))))))))))))))))))))))))))))))))))))))))))))))))))))))))))))))))))))))))))))))))))))))))))))))))))))))))))))))))))))))))))))))))))))))))))))))))))))))))))))))))))))))))))))))))))))))))))))))))))))))))))))))))))))))))))))))))))))))))))

in-table : (op : ℕ) → op < 256 → op < length table
unfolding table by_sort by_width by_kind first_four by_register literals binaries orders_all branching unused
in-table op lt = lt

pub kind-of : (w : Linked) (m : MethodRec) (place : ℕ) (i : Insn) (op : Operation) → i.op < 256 → resolved w m place i (row_at i.op) ≡ Ok op
    → op_kind op ≡ kind_at i.op
unfolding row_at kind_at
kind-of w m place i op lt e =
    (gives-at (λ row w m place i. resolved w m place i row) table kinds unused all-give i.op (in-table i.op lt)).kind w m place i op e

-- the operation of an instruction at another place
pub resolved-elsewhere : (w : Linked) (m : MethodRec) (place other : ℕ) (i : Insn) (op : Operation) → i.op < 256 → resolved w m place i (row_at i.op)
    ≡ Ok op → resolved w m other i (row_at i.op) ≡ Ok (moved_to other op)
unfolding row_at
resolved-elsewhere w m place other i op lt e =
    (gives-at (λ row w m place i. resolved w m place i row) table kinds unused all-give i.op (in-table i.op lt)).moved w m place other i op e
