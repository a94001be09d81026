-- The labels among the items of a rewritten method, in their order.
use Rattle.std.proofs.Common.{◌≡◌, ℕ, zero, suc, ◌+◌, Bool, if◌then◌else◌, List, [], ◌∷◌, ◌++◌, map, reverse, flat_map}
use Rattle.std.proofs.Common.{Option, Some, None, Result, Ok, refl, sym, ◌∙◌, ap, arith}
use Rattle.std.specs.Prelude.{ℤ, count_by, cond, ◌==◌, is_some}
use Rattle.std.proofs.lemmas.List.Sums.{sum_by-cons}
use Rattle.jc_base.specs.declared.record.Handler.{Handler}
use Rattle.jc_base.specs.declared.ty.Kind.{Kind}
use Rattle.jc_decode.specs.declared.insn.Placed.{Placed}
use Rattle.jc_decode.specs.declared.symbols.Item.{Item}
use Rattle.jc_decode.specs.declared.symbols.Item.TheVariants.{Plain, Branch, Switch, Label}
use Rattle.jc_decode.specs.Symbols.{is_label}
use Rattle.jc_ops.specs.declared.fault.RuleFault.{RuleFault}
use Rattle.jc_ops.specs.declared.operation.Branch.TheVariants as branches
use Rattle.jc_ops.specs.declared.operation.Holder.TheVariants as holders
use Rattle.jc_ops.specs.declared.operation.Sort.{Sort}
use Rattle.jc_ops.specs.declared.operation.Operation.{Operation}
use Rattle.jc_ops.specs.declared.operation.Operation.TheVariants as ops
use Rattle.jc_rules.specs.Demand.{Frame}
use Rattle.xf_homes.specs.declared.home.Home.{Home}
use Rattle.xf_homes.specs.Home.{register_count}
use Rattle.xf_homes.specs.Walk.{has, operands_of}
use Rattle.xf_homes.specs.Source.{Source}
use Rattle.xf_homes.specs.Plan.{stack_homes, needed, local, is_leader, operation}
use Rattle.xf_emission.specs.declared.origin.Origin.{Origin}
use Rattle.xf_emission.specs.Move.{store, copy, loads, spill}
use Rattle.xf_emission.specs.Edge.{home_before, copy_new, copies_from, local_copies, locals_copies, copies, cell_copies}
use Rattle.xf_emission.specs.Jump.{branch_copies, jump_to, branch, goto, place, stub_label, stub_of, stub, handler_label}
use Rattle.xf_emission.specs.Group.{loaded, increased, pop_item, store_to_homes, field_read, field_written, gone, branch_by, body, fall}
use Rattle.xf_emission.specs.Group.{fall_over, fall_by, fallen, done, group_by, group}
use Rattle.xf_emission.specs.Emission.{catching_stub}

-- the numbers of the labels
abbrev pub labels : List Item → List ℕ
labels [] = []
labels (Label l ∷ items) = l ∷ labels items
labels (Plain i ∷ items) = labels items
labels (Branch op l ∷ items) = labels items
labels (Switch i at ls ∷ items) = labels items

pub labels-append : (xs ys : List Item) → labels (xs ++ ys) ≡ labels xs ++ labels ys
labels-append [] ys = refl
labels-append (Label l ∷ xs) ys = ap (λ ls. l ∷ ls) (labels-append xs ys)
labels-append (Plain i ∷ xs) ys = labels-append xs ys
labels-append (Branch op l ∷ xs) ys = labels-append xs ys
labels-append (Switch i at ls ∷ xs) ys = labels-append xs ys

-- two lists without labels
pub none-both : (xs ys : List Item) → labels xs ≡ [] → labels ys ≡ [] → labels (xs ++ ys) ≡ []
none-both xs ys a b = labels-append xs ys ∙ ap (λ ls. ls ++ labels ys) a ∙ b

none-if : (b : Bool) (xs ys : List Item) → labels xs ≡ [] → labels ys ≡ [] → labels (if b then xs else ys) ≡ []
none-if x xs ys a b = grind (arith)

none-flat : {X : Type 0} (f : X → List Item) (xs : List X) → ((x : X) → labels (f x) ≡ []) → labels (flat_map f xs) ≡ []
none-flat f [] h = refl
none-flat f (x ∷ xs) h = none-both (f x) (flat_map f xs) (h x) (none-flat f xs h)

-- ---- moves and copies

pub loads-none : (s : Source) (hs : List Home) → labels (loads s hs) ≡ []
loads-none s [] = refl
loads-none s (h ∷ hs) = loads-none s hs

stores-none : (s : Source) (hs : List Home) → labels (map (store s) hs) ≡ []
stores-none s [] = refl
stores-none s (h ∷ hs) = stores-none s hs

pub spill-none : (s : Source) (hs : List Home) → labels (spill s hs) ≡ []
unfolding spill
spill-none s hs = stores-none s (reverse hs)

module _ (s : Source) (o : Origin) (q : ℕ) where
  local-none : (x : ℕ) → labels (local_copies s o q x) ≡ []
  unfolding local_copies
  local-none x = by (home_before s o x)
    where
      new : (from : Home) (there : List Home) (to : Home) → labels (copy_new s from there to) ≡ []
      new from there to = none-if (has there to) [] (copy s from to) refl refl

      by : (h : Option Home) → labels (copies_from s o q x h) ≡ []
      by x = grind (arith, none-flat)

  locals-none : (x n : ℕ) → labels (locals_copies s o q x n) ≡ []
  locals-none x zero = refl
  locals-none x (suc n) = none-both (local_copies s o q x) (locals_copies s o q (suc x) n) (local-none x) (locals-none (suc x) n)

  pub copies-none : labels (copies s o q) ≡ []
  unfolding copies
  copies-none = locals-none 0 (register_count s.method.rec)

cells-none : (s : Source) (hs ks : List Home) → labels (cell_copies s hs ks) ≡ []
cells-none s [] ks = refl
cells-none s (h ∷ hs) [] = refl
cells-none s (h ∷ hs) (k ∷ ks) = grind (arith, none-both, none-if, cells-none s hs ks)

pub taken-none : (s : Source) (p : ℕ) (op : Operation) (n q : ℕ) → labels (branch_copies s p op n q) ≡ []
unfolding branch_copies
taken-none s p op n q = grind (arith, none-both, cells-none, copies-none)

-- ---- instructions

module _ (s : Source) (i : Placed) where
  jump-none : (op : Operation) (ls : List ℕ) → labels (jump_to i op ls ∷ []) ≡ []
  jump-none op ls = grind (arith)

  branch-none : (op : Operation) (n : ℕ) → labels (branch s i op n) ≡ []
  unfolding branch
  branch-none op n = grind (arith, none-both, none-if, spill-none, loads-none, jump-none)

  loaded-none : (h : Option Home) → labels (loaded s i h) ≡ []
  loaded-none x = grind (arith)

  increased-none : (h : Option Home) → labels (increased s i h) ≡ []
  increased-none x = grind (arith)

  popped-none : (letter : Sort) → labels (pop_item letter ∷ []) ≡ []
  popped-none letter = grind (arith)

  stored-none : (letter : Sort) (hs : List Home) → labels (store_to_homes s letter hs) ≡ []
  stored-none letter y = grind (arith, popped-none, none-flat)

  read-none : (h : Option Home) → labels (field_read s i h) ≡ []
  read-none x = grind (arith, none-if)

  written-none : (k : Kind) (h : Option Home) → labels (field_written s i k h) ≡ []
  written-none k y = grind (arith, none-if)

  gone-none : (op : Operation) (q : ℕ) → labels (gone s i.place op q) ≡ []
  gone-none op q = grind (arith, none-both, spill-none, copies-none)

  by-none : (op : Operation) (n : Option ℕ) → labels (branch_by s i op n) ≡ []
  by-none op y = grind (arith, branch-none)

  pub body-none : (op : Operation) → labels (body s i op) ≡ []
  unfolding body
  body-none (ops.Load letter x) = loaded-none (local s i.place x)
  body-none (ops.Increment width x amount) = increased-none (local s i.place x)
  body-none (ops.Store letter x) = stored-none letter (needed s (i.place + i.insn.len) x)
  body-none (ops.FieldRead f holders.This) = read-none (local s i.place 0)
  body-none (ops.FieldWrite f holders.This) = written-none f.kind (local s i.place 0)
  body-none (ops.Branch branches.Always) = gone-none (ops.Branch branches.Always) _
  body-none op = by-none op (operands_of s.world (Ok op))

  fall-none : (op : Operation) (q : ℕ) → labels (fall s i.place op q) ≡ []
  fall-none op q = grind (arith, none-both, none-if, spill-none, copies-none)

  over-none : (op : Operation) (n q : ℕ) → labels (fall_over s i.place op n q) ≡ []
  over-none op n q = grind (arith, none-if, taken-none, none-both, copies-none, loads-none)

  fall-by-none : (op : Operation) (n : Option ℕ) (q : ℕ) → labels (fall_by s i.place op n q) ≡ []
  fall-by-none op y q = grind (arith, fall-none, none-if, over-none)

  pub fallen-none : (op : Operation) → labels (fallen s i op) ≡ []
  unfolding fallen
  fallen-none op = grind (arith, none-if, fall-by-none)

  -- ---- groups

  done-none : (r : Result Operation RuleFault) → labels (done s i r) ≡ []
  done-none x = grind (arith, none-both, body-none, fallen-none)

  -- a group has the label of its place alone
  pub group-label : labels (group s i) ≡ (if is_some (s.frames i.place) then i.place ∷ [] else [])
  unfolding group
  group-label = by (s.frames i.place)
    where
      by : (f : Option Frame) → labels (group_by s i f) ≡ (if is_some f then i.place ∷ [] else [])
      by None = refl
      by (Some f) =
          ap (λ ls. i.place ∷ ls)
          (none-both (if is_leader s i.place then loads s (stack_homes s i.place) else []) (done s i (operation s i))
          (none-if (is_leader s i.place) (loads s (stack_homes s i.place)) [] (loads-none s (stack_homes s i.place)) refl) (done-none (operation s i)))

-- ---- stubs

abbrev pub label_if : List Item → ℕ → List ℕ
label_if [] l = []
label_if (i ∷ is) l = l ∷ []

pub stub-label : (s : Source) (p : ℕ) (op : Operation) (n k : ℕ) (t : ℤ)
    → labels (stub s p op n k t) ≡ label_if (branch_copies s p op n (place t)) (stub_label p k)
unfolding stub
stub-label s p op n k t = by (branch_copies s p op n (place t)) (taken-none s p op n (place t))
  where
    by : (copied : List Item) → labels copied ≡ [] → labels (stub_of (stub_label p k) (place t) copied) ≡ label_if copied (stub_label p k)
    by [] e = refl
    by (i ∷ is) e = ap (λ ls. stub_label p k ∷ ls) (none-both (i ∷ is) (goto (place t) ∷ []) e refl)

pub caught-label : (s : Source) (n : ℕ) (h : Handler) → labels (catching_stub s n h) ≡ handler_label n ∷ []
caught-label s n h = grind (arith, none-both, spill-none, copies-none)

-- ---- counting

-- a label occurs as often as its number
pub count-labels : (l : ℕ) (xs : List Item) → count_by (is_label l) xs ≡ count_by (λ m. m == l) (labels xs)
count-labels l [] = refl
count-labels l (Label m ∷ xs) =
    sum_by-cons (λ x. cond (is_label l x) 1 0) (Label m) xs ∙ ap (λ k. cond (m == l) 1 0 + k) (count-labels l xs)
    ∙ sym (sum_by-cons (λ x. cond (x == l) 1 0) m (labels xs))
count-labels l (Plain i ∷ xs) = sum_by-cons (λ x. cond (is_label l x) 1 0) (Plain i) xs ∙ omega (arith, count-labels l xs)
count-labels l (Branch op m ∷ xs) = sum_by-cons (λ x. cond (is_label l x) 1 0) (Branch op m) xs ∙ omega (arith, count-labels l xs)
count-labels l (Switch i at ls ∷ xs) = sum_by-cons (λ x. cond (is_label l x) 1 0) (Switch i at ls) xs ∙ omega (arith, count-labels l xs)
