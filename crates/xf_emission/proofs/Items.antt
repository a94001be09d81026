-- The items of a rewritten method are such as are laid.
use Rattle.std.proofs.Common.{ℕ, zero, suc, ◌<◌, Bool, if◌then◌else◌, List, [], ◌∷◌, map, reverse, flat_map, Option, Some, None, arith}
use Rattle.std.proofs.Common.{lit<}
use Rattle.jc_base.specs.Each.{Each}
use Rattle.jc_base.specs.declared.ty.Kind.{Kind}
use Rattle.jc_base.specs.declared.ty.Ty.{Ty}
use Rattle.jc_base.proofs.Eaching.{Each-append}
use Rattle.jc_decode.specs.declared.symbols.Item.{Item}
use Rattle.jc_decode.specs.declared.symbols.Item.TheVariants.{Plain}
use Rattle.jc_decode.specs.Layout.{layout_of, opcode}
use Rattle.jc_decode.specs.Symbols.{IsItem}
use Rattle.jc_ops.specs.declared.operation.Sort.{Sort}
use Rattle.xf_homes.specs.declared.home.Home.{Home}
use Rattle.xf_homes.specs.Home.{register_count}
use Rattle.xf_homes.specs.Walk.{has}
use Rattle.xf_homes.specs.Source.{Source}
use Rattle.xf_homes.specs.Plan.{register, stack_homes, needed}
use Rattle.jc_ops.specs.declared.operation.Operation.{Operation}
use Rattle.xf_emission.specs.declared.origin.Origin.{Origin}
use Rattle.xf_emission.specs.declared.origin.Origin.TheVariants.{After}
use Rattle.xf_emission.specs.Move.{with_byte, load_op, store_op, load, store, copy, loads, spill}
use Rattle.xf_emission.specs.Edge.{home_before, homes_held, copy_new, copies_from, local_copies, locals_copies, copies, cell_copies}
use Rattle.xf_emission.specs.Jump.{under, branch_copies}
use Rattle.xf_emission.specs.Group.{pop_item, swap_words}
use Rattle.xf_emission.specs.Mnemonics.{swap_x}

-- ---- lists

pub each-if : {X : Type 0} (P : X → Type 0) (b : Bool) (xs ys : List X) → Each P xs → Each P ys → Each P (if b then xs else ys)
each-if x y xs ys a b = grind (arith)

pub each-flat : {X Y : Type 0} (P : Y → Type 0) (f : X → List Y) (xs : List X) → ((x : X) → Each P (f x)) → Each P (flat_map f xs)
each-flat P f [] h = tt
each-flat P f (x ∷ xs) h = Each-append P (f x) (flat_map f xs) (h x) (each-flat P f xs h)

pub each-map : {X Y : Type 0} (P : Y → Type 0) (f : X → Y) (xs : List X) → ((x : X) → P (f x)) → Each P (map f xs)
each-map P f [] h = tt
each-map P f (x ∷ xs) h = (h x, each-map P f xs h)

-- ---- moves and copies

module _ (code : List ℕ) (all : List Item) (s : Source) (small : (h : Home) → register s h < 256) where
  load-by : (t : Ty) (r : ℕ) → r < 256 → IsItem code all (Plain (with_byte (load_op t) r))
  unfolding layout_of opcode
  load-by t r lt = grind (arith)

  store-by : (t : Ty) (r : ℕ) → r < 256 → IsItem code all (Plain (with_byte (store_op t) r))
  unfolding layout_of opcode
  store-by t r lt = grind (arith)

  pub load-suits : (h : Home) → IsItem code all (load s h)
  load-suits h = load-by h.ty (register s h) (small h)

  pub store-suits : (h : Home) → IsItem code all (store s h)
  store-suits h = store-by h.ty (register s h) (small h)

  pub copy-suits : (from to : Home) → Each (IsItem code all) (copy s from to)
  copy-suits from to = (load-suits from, (store-suits to, tt))

  pub loads-suit : (hs : List Home) → Each (IsItem code all) (loads s hs)
  loads-suit hs = each-map (IsItem code all) (load s) hs load-suits

  pub spill-suits : (hs : List Home) → Each (IsItem code all) (spill s hs)
  unfolding spill
  spill-suits hs = each-map (IsItem code all) (store s) (reverse hs) store-suits

  module _ (o : Origin) (q : ℕ) where
    local-suits : (x : ℕ) → Each (IsItem code all) (local_copies s o q x)
    unfolding local_copies
    local-suits x = by (home_before s o x)
      where
        by : (h : Option Home) → Each (IsItem code all) (copies_from s o q x h)
        by None = tt
        by (Some from) = each-flat (IsItem code all) (copy_new s from (homes_held s o x from)) (needed s q x)
            (λ to. each-if (IsItem code all) (has (homes_held s o x from) to) [] (copy s from to) tt (copy-suits from to))

    locals-suit : (x n : ℕ) → Each (IsItem code all) (locals_copies s o q x n)
    locals-suit x zero = tt
    locals-suit x (suc n) = Each-append (IsItem code all) (local_copies s o q x) (locals_copies s o q (suc x) n) (local-suits x) (locals-suit (suc x) n)

    pub copies-suit : Each (IsItem code all) (copies s o q)
    unfolding copies
    copies-suit = locals-suit 0 (register_count s.method.rec)

  pub cells-suit : (hs ks : List Home) → Each (IsItem code all) (cell_copies s hs ks)
  cells-suit [] ks = tt
  cells-suit (h ∷ hs) [] = tt
  cells-suit (h ∷ hs) (k ∷ ks) = grind (arith, each-if, copy-suits, cells-suit hs ks)

  pub taken-suits : (p : ℕ) (op : Operation) (n q : ℕ) → Each (IsItem code all) (branch_copies s p op n q)
  unfolding branch_copies
  taken-suits p op n q =
      Each-append (IsItem code all) (cell_copies s (under s p n) (stack_homes s q)) (copies s (After p op) q) (cells-suit (under s p n) (stack_homes s q))
      (copies-suit (After p op) q)

  -- ---- what is emitted beside

  pub popped-suits : (letter : Sort) → IsItem code all (pop_item letter)
  unfolding layout_of opcode
  popped-suits letter = grind (arith)

  pub swap-suits : (k : Kind) → IsItem code all (Plain (with_byte swap_x (swap_words k)))
  unfolding layout_of opcode
  swap-suits k = grind (arith, lit<)
