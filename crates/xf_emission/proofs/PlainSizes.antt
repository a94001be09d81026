-- The plain size of a rewritten method: each edge has no more copies than there are homes.
use Rattle.std.proofs.Common.{◌≡◌, ℕ, zero, suc, ◌+◌, ◌-◌, ◌*◌, ◌≤◌, Bool, true, false, if◌then◌else◌, inl, inr, List, []}
use Rattle.std.proofs.Common.{◌∷◌, ◌++◌, map, reverse, flat_map, length, Option, Some, None}
use Rattle.std.proofs.Common.{Result, Ok, Err, refl, sym, ◌∙◌, ap, subst, arith}
use Rattle.std.proofs.Common.{length-append}
use Rattle.std.specs.Prelude.{ℤ, is_some, nat_lt, nat_le, count_by, cond, IsSomeAnd}
use Rattle.std.specs.List.{filter}
use Rattle.std.proofs.lemmas.List.{length-reverse}
use Rattle.std.proofs.lemmas.List.Sums.{length-filter, sum_by-append, sum_by-cons}
use Rattle.jc_base.proofs.Eaching.{Each-at}
use Rattle.jc_base.specs.Each.{IsAmong}
use Rattle.jc_base.specs.Laws.{SameTypeDecides}
use Rattle.jc_base.specs.declared.ty.Kind.{Kind}
use Rattle.jc_base.specs.declared.ty.Ty.{Ty}
use Rattle.jc_base.specs.declared.ty.Ty.TheVariants.{Short, IntHigh}
use Rattle.jc_base.specs.declared.record.Handler.{Handler}
use Rattle.jc_base.specs.World.{Linked}
use Rattle.jc_decode.specs.declared.insn.Insn.{Insn}
use Rattle.jc_decode.specs.declared.insn.Placed.{Placed}
use Rattle.jc_decode.specs.declared.symbols.Item.{Item}
use Rattle.jc_decode.specs.declared.symbols.Item.TheVariants.{Plain, Label}
use Rattle.jc_decode.specs.Decoding.{decoded}
use Rattle.jc_decode.specs.Layout.{operand_width}
use Rattle.jc_decode.specs.Listing.{targets, Lists}
use Rattle.jc_decode.specs.Symbols.{plain_bytes, plain_size}
use Rattle.jc_decode.proofs.Decoded.{IsWithin-decoded}
use Rattle.jc_ops.specs.declared.fault.RuleFault.{RuleFault}
use Rattle.jc_ops.specs.declared.operation.Branch.TheVariants as branches
use Rattle.jc_ops.specs.declared.operation.Holder.TheVariants as holders
use Rattle.jc_ops.specs.declared.operation.Sort.{Sort}
use Rattle.jc_ops.specs.declared.operation.Operation.{Operation}
use Rattle.jc_ops.specs.declared.operation.Operation.TheVariants as ops
use Rattle.jc_rules.specs.Demand.{Frame}
use Rattle.xf_homes.specs.declared.home.Home.{Home}
use Rattle.xf_homes.specs.Home.{register_count, IsAsked, asked_here, asked_caught}
use Rattle.xf_homes.specs.Laws.{AreNeeded, AreAskedInOrder, NeededAreKept, HasRegister, Serve, HomesServe}
use Rattle.xf_homes.specs.Order.{register_sum}
use Rattle.xf_homes.specs.Value.{type_width as home_width, value_in_cells}
use Rattle.xf_homes.specs.Walk.{operands_of, register_from, same_home, has}
use Rattle.xf_homes.proofs.Events.{homes-equal}
use Rattle.xf_homes.specs.Source.{Source}
use Rattle.xf_homes.specs.Plan.{register, local, needed, stack_homes, cells_from, depth}
use Rattle.xf_homes.specs.Plan.{home_of, with_home_of, stack_of, is_leader, operation}
use Rattle.xf_emission.specs.declared.origin.Origin.{Origin}
use Rattle.xf_emission.specs.Move.{with_byte, load_op, store_op, load, store, copy, loads, spill}
use Rattle.xf_emission.specs.Edge.{home_before, homes_held, copy_new, copies_from, local_copies, locals_copies, copies, cell_copies}
use Rattle.xf_emission.specs.Jump.{under, operands, branch_copies, place, each_once, jump_to, branch, goto, stub, stub_of}
use Rattle.xf_emission.specs.Jump.{stubs_of, operands_slot}
use Rattle.xf_emission.specs.Group.{itself, loaded, increased, pop_item, store_to_homes, stays}
use Rattle.xf_emission.specs.Group.{field_read, field_written, swap_words, gone, first_place}
use Rattle.xf_emission.specs.Group.{branch_by, body, fall, fall_by, fallen, entrance, done, group_by, group}
use Rattle.xf_emission.specs.Emission.{stubs, stubs_at, stubs_by, stubs_done, is_live, catching_stub, catching_stubs, items}
use Rattle.xf_emission.specs.Laws.{IsCode, HasFrames, PlainSizeFits}
use Rattle.xf_emission.proofs.Fewer.{Distinct, no-longer, either-among, distinct-append}
use Rattle.xf_emission.proofs.TwoBytes.{two-bytes}
use Rattle.xf_emission.proofs.Ways.{ways-few}
use Rattle.xf_emission.specs.Mnemonics.{from_read, from_write, swap_x}
use Rattle.jc_decode.proofs.PlainLengths.{own-length, plain-length}

-- ---- sizes of lists

none-size : plain_size [] ≡ 0
none-size = refl

cons-size : (x : Item) (xs : List Item) → plain_size (x ∷ xs) ≡ plain_bytes x + plain_size xs
cons-size x xs = sum_by-cons plain_bytes x xs

append-size : (xs ys : List Item) → plain_size (xs ++ ys) ≡ plain_size xs + plain_size ys
append-size xs ys = sum_by-append plain_bytes xs ys

if-size : (b : Bool) (xs ys : List Item) (n : ℕ) → plain_size xs ≤ n → plain_size ys ≤ n → plain_size (if b then xs else ys) ≤ n
if-size x xs ys n h k = grind (arith)

-- ---- one item

load-size : (s : Source) (h : Home) → plain_bytes (load s h) ≡ 2
load-size s h = by h.ty
  where
    by : (t : Ty) → plain_bytes (Plain (with_byte (load_op t) (register s h))) ≡ 2
    by Short = refl
    by IntHigh = refl
    by t = refl

store-size : (s : Source) (h : Home) → plain_bytes (store s h) ≡ 2
store-size s h = by h.ty
  where
    by : (t : Ty) → plain_bytes (Plain (with_byte (store_op t) (register s h))) ≡ 2
    by Short = refl
    by IntHigh = refl
    by t = refl

-- ---- moves and copies

module _ (s : Source) where
  copy-size : (h k : Home) → plain_size (copy s h k) ≤ 4
  copy-size h k = omega (arith, cons-size (load s h) (store s k ∷ []), cons-size (store s k) [], none-size, load-size s h, store-size s k)

  loads-size : (hs : List Home) → plain_size (loads s hs) ≤ 2 * length hs
  loads-size [] = omega (arith, none-size)
  loads-size (h ∷ hs) = omega (arith, cons-size (load s h) (loads s hs), load-size s h, loads-size hs)

  stores-size : (hs : List Home) → plain_size (map (store s) hs) ≤ 2 * length hs
  stores-size [] = omega (arith, none-size)
  stores-size (h ∷ hs) = omega (arith, cons-size (store s h) (map (store s) hs), store-size s h, stores-size hs)

  spill-size : (hs : List Home) → plain_size (spill s hs) ≤ 2 * length hs
  unfolding spill
  spill-size hs = omega (arith, stores-size (reverse hs), length-reverse hs)

  each-copied : (f : Home → List Item) (hs : List Home) → ((h : Home) → plain_size (f h) ≤ 4) → plain_size (flat_map f hs) ≤ 4 * length hs
  each-copied f [] small = omega (arith, none-size)
  each-copied f (h ∷ hs) small = omega (arith, append-size (f h) (flat_map f hs), small h, each-copied f hs small)

  local-size : (o : Origin) (q x : ℕ) → plain_size (local_copies s o q x) ≤ 4 * length (needed s q x)
  unfolding local_copies
  local-size o q x = by (home_before s o x)
    where
      by : (h : Option Home) → plain_size (copies_from s o q x h) ≤ 4 * length (needed s q x)
      by None = omega (arith, none-size)
      by (Some from) =
          each-copied (copy_new s from (homes_held s o x from)) (needed s q x)
          (λ to. if-size (has (homes_held s o x from) to) [] (copy s from to) 4 (omega (arith, none-size)) (copy-size from to))

  -- what is needed of so many locals from x on
  abbrev needed_from : ℕ → ℕ → ℕ → List Home
  needed_from q x zero = []
  needed_from q x (suc n) = needed s q x ++ needed_from q (suc x) n

  locals-size : (o : Origin) (q x n : ℕ) → plain_size (locals_copies s o q x n) ≤ 4 * length (needed_from q x n)
  locals-size o q x zero = omega (arith, none-size)
  locals-size o q x (suc n) = grind (arith, append-size, suc, local-size, length-append, locals-size o q (suc x) n)

  cells-size : (hs ks : List Home) → plain_size (cell_copies s hs ks) ≤ 4 * length hs
  cells-size [] ks = omega (arith, none-size)
  cells-size (h ∷ hs) [] = omega (arith, none-size)
  cells-size (h ∷ hs) (k ∷ ks) =
      grind (
        arith,
        append-size (if same_home h k then [] else copy s h k) (cell_copies s hs ks),
        if-size (same_home h k) [] (copy s h k) 4 (omega (arith, none-size)) (copy-size h k),
        cells-size hs ks,
      )

  cells-few : (slot : ℕ) (ts : List Ty) (i n : ℕ) → length (cells_from slot ts i n) ≤ n
  cells-few slot ts i zero = omega arith
  cells-few slot ts i (suc n) = by (home_of (slot + i) (value_in_cells ts i)) (cells-few slot ts (suc i) n)
    where
      by : (h : Option Home) → length (cells_from slot ts (suc i) n) ≤ n → length (with_home_of h (cells_from slot ts (suc i) n)) ≤ suc n
      by None le = omega (arith, le)
      by (Some h) le = omega (arith, le)

filter-few : (f : Home → Bool) (hs : List Home) → length (filter f hs) ≤ length hs
filter-few f hs = omega (arith, length-filter f hs, counted hs)
  where
    counted : (hs : List Home) → count_by f hs ≤ length hs
    counted [] = omega (arith, none)
      where
        none : count_by f [] ≡ 0
        none = refl
    counted (h ∷ hs) = by (f h) (sum_by-cons (λ k. cond (f k) 1 0) h hs) (counted hs)
      where
        by : (b : Bool) → count_by f (h ∷ hs) ≡ cond b 1 0 + count_by f hs → count_by f hs ≤ length hs → count_by f (h ∷ hs) ≤ length (h ∷ hs)
        by true e le = omega (arith, e, le)
        by false e le = omega (arith, e, le)

-- ---- the homes that are needed

pub homes-few : (hs : List Home) → length hs ≤ register_sum hs
unfolding register_sum
homes-few [] = omega arith
homes-few (h ∷ hs) = omega (arith, wide h.ty, homes-few hs, sum_by-cons (λ (k : Home). home_width k.ty) h hs)
  where
    wide : (t : Ty) → 1 ≤ home_width t
    wide IntHigh = omega arith
    wide t = omega arith

pub in-homes : (same : SameTypeDecides) (n : ℕ) (hs : List Home) (h : Home) (r : ℕ) → register_from n hs h ≡ Some r → IsAmong h hs
in-homes same n [] h r e = absurd (cc)
in-homes same n (k ∷ ks) h r e = by (same_home k h) refl e (λ f. in-homes same (n + home_width k.ty) ks h r f)
  where
    by : (b : Bool) → same_home k h ≡ b → (if b then Some n else register_from (n + home_width k.ty) ks h) ≡ Some r
        → (register_from (n + home_width k.ty) ks h ≡ Some r → IsAmong h ks) → IsAmong h (k ∷ ks)
    by true q e rest = inl (homes-equal same k h q)
    by false q e rest = inr (rest e)

pub in-order-distinct : (s : Source) (q x : ℕ) (hs : List Home) → AreAskedInOrder s.method s.frames q x hs → Distinct hs
in-order-distinct s q x [] o = tt
in-order-distinct s q x (h ∷ hs) o = grind (arith, Each-at, in-order-distinct s q x hs o.1)

module _ (same : SameTypeDecides) (kept_are : NeededAreKept) (s : Source) (has_frames : HasFrames s) (serve : Serve s.world s.method s.frames s.homes) where
  framed : (o : Option Frame) (P : Frame → Type 0) → IsSomeAnd o P → is_some o ≡ true
  framed x y h = grind (arith)

  asked-home : (q x n : ℕ) (ty : Ty) → IsAsked s.method s.frames q x n ty → HasRegister s.homes (record { slot = x; ty = ty })
  asked-home q x _ ty (asked_here at) = serve.needed q x ty ((has_frames.reached q).0 (framed (s.frames q) _ at)) (0, asked_here at)
  asked-home q x _ ty (asked_caught {n = n} {h = h} there covers at) =
      serve.needed h.entry x ty ((has_frames.reached h.entry).0 (framed (s.frames h.entry) _ at)) (0, asked_here at)

  needed-are : (q x : ℕ) → AreNeeded s.method s.frames q x (needed s q x)
  unfolding needed
  needed-are q x = kept_are s.method s.frames q x

  slot-of : (q x : ℕ) (h : Home) → IsAmong h (needed s q x) → h.slot ≡ x
  slot-of q x h a = (((needed-are q x).all h).0 a).0

  needed-home : (q x : ℕ) (h : Home) → IsAmong h (needed s q x) → IsAmong h s.homes
  needed-home q x h a =
      let n = ((needed-are q x).all h).0 a in
      let r = asked-home q x n.1.0 h.ty n.1.1 in
      in-homes same 0 s.homes h r.0 (subst (λ (k : ℕ). register_from 0 s.homes (record { slot = k; ty = h.ty }) ≡ Some r.0) (sym n.0) r.1)

  slots-from : (q x n : ℕ) (h : Home) → IsAmong h (needed_from s q x n) → x ≤ h.slot
  slots-from q x zero h a = absurd a
  slots-from q x (suc n) h a =
      either-among (λ (k : Home). x ≤ k.slot) (needed s q x) (needed_from s q (suc x) n) (λ k b. omega (arith, slot-of q x k b))
      (λ k b. omega (arith, slots-from q (suc x) n k b)) h a

  all-distinct : (q x n : ℕ) → Distinct (needed_from s q x n)
  all-distinct q x zero = tt
  all-distinct q x (suc n) =
      distinct-append (needed s q x) (needed_from s q (suc x) n) (in-order-distinct s q x (needed s q x) (needed-are q x).order) (all-distinct q (suc x) n)
      (λ k a b. absurd (omega (arith, slot-of q x k a, slots-from q (suc x) n k b)))

  all-homes : (q x n : ℕ) (h : Home) → IsAmong h (needed_from s q x n) → IsAmong h s.homes
  all-homes q x zero h a = absurd a
  all-homes q x (suc n) h a =
      either-among (λ (k : Home). IsAmong k s.homes) (needed s q x) (needed_from s q (suc x) n) (λ k b. needed-home q x k b)
      (λ k b. all-homes q (suc x) n k b) h a

  module _ (few : register_sum s.homes ≤ 255) where
    homes-at-most : length s.homes ≤ 255
    homes-at-most = omega (arith, homes-few s.homes, few)

    pub needed-few : (q x n : ℕ) → length (needed_from s q x n) ≤ 255
    needed-few q x n = omega (arith, no-longer (needed_from s q x n) s.homes (all-distinct q x n) (all-homes q x n), homes-at-most)

    pub one-few : (q x : ℕ) → length (needed s q x) ≤ 255
    one-few q x = grind (arith, no-longer, in-order-distinct, needed-are, needed-home, homes-at-most)

    copies-size : (o : Origin) (q : ℕ) → plain_size (copies s o q) ≤ 1020
    unfolding copies
    copies-size o q = omega (arith, locals-size s o q 0 (register_count s.method.rec), needed-few q 0 (register_count s.method.rec))

    -- ---- stacks, edges and groups

    module _ (shallow : (p : ℕ) → depth s p ≤ 255) where
      stack-few : (p : ℕ) → length (stack_homes s p) ≤ 255
      unfolding stack_homes
      stack-few p = omega (arith, cells-few s (register_count s.method.rec) (stack_of (s.frames p)) 0 (length (stack_of (s.frames p))), shallow p)

      under-few : (p n : ℕ) → length (under s p n) ≤ 255
      unfolding under
      under-few p n = omega (arith, filter-few (λ h. nat_lt h.slot (operands_slot s p n)) (stack_homes s p), stack-few p)

      operands-few : (p n : ℕ) → length (operands s p n) ≤ 255
      unfolding operands
      operands-few p n = omega (arith, filter-few (λ h. nat_le (operands_slot s p n) h.slot) (stack_homes s p), stack-few p)

      taken-size : (p : ℕ) (op : Operation) (n q : ℕ) → plain_size (branch_copies s p op n q) ≤ 2040
      unfolding branch_copies
      taken-size p op n q = grind (arith, append-size, cells-size, under-few, copies-size)

      spilled : (p : ℕ) → plain_size (spill s (stack_homes s p)) ≤ 510
      spilled p = omega (arith, spill-size s (stack_homes s p), stack-few p)

      goto-size : (q : ℕ) → plain_size (goto q ∷ []) ≡ 3
      goto-size q = refl

      module _ (i : Placed) (op : Operation) where
        kept-size : plain_size (itself i) ≤ i.insn.len + 13
        kept-size = omega (arith, cons-size (Plain i.insn) [], none-size, plain-length i.insn)

        loaded-size : (h : Option Home) → plain_size (loaded s i h) ≤ i.insn.len + 13
        loaded-size x = grind (arith, kept-size, cons-size, none-size, load-size)

        increased-size : (h : Option Home) → plain_size (increased s i h) ≤ i.insn.len + 13
        increased-size x = grind (arith, kept-size, cons-size, none-size, plain-length)

        popped-size : (letter : Sort) → plain_bytes (pop_item letter) ≤ 14
        popped-size letter = grind (arith, plain-length)

        stored-size : (letter : Sort) (hs : List Home) → length hs ≤ 255 → plain_size (store_to_homes s letter hs) ≤ 1036
        stored-size letter [] le = omega (arith, cons-size (pop_item letter) [], none-size, popped-size letter)
        stored-size letter (h ∷ hs) le =
            omega (arith, cons-size (store s h) (flat_map (copy s h) hs), store-size s h, each-copied s (copy s h) hs (copy-size s h), le)

        read-size : (h : Option Home) → plain_size (field_read s i h) ≤ i.insn.len + 15
        read-size None = omega (arith, kept-size)
        read-size (Some h) =
            let j : Insn = record i.insn { op = i.insn.op - from_read } in
            if-size (stays s h) (itself i) (load s h ∷ Plain j ∷ []) (i.insn.len + 15) (omega (arith, kept-size))
            (omega (arith, cons-size (load s h) (Plain j ∷ []), cons-size (Plain j) [], none-size, load-size s h, plain-length j))

        written-size : (k : Kind) (h : Option Home) → plain_size (field_written s i k h) ≤ i.insn.len + 30
        written-size k None = omega (arith, kept-size)
        written-size k (Some h) =
            let j : Insn = record i.insn { op = i.insn.op - from_write } in
            let swap : Insn = with_byte swap_x (swap_words k) in
            if-size (stays s h) (itself i) (load s h ∷ Plain swap ∷ Plain j ∷ []) (i.insn.len + 30) (omega (arith, kept-size))
            (omega (
              arith,
              cons-size (load s h) (Plain swap ∷ Plain j ∷ []),
              cons-size (Plain swap) (Plain j ∷ []),
              cons-size (Plain j) [],
              none-size,
              load-size s h,
              plain-length swap,
              plain-length j,
            ))

        jump-size : (ls : List ℕ) → plain_bytes (jump_to i op ls) ≤ i.insn.len + 13
        jump-size ls = by op
          where
            by : (o : Operation) → plain_bytes (jump_to i o ls) ≤ i.insn.len + 13
            by (ops.Switch operand_width) = own-length i.insn
            by o = omega arith

        branch-size : (n : ℕ) → plain_size (branch s i op n) ≤ i.insn.len + 1033
        unfolding branch
        branch-size n = grind (arith, append-size, spilled, loads-size, operands-few, if-size, none-size, cons-size, jump-size)

        branch-by-size : (n : Option ℕ) → plain_size (branch_by s i op n) ≤ i.insn.len + 1033
        branch-by-size x = grind (arith, kept-size, branch-size)

        gone-size : (q : ℕ) → plain_size (gone s i.place op q) ≤ 1533
        gone-size q = grind (arith, append-size, spilled, copies-size, goto-size)

        fall-size : (q : ℕ) → plain_size (fall s i.place op q) ≤ 1530
        fall-size q = grind (arith, append-size, if-size, spilled, none-size, copies-size)

        fall-by-size : (n : Option ℕ) (q : ℕ) → plain_size (fall_by s i.place op n q) ≤ 2040
        fall-by-size x q = grind (arith, fall-size, append-size, copies-size, loads-size, under-few, if-size, taken-size)

        fallen-size : plain_size (fallen s i op) ≤ 2040
        unfolding fallen
        fallen-size = grind (arith, if-size, fall-by-size, none-size)

      body-size : (i : Placed) (op : Operation) → plain_size (body s i op) ≤ i.insn.len + 1533
      unfolding body
      body-size i (ops.Load letter x) = omega (arith, loaded-size i (ops.Load letter x) (local s i.place x))
      body-size i (ops.Increment operand_width x amount) = omega (arith, increased-size i (ops.Increment operand_width x amount) (local s i.place x))
      body-size i (ops.Store letter x) =
          omega (arith, stored-size i (ops.Store letter x) letter (needed s (i.place + i.insn.len) x) (one-few (i.place + i.insn.len) x))
      body-size i (ops.FieldRead f holders.This) = omega (arith, read-size i (ops.FieldRead f holders.This) (local s i.place 0))
      body-size i (ops.FieldWrite f holders.This) = omega (arith, written-size i (ops.FieldWrite f holders.This) f.kind (local s i.place 0))
      body-size i (ops.Branch branches.Always) = omega (arith, gone-size i (ops.Branch branches.Always) (first_place (targets s.method.code i)))
      body-size i op = omega (arith, branch-by-size i op (operands_of s.world (Ok op)))

      group-size : (i : Placed) → plain_size (group s i) ≤ i.insn.len + 4083
      unfolding group
      group-size i = by (s.frames i.place)
        where
          entered-size : plain_size (entrance s i.place) ≤ 510
          entered-size =
              omega (
                arith,
                cons-size (Label i.place) (if is_leader s i.place then loads s (stack_homes s i.place) else []),
                if-size (is_leader s i.place) (loads s (stack_homes s i.place)) [] 510
                    (omega (arith, loads-size s (stack_homes s i.place), stack-few i.place)) (omega (arith, none-size)),
              )

          done-size : (r : Result Operation RuleFault) → plain_size (done s i r) ≤ i.insn.len + 3573
          done-size x = grind (arith, none-size, append-size, body-size, fallen-size)

          by : (f : Option Frame) → plain_size (group_by s i f) ≤ i.insn.len + 4083
          by None = omega (arith, none-size)
          by (Some f) = omega (arith, append-size (entrance s i.place) (done s i (operation s i)), entered-size, done-size (operation s i))

      -- ---- stubs

      stub-of-size : (l q : ℕ) (xs : List Item) → plain_size (stub_of l q xs) ≤ plain_size xs + 3
      stub-of-size l q z = grind (arith, none-size, cons-size, append-size, goto-size)

      stubs-of-size : (p : ℕ) (op : Operation) (n k : ℕ) (ts : List ℤ) → plain_size (stubs_of s p op n k ts) ≤ 2043 * length ts
      unfolding stub
      stubs-of-size p op n k [] = omega (arith, none-size)
      stubs-of-size p op n k (t ∷ ts) = grind (arith, append-size, suc, stub-of-size, taken-size, stubs-of-size p op n (suc k) ts)

      stubs-size : (i : Placed) → plain_size (stubs s i) ≤ 2043 * length (targets s.method.code i)
      unfolding stubs
      stubs-size i = by (s.frames i.place)
        where
          by-operands : (op : Operation) (n : Option ℕ) → plain_size (stubs_by s i op n) ≤ 2043 * length (targets s.method.code i)
          by-operands op None = omega (arith, none-size)
          by-operands op (Some n) = omega (arith, stubs-of-size i.place op n 0 (each_once (targets s.method.code i)), ways-few (targets s.method.code i))

          by-operation : (r : Result Operation RuleFault) → plain_size (stubs_done s i r) ≤ 2043 * length (targets s.method.code i)
          by-operation (Err fault) = omega (arith, none-size)
          by-operation (Ok op) = by-operands op (operands_of s.world (Ok op))

          by : (f : Option Frame) → plain_size (stubs_at s i f) ≤ 2043 * length (targets s.method.code i)
          by x = grind (arith, none-size, by-operation)

      caught-size : (n : ℕ) (h : Handler) → plain_size (catching_stub s n h) ≤ 1533
      caught-size n h = grind (arith, cons-size, append-size, spilled, copies-size, goto-size)

      all-caught-size : (n : ℕ) (hs : List Handler) → plain_size (catching_stubs s n hs) ≤ 1533 * length hs
      all-caught-size n [] = omega (arith, none-size)
      all-caught-size n (h ∷ hs) =
          omega (
            arith,
            append-size (if is_live s h then catching_stub s n h else []) (catching_stubs s (suc n) hs),
            if-size (is_live s h) (catching_stub s n h) [] 1533 (caught-size n h) (omega (arith, none-size)),
            all-caught-size (suc n) hs,
          )

      -- ---- the whole

      module _ (code : IsCode s) where
        decoded-there : (at : ℕ) (i : Placed) → i.place ≡ at → decoded s.method.code at ≡ Ok i.insn → decoded s.method.code i.place ≡ Ok i.insn
        decoded-there at i e d = ap (decoded s.method.code) e ∙ d

        groups-size : (at : ℕ) (is : List Placed) → Lists s.method.code at is → at ≤ length s.method.code
            → plain_size (flat_map (group s) is) + 4084 * at ≤ 4084 * length s.method.code
        groups-size at [] l le = omega (arith, none-size)
        groups-size at (i ∷ is) l le =
            let w = IsWithin-decoded s.method.code at i.insn l.1 in
            omega (arith, append-size (group s i) (flat_map (group s) is), group-size i, w.one, groups-size (at + i.insn.len) is l.2 w.reaches)

        all-stubs-size : (at : ℕ) (is : List Placed) → Lists s.method.code at is → at ≤ length s.method.code
            → plain_size (flat_map (stubs s) is) + 2043 * at ≤ 2043 * length s.method.code
        all-stubs-size at [] l le = omega (arith, none-size)
        all-stubs-size at (i ∷ is) l le =
            let w = IsWithin-decoded s.method.code at i.insn l.1 in
            omega (
              arith,
              append-size (stubs s i) (flat_map (stubs s) is),
              stubs-size i,
              two-bytes s.method.code i code.bytes (decoded-there at i l.0 l.1),
              w.one,
              all-stubs-size (at + i.insn.len) is l.2 w.reaches,
            )

        pub all-size : plain_size (items s) ≤ 300000000
        unfolding items
        all-size = grind (arith, flat_map, append-size, cons-size, copies-size, groups-size, all-stubs-size, all-caught-size)

pub plain-size-fits : SameTypeDecides → NeededAreKept → (w : Linked) → HomesServe w → PlainSizeFits w
plain-size-fits same kept_are w serve s own code has are few shallow = grind (arith, all-size)
