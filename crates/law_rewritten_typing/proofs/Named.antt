-- What the items of a rewritten method name: the places of targets and of entries, and stubs.
use Rattle.std.proofs.Common.{◌≡◌, ℕ, zero, suc, ◌+◌, ◌<◌, Bool, true, false, if◌then◌else◌, List, [], ◌∷◌, ◌++◌, map, reverse}
use Rattle.std.proofs.Common.{flat_map, length, Contains, Option, Some, None, Result, Ok, Err, refl, ap, arith}
use Rattle.std.specs.Prelude.{ℤ, is_some, slice_get}
use Rattle.jc_base.specs.Each.{Each}
use Rattle.jc_base.specs.declared.ty.Kind.{Kind}
use Rattle.jc_base.specs.declared.record.Handler.{Handler}
use Rattle.jc_base.proofs.Eaching.{Each-append}
use Rattle.jc_decode.specs.declared.insn.Placed.{Placed}
use Rattle.jc_decode.specs.declared.symbols.Item.{Item}
use Rattle.jc_decode.specs.Listing.{listing, targets}
use Rattle.jc_ops.specs.Next.{jumps_from}
use Rattle.jc_ops.specs.declared.fault.RuleFault.{RuleFault}
use Rattle.jc_ops.specs.declared.operation.Branch.TheVariants as branches
use Rattle.jc_ops.specs.declared.operation.Holder.TheVariants as holders
use Rattle.jc_ops.specs.declared.operation.Sort.{Sort}
use Rattle.jc_ops.specs.declared.operation.Sort.TheVariants as sorts
use Rattle.jc_ops.specs.declared.operation.Operation.{Operation}
use Rattle.jc_ops.specs.declared.operation.Operation.TheVariants as ops
use Rattle.jc_rules.specs.Demand.{Frame}
use Rattle.xf_homes.specs.declared.home.Home.{Home}
use Rattle.xf_homes.specs.Home.{register_count}
use Rattle.xf_homes.specs.Walk.{has, operands_of}
use Rattle.xf_homes.specs.Source.{Source}
use Rattle.xf_homes.specs.Plan.{local, needed, stack_homes, is_leader, operation}
use Rattle.xf_emission.specs.declared.origin.Origin.{Origin}
use Rattle.xf_emission.specs.declared.origin.Origin.TheVariants.{Start, After, Entry}
use Rattle.xf_emission.specs.Move.{store, copy, loads, spill}
use Rattle.xf_emission.specs.Edge.{home_before, homes_held, copy_new, copies_from, local_copies, locals_copies, copies, cell_copies}
use Rattle.xf_emission.specs.Jump.{under, operands, has_under, spill_if, branch_copies, place}
use Rattle.xf_emission.specs.Jump.{way_of, lead, leads, first_label, jump_to, branch}
use Rattle.xf_emission.specs.Jump.{goto, stub, stub_of, stub_label, stubs_of}
use Rattle.xf_emission.specs.Group.{itself, loaded, increased, store_to_homes, field_read, field_written}
use Rattle.xf_emission.specs.Group.{gone, first_place, body, fall, fall_over}
use Rattle.xf_emission.specs.Group.{fall_by, fallen, entrance, done, group_by, group}
use Rattle.xf_emission.specs.Emission.{stubs, stubs_at, stubs_by, stubs_done, is_live, catching_stub, catching_stubs, items}
use Rattle.xf_emission.proofs.Items.{each-if, each-flat}
use Rattle.xf_emission.proofs.Ways.{way-from}
use Rattle.law_rewritten_typing.proofs.Typings.{names}

module _ (P : ℕ → Type 0) (s : Source) where
  abbrev pub IsNamed : Item → Type 0
  IsNamed x = Each P (names x)

  -- an instruction with its operation: its targets, and the way to each, are such
  pub record Names (i : Placed) (op : Operation) : Type 0 where
    pub ways : (n k : ℕ) (t : ℤ) → operands_of s.world (Ok op) ≡ Some n → slice_get (targets s.method.code i) k ≡ Some t
        → P (lead s i.place op n (way_of (targets s.method.code i) t) t)
    pub places : (k : ℕ) (t : ℤ) → slice_get (targets s.method.code i) k ≡ Some t → P (place t)
    pub some : jumps_from op ≡ true → 0 < length (targets s.method.code i)

  -- ---- moves and copies

  copy-names : (from to : Home) → Each IsNamed (copy s from to)
  copy-names from to = (tt {0}, (tt {0}, tt {0}))

  loads-name : (hs : List Home) → Each IsNamed (loads s hs)
  loads-name [] = tt
  loads-name (h ∷ hs) = (tt {0}, loads-name hs)

  stores-name : (hs : List Home) → Each IsNamed (map (store s) hs)
  stores-name [] = tt
  stores-name (h ∷ hs) = (tt {0}, stores-name hs)

  spill-names : (hs : List Home) → Each IsNamed (spill s hs)
  unfolding spill
  spill-names hs = stores-name (reverse hs)

  module _ (o : Origin) (q : ℕ) where
    local-names : (x : ℕ) → Each IsNamed (local_copies s o q x)
    unfolding local_copies
    local-names x = by (home_before s o x)
      where
        by : (h : Option Home) → Each IsNamed (copies_from s o q x h)
        by None = tt
        by (Some from) = each-flat IsNamed (copy_new s from (homes_held s o x from)) (needed s q x)
            (λ to. each-if IsNamed (has (homes_held s o x from) to) [] (copy s from to) tt (copy-names from to))

    locals-name : (x n : ℕ) → Each IsNamed (locals_copies s o q x n)
    locals-name x zero = tt
    locals-name x (suc n) = Each-append IsNamed (local_copies s o q x) (locals_copies s o q (suc x) n) (local-names x) (locals-name (suc x) n)

    copies-name : Each IsNamed (copies s o q)
    unfolding copies
    copies-name = locals-name 0 (register_count s.method.rec)

  cells-name : (hs ks : List Home) → Each IsNamed (cell_copies s hs ks)
  cells-name [] ks = tt
  cells-name (h ∷ hs) [] = tt
  cells-name (h ∷ hs) (k ∷ ks) = grind (arith, each-if, copy-names, cells-name hs ks)

  taken-names : (p : ℕ) (op : Operation) (n q : ℕ) → Each IsNamed (branch_copies s p op n q)
  unfolding branch_copies
  taken-names p op n q =
      Each-append IsNamed (cell_copies s (under s p n) (stack_homes s q)) (copies s (After p op) q) (cells-name (under s p n) (stack_homes s q))
      (copies-name (After p op) q)

  -- ---- instructions

  module _ (i : Placed) where
    kept-names : Each IsNamed (itself i)
    kept-names = (tt {0}, tt {0})

    loaded-names : (h : Option Home) → Each IsNamed (loaded s i h)
    loaded-names x = grind (arith, kept-names)

    increased-names : (h : Option Home) → Each IsNamed (increased s i h)
    increased-names x = grind (arith, kept-names)

    stored-names : (letter : Sort) (hs : List Home) → Each IsNamed (store_to_homes s letter hs)
    stored-names sorts.Int [] = (tt {0}, tt {0})
    stored-names letter [] = (tt {0}, tt {0})
    stored-names letter (h ∷ hs) = (tt {0}, each-flat IsNamed (copy s h) hs (λ k. copy-names h k))

    read-names : (h : Option Home) → Each IsNamed (field_read s i h)
    read-names x = grind (arith, kept-names, each-if)

    written-names : (k : Kind) (h : Option Home) → Each IsNamed (field_written s i k h)
    written-names k y = grind (arith, kept-names, each-if)

  module _ (i : Placed) (op : Operation) (e : Names i op) where
    leads-name : (n : ℕ) (whole ts : List ℤ) → ((j : ℕ) (t : ℤ) → slice_get ts j ≡ Some t → P (lead s i.place op n (way_of whole t) t))
        → Each P (leads s i.place op n whole ts)
    leads-name n whole [] h = tt
    leads-name n whole (t ∷ ts) h = (h 0 t refl, leads-name n whole ts (λ j u at. h (suc j) u at))

    leads-length : (n : ℕ) (whole ts : List ℤ) → length (leads s i.place op n whole ts) ≡ length ts
    leads-length n whole [] = refl
    leads-length n whole (t ∷ ts) = ap suc (leads-length n whole ts)

    first-name : (ls : List ℕ) → 0 < length ls → Each P ls → P (first_label ls)
    first-name x lt o = grind (arith)

    ways-name : (n : ℕ) → operands_of s.world (Ok op) ≡ Some n → Each P (leads s i.place op n (targets s.method.code i) (targets s.method.code i))
    ways-name n asks = leads-name n (targets s.method.code i) (targets s.method.code i) (λ j t at. e.ways n j t asks at)

    jump-names : (n : ℕ) → operands_of s.world (Ok op) ≡ Some n → jumps_from op ≡ true
        → IsNamed (jump_to i op (leads s i.place op n (targets s.method.code i) (targets s.method.code i)))
    jump-names n asks j = by op refl
      where
        ls : List ℕ
        ls = leads s i.place op n (targets s.method.code i) (targets s.method.code i)

        first : P (first_label ls)
        first = first-name ls (omega (arith, e.some j, leads-length n (targets s.method.code i) (targets s.method.code i))) (ways-name n asks)

        by : (o : Operation) → o ≡ op → IsNamed (jump_to i o ls)
        by (ops.Switch width) same = ways-name n asks
        by o same = (first, tt {0})

    branch-names : (n : ℕ) → operands_of s.world (Ok op) ≡ Some n → jumps_from op ≡ true → Each IsNamed (branch s i op n)
    unfolding branch
    branch-names n asks j =
        Each-append IsNamed (spill_if (has_under s i.place n) s i.place n) (jump_to i op _ ∷ [])
        (each-if IsNamed (has_under s i.place n) (spill s (stack_homes s i.place) ++ loads s (operands s i.place n)) []
        (Each-append IsNamed (spill s (stack_homes s i.place)) (loads s (operands s i.place n)) (spill-names (stack_homes s i.place))
        (loads-name (operands s i.place n))) tt)
        (jump-names n asks j, tt {0})

    first-place-named : jumps_from op ≡ true → P (first_place (targets s.method.code i))
    first-place-named j = by (targets s.method.code i) e.places (e.some j)
      where
        by : (ts : List ℤ) → ((k : ℕ) (t : ℤ) → slice_get ts k ≡ Some t → P (place t)) → 0 < length ts → P (first_place ts)
        by [] h n = absurd (omega (arith, n))
        by (t ∷ ts) h n = h 0 t refl

    gone-names : jumps_from op ≡ true → Each IsNamed (gone s i.place op (first_place (targets s.method.code i)))
    gone-names j =
        let q = first_place (targets s.method.code i) in
        Each-append IsNamed (spill s (stack_homes s q)) (copies s (After i.place op) q ++ goto q ∷ []) (spill-names (stack_homes s q))
        (Each-append IsNamed (copies s (After i.place op) q) (goto q ∷ []) (copies-name (After i.place op) q) ((first-place-named j, tt {0}), tt {0}))

    -- ---- falling

    fall-names : (q : ℕ) → Each IsNamed (fall s i.place op q)
    fall-names q =
        Each-append IsNamed (if is_leader s q then spill s (stack_homes s q) else []) (copies s (After i.place op) q)
        (each-if IsNamed (is_leader s q) (spill s (stack_homes s q)) [] (spill-names (stack_homes s q)) tt) (copies-name (After i.place op) q)

    fall-by-names : (n : Option ℕ) (q : ℕ) → Each IsNamed (fall_by s i.place op n q)
    fall-by-names None q = fall-names q
    fall-by-names (Some n) q =
        each-if IsNamed (has_under s i.place n) (fall_over s i.place op n q) (fall s i.place op q)
        (each-if IsNamed (is_leader s q) (branch_copies s i.place op n q) (copies s (After i.place op) q ++ loads s (under s i.place n))
        (taken-names i.place op n q)
        (Each-append IsNamed (copies s (After i.place op) q) (loads s (under s i.place n)) (copies-name (After i.place op) q) (loads-name (under s i.place n))))
        (fall-names q)

    fallen-names : Each IsNamed (fallen s i op)
    unfolding fallen
    fallen-names = grind (arith, each-if, fall-by-names)

    -- ---- stubs

    stub-names : (q l : ℕ) (copied : List Item) → Each IsNamed copied → P q → Each IsNamed (stub_of l q copied)
    stub-names q l [] h own = tt
    stub-names q l (x ∷ xs) h own = (tt {0}, Each-append IsNamed (x ∷ xs) (goto q ∷ []) h ((own, tt {0}), tt {0}))

    stubs-name-from : (n k : ℕ) (ts : List ℤ) → ((j : ℕ) (t : ℤ) → slice_get ts j ≡ Some t → P (place t))
        → Each IsNamed (stubs_of s i.place op n k ts)
    unfolding stub
    stubs-name-from n k [] h = tt
    stubs-name-from n k (t ∷ ts) h =
        Each-append IsNamed (stub s i.place op n k t) (stubs_of s i.place op n (suc k) ts)
        (stub-names (place t) (stub_label i.place k) (branch_copies s i.place op n (place t)) (taken-names i.place op n (place t)) (h 0 t refl))
        (stubs-name-from n (suc k) ts (λ j u at. h (suc j) u at))

    stubs-by-name : (n : Option ℕ) → Each IsNamed (stubs_by s i op n)
    stubs-by-name x = grind (arith, stubs-name-from, way-from)

  -- ---- the instruction, by its form

  body-names : (i : Placed) (op : Operation) → Names i op → Each IsNamed (body s i op)
  unfolding body
  body-names i (ops.Load letter x) e = loaded-names i (local s i.place x)
  body-names i (ops.Increment width x amount) e = increased-names i (local s i.place x)
  body-names i (ops.Store letter x) e = stored-names i letter (needed s (i.place + i.insn.len) x)
  body-names i (ops.FieldRead f holders.This) e = read-names i (local s i.place 0)
  body-names i (ops.FieldWrite f holders.This) e = written-names i f.kind (local s i.place 0)
  body-names i (ops.Branch branches.Always) e = gone-names i (ops.Branch branches.Always) e refl
  body-names i (ops.Branch (branches.Zero o)) e = branch-names i (ops.Branch (branches.Zero o)) e _ refl refl
  body-names i (ops.Branch (branches.Null o)) e = branch-names i (ops.Branch (branches.Null o)) e _ refl refl
  body-names i (ops.Branch (branches.References o)) e = branch-names i (ops.Branch (branches.References o)) e _ refl refl
  body-names i (ops.Branch (branches.Shorts o)) e = branch-names i (ops.Branch (branches.Shorts o)) e _ refl refl
  body-names i (ops.Switch width) e = branch-names i (ops.Switch width) e _ refl refl
  body-names i op e = kept-names i

  module _ (emitted : (i : Placed) (op : Operation) → Contains (listing s.method.code) i → is_some (s.frames i.place) ≡ true
      → operation s i ≡ Ok op → Names i op) where
    done-names : (i : Placed) (r : Result Operation RuleFault) → ((op : Operation) → r ≡ Ok op → Names i op) → Each IsNamed (done s i r)
    done-names i (Err fault) h = tt
    done-names i (Ok op) h = Each-append IsNamed (body s i op) (fallen s i op) (body-names i op (h op refl)) (fallen-names i op (h op refl))

    entered-names : (p : ℕ) → Each IsNamed (entrance s p)
    entered-names p = (tt {0}, each-if IsNamed (is_leader s p) (loads s (stack_homes s p)) [] (loads-name (stack_homes s p)) tt)

    group-names : (i : Placed) → Contains (listing s.method.code) i → Each IsNamed (group s i)
    unfolding group
    group-names i st = by (s.frames i.place) refl
      where
        by : (f : Option Frame) → s.frames i.place ≡ f → Each IsNamed (group_by s i f)
        by None at = tt
        by (Some f) at =
            Each-append IsNamed (entrance s i.place) (done s i (operation s i)) (entered-names i.place)
            (done-names i (operation s i) (λ op is. emitted i op st (ap is_some at) is))

    stubs-name : (i : Placed) → Contains (listing s.method.code) i → Each IsNamed (stubs s i)
    unfolding stubs
    stubs-name i st = by (s.frames i.place) refl
      where
        by-operation : (r : Result Operation RuleFault) → operation s i ≡ r → is_some (s.frames i.place) ≡ true → Each IsNamed (stubs_done s i r)
        by-operation (Err fault) is some = tt
        by-operation (Ok op) is some = stubs-by-name i op (emitted i op st some is) (operands_of s.world (Ok op))

        by : (f : Option Frame) → s.frames i.place ≡ f → Each IsNamed (stubs_at s i f)
        by None at = tt
        by (Some f) at = by-operation (operation s i) refl (ap is_some at)

    caught-names : (n : ℕ) (h : Handler) → P h.entry → Each IsNamed (catching_stub s n h)
    caught-names n h own = (
      tt {0},
      Each-append IsNamed (spill s (stack_homes s h.entry)) (copies s (Entry h.entry) h.entry ++ goto h.entry ∷ []) (spill-names (stack_homes s h.entry))
          (Each-append IsNamed (copies s (Entry h.entry) h.entry) (goto h.entry ∷ []) (copies-name (Entry h.entry) h.entry) ((own, tt {0}), tt {0})),
    )

    caught-name-from : (n : ℕ) (hs : List Handler) → Each (λ h. is_live s h ≡ true → P h.entry) hs → Each IsNamed (catching_stubs s n hs)
    caught-name-from n [] o = tt
    caught-name-from n (h ∷ hs) o =
        Each-append IsNamed (if is_live s h then catching_stub s n h else []) (catching_stubs s (suc n) hs) (by (is_live s h) refl)
        (caught-name-from (suc n) hs o.1)
      where
        by : (b : Bool) → is_live s h ≡ b → Each IsNamed (if b then catching_stub s n h else [])
        by true live = caught-names n h (o.0 live)
        by false dead = tt

    each-of : {X : Type 0} (f : X → List Item) (xs whole : List X) → ((x : X) → Contains xs x → Contains whole x)
        → ((x : X) → Contains whole x → Each IsNamed (f x)) → Each IsNamed (flat_map f xs)
    each-of f [] whole inside h = tt
    each-of f (x ∷ xs) whole inside h =
        Each-append IsNamed (f x) (flat_map f xs) (h x (inside x (0, omega arith, refl)))
        (each-of f xs whole (λ y c. inside y (suc c.0, omega (arith, c.1), c.2)) h)

    pub items-name : Each (λ h. is_live s h ≡ true → P h.entry) s.method.rec.handlers → Each IsNamed (items s)
    unfolding items
    items-name entries =
        Each-append IsNamed (copies s Start 0) _ (copies-name Start 0)
        (Each-append IsNamed (flat_map (group s) (listing s.method.code)) _
        (each-of (group s) (listing s.method.code) (listing s.method.code) (λ x c. c) group-names) (
          tt {0},
          Each-append IsNamed (flat_map (stubs s) (listing s.method.code)) (catching_stubs s 0 s.method.rec.handlers)
              (each-of (stubs s) (listing s.method.code) (listing s.method.code) (λ x c. c) stubs-name)
              (caught-name-from 0 s.method.rec.handlers entries),
        ))
