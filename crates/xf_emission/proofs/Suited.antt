-- What is emitted for an instruction, on the edges of a branch and where a handler takes over may be laid.
use Rattle.std.proofs.Common.{◌≡◌, ℕ, suc, ◌+◌, ◌-◌, ◌<◌, Bool, true, false, if◌then◌else◌, List, [], ◌∷◌, ◌++◌}
use Rattle.std.proofs.Common.{flat_map, length, Contains, Option, Some, None, Result, Ok, Err, refl, sym, ◌∙◌, ap, arith}
use Rattle.std.specs.Prelude.{ℤ, not, is_some, slice_get}
use Rattle.std.proofs.lemmas.List.{length-map}
use Rattle.std.proofs.lemmas.Bool.{and_parts}
use Rattle.jc_base.specs.Each.{Each}
use Rattle.jc_base.specs.declared.ty.Kind.{Kind}
use Rattle.jc_base.specs.declared.record.Handler.{Handler}
use Rattle.jc_base.proofs.Eaching.{All-from_Each, Each-append}
use Rattle.jc_decode.specs.declared.insn.Placed.{Placed}
use Rattle.jc_decode.specs.declared.symbols.Item.{Item}
use Rattle.jc_decode.specs.declared.symbols.Item.TheVariants.{Branch, Switch}
use Rattle.jc_decode.specs.Cases.{cases, with_default, is_switch}
use Rattle.jc_decode.specs.Decoding.{decoded}
use Rattle.jc_decode.specs.Encoding.{IsAllowed}
use Rattle.jc_decode.specs.Forms.{is_wide_jump, wide}
use Rattle.jc_decode.specs.Layout.{layout_of}
use Rattle.jc_decode.specs.Listing.{jumps, is_branch, listing, targets}
use Rattle.jc_decode.specs.Symbols.{IsItem, IsOnce}
use Rattle.jc_ops.specs.Next.{jumps_from}
use Rattle.jc_ops.specs.declared.fault.RuleFault.{RuleFault}
use Rattle.jc_ops.specs.declared.operation.Sort.{Sort}
use Rattle.jc_ops.specs.declared.operation.Operation.{Operation}
use Rattle.jc_rules.specs.Demand.{Frame}
use Rattle.xf_homes.specs.declared.home.Home.{Home}
use Rattle.xf_homes.specs.Walk.{operands_of}
use Rattle.xf_homes.specs.Source.{Source}
use Rattle.xf_homes.specs.Plan.{register, stack_homes, is_leader, operation}
use Rattle.xf_emission.specs.declared.origin.Origin.TheVariants.{Start, After, Entry}
use Rattle.xf_emission.specs.Move.{copy, loads, spill}
use Rattle.xf_emission.specs.Edge.{copies}
use Rattle.xf_emission.specs.Jump.{under, operands, has_under, spill_if, branch_copies, place}
use Rattle.xf_emission.specs.Jump.{way_of, lead, leads, first_label, jump_to, branch}
use Rattle.xf_emission.specs.Jump.{goto, stub, stub_of, stub_label, stubs_of}
use Rattle.xf_emission.specs.Group.{itself, loaded, increased, store_to_homes, stays, field_read}
use Rattle.xf_emission.specs.Group.{field_written, gone, first_place, body, fall, fall_over}
use Rattle.xf_emission.specs.Group.{fall_by, fallen, entrance, done, group_by, group}
use Rattle.xf_emission.specs.Emission.{stubs, stubs_at, stubs_by, stubs_done, is_live, catching_stub, catching_stubs, items}
use Rattle.xf_emission.proofs.RowByRow.{op_kind, branching_kind, switching}
use Rattle.xf_emission.proofs.Forms.{suits_kind, other-opcode}
use Rattle.xf_emission.proofs.Ways.{way-from}
use Rattle.xf_emission.proofs.Items.{each-if, each-flat, load-suits, store-suits, copy-suits}
use Rattle.xf_emission.proofs.Items.{loads-suit, spill-suits, copies-suit, taken-suits, popped-suits}
use Rattle.xf_emission.proofs.Items.{swap-suits}
use Rattle.xf_emission.specs.Mnemonics.{from_read, from_write}
use Rattle.jc_decode.proofs.Formed.{first_byte, has_byte, other-register}

-- an instruction that is allowed, with its operation, in code whose labels stand once
pub record IsEmitted (all : List Item) (s : Source) (i : Placed) (op : Operation) : Type 0 where
  pub allowed : IsAllowed i.insn
  pub decodes : decoded s.method.code i.place ≡ Ok i.insn
  pub alike : jumps_from op ≡ jumps i.insn.op
  pub suits : suits_kind i.insn.op (op_kind op) ≡ true
  -- each of its targets, and the way to each, has a label that stands once
  pub ways : (n k : ℕ) (t : ℤ) → operands_of s.world (Ok op) ≡ Some n → slice_get (targets s.method.code i) k ≡ Some t
      → IsOnce all (lead s i.place op n (way_of (targets s.method.code i) t) t)
  pub places : (k : ℕ) (t : ℤ) → slice_get (targets s.method.code i) k ≡ Some t → IsOnce all (place t)

module _ (all : List Item) (s : Source) (small : (h : Home) → register s h < 256) where
  module _ (i : Placed) (op : Operation) (e : IsEmitted all s i op) where
    kept-suits : jumps_from op ≡ false → Each (IsItem s.method.code all) (itself i)
    kept-suits j = ((e.allowed, ap not (sym e.alike ∙ j)), tt)

    loaded-suits : jumps_from op ≡ false → (h : Option Home) → Each (IsItem s.method.code all) (loaded s i h)
    loaded-suits j None = kept-suits j
    loaded-suits j (Some h) = (load-suits s.method.code all s small h, tt)

    increased-suits : jumps_from op ≡ false → first_byte (layout_of i.insn.op) ≡ true → (h : Option Home)
        → Each (IsItem s.method.code all) (increased s i h)
    increased-suits j u z = grind (arith, kept-suits, other-register)

    stored-suits : (letter : Sort) (hs : List Home) → Each (IsItem s.method.code all) (store_to_homes s letter hs)
    stored-suits letter [] = (popped-suits s.method.code all s small letter, tt)
    stored-suits letter (h ∷ hs) =
        (store-suits s.method.code all s small h, each-flat (IsItem s.method.code all) (copy s h) hs (λ k. copy-suits s.method.code all s small h k))

    read-suits : jumps_from op ≡ false → has_byte (layout_of i.insn.op) ≡ true → (has_byte (layout_of (i.insn.op - from_read)) ≡ true)
        × (not (jumps (i.insn.op - from_read)) ≡ true) → (h : Option Home)
        → Each (IsItem s.method.code all) (field_read s i h)
    read-suits j u v None = kept-suits j
    read-suits j u v (Some h) =
        each-if (IsItem s.method.code all) (stays s h) (itself i) _ (kept-suits j)
        (load-suits s.method.code all s small h, ((other-opcode i.insn (i.insn.op - from_read) u v.0 e.allowed, v.1), tt))

    written-suits : jumps_from op ≡ false → has_byte (layout_of i.insn.op) ≡ true → (has_byte (layout_of (i.insn.op - from_write)) ≡ true)
        × (not (jumps (i.insn.op - from_write)) ≡ true) → (k : Kind) (h : Option Home)
        → Each (IsItem s.method.code all) (field_written s i k h)
    written-suits j u v k None = kept-suits j
    written-suits j u v k (Some h) =
        each-if (IsItem s.method.code all) (stays s h) (itself i) _ (kept-suits j) (
          load-suits s.method.code all s small h,
          (
            swap-suits s.method.code all s small k,
            ((other-opcode i.insn (i.insn.op - from_write) u v.0 e.allowed, v.1), tt),
          ),
        )

    -- ---- jumps

    leads-once : (n : ℕ) (whole ts : List ℤ)
        → ((j : ℕ) (t : ℤ) → slice_get ts j ≡ Some t → IsOnce all (lead s i.place op n (way_of whole t) t))
        → Each (IsOnce all) (leads s i.place op n whole ts)
    leads-once n whole [] h = tt
    leads-once n whole (t ∷ ts) h = (h 0 t refl, leads-once n whole ts (λ j u at. h (suc j) u at))

    leads-length : (n : ℕ) (whole ts : List ℤ) → length (leads s i.place op n whole ts) ≡ length ts
    leads-length n whole [] = refl
    leads-length n whole (t ∷ ts) = ap suc (leads-length n whole ts)

    first-once : (ls : List ℕ) (m : ℕ) → length ls ≡ suc m → Each (IsOnce all) ls → IsOnce all (first_label ls)
    first-once [] m e o = absurd (cc)
    first-once (l ∷ ls) m e o = o.0

    ways-once : (n : ℕ) → operands_of s.world (Ok op) ≡ Some n
        → Each (IsOnce all) (leads s i.place op n (targets s.method.code i) (targets s.method.code i))
    ways-once n asks = leads-once n (targets s.method.code i) (targets s.method.code i) (λ j t at. e.ways n j t asks at)

    target-count : jumps i.insn.op ≡ true → length (targets s.method.code i) ≡ length (cases s.method.code i.place i.insn) + 1
    unfolding targets
    target-count j = grind (arith, length-map)

    jump-suits : (n : ℕ) → operands_of s.world (Ok op) ≡ Some n → jumps_from op ≡ true
        → IsItem s.method.code all (jump_to i op (leads s i.place op n (targets s.method.code i) (targets s.method.code i)))
    jump-suits n asks j = by op refl j
      where
        jumping : jumps i.insn.op ≡ true
        jumping = sym e.alike ∙ j

        ls : List ℕ
        ls = leads s i.place op n (targets s.method.code i) (targets s.method.code i)

        count : length ls ≡ length (cases s.method.code i.place i.insn) + 1
        count = leads-length n (targets s.method.code i) (targets s.method.code i) ∙ target-count jumping

        switch-suits : op_kind op ≡ switching → IsItem s.method.code all (Switch i.insn i.place ls)
        switch-suits k =
            let is : is_switch i.insn.op ≡ true = ap (suits_kind i.insn.op) (sym k) ∙ e.suits in
            let own : with_default i.insn.x (decoded s.method.code i.place) ≡ Ok i.insn = ap (with_default i.insn.x) e.decodes in
            (is, own, count, All-from_Each (IsOnce all) ls (ways-once n asks))

        branch-suits : op_kind op ≡ branching_kind → IsItem s.method.code all (Branch (wide i.insn.op) (first_label ls))
        branch-suits k =
            let is = and_parts (is_branch i.insn.op) (is_wide_jump (wide i.insn.op)) (ap (suits_kind i.insn.op) (sym k) ∙ e.suits) in
            let more : length ls ≡ suc (length (cases s.method.code i.place i.insn)) = omega (arith, count) in
            (is.1, first-once ls (length (cases s.method.code i.place i.insn)) more (ways-once n asks))

        by : (o : Operation) → o ≡ op → jumps_from o ≡ true → IsItem s.method.code all (jump_to i o ls)
        by o same goes = grind (arith, switch-suits, branch-suits)

    spill-if-suits : (over : Bool) (n : ℕ) → Each (IsItem s.method.code all) (spill_if over s i.place n)
    spill-if-suits over n =
        each-if (IsItem s.method.code all) over (spill s (stack_homes s i.place) ++ loads s (operands s i.place n)) []
        (Each-append (IsItem s.method.code all) (spill s (stack_homes s i.place)) (loads s (operands s i.place n))
        (spill-suits s.method.code all s small (stack_homes s i.place)) (loads-suit s.method.code all s small (operands s i.place n))) tt

    branch-items : (n : ℕ) → operands_of s.world (Ok op) ≡ Some n → jumps_from op ≡ true → Each (IsItem s.method.code all) (branch s i op n)
    unfolding branch
    branch-items n asks j =
        Each-append (IsItem s.method.code all) (spill_if (has_under s i.place n) s i.place n) (jump_to i op _ ∷ [])
        (spill-if-suits (has_under s i.place n) n) (jump-suits n asks j, tt)

    first-place-once : jumps_from op ≡ true → IsOnce all (first_place (targets s.method.code i))
    first-place-once j = by (targets s.method.code i) e.places (target-count (sym e.alike ∙ j))
      where
        by : (ts : List ℤ) → ((k : ℕ) (t : ℤ) → slice_get ts k ≡ Some t → IsOnce all (place t))
            → length ts ≡ length (cases s.method.code i.place i.insn) + 1 → IsOnce all (first_place ts)
        by [] h n = absurd (omega (arith, n))
        by (t ∷ ts) h n = h 0 t refl

    gone-suits : jumps_from op ≡ true → Each (IsItem s.method.code all) (gone s i.place op (first_place (targets s.method.code i)))
    gone-suits j =
        let q = first_place (targets s.method.code i) in
        Each-append (IsItem s.method.code all) (spill s (stack_homes s q)) (copies s (After i.place op) q ++ goto q ∷ [])
        (spill-suits s.method.code all s small (stack_homes s q))
        (Each-append (IsItem s.method.code all) (copies s (After i.place op) q) (goto q ∷ []) (copies-suit s.method.code all s small (After i.place op) q)
        ((refl, first-place-once j), tt))

    -- ---- falling

    fall-suits : (q : ℕ) → Each (IsItem s.method.code all) (fall s i.place op q)
    fall-suits q =
        Each-append (IsItem s.method.code all) (if is_leader s q then spill s (stack_homes s q) else []) (copies s (After i.place op) q)
        (each-if (IsItem s.method.code all) (is_leader s q) (spill s (stack_homes s q)) [] (spill-suits s.method.code all s small (stack_homes s q)) tt)
        (copies-suit s.method.code all s small (After i.place op) q)

    fall-by-suits : (n : Option ℕ) (q : ℕ) → Each (IsItem s.method.code all) (fall_by s i.place op n q)
    fall-by-suits None q = fall-suits q
    fall-by-suits (Some n) q =
        each-if (IsItem s.method.code all) (has_under s i.place n) (fall_over s i.place op n q) (fall s i.place op q)
        (each-if (IsItem s.method.code all) (is_leader s q) (branch_copies s i.place op n q) (copies s (After i.place op) q ++ loads s (under s i.place n))
        (taken-suits s.method.code all s small i.place op n q)
        (Each-append (IsItem s.method.code all) (copies s (After i.place op) q) (loads s (under s i.place n))
        (copies-suit s.method.code all s small (After i.place op) q) (loads-suit s.method.code all s small (under s i.place n))))
        (fall-suits q)

    fallen-suits : Each (IsItem s.method.code all) (fallen s i op)
    unfolding fallen
    fallen-suits = grind (arith, each-if, fall-by-suits)

    -- ---- stubs

    stub-suits : (q l : ℕ) (copied : List Item) → Each (IsItem s.method.code all) copied → IsOnce all q
        → Each (IsItem s.method.code all) (stub_of l q copied)
    stub-suits q l [] h once = tt
    stub-suits q l (x ∷ xs) h once = (tt {0}, Each-append (IsItem s.method.code all) (x ∷ xs) (goto q ∷ []) h ((refl, once), tt))

    stubs-suit-from : (n k : ℕ) (ts : List ℤ) → ((j : ℕ) (t : ℤ) → slice_get ts j ≡ Some t → IsOnce all (place t))
        → Each (IsItem s.method.code all) (stubs_of s i.place op n k ts)
    unfolding stub
    stubs-suit-from n k [] h = tt
    stubs-suit-from n k (t ∷ ts) h =
        Each-append (IsItem s.method.code all) (stub s i.place op n k t) (stubs_of s i.place op n (suc k) ts)
        (stub-suits (place t) (stub_label i.place k) (branch_copies s i.place op n (place t)) (taken-suits s.method.code all s small i.place op n (place t))
        (h 0 t refl))
        (stubs-suit-from n (suc k) ts (λ j u at. h (suc j) u at))

    pub stubs-by-suit : (n : Option ℕ) → Each (IsItem s.method.code all) (stubs_by s i op n)
    stubs-by-suit x = grind (arith, stubs-suit-from, way-from)

  -- ---- the instruction, by its form

  pub body-suits : (i : Placed) (op : Operation) → IsEmitted all s i op → Each (IsItem s.method.code all) (body s i op)
  unfolding body
  body-suits i op e =
      grind (
        arith,
        loaded-suits,
        increased-suits,
        and_parts,
        stored-suits,
        read-suits,
        written-suits,
        gone-suits,
        branch-items,
        kept-suits,
      )

  pub done-suits : (i : Placed) (r : Result Operation RuleFault) → ((op : Operation) → r ≡ Ok op → IsEmitted all s i op)
      → Each (IsItem s.method.code all) (done s i r)
  done-suits i (Err fault) h = tt
  done-suits i (Ok op) h = Each-append (IsItem s.method.code all) (body s i op) (fallen s i op) (body-suits i op (h op refl)) (fallen-suits i op (h op refl))

  entered-suits : (p : ℕ) → Each (IsItem s.method.code all) (entrance s p)
  entered-suits p = (
    tt {0},
    each-if (IsItem s.method.code all) (is_leader s p) (loads s (stack_homes s p)) [] (loads-suit s.method.code all s small (stack_homes s p))
        tt,
  )

  module _ (emitted : (i : Placed) (op : Operation) → Contains (listing s.method.code) i → is_some (s.frames i.place) ≡ true
      → operation s i ≡ Ok op → IsEmitted all s i op) where
    group-suits : (i : Placed) → Contains (listing s.method.code) i → Each (IsItem s.method.code all) (group s i)
    unfolding group
    group-suits i st = by (s.frames i.place) refl
      where
        by : (f : Option Frame) → s.frames i.place ≡ f → Each (IsItem s.method.code all) (group_by s i f)
        by None at = tt
        by (Some f) at =
            Each-append (IsItem s.method.code all) (entrance s i.place) (done s i (operation s i)) (entered-suits i.place)
            (done-suits i (operation s i) (λ op is. emitted i op st (ap is_some at) is))

    stubs-suit : (i : Placed) → Contains (listing s.method.code) i → Each (IsItem s.method.code all) (stubs s i)
    unfolding stubs
    stubs-suit i st = by (s.frames i.place) refl
      where
        by-operation : (r : Result Operation RuleFault) → operation s i ≡ r → is_some (s.frames i.place) ≡ true
            → Each (IsItem s.method.code all) (stubs_done s i r)
        by-operation (Err fault) is some = tt
        by-operation (Ok op) is some = stubs-by-suit i op (emitted i op st some is) (operands_of s.world (Ok op))

        by : (f : Option Frame) → s.frames i.place ≡ f → Each (IsItem s.method.code all) (stubs_at s i f)
        by None at = tt
        by (Some f) at = by-operation (operation s i) refl (ap is_some at)

    caught-suits : (n : ℕ) (h : Handler) → IsOnce all h.entry → Each (IsItem s.method.code all) (catching_stub s n h)
    caught-suits n h once = (
      tt {0},
      Each-append (IsItem s.method.code all) (spill s (stack_homes s h.entry)) (copies s (Entry h.entry) h.entry ++ goto h.entry ∷ [])
          (spill-suits s.method.code all s small (stack_homes s h.entry))
          (Each-append (IsItem s.method.code all) (copies s (Entry h.entry) h.entry) (goto h.entry ∷ [])
          (copies-suit s.method.code all s small (Entry h.entry) h.entry) ((refl, once), tt)),
    )

    caught-suit-from : (n : ℕ) (hs : List Handler) → Each (λ h. is_live s h ≡ true → IsOnce all h.entry) hs
        → Each (IsItem s.method.code all) (catching_stubs s n hs)
    caught-suit-from n [] o = tt
    caught-suit-from n (h ∷ hs) o =
        Each-append (IsItem s.method.code all) (if is_live s h then catching_stub s n h else []) (catching_stubs s (suc n) hs) (by (is_live s h) refl)
        (caught-suit-from (suc n) hs o.1)
      where
        by : (b : Bool) → is_live s h ≡ b → Each (IsItem s.method.code all) (if b then catching_stub s n h else [])
        by true live = caught-suits n h (o.0 live)
        by false dead = tt

    each-of : {X : Type 0} (f : X → List Item) (xs whole : List X) → ((x : X) → Contains xs x → Contains whole x)
        → ((x : X) → Contains whole x → Each (IsItem s.method.code all) (f x)) → Each (IsItem s.method.code all) (flat_map f xs)
    each-of f [] whole inside h = tt
    each-of f (x ∷ xs) whole inside h =
        Each-append (IsItem s.method.code all) (f x) (flat_map f xs) (h x (inside x (0, omega arith, refl)))
        (each-of f xs whole (λ y c. inside y (suc c.0, omega (arith, c.1), c.2)) h)

    pub items-suit : Each (λ h. is_live s h ≡ true → IsOnce all h.entry) s.method.rec.handlers → Each (IsItem s.method.code all) (items s)
    unfolding items
    items-suit entries =
        Each-append (IsItem s.method.code all) (copies s Start 0) _ (copies-suit s.method.code all s small Start 0)
        (Each-append (IsItem s.method.code all) (flat_map (group s) (listing s.method.code)) _
        (each-of (group s) (listing s.method.code) (listing s.method.code) (λ x c. c) group-suits) (
          tt {0},
          Each-append (IsItem s.method.code all) (flat_map (stubs s) (listing s.method.code)) (catching_stubs s 0 s.method.rec.handlers)
              (each-of (stubs s) (listing s.method.code) (listing s.method.code) (λ x c. c) stubs-suit)
              (caught-suit-from 0 s.method.rec.handlers entries),
        ))
