-- The labels of all stubs rise, and so do those of all items.
use Rattle.std.proofs.Common.{◌≡◌, ℕ, suc, ◌+◌, ◌≤◌, Bool, true, false, if◌then◌else◌, List, [], ◌∷◌, ◌++◌, flat_map, length}
use Rattle.std.proofs.Common.{Option, Some, None, Result, Ok, refl, sym, ◌∙◌, ap, subst, arith}
use Rattle.std.specs.Prelude.{ℤ, is_some}
use Rattle.jc_base.specs.declared.record.Handler.{Handler}
use Rattle.jc_decode.specs.declared.insn.Placed.{Placed}
use Rattle.jc_decode.specs.declared.symbols.Item.{Item}
use Rattle.cap_bytes.specs.Bytes.{AreBytes}
use Rattle.jc_decode.specs.Decoding.{decoded, IsWithin}
use Rattle.jc_decode.specs.Listing.{listing, targets, Lists}
use Rattle.jc_decode.proofs.Decoded.{IsWithin-decoded}
use Rattle.jc_ops.specs.declared.fault.RuleFault.{RuleFault}
use Rattle.jc_ops.specs.declared.operation.Operation.{Operation}
use Rattle.jc_rules.specs.Demand.{Frame}
use Rattle.xf_homes.specs.Source.{Source}
use Rattle.xf_emission.specs.Jump.{each_once, place, stub_label, stub, stubs_of, branch_copies, handler_label}
use Rattle.xf_emission.specs.Group.{group}
use Rattle.xf_emission.specs.Emission.{stubs, stubs_by, stubs_done, stubs_at, is_live, catching_stub, catching_stubs, items}
use Rattle.xf_emission.proofs.Labels.{labels, labels-append, label_if, copies-none, stub-label, caught-label, group-label}
use Rattle.xf_emission.proofs.Rises.{Rises, rises-append, rises-wider, rises-below}
use Rattle.xf_emission.proofs.TwoBytes.{two-bytes}
use Rattle.xf_emission.proofs.Ways.{ways-few}

module _ (s : Source) (p : ℕ) (op : Operation) (n : ℕ) where
  one-rises : (copied : List Item) (l : ℕ) → Rises l (suc l) (label_if copied l)
  one-rises x l = grind (arith)

  -- the stubs of one branch
  stubs-of-rise : (k : ℕ) (ts : List ℤ) → Rises (stub_label p k) (stub_label p (k + length ts)) (labels (stubs_of s p op n k ts))
  stubs-of-rise k [] = omega arith
  stubs-of-rise k (t ∷ ts) =
      let here : Rises (stub_label p k) (stub_label p (suc k)) (labels (stub s p op n k t)) =
      subst (Rises (stub_label p k) (stub_label p (suc k))) (sym (stub-label s p op n k t))
      (let e : suc (stub_label p k) ≡ stub_label p (suc k) = omega arith in
      subst (λ (h : ℕ). Rises (stub_label p k) h (label_if (branch_copies s p op n (place t)) (stub_label p k))) e
      (one-rises (branch_copies s p op n (place t)) (stub_label p k))) in
      let rest : Rises (stub_label p (suc k)) (stub_label p (k + length (t ∷ ts))) (labels (stubs_of s p op n (suc k) ts)) =
      (let e : stub_label p (suc k + length ts) ≡ stub_label p (k + length (t ∷ ts)) = omega arith in
      subst (λ (h : ℕ). Rises (stub_label p (suc k)) h (labels (stubs_of s p op n (suc k) ts))) e (stubs-of-rise (suc k) ts)) in
      subst (Rises (stub_label p k) (stub_label p (k + length (t ∷ ts)))) (sym (labels-append (stub s p op n k t) (stubs_of s p op n (suc k) ts)))
      (rises-append (stub_label p k) (stub_label p (suc k)) (stub_label p (k + length (t ∷ ts))) _ _ here rest)

-- ---- the stubs of handlers

handlers-rise : (s : Source) (n : ℕ) (hs : List Handler) → Rises (handler_label n) (handler_label (n + length hs)) (labels (catching_stubs s n hs))
handlers-rise s n [] = omega arith
handlers-rise s n (h ∷ hs) =
    let e : handler_label (suc n + length hs) ≡ handler_label (n + length (h ∷ hs)) = omega arith in
    let rest = subst (λ (k : ℕ). Rises (handler_label (suc n)) k (labels (catching_stubs s (suc n) hs))) e (handlers-rise s (suc n) hs) in
    subst (Rises (handler_label n) (handler_label (n + length (h ∷ hs))))
    (sym (labels-append (if is_live s h then catching_stub s n h else []) (catching_stubs s (suc n) hs)))
    (rises-append (handler_label n) (handler_label (suc n)) (handler_label (n + length (h ∷ hs))) _ _ (by (is_live s h)) rest)
  where
    by : (b : Bool) → Rises (handler_label n) (handler_label (suc n)) (labels (if b then catching_stub s n h else []))
    by true = subst (Rises (handler_label n) (handler_label (suc n))) (sym (caught-label s n h)) (omega arith, omega arith, omega arith)
    by false = omega arith

-- ---- all groups and all stubs of branches, along a listing

module _ (s : Source) (bytes : AreBytes s.method.code) where
  module _ (i : Placed) (d : decoded s.method.code i.place ≡ Ok i.insn) where
    low : stub_label i.place 0 ≤ stub_label (i.place + i.insn.len) 0
    low = omega arith

    high : stub_label i.place (0 + length (each_once (targets s.method.code i))) ≤ stub_label (i.place + i.insn.len) 0
    high = omega (arith, two-bytes s.method.code i bytes d, ways-few (targets s.method.code i))

    by-operands : (op : Operation) (n : Option ℕ) → Rises (stub_label i.place 0) (stub_label (i.place + i.insn.len) 0) (labels (stubs_by s i op n))
    by-operands op None = low
    by-operands op (Some n) =
        let here : Rises (stub_label i.place 0) (stub_label i.place (0 + length (each_once (targets s.method.code i))))
        (labels (stubs_of s i.place op n 0 (each_once (targets s.method.code i)))) = stubs-of-rise s i.place op n 0
        (each_once (targets s.method.code i)) in
        rises-below (stub_label i.place 0) (stub_label i.place (0 + length (each_once (targets s.method.code i)))) (stub_label (i.place + i.insn.len) 0) _
        high here

    by-operation : (r : Result Operation RuleFault) → Rises (stub_label i.place 0) (stub_label (i.place + i.insn.len) 0) (labels (stubs_done s i r))
    by-operation x = grind (arith, by-operands)

    by-frame : (f : Option Frame) → Rises (stub_label i.place 0) (stub_label (i.place + i.insn.len) 0) (labels (stubs_at s i f))
    by-frame x = grind (arith, by-operation)

    stubs-here : Rises (stub_label i.place 0) (stub_label (i.place + i.insn.len) 0) (labels (stubs s i))
    unfolding stubs
    stubs-here = by-frame (s.frames i.place)

  all-stubs : (at : ℕ) (is : List Placed) → Lists s.method.code at is → at ≤ length s.method.code
      → Rises (stub_label at 0) (stub_label (length s.method.code) 0) (labels (flat_map (stubs s) is))
  all-stubs at [] l le = omega arith
  all-stubs at (i ∷ is) l le =
      let d : decoded s.method.code i.place ≡ Ok i.insn = ap (decoded s.method.code) l.0 ∙ l.1 in
      let inside = IsWithin-decoded s.method.code at i.insn l.1 in
      let here : Rises (stub_label at 0) (stub_label (at + i.insn.len) 0) (labels (stubs s i)) = subst
      (λ (p : ℕ). Rises (stub_label p 0) (stub_label (p + i.insn.len) 0) (labels (stubs s i))) l.0 (stubs-here i d) in
      subst (Rises (stub_label at 0) (stub_label (length s.method.code) 0)) (sym (labels-append (stubs s i) (flat_map (stubs s) is)))
      (rises-append (stub_label at 0) (stub_label (at + i.insn.len) 0) (stub_label (length s.method.code) 0) _ _ here
      (all-stubs (at + i.insn.len) is l.2 inside.reaches))

  all-groups : (at : ℕ) (is : List Placed) → Lists s.method.code at is → at ≤ length s.method.code
      → Rises at (length s.method.code) (labels (flat_map (group s) is))
  all-groups at [] l le = le
  all-groups at (i ∷ is) l le =
      let inside = IsWithin-decoded s.method.code at i.insn l.1 in
      subst (Rises at (length s.method.code)) (sym (labels-append (group s i) (flat_map (group s) is)))
      (rises-append at (at + i.insn.len) (length s.method.code) _ _ (by (is_some (s.frames i.place)) refl inside)
      (all-groups (at + i.insn.len) is l.2 inside.reaches))
    where
      by : (b : Bool) → is_some (s.frames i.place) ≡ b → IsWithin s.method.code at i.insn → Rises at (at + i.insn.len) (labels (group s i))
      by true e w =
          subst (Rises at (at + i.insn.len)) (sym (group-label s i ∙ ap (λ (b : Bool). if b then i.place ∷ [] else []) e))
          (omega (arith, l.0), omega (arith, l.0, w.one), omega (arith, l.0, w.one))
      by false e w = subst (Rises at (at + i.insn.len)) (sym (group-label s i ∙ ap (λ (b : Bool). if b then i.place ∷ [] else []) e)) (omega arith)

-- ---- the whole

-- the labels of all groups, the end's, and those of all stubs
pub all-labels : (s : Source) → labels (items s)
    ≡ labels (flat_map (group s) (listing s.method.code))
    ++ length s.method.code ∷ labels (flat_map (stubs s) (listing s.method.code) ++ catching_stubs s 0 s.method.rec.handlers)
unfolding items
all-labels s = grind (arith, flat_map, labels-append, copies-none)

module _ (s : Source) (bytes : AreBytes s.method.code) where
  pub all-rise : Lists s.method.code 0 (listing s.method.code) → length s.method.code ≤ 32767 → length s.method.rec.handlers ≤ 255
      → Rises 0 (handler_label 256) (labels (items s))
  all-rise l short few =
      let n = length s.method.code in
      let branches = flat_map (stubs s) (listing s.method.code) in
      let caughts = catching_stubs s 0 s.method.rec.handlers in
      let last : Rises (handler_label 0) (handler_label 256) (labels caughts) = rises-below (handler_label 0)
      (handler_label (0 + length s.method.rec.handlers)) (handler_label 256) _ (omega (arith, few)) (handlers-rise s 0 s.method.rec.handlers) in
      let middle : Rises (stub_label 0 0) (handler_label 0) (labels branches) = rises-below (stub_label 0 0) (stub_label n 0) (handler_label 0) _
      (omega (arith, short)) (all-stubs s bytes 0 (listing s.method.code) l (omega arith)) in
      let after : Rises (suc n) (handler_label 256) (labels (branches ++ caughts)) =
      subst (Rises (suc n) (handler_label 256)) (sym (labels-append branches caughts))
      (rises-wider (suc n) (stub_label 0 0) (handler_label 256) _ (omega (arith, short))
      (rises-append (stub_label 0 0) (handler_label 0) (handler_label 256) _ _ middle last)) in
      let end : Rises n (handler_label 256) (n ∷ labels (branches ++ caughts)) = (omega arith, omega (arith, short), after) in
      subst (Rises 0 (handler_label 256)) (sym (all-labels s))
      (rises-append 0 n (handler_label 256) _ _ (all-groups s bytes 0 (listing s.method.code) l (omega arith)) end)
