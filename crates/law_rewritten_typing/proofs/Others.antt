-- A label that asks for a caught object is the entry of a range.
use Rattle.std.proofs.Common.{◌≡◌, ◌⊎◌, ℕ, suc, ◌+◌, ◌-◌, ◌<◌, Bool, true, false, if◌then◌else◌, inl, inr, List, [], ◌∷◌}
use Rattle.std.proofs.Common.{◌++◌, length, flat_map, slice_get, Contains, Option, Some, None, Result, Ok, Err, refl, subst, arith}
use Rattle.std.specs.Prelude.{ℤ, nat_lt}
use Rattle.std.proofs.lemmas.Bool.Decides.{nat_tests}
use Rattle.std.proofs.lemmas.List.Elements.{Contains-append_right}
use Rattle.jc_base.specs.Each.{IsAmong}
use Rattle.jc_base.specs.declared.record.Handler.{Handler}
use Rattle.jc_decode.specs.declared.insn.Placed.{Placed}
use Rattle.jc_decode.specs.declared.symbols.Item.{Item}
use Rattle.jc_decode.specs.declared.symbols.Range.{Range}
use Rattle.jc_decode.specs.Laws.{AreListed}
use Rattle.jc_decode.specs.Listing.{listing, targets}
use Rattle.jc_control.specs.WellFormed.{HasInstruction as IsListed}
use Rattle.jc_ops.specs.declared.fault.RuleFault.{RuleFault}
use Rattle.jc_ops.specs.declared.operation.Operation.{Operation}
use Rattle.jc_rules.specs.Demand.{Frame}
use Rattle.xf_homes.specs.Walk.{operands_of}
use Rattle.xf_homes.specs.Source.{Source}
use Rattle.xf_homes.specs.Plan.{is_leader}
use Rattle.xf_emission.specs.Jump.{each_once, place, branch_copies, stub, stubs_of, stub_label, handler_label}
use Rattle.xf_emission.specs.Group.{group}
use Rattle.xf_emission.specs.Emission.{stubs, stubs_by, stubs_done, stubs_at, is_live}
use Rattle.xf_emission.specs.Emission.{catching_stub, catching_stubs, range, ranges_from, items}
use Rattle.xf_emission.specs.Laws.{IsCode}
use Rattle.xf_emission.proofs.Labels.{labels, labels-append, label_if, stub-label, caught-label}
use Rattle.xf_emission.proofs.Rises.{Rises}
use Rattle.xf_emission.proofs.Stubs.{all-labels, all-rise}
use Rattle.xf_emission.proofs.TwoBytes.{two-bytes}
use Rattle.xf_emission.proofs.Ways.{ways-few}
use Rattle.law_rewritten_typing.proofs.Walks.{nothing_asked, emptied, catching}
use Rattle.law_rewritten_typing.proofs.LabelDemands.{asks_of, caught_by}
use Rattle.law_rewritten_typing.proofs.Ordered.{rises-before}
use Rattle.jc_base.proofs.Eaching.{IsAmong-append_cases}

pieces : (l : ℕ) (xs ys : List Item) → IsAmong l (labels (xs ++ ys)) → IsAmong l (labels xs) ⊎ IsAmong l (labels ys)
pieces l xs ys a = IsAmong-append_cases l (labels xs) (labels ys) (subst (IsAmong l) (labels-append xs ys) a)

flat-piece : {X : Type 0} (P : Type 0) (f : X → List Item) (l : ℕ) (xs : List X) → ((x : X) → Contains xs x → IsAmong l (labels (f x)) → P)
    → IsAmong l (labels (flat_map f xs)) → P
flat-piece P f l [] h a = absurd a
flat-piece P f l (x ∷ xs) h a = by (pieces l (f x) (flat_map f xs) a) (λ b. flat-piece P f l xs (λ y c. h y (suc c.0, omega (arith, c.1), c.2)) b)
  where
    by : IsAmong l (labels (f x)) ⊎ IsAmong l (labels (flat_map f xs)) → (IsAmong l (labels (flat_map f xs)) → P) → P
    by (inl b) rest = h x (0, omega arith, refl) b
    by (inr b) rest = rest b

-- ---- labels below those of handlers

below-none : (s : Source) (n c : ℕ) → n < 49152 → asks_of s n ≡ catching c → ⊥
unfolding asks_of
below-none s n c lt e = let small : nat_lt n 49152 ≡ true = grind (arith, nat_tests, lt) in by (nat_lt n 32768) (is_leader s n) (nat_lt n 49152) small e
  where
    by : (a d b : Bool) → b ≡ true
        → (if a then (if d then emptied else nothing_asked) else if b then emptied else caught_by (slice_get s.method.rec.handlers (n - 49152)))
        ≡ catching c → ⊥
    by true true b t e = absurd (cc)
    by true false b t e = absurd (cc)
    by false d true t e = absurd (cc)
    by false d false t e = absurd (cc)

one-label : (copied : List Item) (l m : ℕ) → IsAmong l (label_if copied m) → m ≡ l
one-label x l m a = grind (arith)

stubs-below : (s : Source) (p : ℕ) (op : Operation) (n k : ℕ) (ts : List ℤ) (l : ℕ) → IsAmong l (labels (stubs_of s p op n k ts))
    → l < stub_label p (k + length ts)
stubs-below s p op n k [] l a = absurd a
stubs-below s p op n k (t ∷ ts) l a = by (pieces l (stub s p op n k t) (stubs_of s p op n (suc k) ts) a) (λ b. stubs-below s p op n (suc k) ts l b)
  where
    by : IsAmong l (labels (stub s p op n k t)) ⊎ IsAmong l (labels (stubs_of s p op n (suc k) ts))
        → (IsAmong l (labels (stubs_of s p op n (suc k) ts)) → l < stub_label p (suc k + length ts)) → l < stub_label p (k + length (t ∷ ts))
    by (inl b) rest =
        let own : stub_label p k ≡ l = one-label (branch_copies s p op n (place t)) l (stub_label p k) (subst (IsAmong l) (stub-label s p op n k t) b) in
        omega (arith, own)
    by (inr b) rest = let less = rest b in omega (arith, less)

module _ (s : Source) (listed : AreListed s.method.code) (code : IsCode s) where
  stub-below : (i : Placed) → IsListed s.method.code i → (l : ℕ) → IsAmong l (labels (stubs s i)) → l < 49152
  unfolding stubs
  stub-below i st l a = by-frame (s.frames i.place) a
    where
      by-operands : (op : Operation) (n : Option ℕ) → IsAmong l (labels (stubs_by s i op n)) → l < 49152
      by-operands op None a = absurd a
      by-operands op (Some n) a =
          let two = two-bytes s.method.code i code.bytes (listed.decodes i st) in
          let within = listed.within i st in
          let less : l < stub_label i.place (0 + length (each_once (targets s.method.code i))) = stubs-below s i.place op n 0
          (each_once (targets s.method.code i)) l a in
          omega (arith, two, within, less, ways-few (targets s.method.code i), code.short)

      by-operation : (r : Result Operation RuleFault) → IsAmong l (labels (stubs_done s i r)) → l < 49152
      by-operation (Err fault) a = absurd a
      by-operation (Ok op) a = by-operands op (operands_of s.world (Ok op)) a

      by-frame : (f : Option Frame) → IsAmong l (labels (stubs_at s i f)) → l < 49152
      by-frame x a = grind (arith, by-operation)

  -- ---- labels of handlers

  abbrev HasRange : List Range → ℕ → Type 0
  HasRange rs l = (q : Range) × Contains rs q × (q.entry ≡ l)

  caught-range : (n : ℕ) (hs : List Handler) (l : ℕ) → IsAmong l (labels (catching_stubs s n hs)) → HasRange (ranges_from s n hs) l
  caught-range n [] l a = absurd a
  caught-range n (h ∷ hs) l a =
      by (is_live s h) (pieces l (if is_live s h then catching_stub s n h else []) (catching_stubs s (suc n) hs) a) (λ c. caught-range (suc n) hs l c)
    where
      by : (b : Bool) → IsAmong l (labels (if b then catching_stub s n h else [])) ⊎ IsAmong l (labels (catching_stubs s (suc n) hs))
          → (IsAmong l (labels (catching_stubs s (suc n) hs)) → HasRange (ranges_from s (suc n) hs) l)
          → HasRange ((if b then range s n h ∷ [] else []) ++ ranges_from s (suc n) hs) l
      by b (inr c) rest = let r = rest c in (r.0, Contains-append_right (if b then range s n h ∷ [] else []) (ranges_from s (suc n) hs) r.0 r.1, r.2)
      by false (inl c) rest = absurd c
      by true (inl c) rest = own (subst (IsAmong l) (caught-label s n h) c)
        where
          own : IsAmong l (handler_label n ∷ []) → HasRange (range s n h ∷ ranges_from s (suc n) hs) l
          own (inl e) = (range s n h, (0, omega arith, refl), e)
          own (inr d) = absurd d

  pub no-others : (l c : ℕ) → IsAmong l (labels (items s)) → asks_of s l ≡ catching c → HasRange (ranges_from s 0 s.method.rec.handlers) l
  no-others l c a asks = by (IsAmong-append_cases l groups (end ∷ labels (branches ++ caughts)) (subst (IsAmong l) (all-labels s) a))
    where
      groups : List ℕ
      groups = labels (flat_map (group s) (listing s.method.code))

      end : ℕ
      end = length s.method.code

      branches : List Item
      branches = flat_map (stubs s) (listing s.method.code)

      caughts : List Item
      caughts = catching_stubs s 0 s.method.rec.handlers

      rise : Rises 0 (handler_label 256) (groups ++ end ∷ labels (branches ++ caughts))
      rise = subst (Rises 0 (handler_label 256)) (all-labels s) (all-rise s code.bytes code.lists code.short code.few)

      by-rest : IsAmong l (labels branches) ⊎ IsAmong l (labels caughts) → HasRange (ranges_from s 0 s.method.rec.handlers) l
      by-rest (inl b) = absurd (below-none s l c (flat-piece (l < 49152) (stubs s) l (listing s.method.code) (λ i st d. stub-below i st l d) b) asks)
      by-rest (inr b) = caught-range 0 s.method.rec.handlers l b

      by : IsAmong l groups ⊎ IsAmong l (end ∷ labels (branches ++ caughts)) → HasRange (ranges_from s 0 s.method.rec.handlers) l
      by (inl b) = grind (arith, rises-before, caughts, rise, below-none)
      by (inr (inl e)) = absurd (below-none s l c (omega (arith, e, code.short)) asks)
      by (inr (inr b)) = by-rest (pieces l branches caughts b)
