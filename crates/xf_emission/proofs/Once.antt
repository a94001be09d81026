-- Each label of a rewritten method stands once.
use Rattle.std.proofs.Common.{◌≡◌, ◌≢◌, ◌⊎◌, ℕ, zero, suc, ◌+◌, true, if◌then◌else◌, inl, inr, List, [], ◌∷◌, ◌++◌}
use Rattle.std.proofs.Common.{flat_map, length, Contains, Option, Some, Result, Ok, refl, sym, ◌∙◌, ap, subst, arith}
use Rattle.std.specs.Prelude.{ℤ, is_some, slice_get}
use Rattle.jc_base.specs.Each.{IsAmong}
use Rattle.jc_base.specs.declared.record.Handler.{Handler}
use Rattle.jc_decode.specs.declared.insn.Placed.{Placed}
use Rattle.jc_decode.specs.declared.symbols.Item.{Item}
use Rattle.jc_decode.specs.Listing.{listing, targets}
use Rattle.jc_decode.proofs.Elements.{nothing-in, Contains-either}
use Rattle.jc_ops.specs.declared.fault.RuleFault.{RuleFault}
use Rattle.jc_ops.specs.declared.operation.Operation.{Operation}
use Rattle.jc_rules.specs.Demand.{Frame}
use Rattle.xf_homes.specs.Walk.{operands_of}
use Rattle.xf_homes.proofs.Events.{among-left, among-right}
use Rattle.xf_homes.specs.Source.{Source}
use Rattle.xf_homes.specs.Plan.{operation}
use Rattle.xf_emission.specs.Jump.{each_once, place, stub_label, stub, stubs_of, branch_copies, handler_label}
use Rattle.xf_emission.specs.Group.{group}
use Rattle.xf_emission.specs.Emission.{stubs, stubs_by, stubs_done, stubs_at, is_live, catching_stub, catching_stubs, items}
use Rattle.xf_emission.specs.Laws.{IsLabelOf, of_place, of_end, of_stub, of_handler, LabelsStandOnce}
use Rattle.xf_emission.proofs.Labels.{labels, labels-append, label_if, stub-label, caught-label, group-label, count-labels}
use Rattle.xf_emission.proofs.Rises.{count-among}
use Rattle.xf_emission.proofs.Stubs.{all-labels, all-rise}

-- a label of one piece is one of the whole
in-left : (l : ℕ) (xs ys : List Item) → IsAmong l (labels xs) → IsAmong l (labels (xs ++ ys))
in-left l xs ys a = subst (IsAmong l) (sym (labels-append xs ys)) (among-left l (labels xs) (labels ys) a)

in-right : (l : ℕ) (xs ys : List Item) → IsAmong l (labels ys) → IsAmong l (labels (xs ++ ys))
in-right l xs ys a = subst (IsAmong l) (sym (labels-append xs ys)) (among-right l (labels xs) (labels ys) a)

in-flat : {X : Type 0} (f : X → List Item) (xs : List X) (x : X) (l : ℕ) → Contains xs x → IsAmong l (labels (f x))
    → IsAmong l (labels (flat_map f xs))
in-flat f [] x l c a = absurd (nothing-in x c)
in-flat f (y ∷ ys) x l c a = by (Contains-either y ys x c) (λ r. in-flat f ys x l r a)
  where
    by : (y ≡ x) ⊎ Contains ys x → (Contains ys x → IsAmong l (labels (flat_map f ys))) → IsAmong l (labels (f y ++ flat_map f ys))
    by (inl e) rest = in-left l (f y) (flat_map f ys) (subst (λ z. IsAmong l (labels (f z))) (sym e) a)
    by (inr r) rest = in-right l (f y) (flat_map f ys) (rest r)

-- ---- the pieces

in-group : (s : Source) (i : Placed) → is_some (s.frames i.place) ≡ true → IsAmong i.place (labels (group s i))
in-group s i e = subst (IsAmong i.place) (sym (group-label s i ∙ ap (λ b. if b then i.place ∷ [] else []) e)) (inl refl)

filled : (copied : List Item) (l : ℕ) → copied ≢ [] → IsAmong l (label_if copied l)
filled x l some = grind (arith)

in-stubs : (s : Source) (p : ℕ) (op : Operation) (n from k : ℕ) (ts : List ℤ) (t : ℤ) → slice_get ts k ≡ Some t
    → branch_copies s p op n (place t) ≢ [] → IsAmong (stub_label p (from + k)) (labels (stubs_of s p op n from ts))
in-stubs s p op n from k [] t at some = absurd (cc)
in-stubs s p op n from zero (u ∷ us) t at some =
    let same : u ≡ t = cc in
    let here : from + 0 ≡ from = omega arith in
    subst (λ (j : ℕ). IsAmong (stub_label p j) (labels (stubs_of s p op n from (u ∷ us)))) (sym here)
    (in-left (stub_label p from) (stub s p op n from u) (stubs_of s p op n (suc from) us)
    (subst (IsAmong (stub_label p from)) (sym (stub-label s p op n from u))
    (filled (branch_copies s p op n (place u)) (stub_label p from) (subst (λ (v : ℤ). branch_copies s p op n (place v) ≢ []) (sym same) some))))
in-stubs s p op n from (suc k) (u ∷ us) t at some =
    let next : suc from + k ≡ from + suc k = omega arith in
    in-right (stub_label p (from + suc k)) (stub s p op n from u) (stubs_of s p op n (suc from) us)
    (subst (λ (j : ℕ). IsAmong (stub_label p j) (labels (stubs_of s p op n (suc from) us))) next (in-stubs s p op n (suc from) k us t at some))

in-caught : (s : Source) (from n : ℕ) (hs : List Handler) (h : Handler) → slice_get hs n ≡ Some h → is_live s h ≡ true
    → IsAmong (handler_label (from + n)) (labels (catching_stubs s from hs))
in-caught s from n [] h at live = absurd (cc)
in-caught s from zero (g ∷ gs) h at live = grind (arith, in-left, suc, caught-label)
in-caught s from (suc n) (g ∷ gs) h at live =
    let next : suc from + n ≡ from + suc n = omega arith in
    in-right (handler_label (from + suc n)) (if is_live s g then catching_stub s from g else []) (catching_stubs s (suc from) gs)
    (subst (λ (j : ℕ). IsAmong (handler_label j) (labels (catching_stubs s (suc from) gs))) next (in-caught s (suc from) n gs h at live))

-- ---- the whole

module _ (s : Source) where
  among-groups : (l : ℕ) → IsAmong l (labels (flat_map (group s) (listing s.method.code))) → IsAmong l (labels (items s))
  among-groups l a = subst (IsAmong l) (sym (all-labels s)) (among-left l (labels (flat_map (group s) (listing s.method.code))) _ a)

  among-rest : (l : ℕ)
      → IsAmong l (length s.method.code ∷ labels (flat_map (stubs s) (listing s.method.code) ++ catching_stubs s 0 s.method.rec.handlers))
      → IsAmong l (labels (items s))
  among-rest l a = subst (IsAmong l) (sym (all-labels s)) (among-right l (labels (flat_map (group s) (listing s.method.code))) _ a)

  stub-there : (i : Placed) (op : Operation) (n k : ℕ) (t : ℤ) → is_some (s.frames i.place) ≡ true → operation s i ≡ Ok op
      → operands_of s.world (Ok op) ≡ Some n
      → slice_get (each_once (targets s.method.code i)) k ≡ Some t → branch_copies s i.place op n (place t) ≢ []
      → IsAmong (stub_label i.place k) (labels (stubs s i))
  unfolding stubs
  stub-there i op n k t reached is asks at some = by-frame (s.frames i.place) reached
    where
      zero-first : 0 + k ≡ k
      zero-first = omega arith

      by-operands : (o : Option ℕ) → o ≡ Some n → IsAmong (stub_label i.place k) (labels (stubs_by s i op o))
      by-operands x e = grind (arith, in-stubs)

      by-operation : (r : Result Operation RuleFault) → r ≡ Ok op → IsAmong (stub_label i.place k) (labels (stubs_done s i r))
      by-operation x e = grind (arith, by-operands)

      by-frame : (f : Option Frame) → is_some f ≡ true → IsAmong (stub_label i.place k) (labels (stubs_at s i f))
      by-frame x e = grind (arith, by-operation)

  pub named-among : (l : ℕ) → IsLabelOf s l → IsAmong l (labels (items s))
  named-among _ (of_place {i = i} st reached) = among-groups i.place (in-flat (group s) (listing s.method.code) i i.place st (in-group s i reached))
  named-among _ of_end = among-rest (length s.method.code) (inl refl)
  named-among _ (of_stub {i = i} {op = op} {n = n} {t = t} k st reached is asks at some) =
      among-rest (stub_label i.place k)
      (inr (in-left (stub_label i.place k) (flat_map (stubs s) (listing s.method.code)) (catching_stubs s 0 s.method.rec.handlers)
      (in-flat (stubs s) (listing s.method.code) i (stub_label i.place k) st (stub-there i op n k t reached is asks at some))))
  named-among _ (of_handler {h = h} n at live) =
      let first : 0 + n ≡ n = omega arith in
      among-rest (handler_label n)
      (inr (in-right (handler_label n) (flat_map (stubs s) (listing s.method.code)) (catching_stubs s 0 s.method.rec.handlers)
      (subst (λ (j : ℕ). IsAmong (handler_label j) (labels (catching_stubs s 0 s.method.rec.handlers))) first
      (in-caught s 0 n s.method.rec.handlers h at live))))

pub labels-stand-once : LabelsStandOnce
labels-stand-once s code l named =
    count-labels l (items s) ∙ count-among 0 (handler_label 256) l (labels (items s)) (all-rise s code.bytes code.lists code.short code.few)
    (named-among s l named)
