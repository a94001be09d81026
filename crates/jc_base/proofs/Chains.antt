-- What holds of chains of superclasses.
use Rattle.std.proofs.Common.{◌≡◌, ℕ, zero, suc, ◌<◌, List, [], ◌∷◌, length, Option, Some, None, refl}
use Rattle.std.proofs.Common.{sym, ap, subst, ◌∙◌, arith}
use Rattle.std.specs.Prelude.{All, IfSome, IfNone, slice_get}
use Rattle.jc_base.specs.declared.record.ClassRec.{ClassRec}
use Rattle.jc_base.specs.Class.{ClassTable, IsClass, AreClasses, IsNextOnChain, IsEndOfChain, is_interface, parent_of, chain_over, chain, list_of, last, object}

-- a chain begins with its class
pub chain_over-front : (t : ClassTable) (n c : ℕ) → (cs : List ℕ) × (chain_over t n c ≡ c ∷ cs)
unfolding chain_over
chain_over-front t zero c = ([], refl)
chain_over-front t (suc n) c = (list_of (chain_over t n) (parent_of t c), refl)

pub last-cons : (x : ℕ) (xs ys : List ℕ) (y : ℕ) → xs ≡ y ∷ ys → last (x ∷ xs) ≡ last xs
last-cons x xs ys y e = subst (λ (zs : List ℕ). last (x ∷ zs) ≡ last zs) (sym e) refl

more_above : (t : ClassTable) (o n c : ℕ) (p : Option ℕ) → parent_of t c ≡ p
    → ((q : ℕ) → last (chain_over t n q) ≡ Some o → chain_over t (suc n) q ≡ chain_over t n q)
    → last (chain_over t (suc n) c) ≡ Some o → chain_over t (suc (suc n)) c ≡ chain_over t (suc n) c
unfolding chain_over
more_above t o n c None e more ends = rw e refl
more_above t o n c (Some p) e more ends = grind (arith, chain_over-front t n p, suc n, last-cons)

-- a chain that ends with a class without superclass is as long as it gets
pub chain_over-more : (t : ClassTable) (o n c : ℕ) → parent_of t o ≡ None → last (chain_over t n c) ≡ Some o
    → chain_over t (suc n) c ≡ chain_over t n c
unfolding chain_over
chain_over-more t o zero c top ends = grind (arith)
chain_over-more t o (suc n) c top ends = more_above t o n c (parent_of t c) refl (λ q. chain_over-more t o n q top) ends

pub chain_above : (t : ClassTable) (n c p : ℕ) → parent_of t c ≡ Some p → chain_over t (suc n) c ≡ c ∷ chain_over t n p
unfolding chain_over
chain_above t n c p e = rw e refl

pub chain_alone : (t : ClassTable) (n c : ℕ) → parent_of t c ≡ None → chain_over t n c ≡ c ∷ []
unfolding chain_over
chain_alone t zero c e = refl
chain_alone t (suc n) c e = rw e refl

-- the class above a class is next on its chain
next_over : (t : ClassTable) (n c p : ℕ) → parent_of t (object t) ≡ None → parent_of t c ≡ Some p → All (IsClass t) (chain_over t (suc n) c)
    → last (chain_over t (suc n) c) ≡ Some (object t)
    → IsClass t p × (chain_over t (suc n) c ≡ c ∷ chain_over t (suc n) p)
next_over t n c p top e classes ends = grind (arith, chain_over-front t n p, suc n, chain_above t n c p e, last-cons, chain_over-more)

-- the number of a record is the successor of another
records_are : (t : ClassTable) (c : ℕ) → c < length t.records → (n : ℕ) × (length t.records ≡ suc n)
records_are t c h = nonzero (length t.records) h where
  nonzero : (m : ℕ) → c < m → (n : ℕ) × (m ≡ suc n)
  nonzero zero h = absurd (omega arith)
  nonzero (suc n) h = (n, refl)

pub next_on_chain : (t : ClassTable) (c p : ℕ) → AreClasses t → IsClass t c → parent_of t c ≡ Some p → IsNextOnChain t c p
unfolding chain
next_on_chain t c p are is e =
    let m = records_are t c is.number in
    let ok = are.chains c is in
    let over : chain t c ≡ chain_over t (suc m.0) c = ap (λ (n : ℕ). chain_over t n c) m.1 in
    let classes : All (IsClass t) (chain_over t (suc m.0) c) = subst (λ (xs : List ℕ). All (IsClass t) xs) over ok.classes in
    let ends : last (chain_over t (suc m.0) c) ≡ Some (object t) = sym (ap last over) ∙ ok.ends in
    let both = next_over t m.0 c p are.object_ends e classes ends in
    record { class = both.0; chain_is = over ∙ both.1 ∙ ap (λ (n : ℕ). c ∷ chain_over t n p) (sym m.1) }

pub end_of_chain : (t : ClassTable) (c : ℕ) → AreClasses t → IsClass t c → parent_of t c ≡ None → IsEndOfChain t c
unfolding chain
end_of_chain t c are is e = grind (arith, chain_alone, length)

-- ---- what the record of a class says

pub parent_read : (t : ClassTable) (c : ℕ) (r : ClassRec) → IsClass t c → slice_get t.records c ≡ Some r → r.parent ≡ parent_of t c
unfolding parent_of is_interface
parent_read t c r is e = grind (arith)

ends_at : (t : ClassTable) (c : ℕ) (o : Option ℕ) → AreClasses t → IsClass t c → parent_of t c ≡ o → IfNone o (IsEndOfChain t c)
ends_at t c x are is e = grind (arith, end_of_chain)

pub parent_climbs : (t : ClassTable) (c : ℕ) (r : ClassRec) → AreClasses t → IsClass t c → slice_get t.records c ≡ Some r
    → IfSome r.parent (IsNextOnChain t c)
parent_climbs t c r are is e = grind (arith, parent_read, next_on_chain)

pub parent_ends : (t : ClassTable) (c : ℕ) (r : ClassRec) → AreClasses t → IsClass t c → slice_get t.records c ≡ Some r
    → IfNone r.parent (IsEndOfChain t c)
parent_ends t c r are is e = ends_at t c r.parent are is (sym (parent_read t c r is e))

pub interface_read : (t : ClassTable) (c : ℕ) (r : ClassRec) → slice_get t.records c ≡ Some r → r.interface ≡ is_interface t c
unfolding is_interface
interface_read t c r e = rw e refl
