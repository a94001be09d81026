-- Where the cells of a class stand among those of its instances, and of the instances of its subclasses.
use Rattle.std.proofs.Common.{◌≡◌, ℕ, true, List, [], ◌++◌, length, append_assoc, Option, Some, None, refl, sym, ap, ◌∙◌, inl, inr}
use Rattle.std.proofs.lemmas.List.{append-nil}
use Rattle.jc_base.specs.declared.ty.Ty.{Ty}
use Rattle.jc_base.specs.declared.record.MethodRec.{MethodRec}
use Rattle.jc_base.specs.Class.{ClassTable, AreClasses, parent_of}
use Rattle.jc_base.specs.Order.{is_on_chain}
use Rattle.jc_base.specs.Dispatch.{own_cells, cells_of}
use Rattle.jc_base.specs.Linked.{AreLinkedClasses, cells_above}
use Rattle.jc_base.proofs.Chains.{next_on_chain}
use Rattle.jc_base.proofs.Climbs.{climb, chain-alone, parent_of-class, on_alone, on_next}
use Rattle.jc_base.proofs.Dispatches.{cells-alone, cells-next, cells-count}

-- the cells of an instance are as many as its superclass counts, and then the class's own
pub record EndsWithOwn (t : ClassTable) (c : ℕ) : Type 0 where
  pub above : List Ty
  pub many : length above ≡ cells_above t (parent_of t c)
  pub whole : cells_of t c ≡ above ++ own_cells t c

module _ (packages : ℕ) (t : ClassTable) (methods : List MethodRec) (are : AreClasses t) (linked : AreLinkedClasses packages t methods) where
  own_by : (c : ℕ) (o : Option ℕ) → parent_of t c ≡ o → EndsWithOwn t c
  own_by c None e = record { above = []; many = ap (cells_above t) (sym e); whole = cells-alone t c (chain-alone t c e) }
  own_by c (Some p) e = record {
    above = cells_of t p;
    many = cells-count packages t methods are linked p ∙ ap (cells_above t) (sym e);
    whole = cells-next t c p (next_on_chain t c p are (parent_of-class t c p e) e);
  }

  pub cells-own : (c : ℕ) → EndsWithOwn t c
  cells-own c = own_by c (parent_of t c) refl

-- an instance begins with the cells of each class on its chain
pub cells-on_chain : (t : ClassTable) → AreClasses t → (c h : ℕ) → is_on_chain t h c ≡ true → (farther : List Ty)
    × (cells_of t c ≡ cells_of t h ++ farther)
cells-on_chain t are = climb t are (λ c. (h : ℕ) → is_on_chain t h c ≡ true → (farther : List Ty) × (cells_of t c ≡ cells_of t h ++ farther))
    (λ c top alone h on. ([], ap (cells_of t) (on_alone t h c alone on) ∙ sym (append-nil (cells_of t h))))
    (λ c p link next before h on. elim (on_next t h c p next on) [
      | inl here ↦ ([], ap (cells_of t) here ∙ sym (append-nil (cells_of t h)))
      | inr up ↦
          let above = before h up in (
            above.0 ++ own_cells t c,
            cells-next t c p next ∙ ap (λ (xs : List Ty). xs ++ own_cells t c) above.1
                ∙ append_assoc (cells_of t h) above.0 (own_cells t c),
          )
    ])
