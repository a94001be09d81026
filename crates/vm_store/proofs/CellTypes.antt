-- The types of cells.
use Rattle.std.proofs.Common.{arith}
use Rattle.std.proofs.Common.{◌≡◌, ℕ, zero, suc, Bool, true, false, List, ◌++◌, refl, sym, subst}
use Rattle.std.specs.Prelude.{Option, Some, None, ◌==◌, if◌then◌else◌, slice_get}
use Rattle.std.proofs.lemmas.Bool.{false≢true}
use Rattle.jc_base.specs.declared.ty.Ty.{Ty}
use Rattle.jc_base.specs.declared.ty.Ty.TheVariants.{Bottom, Short, IntHigh, IntLow, Fresh, Top}
use Rattle.jc_base.specs.Class.{ClassTable, AreClasses}
use Rattle.jc_base.specs.Order.{Below, same, nothing, is_below}
use Rattle.jc_base.specs.Order.{anything as below_top}
use Rattle.jc_base.proofs.Subtypes.{is_below-from_Below, top_below}
use Rattle.jc_base.proofs.Lists.{slice_get-front}
use Rattle.vm_store.specs.declared.cell.Cell.{Cell}
use Rattle.vm_store.specs.declared.cell.Cell.TheVariants as cells
use Rattle.vm_store.specs.declared.cell.CellKind.{CellKind}
use Rattle.vm_store.specs.declared.cell.CellKind.TheVariants as made
use Rattle.vm_store.specs.declared.cell.ObjectKind.{ObjectKind}
use Rattle.vm_store.specs.declared.cell.ObjectKind.TheVariants.{Instance}
use Rattle.vm_store.specs.Kind.{type_of_kind}
use Rattle.vm_store.specs.Typing.{HasType, anything, empty, short, high, low, null, reference, fresh, IsReady, type_seen, fresh_seen, least_type, IsLeastType}
use Rattle.vm_store.specs.Typing.{FallsWithObjects}
use Rattle.vm_store.specs.Cells.{tagged, words, word_of, loaded_as, made_ready, IsErasure}

-- ---- types with nothing above them but Top

module _ (t : ClassTable) (ks : List ObjectKind) where
  top_has : (c : Cell) (u : Ty) → u ≡ Top → HasType t ks c u
  top_has c u e = subst (HasType t ks c) (sym e) anything

  above_top : AreClasses t → (c : Cell) (u : Ty) → Below t Top u → HasType t ks c u
  above_top are c u b = top_has c u (top_below t u (is_below-from_Below t are b))

  above_short : (n : _) (u : Ty) → is_below t Short u ≡ true → HasType t ks (cells.Short n) u
  unfolding is_below
  above_short n Short h = short
  above_short n Top h = anything
  above_short n u h = absurd (false≢true h)

  above_high : (n : ℕ) (u : Ty) → is_below t IntHigh u ≡ true → HasType t ks (cells.High n) u
  unfolding is_below
  above_high n IntHigh h = high
  above_high n Top h = anything
  above_high n u h = absurd (false≢true h)

  above_low : (n : ℕ) (u : Ty) → is_below t IntLow u ≡ true → HasType t ks (cells.Low n) u
  unfolding is_below
  above_low n IntLow h = low
  above_low n Top h = anything
  above_low n u h = absurd (false≢true h)

  above_fresh : (c : Cell) (p k : ℕ) (u : Ty) → IsReady u → is_below t (Fresh p k) u ≡ true → HasType t ks c u
  unfolding is_below
  above_fresh c p k Top r h = anything
  above_fresh c p k (Fresh q j) r h = absurd r
  above_fresh c p k u r h = absurd (false≢true h)

  -- ---- the least type of a cell

  least-below : {c : Cell} {u : Ty} → HasType t ks c u → Below t (least_type t Bottom ks c) u
  least-below anything = below_top
  least-below (empty r) = nothing
  least-below short = same
  least-below high = same
  least-below low = same
  least-below (null b) = b
  least-below (reference {h = h} {k = k} {ty = u} e b) = subst (λ o. Below t (type_seen t o) u) (sym e) b
  least-below (fresh {h = h} {p = p} {c = k} e) = subst (λ o. Below t (fresh_seen p o) (Fresh p k)) (sym e) same

  -- ---- by the object of a reference

  own_reference : (h : ℕ) (o : Option ObjectKind) → slice_get ks h ≡ o → HasType t ks (cells.Ref (suc h)) (type_seen t o)
  own_reference h None e = anything
  own_reference h (Some k) e = reference e same

  above_reference : AreClasses t → (h : ℕ) (o : Option ObjectKind) → slice_get ks h ≡ o → (u : Ty) → Below t (type_seen t o) u
      → HasType t ks (cells.Ref (suc h)) u
  above_reference are h None e u b = above_top are (cells.Ref (suc h)) u b
  above_reference are h (Some k) e u b = reference e b

  own_fresh : (h p : ℕ) (o : Option ObjectKind) → slice_get ks h ≡ o → HasType t ks (cells.Fresh (suc h) p) (fresh_seen p o)
  own_fresh h p (Some (Instance c)) e = fresh e
  own_fresh h p o e = anything

  above_seen : AreClasses t → (c : Cell) (p : ℕ) (o : Option ObjectKind) (u : Ty) → IsReady u → Below t (fresh_seen p o) u → HasType t ks c u
  above_seen are c p o u r b = grind (arith, above_fresh, is_below-from_Below, above_top)

  pub least-is : AreClasses t → (c : Cell) → IsLeastType t ks c (least_type t Bottom ks c)
  least-is are cells.Empty = record { own = empty tt; least = λ u h. least-below h; above = λ u r b. empty r }
  least-is are (cells.Short n) =
      record { own = short; least = λ u h. least-below h; above = λ u r b. above_short n u (is_below-from_Below t are b) }
  least-is are (cells.High n) =
      record { own = high; least = λ u h. least-below h; above = λ u r b. above_high n u (is_below-from_Below t are b) }
  least-is are (cells.Low n) =
      record { own = low; least = λ u h. least-below h; above = λ u r b. above_low n u (is_below-from_Below t are b) }
  least-is are (cells.Ref zero) = record { own = null same; least = λ u h. least-below h; above = λ u r b. null b }
  least-is are (cells.Ref (suc h)) =
      record {
        own = own_reference h (slice_get ks h) refl;
        least = λ u x. least-below x;
        above = λ u r b. above_reference are h (slice_get ks h) refl u b;
      }
  least-is are (cells.Fresh zero p) = record { own = anything; least = λ u h. least-below h; above = λ u r b. above_top are (cells.Fresh zero p) u b }
  least-is are (cells.Fresh (suc h) p) =
      record {
        own = own_fresh h p (slice_get ks h) refl;
        least = λ u x. least-below x;
        above = λ u r b. above_seen are (cells.Fresh (suc h) p) p (slice_get ks h) u r b;
      }

  -- ---- more objects

  fall_reference : (more : List ObjectKind) (h : ℕ) (o : Option ObjectKind) → slice_get ks h ≡ o
      → Below t (type_seen t (slice_get (ks ++ more) h)) (type_seen t o)
  fall_reference more h None e = below_top
  fall_reference more h (Some k) e = subst (λ o. Below t (type_seen t o) (type_of_kind t k)) (sym (slice_get-front ks more h k e)) same

  fall_fresh : (more : List ObjectKind) (h p : ℕ) (o : Option ObjectKind) → slice_get ks h ≡ o
      → Below t (fresh_seen p (slice_get (ks ++ more) h)) (fresh_seen p o)
  fall_fresh more h p None e = below_top
  fall_fresh more h p (Some k) e = subst (λ o. Below t (fresh_seen p o) (fresh_seen p (Some k))) (sym (slice_get-front ks more h k e)) same

  pub least-falls : (unset : Ty) (c : Cell) → FallsWithObjects t unset ks c
  least-falls unset (cells.Ref (suc h)) more = fall_reference more h (slice_get ks h) refl
  least-falls unset (cells.Fresh (suc h) p) more = fall_fresh more h p (slice_get ks h) refl
  least-falls unset c more = same

-- ---- words

word-loaded : (kind : CellKind) (c : Cell) → word_of (loaded_as kind c) ≡ word_of c
word-loaded kind c = grind (arith)

word-ready : (place : ℕ) (c : Cell) → word_of (made_ready place c) ≡ word_of c
word-ready place (cells.Fresh h p) = go (p == place)
  where
    go : (b : Bool) → word_of (if b then cells.Ref h else cells.Fresh h p) ≡ h
    go true = refl
    go false = refl
word-ready place c = refl

pub words-erase : IsErasure word_of tagged words
words-erase = grind (arith, word-loaded, word-ready)
