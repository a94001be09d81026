-- Which classes below a class have the entry that an object runs.
use Rattle.std.proofs.Common.{◌≡◌, ℕ, ◌≤◌, Bool, true, false, refl, sym, ap, ◌∙◌, subst, arith}
use Rattle.std.specs.Prelude.{Some, nat_lt, ◌==◌}
use Rattle.std.proofs.lemmas.Bool.{eq-eqb, eqb-true, false≢true, or_cases, or_left, or_right}
use Rattle.jc_base.specs.Class.{ClassTable, IsClass, AreClasses, IsNextOnChain}
use Rattle.jc_base.specs.Dispatch.{package_of, entry_at, nearest_of, visible_in, dispatched}
use Rattle.jc_base.specs.Order.{is_on_chain}
use Rattle.jc_base.proofs.Climbs.{chain-front, climb, on_alone, on_next, on_above, on_chain-here, parent_of-class}
use Rattle.vm_bound.specs.Edges.{shares}

-- the class below another whose own lists have the entry that an object of class r runs for the token
pub record HasEntry (t : ClassTable) (c token r n : ℕ) : Type 0 where
  pub class : ℕ
  pub above : is_on_chain t c class ≡ true
  pub below : is_on_chain t class r ≡ true
  pub shared : shares t c token class ≡ true
  pub entry : entry_at t class token ≡ Some n

module _ (t : ClassTable) (are : AreClasses t) where
  nearest-entry : (c r token k n : ℕ) → nat_lt token 128 ≡ false → nearest_of t (package_of t c) r ≡ Some k → dispatched t c token r ≡ Some n
      → entry_at t k token ≡ Some n
  unfolding dispatched visible_in entry_at
  nearest-entry c r token k n far near runs = rw far (rw (far, near) at runs)

  public-entry : (c r token n : ℕ) → nat_lt token 128 ≡ true → dispatched t c token r ≡ Some n → entry_at t r token ≡ Some n
  unfolding dispatched entry_at
  public-entry c r token n few runs = rw few (rw few at runs)

  record IsNearest (home c r : ℕ) : Type 0 where
    class : ℕ
    found : nearest_of t home r ≡ Some class
    above : is_on_chain t c class ≡ true
    below : is_on_chain t class r ≡ true
    package_is : package_of t class ≡ home

  nearest-here : (home r : ℕ) → package_of t r ≡ home → nearest_of t home r ≡ Some r
  unfolding nearest_of
  nearest-here home r e = let f = chain-front t r in rw (f.1, eq-eqb (package_of t r) home e) refl

  nearest-next : (home r p : ℕ) → IsNextOnChain t r p → (package_of t r == home) ≡ false → nearest_of t home r ≡ nearest_of t home p
  unfolding nearest_of
  nearest-next home r p next e = rw (next.chain_is, e) refl

  nearest-by : (home c r p : ℕ) (b : Bool) → (package_of t r == home) ≡ b → package_of t c ≡ home → IsNextOnChain t r p
      → (is_on_chain t c p ≡ true → IsNearest home c p) → is_on_chain t c r ≡ true → IsNearest home c r
  nearest-by home c r p true here at next before on = grind (arith, eqb-true, nearest-here, on_chain-here)
  nearest-by home c r p false off at next before on = grind (arith, on_next, false≢true, eq-eqb, nearest-next, on_above)

  nearest : (home c : ℕ) → package_of t c ≡ home → (r : ℕ) → is_on_chain t c r ≡ true → IsNearest home c r
  nearest home c at = climb t are (λ r. is_on_chain t c r ≡ true → IsNearest home c r)
      (λ r top alone on.
      let e : package_of t r ≡ home = ap (package_of t) (on_alone t c r alone on) ∙ at in
      record { class = r; found = nearest-here home r e; above = on; below = on_chain-here t r; package_is = e })
      (λ r p link next before on. nearest-by home c r p (package_of t r == home) refl at next before on)

  entry-by : (c token r n : ℕ) (b : Bool) → nat_lt token 128 ≡ b → is_on_chain t c r ≡ true → dispatched t c token r ≡ Some n → HasEntry t c token r n
  entry-by c token r n true few on runs = grind (arith, on_chain-here, or_left, public-entry)
  entry-by c token r n false far on runs =
      let near = nearest (package_of t c) c refl r on in
      record {
        class = near.class;
        above = near.above;
        below = near.below;
        shared = grind (arith, or_right, eq-eqb);
        entry = nearest-entry c r token near.class n far near.found runs;
      }

  pub has-entry : (c token r n : ℕ) → is_on_chain t c r ≡ true → dispatched t c token r ≡ Some n → HasEntry t c token r n
  has-entry c token r n on runs = entry-by c token r n (nat_lt token 128) refl on runs

  -- what is below a class is a class
  below-class : (r c : ℕ) → IsClass t c → is_on_chain t c r ≡ true → IsClass t r
  below-class = climb t are (λ r. (c : ℕ) → IsClass t c → is_on_chain t c r ≡ true → IsClass t r)
      (λ r top alone c is on. subst (IsClass t) (sym (on_alone t c r alone on)) is)
      (λ r p link next before c is on. parent_of-class t r p link)

  pub entry-class : (c token r n : ℕ) → IsClass t c → is_on_chain t c r ≡ true → (h : HasEntry t c token r n) → IsClass t h.class
  entry-class c token r n is on h = below-class h.class c is h.above

  -- a class between shares too, where packages fall along the chain
  pub shares-between : (c token k p : ℕ) → package_of t c ≤ package_of t p → package_of t p ≤ package_of t k → shares t c token k ≡ true
      → (shares t c token p ≡ true) × (shares t p token k ≡ true)
  shares-between c token k p low high is = grind (arith, or_cases, or_left, eqb-true, or_right, eq-eqb)

  -- what an object runs for the token of a subclass that shares it, it runs for that of the class
  moved : (c d token r n : ℕ) (b : Bool) → nat_lt token 128 ≡ b → shares t c token d ≡ true → dispatched t d token r ≡ Some n → dispatched t c token r ≡ Some n
  unfolding dispatched
  moved c d token r n w few shared runs = grind (arith, or_cases, false≢true, eqb-true)

  pub dispatched-above : (c d token r n : ℕ) → shares t c token d ≡ true → dispatched t d token r ≡ Some n → dispatched t c token r ≡ Some n
  dispatched-above c d token r n shared runs = moved c d token r n (nat_lt token 128) refl shared runs
