-- A method has one list of homes.
use Rattle.std.proofs.Common.{◌≡◌, ℕ, ◌+◌, ◌<◌, ◌≤◌, ◌⊎◌, inl, inr, List, [], ◌∷◌, ◌++◌, Option, refl, sym, ◌∙◌, ap}
use Rattle.std.proofs.Common.{subst, arith}
use Rattle.jc_base.specs.declared.ty.Ty.{Ty}
use Rattle.jc_base.specs.Each.{IsAmong}
use Rattle.jc_base.specs.World.{Linked}
use Rattle.jc_base.proofs.Eaching.{Each-at}
use Rattle.jc_control.specs.Method.{Method}
use Rattle.jc_rules.specs.Demand.{Frame}
use Rattle.xf_homes.specs.declared.home.Home.{Home}
use Rattle.xf_homes.specs.Value.{type_width}
use Rattle.xf_homes.specs.Home.{PairSpot, ComesBefore, IsMetBefore}
use Rattle.xf_homes.specs.Order.{SlotsFollow, AreInOrder}
use Rattle.xf_homes.specs.Laws.{HomesAreOne}

-- two lists with the same elements
record AreSame (xs ys : List Home) : Type 0 where
  to : (h : Home) → IsAmong h xs → IsAmong h ys
  from : (h : Home) → IsAmong h ys → IsAmong h xs

-- ---- in order

-- of two different spots one comes before the other
never-both : (a b : PairSpot) → ComesBefore a b → ComesBefore b a → ⊥
never-both a b (inl p) (inl q) = absurd (omega arith)
never-both a b (inl p) (inr q) = absurd (omega (arith, q.0))
never-both a b (inr p) (inl q) = absurd (omega (arith, p.0))
never-both a b (inr p) (inr q) = by p.1 q.1
  where
    by : (a.slot < b.slot) ⊎ ((a.slot ≡ b.slot) × (a.time < b.time)) → (b.slot < a.slot) ⊎ ((b.slot ≡ a.slot) × (b.time < a.time)) → ⊥
    by (inl p) (inl q) = absurd (omega arith)
    by (inl p) (inr q) = absurd (omega (arith, q.0))
    by (inr p) (inl q) = absurd (omega (arith, p.0))
    by (inr p) (inr q) = absurd (omega (arith, p.1, q.1))

module _ (w : Linked) (m : Method) (frames : ℕ → Option Frame) where
  before-apart : (h k : Home) → IsMetBefore w m frames h k → IsMetBefore w m frames k h → ⊥
  before-apart h k p q = never-both p.spot q.spot (p.first q.spot q.met) (q.first p.spot p.met)

  first-same : (h k : Home) (hs ks : List Home) → AreInOrder w m frames (h ∷ hs) → AreInOrder w m frames (k ∷ ks) → AreSame (h ∷ hs) (k ∷ ks)
      → h ≡ k
  first-same h k hs ks p q s = by (s.to h (inl refl)) (s.from k (inl refl))
    where
      by : IsAmong h (k ∷ ks) → IsAmong k (h ∷ hs) → h ≡ k
      by (inl e) b = sym e
      by (inr a) (inl e) = e
      by (inr a) (inr b) = absurd (before-apart h k (Each-at (IsMetBefore w m frames h) k hs p.0 b) (Each-at (IsMetBefore w m frames k) h ks q.0 a))

  rest-same : (h k : Home) (hs ks : List Home) → h ≡ k → AreInOrder w m frames (h ∷ hs)
      → ((x : Home) → IsAmong x (h ∷ hs) → IsAmong x (k ∷ ks)) → (x : Home) → IsAmong x hs → IsAmong x ks
  rest-same h k hs ks e p to x a = by (to x (inr a))
    where
      by : IsAmong x (k ∷ ks) → IsAmong x ks
      by (inr b) = b
      by (inl f) =
          let b : IsMetBefore w m frames h h = subst (IsMetBefore w m frames h) (sym (e ∙ f)) (Each-at (IsMetBefore w m frames h) x hs p.0 a) in
          absurd (before-apart h h b b)

  ordered-one : (hs ks : List Home) → AreInOrder w m frames hs → AreInOrder w m frames ks → AreSame hs ks → hs ≡ ks
  ordered-one [] [] p q s = refl
  ordered-one [] (k ∷ ks) p q s = absurd (s.from k (inl refl))
  ordered-one (h ∷ hs) [] p q s = absurd (s.to h (inl refl))
  ordered-one (h ∷ hs) (k ∷ ks) p q s =
      let e = first-same h k hs ks p q s in
      ap (λ x. x ∷ hs) e ∙ ap (λ xs. k ∷ xs) (ordered-one hs ks p.1 q.1 (record {
        to = rest-same h k hs ks e p s.to;
        from = rest-same k h ks hs (sym e) q s.from;
      }))

-- ---- where their registers are

wide : (ty : Ty) → 1 ≤ type_width ty
wide x = grind (arith)

stands-later : (hs : List Home) (n : ℕ) → SlotsFollow n hs → (x : Home) → IsAmong x hs → n ≤ x.slot
stands-later [] n st x a = absurd a
stands-later (h ∷ hs) n st x (inl e) = let at : h.slot ≡ x.slot = ap (λ (k : Home). k.slot) e in omega (arith, st.0, at)
stands-later (h ∷ hs) n st x (inr a) = let later = stands-later hs (n + type_width h.ty) st.1 x a in omega (arith, later)

stands-first : (h k : Home) (hs ks : List Home) (n : ℕ) → SlotsFollow n (h ∷ hs) → SlotsFollow n (k ∷ ks) → IsAmong h (k ∷ ks) → h ≡ k
stands-first h k hs ks n p q x = grind (arith, stands-later, wide)

stands-rest : (h k : Home) (hs ks : List Home) (n : ℕ) → SlotsFollow n (h ∷ hs) → SlotsFollow n (k ∷ ks)
    → ((x : Home) → IsAmong x (h ∷ hs) → IsAmong x (k ∷ ks)) → (x : Home) → IsAmong x hs → IsAmong x ks
stands-rest h k hs ks n p q to x a = by (to x (inr a))
  where
    by : IsAmong x (k ∷ ks) → IsAmong x ks
    by (inr b) = b
    by (inl e) =
        let at : k.slot ≡ x.slot = ap (λ (j : Home). j.slot) e in
        let later = stands-later hs (n + type_width h.ty) p.1 x a in
        absurd (omega (arith, later, q.0, at, wide h.ty))

stands-one : (hs ks : List Home) (n : ℕ) → SlotsFollow n hs → SlotsFollow n ks → AreSame hs ks → hs ≡ ks
stands-one [] [] n p q s = refl
stands-one [] (k ∷ ks) n p q s = absurd (s.from k (inl refl))
stands-one (h ∷ hs) [] n p q s = absurd (s.to h (inl refl))
stands-one (h ∷ hs) (k ∷ ks) n p q s =
    let e = stands-first h k hs ks n p q (s.to h (inl refl)) in
    let same : SlotsFollow (n + type_width h.ty) ks = subst (λ (j : Home). SlotsFollow (n + type_width j.ty) ks) (sym e) q.1 in
    ap (λ x. x ∷ hs) e ∙ ap (λ xs. k ∷ xs) (stands-one hs ks (n + type_width h.ty) p.1 same (record {
      to = stands-rest h k hs ks n p q s.to;
      from = stands-rest k h ks hs n q p s.from;
    }))

pub homes-are-one : (w : Linked) → HomesAreOne w
homes-are-one w m frames homes others a b =
    let first : a.arguments ≡ b.arguments = stands-one a.arguments b.arguments 0 a.stand b.stand (record {
      to = λ h i. (b.declared h).1 ((a.declared h).0 i);
      from = λ h i. (a.declared h).1 ((b.declared h).0 i);
    }) in
    let rest : a.others ≡ b.others = ordered-one w m frames a.others b.others a.order b.order (record {
      to = λ h i. (b.met h).1 ((a.met h).0 i);
      from = λ h i. (a.met h).1 ((b.met h).0 i);
    }) in
    a.parts ∙ ap (λ xs. xs ++ a.others) first ∙ ap (λ ys. b.arguments ++ ys) rest ∙ sym b.parts
