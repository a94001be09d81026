-- A walk along all items gives each place a stack, as a card typing has it.
use Rattle.std.proofs.Common.{◌≡◌, ◌≢◌, ◌⊎◌, ℕ, zero, suc, ◌+◌, ◌<◌, ◌≤◌, ◌==◌, Bool, true, false, if◌then◌else◌}
use Rattle.std.proofs.Common.{inl, inr, List, [], ◌∷◌, slice_get, Option, Some, None, refl, sym, ◌∙◌, ap, subst, arith, ne_of_gt}
use Rattle.std.proofs.lemmas.Bool.Decides.{nat_tests}
use Rattle.std.proofs.lemmas.Bool.{ne_eqb, eq-eqb}
use Rattle.jc_base.specs.Each.{IsAmong}
use Rattle.jc_base.specs.declared.ty.Ty.{Ty}
use Rattle.jc_base.specs.declared.record.MethodRec.{MethodRec}
use Rattle.jc_base.specs.World.{Linked}
use Rattle.jc_decode.specs.declared.insn.Insn.{Insn}
use Rattle.jc_decode.specs.declared.symbols.Item.{Item}
use Rattle.jc_decode.specs.declared.symbols.Item.TheVariants.{Plain, Branch, Switch, Label}
use Rattle.jc_decode.specs.Symbols.{Step, is_instruction, place_of, steps_in}
use Rattle.xf_emission.proofs.Labels.{labels}
use Rattle.xf_emission.proofs.Rises.{Rises}
use Rattle.law_rewritten_typing.proofs.Walks.{State, holding, left, Asked, nothing_asked, emptied}
use Rattle.law_rewritten_typing.proofs.Walks.{catching, Passes, Turn, Flows, flow_end, flow_label}
use Rattle.law_rewritten_typing.proofs.Walks.{flow_step, insn_of, count, count-step}

-- ---- an instruction at the head of items

place-step : (l : ℕ) (x : Item) (xs : List Item) → is_instruction x ≡ true → place_of l (x ∷ xs) ≡ suc (place_of l xs)
place-step l x xs is = grind (arith)

labels-step : (x : Item) (xs : List Item) → is_instruction x ≡ true → labels (x ∷ xs) ≡ labels xs
labels-step x xs is = grind (arith)

first-step : (source : List ℕ) (all : List Item) (x : Item) (xs : List Item) (st : Step) → is_instruction x ≡ true
    → slice_get (steps_in source all (x ∷ xs)) 0 ≡ Some st → st.insn ≡ insn_of x
first-step source all (Label l) xs st is e = absurd (cc)
first-step source all (Plain i) xs st is e = let own : record { insn = i; targets = []; keys = [] } ≡ st = cc in ap (λ (y : Step). y.insn) (sym own)
first-step source all (Branch op l) xs st is e = ap insn_at (sym e)
  where
    insn_at : Option Step → Insn
    insn_at None = insn_of (Branch op l)
    insn_at (Some y) = y.insn
first-step source all (Switch i at ls) xs st is e = ap insn_at (sym e)
  where
    insn_at : Option Step → Insn
    insn_at None = i
    insn_at (Some y) = y.insn

pub among-above : (low high l : ℕ) (xs : List ℕ) → Rises low high xs → IsAmong l xs → low ≤ l
among-above low high l [] r a = absurd a
among-above low high l (y ∷ ys) r (inl e) = omega (arith, r.0, e)
among-above low high l (y ∷ ys) r (inr a) = omega (arith, r.0, among-above (suc y) high l ys r.2 a)

module _ (w : Linked) (r : MethodRec) (regs : List Ty) (asks : ℕ → Asked) where
  -- the stack before the instruction at a place
  pub stack_at : {n : ℕ} {a b : State} {xs : List Item} → Flows w r regs asks n a xs b → ℕ → List Ty
  stack_at flow_end q = []
  stack_at (flow_label p f) q = stack_at f q
  stack_at (flow_step {n = n} is t f) q = if q == n then t.stack else stack_at f q

  same-stack : (s u : List Ty) → holding s ≡ holding u → s ≡ u
  same-stack s u e = cc

  never : (s : List Ty) → holding s ≡ left → ⊥
  never s e = absurd (cc)

  -- where control comes with a stack, an instruction follows, with that stack, and no label before it is that of a handler
  pub record Follows (n : ℕ) (xs : List Item) (at : ℕ → List Ty) (s : List Ty) : Type 0 where
    pub inside : 0 < count xs
    pub stack : at n ≡ s
    pub free : (l c : ℕ) → asks l ≡ catching c → IsAmong l (labels xs) → 0 < place_of l xs

  pub comes-next : {n : ℕ} {a b : State} {xs : List Item} (f : Flows w r regs asks n a xs b) (s : List Ty) → a ≡ holding s → b ≡ left
      → Follows n xs (stack_at f) s
  unfolding stack_at
  comes-next (flow_end {n = n} {a = a}) s e g = absurd (never s (sym e ∙ g))
  comes-next (flow_label {n = n} {l = l} {a = a} {b = b} {xs = xs} p f) s e g = by (asks l) refl p (λ u h. comes-next f u h g)
    where
      freed : (q : Asked) → asks l ≡ q → ((c : ℕ) → q ≢ catching c) → Follows n xs (stack_at f) s → Follows n (Label l ∷ xs) (stack_at f) s
      freed q is other rest = record {
        inside = rest.inside;
        stack = rest.stack;
        free = λ m c is_catching among. past m c is_catching among (l == m) refl;
      }
        where
          past : (m c : ℕ) → asks m ≡ catching c → IsAmong m (labels (Label l ∷ xs)) → (y : Bool) → (l == m) ≡ y
              → 0 < (if y then 0 else place_of m xs)
          past m c is_catching among true q = let own : l ≡ m = grind (arith, nat_tests, q) in absurd (other c (sym is ∙ ap asks own ∙ is_catching))
          past m c is_catching (inl own) false q =
              let same : (l == m) ≡ true = ap (λ (k : ℕ). l == k) (sym own) ∙ eq-eqb l l refl in absurd (differ (l == m) same q)
            where
              differ : (z : Bool) → z ≡ true → z ≡ false → ⊥
              differ z e f = absurd (cc)
          past m c is_catching (inr among) false q = rest.free m c is_catching among

      by : (q : Asked) → asks l ≡ q → Passes q a b → ((u : List Ty) → b ≡ holding u → Follows n xs (stack_at f) u)
          → Follows n (Label l ∷ xs) (stack_at f) s
      by nothing_asked is p rest = freed nothing_asked is (λ c e. absurd (cc)) (rest s (sym p ∙ e))
      by emptied is p rest = emptied-by p.0
        where
          emptied-by : (a ≡ left) ⊎ (a ≡ holding []) → Follows n (Label l ∷ xs) (stack_at f) s
          emptied-by (inl h) = absurd (never s (sym e ∙ h))
          emptied-by (inr h) = freed emptied is (λ c e. absurd (cc)) (rest s (p.1 ∙ ap holding (same-stack [] s (sym h ∙ e))))
      by (catching c) is p rest = absurd (never s (sym e ∙ p.0))
  comes-next (flow_step {n = n} {a = a} {b = b} {x = x} {xs = xs} is t f) s e g = record {
    inside = omega (arith, count-step x xs is);
    stack = ap (λ (y : Bool). if y then t.stack else stack_at f n) (eq-eqb n n refl) ∙ same-stack t.stack s (sym t.here ∙ e);
    free = λ l c is_catching among. omega (arith, place-step l x xs is);
  }

  -- ---- the instruction at a place

  pub record IsTurned (n k : ℕ) (i : Insn) (xs : List Item) (at : ℕ → List Ty) (end : State) : Type 0 where
    pub place : ℕ
    pub is : place ≡ n + k
    pub before : State
    pub after : State
    pub turn : Turn w r regs asks place i before after
    pub stack : before ≡ holding (at place)
    pub rest : List Item
    pub flow : Flows w r regs asks (suc place) after rest end
    pub later : (q : ℕ) → place < q → at q ≡ stack_at flow q
    pub size : count xs ≡ suc k + count rest
    pub labelled : (l : ℕ) → IsAmong l (labels xs) → k < place_of l xs → IsAmong l (labels rest) × (place_of l xs ≡ suc k + place_of l rest)
    pub beyond : (low high l : ℕ) → Rises low high (labels xs) → IsAmong l (labels rest) → IsAmong l (labels xs)
        × (place_of l xs ≡ suc k + place_of l rest)

  differ : (z : Bool) → z ≡ true → z ≡ false → ⊥
  differ z e f = absurd (cc)

  past-label :
      (l k : ℕ) (xs rest : List Item) (m : ℕ)
      → IsAmong m (labels (Label l ∷ xs))
      → (y : Bool)
      → (l == m) ≡ y
      → k < (if y then 0 else place_of m xs)
      → ((j : ℕ) → IsAmong j (labels xs) → k < place_of j xs → IsAmong j (labels rest) × (place_of j xs ≡ suc k + place_of j rest))
      → IsAmong m (labels rest) × ((if y then 0 else place_of m xs) ≡ suc k + place_of m rest)
  past-label l k xs rest m among a q lt h = grind (arith, eq-eqb)

  pub turned-at :
      {n : ℕ} {a b : State} {xs : List Item} (source : List ℕ) (all : List Item) (f : Flows w r regs asks n a xs b) (k : ℕ) (st : Step)
      → slice_get (steps_in source all xs) k ≡ Some st → IsTurned n k st.insn xs (stack_at f) b
  unfolding stack_at
  turned-at source all flow_end k st e = absurd (cc)
  turned-at source all (flow_label {n = n} {l = l} {xs = xs} p f) k st e =
      let t = turned-at source all f k st e in
      record {
        place = t.place;
        is = t.is;
        before = t.before;
        after = t.after;
        turn = t.turn;
        stack = t.stack;
        rest = t.rest;
        flow = t.flow;
        later = t.later;
        size = t.size;
        labelled = λ m among lt. past-label l k xs t.rest m among (l == m) refl lt t.labelled;
        beyond = λ low high m rise among.
            let b = t.beyond (suc l) high m rise.2 among in
            let above = among-above (suc l) high m (labels xs) rise.2 b.0 in
            let other : (l == m) ≡ false = grind (arith, nat_tests, above) in
            (inr b.0, ap (λ (y : Bool). if y then 0 else place_of m xs) other ∙ b.1);
      }
  turned-at source all (flow_step {n = n} {a = a} {b = b} {x = x} {xs = xs} is t f) zero st e =
      let own = first-step source all x xs st is e in
      record {
        place = n;
        is = omega arith;
        before = a;
        after = b;
        turn = subst (λ (i : Insn). Turn w r regs asks n i a b) (sym own) t;
        stack = t.here ∙ ap (λ (y : Bool). holding (if y then t.stack else stack_at f n)) (sym (eq-eqb n n refl));
        rest = xs;
        flow = f;
        later = λ q lt. ap (λ (y : Bool). if y then t.stack else stack_at f q) (ne_eqb q n (ne_of_gt lt));
        size = omega (arith, count-step x xs is);
        labelled = λ l among lt. (subst (IsAmong l) (labels-step x xs is) among, omega (arith, place-step l x xs is));
        beyond = λ low high l rise among. (subst (IsAmong l) (sym (labels-step x xs is)) among, omega (arith, place-step l x xs is));
      }
  turned-at source all (flow_step {n = n} {a = a} {b = b} {x = x} {xs = xs} is t f) (suc k) st e =
      let u = turned-at source all f k st (sym (grind (arith)) ∙ e) in
      let far : n < u.place = omega (arith, u.is) in
      record {
        place = u.place;
        is = omega (arith, u.is);
        before = u.before;
        after = u.after;
        turn = u.turn;
        stack = u.stack ∙ ap (λ (y : Bool). holding (if y then t.stack else stack_at f u.place)) (sym (ne_eqb u.place n (ne_of_gt far)));
        rest = u.rest;
        flow = u.flow;
        later = grind (arith, stack_at, ne_eqb, ne_of_gt);
        size = omega (arith, count-step x xs is, u.size);
        labelled = grind (arith, place-step, labels-step);
        beyond = λ low high l rise among.
            let p = place-step l x xs is in
            let b = u.beyond low high l (subst (Rises low high) (labels-step x xs is) rise) among in
            (subst (IsAmong l) (sym (labels-step x xs is)) b.0, omega (arith, p, b.1));
      }

  -- where control doesn't come from before, and no handler's label stands first, the stack is empty
  pub left-empty : {n : ℕ} {a b : State} {xs : List Item} (f : Flows w r regs asks n a xs b) → a ≡ left → b ≡ left
      → ((l c : ℕ) → asks l ≡ catching c → IsAmong l (labels xs) → 0 < place_of l xs) → stack_at f n ≡ []
  unfolding stack_at
  left-empty flow_end e g free = refl
  left-empty (flow_label {n = n} {l = l} {a = a} {b = b} {xs = xs} p f) e g free = by (asks l) refl p (λ h. left-empty f h g later)
    where
      later : (m c : ℕ) → asks m ≡ catching c → IsAmong m (labels xs) → 0 < place_of m xs
      later m c is among = past (l == m) refl (free m c is (inr among))
        where
          past : (y : Bool) → (l == m) ≡ y → 0 < (if y then 0 else place_of m xs) → 0 < place_of m xs
          past true q lt = absurd (omega (arith, lt))
          past false q lt = lt

      by : (q : Asked) → asks l ≡ q → Passes q a b → (b ≡ left → stack_at f n ≡ []) → stack_at f n ≡ []
      by nothing_asked is p rest = rest (sym p ∙ e)
      by emptied is p rest = (comes-next f [] p.1 g).stack
      by (catching c) is p rest = grind (arith, eq-eqb)
  left-empty (flow_step is t f) e g free = absurd (never t.stack (sym t.here ∙ e))

  -- ---- what a label asks is there

  pub record IsAskedFor (n : ℕ) (l : ℕ) (xs : List Item) (at : ℕ → List Ty) (s : List Ty) : Type 0 where
    pub inside : place_of l xs < count xs
    pub stack : at (n + place_of l xs) ≡ s

  -- the stack that a label gives stands at its place
  pub asked-at : {n : ℕ} {a b : State} {xs : List Item} (f : Flows w r regs asks n a xs b) (l : ℕ) (s : List Ty) → b ≡ left
      → IsAmong l (labels xs) → ((c d : State) → Passes (asks l) c d → d ≡ holding s) → IsAskedFor n l xs (stack_at f) s
  unfolding stack_at
  asked-at flow_end l s g among gives = absurd among
  asked-at (flow_label {n = n} {l = m} {a = a} {b = b} {xs = xs} p f) l s g among gives = by (m == l) refl among (λ h. asked-at f l s g h gives)
    where
      here : m ≡ l → Follows n xs (stack_at f) s
      here own = comes-next f s (gives a b (subst (λ (j : ℕ). Passes (asks j) a b) own p)) g

      by : (y : Bool) → (m == l) ≡ y → IsAmong l (labels (Label m ∷ xs)) → (IsAmong l (labels xs) → IsAskedFor n l xs (stack_at f) s)
          → IsAskedFor n l (Label m ∷ xs) (stack_at f) s
      by true q among rest =
          let h = here (grind (arith, nat_tests, q)) in
          let zero_place : (if m == l then 0 else place_of l xs) ≡ 0 = ap (λ (y : Bool). if y then 0 else place_of l xs) q in
          let same : n + (if m == l then 0 else place_of l xs) ≡ n = omega (arith, zero_place) in
          record { inside = omega (arith, zero_place, h.inside); stack = ap (stack_at f) same ∙ h.stack }
      by false q (inl own) rest = let same : (m == l) ≡ true = ap (λ (j : ℕ). m == j) (sym own) ∙ eq-eqb m m refl in absurd (differ (m == l) same q)
      by false q (inr among) rest = grind (arith, stack_at)
  asked-at (flow_step {n = n} {x = x} {xs = xs} is t f) l s g among gives =
      let r = asked-at f l s g (subst (IsAmong l) (labels-step x xs is) among) gives in
      let p = place-step l x xs is in
      let same : n + place_of l (x ∷ xs) ≡ suc n + place_of l xs = omega (arith, p) in
      let far : n < suc n + place_of l xs = omega arith in
      record {
        inside = omega (arith, p, count-step x xs is, r.inside);
        stack =
            ap (λ (q : ℕ). if q == n then t.stack else stack_at f q) same
            ∙ ap (λ (y : Bool). if y then t.stack else stack_at f (suc n + place_of l xs)) (ne_eqb (suc n + place_of l xs) n (ne_of_gt far)) ∙ r.stack;
      }
