-- The chain of a class is the class and its ancestors, and no class is one of its ancestors.
use Rattle.std.proofs.Common.{◌≡◌, ℕ, zero, suc, ◌<◌, ◌⊎◌, inl, inr, ◌↔◌, Bool, true, List, [], ◌∷◌, length, Option, Some}
use Rattle.std.proofs.Common.{None, refl, sym, subst, ◌∙◌, arith}
use Rattle.std.specs.Prelude.{IsTrue, Contains, slice_get}
use Rattle.std.proofs.lemmas.Bool.{false≢true}
use Rattle.jc_base.specs.Order.{is_on_chain as on_chain_in_table}
use Rattle.jc_base.proofs.Climbs.{climb, on_alone, on_next, on_chain-parent, on_chain-trans}
use Rattle.jc_resolve.specs.declared.naming.NamedClass.{NamedClass}
use Rattle.jc_base.specs.Leads.{Leads, at_once, further}
use Rattle.jc_classes.specs.Ancestor.{superclass, extended, IsAncestor, above}
use Rattle.jc_classes.specs.Outline.{AreLines, is_on_chain, parent_of, outline}
use Rattle.jc_classes.proofs.Bare.{bare, bare-parent, bare-on_chain, bare-classes, on_chain-here}
use Rattle.jc_classes.proofs.Above.{above-from, is_above-complete}
use Rattle.jc_classes.proofs.FaultlessLines.{NoFault}
use Rattle.jc_classes.proofs.Descent.{above-parent, parent-above}

-- a class on the chain of a class is this class, or an ancestor of it
on-chain-ancestor : (cs : List NamedClass) (roles : List ℕ) → AreLines (outline cs roles) → (c : ℕ) → (a : ℕ)
    → on_chain_in_table (bare (outline cs roles)) a c ≡ true → (a ≡ c) ⊎ IsAncestor cs a c
on-chain-ancestor cs roles are =
    let t = outline cs roles in
    climb (bare t) (bare-classes t are) (λ c. (a : ℕ) → on_chain_in_table (bare t) a c ≡ true → (a ≡ c) ⊎ IsAncestor cs a c)
    (λ c top alone a on. inl (sym (on_alone (bare t) a c alone on)))
    (λ c p link next before a on. elim (on_next (bare t) a c p next on) [
      | inl here ↦ inl (sym here)
      | inr up ↦
          let own : parent_of t c ≡ Some p = sym (bare-parent t c) ∙ link in
          inr (elim (before a up) [
            | inl same ↦ subst (λ x. IsAncestor cs x c) (sym same) (at_once (parent-above cs roles c p own))
            | inr above ↦ further (parent-above cs roles c p own) above
          ])
    ])

ancestor-on-chain : (cs : List NamedClass) (roles : List ℕ) (a c : ℕ) → AreLines (outline cs roles) → Leads (superclass cs) c a
    → on_chain_in_table (bare (outline cs roles)) a c ≡ true
ancestor-on-chain cs roles a c are (at_once h) =
    let t = outline cs roles in
    on_chain-parent (bare t) c a (bare-classes t are) (bare-parent t c ∙ above-parent cs roles c a h)
ancestor-on-chain cs roles a c are (further {b = b} h rest) =
    let t = outline cs roles in
    on_chain-trans (bare t) (bare-classes t are) c b a (on_chain-parent (bare t) c b (bare-classes t are) (bare-parent t c ∙ above-parent cs roles c b h))
    (ancestor-on-chain cs roles a b are rest)

pub chain-ancestors : (cs : List NamedClass) (roles : List ℕ) → AreLines (outline cs roles) → (a c : ℕ)
    → IsTrue (is_on_chain (outline cs roles) a c) ↔ ((a ≡ c) ⊎ IsAncestor cs a c)
chain-ancestors cs roles are a c = (λ on. on-chain-ancestor cs roles are c a (bare-on_chain (outline cs roles) a c ∙ on), back) where
  back : (a ≡ c) ⊎ IsAncestor cs a c → is_on_chain (outline cs roles) a c ≡ true
  back (inl same) = subst (λ x. is_on_chain (outline cs roles) x c ≡ true) (sym same) (on_chain-here (outline cs roles) c)
  back (inr above) = sym (bare-on_chain (outline cs roles) a c) ∙ ancestor-on-chain cs roles a c are above

-- ---- no cycles

past : (xs : List NamedClass) (i : ℕ) → i < length xs → slice_get xs i ≡ None → ⊥
past [] i h e = omega arith
past (x ∷ xs) zero h e = cc
past (x ∷ xs) (suc i) h e = past xs i (omega arith) e

first-step : {next : ℕ → List ℕ} {a b : ℕ} → Leads next a b → (x : ℕ) × Contains (next a) x
first-step x = grind (arith)

-- what has something above it among interfaces is one, and among classes is none
above-kind : (cs : List NamedClass) (interfaces : Bool) (c x : ℕ) (r : NamedClass) → slice_get cs c ≡ Some r → Contains (above cs interfaces c) x
    → interfaces ≡ r.interface
unfolding superclass extended
above-kind cs y c x r at h = grind (arith)

acyclic-by : (cs : List NamedClass) (first : ℕ) (roles : List ℕ) → NoFault cs first roles → (interfaces : Bool) (c x : ℕ) (o : Option NamedClass)
    → slice_get cs c ≡ o → Contains (above cs interfaces c) x
    → Leads (above cs interfaces) c c → ⊥
acyclic-by cs first roles sound interfaces c x None at step leads = past cs c (above-from cs interfaces c x step) at
acyclic-by cs first roles sound interfaces c x (Some r) at step leads =
    grind (arith, above-kind cs interfaces c x r at step, is_above-complete cs interfaces c c leads, false≢true)

pub acyclic : (cs : List NamedClass) (first : ℕ) (roles : List ℕ) → NoFault cs first roles → (interfaces : Bool) (c : ℕ)
    → Leads (above cs interfaces) c c → ⊥
acyclic cs first roles sound interfaces c leads =
    let step = first-step leads in
    acyclic-by cs first roles sound interfaces c step.0 (slice_get cs c) refl step.1 leads
