-- A frame comes to a place of the table.
use Rattle.std.proofs.Common.{◌≡◌, ℕ, zero, suc, ◌<◌, Bool, true, List, [], ◌∷◌, length, get_or, set, Option, Some}
use Rattle.std.proofs.Common.{IsSomeAnd, IfSome, is_some, refl, sym, ◌∙◌, ap, subst, arith}
use Rattle.jc_base.specs.Class.{ClassTable}
use Rattle.jc_rules.specs.Demand.{Frame}
use Rattle.jc_rules.specs.declared.state.Merged.TheVariants.{Same, Risen, Clashing}
use Rattle.jc_rules.specs.Typing.{state_at, Clashes, IsMergedAt}
use Rattle.jc_flow.specs.Found.{Lands, stays, rises, HasKnown}

-- the state at a place of the table
pub state_at-read : (states : List (Option Frame)) (p : ℕ) (d : Option Frame) → p < length states → state_at states p ≡ get_or states p d
unfolding state_at
state_at-read [] p d lt = absurd (omega arith)
state_at-read (x ∷ xs) zero d lt = refl
state_at-read (x ∷ xs) (suc p) d lt = state_at-read xs p d (omega arith)

set-state : (states : List (Option Frame)) (p : ℕ) (g : Frame) → state_at states p ≡ Some g → set states p (Some g) ≡ states
unfolding state_at
set-state [] zero g e = refl
set-state [] (suc p) g e = refl
set-state (x ∷ xs) zero g e = ap (λ (o : Option Frame). o ∷ xs) (sym e)
set-state (x ∷ xs) (suc p) g e = ap (λ (os : List (Option Frame)). x ∷ os) (set-state xs p g e)

-- where a frame stands, this is known of it
pub known-there : (t : ClassTable) (n : ℕ) (o : Option Frame) → is_some o ≡ true → IfSome o (HasKnown t n) → IsSomeAnd o (HasKnown t n)
known-there t n x h k = grind (arith)

pub some-so : (P Q : Frame → Type 0) (o : Option Frame) → ((f : Frame) → P f → Q f) → IsSomeAnd o P → IsSomeAnd o Q
some-so x x2 x22 so h = grind (arith)

module _ (t : ClassTable) (states new : List (Option Frame)) (pending : List Bool) (p : ℕ) (f : Frame) where
  pub lands_same : IsMergedAt t states p f new Same → Lands t (record { states = states; pending = pending }) p f (record { states = new; pending = pending })
  lands_same m =
      stays m.held m.there m.merged.0
      (ap (λ (xs : List (Option Frame)). record { states = xs; pending = pending }) (m.set ∙ ap (λ (g : Frame). set states p (Some g)) m.merged.1
      ∙ set-state states p m.held m.there))

  pub lands_risen : IsMergedAt t states p f new Risen → Lands t (record { states = states; pending = pending }) p f
      (record { states = new; pending = set pending p true })
  lands_risen m =
      rises m.held m.joined m.there m.merged.0 m.merged.1 (ap (λ (xs : List (Option Frame)). record { states = xs; pending = set pending p true }) m.set)

  pub lands_not : IsMergedAt t states p f new Clashing → IsSomeAnd (state_at states p) (λ g. Clashes t g f)
  lands_not m = subst (λ (o : Option Frame). IsSomeAnd o (λ g. Clashes t g f)) (sym m.there) m.merged
