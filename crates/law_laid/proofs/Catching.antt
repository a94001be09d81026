-- All handlers of a method with one number of the constant pool catch the same class.
use Rattle.std.proofs.Common.{◌≡◌, ℕ, zero, suc, ◌==◌, Bool, false, if◌then◌else◌, List, [], ◌∷◌, refl, sym, ◌∙◌, ap}
use Rattle.std.proofs.Common.{arith}
use Rattle.std.proofs.lemmas.Bool.{eqb-true}
use Rattle.std.proofs.lemmas.Bool.Decides.{nat_tests}
use Rattle.jc_base.specs.declared.record.Handler.{Handler}
use Rattle.jc_base.specs.declared.record.Member.{Member}
use Rattle.jc_base.specs.Class.{ClassTable}
use Rattle.jc_base.specs.Linked.{Catches, IsHandler}
use Rattle.law_laid.specs.Laid.{class_by}
use Rattle.law_laid.specs.Laws.{CatchesByPool}

one-class : (t : ClassTable) (pool : List Member) (index c d : ℕ) → Catches t pool index c → Catches t pool index d → c ≡ d
one-class t pool zero c d a b = a ∙ sym b
one-class t pool (suc k) c d a b = cc

first-of :
    (t : ClassTable) (pool : List Member) (length : ℕ) (x h : Handler) (c rest : ℕ) (b : Bool)
    → (x.index == h.index) ≡ b
    → IsHandler t pool length x
    → Catches t pool h.index c
    → (b ≡ false → rest ≡ c)
    → (if b then x.class else rest) ≡ c
first-of t pool length x h c rest x2 e is a other = grind (arith, eqb-true, one-class)

pub catches-by-pool : CatchesByPool
catches-by-pool t pool length [] h c all (k, lt, e) a = absurd (omega (arith, lt))
catches-by-pool t pool length (x ∷ xs) h c all (zero, lt, e) a =
    first-of t pool length x h c (class_by xs h.index) (x.index == h.index) refl (all 0 x (omega arith)) a
    (λ none. let same : x.index ≡ h.index = ap (λ (y : Handler). y.index) e in absurd (grind (arith, nat_tests, none, same)))
catches-by-pool t pool length (x ∷ xs) h c all (suc k, lt, e) a =
    first-of t pool length x h c (class_by xs h.index) (x.index == h.index) refl (all 0 x (omega arith)) a
    (λ none. catches-by-pool t pool length xs h c (λ j d less. all (suc j) d (omega (arith, less))) (k, omega (arith, lt), e) a)
