-- The element of each method of the last package, and the methods of a world by their numbers.
use Rattle.std.proofs.Common.{◌≡◌, ℕ, zero, suc, ◌+◌, List, [], ◌∷◌, Option, Some, slice_get}
use Rattle.std.proofs.Common.{refl, sym, ◌∙◌, ap, arith}
use Rattle.std.proofs.lemmas.Option.{same_Some}
use Rattle.jc_base.specs.declared.record.MethodRec.{MethodRec}
use Rattle.jc_base.specs.World.{Linked}
use Rattle.jc_decode.specs.declared.symbols.Laid.{Laid}
use Rattle.jc_control.specs.Method.{Method, IsMethodOf, method_in}
use Rattle.law_laid.proofs.Methods.{in-world}
use Rattle.law_shared_world.specs.SharedCode.{IsSharedElement, AreSharedElements}

-- ---- elements

-- the element of a method
pub element-at :
    (w : Linked) (number : ℕ) (own : List MethodRec) (laid : List (Option Laid)) (n : ℕ) (r : MethodRec) (o : Option Laid)
    → AreSharedElements w number own laid
    → slice_get own n ≡ Some r
    → slice_get laid n ≡ Some o
    → IsSharedElement w (number + n) r o
element-at w number [] laid n r o are own at = absurd (cc)
element-at w number (s ∷ ss) [] n r o are own at = absurd are
element-at w number (s ∷ ss) (l ∷ ls) zero r o are own at = grind (arith)
element-at w number (s ∷ ss) (l ∷ ls) (suc n) r o are own at = grind (arith, suc, element-at w (suc number) ss ls n r o are.1 own at)

-- each method has one
pub element-there :
    (w : Linked) (number : ℕ) (own : List MethodRec) (laid : List (Option Laid)) (n : ℕ) (r : MethodRec)
    → AreSharedElements w number own laid
    → slice_get own n ≡ Some r
    → (o : Option Laid) × (slice_get laid n ≡ Some o)
element-there w number [] laid n r are own = absurd (cc)
element-there w number (s ∷ ss) [] n r are own = absurd are
element-there w number (s ∷ ss) (l ∷ ls) zero r are own = (l, refl)
element-there w number (s ∷ ss) (l ∷ ls) (suc n) r are own = element-there w (suc number) ss ls n r are.1 own

-- methods of one number are one
pub same-method : (w : Linked) (m k : Method) → IsMethodOf w m → IsMethodOf w k → m.number ≡ k.number → m ≡ k
same-method w m k mo ko e = same_Some m k (sym (in-world w m mo) ∙ (ap (method_in w) e ∙ in-world w k ko))
