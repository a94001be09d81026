-- Over the target index that is written each method of the last package has a card typing.
use Rattle.std.proofs.Common.{List, [], ◌∷◌, length, drop, Option, Some, None, arith, length-take}
use Rattle.card_typing.specs.Typing.{HasCardTyping}
use Rattle.card_verify.specs.Counting.{IsByIndex}
use Rattle.card_verify.proofs.Denying.{exact-answers}
use Rattle.jc_base.specs.declared.record.MethodRec.{MethodRec}
use Rattle.jc_base.specs.World.{Linked}
use Rattle.jc_control.specs.Asked.{AllHave, IsOfLast}
use Rattle.jc_control.specs.Method.{Method, IsMethodOf}
use Rattle.jc_decode.specs.declared.symbols.Laid.{Laid}
use Rattle.law_index.specs.WrittenIndex.{AreNewCodes, HaveExactIndexes}
use Rattle.xf_last.specs.Fits.{AreFit}

-- what is laid is code of methods with code
pub new-codes : (rs : List MethodRec) (ls : List (Option Laid)) → AreFit rs ls → AreNewCodes rs ls
new-codes [] [] fit = tt {0}
new-codes [] (l ∷ ls) fit = absurd fit
new-codes (r ∷ rs) [] fit = absurd fit
new-codes (r ∷ rs) (None ∷ ls) fit = new-codes rs ls fit.1
new-codes (r ∷ rs) (Some l ∷ ls) fit = (record { filled = fit.0.0; some = fit.0.1.some; short = fit.0.1.short }, new-codes rs ls fit.1)

-- the exact index of a method with a card typing serves it
by-exact : (w : Linked) (m : Method) → IsMethodOf w m → HasCardTyping w m → HaveExactIndexes w → IsOfLast w m → IsByIndex w m.number
by-exact w m mo typed exact is = grind (arith, length-take, drop, length, exact-answers)

pub all-served : (w : Linked) → AllHave (IsMethodOf w) (HasCardTyping w) → HaveExactIndexes w → AllHave (IsOfLast w) (λ m. IsByIndex w m.number)
all-served w carded exact m is = by-exact w m is.method (carded m is.method) exact is
