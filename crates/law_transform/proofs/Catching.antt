-- What is laid for the methods of the last package may be laid for them: they have code, and each handler of the laid code has the pool
-- number of a handler of the method.
use Rattle.std.proofs.Common.{◌≡◌, ℕ, zero, suc, ◌+◌, List, [], ◌∷◌, map, All, Option, Some, slice_get, refl, sym, subst, arith}
use Rattle.std.specs.Prelude.{Any}
use Rattle.std.proofs.lemmas.List.Elements.{All-nil, All-cons, All-map, All-weaker}
use Rattle.jc_base.specs.declared.record.Handler.{Handler}
use Rattle.jc_base.specs.declared.record.MethodRec.{MethodRec}
use Rattle.jc_base.specs.World.{Linked}
use Rattle.jc_decode.specs.declared.symbols.LaidHandler.{LaidHandler as Laying}
use Rattle.jc_decode.specs.declared.symbols.Laid.{Laid}
use Rattle.jc_decode.specs.declared.symbols.Range.{Range}
use Rattle.jc_decode.specs.Symbols.{handler}
use Rattle.jc_control.specs.Method.{Method}
use Rattle.law_relink.specs.Replaced.{HasPoolOf}
use Rattle.xf_emission.specs.Live.{KeepsLive, none_left, live_kept, dead_left}
use Rattle.law_transform.specs.Laid.{IsLaidElement, AreLaidElements}

-- ---- pool numbers

-- a range has the pool number of one of these handlers
abbrev HasPool : List Handler → Range → Type 0
HasPool hs r = Any (λ c. c.index ≡ r.pool) hs

pool-first : (h : Handler) (hs : List Handler) (r : Range) → r.pool ≡ h.index → HasPool (h ∷ hs) r
pool-first h hs r e = (0, h, omega arith, refl, sym e)

pool-later : (h : Handler) (hs : List Handler) (r : Range) → HasPool hs r → HasPool (h ∷ hs) r
pool-later h hs r (k, c, lt, at, e) = (suc k, c, omega (arith, lt), at, e)

all-later : (h : Handler) (hs : List Handler) (rs : List Range) → All (HasPool hs) rs → All (HasPool (h ∷ hs)) rs
all-later h hs rs all = All-weaker (HasPool hs) (HasPool (h ∷ hs)) (pool-later h hs) rs all

pools-kept : (m : Method) (hs : List Handler) (rs : List Range) → KeepsLive m hs rs → All (HasPool hs) rs
pools-kept m hs rs none_left = All-nil (HasPool [])
pools-kept m _ _ (live_kept {h = h} {hs = hs} {r = r} {rs = rs} live e k) =
    All-cons (HasPool (h ∷ hs)) r rs (pool-first h hs r e) (all-later h hs rs (pools-kept m hs rs k))
pools-kept m _ _ (dead_left {h = h} {hs = hs} {rs = rs} dead k) = all-later h hs rs (pools-kept m hs rs k)

-- the handlers of laid code have pool numbers of the method's
pub pools-laid :
    (m : Method) (hs : List Handler) (rs : List Range) (place : ℕ → ℕ) (laid : List Laying)
    → KeepsLive m hs rs
    → laid ≡ map (handler place) rs
    → All (HasPoolOf hs) laid
pools-laid m hs rs place laid keeps e =
    subst (All (HasPoolOf hs)) (sym e) (All-map (HasPoolOf hs) (handler place) rs (pools-kept m hs rs keeps))

-- ---- elements

-- the element of a method
pub element-at :
    (w : Linked) (number : ℕ) (own : List MethodRec) (laid : List (Option Laid)) (n : ℕ) (r : MethodRec) (o : Option Laid)
    → AreLaidElements w number own laid
    → slice_get own n ≡ Some r
    → slice_get laid n ≡ Some o
    → IsLaidElement w (number + n) r o
element-at w number [] laid n r o are own at = absurd (cc)
element-at w number (s ∷ ss) [] n r o are own at = absurd are
element-at w number (s ∷ ss) (l ∷ ls) zero r o are own at = grind (arith)
element-at w number (s ∷ ss) (l ∷ ls) (suc n) r o are own at =
    let here : suc number + n ≡ number + suc n = omega arith in
    subst (λ k. IsLaidElement w k r o) here (element-at w (suc number) ss ls n r o are.1 own at)

-- each method has one
pub element-there :
    (w : Linked) (number : ℕ) (own : List MethodRec) (laid : List (Option Laid)) (n : ℕ) (r : MethodRec)
    → AreLaidElements w number own laid
    → slice_get own n ≡ Some r
    → (o : Option Laid) × (slice_get laid n ≡ Some o)
element-there w number [] laid n r are own = absurd (cc)
element-there w number (s ∷ ss) [] n r are own = absurd are
element-there w number (s ∷ ss) (l ∷ ls) zero r are own = (l, refl)
element-there w number (s ∷ ss) (l ∷ ls) (suc n) r are own = element-there w (suc number) ss ls n r are.1 own
