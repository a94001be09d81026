-- What is asked at a place in the walk: of locals those whose value is not that at the last reached place, and of handlers all, where one
-- covers the place that does not cover the last one, and else none. What was asked before is kept. No public promise rests on it.
use Rattle.std.specs.Prelude.{◌≡◌, ℕ, ◌<◌, ◌⊎◌, Bool, true, false, not, ◌&&◌, List, [], ◌∷◌, All, Option, Some}
use Rattle.std.specs.Prelude.{None}
use Rattle.jc_base.specs.declared.ty.Ty.{Ty}
use Rattle.jc_base.specs.declared.record.Handler.{Handler}
use Rattle.jc_rules.specs.Demand.{Frame}
use Rattle.xf_homes.specs.declared.home.Home.{Home}
use Rattle.xf_homes.specs.Walk.{has, is_covered, local_of}

-- the value of a slot is kept, if it has one
abbrev pub knows : List Home → ℕ → Option Ty → Bool
knows homes slot None = true
knows homes slot (Some ty) = has homes (record { slot = slot; ty = ty })

-- those of so many locals at the entry of a handler are
abbrev pub KnowsHandlerLocals : (ℕ → Option Frame) → ℕ → List Home → Handler → Type 0
KnowsHandlerLocals frames count homes h = (x : ℕ) → x < count → knows homes x (local_of (frames h.entry) x) ≡ true

-- of each handler that covers a place
abbrev pub AreKnownAt : (ℕ → Option Frame) → ℕ → List Home → ℕ → List Handler → Type 0
AreKnownAt frames count homes p [] = Unit {0}
AreKnownAt frames count homes p (h ∷ hs) =
    (is_covered h p ≡ true → KnowsHandlerLocals frames count homes h) × AreKnownAt frames count homes p hs

-- those of so many locals at a place are
abbrev pub AreOwnKnown : (ℕ → Option Frame) → ℕ → List Home → ℕ → Type 0
AreOwnKnown frames count homes p = (x : ℕ) → x < count → knows homes x (local_of (frames p) x) ≡ true

abbrev pub AreKnownFrom : (ℕ → Option Frame) → ℕ → List Home → List Handler → Option ℕ → Type 0
AreKnownFrom frames count homes hs None = Unit {0}
AreKnownFrom frames count homes hs (Some p) = AreOwnKnown frames count homes p × AreKnownAt frames count homes p hs

-- where the last reached place is this one
unfoldable pub LocalsAreKnown : (ℕ → Option Frame) → ℕ → List Home → List Handler → Option ℕ → Type 0
LocalsAreKnown frames count homes hs last = AreKnownFrom frames count homes hs last

-- the value of a local at the last place
abbrev pub last_local : (ℕ → Option Frame) → Option ℕ → ℕ → Option Ty
last_local frames None x = None
last_local frames (Some q) x = local_of (frames q) x

abbrev pub AreLastKnown : (ℕ → Option Frame) → ℕ → List Home → Option ℕ → Type 0
AreLastKnown frames count homes last = (x : ℕ) → x < count → knows homes x (last_local frames last x) ≡ true

-- each local has the same value in both frames
abbrev pub AreSameLocals : Option Frame → Option Frame → Type 0
AreSameLocals f g = (x : ℕ) → local_of f x ≡ local_of g x

-- each has the value that it has at the last place
abbrev pub AreStill : (ℕ → Option Frame) → ℕ → Option ℕ → Type 0
AreStill frames p last = (x : ℕ) → local_of (frames p) x ≡ last_local frames last x

abbrev pub covers_last : Handler → Option ℕ → Bool
covers_last h None = false
covers_last h (Some q) = is_covered h q

-- the handler covers the place, and not the last one
unfoldable pub is_new : Handler → ℕ → Option ℕ → Bool
is_new h p last = is_covered h p && not (covers_last h last)

unfoldable pub NoneIsNew : List Handler → ℕ → Option ℕ → Type 0
NoneIsNew hs p last = All (λ h. is_new h p last ≡ false) hs

-- the handlers that are asked
abbrev pub HandlersAreAsked : List Handler → ℕ → Option ℕ → List Handler → Type 0
HandlersAreAsked hs p last asked = (asked ≡ hs) ⊎ ((asked ≡ []) × NoneIsNew hs p last)

-- the last reached place after this one
abbrev pub last_after : Option Frame → ℕ → Option ℕ → Option ℕ
last_after None p last = last
last_after (Some f) p last = Some p
