-- A handler need be asked only where it first covers a place: from there on the values at its entry are kept.
use Rattle.std.proofs.Common.{◌≡◌, ℕ, zero, suc, ◌+◌, ◌<◌, ◌≤◌, ◌⊎◌, inl, inr, Bool, true, false, not, ◌&&◌, ◌||◌}
use Rattle.std.proofs.Common.{if◌then◌else◌, List, [], ◌∷◌, ◌++◌, All, Option, Some, None, refl, sym, ◌∙◌, ap, subst, arith}
use Rattle.std.specs.Prelude.{◌==◌, fold, is_some, length}
use Rattle.std.specs.List.{list_any}
use Rattle.std.proofs.lemmas.Bool.{eqb-true, false≢true}
use Rattle.std.proofs.lemmas.List.Elements.{All-head, All-tail}
use Rattle.std.proofs.lemmas.List.Folds.{list_any-append}
use Rattle.std.proofs.lemmas.List.Sums.{fold-append}
use Rattle.jc_base.specs.declared.ty.Ty.{Ty}
use Rattle.jc_base.proofs.SameTypes.{same_type-decides}
use Rattle.jc_base.specs.declared.record.Handler.{Handler}
use Rattle.jc_base.specs.Laws.{SameTypeDecides}
use Rattle.jc_base.specs.World.{Linked}
use Rattle.jc_control.specs.Method.{Method}
use Rattle.jc_decode.specs.declared.insn.Placed.{Placed}
use Rattle.xf_homes.specs.Home.{register_count}
use Rattle.jc_rules.specs.Demand.{Frame}
use Rattle.jc_rules.specs.Typing.{HaveSameRegisters}
use Rattle.xf_homes.specs.declared.home.Home.{Home}
use Rattle.xf_homes.specs.Walk.{Event, same_home, has, with_home, with_home_of_value, with_event, with_events, is_covered, local_of, caught_of, caught_events}
use Rattle.xf_homes.specs.Walk.{local_events, locals_events, frame_events, place_events}
use Rattle.xf_homes.specs.Asked.{knows, AreKnownAt, LocalsAreKnown, covers_last, is_new, last_local, AreLastKnown, AreSameLocals}
use Rattle.xf_homes.specs.Asked.{AreStill, NoneIsNew}
use Rattle.xf_homes.specs.Asked.{HandlersAreAsked, last_after}
use Rattle.xf_homes.proofs.Events.{home-itself}

no-events : (homes : List Home) → with_events homes [] ≡ homes
unfolding with_events
no-events homes = refl

-- before the walk no place was reached
pub none-known : (frames : ℕ → Option Frame) (count : ℕ) (homes : List Home) (hs : List Handler) → LocalsAreKnown frames count homes hs None
unfolding LocalsAreKnown
none-known frames count homes hs = tt

-- ---- what is kept stays kept

has-either : (homes : List Home) (k h : Home) → has homes h ≡ true → has (homes ++ k ∷ []) h ≡ true
unfolding has
has-either homes k h e = list_any-append (λ j. same_home j h) homes (k ∷ []) ∙ ap (λ b. b || list_any (λ j. same_home j h) (k ∷ [])) e

has-with : (homes : List Home) (k h : Home) → has homes h ≡ true → has (with_home homes k) h ≡ true
has-with homes k h e = by (has homes k)
  where
    by : (b : Bool) → has (if b then homes else homes ++ k ∷ []) h ≡ true
    by true = e
    by false = has-either homes k h e

has-value : (homes : List Home) (slot : ℕ) (v : Option Ty) (h : Home) → has homes h ≡ true → has (with_home_of_value homes slot v) h ≡ true
has-value homes slot x h e = grind (arith, has-with)

knows-value : (homes : List Home) (slot : ℕ) (v : Option Ty) (x : ℕ) (u : Option Ty) → knows homes x u ≡ true
    → knows (with_home_of_value homes slot v) x u ≡ true
knows-value homes slot v x x2 e = grind (arith, has-value)

knows-fold : (es : List Event) (homes : List Home) (x : ℕ) (u : Option Ty) → knows homes x u ≡ true → knows (fold with_event homes es) x u ≡ true
knows-fold [] homes x u e = e
knows-fold (event ∷ es) homes x u e = knows-fold es (with_event homes event) x u (knows-value homes event.spot.slot event.value x u e)

known-fold : (frames : ℕ → Option Frame) (count : ℕ) (es : List Event) (homes : List Home) (p : ℕ) (hs : List Handler)
    → AreKnownAt frames count homes p hs → AreKnownAt frames count (fold with_event homes es) p hs
known-fold frames count es homes p [] known = tt
known-fold frames count es homes p (h ∷ hs) known = grind (arith, knows-fold, known-fold frames count es homes p hs known.1)

-- ---- a value that is kept changes nothing

value-kept : (homes : List Home) (x : ℕ) (v : Option Ty) → knows homes x v ≡ true → with_home_of_value homes x v ≡ homes
value-kept homes x x2 e = grind (arith)

-- the values at the entries of the handlers that cover the place, of one local
abbrev CaughtKnown : (ℕ → Option Frame) → List Home → ℕ → ℕ → List Handler → Type 0
CaughtKnown frames homes p x [] = Unit {0}
CaughtKnown frames homes p x (h ∷ hs) = (is_covered h p ≡ true → knows homes x (local_of (frames h.entry) x) ≡ true) × CaughtKnown frames homes p x hs

caught-known : (frames : ℕ → Option Frame) (count : ℕ) (homes : List Home) (p x : ℕ) (hs : List Handler) → x < count
    → AreKnownAt frames count homes p hs → CaughtKnown frames homes p x hs
caught-known frames count homes p x [] inside known = tt
caught-known frames count homes p x (h ∷ hs) inside known = (λ covers. known.0 covers x inside, caught-known frames count homes p x hs inside known.1)

caught-value : (frames : ℕ → Option Frame) (homes : List Home) (p x : ℕ) (h : Handler)
    → (is_covered h p ≡ true → knows homes x (local_of (frames h.entry) x) ≡ true) → knows homes x (caught_of frames p x h) ≡ true
caught-value frames homes p x h known = by (is_covered h p) known
  where
    by : (b : Bool) → (b ≡ true → knows homes x (local_of (frames h.entry) x) ≡ true)
        → knows homes x (if b then local_of (frames h.entry) x else None) ≡ true
    by true f = f refl
    by false f = refl

caught-more : (frames : ℕ → Option Frame) (homes : List Home) (slot : ℕ) (v : Option Ty) (p x : ℕ) (hs : List Handler)
    → CaughtKnown frames homes p x hs → CaughtKnown frames (with_home_of_value homes slot v) p x hs
caught-more frames homes slot v p x [] known = tt
caught-more frames homes slot v p x (h ∷ hs) known = grind (arith, knows-value, caught-more frames homes slot v p x hs known.1)

skip-caught : (frames : ℕ → Option Frame) (homes : List Home) (p x n : ℕ) (hs : List Handler) → CaughtKnown frames homes p x hs
    → fold with_event homes (caught_events frames p x n hs) ≡ homes
skip-caught frames homes p x n [] known = refl
skip-caught frames homes p x n (h ∷ hs) known =
    ap (λ acc. fold with_event acc (caught_events frames p x (suc n) hs))
    (value-kept homes x (caught_of frames p x h) (caught-value frames homes p x h known.0))
    ∙ skip-caught frames homes p x (suc n) hs known.1

skip-local : (frames : ℕ → Option Frame) (homes : List Home) (p x : ℕ) (hs : List Handler) → CaughtKnown frames homes p x hs
    → fold with_event homes (local_events frames [] p x) ≡ fold with_event homes (local_events frames hs p x)
unfolding local_events
skip-local frames homes p x hs known = grind (arith, skip-caught, caught-more)

skip-locals : (frames : ℕ → Option Frame) (count n x : ℕ) (homes : List Home) (p : ℕ) (hs : List Handler) → x + n ≤ count
    → AreKnownAt frames count homes p hs
    → fold with_event homes (locals_events frames [] p x n) ≡ fold with_event homes (locals_events frames hs p x n)
skip-locals frames count zero x homes p hs inside known = refl
skip-locals frames count (suc n) x homes p hs inside known =
    let here : CaughtKnown frames homes p x hs = caught-known frames count homes p x hs (omega arith) known in
    let acc = fold with_event homes (local_events frames hs p x) in
    fold-append with_event homes (local_events frames [] p x) (locals_events frames [] p (suc x) n)
    ∙ ap (λ a. fold with_event a (locals_events frames [] p (suc x) n)) (skip-local frames homes p x hs here)
    ∙ skip-locals frames count n (suc x) acc p hs (omega arith) (known-fold frames count (local_events frames hs p x) homes p hs known)
    ∙ sym (fold-append with_event homes (local_events frames hs p x) (locals_events frames hs p (suc x) n))

-- ---- what was asked is kept

pub nat-cases : (x y : ℕ) → x ≤ y → (x ≡ y) ⊎ (suc x ≤ y)
nat-cases zero zero le = inl refl
nat-cases zero (suc y) le = inr (omega arith)
nat-cases (suc x) zero le = absurd (omega arith)
nat-cases (suc x) (suc y) le = next (nat-cases x y (omega arith))
  where
    next : (x ≡ y) ⊎ (suc x ≤ y) → (suc x ≡ suc y) ⊎ (suc (suc x) ≤ suc y)
    next (inl e) = inl (ap suc e)
    next (inr l) = inr (omega arith)

pub no-handlers : (hs : List Handler) (b : Bool) → b ≡ (length hs == 0) → b ≡ true → hs ≡ []
no-handlers [] b is e = refl
no-handlers (h ∷ hs) b is e = let same = eqb-true (length (h ∷ hs)) 0 (sym is ∙ e) in absurd (omega (arith, same))

-- of the locals themselves

-- the value of a local that is that at the last place
pub same-kept : (frames : ℕ → Option Frame) (homes : List Home) (last : Option ℕ) (x : ℕ) (v : Option Ty) → v ≡ last_local frames last x
    → knows homes x (last_local frames last x) ≡ true → homes ≡ with_home_of_value homes x v
same-kept frames homes last x v is known = sym (value-kept homes x v (subst (λ u. knows homes x u ≡ true) (sym is) known))

-- in frames with the same registers
pub same_locals : (f g : Option Frame) → HaveSameRegisters f g → AreSameLocals f g
same_locals x g same = grind (arith)

-- where all of them are, nothing is added
still-locals : (frames : ℕ → Option Frame) (homes : List Home) (p : ℕ) (last : Option ℕ) (count n x : ℕ) → x + n ≤ count
    → AreStill frames p last → AreLastKnown frames count homes last
    → homes ≡ fold with_event homes (locals_events frames [] p x n)
unfolding local_events
still-locals frames homes p last count zero x inside still known = refl
still-locals frames homes p last count (suc n) x inside still known =
    still-locals frames homes p last count n (suc x) (omega arith) still known
    ∙ ap (λ acc. fold with_event acc (locals_events frames [] p (suc x) n))
    (same-kept frames homes last x (local_of (frames p) x) (still x) (known x (omega arith)))

pub still-kept : (frames : ℕ → Option Frame) (homes : List Home) (p : ℕ) (last : Option ℕ) (count : ℕ) → AreStill frames p last
    → AreLastKnown frames count homes last
    → homes ≡ with_events homes (locals_events frames [] p 0 count)
unfolding with_events
still-kept frames homes p last count still known = still-locals frames homes p last count count 0 (omega arith) still known

pub last-known : (frames : ℕ → Option Frame) (count : ℕ) (homes : List Home) (hs : List Handler) (last : Option ℕ)
    → LocalsAreKnown frames count homes hs last → AreLastKnown frames count homes last
unfolding LocalsAreKnown
last-known frames count homes hs x known = grind (arith)

pub last-more : (frames : ℕ → Option Frame) (count : ℕ) (homes after : List Home) (es : List Event) (last : Option ℕ)
    → after ≡ with_events homes es → AreLastKnown frames count homes last → AreLastKnown frames count after last
unfolding with_events
last-more frames count homes after es last is known = grind (arith, knows-fold)

module _ (same : SameTypeDecides) where
  has-last : (homes : List Home) (h : Home) → has (homes ++ h ∷ []) h ≡ true
  unfolding has
  has-last homes h = list_any-append (λ j. same_home j h) homes (h ∷ []) ∙ by (list_any (λ j. same_home j h) homes) (same_home h h) (home-itself same h)
    where
      by : (a b : Bool) → b ≡ true → (a || (b || false)) ≡ true
      by true b e = refl
      by false b e = rw e refl

  value-known : (homes : List Home) (x : ℕ) (v : Option Ty) → knows (with_home_of_value homes x v) x v ≡ true
  value-known homes x None = refl
  value-known homes x (Some ty) = by (has homes (record { slot = x; ty = ty })) refl
    where
      by : (b : Bool) → has homes (record { slot = x; ty = ty }) ≡ b → has (if b then homes else homes ++ record { slot = x; ty = ty } ∷ [])
          (record { slot = x; ty = ty }) ≡ true
      by true e = e
      by false e = has-last homes (record { slot = x; ty = ty })

  asked-caught : (frames : ℕ → Option Frame) (homes : List Home) (p x n : ℕ) (hs : List Handler)
      → CaughtKnown frames (fold with_event homes (caught_events frames p x n hs)) p x hs
  asked-caught frames homes p x n [] = tt
  asked-caught frames homes p x n (h ∷ hs) =
      let acc = with_home_of_value homes x (caught_of frames p x h) in
      let rest = caught_events frames p x (suc n) hs in (
        λ covers.
            let is : caught_of frames p x h ≡ local_of (frames h.entry) x = ap (λ b. if b then local_of (frames h.entry) x else None) covers in
            subst (λ v. knows (fold with_event acc rest) x v ≡ true) is
            (knows-fold rest acc x (caught_of frames p x h) (value-known homes x (caught_of frames p x h))),
        asked-caught frames acc p x (suc n) hs,
      )

  -- of the locals from x up to before another
  abbrev AreKnownUpTo : (ℕ → Option Frame) → List Home → ℕ → ℕ → ℕ → List Handler → Type 0
  AreKnownUpTo frames homes p x end [] = Unit {0}
  AreKnownUpTo frames homes p x end (h ∷ hs) =
      (is_covered h p ≡ true → (y : ℕ) → x ≤ y → y < end → knows homes y (local_of (frames h.entry) y) ≡ true)
      × AreKnownUpTo frames homes p x end hs

  no-locals : (frames : ℕ → Option Frame) (homes : List Home) (p x : ℕ) (hs : List Handler) → AreKnownUpTo frames homes p x (x + 0) hs
  no-locals frames homes p x [] = tt
  no-locals frames homes p x (h ∷ hs) = (λ covers y low high. absurd (omega arith), no-locals frames homes p x hs)

  first-local : (frames : ℕ → Option Frame) (homes : List Home) (es : List Event) (p x n : ℕ) (hs : List Handler)
      → CaughtKnown frames homes p x hs → AreKnownUpTo frames (fold with_event homes es) p (suc x) (suc x + n) hs
      → AreKnownUpTo frames (fold with_event homes es) p x (x + suc n) hs
  first-local frames homes es p x n [] first rest = tt
  first-local frames homes es p x n (h ∷ hs) first rest =
      (λ covers y low high. by covers y low high (nat-cases x y low), first-local frames homes es p x n hs first.1 rest.1)
    where
      by : is_covered h p ≡ true → (y : ℕ) → x ≤ y → y < x + suc n → (x ≡ y) ⊎ (suc x ≤ y)
          → knows (fold with_event homes es) y (local_of (frames h.entry) y) ≡ true
      by covers y low high (inl e) =
          subst (λ z. knows (fold with_event homes es) z (local_of (frames h.entry) z) ≡ true) e
          (knows-fold es homes x (local_of (frames h.entry) x) (first.0 covers))
      by covers y low high (inr l) = rest.0 covers y l (omega arith)

  asked-local : (frames : ℕ → Option Frame) (homes : List Home) (p x : ℕ) (hs : List Handler)
      → CaughtKnown frames (fold with_event homes (local_events frames hs p x)) p x hs
  unfolding local_events
  asked-local frames homes p x hs = asked-caught frames (with_home_of_value homes x (local_of (frames p) x)) p x 0 hs

  asked-locals : (frames : ℕ → Option Frame) (n x : ℕ) (homes : List Home) (p : ℕ) (hs : List Handler)
      → AreKnownUpTo frames (fold with_event homes (locals_events frames hs p x n)) p x (x + n) hs
  asked-locals frames zero x homes p hs = no-locals frames homes p x hs
  asked-locals frames (suc n) x homes p hs =
      let acc = fold with_event homes (local_events frames hs p x) in
      let rest = locals_events frames hs p (suc x) n in
      subst (λ a. AreKnownUpTo frames a p x (x + suc n) hs) (sym (fold-append with_event homes (local_events frames hs p x) rest))
      (first-local frames acc rest p x n hs (asked-local frames homes p x hs) (asked-locals frames n (suc x) acc p hs))

  from-first : (frames : ℕ → Option Frame) (count : ℕ) (homes : List Home) (p : ℕ) (hs : List Handler)
      → AreKnownUpTo frames homes p 0 (0 + count) hs → AreKnownAt frames count homes p hs
  from-first frames count homes p [] known = tt
  from-first frames count homes p (h ∷ hs) known = grind (arith, from-first frames count homes p hs known.1)

  asked-own : (frames : ℕ → Option Frame) (n x : ℕ) (homes : List Home) (p : ℕ) (hs : List Handler) (y : ℕ) → x ≤ y → y < x + n
      → knows (fold with_event homes (locals_events frames hs p x n)) y (local_of (frames p) y) ≡ true
  unfolding local_events
  asked-own frames zero x homes p hs y low high = absurd (omega arith)
  asked-own frames (suc n) x homes p hs y low high =
      let acc = fold with_event homes (local_events frames hs p x) in
      let rest = locals_events frames hs p (suc x) n in
      subst (λ a. knows a y (local_of (frames p) y) ≡ true) (sym (fold-append with_event homes (local_events frames hs p x) rest))
      (by (nat-cases x y low) (λ l. asked-own frames n (suc x) acc p hs y l (omega arith)))
    where
      by : (x ≡ y) ⊎ (suc x ≤ y)
          → (suc x ≤ y → knows (fold with_event (fold with_event homes (local_events frames hs p x)) (locals_events frames hs p (suc x) n)) y
          (local_of (frames p) y) ≡ true)
          → knows (fold with_event (fold with_event homes (local_events frames hs p x)) (locals_events frames hs p (suc x) n)) y (local_of (frames p) y)
          ≡ true
      by (inl e) later =
          subst (λ z. knows (fold with_event (fold with_event homes (local_events frames hs p x)) (locals_events frames hs p (suc x) n)) z
          (local_of (frames p) z) ≡ true) e
          (knows-fold (locals_events frames hs p (suc x) n) (fold with_event homes (local_events frames hs p x)) x (local_of (frames p) x)
          (knows-fold (caught_events frames p x 0 hs) (with_home_of_value homes x (local_of (frames p) x)) x (local_of (frames p) x)
          (value-known homes x (local_of (frames p) x))))
      by (inr l) later = later l

  -- after a reached place
  pub asked-at : (frames : ℕ → Option Frame) (count : ℕ) (homes : List Home) (p : ℕ) (hs : List Handler) (more : List Event)
      → LocalsAreKnown frames count (with_events homes (locals_events frames hs p 0 count ++ more)) hs (Some p)
  unfolding with_events LocalsAreKnown
  asked-at frames count homes p hs more = grind (arith, fold-append, knows-fold, asked-own, known-fold, from-first, asked-locals)

-- ---- where no handler is new

module _ (frames : ℕ → Option Frame) (count : ℕ) (homes : List Home) (p : ℕ) where
  old-handler : (h : Handler) (last : Option ℕ) → is_new h p last ≡ false → is_covered h p ≡ true → covers_last h last ≡ true
  unfolding is_new
  old-handler h last new covers = by (is_covered h p) (covers_last h last) new covers
    where
      by : (a b : Bool) → (a && not b) ≡ false → a ≡ true → b ≡ true
      by true true e c = refl
      by true false e c = absurd (false≢true (sym e))
      by false b e c = absurd (false≢true c)

  none-asked : (q : ℕ) (hs : List Handler) → All (λ h. is_new h p (Some q) ≡ false) hs → AreKnownAt frames count homes q hs
      → AreKnownAt frames count homes p hs
  none-asked q [] none known = tt
  none-asked q (h ∷ hs) none known = (
    λ covers. known.0 (old-handler h (Some q) (All-head (λ h. is_new h p (Some q) ≡ false) h hs none) covers),
    none-asked q hs (All-tail (λ h. is_new h p (Some q) ≡ false) h hs none) known.1,
  )

  none-covers : (hs : List Handler) → All (λ h. is_new h p None ≡ false) hs → AreKnownAt frames count homes p hs
  none-covers [] none = tt
  none-covers (h ∷ hs) none = (
    λ covers. absurd (false≢true (old-handler h None (All-head (λ h. is_new h p None ≡ false) h hs none) covers)),
    none-covers hs (All-tail (λ h. is_new h p None ≡ false) h hs none),
  )

  known-here : (last : Option ℕ) (hs : List Handler) → NoneIsNew hs p last → LocalsAreKnown frames count homes hs last
      → AreKnownAt frames count homes p hs
  unfolding NoneIsNew LocalsAreKnown
  known-here x hs none known = grind (arith, none-covers, none-asked)

  -- the handlers that are asked give what all give
  pub asked-alike : (last : Option ℕ) (hs asked : List Handler) → HandlersAreAsked hs p last asked → LocalsAreKnown frames count homes hs last
      → with_events homes (locals_events frames asked p 0 count) ≡ with_events homes (locals_events frames hs p 0 count)
  unfolding with_events
  asked-alike last hs asked x known = grind (arith, skip-locals, known-here)

-- ---- along the walk

module _ (same : SameTypeDecides) (w : Linked) (m : Method) (frames : ℕ → Option Frame) (leaders : List Bool) where
  -- after an instruction the handlers are known from the last reached place on, the instruction's if control reaches it
  pub known-after : (homes after : List Home) (i : Placed) (last : Option ℕ) → LocalsAreKnown frames (register_count m.rec) homes m.rec.handlers last
      → after ≡ with_events homes (place_events w m frames leaders i) → LocalsAreKnown frames (register_count m.rec) after m.rec.handlers
      (last_after (frames i.place) i.place last)
  unfolding place_events
  known-after homes after i last known is = by (frames i.place) is
    where
      by : (f : Option Frame) → after ≡ with_events homes (frame_events w m frames leaders i f)
          → LocalsAreKnown frames (register_count m.rec) after m.rec.handlers (last_after f i.place last)
      by None e = subst (λ hs. LocalsAreKnown frames (register_count m.rec) hs m.rec.handlers last) (sym (e ∙ no-events homes)) known
      by (Some f) e =
          subst (λ hs. LocalsAreKnown frames (register_count m.rec) hs m.rec.handlers (Some i.place)) (sym e)
          (asked-at same frames (register_count m.rec) homes i.place m.rec.handlers _)

-- ---- a value that is known to be kept, and the next one

pub kept_as_known : (homes : List Home) (x : ℕ) (v u : Option Ty) → v ≡ u → knows homes x u ≡ true → homes ≡ with_home_of_value homes x v
kept_as_known homes x v u is known = sym (value-kept homes x v (subst (λ o. knows homes x o ≡ true) (sym is) known))

pub kept_none : (homes : List Home) (x : ℕ) (v : Option Ty) → is_some v ≡ false → homes ≡ with_home_of_value homes x v
kept_none homes x None none = refl
kept_none homes x (Some ty) some = absurd (cc)

pub known_after : (homes : List Home) (x : ℕ) (v : Option Ty) → knows (with_home_of_value homes x v) x v ≡ true
known_after homes x v = value-known same_type-decides homes x v
