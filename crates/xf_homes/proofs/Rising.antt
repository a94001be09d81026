-- The events of a walk over the code stand at rising spots.
use Rattle.std.proofs.Common.{◌≡◌, ℕ, zero, suc, ◌+◌, ◌<◌, ◌≤◌, inl, inr, Bool, List, [], ◌∷◌, ◌++◌, length}
use Rattle.std.proofs.Common.{reverse, flat_map, Option, Some, None, slice_get, refl, sym, ap, arith}
use Rattle.std.proofs.lemmas.List.Concat.{flat_map-cons}
use Rattle.jc_base.specs.declared.ty.Ty.{Ty}
use Rattle.jc_base.specs.declared.record.Handler.{Handler}
use Rattle.jc_base.specs.Each.{Each, IsAmong}
use Rattle.jc_base.specs.World.{Linked}
use Rattle.jc_base.proofs.Eaching.{Each-from_among, Each-append, Each-weaker}
use Rattle.jc_decode.specs.declared.insn.Placed.{Placed}
use Rattle.jc_decode.specs.Listing.{listing}
use Rattle.jc_control.specs.Method.{Method}
use Rattle.jc_decode.specs.Laws.{AreListed}
use Rattle.jc_rules.specs.Demand.{Frame}
use Rattle.xf_homes.specs.Home.{ComesBefore, register_count}
use Rattle.xf_homes.specs.Walk.{Event, caught_events, local_events, locals_events, cells_events, stack_events, keeps_stack, frame_events, place_events}
use Rattle.xf_homes.specs.Walk.{code_events}
use Rattle.xf_homes.proofs.Events.{Rising}

rising-append : (P Q : Event → Type 0) → ((a b : Event) → P a → Q b → ComesBefore a.spot b.spot) → (xs ys : List Event) → Each P xs
    → Each Q ys → Rising xs → Rising ys → Rising (xs ++ ys)
rising-append P Q before [] ys p q r s = s
rising-append P Q before (x ∷ xs) ys p q r s = (
  Each-append (λ k. ComesBefore x.spot k.spot) xs ys r.0 (Each-weaker Q (λ k. ComesBefore x.spot k.spot) (λ k qk. before x k p.0 qk) ys q),
  rising-append P Q before xs ys p.1 q r.1 s,
)

-- ---- one local

record IsOfLocal (p x n : ℕ) (e : Event) : Type 0 where
  place : e.spot.place ≡ p
  slot : e.spot.slot ≡ x
  later : n ≤ e.spot.time

record IsBetween (p from to : ℕ) (e : Event) : Type 0 where
  place : e.spot.place ≡ p
  low : from ≤ e.spot.slot
  high : e.spot.slot < to

record IsFrom (p from : ℕ) (e : Event) : Type 0 where
  place : e.spot.place ≡ p
  low : from ≤ e.spot.slot

abbrev IsAtPlace : ℕ → Event → Type 0
IsAtPlace p e = e.spot.place ≡ p

module _ (frames : ℕ → Option Frame) (handlers : List Handler) (p : ℕ) where
  caught-of_local : (x k n : ℕ) (hs : List Handler) → k ≤ n → Each (IsOfLocal p x (suc k)) (caught_events frames p x n hs)
  caught-of_local x k n [] le = tt
  caught-of_local x k n (h ∷ hs) le = (record { place = refl; slot = refl; later = omega arith }, caught-of_local x k (suc n) hs (omega arith))

  later-time : (x n : ℕ) (e : Event) → IsOfLocal p x (suc n) e → ComesBefore (record { place = p; slot = x; time = n }) e.spot
  later-time x n e of = inr (sym of.place, inr (sym of.slot, of.later))

  caught-rising : (x n : ℕ) (hs : List Handler) → Rising (caught_events frames p x n hs)
  caught-rising x n [] = tt
  caught-rising x n (h ∷ hs) = (
    Each-weaker (IsOfLocal p x (suc (suc n))) (λ k. ComesBefore (record { place = p; slot = x; time = suc n }) k.spot) (later-time x (suc n))
        (caught_events frames p x (suc n) hs)
        (caught-of_local x (suc n) (suc n) hs (omega arith)),
    caught-rising x (suc n) hs,
  )

  pub local-rising : (x : ℕ) → Rising (local_events frames handlers p x)
  unfolding local_events
  local-rising x = (
    Each-weaker (IsOfLocal p x 1) (λ k. ComesBefore (record { place = p; slot = x; time = 0 }) k.spot) (later-time x 0) (caught_events frames p x 0 handlers)
        (caught-of_local x 0 0 handlers (omega arith)),
    caught-rising x 0 handlers,
  )

  local-between : (x to : ℕ) → x < to → Each (IsBetween p x to) (local_events frames handlers p x)
  unfolding local_events
  local-between x to lt = (
    record { place = refl; low = omega arith; high = lt },
    Each-weaker (IsOfLocal p x 1) (IsBetween p x to) (λ e of. record { place = of.place; low = omega (arith, of.slot); high = omega (arith, of.slot, lt) })
        (caught_events frames p x 0 handlers)
        (caught-of_local x 0 0 handlers (omega arith)),
  )

  -- ---- all locals

  locals-between : (x n to : ℕ) → x + n ≤ to → Each (IsBetween p x to) (locals_events frames handlers p x n)
  locals-between x zero to le = tt
  locals-between x (suc n) to le =
      Each-append (IsBetween p x to) (local_events frames handlers p x) (locals_events frames handlers p (suc x) n)
      (local-between x to (omega arith))
      (Each-weaker (IsBetween p (suc x) to) (IsBetween p x to) (λ e b. record { place = b.place; low = omega (arith, b.low); high = b.high })
      (locals_events frames handlers p (suc x) n)
      (locals-between (suc x) n to (omega arith)))

  locals-rising : (x n : ℕ) → Rising (locals_events frames handlers p x n)
  locals-rising x zero = tt
  locals-rising x (suc n) = grind (arith, rising-append, suc, local-between, locals-between, local-rising, locals-rising (suc x) n)

  -- ---- cells

  cells-from : (slot : ℕ) (cells : List Ty) (i n low : ℕ) → low ≤ slot + i → Each (IsFrom p low) (cells_events p slot cells i n)
  cells-from slot cells i zero low le = tt
  cells-from slot cells i (suc n) low le = (record { place = refl; low = le }, cells-from slot cells (suc i) n low (omega arith))

  pub cells-rising : (slot : ℕ) (cells : List Ty) (i n : ℕ) → Rising (cells_events p slot cells i n)
  cells-rising slot cells i zero = tt
  cells-rising slot cells i (suc n) = (
    Each-weaker (IsFrom p (suc (slot + i))) (λ k. ComesBefore (record { place = p; slot = slot + i; time = 0 }) k.spot)
        (λ k f. inr (sym f.place, inl f.low)) (cells_events p slot cells (suc i) n)
        (cells-from slot cells (suc i) n (suc (slot + i)) (omega arith)),
    cells-rising slot cells (suc i) n,
  )

  stack-from : (b : Bool) (slot : ℕ) (cells : List Ty) → Each (IsFrom p slot) (stack_events b p slot cells)
  stack-from x slot cells = grind (arith, cells-from, length)

  stack-rising : (b : Bool) (slot : ℕ) (cells : List Ty) → Rising (stack_events b p slot cells)
  stack-rising x slot cells = grind (arith, cells-rising, length)

-- ---- places

abbrev pub ArePlacesRising : List Placed → Type 0
ArePlacesRising [] = Unit {0}
ArePlacesRising (i ∷ is) = Each (λ (j : Placed). i.place < j.place) is × ArePlacesRising is

among-index : {X : Type 0} (x : X) (xs : List X) → IsAmong x xs → (n : ℕ) × (slice_get xs n ≡ Some x)
among-index x [] a = absurd a
among-index x (y ∷ ys) (inl e) = (0, ap Some e)
among-index x (y ∷ ys) (inr a) = let r = among-index x ys a in (suc r.0, r.1)

places-rise : (is : List Placed)
    → ((a b : ℕ) (i j : Placed) → slice_get is a ≡ Some i → slice_get is b ≡ Some j → a < b → i.place < j.place) → ArePlacesRising is
places-rise [] f = tt
places-rise (i ∷ is) f = (
  Each-from_among (λ (j : Placed). i.place < j.place) is (λ j a. let r = among-index j is a in f 0 (suc r.0) i j refl r.1 (omega arith)),
  places-rise is (λ a b j k e g lt. f (suc a) (suc b) j k e g (omega arith)),
)

module _ (w : Linked) (m : Method) (frames : ℕ → Option Frame) (leaders : List Bool) where
  frame-rising : (i : Placed) (o : Option Frame) → Rising (frame_events w m frames leaders i o)
  frame-rising i x = grind (arith, rising-append, length, reverse, locals-between, stack-from, locals-rising, stack-rising)

  frame-place : (i : Placed) (o : Option Frame) → Each (IsAtPlace i.place) (frame_events w m frames leaders i o)
  frame-place i None = tt
  frame-place i (Some f) =
      Each-append (IsAtPlace i.place) (locals_events frames m.rec.handlers i.place 0 (register_count m.rec))
      (stack_events (keeps_stack w m.rec leaders i (length f.stack)) i.place (register_count m.rec) (reverse f.stack))
      (Each-weaker (IsBetween i.place 0 (register_count m.rec)) (IsAtPlace i.place) (λ e b. b.place)
      (locals_events frames m.rec.handlers i.place 0 (register_count m.rec))
      (locals-between frames m.rec.handlers i.place 0 (register_count m.rec) (register_count m.rec) (omega arith)))
      (Each-weaker (IsFrom i.place (register_count m.rec)) (IsAtPlace i.place) (λ e b. b.place)
      (stack_events (keeps_stack w m.rec leaders i (length f.stack)) i.place (register_count m.rec) (reverse f.stack))
      (stack-from frames m.rec.handlers i.place (keeps_stack w m.rec leaders i (length f.stack)) (register_count m.rec) (reverse f.stack)))

  place-rising : (i : Placed) → Rising (place_events w m frames leaders i)
  unfolding place_events
  place-rising i = frame-rising i (frames i.place)

  place-place : (i : Placed) → Each (IsAtPlace i.place) (place_events w m frames leaders i)
  unfolding place_events
  place-place i = frame-place i (frames i.place)

  flat-later : (p : ℕ) (is : List Placed) → Each (λ (j : Placed). p < j.place) is
      → Each (λ e. p < e.spot.place) (flat_map (place_events w m frames leaders) is)
  flat-later p [] each = tt
  flat-later p (i ∷ is) each =
      rw flat_map-cons (Each-append (λ e. p < e.spot.place) (place_events w m frames leaders i) (flat_map (place_events w m frames leaders) is)
      (Each-weaker (IsAtPlace i.place) (λ e. p < e.spot.place) (λ e at. omega (arith, at, each.0)) (place_events w m frames leaders i) (place-place i))
      (flat-later p is each.1))

  flat-rising : (is : List Placed) → ArePlacesRising is → Rising (flat_map (place_events w m frames leaders) is)
  flat-rising [] r = tt
  flat-rising (i ∷ is) r =
      rw flat_map-cons
      (rising-append (IsAtPlace i.place) (λ e. i.place < e.spot.place) (λ a b p q. inl (omega (arith, p, q))) (place_events w m frames leaders i)
      (flat_map (place_events w m frames leaders) is)
      (place-place i) (flat-later i.place is r.0) (place-rising i) (flat-rising is r.1))

  pub code-rising : AreListed m.code → Rising (code_events w m frames leaders)
  unfolding code_events
  code-rising listed = flat-rising (listing m.code) (places-rise (listing m.code) listed.rising)
