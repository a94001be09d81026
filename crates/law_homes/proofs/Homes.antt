-- Which homes hold their values after a step.
use Rattle.std.proofs.Common.{◌≡◌, ℕ, ◌+◌, ◌<◌, ◌≤◌, ◌⊎◌, List, [], ◌∷◌, sym, ◌∙◌, arith}
use Rattle.std.proofs.lemmas.Bool.{cases_lt}
use Rattle.jc_base.specs.Each.{Each}
use Rattle.jc_rules.specs.Footprint.{Footprint}
use Rattle.vm_store.specs.State.{State, top}
use Rattle.law_alike.specs.Alike.{StaysInFrame}
use Rattle.xf_homes.specs.declared.home.Home.{Home}
use Rattle.xf_homes.specs.Value.{type_width}
use Rattle.xf_homes.specs.Source.{Source}
use Rattle.xf_homes.specs.Plan.{register, needed}
use Rattle.law_homes.specs.Held.{HoldsValue}
use Rattle.law_homes.specs.Laws.{AreApart, HomesStay, LocalsStay, WrittenHold}

-- a number of the one list is none of the other
outside : (a n b m k : ℕ) → AreApart a n b m → k < n → (a + k < b) ⊎ (b + m ≤ a + k)
outside a n b m k w lt = grind (arith)

-- nothing is written of no registers
none-written : (a n b m : ℕ) → m ≡ 0 → (k : ℕ) → (k < b) ⊎ (b + m ≤ k)
none-written a n b m e k = grind (arith, cases_lt)

module _ {A : Type 0} where
  -- a home of which nothing was written, cell by cell
  kept :
      (p q : Footprint) (s z t y : State A) (source : Source) (h : Home)
      → StaysInFrame p s z → StaysInFrame q t y
      → ((k : ℕ) → k < type_width h.ty → (h.slot + k < p.register) ⊎ (p.register + p.written ≤ h.slot + k))
      → ((k : ℕ) → k < type_width h.ty → (register source h + k < q.register) ⊎ (q.register + q.written ≤ register source h + k))
      → HoldsValue source (top s).registers (top t) h
      → HoldsValue source (top z).registers (top y) h
  kept p q s z t y source h first second here there held =
      let one = first.count in
      let two = second.count in
      record {
        known = omega (arith, held.known, one);
        there = omega (arith, held.there, two);
        equal = λ k lt.
            second.others (register source h + k) (there k lt)
            ∙ (held.equal k lt ∙ sym (first.others (h.slot + k) (here k lt)));
      }

  pub homes-stay : HomesStay A
  homes-stay p q s z t y source h first second here there held = grind (arith)

  each-stays :
      (p q : Footprint) (s z t y : State A) (source : Source) → StaysInFrame p s z → StaysInFrame q t y → p.written ≡ 0 → q.written ≡ 0
      → (hs : List Home) → Each (HoldsValue source (top s).registers (top t)) hs → Each (HoldsValue source (top z).registers (top y)) hs
  each-stays p q s z t y source first second none also [] held = tt
  each-stays p q s z t y source first second none also (h ∷ hs) held =
      grind (arith, none-written, each-stays p q s z t y source first second none also hs held.1)

  pub locals-stay : LocalsStay A
  locals-stay p q s z t y source place first second none also held x =
      each-stays p q s z t y source first second none also (needed source place x) (held x)

  pub written-hold : WrittenHold A
  written-hold e p q s z t y source h stay here there count known inside = grind (arith)
