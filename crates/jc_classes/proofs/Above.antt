-- What stands above a class or an interface is a class or an interface, and whether something does is decided.
use Rattle.std.proofs.Common.{◌≡◌, ℕ, ◌<◌, Bool, true, false, List, [], length, Option, Some, None, refl, subst, arith}
use Rattle.std.specs.Prelude.{All, Contains, slice_get}
use Rattle.std.proofs.lemmas.List.Elements.{All-contains, All-map, All-nil}
use Rattle.std.proofs.lemmas.Option.{slice_get_within}
use Rattle.jc_base.proofs.Lists.{All-slice_get}
use Rattle.jc_base.specs.declared.record.Iface.{Iface}
use Rattle.jc_resolve.specs.declared.naming.NamedClass.{NamedClass}
use Rattle.jc_classes.specs.KnownClasses.{HasKnownLine}
use Rattle.jc_base.specs.Leads.{Leads}
use Rattle.jc_classes.specs.Ancestor.{superclass, superclass_in, extended, extended_in, above, is_above, TellsAbove}
use Rattle.jc_base.proofs.Leading.{leads-sound, leads-complete}
use Rattle.jc_base.proofs.Tests.{same_truth}

-- ---- what has something above it, and what stands there

pub above-from : (cs : List NamedClass) (interfaces : Bool) (a b : ℕ) → Contains (above cs interfaces a) b → a < length cs
unfolding superclass extended
above-from cs true a b h = grind (arith, slice_get_within)
above-from cs false a b h = grind (arith, slice_get_within)

superclass-inside : (cs : List NamedClass) (r : NamedClass) (i : Bool) → r.interface ≡ i → HasKnownLine cs r
    → All (λ p. p < length cs) (superclass_in (Some r))
superclass-inside cs r z e is = grind (arith)

extended-inside : (cs : List NamedClass) (r : NamedClass) (i : Bool) → r.interface ≡ i → HasKnownLine cs r
    → All (λ p. p < length cs) (extended_in (Some r))
extended-inside cs r true e is = rw e (All-map (λ p. p < length cs) (λ (i : Iface). i.class) r.interfaces is.interfaces)
extended-inside cs r false e is = rw e (All-nil (λ p. p < length cs))

inside_by : (cs : List NamedClass) (f : Option NamedClass → List ℕ) (a b : ℕ) (o : Option NamedClass) → All (HasKnownLine cs) cs → f None ≡ []
    → ((r : NamedClass) → HasKnownLine cs r → All (λ p. p < length cs) (f (Some r))) → slice_get cs a ≡ o → Contains (f o) b → b < length cs
inside_by cs f a b None known none some e h = let there : Contains [] b = subst (λ xs. Contains xs b) none h in absurd (omega (arith, there.1))
inside_by cs f a b (Some r) known none some e h = All-contains (λ p. p < length cs) (f (Some r)) b (some r (All-slice_get (HasKnownLine cs) cs a r known e)) h

pub above-inside : (cs : List NamedClass) (interfaces : Bool) → All (HasKnownLine cs) cs → (a b : ℕ) → Contains (above cs interfaces a) b
    → b < length cs
unfolding superclass extended
above-inside cs true known a b h = inside_by cs extended_in a b (slice_get cs a) known refl (λ r is. extended-inside cs r r.interface refl is) refl h
above-inside cs false known a b h = inside_by cs superclass_in a b (slice_get cs a) known refl (λ r is. superclass-inside cs r r.interface refl is) refl h

-- ---- whether something stands above

pub is_above-sound : (cs : List NamedClass) (interfaces : Bool) (a c : ℕ) → is_above cs interfaces a c ≡ true → Leads (above cs interfaces) c a
unfolding is_above
is_above-sound cs interfaces a c e = leads-sound (above cs interfaces) (length cs) c a e

pub is_above-complete : (cs : List NamedClass) (interfaces : Bool) (a c : ℕ) → Leads (above cs interfaces) c a → is_above cs interfaces a c ≡ true
unfolding is_above
is_above-complete cs interfaces a c h = leads-complete (above cs interfaces) (length cs) c a (λ x y k. above-from cs interfaces x y k) h

pub tells-above : (cs : List NamedClass) → TellsAbove cs
tells-above cs interfaces a c = (is_above-sound cs interfaces a c, is_above-complete cs interfaces a c)

pub is_above-is : (cs : List NamedClass) (interfaces : Bool) (a c : ℕ) (b : Bool) → (b ≡ true → Leads (above cs interfaces) c a)
    → (Leads (above cs interfaces) c a → b ≡ true) → b ≡ is_above cs interfaces a c
is_above-is cs interfaces a c b sound complete = grind (arith, same_truth, is_above-complete, is_above-sound)
