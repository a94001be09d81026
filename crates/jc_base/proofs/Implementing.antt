-- Whether a class implements an interface is decided, and what an interface extends comes to an end.
use Rattle.std.proofs.Common.{◌≡◌, ◌<◌, ◌≤◌, ℕ, ◌==◌, Bool, true, false, List, length, Option, Some, refl, arith}
use Rattle.std.specs.Prelude.{All, Contains, IfSome, MatchBool, slice_get}
use Rattle.std.specs.List.{list_any, range_with_len}
use Rattle.std.proofs.lemmas.Bool.{eqb-true, eq-eqb, false_from_ne_true, or_cases, or_left, or_right}
use Rattle.std.proofs.lemmas.List.Elements.{All-map, All-nil, All-weaker}
use Rattle.std.proofs.lemmas.Option.{slice_get_within}
use Rattle.jc_base.specs.declared.record.Iface.{Iface}
use Rattle.jc_base.specs.declared.record.ClassRec.{ClassRec}
use Rattle.jc_base.specs.declared.record.MethodRec.{MethodRec}
use Rattle.jc_base.specs.Each.{IsAmong}
use Rattle.jc_base.specs.Leads.{Leads, at_once, further, leads_below}
use Rattle.jc_base.specs.Class.{ClassTable, AreClasses, chain}
use Rattle.jc_base.specs.Order.{is_on_chain}
use Rattle.jc_base.specs.Linked.{AreLinkedClasses, IsLinkedClass, IsExtended, IsImplemented}
use Rattle.jc_base.specs.Interface.{extended, extended_in, implemented, IsOrExtends, Implements, NoneExtendsItself, is_or_extends, implements, extended_count}
use Rattle.jc_base.specs.Laws.{ImplementsDecides, ExtendsEnds, ExtendsDecides}
use Rattle.jc_base.proofs.Leading.{leads-sound, leads-complete}
use Rattle.jc_base.proofs.Eaching.{Contains-from_IsAmong, IsAmong-from_Contains}
use Rattle.jc_base.proofs.Tests.{some-from_test, test-from_some}
use Rattle.jc_base.proofs.Counting.{count-less, count-most, number-among}
use Rattle.jc_base.proofs.Dispatches.{on_chain-from_Below}
use Rattle.jc_base.proofs.Subtypes.{below_class}

-- ---- what extends another

pub extends-from : (t : ClassTable) (i j : ℕ) → Contains (extended t i) j → i < length t.records
unfolding extended
extends-from t i j h = grind (arith, slice_get_within)

leads-decided : (t : ClassTable) (i j : ℕ) → Leads (extended t) i j → leads_below (extended t) (length t.records) i j ≡ true
leads-decided t i j h = leads-complete (extended t) (length t.records) i j (extends-from t) h

or_extends-sound : (t : ClassTable) (i j : ℕ) → is_or_extends t i j ≡ true → IsOrExtends t i j
unfolding is_or_extends
or_extends-sound t i j h = grind (arith, or_cases, length, eqb-true, leads-sound)

or_extends-complete : (t : ClassTable) (i j : ℕ) → IsOrExtends t i j → is_or_extends t i j ≡ true
unfolding is_or_extends
or_extends-complete t i j x = grind (arith, or_left, length, eq-eqb, or_right, leads-decided)

pub extends-decides : (t : ClassTable) → ExtendsDecides t
extends-decides t = λ i j. (or_extends-sound t i j, or_extends-complete t i j)

-- ---- what a class implements

abbrev names_one : ClassTable → ℕ → ℕ → Bool
names_one t j a = list_any (λ i. is_or_extends t i j) (implemented t a)

on_chain-among : (t : ClassTable) (c a : ℕ) → IsAmong a (chain t c) → is_on_chain t a c ≡ true
unfolding is_on_chain
on_chain-among t c a among = test-from_some (λ x. x == a) (chain t c) a among (eq-eqb a a refl)

among-on_chain : (t : ClassTable) (c a : ℕ) → is_on_chain t a c ≡ true → IsAmong a (chain t c)
unfolding is_on_chain
among-on_chain t c a on = grind (arith, some-from_test, eqb-true)

implements-sound : (t : ClassTable) → AreClasses t → (c j : ℕ) → implements t c j ≡ true → Implements t c j
unfolding implements
implements-sound t are c j h =
    let above = some-from_test (names_one t j) (chain t c) h in
    let named = some-from_test (λ i. is_or_extends t i j) (implemented t above.0) above.2 in
    record {
      class = above.0;
      named = named.0;
      inherits = below_class t are c above.0 (on_chain-among t c above.0 above.1);
      names = Contains-from_IsAmong named.0 (implemented t above.0) named.1;
      extends = or_extends-sound t named.0 j named.2;
    }

implements-complete : (t : ClassTable) → AreClasses t → (c j : ℕ) → Implements t c j → implements t c j ≡ true
unfolding implements
implements-complete t are c j is =
    test-from_some (names_one t j) (chain t c) is.class (among-on_chain t c is.class (on_chain-from_Below t are c is.class is.inherits))
    (test-from_some (λ i. is_or_extends t i j) (implemented t is.class) is.named (IsAmong-from_Contains is.named (implemented t is.class) is.names)
    (or_extends-complete t is.named j is.extends))

pub implements-decides : (t : ClassTable) → AreClasses t → ImplementsDecides t
implements-decides t are = λ c j. (implements-sound t are c j, implements-complete t are c j)

-- ---- what an interface extends comes to an end

extended-inside_by : (t : ClassTable) (methods : List MethodRec) (r : ClassRec) (b : Bool) → r.interface ≡ b
    → MatchBool b (All (IsExtended t) r.implements) (All (IsImplemented t methods r.public) r.implements)
    → All (λ j. j < length t.records) (extended_in (Some r))
extended-inside_by t methods r true e is =
    rw e
    (All-map (λ j. j < length t.records) (λ (i : Iface). i.class) r.implements
    (All-weaker (IsExtended t) (λ (i : Iface). i.class < length t.records) (λ i h. h.number) r.implements is))
extended-inside_by t methods r false e is = rw e (All-nil (λ j. j < length t.records))

inside_by : (packages : ℕ) (t : ClassTable) (methods : List MethodRec) (i j : ℕ) (o : Option ClassRec) → slice_get t.records i ≡ o
    → IfSome o (IsLinkedClass packages t methods i) → Contains (extended_in o) j → j < length t.records
inside_by packages t methods i j x e is h = grind (arith, length, extended-inside_by)

extends-inside : (packages : ℕ) (t : ClassTable) (methods : List MethodRec) → AreLinkedClasses packages t methods → (i j : ℕ)
    → Contains (extended t i) j → j < length t.records
unfolding extended
extends-inside packages t methods linked i j h = inside_by packages t methods i j (slice_get t.records i) refl (linked i) h

fewer-extended : (t : ClassTable) → NoneExtendsItself t → (i j : ℕ) → Contains (extended t i) j → j < length t.records
    → extended_count t j < extended_count t i
unfolding extended_count
fewer-extended t none i j step inside =
    count-less (λ a. leads_below (extended t) (length t.records) j a) (λ a. leads_below (extended t) (length t.records) i a)
    (range_with_len 0 (length t.records)) j
    (λ a h. leads-decided t i a (further step (leads-sound (extended t) (length t.records) j a h)))
    (number-among (length t.records) j inside)
    (false_from_ne_true (leads_below (extended t) (length t.records) j j) (λ h. none j (leads-sound (extended t) (length t.records) j j h)))
    (leads-decided t i j (at_once step))

few-extended : (t : ClassTable) (i : ℕ) → extended_count t i ≤ length t.records
unfolding extended_count
few-extended t i = count-most (λ j. leads_below (extended t) (length t.records) i j) (length t.records)

pub extends-ends : (packages : ℕ) (t : ClassTable) (methods : List MethodRec) → AreLinkedClasses packages t methods → NoneExtendsItself t
    → ExtendsEnds t
extends-ends packages t methods linked none = record {
  fewer = λ i j step. fewer-extended t none i j step (extends-inside packages t methods linked i j step);
  most = few-extended t;
}
