-- A search along the interfaces that others extend.
use Rattle.std.proofs.Common.{◌≡◌, ◌<◌, ◌≤◌, ◌⊎◌, inl, inr, ℕ, zero, suc, Bool, true, false, List, [], ◌∷◌}
use Rattle.std.proofs.Common.{length, map, take, set, get_or, replicate, refl, sym, ap, ◌∙◌, subst, arith}
use Rattle.std.specs.Prelude.{Some, Contains, ◌||◌, if◌then◌else◌, slice_get}
use Rattle.std.specs.List.{list_any}
use Rattle.std.proofs.lemmas.Bool.{false≢true, false_from_ne_true, or_left, or_right, or_from}
use Rattle.std.proofs.Math.ListN.{get_or-map}
use Rattle.std.proofs.lemmas.List.{length-map, take_all}
use Rattle.jc_base.specs.declared.record.Iface.{Iface}
use Rattle.jc_base.specs.declared.record.ClassRec.{ClassRec}
use Rattle.jc_base.specs.declared.record.MethodRec.{MethodRec}
use Rattle.jc_base.specs.Class.{ClassTable, IsClass, IsNextOnChain, IsEndOfChain, is_interface, is_interface_record, chain, chain_over}
use Rattle.jc_base.specs.declared.ty.Ty.TheVariants.{Class}
use Rattle.jc_base.specs.Order.{is_below}
use Rattle.jc_base.specs.Linked.{IsLinkedClass}
use Rattle.jc_base.specs.Leads.{Leads, at_once, further}
use Rattle.jc_base.specs.Interface.{extended, extended_in, implemented, implemented_in, is_or_extends, implements, extended_count}
use Rattle.jc_base.specs.Laws.{ExtendsDecides, ExtendsEnds}
use Rattle.vm_step.specs.Instance.{is_subtype}
use Rattle.vm_step.specs.Searched.{AreLeft}

-- none of the interfaces is the one that is sought, or leads to it
pub record NoneExtends (t : ClassTable) (sought : ℕ) (interfaces : List Iface) : Type 0 where
  pub none : list_any (λ (e : Iface). is_or_extends t e.class sought) interfaces ≡ false

-- ---- tests of the elements of a list

pub or-first : (a b : Bool) → a ≡ false → a || b ≡ b
or-first x b h = grind (arith, false≢true)

any-contains : (p : ℕ → Bool) (xs : List Iface) (b : ℕ) → Contains (map (λ (e : Iface). e.class) xs) b → p b ≡ true
    → list_any (λ (e : Iface). p e.class) xs ≡ true
any-contains p [] b (k, lt, e) h = absurd (omega (arith, lt))
any-contains p (x ∷ xs) b (zero, lt, e) h = grind (arith, or_left)
any-contains p (x ∷ xs) b (suc k, lt, e) h =
    or_right (p x.class) (list_any (λ (e : Iface). p e.class) xs) (any-contains p xs b (k, omega (arith, lt), e) h)

contains-at : (xs : List Iface) (k : ℕ) (e : Iface) → k < length xs → e ≡ get_or xs k e → Contains (map (λ (x : Iface). x.class) xs) e.class
contains-at xs k e lt is =
    (k, omega (arith, lt, length-map xs (λ (x : Iface). x.class)), get_or-map (λ (x : Iface). x.class) xs k e ∙ ap (λ (x : Iface). x.class) (sym is))

each-set : (xs : List Bool) (i n : ℕ) → slice_get (set xs i true) n ≡ Some true → (n ≡ i) ⊎ (slice_get xs n ≡ Some true)
each-set [] i n e = inr e
each-set (x ∷ xs) zero zero e = inl refl
each-set (x ∷ xs) zero (suc n) e = inr e
each-set (x ∷ xs) (suc i) zero e = inr e
each-set (x ∷ xs) (suc i) (suc n) e = elim (each-set xs i n e) [ inl same ↦ inl (ap suc same) | inr more ↦ inr more ]

-- ---- the search

-- one interface more is left
pub left-more : (t : ClassTable) (sought i : ℕ) (searched : List Bool) → AreLeft t sought searched → is_or_extends t i sought ≡ false
    → AreLeft t sought (set searched i true)
left-more t sought i searched left here = grind (arith, each-set)

pub none-all : (t : ClassTable) (sought : ℕ) (xs : List Iface) (n : ℕ) → NoneExtends t sought (take n xs) → length xs ≤ n → NoneExtends t sought xs
none-all t sought xs n h enough = subst (NoneExtends t sought) (take_all n xs enough) h

extended-is : (t : ClassTable) (i : ℕ) (r : ClassRec) → slice_get t.records i ≡ Some r → r.interface ≡ true
    → extended t i ≡ map (λ (e : Iface). e.class) r.implements
unfolding extended
extended-is t i r e h = ap extended_in e ∙ ap (λ b. if b then map (λ (x : Iface). x.class) r.implements else []) h

nothing-extended : (t : ClassTable) (i : ℕ) (r : ClassRec) → slice_get t.records i ≡ Some r → r.interface ≡ false → extended t i ≡ []
unfolding extended
nothing-extended t i r e h = ap extended_in e ∙ ap (λ b. if b then map (λ (x : Iface). x.class) r.implements else []) h

-- of an interface that is not the one that is sought, and of which no interface that it extends leads there
pub not-extends :
    (t : ClassTable) → ExtendsDecides t → (i sought : ℕ) (r : ClassRec) → slice_get t.records i ≡ Some r → r.interface ≡ true
    → (i ≡ sought → ⊥) → NoneExtends t sought r.implements → is_or_extends t i sought ≡ false
not-extends t decides i sought r at interface other h =
    let p : ℕ → Bool = λ x. is_or_extends t x sought in
    let leads : Leads (extended t) i sought → ⊥ = λ l. elim l [
      | at_once step ↦
          false≢true (sym h.none ∙ any-contains p r.implements sought (subst (λ xs. Contains xs sought) (extended-is t i r at interface) step)
          ((decides sought sought).1 (inl refl)))
      | further {b = b} step more ↦
          false≢true (sym h.none ∙ any-contains p r.implements b (subst (λ xs. Contains xs b) (extended-is t i r at interface) step)
          ((decides b sought).1 (inr more)))
    ] in
    false_from_ne_true (is_or_extends t i sought) (λ yes. elim ((decides i sought).0 yes) [ inl same ↦ other same | inr more ↦ leads more ])

-- what is no interface extends nothing
pub class-extends :
    (t : ClassTable) → ExtendsDecides t → (i sought : ℕ) (r : ClassRec) → slice_get t.records i ≡ Some r → r.interface ≡ false
    → (i ≡ sought → ⊥) → is_or_extends t i sought ≡ false
class-extends t decides i sought r at class other = grind (arith, nothing-extended, false_from_ne_true)

-- an interface that extends one which leads to the one that is sought
pub yes-extends :
    (t : ClassTable) → ExtendsDecides t → (i sought : ℕ) (r : ClassRec) → slice_get t.records i ≡ Some r → r.interface ≡ true
    → (k : ℕ) (e : Iface) → k < length r.implements → e ≡ get_or r.implements k e → is_or_extends t e.class sought ≡ true
    → is_or_extends t i sought ≡ true
yes-extends t decides i sought r at interface k e lt is h =
    let step : Contains (extended t i) e.class = subst (λ xs. Contains xs e.class) (sym (extended-is t i r at interface))
    (contains-at r.implements k e lt is) in
    (decides i sought).1 (inr (elim ((decides e.class sought).0 h) [
      | inl same ↦ at_once (subst (λ x. Contains (extended t i) x) same step)
      | inr more ↦ further step more
    ]))

-- what an interface extends has a record, and extends fewer
pub record IsNext (t : ClassTable) (i : ℕ) (e : Iface) : Type 0 where
  pub known : e.class < length t.records
  pub fewer : extended_count t e.class < extended_count t i

pub next-extended :
    (t : ClassTable) (packages : ℕ) (methods : List MethodRec) → ExtendsEnds t → (i : ℕ) (r : ClassRec) → slice_get t.records i ≡ Some r
    → r.interface ≡ true
    → IsLinkedClass packages t methods i r → (k : ℕ) (e : Iface) → k < length r.implements → e ≡ get_or r.implements k e → IsNext t i e
next-extended t packages methods ends i r at interface linked k e lt is = grind (arith, extended-is, contains-at)

-- ---- what a class names

pub implemented-is : (t : ClassTable) (i : ℕ) (r : ClassRec) → slice_get t.records i ≡ Some r → r.interface ≡ false
    → implemented t i ≡ map (λ (e : Iface). e.class) r.implements
unfolding implemented
implemented-is t i r e h = ap implemented_in e ∙ ap (λ b. if b then [] else map (λ (x : Iface). x.class) r.implements) h

any-map : (p : ℕ → Bool) (xs : List Iface) → list_any p (map (λ (e : Iface). e.class) xs) ≡ list_any (λ (e : Iface). p e.class) xs
any-map p [] = refl
any-map p (x ∷ xs) = ap (λ b. p x.class || b) (any-map p xs)

record-class : (t : ClassTable) (i : ℕ) (r : ClassRec) → IsClass t i → slice_get t.records i ≡ Some r → r.interface ≡ false
unfolding is_interface
record-class t i r class e = sym (ap is_interface_record e) ∙ class.class

-- whether a class names one that leads to the one that is sought
pub named-is :
    (t : ClassTable) (i sought : ℕ) (r : ClassRec) → IsClass t i → slice_get t.records i ≡ Some r
    → list_any (λ x. is_or_extends t x sought) (implemented t i) ≡ list_any (λ (e : Iface). is_or_extends t e.class sought) r.implements
named-is t i sought r class e = grind (arith, implemented-is t i r e (record-class t i r class e), any-map)

pub any-found : (p : Iface → Bool) (xs : List Iface) (k : ℕ) (e : Iface) → k < length xs → e ≡ get_or xs k e → p e ≡ true
    → list_any p xs ≡ true
any-found p [] k e lt is h = absurd (omega (arith, lt))
any-found p (x ∷ xs) zero e lt is h = or_left (p x) (list_any p xs) (sym (ap p is) ∙ h)
any-found p (x ∷ xs) (suc k) e lt is h = or_right (p x) (list_any p xs) (any-found p xs k e (omega (arith, lt)) is h)

-- ---- up the chain of superclasses

-- whether a class names it, or its superclass implements it
pub implements-next :
    (t : ClassTable) (c p sought : ℕ) → IsNextOnChain t c p
    → implements t c sought ≡ list_any (λ x. is_or_extends t x sought) (implemented t c) || implements t p sought
unfolding implements
implements-next t c p sought next = ap (list_any (λ a. list_any (λ i. is_or_extends t i sought) (implemented t a))) next.chain_is

pub implements-end :
    (t : ClassTable) (c sought : ℕ) → IsEndOfChain t c → list_any (λ x. is_or_extends t x sought) (implemented t c) ≡ false
    → implements t c sought ≡ false
unfolding implements
implements-end t c sought end h = grind (arith, or_from)

-- a class that names it implements it: it is the first on its chain
here-over :
    (t : ClassTable) (sought n c : ℕ) → list_any (λ x. is_or_extends t x sought) (implemented t c) ≡ true
    → list_any (λ a. list_any (λ i. is_or_extends t i sought) (implemented t a)) (chain_over t n c) ≡ true
unfolding chain_over
here-over t sought zero c h = or_left (list_any (λ i. is_or_extends t i sought) (implemented t c)) false h
here-over t sought (suc n) c h = grind (arith, or_left)

pub implements-here :
    (t : ClassTable) (c sought : ℕ) → list_any (λ x. is_or_extends t x sought) (implemented t c) ≡ true → implements t c sought ≡ true
unfolding implements chain
implements-here t c sought h = here-over t sought (length t.records) c h

-- ---- two classes, and a search that begins

pub subtype-classes : (t : ClassTable) (c d : ℕ) → is_interface t d ≡ false → is_interface t c ≡ false
    → is_below t (Class c) (Class d) ≡ is_subtype t c d
unfolding is_below
subtype-classes t c d above of = grind (arith)

none-set : (n i : ℕ) → slice_get (replicate n false) i ≡ Some true → ⊥
none-set zero i e = absurd cc
none-set (suc n) zero e = let same : false ≡ true = cc in false≢true same
none-set (suc n) (suc i) e = none-set n i e

pub left-none : (t : ClassTable) (sought n : ℕ) → AreLeft t sought (replicate n false)
left-none t sought n = record { each = λ i e. absurd (none-set n i e) }
