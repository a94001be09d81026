-- Where nothing is at fault, every chain of superclasses ends with object.
use Rattle.std.proofs.Common.{◌≡◌, ℕ, zero, suc, ◌<◌, ◌≤◌, ◌⊎◌, inl, inr, Bool, true, false, List, [], ◌∷◌, map, length, Option}
use Rattle.std.proofs.Common.{Some, None, refl, sym, ap, subst, ◌∙◌, arith}
use Rattle.std.specs.Prelude.{◌==◌, ◌||◌, ◌&&◌, nat_lt, All, Contains, slice_get, slice_index}
use Rattle.std.specs.Option.{option_map, option_to_list}
use Rattle.std.proofs.lemmas.Bool.{false≢true, eqb-true, ltb-true, and_parts, or_cases}
use Rattle.std.proofs.lemmas.Option.{slice_get-map, slice_get-get_or, slice_get_within}
use Rattle.std.proofs.lemmas.List.{length-map}
use Rattle.std.proofs.lemmas.List.Elements.{All-cons, Contains-push}
use Rattle.jc_base.specs.Class.{last}
use Rattle.jc_base.proofs.Chains.{last-cons}
use Rattle.jc_base.proofs.Lists.{All-slice_get, IfSome-is}
use Rattle.jc_resolve.specs.declared.naming.NamedClass.{NamedClass}
use Rattle.jc_resolve.specs.Named.{is_interface}
use Rattle.jc_classes.specs.KnownClasses.{HasKnownLine}
use Rattle.jc_classes.specs.Ancestor.{IsAncestor, superclass, superclass_in, is_above}
use Rattle.jc_classes.specs.LineConditions.{is_class_number, is_class_record, fits_role}
use Rattle.jc_classes.specs.Outline.{LineTable, IsClass, AreLines, is_interface_line}
use Rattle.jc_classes.specs.Outline.{is_interface as interface_in_table, parent_of, parent_in_line, object}
use Rattle.jc_classes.specs.Outline.{chain, chain_over, line_of, outline}
use Rattle.jc_classes.proofs.Bare.{chain_alone, chain_above, chain_over-front}
use Rattle.jc_classes.proofs.Above.{is_above-sound}
use Rattle.jc_classes.proofs.FaultlessLines.{NoFault}
use Rattle.jc_classes.proofs.Ranks.{rank, rank-most, rank-falls}

-- ---- the lines and the list of which they are made

-- class c, with its record
pub record IsPlain (cs : List NamedClass) (c : ℕ) : Type 0 where
  pub r : NamedClass
  pub at : slice_get cs c ≡ Some r
  pub plain : r.interface ≡ false

outline-at : (cs : List NamedClass) (c : ℕ) (r : NamedClass) → slice_get cs c ≡ Some r → slice_get (map line_of cs) c ≡ Some (line_of r)
outline-at cs c r e = slice_get-map line_of cs c ∙ ap (option_map line_of) e

pub class-made : (cs : List NamedClass) (roles : List ℕ) (c : ℕ) → IsPlain cs c → IsClass (outline cs roles) c
unfolding interface_in_table
class-made cs roles c is = grind (arith, slice_get_within, length-map, outline-at)

class-read-by : (cs : List NamedClass) (c : ℕ) (o : Option NamedClass) → slice_get cs c ≡ o → c < length cs
    → is_interface_line (option_map line_of o) ≡ false → IsPlain cs c
class-read-by cs c None e h plain = absurd (past cs c h e) where
  past : (xs : List NamedClass) (i : ℕ) → i < length xs → slice_get xs i ≡ None → ⊥
  past [] i h e = omega arith
  past (x ∷ xs) zero h e = cc
  past (x ∷ xs) (suc i) h e = past xs i (omega arith) e
class-read-by cs c (Some r) e h plain = record { r = r; at = e; plain = plain }

pub class-read : (cs : List NamedClass) (roles : List ℕ) (c : ℕ) → IsClass (outline cs roles) c → IsPlain cs c
unfolding interface_in_table
class-read cs roles c is = grind (arith, length-map, class-read-by, slice_get-map)

pub parent-made : (cs : List NamedClass) (roles : List ℕ) (c : ℕ) (is : IsPlain cs c) → parent_of (outline cs roles) c ≡ is.r.parent
unfolding parent_of
parent-made cs roles c is = ap parent_in_line (outline-at cs c is.r is.at) ∙ rw is.plain refl

parent-class-by : (cs : List NamedClass) (c p : ℕ) (o : Option NamedClass) → slice_get cs c ≡ o → parent_in_line (option_map line_of o) ≡ Some p
    → IsPlain cs c
parent-class-by cs c p None e h = absurd cc
parent-class-by cs c p (Some r) e h = plain r.interface refl where
  no_parent : None ≡ Some p → ⊥
  no_parent q = cc

  plain : (b : Bool) → r.interface ≡ b → IsPlain cs c
  plain true i = absurd (no_parent (rw i at h))
  plain false i = record { r = r; at = e; plain = i }

pub parent-class : (cs : List NamedClass) (roles : List ℕ) (c p : ℕ) → parent_of (outline cs roles) c ≡ Some p → IsPlain cs c
unfolding parent_of
parent-class cs roles c p e = parent-class-by cs c p (slice_get cs c) refl (ap parent_in_line (sym (slice_get-map line_of cs c)) ∙ e)

superclass-read : (cs : List NamedClass) (c : ℕ) (is : IsPlain cs c) → superclass cs c ≡ option_to_list is.r.parent
unfolding superclass
superclass-read cs c is = ap superclass_in is.at ∙ rw is.plain refl

pub parent-above : (cs : List NamedClass) (roles : List ℕ) (c p : ℕ) → parent_of (outline cs roles) c ≡ Some p → Contains (superclass cs c) p
parent-above cs roles c p e =
    let is = parent-class cs roles c p e in
    let up : is.r.parent ≡ Some p = sym (parent-made cs roles c is) ∙ e in
    subst (λ xs. Contains xs p) (sym (superclass-read cs c is ∙ ap option_to_list up)) (Contains-push [] p)

-- a superclass is a class
pub parent-plain : (cs : List NamedClass) (first : ℕ) (roles : List ℕ) → All (HasKnownLine cs) cs → NoFault cs first roles → (c p : ℕ)
    → parent_of (outline cs roles) c ≡ Some p → IsPlain cs p
unfolding is_interface
parent-plain cs first roles known sound c p e =
    let is = parent-class cs roles c p e in
    let up : is.r.parent ≡ Some p = sym (parent-made cs roles c is) ∙ e in
    let there : p < length cs = IfSome-is (λ (q : ℕ). q < length cs) is.r.parent p (All-slice_get (HasKnownLine cs) cs c is.r known is.at).parent up in
    class-read-by cs p (slice_get cs p) refl there (plain-by (slice_get cs p) refl (sound.supers c p is.r is.at up)) where
      plain-by : (o : Option NamedClass) → slice_get cs p ≡ o → is_interface cs p ≡ false → is_interface_line (option_map line_of o) ≡ false
      plain-by None s h = refl
      plain-by (Some r) s h = rw s at h

option-parent : (o : Option ℕ) (p : ℕ) → Contains (option_to_list o) p → o ≡ Some p
option-parent x p h = grind (arith)

above-parent-by : (cs : List NamedClass) (c p : ℕ) (o : Option NamedClass) → slice_get cs c ≡ o → Contains (superclass_in o) p
    → parent_in_line (option_map line_of o) ≡ Some p
above-parent-by cs c p None e h = absurd (omega (arith, h.1))
above-parent-by cs c p (Some r) e h = plain r.interface refl where
  plain : (b : Bool) → r.interface ≡ b → parent_in_line (Some (line_of r)) ≡ Some p
  plain true i =
      let none : Contains [] p = rw i at h in
      absurd (omega (arith, none.1))
  plain false i =
      let own : Contains (option_to_list r.parent) p = rw i at h in
      rw i (option-parent r.parent p own)

pub above-parent : (cs : List NamedClass) (roles : List ℕ) (c p : ℕ) → Contains (superclass cs c) p → parent_of (outline cs roles) c ≡ Some p
unfolding parent_of superclass
above-parent cs roles c p h = ap parent_in_line (slice_get-map line_of cs c) ∙ above-parent-by cs c p (slice_get cs c) refl h

-- ---- chains

-- a chain consists of classes and ends with object
record Ends (t : LineTable) (cs : List ℕ) : Type 0 where
  pub classes : All (IsClass t) cs
  pub ends : last cs ≡ Some (object t)

no_cycle : (cs : List NamedClass) (first : ℕ) (roles : List ℕ) → NoFault cs first roles → (c : ℕ) → IsPlain cs c → is_above cs false c c ≡ false
no_cycle cs first roles sound c is = subst (λ (b : Bool). is_above cs b c c ≡ false) is.plain (sound.cycles c is.r is.at)

ends-by : (cs : List NamedClass) (first : ℕ) (roles : List ℕ) → All (HasKnownLine cs) cs → NoFault cs first roles → (m c : ℕ) (o : Option ℕ)
    → parent_of (outline cs roles) c ≡ o → IsPlain cs c → rank cs c ≤ m
    → ((k p : ℕ) → m ≡ suc k → IsPlain cs p → rank cs p ≤ k → Ends (outline cs roles) (chain_over (outline cs roles) k p))
    → Ends (outline cs roles) (chain_over (outline cs roles) m c)
ends-by cs first roles known sound m c None e is h above = grind (arith, parent-made cs roles c is, class-made cs roles c is, chain_alone)
ends-by cs first roles known sound m c (Some p) e is h above =
    let t = outline cs roles in
    let up = parent-plain cs first roles known sound c p e in
    let falls : rank cs p < rank cs c = rank-falls cs c p (parent-above cs roles c p e) (slice_get_within cs p up.r up.at)
    (no_cycle cs first roles sound p up) in
    further m refl (λ k. above k p) falls up where
      further : (n : ℕ) → m ≡ n
          → ((k : ℕ) → m ≡ suc k → IsPlain cs p → rank cs p ≤ k → Ends (outline cs roles) (chain_over (outline cs roles) k p))
          → rank cs p < rank cs c → IsPlain cs p
          → Ends (outline cs roles) (chain_over (outline cs roles) m c)
      further zero s rest falls up = absurd (omega arith)
      further (suc k) s rest falls up =
          let t = outline cs roles in
          let tail = rest k s up (omega arith) in
          let f = chain_over-front t k p in
          subst (λ (n : ℕ). Ends t (chain_over t n c)) (sym s) (subst (Ends t) (sym (chain_above t k c p e)) (record {
            classes = All-cons (IsClass t) c (chain_over t k p) (class-made cs roles c is) tail.classes;
            ends = last-cons c (chain_over t k p) f.0 p f.1 ∙ tail.ends;
          }))

chain-ends : (cs : List NamedClass) (first : ℕ) (roles : List ℕ) → All (HasKnownLine cs) cs → NoFault cs first roles → (m c : ℕ)
    → IsPlain cs c → rank cs c ≤ m → Ends (outline cs roles) (chain_over (outline cs roles) m c)
chain-ends cs first roles known sound zero c is h =
    ends-by cs first roles known sound zero c (parent_of (outline cs roles) c) refl is h (λ k p e up le. absurd (omega arith))
chain-ends cs first roles known sound (suc m) c is h =
    ends-by cs first roles known sound (suc m) c (parent_of (outline cs roles) c) refl is h
    (λ k p e up le. let same : m ≡ k = omega arith in subst (λ (n : ℕ). Ends (outline cs roles) (chain_over (outline cs roles) n p)) same
    (chain-ends cs first roles known sound m p up (omega arith)))

-- ---- roles

fitting-class : (cs : List NamedClass) (first throwable k c : ℕ) → fits_role cs first throwable k c ≡ true → is_class_number cs c ≡ true
fitting-class cs first throwable k c e = grind (arith, and_parts)

named-plain : (cs : List NamedClass) (c : ℕ) (o : Option NamedClass) → slice_get cs c ≡ o → is_class_record o ≡ true → IsPlain cs c
named-plain cs c None e h = absurd (false≢true h)
named-plain cs c (Some r) e h = plain r.interface refl where
  plain : (b : Bool) → r.interface ≡ b → IsPlain cs c
  plain true i = absurd (false≢true (rw i at h))
  plain false i = record { r = r; at = e; plain = i }

pub role-plain : (cs : List NamedClass) (first : ℕ) (roles : List ℕ) → NoFault cs first roles → (k : ℕ) → k < length roles
    → IsPlain cs (slice_index roles k)
unfolding is_class_number
role-plain cs first roles sound k h =
    let c = slice_index roles k in
    named-plain cs c (slice_get cs c) refl (fitting-class cs first (slice_index roles 1) k c (sound.fitting k c (slice_get-get_or roles k 0 h)))

-- a role from 2 on is throwable, or throwable is its ancestor
thrown-by : (cs : List NamedClass) (first throwable k c : ℕ) → 2 ≤ k → fits_role cs first throwable k c ≡ true → (throwable ≡ c)
    ⊎ IsAncestor cs throwable c
thrown-by cs first throwable k c h e =
    let part = and_parts (nat_lt c first && is_class_number cs c) (nat_lt k 2 || c == throwable || is_above cs false throwable c) e in
    elim (or_cases (nat_lt k 2 || c == throwable) (is_above cs false throwable c) part.1) [
      | inl low ↦ elim (or_cases (nat_lt k 2) (c == throwable) low) [
        | inl two ↦ absurd (omega (arith, ltb-true k 2 two))
        | inr same ↦ inl (sym (eqb-true c throwable same))
      ]
      | inr above ↦ inr (is_above-sound cs false throwable c above)
    ]

pub role-thrown : (cs : List NamedClass) (first : ℕ) (roles : List ℕ) → NoFault cs first roles → (k : ℕ) → 2 ≤ k → k < length roles
    → (slice_index roles 1 ≡ slice_index roles k) ⊎ IsAncestor cs (slice_index roles 1) (slice_index roles k)
role-thrown cs first roles sound k two h =
    thrown-by cs first (slice_index roles 1) k (slice_index roles k) two (sound.fitting k (slice_index roles k) (slice_get-get_or roles k 0 h))

-- ---- the law

-- where nothing is at fault, every chain ends with object
pub are-classes : (cs : List NamedClass) (first : ℕ) (roles : List ℕ) → All (HasKnownLine cs) cs → NoFault cs first roles → 0 < length roles
    → AreLines (outline cs roles)
unfolding chain
are-classes cs first roles known sound some =
    let root = role-plain cs first roles sound 0 some in
    record {
      objects = class-made cs roles (slice_index roles 0) root;
      object_ends = parent-made cs roles (slice_index roles 0) root ∙ sound.rootless root.r root.at root.plain;
      chains = λ c is.
          let n : length (map line_of cs) ≡ length cs = length-map cs line_of in
          let made = chain-ends cs first roles known sound (length (map line_of cs)) c (class-read cs roles c is) (omega (arith, rank-most cs c)) in
          record { classes = made.classes; ends = made.ends };
    }
