-- Classes and interfaces that are known to lead to no cycle, since all that stands above them is known to.
use Rattle.std.proofs.Common.{◌≡◌, ℕ, ◌≤◌, ◌⊎◌, inl, inr, Bool, true, false, List, [], ◌∷◌, ◌++◌, map, length, get_or, Some, refl}
use Rattle.std.proofs.Common.{sym, ap, subst, ◌∙◌, arith}
use Rattle.std.specs.Prelude.{Contains, slice_get}
use Rattle.std.specs.List.{list_all}
use Rattle.std.proofs.Math.Seq.{get_or-append_seam}
use Rattle.std.proofs.lemmas.Bool.{false≢true, false_from_ne_true, cases_lt, and_parts}
use Rattle.std.proofs.lemmas.List.{get_or_append_left, get_or_past, length-append}
use Rattle.std.proofs.lemmas.List.Folds.{list_all-map}
use Rattle.std.proofs.lemmas.List.Elements.{Contains-append_cases, Contains-push_cases}
use Rattle.jc_base.specs.declared.record.Iface.{Iface}
use Rattle.jc_resolve.specs.declared.naming.NamedClass.{NamedClass}
use Rattle.jc_base.specs.Leads.{Leads, at_once, further}
use Rattle.jc_classes.specs.Ancestor.{superclass, superclass_in, extended, extended_in, above, is_above}
use Rattle.jc_classes.specs.Marks.{rests_on}
use Rattle.jc_classes.proofs.Above.{is_above-sound}

-- a number is settled
abbrev IsSettled : List Bool → ℕ → Type 0
IsSettled settled c = get_or settled c false ≡ true

-- what stands directly above a settled class or interface is settled
pub record AreSettled (cs : List NamedClass) (settled : List Bool) : Type 0 where
  pub closed : (interfaces : Bool) (d e : ℕ) → IsSettled settled d → Contains (above cs interfaces d) e → IsSettled settled e

all-contained : (p : ℕ → Bool) (xs : List ℕ) (e : ℕ) → list_all p xs ≡ true → Contains xs e → p e ≡ true
all-contained p [] e all h = absurd (omega (arith, h.1))
all-contained p (x ∷ xs) e all h =
    let two = and_parts (p x) (list_all p xs) all in
    elim (Contains-append_cases (x ∷ []) xs e h) [
      | inl here ↦ elim (Contains-push_cases [] x e here) [
        | inl none ↦ absurd (omega (arith, none.1))
        | inr same ↦ ap p (sym same) ∙ two.0
      ]
      | inr more ↦ all-contained p xs e two.1 more
    ]

rests-by : (settled : List Bool) (r : NamedClass) (e : ℕ) (interfaces b : Bool) → r.interface ≡ b → rests_on settled r ≡ true
    → (interfaces ≡ true → Contains (extended_in (Some r)) e) → (interfaces ≡ false → Contains (superclass_in (Some r)) e) → IsSettled settled e
rests-by settled r e true true i all ext sup =
    let each : list_all (λ (n : Iface). get_or settled n.class false) r.interfaces ≡ true = rw i at all in
    let h : Contains (map (λ (n : Iface). n.class) r.interfaces) e = rw i at (ext refl) in
    all-contained (λ n. get_or settled n false) (map (λ (n : Iface). n.class) r.interfaces) e
    (list_all-map (λ n. get_or settled n false) (λ (n : Iface). n.class) r.interfaces ∙ each) h
rests-by settled r e true false i all ext sup = grind (arith)
rests-by settled r e false true i all ext sup = grind (arith)
rests-by settled r e false false i all ext sup = grind (arith, get_or, all-contained)

-- what stands directly above what rests on settled classes is settled
rests-above : (cs : List NamedClass) (settled : List Bool) (interfaces : Bool) (c e : ℕ) (r : NamedClass) → slice_get cs c ≡ Some r
    → rests_on settled r ≡ true → Contains (above cs interfaces c) e → IsSettled settled e
unfolding superclass extended
rests-above cs settled true c e r at all h =
    rests-by settled r e true r.interface refl all (λ k. subst (λ o. Contains (extended_in o) e) at h) (λ k. absurd (false≢true (sym k)))
rests-above cs settled false c e r at all h = grind (arith, rests-by, false≢true)

settled-leads : (cs : List NamedClass) (settled : List Bool) (interfaces : Bool) (c a : ℕ) → AreSettled cs settled → Leads (above cs interfaces) c a
    → IsSettled settled c → IsSettled settled a
settled-leads cs settled interfaces c a are (at_once h) at = are.closed interfaces c a at h
settled-leads cs settled interfaces c a are (further {b = b} h rest) at = settled-leads cs settled interfaces b a are rest (are.closed interfaces c b at h)

past_end : (settled : List Bool) (c : ℕ) → length settled ≤ c → IsSettled settled c → ⊥
past_end settled c h e = false≢true (sym (get_or_past settled c false h) ∙ e)

-- what rests on settled classes leads to these, and not to itself
pub rests-acyclic : (cs : List NamedClass) (settled : List Bool) (c : ℕ) (r : NamedClass) → AreSettled cs settled → length settled ≡ c
    → slice_get cs c ≡ Some r → rests_on settled r ≡ true
    → is_above cs r.interface c c ≡ false
rests-acyclic cs settled c r are count at all = false_from_ne_true (is_above cs r.interface c c) (λ e. leads (is_above-sound cs r.interface c c e)) where
  leads : Leads (above cs r.interface) c c → ⊥
  leads (at_once h) = past_end settled c (omega arith) (rests-above cs settled r.interface c c r at all h)
  leads (further {b = b} h rest) =
      past_end settled c (omega arith) (settled-leads cs settled r.interface b c are rest (rests-above cs settled r.interface c b r at all h))

-- ---- one more class

stays_settled : (settled : List Bool) (b : Bool) (e : ℕ) → IsSettled settled e → IsSettled (settled ++ b ∷ []) e
stays_settled settled b e h = grind (arith, cases_lt, get_or_append_left, past_end)

settled_or_last : (settled : List Bool) (b : Bool) (d : ℕ) → IsSettled (settled ++ b ∷ []) d → IsSettled settled d
    ⊎ ((d ≡ length settled) × (b ≡ true))
settled_or_last settled b d h = elim (cases_lt d (length settled)) [
  | inl lt ↦ inl (sym (get_or_append_left settled (b ∷ []) false d lt) ∙ h)
  | inr le ↦ elim (cases_lt (length settled) d) [
    | inl past ↦ absurd (past_end (settled ++ b ∷ []) d (omega (arith, length-append settled (b ∷ []))) h)
    | inr most ↦
        let same : d ≡ length settled = omega arith in
        inr (same, sym (get_or-append_seam settled b [] false) ∙ subst (λ n. get_or (settled ++ b ∷ []) n false ≡ true) same h)
  ]
]

pub settled-more : (cs : List NamedClass) (settled : List Bool) (c : ℕ) (r : NamedClass) → AreSettled cs settled → length settled ≡ c
    → slice_get cs c ≡ Some r → AreSettled cs (settled ++ rests_on settled r ∷ [])
settled-more cs settled c r are count at = record {
  closed = λ interfaces d e h up. stays_settled settled (rests_on settled r) e (elim (settled_or_last settled (rests_on settled r) d h) [
    | inl before ↦ are.closed interfaces d e before up
    | inr last ↦ rests-above cs settled interfaces c e r at last.1 (subst (λ n. Contains (above cs interfaces n) e) (last.0 ∙ count) up)
  ]);
}
