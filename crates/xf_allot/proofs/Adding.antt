-- Edges that are added to others, one by one and list by list.
use Rattle.std.proofs.Common.{◌≡◌, ℕ, suc, ◌+◌, ◌<◌, ◌≤◌, ◌⊎◌, inl, inr, ⊎_elim, List, [], ◌∷◌, ◌++◌, length, take, refl, sym, ap, ◌∙◌, subst, arith}
use Rattle.std.proofs.Common.{Bool, true, false, Contains, get_or}
use Rattle.std.specs.Prelude.{ℤ, pos, IsTrue, replicate}
use Rattle.std.proofs.Math.ListN.{set}
use Rattle.std.proofs.lemmas.Bool.{cases_eq, false≢true}
use Rattle.std.proofs.lemmas.List.{take_all, take_more, length-set, length-replicate}
use Rattle.std.proofs.lemmas.List.Elements.{Contains-append_left, Contains-push, Contains-push_cases}
use Rattle.jc_base.specs.declared.record.Handler.{Handler}
use Rattle.jc_decode.specs.declared.insn.Placed.{Placed}
use Rattle.jc_decode.specs.Laws.{AreListed}
use Rattle.jc_decode.specs.Listing.{falls, targets}
use Rattle.jc_decode.proofs.Elements.{Contains-either, Contains-first, Contains-later, nothing-in}
use Rattle.jc_control.specs.Control.{Covers}
use Rattle.jc_control.specs.Flags.{IsFlagged, Marks}
use Rattle.jc_control.specs.Method.{Method}
use Rattle.jc_control.specs.WellFormed.{IsHandlerOf}
use Rattle.jc_control.proofs.Marked.{flag-none, flag-here, flag-kept, flag-only}
use Rattle.jc_control.proofs.PlacesWithin.{place-inside}
use Rattle.xf_allot.specs.Graph.{Adds, IsFall, IsJumpTo, IsEnter, IsEntryOf, IsOut, out_fall, out_jump, out_caught, IsCatch, catch_before, catch_entry}
use Rattle.xf_allot.specs.Graph.{caught_at, IsBound, bound_first, bound_start, bound_end}
use Rattle.xf_live.specs.declared.graph.Edge.{Edge}
use Rattle.xf_live.proofs.Flows.{edge-is}

-- ---- in general

-- nothing is added
pub adds-none : (P : Edge → Type 0) (edges : List Edge) → ((edge : Edge) → P edge → ⊥) → Adds P edges edges
adds-none P edges none edge = (λ h. inl h, λ h. ⊎_elim (λ there. there) (λ p. absurd (none edge p)) h)

-- what is added is named otherwise
pub adds-same : (P Q : Edge → Type 0) (old new : List Edge) → ((edge : Edge) → P edge → Q edge) → ((edge : Edge) → Q edge → P edge)
    → Adds P old new → Adds Q old new
adds-same P Q old new f g adds edge = (
  λ h. ⊎_elim (λ there. inl there) (λ p. inr (f edge p)) ((adds edge).0 h),
  λ h. (adds edge).1 (⊎_elim (λ there. inl there) (λ q. inr (g edge q)) h),
)

-- one after the other
pub adds-both : (P Q R : Edge → Type 0) (old between new : List Edge) → ((edge : Edge) → P edge → R edge) → ((edge : Edge) → Q edge → R edge)
    → ((edge : Edge) → R edge → P edge ⊎ Q edge) → Adds P old between → Adds Q between new → Adds R old new
adds-both P Q R old between new p q r first second edge = (
  λ h. ⊎_elim (λ there. ⊎_elim (λ before. inl before) (λ x. inr (p edge x)) ((first edge).0 there)) (λ y. inr (q edge y)) ((second edge).0 h),
  λ h. ⊎_elim (λ there. (second edge).1 (inl ((first edge).1 (inl there))))
      (λ x. ⊎_elim (λ y. (second edge).1 (inl ((first edge).1 (inr y)))) (λ y. (second edge).1 (inr y)) (r edge x)) h,
)

abbrev pub IsOne : ℕ → ℕ → Edge → Type 0
IsOne here there edge = edge ≡ record { «from» = here; to = there }

is-one : (here there : ℕ) (edge : Edge) → edge.from ≡ here → edge.to ≡ there → IsOne here there edge
is-one here there edge f t = edge-is edge (record { «from» = here; to = there }) f t

one-from : (here there : ℕ) (edge : Edge) → IsOne here there edge → edge.from ≡ here
one-from here there edge e = ap (λ (x : Edge). x.from) e

one-to : (here there : ℕ) (edge : Edge) → IsOne here there edge → edge.to ≡ there
one-to here there edge e = ap (λ (x : Edge). x.to) e

-- ---- from an instruction

pub fall-added : (i : Placed) (old new : List Edge) → IsTrue (falls i.insn.op) → Adds (IsOne i.place (i.place + i.insn.len)) old new → Adds (IsFall i) old new
fall-added i old new goes adds =
    adds-same (IsOne i.place (i.place + i.insn.len)) (IsFall i) old new
    (λ e is. record { falls = goes; at = one-from i.place (i.place + i.insn.len) e is; to = one-to i.place (i.place + i.insn.len) e is })
    (λ e fall. is-one i.place (i.place + i.insn.len) e fall.at fall.to) adds

pub jumps-none : (i : Placed) (edges : List Edge) → Adds (IsJumpTo [] i) edges edges
jumps-none i edges = adds-none (IsJumpTo [] i) edges (λ e jump. nothing-in (pos e.to) jump.leads)

pos-one : (a b : ℕ) → pos a ≡ pos b → a ≡ b
pos-one a b e = cc

pub jumps-more :
    (ts : List ℤ) (t : ℤ) (i : Placed) (q : ℕ) (old between new : List Edge) → pos q ≡ t → Adds (IsJumpTo ts i) old between
    → Adds (IsOne i.place q) between new → Adds (IsJumpTo (ts ++ t ∷ []) i) old new
jumps-more ts t i q old between new same first second =
    adds-both (IsJumpTo ts i) (IsOne i.place q) (IsJumpTo (ts ++ t ∷ []) i) old between new
    (λ e jump. record { leads = Contains-append_left ts (t ∷ []) (pos e.to) jump.leads; at = jump.at })
    (λ e is. record {
      leads =
          subst (λ n. Contains (ts ++ t ∷ []) (pos n)) (sym (one-to i.place q e is)) (subst (Contains (ts ++ t ∷ [])) (sym same) (Contains-push ts t));
      at = one-from i.place q e is;
    })
    (λ e jump. ⊎_elim (λ before. inl (record { leads = before; at = jump.at }))
    (λ now. inr (is-one i.place q e jump.at (pos-one e.to q (sym now ∙ sym same)))) (Contains-push_cases ts t (pos e.to) jump.leads))
    first second

pub out-added :
    (m : Method) (i : Placed) (old fell jumped new : List Edge) → Adds (IsFall i) old fell → Adds (IsJumpTo (targets m.code i) i) fell jumped
    → Adds (IsOne i.place (caught_at (length m.code) i.place)) jumped new → Adds (IsOut m i) old new
out-added m i old fell jumped new first second third =
    let node : ℕ = caught_at (length m.code) i.place in
    let both : Adds (λ e. IsFall i e ⊎ IsJumpTo (targets m.code i) i e) old jumped =
    adds-both (IsFall i) (IsJumpTo (targets m.code i) i) (λ e. IsFall i e ⊎ IsJumpTo (targets m.code i) i e) old fell jumped (λ e h. inl h)
    (λ e h. inr h) (λ e h. h) first second in
    adds-both (λ e. IsFall i e ⊎ IsJumpTo (targets m.code i) i e) (IsOne i.place node) (IsOut m i) old jumped new
    (λ e h. ⊎_elim (λ fall. out_fall fall) (λ jump. out_jump jump) h) (λ e is. out_caught (one-from i.place node e is) (one-to i.place node e is)) by both third
  where
    by : (e : Edge) → IsOut m i e → (IsFall i e ⊎ IsJumpTo (targets m.code i) i e) ⊎ IsOne i.place (caught_at (length m.code) i.place) e
    by e (out_fall fall) = inl (inl fall)
    by e (out_jump jump) = inl (inr jump)
    by e (out_caught at to) = inr (is-one i.place (caught_at (length m.code) i.place) e at to)

-- ---- to where handlers begin

pub enter-added : (h : Handler) (place node : ℕ) (old new : List Edge) → Covers h place → Adds (IsOne node h.entry) old new
    → Adds (IsEnter h place node) old new
enter-added h place node old new covers adds =
    adds-same (IsOne node h.entry) (IsEnter h place node) old new
    (λ e is. record { covers = covers; at = one-from node h.entry e is; to = one-to node h.entry e is })
    (λ e enter. is-one node h.entry e enter.at enter.to) adds

pub entries-none : (place node : ℕ) (edges : List Edge) → Adds (IsEntryOf [] place node) edges edges
entries-none place node edges = adds-none (IsEntryOf [] place node) edges (λ e is. nothing-in is.handler is.listed)

entries-push :
    (hs : List Handler) (h : Handler) (place node : ℕ) (old between new : List Edge) → Adds (IsEntryOf hs place node) old between
    → Adds (IsEnter h place node) between new → Adds (IsEntryOf (hs ++ h ∷ []) place node) old new
entries-push hs h place node old between new first second =
    adds-both (IsEntryOf hs place node) (IsEnter h place node) (IsEntryOf (hs ++ h ∷ []) place node) old between new
    (λ e is. record { handler = is.handler; listed = Contains-append_left hs (h ∷ []) is.handler is.listed; enters = is.enters })
    (λ e enter. record { handler = h; listed = Contains-push hs h; enters = enter })
    (λ e is. ⊎_elim (λ before. inl (record { handler = is.handler; listed = before; enters = is.enters }))
    (λ now. inr (subst (λ (x : Handler). IsEnter x place node e) (sym now) is.enters)) (Contains-push_cases hs h is.handler is.listed))
    first second

pub entries-more :
    (hs : List Handler) (n : ℕ) (d : Handler) (place node : ℕ) (old between new : List Edge) → n < length hs
    → Adds (IsEntryOf (take n hs) place node) old between → Adds (IsEnter (get_or hs n d) place node) between new
    → Adds (IsEntryOf (take (n + 1) hs) place node) old new
entries-more hs n d place node old between new lt first second =
    subst (λ (xs : List Handler). Adds (IsEntryOf xs place node) old new) (sym (take_more hs n d lt))
    (entries-push (take n hs) (get_or hs n d) place node old between new first second)

pub entries-all : (hs : List Handler) (n place node : ℕ) (old new : List Edge) → length hs ≤ n → Adds (IsEntryOf (take n hs) place node) old new
    → Adds (IsEntryOf hs place node) old new
entries-all hs n place node old new le adds = subst (λ (xs : List Handler). Adds (IsEntryOf xs place node) old new) (take_all n hs le) adds

pub catch-entered :
    (m : Method) (place : ℕ) (old new : List Edge) → IsBound m.rec.handlers place
    → Adds (IsEntryOf m.rec.handlers place (caught_at (length m.code) place)) old new → Adds (IsCatch m place) old new
catch-entered m place old new bound adds =
    adds-same (IsEntryOf m.rec.handlers place (caught_at (length m.code) place)) (IsCatch m place) old new (λ e is. catch_entry bound is) by adds
  where
    by : (e : Edge) → IsCatch m place e → IsEntryOf m.rec.handlers place (caught_at (length m.code) place) e
    by e (catch_entry _ is) = is
    by e (catch_before none at to) = absurd (none bound)

pub catch-passed :
    (m : Method) (place before : ℕ) (old new : List Edge) → ¬ (IsBound m.rec.handlers place) → suc before ≡ caught_at (length m.code) place
    → Adds (IsOne (caught_at (length m.code) place) before) old new → Adds (IsCatch m place) old new
catch-passed m place before old new none next adds =
    adds-same (IsOne (caught_at (length m.code) place) before) (IsCatch m place) old new
    (λ e is. catch_before none (one-from (caught_at (length m.code) place) before e is)
    (ap suc (one-to (caught_at (length m.code) place) before e is) ∙ next)) by adds
  where
    by : (e : Edge) → IsCatch m place e → IsOne (caught_at (length m.code) place) before e
    by e (catch_entry bound is) = absurd (none bound)
    by e (catch_before _ at to) = is-one (caught_at (length m.code) place) before e at (omega (arith, to, next))

-- ---- where handlers begin and end

none-bound : {p : ℕ} → IsBound [] p → p ≡ 0
none-bound bound_first = refl
none-bound (bound_start h there) = absurd (nothing-in h there)
none-bound (bound_end h there) = absurd (nothing-in h there)

pub bounds-none : (n : ℕ) → 0 < n → Marks (IsBound []) (set (replicate n false) 0 true)
bounds-none n some p =
    let inside : 0 < length (replicate n false) = (let long = length-replicate n false in omega (arith, long, some)) in (
      λ e. ⊎_elim (λ before. absurd (false≢true (sym (flag-none n p) ∙ before))) (λ here. subst (IsBound []) (sym here) bound_first)
          (flag-only (replicate n false) 0 p e),
      λ b. subst (IsFlagged (set (replicate n false) 0 true)) (sym (none-bound b)) (flag-here (replicate n false) 0 inside),
    )

bound-on : (hs : List Handler) (h : Handler) {p : ℕ} → IsBound hs p → IsBound (hs ++ h ∷ []) p
bound-on hs h bound_first = bound_first
bound-on hs h (bound_start k there) = bound_start k (Contains-append_left hs (h ∷ []) k there)
bound-on hs h (bound_end k there) = bound_end k (Contains-append_left hs (h ∷ []) k there)

bound-cases : (hs : List Handler) (h : Handler) {p : ℕ} → IsBound (hs ++ h ∷ []) p → (IsBound hs p ⊎ (p ≡ h.start)) ⊎ (p ≡ h.end)
bound-cases hs h bound_first = inl (inl bound_first)
bound-cases hs h (bound_start k there) =
    ⊎_elim (λ before. inl (inl (bound_start k before))) (λ now. inl (inr (ap (λ (x : Handler). x.start) (sym now)))) (Contains-push_cases hs h k there)
bound-cases hs h (bound_end k there) =
    ⊎_elim (λ before. inl (inl (bound_end k before))) (λ now. inr (ap (λ (x : Handler). x.end) (sym now))) (Contains-push_cases hs h k there)

bounds-push : (hs : List Handler) (h : Handler) (fs : List Bool) → h.start < length fs → h.end < length fs → Marks (IsBound hs) fs
    → Marks (IsBound (hs ++ h ∷ [])) (set (set fs h.start true) h.end true)
bounds-push hs h fs start end marks p =
    let once : List Bool = set fs h.start true in
    let inside : h.end < length once = (let same = length-set fs h.start true in omega (arith, same, end)) in (
      λ e. ⊎_elim
          (λ before. ⊎_elim (λ old. bound-on hs h ((marks p).0 old)) (λ here. subst (IsBound (hs ++ h ∷ [])) (sym here) (bound_start h (Contains-push hs h)))
          (flag-only fs h.start p before))
          (λ here. subst (IsBound (hs ++ h ∷ [])) (sym here) (bound_end h (Contains-push hs h))) (flag-only once h.end p e),
      λ b. ⊎_elim
          (λ more. flag-kept once h.end p inside
          (⊎_elim (λ old. flag-kept fs h.start p start ((marks p).1 old)) (λ here. subst (IsFlagged once) (sym here) (flag-here fs h.start start)) more))
          (λ here. subst (IsFlagged (set once h.end true)) (sym here) (flag-here once h.end inside)) (bound-cases hs h b),
    )

pub bounds-more : (hs : List Handler) (n : ℕ) (d : Handler) (fs : List Bool) → n < length hs → (get_or hs n d).start < length fs
    → (get_or hs n d).end < length fs → Marks (IsBound (take n hs)) fs
    → Marks (IsBound (take (n + 1) hs)) (set (set fs (get_or hs n d).start true) (get_or hs n d).end true)
bounds-more hs n d fs lt start end marks =
    subst (λ (xs : List Handler). Marks (IsBound xs) (set (set fs (get_or hs n d).start true) (get_or hs n d).end true)) (sym (take_more hs n d lt))
    (bounds-push (take n hs) (get_or hs n d) fs start end marks)

pub bounds-all : (hs : List Handler) (n : ℕ) (fs : List Bool) → length hs ≤ n → Marks (IsBound (take n hs)) fs → Marks (IsBound hs) fs
bounds-all hs n fs le marks = subst (λ (xs : List Handler). Marks (IsBound xs) fs) (take_all n hs le) marks

-- they lie in the code, or at its end
pub handler-near : (code : List ℕ) → AreListed code → (h : Handler) → IsHandlerOf code h → (h.start < length code) × (h.end ≤ length code)
handler-near code listed h formed = (
  place-inside code listed h.start formed.start,
  ⊎_elim (λ end. omega (arith, end)) (λ there. let lt = place-inside code listed h.end there in omega (arith, lt)) formed.end,
)

-- whether a place is one of them is decided
record Touches (hs : List Handler) (p : ℕ) : Type 0 where
  handler : Handler
  listed : Contains hs handler
  there : (handler.start ≡ p) ⊎ (handler.end ≡ p)

touches-decided : (hs : List Handler) (p : ℕ) → Touches hs p ⊎ (¬ (Touches hs p))
touches-decided [] p = inr (λ t. nothing-in t.handler t.listed)
touches-decided (k ∷ ks) p = elim (touches-decided ks p) [
  | inl found ↦ inl (record { handler = found.handler; listed = Contains-later k ks found.handler found.listed; there = found.there })
  | inr none ↦ elim (cases_eq k.start p) [
    | inl here ↦ inl (record { handler = k; listed = Contains-first k ks; there = inl here })
    | inr apart ↦ elim (cases_eq k.end p) [
      | inl here ↦ inl (record { handler = k; listed = Contains-first k ks; there = inr here })
      | inr also ↦ inr (λ t. first none apart also t)
    ]
  ]
]
  where
    first : ¬ (Touches ks p) → ¬ (k.start ≡ p) → ¬ (k.end ≡ p) → Touches (k ∷ ks) p → ⊥
    first none apart also t = elim (Contains-either k ks t.handler t.listed) [
      | inl same ↦ elim t.there [
        | inl start ↦ apart (ap (λ (x : Handler). x.start) same ∙ start)
        | inr end ↦ also (ap (λ (x : Handler). x.end) same ∙ end)
      ]
      | inr later ↦ none (record { handler = t.handler; listed = later; there = t.there })
    ]

pub bound-decided : (hs : List Handler) (p : ℕ) → IsBound hs p ⊎ (¬ (IsBound hs p))
bound-decided hs p = elim (cases_eq p 0) [
  | inl here ↦ inl (subst (IsBound hs) (sym here) bound_first)
  | inr apart ↦ elim (touches-decided hs p) [
    | inl found ↦ inl (bound found)
    | inr none ↦ inr (λ b. never apart none b)
  ]
]
  where
    bound : {p : ℕ} → Touches hs p → IsBound hs p
    bound found = elim found.there [
      | inl start ↦ subst (IsBound hs) start (bound_start found.handler found.listed)
      | inr end ↦ subst (IsBound hs) end (bound_end found.handler found.listed)
    ]

    never : {p : ℕ} → ¬ (p ≡ 0) → ¬ (Touches hs p) → IsBound hs p → ⊥
    never apart none bound_first = apart refl
    never apart none (bound_start h there) = none (record { handler = h; listed = there; there = inl refl })
    never apart none (bound_end h there) = none (record { handler = h; listed = there; there = inr refl })
