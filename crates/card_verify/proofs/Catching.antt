-- The join of the classes that are caught where handlers begin.
use Rattle.std.proofs.Common.{◌≡◌, ℕ, ◌+◌, ◌<◌, ◌≤◌, ◌⊎◌, inl, inr, ⊎_elim, Option, Some, None, List, length, slice_get, get_or}
use Rattle.std.proofs.Common.{All, IfSome, IsSomeAnd, sym, ◌∙◌, ap, subst, arith, Contains}
use Rattle.std.proofs.lemmas.Bool.{cases_lt, cases_eq}
use Rattle.std.proofs.lemmas.Option.{slice_get_within, slice_get-get_or, get_or_from_slice_get}
use Rattle.jc_base.specs.declared.ty.Ty.{Ty}
use Rattle.jc_base.specs.declared.ty.Ty.TheVariants.{Class}
use Rattle.jc_base.specs.declared.record.Handler.{Handler}
use Rattle.jc_base.specs.Class.{ClassTable, IsClass}
use Rattle.jc_base.specs.Order.{Below, same, joined}
use Rattle.jc_base.specs.Linked.{IsMethod, IsHandler, list_at}
use Rattle.jc_base.specs.World.{Linked, IsWorld}
use Rattle.jc_base.proofs.Lists.{All-slice_get}
use Rattle.jc_control.specs.Method.{Method, IsMethodOf}
use Rattle.card_typing.specs.Place.{IsEntry, CatchesAt}
use Rattle.card_verify.specs.Walk.{IsJoined, IsCaughtWith}

module _ (t : ClassTable) (hs : List Handler) (place : ℕ) where
  -- one of the first n handlers begins at the place
  pub record IsCaughtBelow (n : ℕ) (h : Handler) : Type 0 where
    pub number : ℕ
    pub below : number < n
    pub here : slice_get hs number ≡ Some h
    pub begins : h.entry ≡ place

  abbrev pub IsAboveBelow : ℕ → Ty → Type 0
  IsAboveBelow n ty = (h : Handler) → IsCaughtBelow n h → Below t (Class h.class) ty

-- the join of the classes that the first n handlers catch there, where one does
abbrev pub CaughtBelow : ClassTable → List Handler → ℕ → ℕ → Option ℕ → Type 0
CaughtBelow t hs n place None = (h : Handler) → IsCaughtBelow t hs place n h → ⊥
CaughtBelow t hs n place (Some c) = IsClass t c × IsAboveBelow t hs place n (Class c) × ((u : Ty) → IsAboveBelow t hs place n u → Below t (Class c) u)

module _ (t : ClassTable) (hs : List Handler) (place : ℕ) where
  pub caught-none : CaughtBelow t hs 0 place None
  caught-none h c = let lt = c.below in absurd (omega (arith, lt))

  fewer : (n : ℕ) (h : Handler) → IsCaughtBelow t hs place n h → IsCaughtBelow t hs place (n + 1) h
  fewer n h c = record { number = c.number; below = let lt = c.below in omega (arith, lt); here = c.here; begins = c.begins }

  one : (g h : Handler) (o : Option Handler) → o ≡ Some g → o ≡ Some h → g ≡ h
  one g h o e f = cc

  module _ (n : ℕ) (h : Handler) (is : slice_get hs n ≡ Some h) where
    more : (g : Handler) → IsCaughtBelow t hs place (n + 1) g → IsCaughtBelow t hs place n g ⊎ (g ≡ h)
    more g c = ⊎_elim (λ lt. inl (record { number = c.number; below = lt; here = c.here; begins = c.begins })) (λ le. inr (last le)) (cases_lt c.number n)
      where
        last : n ≤ c.number → g ≡ h
        last le =
            let e : c.number ≡ n = let lt = c.below in omega (arith, lt, le) in
            one g h (slice_get hs n) (ap (slice_get hs) (sym e) ∙ c.here) is

    -- a handler that begins elsewhere
    pub caught-other : (o : Option ℕ) → ¬ (h.entry ≡ place) → CaughtBelow t hs n place o → CaughtBelow t hs (n + 1) place o
    caught-other None other none = λ g c. ⊎_elim (none g) (λ e. other (ap (λ (x : Handler). x.entry) (sym e) ∙ c.begins)) (more g c)
    caught-other (Some d) other s = grind (arith, ⊎_elim, more, fewer)

    itself : h.entry ≡ place → IsCaughtBelow t hs place (n + 1) h
    itself e = record { number = n; below = omega arith; here = is; begins = e }

    pub caught-here : (o : Option ℕ) (c : ℕ) → h.entry ≡ place → IsClass t h.class → CaughtBelow t hs n place o → IsJoined t o h.class c
        → CaughtBelow t hs (n + 1) place (Some c)
    caught-here None c begins class none e = subst (λ d. CaughtBelow t hs (n + 1) place (Some d)) (sym e) (
      class,
      λ g k. ⊎_elim (λ before. absurd (none g before))
          (λ same_handler. subst (λ (x : Handler). Below t (Class x.class) (Class h.class)) (sym same_handler) same) (more g k),
      λ u above. above h (itself begins),
    )
    caught-here (Some d) c begins class s j = (
      j.0,
      λ g k. ⊎_elim (λ before. joined (s.1 g before) j.1.left)
          (λ same_handler. subst (λ (x : Handler). Below t (Class x.class) (Class c)) (sym same_handler) j.1.right) (more g k),
      λ u above. j.1.least u (s.2 u (λ g k. above g (fewer n g k))) (above h (itself begins)),
    )

module _ (t : ClassTable) (m : Method) (place n : ℕ) (all : length m.rec.handlers ≤ n) where
  listed : (h : Handler) → Contains m.rec.handlers h → h.entry ≡ place → IsCaughtBelow t m.rec.handlers place n h
  listed h c e = grind (arith, slice_get-get_or)

  found : (h : Handler) → IsCaughtBelow t m.rec.handlers place n h → Contains m.rec.handlers h
  found h c = (c.number, slice_get_within m.rec.handlers c.number h c.here, get_or_from_slice_get m.rec.handlers c.number h h c.here)

  pub caught-all : (c : ℕ) → CaughtBelow t m.rec.handlers n place (Some c) → CatchesAt t m place c
  caught-all c s = record {
    class = s.0;
    above = λ h there e. s.1 h (listed h there e);
    least = λ u above. s.2 u (λ h k. above h (found h k) k.begins);
  }

  pub caught-some : CaughtBelow t m.rec.handlers n place None → IsEntry m place → ⊥
  caught-some none e = none e.handler (listed e.handler e.listed e.begins)

-- the next of the handlers that a walk goes over
module _ (t : ClassTable) (hs items : List Handler) (place n : ℕ) (d : Handler) (same_items : items ≡ hs) (inside : n < length items) where
  here-is : slice_get hs n ≡ Some (get_or items n d)
  here-is = ap (λ (xs : List Handler). slice_get xs n) (sym same_items) ∙ slice_get-get_or items n d inside

  pub next-other : (o : Option ℕ) → ¬ ((get_or items n d).entry ≡ place) → CaughtBelow t hs n place o → CaughtBelow t hs (n + 1) place o
  next-other o other s = caught-other t hs place n (get_or items n d) here-is o other s

  pub next-here : (o : Option ℕ) (c : ℕ) → (get_or items n d).entry ≡ place → IsClass t (get_or items n d).class → CaughtBelow t hs n place o
      → IsJoined t o (get_or items n d).class c → CaughtBelow t hs (n + 1) place (Some c)
  next-here o c begins class s j = caught-here t hs place n (get_or items n d) here-is o c begins class s j

pub caught-class : (t : ClassTable) (hs : List Handler) (n place : ℕ) (o : Option ℕ) → CaughtBelow t hs n place o → IfSome o (IsClass t)
caught-class t hs n place x s = grind (arith)

pub next-with : (t : ClassTable) (hs items : List Handler) (place n : ℕ) (d : Handler) (before after : Option ℕ) → items ≡ hs → n < length items
    → IsClass t (get_or items n d).class → IsCaughtWith t place (get_or items n d) before after → CaughtBelow t hs n place before
    → CaughtBelow t hs (n + 1) place after
next-with t hs items place n d before after same_items inside class w s =
    ⊎_elim (λ e. here after (w.here e) e)
    (λ other. subst (CaughtBelow t hs (n + 1) place) (sym (w.other other)) (next-other t hs items place n d same_items inside before other s))
    (cases_eq (get_or items n d).entry place)
  where
    here : (o : Option ℕ) → IsSomeAnd o (IsJoined t before (get_or items n d).class) → (get_or items n d).entry ≡ place
        → CaughtBelow t hs (n + 1) place o
    here None j e = absurd j
    here (Some c) j e = next-here t hs items place n d same_items inside before c e class s j

-- the class that a handler of the method catches
pub handler-class : (w : Linked) (m : Method) (t : ClassTable) (items : List Handler) (n : ℕ) (d : Handler) → t ≡ w.classes → IsWorld w
    → IsMethodOf w m → items ≡ m.rec.handlers → n < length items
    → IsClass t (get_or items n d).class
handler-class w m t items n d own is mo e inside =
    let method = All-slice_get (IsMethod w.infos w.pools w.classes) w.methods m.number m.rec is.methods mo.rec in
    subst (λ (u : ClassTable). IsClass u (get_or items n d).class) (sym own)
    (subst (All (IsHandler w.classes (list_at w.pools m.rec.package) m.rec.code_len)) (sym e) method.handlers n d inside).class
