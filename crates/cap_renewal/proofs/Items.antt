-- Items that stand one after the other, and their edits.
use Rattle.std.proofs.Common.{◌≡◌, ℕ, zero, suc, ◌+◌, ◌*◌, ◌≤◌, List, ◌∷◌, ◌++◌, length, map, refl, sym, subst, ◌∙◌}
use Rattle.std.proofs.Common.{arith}
use Rattle.cap_bytes.specs.Grammar.{Grammar, repeat}
use Rattle.cap_bytes.specs.Spelling.{Spells}
use Rattle.cap_bytes.proofs.Wide.{read_within}
use Rattle.cap_bytes.proofs.UntilLoops.{moves_on}
use Rattle.cap_bytes.specs.Edit.{Edit, patched_all, AreInside, FitBytes}
use Rattle.cap_bytes.specs.Renewal.{IsEdited}
use Rattle.cap_bytes.proofs.Patches.{inside_append, fit_append, edited_split, patched_append}
use Rattle.cap_renewal.specs.Along.{along}

-- an item of the bytes has this width, its edits lie inside it, and after them it is another
pub record IsItem {X : Type 0} (g : Grammar X) (item : ℕ → X → List Edit) (width : X → ℕ) (f : X → X) (bytes : List ℕ) : Type 0 where
  pub wide : (at : ℕ) (x : X) (after : ℕ) → Spells g bytes at x after → after ≡ at + width x
  pub inside : (at : ℕ) (x : X) (after : ℕ) → Spells g bytes at x after → AreInside (item at x) at after
  pub renewed : (out : List ℕ) (at : ℕ) (x : X) (after : ℕ) → length out ≡ length bytes → Spells g bytes at x after
      → IsEdited (item at x) at after bytes out → Spells g out at (f x) after

-- the numbers of its edits have two bytes
pub record IsFit {X : Type 0} (g : Grammar X) (item : ℕ → X → List Edit) (bytes : List ℕ) : Type 0 where
  pub fit : (at : ℕ) (x : X) (after : ℕ) → Spells g bytes at x after → FitBytes (item at x)

pub all_inside : {X : Type 0} (g : Grammar X) (item : ℕ → X → List Edit) (width : X → ℕ) (f : X → X) (bytes : List ℕ)
    → IsItem g item width f bytes → (n at : ℕ) (xs : List X) (after : ℕ) → Spells (repeat n g) bytes at xs after
    → AreInside (along item width at xs) at after
unfolding Spells
all_inside g item width f bytes is zero at xs after h = rw h.0 (omega (arith, h.1))
all_inside g item width f bytes is (suc n) at xs after h =
    grind (arith, inside_append, all_inside g item width f bytes is n h.1 h.3.0 h.3.1 h.3.2)

pub all_fit : {X : Type 0} (g : Grammar X) (item : ℕ → X → List Edit) (width : X → ℕ) (f : X → X) (bytes : List ℕ)
    → IsItem g item width f bytes → IsFit g item bytes → (n at : ℕ) (xs : List X) (after : ℕ) → Spells (repeat n g) bytes at xs after
    → FitBytes (along item width at xs)
unfolding Spells
all_fit g item width f bytes is fit zero at xs after h = rw h.0 tt
all_fit g item width f bytes is fit (suc n) at xs after h =
    grind (arith, fit_append, all_fit g item width f bytes is fit n h.1 h.3.0 h.3.1 h.3.2)

pub all_renewed : {X : Type 0} (g : Grammar X) (item : ℕ → X → List Edit) (width : X → ℕ) (f : X → X) (bytes : List ℕ)
    → IsItem g item width f bytes → (out : List ℕ) → length out ≡ length bytes → (n at : ℕ) (xs : List X) (after : ℕ)
    → Spells (repeat n g) bytes at xs after → IsEdited (along item width at xs) at after bytes out → Spells (repeat n g) out at (map f xs) after
unfolding Spells
all_renewed g item width f bytes is out len zero at xs after h ed = (rw h.0 refl, h.1)
all_renewed g item width f bytes is out len (suc n) at xs after h ed =
    let w : h.1 ≡ at + width h.0 = is.wide at h.0 h.1 h.2 in
    let e : xs ≡ h.0 ∷ h.3.0 = h.3.3.0 in
    let d : after ≡ h.3.1 = h.3.3.1 in
    let rest : AreInside (along item width h.1 h.3.0) h.1 h.3.1 = all_inside g item width f bytes is n h.1 h.3.0 h.3.1 h.3.2 in
    let first : AreInside (item at h.0) at h.1 = is.inside at h.0 h.1 h.2 in
    let whole : IsEdited (item at h.0 ++ along item width h.1 h.3.0) at h.3.1 bytes out = rw w
    (rw (← d) (subst (λ ys. IsEdited (along item width at ys) at after bytes out) e ed)) in
    let both = edited_split (item at h.0) (along item width h.1 h.3.0) at h.1 h.3.1 bytes out first rest whole in (
      f h.0,
      h.1,
      is.renewed out at h.0 h.1 len h.2 both.0,
      (map f h.3.0, h.3.1, all_renewed g item width f bytes is out len n h.1 h.3.0 h.3.1 h.3.2 both.1, (rw e refl, d)),
    )

pub length_spelled : {X : Type 0} (g : Grammar X) (bytes : List ℕ) (n at : ℕ) (xs : List X) (after : ℕ) → Spells (repeat n g) bytes at xs after
    → length xs ≡ n
unfolding Spells
length_spelled g bytes zero at xs after h = rw h.0 refl
length_spelled g bytes (suc n) at xs after h = grind (arith, suc, length_spelled g bytes n h.1 h.3.0 h.3.1 h.3.2)

-- so many items of one width
pub all_wide : {X : Type 0} (g : Grammar X) (w : ℕ) (bytes : List ℕ)
    → ((at : ℕ) (x : X) (after : ℕ) → Spells g bytes at x after → after ≡ at + w) → (n at : ℕ) (xs : List X) (after : ℕ)
    → Spells (repeat n g) bytes at xs after → after ≡ at + w * length xs
unfolding Spells
all_wide g w bytes wide zero at xs after h = rw h.0 (omega (arith, h.1))
all_wide g w bytes wide (suc n) at xs after h =
    let e : xs ≡ h.0 ∷ h.3.0 = h.3.3.0 in
    let d : after ≡ h.3.1 = h.3.3.1 in
    let one : h.1 ≡ at + w = wide at h.0 h.1 h.2 in
    let r : h.3.1 ≡ h.1 + w * length h.3.0 = all_wide g w bytes wide n h.1 h.3.0 h.3.1 h.3.2 in
    rw e (omega arith)

-- ---- loops over the items

-- the items that are left stand from a place on
pub record HasMore {X : Type 0} (g : Grammar X) (bytes : List ℕ) (at : ℕ) (xs : List X) : Type 0 where
  pub after : ℕ
  pub spelled : Spells (repeat (length xs) g) bytes at xs after
  pub within : after ≤ length bytes

pub has_more : {X : Type 0} (g : Grammar X) (bytes : List ℕ) (n at : ℕ) (xs : List X) (after : ℕ) → at ≤ length bytes
    → Spells (repeat n g) bytes at xs after → HasMore g bytes at xs
has_more g bytes n at xs after le h = grind (arith, length_spelled, read_within)

-- the first of them, and those after it
pub record IsFirst {X : Type 0} (g : Grammar X) (bytes : List ℕ) (at : ℕ) (x : X) (xs : List X) : Type 0 where
  pub middle : ℕ
  pub first : Spells g bytes at x middle
  pub rest : HasMore g bytes middle xs

pub more_first : {X : Type 0} (g : Grammar X) (bytes : List ℕ) (at : ℕ) (x : X) (xs : List X) → HasMore g bytes at (x ∷ xs) → IsFirst g bytes at x xs
unfolding Spells
more_first g bytes at x xs more = grind (arith, suc)

-- the bytes are renewed up to a place, and those of the items from there on are still to be
pub record IsRenewing {X : Type 0} (g : Grammar X) (item : ℕ → X → List Edit) (width : X → ℕ) (bytes whole : List ℕ) (at : ℕ) (left : List X)
    (now : List ℕ) : Type 0 where
  pub here : HasMore g bytes at left
  pub low : at ≤ length now
  pub long : length now ≡ length bytes
  pub so_far : patched_all (along item width at left) now ≡ whole

-- what is known of the next item
pub record IsNext {X : Type 0} (g : Grammar X) (width : X → ℕ) (bytes now : List ℕ) (at : ℕ) (x : X) : Type 0 where
  pub spelled : Spells g bytes at x (at + width x)
  pub within : at + width x ≤ length now

pub renewing_next : {X : Type 0} (g : Grammar X) (item : ℕ → X → List Edit) (width : X → ℕ) (f : X → X) (bytes whole : List ℕ) (at : ℕ)
    (left : List X) (now : List ℕ) (x : X) (xs : List X) → IsItem g item width f bytes → IsRenewing g item width bytes whole at left now
    → left ≡ x ∷ xs → IsNext g width bytes now at x
renewing_next g item width f bytes whole at left now x xs is r e =
    let more : HasMore g bytes at (x ∷ xs) = subst (λ ys. HasMore g bytes at ys) e r.here in
    let first = more_first g bytes at x xs more in
    let w : first.middle ≡ at + width x = is.wide at x first.middle first.first in
    let on : first.middle ≤ first.rest.after = moves_on (repeat (length xs) g) bytes first.middle xs first.rest.after first.rest.spelled in
    let le = first.rest.within in
    let long = r.long in
    record { spelled = subst (λ m. Spells g bytes at x m) w first.first; within = omega arith }

pub more_low : {X : Type 0} (g : Grammar X) (bytes : List ℕ) (at : ℕ) (xs : List X) → HasMore g bytes at xs → at ≤ length bytes
more_low g bytes at xs h =
    let on : at ≤ h.after = moves_on (repeat (length xs) g) bytes at xs h.after h.spelled in
    let le = h.within in
    omega arith

pub renewing_more : {X : Type 0} (g : Grammar X) (item : ℕ → X → List Edit) (width : X → ℕ) (f : X → X) (bytes whole : List ℕ) (at : ℕ)
    (left : List X) (now : List ℕ) (x : X) (xs : List X) (next : ℕ) (new : List ℕ) → IsItem g item width f bytes
    → IsRenewing g item width bytes whole at left now → left ≡ x ∷ xs → next ≡ at + width x → new ≡ patched_all (item at x) now
    → length new ≡ length now → IsRenewing g item width bytes whole next xs new
renewing_more g item width f bytes whole at left now x xs next new is r e n p l =
    let more : HasMore g bytes at (x ∷ xs) = subst (λ ys. HasMore g bytes at ys) e r.here in
    let first = more_first g bytes at x xs more in
    let w : first.middle ≡ next = is.wide at x first.middle first.first ∙ sym n in
    let so_far : patched_all (item at x ++ along item width (at + width x) xs) now
    ≡ whole = subst (λ ys. patched_all (along item width at ys) now ≡ whole) e r.so_far in
    let rest : HasMore g bytes next xs = subst (λ m. HasMore g bytes m xs) w first.rest in
    record {
      here = rest;
      low = omega (arith, more_low g bytes next xs rest, l, r.long);
      long = l ∙ r.long;
      so_far = rw (n, p) (sym (patched_append (item at x) (along item width (at + width x) xs) now) ∙ so_far);
    }
