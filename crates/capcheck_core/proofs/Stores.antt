-- Parts that are stored in a folder one after the other, what it then holds, and the order of a package's parts.
use Rattle.std.proofs.Common.{◌≡◌, ◌<◌, ◌≤◌, ◌+◌, ℕ, suc, List, [], ◌∷◌, ◌++◌, Option, Some, None, IsSome, IsNone, Bool, true}
use Rattle.std.proofs.Common.{false, cond, eqb, get_or, length, length-append, drop, refl, sym, ap, subst, ◌∙◌, inl, inr, ◌⊎◌, arith, take}
use Rattle.std.specs.Prelude.{IfSome, IsSomeAnd}
use Rattle.std.specs.Cmp.Lexicographic.{slice_cmp, nat_list_cmp_total}
use Rattle.std.specs.declared.cmp.Ordering.{Ordering}
use Rattle.std.specs.Ordering.{nat_cmp, eq_by_cmp}
use Rattle.std.specs.FinMap as map
use Rattle.std.proofs.lemmas.Bool.{ne_eqb, eqb-true, eqb-false}
use Rattle.std.proofs.Math.Nat.{eq-or-lt_of_le}
use Rattle.cap_files.specs.Counts.{Rose}
use Rattle.cap_files.specs.Folder.{Parts, Folders}
use Rattle.cap_files.proofs.Keys.{same_key, own_key}
use Rattle.cap_package.specs.Parts.{Lent, held, HasEachOnce}
use Rattle.cap_components.proofs.PartsLemmas.{held-other, held-same, HasEachOnce-push}
use Rattle.capcheck_core.specs.Loads.{Rise, with_file}
use Rattle.capcheck_core.specs.Roles.{roles_tag}
use Rattle.capcheck_core.specs.Stores.{with_parts_stored, AreStored, IsPartlyStored, IsBrokenOff, AreInStoreOrder, StandWhole, HasAllButHeader, HasHeaderLast}
use Rattle.capcheck_core.specs.Stores.{IsStoredInPart, header_tag}
use Rattle.capcheck_core.proofs.Loads.{none_some, lent_of, above_none, below_none, rise_wider, rise_push, file_other, file_same, nothing, rise_once}

-- ---- one store more

stored_push : (dir : List ℕ) (old : Parts) (done : List Lent) (lent : Lent)
    → with_parts_stored dir old (done ++ lent ∷ []) ≡ map.insert (with_parts_stored dir old done) (lent.part ∷ dir) lent.bytes
stored_push dir old [] lent = refl
stored_push dir old (l ∷ ls) lent = stored_push dir (map.insert old (l.part ∷ dir) l.bytes) ls lent

pub none_stored : (dir : List ℕ) (folders : Folders) → AreStored dir [] folders folders
none_stored dir folders = record { held = same folders.held; load_faults = refl; failed = refl; store_faults = refl }
  where
    same : (o : Option Parts) → IfSome o (λ now. IsSomeAnd o (λ old. now ≡ old))
    same None = tt {0}
    same (Some x) = refl

pub one_stored : (dir : List ℕ) (done : List Lent) (lent : Lent) (before mid after : Folders) → AreStored dir done before mid
    → IfSome after.held (λ now. IsSomeAnd mid.held (λ old. now ≡ map.insert old (lent.part ∷ dir) lent.bytes))
    → after.load_faults ≡ mid.load_faults → after.failed ≡ mid.failed → after.store_faults ≡ mid.store_faults
    → AreStored dir (done ++ lent ∷ []) before after
one_stored dir done lent before mid after all one loads failed stores = grind (arith, stored_push)

pub one_broken : (dir : List ℕ) (parts done : List Lent) (lent : Lent) (left : List Lent) (before mid after : Folders) → AreStored dir done before mid
    → parts ≡ done ++ lent ∷ left
    → IfSome after.held (λ now. IsSomeAnd mid.held (λ old. IsPartlyStored dir lent old now))
    → after.load_faults ≡ mid.load_faults → after.failed ≡ mid.failed → Rose mid.store_faults after.store_faults
    → IsBrokenOff dir parts before after
one_broken dir parts done lent left before mid after all are one loads failed rose = grind (arith)

-- ---- the order of a package's parts

-- those below a tag, but for the Header and the roles
pub record AreInOrderBelow (parts : List Lent) (top : ℕ) (stores : List Lent) : Type 0 where
  pub rising : Rise 2 top stores
  pub same : (tag : ℕ) → 2 ≤ tag → tag < top → held stores tag ≡ held parts tag

pub none_in_order : (parts : List Lent) → AreInOrderBelow parts 2 []
none_in_order parts = record { rising = tt {0}; same = λ tag low below. absurd (omega (arith, low, below)) }

is_none : (o : Option (List ℕ)) → o ≡ None → IsNone o
is_none o e = subst IsNone (sym e) refl

next_none : (parts : List Lent) (top : ℕ) (stores : List Lent) → AreInOrderBelow parts top stores → held stores top ≡ None
next_none parts top stores so_far = above_none 2 top top stores so_far.rising (omega arith)

pub next_absent : (parts : List Lent) (top : ℕ) (stores : List Lent) → AreInOrderBelow parts top stores → IsNone (held stores top)
next_absent parts top stores so_far = is_none (held stores top) (next_none parts top stores so_far)

next : (parts : List Lent) (top : ℕ) (stores : List Lent) → 2 ≤ top → AreInOrderBelow parts top stores
    → AreInOrderBelow parts (suc top) (with_file stores top (held parts top))
next parts top stores low so_far = grind (arith, eq-or-lt_of_le, file_same, next_none, file_other, ne_eqb, rise_wider, rise_push)

pub next_in_order : (parts : List Lent) (top : ℕ) (stores more : List Lent) → 2 ≤ top → AreInOrderBelow parts top stores
    → more ≡ with_file stores top (held parts top) → AreInOrderBelow parts (top + 1) more
next_in_order parts top stores more low so_far adds = grind (arith, suc top, next parts top stores low so_far)

pub roles_absent : (parts stores : List Lent) (top : ℕ) → AreInOrderBelow parts top stores → IsNone (held stores roles_tag)
roles_absent parts stores top so_far = is_none (held stores roles_tag) (below_none 2 top 0 stores so_far.rising (omega arith))

-- there is no Header before the last of the stores
pub no_header_before : (others : List Lent) (top : ℕ) (roles : Option (List ℕ)) → Rise 2 top others
    → held (with_file others roles_tag roles) header_tag ≡ None
no_header_before others top roles rise = file_other header_tag roles_tag others roles refl ∙ below_none 2 top 1 others rise (omega arith)

pub header_absent : (parts others stores : List Lent) (top : ℕ) (roles : Option (List ℕ)) → AreInOrderBelow parts top others
    → stores ≡ with_file others roles_tag roles → IsNone (held stores header_tag)
header_absent parts others stores top roles so_far adds = grind (arith, is_none, no_header_before)

pub all_in_order : (parts others middle stores : List Lent) (top : ℕ) (roles : Option (List ℕ)) → AreInOrderBelow parts top others → top ≡ 256
    → IsSome (held parts header_tag) → middle ≡ with_file others roles_tag roles → stores ≡ with_file middle header_tag (held parts header_tag)
    → AreInStoreOrder parts roles stores
all_in_order parts others middle stores top roles so_far whole some first last = grind (arith)

-- ---- what a folder holds of parts that are stored

abbrev order : List ℕ → List ℕ → Ordering
order = slice_cmp nat_cmp

other_key : (dir : List ℕ) (tag t : ℕ) → (t ≡ tag → ⊥) → eq_by_cmp order (tag ∷ dir) (t ∷ dir) ≡ false
other_key dir tag t differ = by (eq_by_cmp order (tag ∷ dir) (t ∷ dir)) refl
  where
    by : (b : Bool) → eq_by_cmp order (tag ∷ dir) (t ∷ dir) ≡ b → b ≡ false
    by true e = absurd (differ (sym (ap (λ k. get_or k 0 0) (same_key (tag ∷ dir) (t ∷ dir) e))))
    by false e = refl

insert_same : (dir : List ℕ) (old : Parts) (tag : ℕ) (bytes : List ℕ) → map.get (map.insert old (tag ∷ dir) bytes) (tag ∷ dir) ≡ Some bytes
insert_same dir old tag bytes =
    map.get-insert nat_list_cmp_total old (tag ∷ dir) bytes (tag ∷ dir)
    ∙ ap (λ b. cond b (Some bytes) (map.get old (tag ∷ dir))) (own_key (tag ∷ dir))

insert_other : (dir : List ℕ) (old : Parts) (t tag : ℕ) (bytes : List ℕ) → (t ≡ tag → ⊥)
    → map.get (map.insert old (t ∷ dir) bytes) (tag ∷ dir) ≡ map.get old (tag ∷ dir)
insert_other dir old t tag bytes differ =
    map.get-insert nat_list_cmp_total old (t ∷ dir) bytes (tag ∷ dir)
    ∙ ap (λ b. cond b (Some bytes) (map.get old (tag ∷ dir))) (other_key dir tag t differ)

-- a part that is not among those that are stored is as before
get_kept : (dir : List ℕ) (old : Parts) (parts : List Lent) (tag : ℕ) → held parts tag ≡ None
    → map.get (with_parts_stored dir old parts) (tag ∷ dir) ≡ map.get old (tag ∷ dir)
get_kept dir old [] tag absent = refl
get_kept dir old (l ∷ ls) tag absent = by (eqb l.part tag) refl (get_kept dir (map.insert old (l.part ∷ dir) l.bytes) ls tag)
  where
    by : (b : Bool) → eqb l.part tag ≡ b
        → (held ls tag ≡ None → map.get (with_parts_stored dir old (l ∷ ls)) (tag ∷ dir) ≡ map.get (map.insert old (l.part ∷ dir) l.bytes)
        (tag ∷ dir))
        → map.get (with_parts_stored dir old (l ∷ ls)) (tag ∷ dir) ≡ map.get old (tag ∷ dir)
    by true e rest = absurd (none_some l.bytes (sym absent ∙ held-same tag l ls e))
    by false e rest = rest (sym (held-other tag l ls e) ∙ absent) ∙ insert_other dir old l.part tag l.bytes (λ is. eqb-false l.part tag e is)

-- a part that is stored once is there
pub get_stored : (dir : List ℕ) (old : Parts) (parts : List Lent) → HasEachOnce parts → StandWhole dir parts (with_parts_stored dir old parts)
get_stored dir old [] each tag bytes is = absurd (none_some bytes is)
get_stored dir old (l ∷ ls) each tag bytes is = by (eqb l.part tag) refl (get_stored dir (map.insert old (l.part ∷ dir) l.bytes) ls each.1 tag bytes)
  where
    by : (b : Bool) → eqb l.part tag ≡ b → (held ls tag ≡ Some bytes → map.get (with_parts_stored dir old (l ∷ ls)) (tag ∷ dir) ≡ Some bytes)
        → map.get (with_parts_stored dir old (l ∷ ls)) (tag ∷ dir) ≡ Some bytes
    by true e rest =
        let same : l.part ≡ tag = eqb-true l.part tag e in
        let absent : held ls tag ≡ None = subst (λ t. held ls t ≡ None) same (nothing (held ls l.part) each.0) in
        get_kept dir (map.insert old (l.part ∷ dir) l.bytes) ls tag absent
        ∙ subst (λ t. map.get (map.insert old (l.part ∷ dir) l.bytes) (t ∷ dir) ≡ Some l.bytes) same (insert_same dir old l.part l.bytes)
        ∙ sym (held-same tag l ls e) ∙ is
    by false e rest = rest (sym (held-other tag l ls e) ∙ is)

-- ---- where the stores of a package are broken off

absent_parts : (tag : ℕ) (xs : List Lent) (b : Lent) (ys : List Lent) → held (xs ++ b ∷ ys) tag ≡ None
    → (held xs tag ≡ None) × (eqb b.part tag ≡ false)
absent_parts tag [] b ys e = (refl, by (eqb b.part tag) refl)
  where
    by : (c : Bool) → eqb b.part tag ≡ c → c ≡ false
    by true same = absurd (none_some b.bytes (sym e ∙ held-same tag b ys same))
    by false other = refl
absent_parts tag (x ∷ xs) b ys e = by (eqb x.part tag) refl (absent_parts tag xs b ys)
  where
    by : (c : Bool) → eqb x.part tag ≡ c → (held (xs ++ b ∷ ys) tag ≡ None → (held xs tag ≡ None) × (eqb b.part tag ≡ false))
        → (held (x ∷ xs) tag ≡ None) × (eqb b.part tag ≡ false)
    by true same rest = absurd (none_some x.bytes (sym e ∙ held-same tag x (xs ++ b ∷ ys) same))
    by false other rest =
        let more = rest (sym (held-other tag x (xs ++ b ∷ ys) other) ∙ e) in
        (held-other tag x xs other ∙ more.0, more.1)

-- the part that is broken is the last, or stands before it
abbrev Broken : List Lent → Lent → List Lent → Lent → Type 0
Broken xs h done b = ((done ≡ xs) × (b ≡ h)) ⊎ ((more : List Lent) × (xs ≡ done ++ b ∷ more))

broken_at : (xs : List Lent) (h : Lent) (done : List Lent) (b : Lent) (left : List Lent) → xs ++ h ∷ [] ≡ done ++ b ∷ left → Broken xs h done b
broken_at [] h [] b left e = inl (refl, sym (ap (λ l. get_or l 0 h) e))
broken_at [] h (d ∷ ds) b left e =
    let long : 1 ≡ suc (length (ds ++ b ∷ left)) = ap length e in
    let more = length-append ds (b ∷ left) in
    absurd (omega (arith, long, more))
broken_at (x ∷ xs) h [] b left e = inr (xs, ap (λ y. y ∷ xs) (ap (λ l. get_or l 0 x) e))
broken_at (x ∷ xs) h (d ∷ ds) b left e =
    let first : x ≡ d = ap (λ l. get_or l 0 x) e in
    elim (broken_at xs h ds b left (ap (λ l. drop 1 l) e)) [
      | inl last ↦ inl (λ i. sym first i ∷ last.0 i, last.1)
      | inr before ↦ inr (before.0, λ i. first i ∷ before.1 i)
    ]

module _ (dir header : List ℕ) (others : List Lent) (each : HasEachOnce others) (no_header : held others header_tag ≡ None) (old now : Parts)
    (none : map.get old (header_tag ∷ dir) ≡ None) where
  kept : (done : List Lent) → held done header_tag ≡ None → map.get (with_parts_stored dir old done) (header_tag ∷ dir) ≡ None
  kept done absent = get_kept dir old done header_tag absent ∙ none

  -- all others are stored whole
  at_header : IsPartlyStored dir (lent_of header_tag header) (with_parts_stored dir old others) now
      → (map.get now (header_tag ∷ dir) ≡ None) ⊎ HasAllButHeader dir header others now
  at_header x = grind (arith, kept, insert_same, take, insert_other, none_some, get_stored)

  -- the Header is not begun
  before_header : (done : List Lent) (b : Lent) (more : List Lent) → others ≡ done ++ b ∷ more
      → IsPartlyStored dir b (with_parts_stored dir old done) now
      → map.get now (header_tag ∷ dir) ≡ None
  before_header done b more are begun = grind (arith, absent_parts, kept, insert_other, take, eqb-false)

  header_last_in : (done : List Lent) (b : Lent) (left : List Lent) → others ++ lent_of header_tag header ∷ [] ≡ done ++ b ∷ left
      → IsPartlyStored dir b (with_parts_stored dir old done) now → (map.get now (header_tag ∷ dir) ≡ None) ⊎ HasAllButHeader dir header others now
  header_last_in done b left are begun = grind (arith, broken_at, at_header, before_header)

roles_each : (others : List Lent) (roles : Option (List ℕ)) → Rise 2 256 others → HasEachOnce (with_file others roles_tag roles)
roles_each others None rise = rise_once 2 256 others rise
roles_each others (Some bytes) rise =
    HasEachOnce-push others (lent_of roles_tag bytes) (rise_once 2 256 others rise)
    (is_none (held others roles_tag) (below_none 2 256 0 others rise (omega arith)))

pub header_last : (dir : List ℕ) (parts : List Lent) (roles : Option (List ℕ)) (stores : List Lent) (before after : Folders)
    (order : AreInStoreOrder parts roles stores) → IsBrokenOff dir stores before after
    → HasHeaderLast dir order.header (with_file order.others roles_tag roles) before after
header_last dir parts roles stores before after order off = over after.held before.held off.held
  where
    over : (now old : Option Parts) → IfSome now (λ n. IsSomeAnd old (λ o. IsPartlyStored dir off.broken (with_parts_stored dir o off.done) n))
        → IfSome now (λ n. IsSomeAnd old (λ o. map.get o (header_tag ∷ dir) ≡ None
        → (map.get n (header_tag ∷ dir) ≡ None) ⊎ HasAllButHeader dir order.header (with_file order.others roles_tag roles) n))
    over None old begun = tt {0}
    over (Some n) None begun = absurd begun
    over (Some n) (Some o) begun = λ none.
        header_last_in dir order.header (with_file order.others roles_tag roles) (roles_each order.others roles order.rising)
        (no_header_before order.others 256 roles order.rising) o n none off.done off.broken off.left (sym order.all ∙ off.are) begun

-- each of a package's parts is stored once
pub stores_each : (parts : List Lent) (roles : Option (List ℕ)) (stores : List Lent) → AreInStoreOrder parts roles stores → HasEachOnce stores
stores_each parts roles stores order =
    let middle = with_file order.others roles_tag roles in
    subst HasEachOnce (sym order.all)
    (HasEachOnce-push middle (lent_of header_tag order.header) (roles_each order.others roles order.rising)
    (is_none (held middle header_tag) (no_header_before order.others 256 roles order.rising)))

-- where the stores are broken off, the Header is the last of them
pub stored_in_part : (P : List Lent → Type 0) (given : Option (List ℕ)) (dir : List ℕ) (parts stores : List Lent) (before after : Folders)
    → P parts → AreInStoreOrder parts given stores → IsBrokenOff dir stores before after → IsStoredInPart P given dir before after
stored_in_part P given dir parts stores before after made order off = grind (arith, header_last)
