-- The cells of fields, and tables of the fields of several classes.
use Rattle.std.proofs.Common.{◌≡◌, ℕ, ◌+◌, ◌≤◌, ◌<◌, Bool, true, false, cond, List, [], ◌∷◌, ◌++◌, Option, Some, None}
use Rattle.std.proofs.Common.{slice_get, nat_lt, filter, refl, ap, arith, if◌then◌else◌}
use Rattle.std.proofs.lemmas.List.Sums.{sum_by-cons, fold-append}
use Rattle.std.proofs.lemmas.Bool.Decides.{nat_tests}
use Rattle.jc_base.specs.declared.record.Member.{Member}
use Rattle.jc_base.specs.declared.record.ClassRec.{ClassRec}
use Rattle.jc_base.specs.Class.{ClassTable, is_interface, is_interface_record, parent_of, parent_in_record}
use Rattle.jc_base.specs.Linked.{cells_above}
use Rattle.jc_base.specs.Cell.{width}
use Rattle.jc_resolve.specs.declared.field_records.OwnField.{OwnField}
use Rattle.jc_link.specs.declared.sites.Spot.{Spot}
use Rattle.jc_link.specs.Sites.{MemberSite, added_entry, all_entered}
use Rattle.jc_link.specs.Fields.{cells_in_all, cells_before}

pub counted : (b : Bool) (f : OwnField) (fs : List OwnField) → cells_in_all (cond b (f ∷ fs) fs) ≡ cond b (width f.kind) 0 + cells_in_all fs
counted true f fs = sum_by-cons (λ (g : OwnField). width g.kind) f fs
counted false f fs = omega arith

pub taken_before : (f : OwnField) (fs : List OwnField) (token : ℕ)
    → cells_before (f ∷ fs) token ≡ (if nat_lt f.token token then width f.kind else 0) + cells_before fs token
taken_before f fs token = counted (nat_lt f.token token) f (filter (λ (g : OwnField). nat_lt g.token token) fs)

further : (w n token : ℕ) → token < 256 → cond (nat_lt n token) w 0 ≤ cond (nat_lt n 256) w 0
further w n token lt = grind (arith, nat_tests)

-- the fields whose tokens are bytes have the most cells
pub before_most : (fs : List OwnField) (token : ℕ) → token < 256 → cells_before fs token ≤ cells_before fs 256
before_most [] token lt = omega arith
before_most (f ∷ fs) token lt = grind (arith, further, taken_before, before_most fs token lt)

pub entered_both : (xs ys : List MemberSite) (es : List (Spot × Option Member)) → all_entered es (xs ++ ys) ≡ all_entered (all_entered es xs) ys
entered_both xs ys es = fold-append added_entry es xs ys

-- ---- the cells of the superclass

pub no_parent : (t : ClassTable) (c : ℕ) → is_interface t c ≡ true → cells_above t (parent_of t c) ≡ 0
unfolding is_interface parent_of
no_parent t c h = by (slice_get t.records c) h
  where
    by : (o : Option ClassRec) → is_interface_record o ≡ true → cells_above t (parent_in_record o) ≡ 0
    by None e = refl
    by (Some r) e = ap (λ b. cells_above t (cond b None r.parent)) e
