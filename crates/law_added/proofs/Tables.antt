-- A class table with more classes after it: what is asked of a class that was there is answered as before.
use Rattle.std.proofs.Common.{arith}
use Rattle.std.proofs.Common.{◌≡◌, ◌<◌, ℕ, List, [], ◌++◌, length, slice_get, slice_index}
use Rattle.std.proofs.Common.{IfSome, refl, sym, ap, subst, ◌∙◌, All}
use Rattle.jc_base.specs.declared.record.ClassRec.{ClassRec}
use Rattle.jc_base.specs.Class.{ClassTable, chain, object, parent_of, parent_in_record, is_interface, is_interface_record}
use Rattle.jc_base.specs.Dispatch.{of_record, package_of, public_of, visible_of, cell_count, entry_at}
use Rattle.jc_resolve.specs.declared.naming.NamedClass.{NamedClass}
use Rattle.jc_classes.specs.Outline.{AreLines, outline}
use Rattle.jc_classes.specs.Tables.{class_tables}
use Rattle.jc_classes.proofs.ClassLines.{tables-alike, chain-alike, records-length}
use Rattle.jc_classes.proofs.Outlines.{parent_known}
use Rattle.law_added.proofs.Lines.{tables_begin, chain_front, chain_within, added_records}
use Rattle.jc_base.proofs.Lists.{slice_get-left}

-- the second table has the first n classes as the first one has them, and more classes after these
pub record IsGrown (n : ℕ) (t u : ClassTable) : Type 0 where
  pub more : List ClassRec
  pub records : u.records ≡ t.records ++ more
  pub count : length t.records ≡ n
  pub roles : u.roles ≡ t.roles
  pub chains : (c : ℕ) → c < n → chain u c ≡ chain t c
  pub within : (c : ℕ) → c < n → All (λ a. a < n) (chain t c)
  pub parents : (c : ℕ) → IfSome (parent_of t c) (λ p. p < n)

pub tables_grown : (cs more : List NamedClass) (roles : List ℕ) → AreLines (outline cs roles) → AreLines (outline (cs ++ more) roles)
    → IsGrown (length cs) (class_tables (outline cs roles) cs) (class_tables (outline (cs ++ more) roles) (cs ++ more))
tables_grown cs more roles are grown =
    let few = tables-alike (outline cs roles) cs (record { is = refl }) in
    let many = tables-alike (outline (cs ++ more) roles) (cs ++ more) (record { is = refl }) in
    let t = class_tables (outline cs roles) cs in
    let u = class_tables (outline (cs ++ more) roles) (cs ++ more) in
    let n : length t.records ≡ length cs = records-length (outline cs roles) cs cs 0 in
    record {
      more = added_records cs more roles are grown;
      records = tables_begin cs more roles are grown;
      count = n;
      roles = refl;
      chains = λ c lt.
          chain-alike (outline (cs ++ more) roles) u many c ∙ chain_front cs more roles are grown c lt ∙ sym (chain-alike (outline cs roles) t few c);
      within = λ c lt. subst (All (λ a. a < length cs)) (sym (chain-alike (outline cs roles) t few c)) (chain_within cs more roles are grown c lt);
      parents = λ c.
          subst (λ k. IfSome (parent_of t c) (λ p. p < k)) (sym few.count ∙ n)
          (subst (λ o. IfSome o (λ p. p < length (outline cs roles).lines)) (sym (few.parents c))
          (parent_known (outline cs roles) c _ are refl));
    }

module _ (n : ℕ) (t u : ClassTable) (grown : IsGrown n t u) where
  pub record_front : (c : ℕ) → c < n → slice_get u.records c ≡ slice_get t.records c
  record_front c lt = grind (arith, slice_get, slice_get-left)

  pub object_front : object u ≡ object t
  object_front = ap (λ rs. slice_index rs 0) grown.roles

  pub interface_front : (c : ℕ) → c < n → is_interface u c ≡ is_interface t c
  unfolding is_interface
  interface_front c lt = ap is_interface_record (record_front c lt)

  pub parent_front : (c : ℕ) → c < n → parent_of u c ≡ parent_of t c
  unfolding parent_of
  parent_front c lt = ap parent_in_record (record_front c lt)

  pub package_front : (c : ℕ) → c < n → package_of u c ≡ package_of t c
  unfolding package_of
  package_front c lt = ap (of_record 0 (λ r. r.«package»)) (record_front c lt)

  pub public_front : (c : ℕ) → c < n → public_of u c ≡ public_of t c
  unfolding public_of
  public_front c lt = ap (of_record [] (λ r. r.public)) (record_front c lt)

  pub visible_front : (c : ℕ) → c < n → visible_of u c ≡ visible_of t c
  unfolding visible_of
  visible_front c lt = ap (of_record [] (λ r. r.visible)) (record_front c lt)

  pub cells_front : (c : ℕ) → c < n → cell_count u c ≡ cell_count t c
  unfolding cell_count
  cells_front c lt = ap (of_record 0 (λ r. r.cells)) (record_front c lt)

  pub entry_front : (c token : ℕ) → c < n → entry_at u c token ≡ entry_at t c token
  unfolding entry_at
  entry_front c token lt = rw (public_front c lt, visible_front c lt) refl
