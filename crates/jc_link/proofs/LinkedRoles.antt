-- The classes of the roles are those of a world.
use Rattle.std.proofs.Common.{◌≡◌, ℕ, zero, suc, ◌<◌, ◌≤◌, Bool, true, List, [], None, refl, inl, inr, arith}
use Rattle.std.specs.Prelude.{slice_index}
use Rattle.cap_package.specs.PackageRecord.{PackageRecord}
use Rattle.jc_base.specs.declared.record.MethodRec.{MethodRec}
use Rattle.jc_base.specs.Class.{ClassTable}
use Rattle.jc_base.specs.Dispatch.{is_concrete}
use Rattle.jc_base.specs.Laws.{ConcreteIsDecided}
use Rattle.jc_base.specs.World.{AreRoles}
use Rattle.jc_resolve.proofs.Faultless.{IsOneOf, faultless}
use Rattle.jc_link.specs.Roles.{role_fault, thrown_roles, abstract_roles}
use Rattle.jc_link.specs.World.{table_of, methods_of}
use Rattle.jc_link.specs.Known.{IsTableOf}
use Rattle.jc_link.proofs.Tables.{role-class, role-thrown}

module _ (t : ClassTable) (methods : List MethodRec) where
  concrete_by : (k : ℕ) (b : Bool) → is_concrete t methods (slice_index t.roles k) ≡ b → role_fault t methods k ≡ None → b ≡ true
  unfolding role_fault
  concrete_by k y e none = grind (arith)

  thrown_is : (k : ℕ) → 2 ≤ k → k < 8 → IsOneOf thrown_roles k
  thrown_is zero two lt = absurd (omega arith)
  thrown_is (suc zero) two lt = absurd (omega arith)
  thrown_is (suc (suc zero)) two lt = inl refl
  thrown_is (suc (suc (suc zero))) two lt = inr (inl refl)
  thrown_is (suc (suc (suc (suc zero)))) two lt = inr (inr (inl refl))
  thrown_is (suc (suc (suc (suc (suc zero))))) two lt = inr (inr (inr (inl refl)))
  thrown_is (suc (suc (suc (suc (suc (suc zero)))))) two lt = inr (inr (inr (inr (inl refl))))
  thrown_is (suc (suc (suc (suc (suc (suc (suc zero))))))) two lt = inr (inr (inr (inr (inr (inl refl)))))
  thrown_is (suc (suc (suc (suc (suc (suc (suc (suc n)))))))) two lt = absurd (omega arith)

  roles_concrete : abstract_roles t methods ≡ [] → (k : ℕ) → 2 ≤ k → k < 8 → is_concrete t methods (slice_index t.roles k) ≡ true
  roles_concrete none k two lt = grind (arith, concrete_by, faultless, thrown_is)

pub are-roles : ConcreteIsDecided → (ps : List PackageRecord) (roles : List ℕ) (t : ClassTable) → IsTableOf ps roles t
    → abstract_roles (table_of ps roles) (methods_of ps roles) ≡ [] → AreRoles (table_of ps roles) (methods_of ps roles)
are-roles decided ps roles t is none = record {
  count = is.eight;
  objects = role-class ps roles t is 0 (omega arith);
  throwables = role-class ps roles t is 1 (omega arith);
  others = λ k two lt. record {
    concrete =
        (decided (table_of ps roles) (methods_of ps roles) (slice_index roles k)).0
        (roles_concrete (table_of ps roles) (methods_of ps roles) none k two lt);
    thrown = role-thrown ps roles t is k two lt;
  };
}
