-- The conditions on what stands on the classes, asked one after the other.
use Rattle.std.proofs.Common.{◌≡◌, ℕ, List, [], Ok, Err, sym, ap, subst, ◌∙◌, inl, inr, arith}
use Rattle.std.specs.Option.{option_to_list}
use Rattle.cap_package.specs.PackageRecord.{PackageRecord}
use Rattle.jc_base.specs.declared.record.MethodRec.{MethodRec}
use Rattle.jc_base.specs.declared.record.StaticRec.{StaticRec}
use Rattle.jc_base.specs.Class.{ClassTable}
use Rattle.jc_resolve.specs.declared.fault.LinkFault.{LinkFault}
use Rattle.jc_resolve.specs.declared.fault.LinkEnd.{LinkEnd}
use Rattle.jc_resolve.specs.Fault.{link_place}
use Rattle.jc_resolve.specs.Names.{NamesRecord}
use Rattle.first_fault.specs.Least.{least_of, refused}
use Rattle.first_fault.specs.First.{IsLeast, IsFirst, AllEmpty}
use Rattle.jc_resolve.proofs.ConditionLists.{things-refused, things-none, one-refused, one-none}
use Rattle.jc_link.specs.Room.{statics_fault, arrays_fault}
use Rattle.jc_link.specs.Pools.{missing_members}
use Rattle.jc_link.specs.Catches.{catch_fault, handler_places, bad_catches}
use Rattle.jc_link.specs.Roles.{role_fault, thrown_roles, abstract_roles}
use Rattle.jc_link.specs.declared.linking.Resolved.{Resolved}
use Rattle.jc_link.specs.World.{table_of, methods_of, statics_of, member_conditions, rest_conditions, TellsFirst}
use Rattle.jc_link.specs.Known.{AreNamesOf, IsTableOf}
use Rattle.jc_link.proofs.Steps.{methods-are}

-- what is asked, and of what
pub record AreAsked (ps : List PackageRecord) (roles : List ℕ) (qs : List PackageRecord) (t : ClassTable) (methods : List MethodRec) : Type 0 where
  pub packages : qs ≡ ps
  pub table : IsTableOf ps roles t
  pub methods_are : methods ≡ methods_of ps roles

pub asked : (n : NamesRecord) (qs : List PackageRecord) (t : ClassTable) (methods : List MethodRec) → AreNamesOf n.packages n.roles n
    → IsTableOf n.packages n.roles t → qs ≡ n.packages → methods ≡ n.methods → AreAsked n.packages n.roles qs t methods
asked n qs t methods of is e m = record { packages = e; table = is; methods_are = m ∙ methods-are n.packages n.roles n of }

module _ (ps : List PackageRecord) (roles : List ℕ) (qs : List PackageRecord) (t : ClassTable) (methods : List MethodRec)
    (a : AreAsked ps roles qs t methods) where
  -- the static fields have room
  abbrev pub HasStatics : Type 0
  HasStatics = option_to_list (statics_fault ps) ≡ []

  pub statics_none : (x : Unit {0}) → Ok x ≡ refused (statics_fault qs) → HasStatics
  statics_none x h = one-none link_place (statics_fault ps) x (h ∙ ap (λ (xs : List PackageRecord). refused (statics_fault xs)) a.packages)

  pub arrays_none : (x : Unit {0}) → Ok x ≡ refused (arrays_fault qs) → option_to_list (arrays_fault ps) ≡ []
  arrays_none x h = one-none link_place (arrays_fault ps) x (h ∙ ap (λ (xs : List PackageRecord). refused (arrays_fault xs)) a.packages)

  pub catches_none : (x : Unit {0}) → Ok x ≡ refused (least_of link_place (catch_fault ps t) (handler_places ps)) → bad_catches ps t ≡ []
  catches_none x h = things-none link_place (catch_fault ps t) (handler_places ps) x h

  catches_same : bad_catches ps t ≡ bad_catches ps (table_of ps roles)
  catches_same = ap (λ (u : ClassTable). bad_catches ps u) a.table.is

  roles_same : abstract_roles t methods ≡ abstract_roles (table_of ps roles) (methods_of ps roles)
  roles_same = grind (arith)

  -- ---- handlers, initial arrays and roles

  pub catches_first : (f : LinkFault) → Err f ≡ refused (least_of link_place (catch_fault ps t) (handler_places ps))
      → IsFirst link_place (rest_conditions ps roles) f
  catches_first f h = grind (arith, catches_same, things-refused)

  pub arrays_first : (f : LinkFault) → bad_catches ps t ≡ [] → Err f ≡ refused (arrays_fault qs) → IsFirst link_place (rest_conditions ps roles) f
  arrays_first f caught h = grind (arith, catches_same, one-refused)

  pub roles_first : (f : LinkFault) → bad_catches ps t ≡ [] → option_to_list (arrays_fault ps) ≡ []
      → Err f ≡ refused (least_of link_place (role_fault t methods) thrown_roles) → IsFirst link_place (rest_conditions ps roles) f
  roles_first f caught arrays h =
      inr (
        sym catches_same
            ∙ caught,
        inr (
          arrays,
          inl (subst (λ (fs : List LinkFault). IsLeast link_place fs f) roles_same (things-refused link_place (role_fault t methods) thrown_roles f h)),
        ),
      )

  pub rest_empty : (x : Unit {0}) → bad_catches ps t ≡ [] → option_to_list (arrays_fault ps) ≡ []
      → Ok x ≡ refused (least_of link_place (role_fault t methods) thrown_roles) → AllEmpty (rest_conditions ps roles)
  rest_empty x caught arrays h = grind (arith, catches_same, roles_same, things-none link_place (role_fault t methods) thrown_roles x h)

  -- ---- static fields and pools before them

  module _ (statics : List StaticRec) (s : statics ≡ statics_of ps roles) where
    missing_same : missing_members ps t statics ≡ missing_members ps (table_of ps roles) (statics_of ps roles)
    missing_same = grind (arith)

    pub rest_told : (end : LinkEnd) → HasStatics → missing_members ps t statics ≡ [] → TellsFirst {A = Unit {0}} (rest_conditions ps roles)
        (Err end) → TellsFirst {A = Resolved} (member_conditions ps roles) (Err end)
    rest_told x none members h = grind (arith, missing_same)

    pub members_empty : HasStatics → missing_members ps t statics ≡ [] → AllEmpty (rest_conditions ps roles) → AllEmpty (member_conditions ps roles)
    members_empty none members rest = (none, (sym missing_same ∙ members, rest))
