-- Worked cases of instances: class 0 is object; interface 2 extends interface 1; class 3 implements 2, class 4 extends 3, and class 5
-- implements nothing.
use Rattle.std.specs.Prelude.{◌≡◌, ℕ, Bool, true, false, List, [], ◌∷◌, map, Option, Some, None}
use Rattle.std.proofs.Common.{refl}
use Rattle.jc_base.specs.declared.ty.Ty.TheVariants.{Class, ArrBool, ArrByte, ArrInt, ArrRef}
use Rattle.jc_base.specs.declared.record.ClassRec.{ClassRec}
use Rattle.jc_base.specs.Class.{ClassTable, is_interface, parent_of, chain, chain_over}
use Rattle.jc_base.specs.Leads.{leads_below}
use Rattle.jc_base.specs.Order.{is_on_chain}
use Rattle.jc_base.specs.Interface.{extended, implemented, is_or_extends, implements}
use Rattle.vm_store.specs.declared.cell.ObjectKind.TheVariants.{Instance, Bytes, References}
use Rattle.vm_step.specs.Instance.{is_instance}

abbrev line : Bool → Option ℕ → List ℕ → ClassRec
line interface parent named =
    record {
      «package» = 0;
      interface = interface;
      parent = parent;
      cells = 0;
      own = [];
      implements = map (λ i. record { class = i; tokens = [] }) named;
      public = [];
      visible = [];
    }

abbrev table : ClassTable
table =
    record {
      records =
          line false None [] ∷ line true None [] ∷ line true None (1 ∷ []) ∷ line false (Some 0) (2 ∷ []) ∷ line false
          (Some 3) []
          ∷ line false (Some 0) [] ∷ [];
      roles = 0 ∷ [];
    }

-- of object, of the class itself, of the superclass, of its interface and of what that extends; not of a subclass, another class, an
-- interface that is not implemented, an array
instances : map (is_instance table (Instance 4)) (Class 0 ∷ Class 4 ∷ Class 3 ∷ Class 2 ∷ Class 1 ∷ [])
    ≡ true ∷ true ∷ true ∷ true ∷ true ∷ []
unfolding is_interface parent_of chain chain_over leads_below is_on_chain extended implemented is_or_extends implements
instances = refl

no_instances : map (is_instance table (Instance 3)) (Class 4 ∷ Class 5 ∷ ArrRef 3 ∷ ArrByte ∷ [])
    ≡ false ∷ false ∷ false ∷ false ∷ []
unfolding is_interface parent_of chain chain_over leads_below is_on_chain extended implemented is_or_extends implements
no_instances = refl

not_implemented : map (is_instance table (Instance 5)) (Class 1 ∷ Class 2 ∷ []) ≡ false ∷ false ∷ []
unfolding is_interface parent_of chain chain_over leads_below is_on_chain extended implemented is_or_extends implements
not_implemented = refl

-- an array of numbers is one of object and of its own type; arrays of booleans and of bytes differ here
numbers : map (is_instance table Bytes) (Class 0 ∷ ArrByte ∷ ArrBool ∷ Class 1 ∷ ArrRef 0 ∷ [])
    ≡ true ∷ true ∷ false ∷ false ∷ false ∷ []
unfolding is_interface
numbers = refl

-- an array of a class, and one of an interface
references : map (is_instance table (References 4))
    (ArrRef 4 ∷ ArrRef 3 ∷ ArrRef 1 ∷ ArrRef 0 ∷ Class 0 ∷ ArrRef 5 ∷ ArrInt ∷ [])
    ≡ true ∷ true ∷ true ∷ true ∷ true ∷ false ∷ false ∷ []
unfolding is_interface parent_of chain chain_over leads_below is_on_chain extended implemented is_or_extends implements
references = refl

interfaces : map (is_instance table (References 2)) (ArrRef 2 ∷ ArrRef 1 ∷ ArrRef 0 ∷ ArrRef 3 ∷ [])
    ≡ true ∷ true ∷ true ∷ false ∷ []
unfolding is_interface parent_of chain chain_over leads_below is_on_chain extended implemented is_or_extends implements
interfaces = refl
