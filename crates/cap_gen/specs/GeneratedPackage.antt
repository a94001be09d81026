-- Laws of generated packages.
use Rattle.std.specs.Prelude.{◌≡◌, ℕ, ◌<◌, ◌+◌, [], ◌∷◌, length, take, drop}
use Rattle.cap_package.specs.StandsFor.{StandsFor}
use Rattle.jc_base.specs.declared.ty.Ty.TheVariants.{Top}
use Rattle.jc_base.specs.World.{Linked}
use Rattle.jc_control.specs.Asked.{AllHave}
use Rattle.jc_control.specs.Method.{IsMethodOf}
use Rattle.jc_link.specs.World.{IsLinked}
use Rattle.jc_rules.specs.Flow.{HasFlowTyping}
use Rattle.cap_gen.specs.Shape.{of_kind}
use Rattle.cap_gen.specs.Linked.{record_of, roles}
use Rattle.cap_gen.specs.Methods.{method_bytes, method_offset, code_size_of_kind, method_info, handler_index}
use Rattle.cap_gen.specs.Handlers.{handlers, entries, entries_of_kind}
use Rattle.cap_gen.specs.Generated.{generated_parts}
use Rattle.cap_gen.specs.Record.{package_record}

-- the parts stand for the package
abbrev pub PartsStand : Type 0
PartsStand = (seed : ℕ) → StandsFor (generated_parts seed) (package_record seed)

-- the header and the code of a method stand where the Descriptor tells, and its entries at their number of the handler table
pub record StandsThere (seed k : ℕ) : Type 0 where
  pub bytes : take (code_size_of_kind k + 2) (drop (method_offset k) (method_info seed)) ≡ method_bytes seed k
  pub entries : take (length (handlers k)) (drop (handler_index k) entries) ≡ entries_of_kind k

abbrev pub GeneratedMethodsStand : Type 0
GeneratedMethodsStand = (seed k : ℕ) → k < 200 → StandsThere seed k

-- a method of each kind has a dataflow typing in every world, whatever its constants are
abbrev pub MethodsAreTyped : Type 0
MethodsAreTyped = (w : Linked) (n kind k c d : ℕ) → kind < 4
    → HasFlowTyping w (record { number = n; rec = record_of kind k; code = (of_kind kind c d).code }) Top

-- alone, with its classes in their order in the roles, the package makes a world
abbrev pub PackagesLink : Type 0
PackagesLink = (seed : ℕ) → (w : Linked) × IsLinked (package_record seed ∷ []) roles w

-- in which each method with code has a dataflow typing
abbrev pub WorldsAreTyped : Type 0
WorldsAreTyped = (seed : ℕ) (w : Linked) → IsLinked (package_record seed ∷ []) roles w
    → AllHave (IsMethodOf w) (λ m. HasFlowTyping w m Top)
