-- The entries of the handler table as methods claim them, one method after the other.
use Rattle.std.specs.Prelude.{◌≡◌, refl, false, ℕ, Bool, List, Option, Some, None, fold, not, ◌&&◌, if◌then◌else◌}
use Rattle.offset_set.specs.Bits.{holds}
use Rattle.offset_set.specs.Sets.{nowhere, also}
use Rattle.offset_set.specs.Tallies.{Tallied, tallied, none_counted, with_one, once}
use Rattle.cap_method.specs.declared.read_methods.HandlerInfo.{HandlerInfo}
use Rattle.cap_desc.specs.DescriptorFormat.{MethodDescriptor}
use Rattle.cap_components.specs.declared.fault.PackFault.{PackFault}
use Rattle.cap_components.specs.declared.fault.PackFault.TheVariants.{HandlerOutside}
use Rattle.cap_package.specs.declared.handlers.HandlerClaims.{HandlerClaims}
use Rattle.cap_package.specs.HandlerChecks.{claims, is_within}

-- how often each entry is claimed, and which do not lie in the code of a method that claims them
pub record Claimed : Type 0 where
  pub owned : Tallied
  pub strays : ℕ → Bool

abbrev pub claims_seen : HandlerClaims → Claimed
claims_seen c = record { owned = tallied c.owned; strays = holds c.strays }

abbrev pub none_claimed : Claimed
none_claimed = record { owned = none_counted; strays = nowhere }

-- a method claims an entry with its number, or does not
unfoldable pub claim_one : List ℕ → MethodDescriptor → Claimed → ℕ × HandlerInfo → Claimed
claim_one info m c p = if claims p.0 m
    then record { owned = with_one c.owned p.0; strays = if is_within info p.1 m then c.strays else also p.0 c.strays }
    else c

abbrev pub claim_table : List ℕ → List (ℕ × HandlerInfo) → Claimed → MethodDescriptor → Claimed
claim_table info table c m = fold (claim_one info m) c table

-- the entry with a number has one owner, in whose code it lies
abbrev pub is_home : Claimed → ℕ → Bool
is_home c number = once c.owned number && not (c.strays number)

abbrev pub home_fault : Claimed → ℕ × HandlerInfo → Option PackFault
home_fault c p = if is_home c p.0 then None else Some (HandlerOutside p.0)

-- an entry that no method claims has no home
unclaimed : is_home none_claimed 0 ≡ false
unclaimed = refl
