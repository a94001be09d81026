-- A list of parts stands for a package exactly where the package is answered, so for one at most.
use Rattle.std.proofs.Common.{arith}
use Rattle.std.proofs.Common.{◌≡◌, ℕ, Option, IfSome, List, Result, Ok, Err, sym, ap, subst, inl, inr}
use Rattle.std.specs.Option.{option_map}
use Rattle.cap_bytes.specs.Grammar.{Grammar}
use Rattle.cap_components.specs.declared.fault.PackFault.{PackFault}
use Rattle.cap_components.specs.Parts.{Lent}
use Rattle.cap_components.specs.PackageRecord.{PackageRecord}
use Rattle.cap_components.specs.ReadPackage.{read_package}
use Rattle.cap_components.specs.Components.{info_in}
use Rattle.cap_components.specs.Saying.{HoldsComponent, Says, SaysIf}
use Rattle.cap_components.proofs.Saying.{info-read, said-read, fails-read}
use Rattle.cap_package.specs.Agreement.{package_from}
use Rattle.first_fault.specs.First.{IsFirst, IsLeast}
use Rattle.first_fault.proofs.FirstTold.{none_first}
use Rattle.cap_components.specs.Order.{pack_place}
use Rattle.cap_package.specs.FirstFault.{conditions_of, Tells}
use Rattle.cap_package.specs.StandsFor.{StandsFor, HavePackage}
use Rattle.cap_package.proofs.FirstTold.{first_told}

-- ---- where nothing is at fault no fault is told

ok_same : (p q : PackageRecord) (r : Result PackageRecord PackFault) → r ≡ Ok p → r ≡ Ok q → q ≡ p
ok_same p q r e h = cc

no_answer : (p : PackageRecord) (f : PackFault) (r : Result PackageRecord PackFault) → r ≡ Ok p → r ≡ Err f → ⊥
no_answer p f r e h = absurd cc

-- what is told of parts that stand for a package
pub stands_told : (parts : List Lent) (p : PackageRecord) (answer : Result PackageRecord PackFault) → StandsFor parts p → Tells parts answer
    → answer ≡ Ok p
stands_told parts p (Ok q) s t = ap Ok (ok_same p q (read_package parts) (said-read parts p s.said) (said-read parts q t.1))
stands_told parts p (Err f) s (inl l) = absurd (subst (λ fs. IsLeast pack_place fs f → ⊥) (sym s.missing) (λ k. k) l)
stands_told parts p (Err f) s (inr (none, inl first)) = absurd (no_answer p f (read_package parts) (said-read parts p s.said) (fails-read parts f first))
stands_told parts p (Err f) s (inr (none, inr (q, said, first))) =
    let same = ok_same p q (read_package parts) (said-read parts p s.said) (said-read parts q said) in
    absurd (none_first pack_place (conditions_of parts p) f s.agree (subst (λ x. IsFirst pack_place (conditions_of parts x) f) same first))

-- parts that stand for a package are answered with it
pub stands_only : (parts : List Lent) (p : PackageRecord) → StandsFor parts p → package_from parts ≡ Ok p
stands_only parts p s = stands_told parts p (package_from parts) s (first_told parts)

-- ---- the answer

-- the answer is a package only where the parts stand for it
pub answer_is : (parts : List Lent) (p : PackageRecord) → package_from parts ≡ Ok p → StandsFor parts p
answer_is parts p h = grind (arith, first_told)

-- ---- the infos of the records

same_info : (i j : List ℕ) (r : Result (List ℕ) PackFault) → r ≡ Ok i → r ≡ Ok j → i ≡ j
same_info i j r e h = cc

-- the info among the parts is the one that stands for the items
pub holds-info : {X : Type 0} (parts : List Lent) (tag : ℕ) (g : Grammar X) (info : List ℕ) (items : X) → Says parts tag g items
    → info_in parts tag ≡ Ok info → HoldsComponent parts tag g info items
holds-info parts tag g info items s e = grind (arith, same_info, info-read)

pub holds-if : {R X : Type 0} (view : R → X) (bytes : R → List ℕ) (parts : List Lent) (tag : ℕ) (g : Grammar X) (o : Option R)
    → SaysIf parts tag g (option_map view o) → IfSome o (λ x. info_in parts tag ≡ Ok (bytes x))
    → IfSome o (λ x. HoldsComponent parts tag g (bytes x) (view x))
holds-if view bytes parts tag g x s e = grind (arith, holds-info)

-- ---- parts that are known to stand for a package

pub known-read : (parts : List Lent) (p : PackageRecord) → HavePackage parts → read_package parts ≡ Ok p → StandsFor parts p
known-read parts p have e = subst (StandsFor parts) (ok_same p have.made (read_package parts) e (said-read parts have.made have.stands.said)) have.stands

pub known-accepted : (parts : List Lent) (f : PackFault) → HavePackage parts → read_package parts ≡ Err f → ⊥
known-accepted parts f have e = no_answer have.made f (read_package parts) (said-read parts have.made have.stands.said) e
