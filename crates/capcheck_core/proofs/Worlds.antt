-- Where no world is made, by the end of the linking or since there was no memory.
use Rattle.std.proofs.Common.{arith}
use Rattle.std.proofs.Common.{ℕ, List, [], ◌∷◌, refl, All}
use Rattle.std.specs.Prelude.{Err}
use Rattle.std.proofs.lemmas.List.Elements.{All-head, All-tail}
use Rattle.cap_package.specs.Parts.{Lent}
use Rattle.cap_package.specs.PackageRecord.{PackageRecord}
use Rattle.cap_package.specs.StandsFor.{HavePackage}
use Rattle.jc_link.specs.World.{LinkTells}
use Rattle.jc_link.specs.LinkEnd.{LinkEnd}
use Rattle.jc_link.specs.LinkEnd.TheVariants as ends
use Rattle.capcheck_core.specs.declared.verdict.Verdict.{Verdict}
use Rattle.capcheck_core.specs.declared.verdict.Verdict.TheVariants.{Memory}
use Rattle.capcheck_core.specs.Outside.{Outside, Untouched}
use Rattle.capcheck_core.specs.World.{Own, IsUnlinkedBy, OfPackages, OverPackages, OverWorld}

untouched : (o : Outside) → Untouched o o
untouched o = record { folders = refl; card = refl }

pub without_world : (own : Own) (packages : List PackageRecord) (roles : List ℕ) (o : Outside) (end : LinkEnd) (verdict : Verdict)
    → LinkTells packages roles (Err end) → IsUnlinkedBy end verdict → OverPackages own packages roles o o verdict
without_world own packages roles o x x2 tells says = grind (arith, untouched)

have_all : (parts : List (List Lent)) → All HavePackage parts → OfPackages parts (λ _. Unit {0})
have_all [] all = record { packages = []; stand = tt {0}; holds = tt {0} }
have_all (lent ∷ parts) all =
    let first = All-head HavePackage lent parts all in
    let rest = have_all parts (All-tail HavePackage lent parts all) in
    record { packages = first.made ∷ rest.packages; stand = (first.stands, rest.stand); holds = tt {0} }

pub without_memory : (own : Own) (parts : List (List Lent)) (roles : List ℕ) (o : Outside) → All HavePackage parts
    → OverWorld own parts roles o o Memory
without_memory own parts roles o all = grind (arith, have_all parts all, untouched o)
