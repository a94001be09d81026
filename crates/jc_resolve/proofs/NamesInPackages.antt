-- Names of packages name classes and methods of theirs alone.
use Rattle.std.proofs.Common.{◌≡◌, ℕ, List, Result, Ok, Err, sym, subst, arith}
use Rattle.std.specs.Prelude.{All, IfOk, slice_index}
use Rattle.std.proofs.lemmas.List.{length-map}
use Rattle.cap_package.specs.PackageRecord.{PackageRecord}
use Rattle.jc_resolve.specs.declared.fault.LinkEnd.{LinkEnd}
use Rattle.jc_resolve.specs.Conditions.{conditions}
use Rattle.first_fault.specs.First.{AllEmpty}
use Rattle.jc_resolve.specs.Named.{IsAgreed, IsSized, AreNamed, infos_of}
use Rattle.jc_resolve.specs.NamedClasses.{named_classes}
use Rattle.jc_resolve.specs.NamedMethods.{HasFewHandlers, named_methods}
use Rattle.jc_resolve.specs.Due.{IsDue}
use Rattle.jc_resolve.specs.Names.{NamesRecord, named, names_of}
use Rattle.jc_resolve.proofs.ClassFacts.{classes-named}
use Rattle.jc_resolve.proofs.NamedMethodLaws.{methods-named}
use Rattle.jc_resolve.proofs.NamesTold.{names_told}
use Rattle.jc_resolve.specs.OwnPlaces.{HaveOwnPlaces}
use Rattle.jc_resolve.proofs.MethodPlaces.{own_places}
use Rattle.jc_resolve.proofs.Totals.{named_methods_many}

names_right : (ps : List PackageRecord) (roles : List ℕ) → All IsAgreed ps → All HasFewHandlers ps → AllEmpty (conditions ps)
    → All IsSized (named_classes ps (slice_index roles 0))
    → AreNamed (infos_of ps) (slice_index roles 0) (named_classes ps (slice_index roles 0)) (named_methods ps roles)
names_right ps roles agreed few none sized = grind (arith, named_methods_many, classes-named, methods-named, length-map)

answer_named : (ps : List PackageRecord) (roles : List ℕ) (n : NamesRecord) → names_of ps roles ≡ Ok n → named ps roles ≡ n
unfolding names_of
answer_named ps roles n h = grind (arith)

-- the names that are answered, where the parts of the packages agree, are right
pub answer_right : (ps : List PackageRecord) (roles : List ℕ) (answer : Result NamesRecord LinkEnd) → IsDue (names_of ps roles) answer
    → IfOk answer (λ n. All IsSized n.classes) → IfOk answer (λ n. All IsAgreed ps) → IfOk answer (λ n. All HasFewHandlers ps)
    → IfOk answer (λ n. AreNamed (infos_of ps) (slice_index roles 0) n.classes n.methods)
answer_right ps roles (Ok n) h sized agreed few =
    let e = answer_named ps roles n h in
    subst (λ (m : NamesRecord). AreNamed (infos_of ps) (slice_index roles 0) m.classes m.methods) e
    (names_right ps roles agreed few (names_told ps roles (Ok n) h) (subst (λ (m : NamesRecord). All IsSized m.classes) (sym e) sized))
answer_right ps roles (Err e) h sized agreed few = tt

-- and have places and numbers of their own
pub answer_apart : (ps : List PackageRecord) (roles : List ℕ) (answer : Result NamesRecord LinkEnd) → IsDue (names_of ps roles) answer
    → IfOk answer (λ n. All IsAgreed ps) → IfOk answer (λ n. HaveOwnPlaces ps n.methods)
answer_apart ps roles z h agreed = grind (arith, answer_named, own_places)
