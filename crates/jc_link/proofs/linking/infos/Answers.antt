use Rattle.std.proofs.Common.{rules, ◌≡◌, ◌≤◌, ◌++◌, [], ◌∷◌, ℕ, List, length, ap, sym, subst, ◌∙◌, append_assoc}
use Rattle.std.specs.Prelude.{All}
use Rattle.std.proofs.lemmas.List.Elements.{All-push}
use Rattle.cap_package.specs.PackageRecord.{PackageRecord}
use Rattle.cap_package.specs.PackagesLeft.{packages_left}
use Rattle.jc_resolve.specs.Named.{infos_of}
use Rattle.jc_link.proofs.linking.infos.Goals as goal

pub packages-preserved : goal.packages-preserved
packages-preserved c =
    let others = packages_left c.next.new.self in
    let p = c.in-Some.package.now in
    let is : packages_left c.packages.package-iterator ≡ p ∷ others = c.in-Some.ensures.steps in
    let pushed : c.push.new.self ≡ c.packages.infos ++ p.methods.info ∷ [] = search rules in
    let small : length p.methods.info ≤ 65535 = search rules in
    record {
      are =
          ap (λ (xs : List (List ℕ)). xs ++ infos_of others) pushed
          ∙ append_assoc c.packages.infos (p.methods.info ∷ []) (infos_of others)
          ∙ ap (λ (left : List PackageRecord). c.packages.infos ++ infos_of left) (sym is)
          ∙ c.packages.invariant.are;
      few = subst (λ (xs : List (List ℕ)). All (λ info. length info ≤ 65535) xs) (sym pushed)
          (All-push (λ info. length info ≤ 65535) c.packages.infos p.methods.info c.packages.invariant.few small);
    }
