-- The package that was made anew makes one world with the libraries, and nothing keeps its runs from beginning.
use Rattle.std.proofs.Common.{arith}
use Rattle.std.proofs.Common.{◌≡◌, ℕ, List, [], ◌∷◌, ◌++◌, length, None, refl, sym, ap, subst, ◌∙◌}
use Rattle.std.specs.Prelude.{◌*◌, suc, Err}
use Rattle.std.proofs.lemmas.List.{length-map}
use Rattle.cap_package.specs.PackageRecord.{PackageRecord}
use Rattle.cap_package.specs.Parts.{Lent}
use Rattle.cap_package.specs.StandsFor.{StandsFor, HavePackage}
use Rattle.jc_base.specs.World.{Linked}
use Rattle.jc_link.specs.World.{IsLinked, LinkTells}
use Rattle.jc_link.specs.LinkEnd.TheVariants as ends
use Rattle.jc_link.specs.LinkFault.{LinkFault}
use Rattle.jc_link.proofs.OneWorld.{one_world, linked_faultless}
use Rattle.law_relink.specs.Last.{and_last}
use Rattle.xf_pack.specs.Transformed.{IsTransformed}
use Rattle.law_alike.specs.Starting.{StartsRefuseAlike, MethodsAreNumberedAlike}
use Rattle.cap_text.specs.Run.{RunRequest}
use Rattle.cap_text.specs.Trial.{trial_text}
use Rattle.capcheck_core.specs.declared.verdict.Verdict.{Verdict}
use Rattle.capcheck_core.specs.Defend.{run_fault, IsDefended}
use Rattle.capcheck_core.specs.Outside.{CardWords}
use Rattle.capcheck_core.specs.Run.{with_budget, IsRun}
use Rattle.capcheck_core.specs.Trial.{steps_each, HasNew, IsTried, IsUntriedKept}
use Rattle.capcheck_core.proofs.WorldComplete.{one_package}

module _ (packages : List PackageRecord) (roles : List ℕ) (w : Linked) (parts : List Lent) (t : IsTransformed packages roles w parts) where
  pub have : HavePackage parts
  have = record { made = t.keeps.made; stands = t.keeps.stands }

  -- the libraries with the package that the parts stand for
  pub with_made : (made : PackageRecord) (all : List PackageRecord) → StandsFor parts made
      → ((ls : List PackageRecord) (source : PackageRecord) → packages ≡ and_last ls source → all ≡ and_last ls made)
      → all ≡ and_last t.keeps.libraries t.keeps.made
  with_made made all stands pushed = grind (arith, one_package parts made t.keeps.made stands t.keeps.stands)

  pub has_new : (all : List PackageRecord) (new : Linked) → all ≡ and_last t.keeps.libraries t.keeps.made → IsLinked all roles new
      → HasNew packages roles w parts new
  has_new all new are linked =
      (t, one_world (and_last t.keeps.libraries t.keeps.made) roles t.keeps.world new t.keeps.linked (subst (λ ps. IsLinked ps roles new) are linked))

  pub never_at_fault : (all : List PackageRecord) (fault : LinkFault) → all ≡ and_last t.keeps.libraries t.keeps.made
      → LinkTells all roles (Err (ends.Fault fault)) → ⊥
  never_at_fault all fault are tells = grind (arith, linked_faultless)

-- ---- the second run

as_many : (ls : List PackageRecord) (p q : PackageRecord) → length (ls ++ p ∷ []) ≡ length (ls ++ q ∷ [])
as_many [] p q = refl
as_many (l ∷ ls) p q = ap suc (as_many ls p q)

pub infos_counted : (ps : List PackageRecord) (roles : List ℕ) (w : Linked) → IsLinked ps roles w → length w.infos ≡ length ps
infos_counted ps roles w linked = ap length linked.lists.infos ∙ length-map ps (λ (p : PackageRecord). p.methods.info)

module _ (packages : List PackageRecord) (roles : List ℕ) (w : Linked) (linked : IsLinked packages roles w) (parts : List Lent) (new : Linked)
    (has : HasNew packages roles w parts new) (alike : StartsRefuseAlike w) (numbered : MethodsAreNumberedAlike w)
  where
    abbrev t : IsTransformed packages roles w parts
    t = has.0

    counted : length new.infos ≡ length w.infos
    counted = grind (arith, length, infos_counted, as_many)

    -- the entry of the new package is a method that begins where its source does
    pub begins : (r : RunRequest) (text : List ℕ) → IsDefended w r text → run_fault new r ≡ None
    begins r text d = grind (arith, counted, length)

-- what is told of both
pub tried : (packages : List PackageRecord) (roles : List ℕ) (w : Linked) (parts : List Lent) (new : Linked) (r : RunRequest) (steps : ℕ) (c : CardWords)
    (source target text : List ℕ) → HasNew packages roles w parts new → steps ≡ steps_each * r.budget → IsDefended w r source
    → IsRun new (with_budget steps r) c target → text ≡ trial_text source target → IsTried packages roles w r c text
tried packages roles w parts new r steps c source target text has count d run prints = record {
  parts = parts;
  made = has.0;
  source = source;
  defended = d;
  target = target;
  run = subst (λ v. IsRun v (with_budget (steps_each * r.budget) r) c target) (sym has.1) (subst (λ n. IsRun new (with_budget n r) c target) count run);
  prints = prints;
}

-- ---- where nothing ran in the card's memory

pub untried_there : (packages : List PackageRecord) (roles : List ℕ) (w : Linked) (r : RunRequest) (c : CardWords) (verdict : Verdict)
    → IsUntriedKept packages roles w r c c verdict
untried_there packages roles w r c x = grind (arith)
