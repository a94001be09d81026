-- A method that is kept is one renamed by the identity.
use Rattle.std.proofs.Common.{◌≡◌, ℕ, suc, List, [], ◌∷◌, map, refl, sym, ap, ◌∙◌, subst, arith, All}
use Rattle.std.specs.Prelude.{ℤ, pos, negsuc, Ok}
use Rattle.std.proofs.lemmas.Bool.{cases_lt}
use Rattle.std.proofs.lemmas.List.{map-id}
use Rattle.jc_base.specs.World.{Linked}
use Rattle.jc_decode.specs.declared.insn.Placed.{Placed}
use Rattle.jc_decode.specs.Listing.{targets}
use Rattle.jc_control.specs.Method.{Method}
use Rattle.jc_control.specs.WellFormed.{IsTargetPlace, IsWellFormed}
use Rattle.jc_ops.specs.declared.operation.Operation.{Operation}
use Rattle.jc_ops.specs.declared.operation.Operation.TheVariants as ops
use Rattle.jc_ops.specs.Alike.{IsAlike, equal}
use Rattle.jc_rules.specs.Footprint.{registers_asked, registers_read}
use Rattle.jc_rules.specs.Rule.{demands}
use Rattle.vm_step.specs.Settled.{place_number}
use Rattle.law_alike.specs.Alike.{renamed_new}
use Rattle.law_laid.specs.Apart.{IsSameBut}
use Rattle.law_laid.specs.Laws.{OperationsAreKept, DemandsAreKept}
use Rattle.law_share.specs.Live.{Operates}
use Rattle.law_share.specs.Renamed.{AreMatched, BeginsAlike}
use Rattle.law_share.specs.Laws.{KeptAreRenamed}

new-same : (a : Operation) → renamed_new (λ p. p) a ≡ a
new-same (ops.New p class) = refl
new-same _ = refl

place-same : (code : List ℕ) (t : ℤ) → IsTargetPlace code t → t ≡ pos (place_number t)
place-same code (pos p) h = refl
place-same code (negsuc n) h = absurd h

targets-same : (code : List ℕ) (ts : List ℤ) → All (IsTargetPlace code) ts → ts ≡ map (λ t. pos (place_number t)) ts
targets-same code [] all = refl
targets-same code (t ∷ ts) all =
    ap (λ u. u ∷ ts) (place-same code t (all 0 t (omega arith)))
    ∙ ap (λ us. pos (place_number t) ∷ us) (targets-same code ts (λ k d lt. all (suc k) d (omega (arith, lt))))

module _ (v w : Linked) (operations : OperationsAreKept) (kept : DemandsAreKept) (m : Method) (same : IsSameBut v w) (formed : IsWellFormed m) where
  matched : (i : Placed) (a : Operation) → Operates v m i a → AreMatched v w m m (λ p. p) (λ x. x) i a i a
  matched i a o =
      let asked : demands v a ≡ demands w a = kept v w a same in
      record {
        operates = record { stands = o.stands; resolves = operations v w m.rec m.rec i.place i.insn (Ok a) same refl o.resolves };
        at = refl;
        next = refl;
        falls_alike = refl;
        jumps_alike = refl;
        alike = subst (λ b. IsAlike b a) (sym (new-same a)) equal;
        keys = refl;
        leads = targets-same m.code (targets m.code i) (formed.targets i o.stands);
        reads = ap registers_read (sym asked) ∙ sym (map-id (registers_read (demands v a)));
        asked = λ le. (let e = ap registers_asked asked in omega (arith, le, e));
        writes = λ k lt. refl;
        apart = λ q x leads live other h. other h;
      }

  begins : (x : ℕ) → BeginsAlike m m (λ y. y) x
  begins x = grind (arith, cases_lt)

pub kept-are-renamed : (v : Linked) → OperationsAreKept → DemandsAreKept → KeptAreRenamed v
kept-are-renamed v operations demands_kept w m same is formed k = record {
  target = m;
  is_target = record { rec = k.second; code = is.code ∙ sym k.code; filled = is.filled };
  number = refl;
  formed = formed;
  nargs = refl;
  room = refl;
  begins = refl;
  one_to_one = λ p q e. e;
  places = λ p here. here;
  start = λ x live. begins v w operations demands_kept m same formed x;
  matched = λ i a o. record { other = i; new = a; are = matched v w operations demands_kept m same formed i a o };
  whole = λ j listed. record { source = j; stands = listed; at = refl };
  handler = λ h. h;
  catches = grind (arith, map-id);
}
