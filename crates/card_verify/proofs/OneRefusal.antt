-- A method is refused over an index in one way.
use Rattle.std.proofs.Common.{◌≡◌, ℕ, ◌<◌, ⊎_elim, List, Some, slice_get, sym, ◌∙◌, ap, subst, arith}
use Rattle.std.specs.Prelude.{pos}
use Rattle.std.proofs.lemmas.Bool.{cases_lt}
use Rattle.jc_base.specs.World.{Linked}
use Rattle.jc_decode.specs.declared.insn.Placed.{Placed}
use Rattle.jc_decode.specs.Listing.{listing, targets}
use Rattle.jc_control.specs.Method.{Method, IsMethodOf}
use Rattle.jc_control.specs.FirstFailing.{IsFirstFailing}
use Rattle.jc_control.specs.declared.control.Flaw.{Flaw}
use Rattle.jc_control.specs.Laws.{FirstFlawIsOne}
use Rattle.jc_control.proofs.Elements.{taken-in}
use Rattle.jc_control.proofs.FlawLaws.{first-flaw-refuses}
use Rattle.jc_rules.specs.Demand.{Frame}
use Rattle.jc_rules.specs.FlowLaws.{AreRules}
use Rattle.card_typing.specs.declared.fault.CardFault.{CardFault}
use Rattle.card_typing.specs.declared.fault.CardKind.TheVariants.{NotIndexed}
use Rattle.card_typing.specs.Refusal.{fault_of}
use Rattle.card_typing.proofs.OneRefusal.{state-one}
use Rattle.card_verify.specs.Refusal.{IsListedTarget, LeadsToListed, IsFirstLacking, IsFormKind, IsRefusedOver, over_flaw, over_entry, over_target}
use Rattle.card_verify.specs.Refusal.{over_state}
use Rattle.card_verify.specs.OverIndex.{RefusalIsOneOver}
use Rattle.card_verify.proofs.Denying.{no-bad, lacking-target}

-- ---- the first of several

same-number : (P : ℕ → Type 0) (n k : ℕ) → P n → P k → ((j : ℕ) → j < n → ¬ (P j)) → ((j : ℕ) → j < k → ¬ (P j)) → n ≡ k
same-number P n k here there below under = grind (arith, ⊎_elim, cases_lt)

module _ {A : Type 0} (P : A → Type 0) (xs : List A) (n k : ℕ) (x y : A) (one : IsFirstFailing P xs n x) (other : IsFirstFailing P xs k y) where
  number-one : n ≡ k
  number-one =
      ⊎_elim (λ lt. absurd (one.fails (taken-in P xs n k x other.before lt one.here)))
      (λ le. ⊎_elim (λ lt. absurd (other.fails (taken-in P xs k n y one.before lt other.here))) (λ ge. omega (arith, le, ge)) (cases_lt k n))
      (cases_lt n k)

  failing-one : x ≡ y
  failing-one = let there : slice_get xs k ≡ Some x = subst (λ (j : ℕ). slice_get xs j ≡ Some x) number-one one.here in let e = other.here in cc

lacking-one : (code index : List ℕ) (place other : ℕ) (q r : ℕ) → IsFirstLacking code index place (pos q)
    → IsFirstLacking code index other (pos r) → (place ≡ other) × (q ≡ r)
lacking-one code index place other q r a b =
    let from : a.from ≡ b.from = failing-one (LeadsToListed code index) (listing code) a.number b.number a.from b.from a.instruction b.instruction in
    let lacks = subst (λ (i : Placed). IsFirstFailing (IsListedTarget index) (targets code i) b.target_number (pos r)) (sym from) b.lacks in
    let target : pos q ≡ pos r = failing-one (IsListedTarget index) (targets code a.from) a.target_number b.target_number (pos q) (pos r) a.lacks lacks in
    (sym a.at ∙ ap (λ (i : Placed). i.place) from ∙ b.at, cc)

-- ---- refusals

module _ (w : Linked) (rules : AreRules w) (m : Method) (mo : IsMethodOf w m) (index : List ℕ) where
  abbrev Agrees : CardFault → Frame → CardFault → Frame → Type 0
  Agrees fault kept other held = (fault ≡ other) × (¬ (IsFormKind fault.kind) → kept ≡ held)

  flaw-told : (f : Flaw) → IsFormKind (fault_of f).kind
  flaw-told x = grind (arith)

  module _ (one_flaw : FirstFlawIsOne) where
    refusal-one-of : (fault other : CardFault) (kept held : Frame) → IsRefusedOver w m index fault kept → IsRefusedOver w m index other held
        → Agrees fault kept other held
    refusal-one-of _ _ _ _ (over_flaw f kept first) (over_flaw g held also) =
        (ap fault_of (one_flaw m f g first also), λ of_state. absurd (of_state (flaw-told f)))
    refusal-one-of _ _ _ _ (over_flaw f kept first) (over_entry k held formed bad) = absurd (first-flaw-refuses m f first formed)
    refusal-one-of _ _ _ _ (over_flaw f kept first) (over_target p q held formed up places lacks) = absurd (first-flaw-refuses m f first formed)
    refusal-one-of _ _ _ _ (over_flaw f kept first) (over_state fault held formed whole state) = absurd (first-flaw-refuses m f first formed)
    refusal-one-of _ _ _ _ (over_entry k kept formed bad) (over_flaw f held first) = absurd (first-flaw-refuses m f first formed)
    refusal-one-of _ _ _ _ (over_entry k kept formed bad) (over_entry j held also worse) = grind (arith, same-number)
    refusal-one-of _ _ _ _ (over_entry k kept formed bad) (over_target p q held also up places lacks) = absurd (no-bad m index up places k bad.bad)
    refusal-one-of _ _ _ _ (over_entry k kept formed bad) (over_state fault held also whole state) = grind (arith, no-bad)
    refusal-one-of _ _ _ _ (over_target p q kept formed up places lacks) (over_flaw f held first) = absurd (first-flaw-refuses m f first formed)
    refusal-one-of _ _ _ _ (over_target p q kept formed up places lacks) (over_entry k held also bad) = absurd (no-bad m index up places k bad.bad)
    refusal-one-of _ _ _ _ (over_target p q kept formed up places lacks) (over_target r s held also high all other) =
        let same = lacking-one m.code index p r q s lacks other in (
          ap (λ n. record { place = n; depth = 0; kind = NotIndexed q }) same.0 ∙ ap (λ n. record { place = r; depth = 0; kind = NotIndexed n }) same.1,
          λ of_state. absurd (of_state tt),
        )
    refusal-one-of _ _ _ _ (over_target p q kept formed up places lacks) (over_state fault held also whole state) =
        absurd (lacks.lacks.fails (whole.complete q (lacking-target m index p q lacks)))
    refusal-one-of _ _ _ _ (over_state fault kept formed whole state) (over_flaw f held first) = absurd (first-flaw-refuses m f first formed)
    refusal-one-of _ _ _ _ (over_state fault kept formed whole state) (over_entry k held also bad) = grind (arith, no-bad)
    refusal-one-of _ _ _ _ (over_state fault kept formed whole state) (over_target p q held also up places lacks) =
        absurd (lacks.lacks.fails (whole.complete q (lacking-target m index p q lacks)))
    refusal-one-of _ _ _ _ (over_state fault kept formed whole state) (over_state other held also again is) = grind (arith, state-one)

pub refusal-one-over : (w : Linked) → AreRules w → FirstFlawIsOne → RefusalIsOneOver w
refusal-one-over w rules one_flaw m index fault other kept held mo r s = refusal-one-of w rules m mo index one_flaw fault other kept held r s
