-- The step of a conditional branch or a switch in laid code, beside that of its source.
use Rattle.std.proofs.Common.{◌≡◌, ℕ, zero, suc, List, [], ◌∷◌, length, map}
use Rattle.std.proofs.Common.{refl, sym, ap, ◌∙◌, subst, arith}
use Rattle.std.specs.Prelude.{ℤ, Some, option_map, slice_get}
use Rattle.std.proofs.lemmas.List.{length-map}
use Rattle.std.proofs.lemmas.Option.{slice_get-map, slice_get_within, same_Some}
use Rattle.jc_base.proofs.Lists.{slice_get-some}
use Rattle.jc_decode.specs.declared.insn.Case.{Case}
use Rattle.jc_decode.specs.declared.insn.Placed.{Placed}
use Rattle.jc_decode.specs.declared.symbols.Item.TheVariants.{Branch, Switch}
use Rattle.jc_decode.specs.Cases.{cases}
use Rattle.jc_decode.specs.Forms.{wide}
use Rattle.jc_decode.specs.Listing.{targets}
use Rattle.jc_decode.specs.Symbols.{Step, jump, place_of}
use Rattle.jc_ops.specs.declared.operation.Operation.{Operation}
use Rattle.law_alike.specs.Running.{HaveKeys}
use Rattle.xf_homes.specs.Source.{Source}
use Rattle.xf_emission.specs.Emission.{items}
use Rattle.xf_emission.specs.Jump.{first_label, jump_to, lead, leads, way_of}
use Rattle.law_groups.specs.Laid.{steps_of}
use Rattle.law_groups.specs.Steps.{ItemsStandFrom}
use Rattle.law_groups.proofs.BareForks.{jump_insn, labels_of, lead-at}
use Rattle.law_groups.proofs.Standing.{step-at}

-- what is known of the step
pub record JumpStep (s : Source) (i : Placed) (op : Operation) (n at : ℕ) : Type 0 where
  pub step : Step
  pub found : slice_get (steps_of s) at ≡ Some step
  pub insn_is : step.insn ≡ jump_insn i op
  -- a target of the step is one of the source
  pub named : (k m : ℕ) → slice_get step.targets k ≡ Some m → (t : ℤ) × (slice_get (targets s.method.code i) k ≡ Some t)
  pub leads_to :
      (k m : ℕ) (t : ℤ)
      → slice_get (targets s.method.code i) k ≡ Some t
      → slice_get step.targets k ≡ Some m
      → m ≡ place_of (lead s i.place op n (way_of (targets s.method.code i) t) t) (items s)
  pub keyed : HaveKeys op (map (λ (c : Case). c.key) (cases s.method.code i.place i.insn)) step.keys

leads-count : (s : Source) (p : ℕ) (op : Operation) (n : ℕ) (whole ts : List ℤ) → length (leads s p op n whole ts) ≡ length ts
leads-count s p op n whole [] = refl
leads-count s p op n whole (t ∷ ts) = ap suc (leads-count s p op n whole ts)

module _
    (s : Source) (i : Placed) (op : Operation) (n at : ℕ)
    (st : ItemsStandFrom s at (jump_to i op (labels_of s i op n) ∷ [])) (first : ℤ) (rest : List ℤ)
    (some : targets s.method.code i ≡ first ∷ rest) where
  abbrev label_at : ℕ → ℕ
  label_at l = place_of l (items s)

  -- of one label
  branch-step : jump_to i op (labels_of s i op n) ≡ Branch (wide i.insn.op) (first_label (labels_of s i op n))
      → jump_insn i op ≡ jump (wide i.insn.op)
      → ((keys : List ℤ) → HaveKeys op keys [])
      → JumpStep s i op n at
  branch-step is own keyless =
      let l = label_at (first_label (labels_of s i op n)) in
      let step : Step = record { insn = jump (wide i.insn.op); targets = l ∷ []; keys = [] } in
      record {
        step = step;
        found =
            step-at s at (Branch (wide i.insn.op) (first_label (labels_of s i op n))) [] step []
            (subst (λ x. ItemsStandFrom s at (x ∷ [])) is st) refl;
        insn_is = sym own;
        named = λ k m e. by k m e;
        leads_to = λ k m t h e. to k m t h e;
        keyed = keyless (map (λ (c : Case). c.key) (cases s.method.code i.place i.insn));
      }
    where
      by :
          (k m : ℕ)
          → slice_get (label_at (first_label (labels_of s i op n)) ∷ []) k ≡ Some m
          → (t : ℤ) × (slice_get (targets s.method.code i) k ≡ Some t)
      by zero m e = (first, ap (λ ts. slice_get ts 0) some)
      by (suc k) m e = absurd (let lt = slice_get_within [] k m e in omega (arith, lt))

      to :
          (k m : ℕ) (t : ℤ)
          → slice_get (targets s.method.code i) k ≡ Some t
          → slice_get (label_at (first_label (labels_of s i op n)) ∷ []) k ≡ Some m
          → m ≡ label_at (lead s i.place op n (way_of (targets s.method.code i) t) t)
      to zero m t h e =
          let own_first : first_label (leads s i.place op n (targets s.method.code i) (targets s.method.code i)) ≡ lead s i.place op n
          (way_of (targets s.method.code i) first) first =
          ap (λ ts. first_label (leads s i.place op n (targets s.method.code i) ts)) some in
          let same : first ≡ t = same_Some first t (sym (ap (λ ts. slice_get ts 0) some) ∙ h) in
          sym (same_Some (label_at (first_label (labels_of s i op n))) m e)
          ∙ (ap label_at own_first ∙ ap (λ u. label_at (lead s i.place op n (way_of (targets s.method.code i) u) u)) same)
      to (suc k) m t h e = absurd (let lt = slice_get_within [] k m e in omega (arith, lt))

  -- of a label for each target
  switch-step :
      jump_to i op (labels_of s i op n) ≡ Switch i.insn i.place (labels_of s i op n)
      → jump_insn i op ≡ i.insn
      → ((keys : List ℤ) → HaveKeys op keys keys)
      → JumpStep s i op n at
  switch-step is own keyed_alike =
      let keys = map (λ (c : Case). c.key) (cases s.method.code i.place i.insn) in
      let step : Step = record { insn = i.insn; targets = map label_at (labels_of s i op n); keys = keys } in
      record {
        step = step;
        found = step-at s at (Switch i.insn i.place (labels_of s i op n)) [] step [] (subst (λ x. ItemsStandFrom s at (x ∷ [])) is st) refl;
        insn_is = sym own;
        named = λ k m e. by k m e;
        leads_to = λ k m t h e. to k m t h e;
        keyed = keyed_alike keys;
      }
    where
      by :
          (k m : ℕ)
          → slice_get (map label_at (labels_of s i op n)) k ≡ Some m
          → (t : ℤ) × (slice_get (targets s.method.code i) k ≡ Some t)
      by k m e =
          let lt = slice_get_within (map label_at (labels_of s i op n)) k m e in
          let one = length-map (labels_of s i op n) label_at in
          let two = leads-count s i.place op n (targets s.method.code i) (targets s.method.code i) in
          slice_get-some (targets s.method.code i) k (omega (arith, lt, one, two))

      to :
          (k m : ℕ) (t : ℤ)
          → slice_get (targets s.method.code i) k ≡ Some t
          → slice_get (map label_at (labels_of s i op n)) k ≡ Some m
          → m ≡ label_at (lead s i.place op n (way_of (targets s.method.code i) t) t)
      to k m t h e =
          let l = lead-at s i.place op n k (targets s.method.code i) (targets s.method.code i) t h in
          let is_there : slice_get (map label_at (labels_of s i op n)) k ≡ Some (label_at (lead s i.place op n (way_of (targets s.method.code i) t) t)) =
          slice_get-map label_at (labels_of s i op n) k ∙ ap (option_map label_at) l in
          same_Some m (label_at (lead s i.place op n (way_of (targets s.method.code i) t) t)) (sym e ∙ is_there)

pub jump-step :
    (s : Source) (i : Placed) (op : Operation) (n at : ℕ)
    → ItemsStandFrom s at (jump_to i op (labels_of s i op n) ∷ [])
    → (first : ℤ) (rest : List ℤ)
    → targets s.method.code i ≡ first ∷ rest
    → JumpStep s i op n at
jump-step s i z n at st first rest some = grind (arith, switch-step, branch-step)
