-- No two places of uninitialised objects become one.
use Rattle.std.proofs.Common.{◌≡◌, ℕ, ◌+◌, ◌<◌, ◌≤◌, Bool, true, false, if◌then◌else◌, length, refl, sym, ap, ◌∙◌, subst}
use Rattle.std.proofs.Common.{arith}
use Rattle.std.specs.Prelude.{is_some, nat_lt}
use Rattle.std.proofs.lemmas.Bool.Decides.{nat_tests}
use Rattle.jc_base.specs.World.{Linked}
use Rattle.vm_step.specs.Methods.{code_at}
use Rattle.xf_homes.specs.Source.{Source}
use Rattle.law_homes.proofs.Standing.{rises}
use Rattle.law_groups.specs.Laid.{IsLaidIn, body_at, rename, steps_of}
use Rattle.law_groups.specs.Laws.{RenamesOneToOne}
use Rattle.law_groups.proofs.Context.{here-at, rename-is, steps-are}
use Rattle.law_groups.proofs.Following.{body-inside, some-body, steps-here}
use Rattle.law_groups.proofs.Rising.{groups-rise}

module _ {v w : Linked} {s : Source} {place : ℕ → ℕ} (laid : IsLaidIn v w s place) where
  abbrev last : ℕ
  last = length (steps_of s)

  -- no two steps are laid at one place
  pub places-rise : (a b : ℕ) → a < b → b ≤ last → place a < place b
  places-rise a b lt le = rises (code_at w s.method.number) place (steps_of s) (steps-are laid) a b lt le

  pub places-one : (a b : ℕ) → a ≤ last → b ≤ last → place a ≡ place b → a ≡ b
  places-one a b small low e = by (nat_lt a b) (nat_lt b a) refl refl
    where
      by : (x y : Bool) → nat_lt a b ≡ x → nat_lt b a ≡ y → a ≡ b
      by true y p q =
          let lt : a < b = grind (arith, nat_tests, p) in
          let more = places-rise a b lt low in
          absurd (omega (arith, more, e))
      by false true p q =
          let lt : b < a = grind (arith, nat_tests, q) in
          let more = places-rise b a lt small in
          absurd (omega (arith, more, e))
      by false false p q = grind (arith, nat_tests, p, q)

  -- the bodies of two places are apart
  bodies-apart : (p q : ℕ) → is_some (s.frames p) ≡ true → is_some (s.frames q) ≡ true → p < q → body_at s p < body_at s q
  bodies-apart p q one two lt =
      let i = here-at laid p one in
      let j = here-at laid q two in
      let here : is_some (s.frames i.instruction.place) ≡ true = ap (λ k. is_some (s.frames k)) i.at ∙ one in
      let there : is_some (s.frames j.instruction.place) ≡ true = ap (λ k. is_some (s.frames k)) j.at ∙ two in
      let before = i.at in
      let after = j.at in
      let rise = groups-rise s laid.planned.code i.instruction j.instruction i.stands here j.stands there
      (omega (arith, lt, before, after)) in
      let steps = steps-here laid i.instruction i.op i.stands here i.does in
      let size = steps.size in
      let some = some-body s i.instruction i.op in
      let inner : body_at s i.instruction.place < body_at s j.instruction.place = omega (arith, rise, size, some) in
      subst (λ k. body_at s k < body_at s q) before (subst (λ k. body_at s i.instruction.place < body_at s k) after inner)

  body-within : (p : ℕ) → is_some (s.frames p) ≡ true → body_at s p < last
  body-within p one =
      let i = here-at laid p one in
      let here : is_some (s.frames i.instruction.place) ≡ true = ap (λ k. is_some (s.frames k)) i.at ∙ one in
      subst (λ k. body_at s k < last) i.at (body-inside laid i.instruction i.op i.stands here i.does)

  rename-none : (p : ℕ) → is_some (s.frames p) ≡ false → rename s place p ≡ place last + p
  rename-none p e = ap (λ b. if b then place (body_at s p) else place last + p) e

  one-to-one : (p q : ℕ) → rename s place p ≡ rename s place q → p ≡ q
  one-to-one p q e = by (is_some (s.frames p)) (is_some (s.frames q)) refl refl
    where
      both : is_some (s.frames p) ≡ true → is_some (s.frames q) ≡ true → p ≡ q
      both x y =
          let same : place (body_at s p) ≡ place (body_at s q) =
          sym (rename-is laid p x) ∙ (e ∙ rename-is laid q y) in
          let one = body-within p x in
          let two = body-within q y in
          let steps = places-one (body_at s p) (body_at s q) (omega (arith, one)) (omega (arith, two)) same in
          order (nat_lt p q) (nat_lt q p) refl refl steps
        where
          order : (c d : Bool) → nat_lt p q ≡ c → nat_lt q p ≡ d → body_at s p ≡ body_at s q → p ≡ q
          order true d m n steps =
              let lt : p < q = grind (arith, nat_tests, m) in
              let apart = bodies-apart p q x y lt in
              absurd (omega (arith, apart, steps))
          order false true m n steps =
              let lt : q < p = grind (arith, nat_tests, n) in
              let apart = bodies-apart q p y x lt in
              absurd (omega (arith, apart, steps))
          order false false m n steps = grind (arith, nat_tests, m, n)

      one-some : (a b : ℕ) → is_some (s.frames a) ≡ true → is_some (s.frames b) ≡ false → rename s place a ≡ rename s place b → ⊥
      one-some a b x y same =
          let within = body-within a x in
          let less = places-rise (body_at s a) last within (omega arith) in
          let here = rename-is laid a x in
          let there = rename-none b y in
          omega (arith, less, here, there, same)

      by : (x y : Bool) → is_some (s.frames p) ≡ x → is_some (s.frames q) ≡ y → p ≡ q
      by true true x y = both x y
      by true false x y = absurd (one-some p q x y e)
      by false true x y = absurd (one-some q p y x (sym e))
      by false false x y = grind (arith, rename-none)

pub renames-one-to-one : (v : Linked) → RenamesOneToOne v
renames-one-to-one v w s place laid p q e = one-to-one laid p q e
