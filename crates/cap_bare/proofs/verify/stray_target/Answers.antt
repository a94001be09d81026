use Rattle.std.proofs.Common.{◌≡◌, ◌∙◌, sym, subst, ℤ, Contains, rules}
use Rattle.std.proofs.lemmas.Bool.{false≢true}
use Rattle.std.proofs.lemmas.Int.{to_z-of_z}
use Rattle.std.specs.Int.{w32}
use mir.Val.{SFits}
use Rattle.jc_decode.specs.Listing.{targets}
use Rattle.jc_decode.proofs.Elements.{Contains-slice_get}
use Rattle.cap_bare.specs.Code.{IsTargetPlace}
use Rattle.cap_bare.specs.Window.{IsFromOn}
use Rattle.cap_bare.proofs.Instructions.{fetched-decoded, stands-here}
use Rattle.cap_bare.proofs.Places.{leads-all}
use Rattle.cap_bare.proofs.Near.{leads-from-on}
use Rattle.cap_bare.proofs.verify.stray_target.Goals as goal

pub target-requires-clause-decoded : goal.target-requires-clause-decoded
target-requires-clause-decoded c =
    let code = c.args.code.bytes.now in
    let i = c.args.placed in fetched-decoded code i.place i.insn (stands-here code i c.requires.stands).found

pub is_place-requires-clause-from_on : goal.is_place-requires-clause-from_on
is_place-requires-clause-from_on c =
    let code = c.args.code.bytes.now in
    let bytes = c.are_bytes.ensures in
    let t = c.in-Some.target in
    let fits : SFits w32 t = search rules in
    subst (IsFromOn c.args.farther) (sym (to_z-of_z w32 t fits))
    (leads-from-on code bytes c.args.farther c.args.placed t c.requires.trailing c.requires.stands
    (Contains-slice_get (targets code c.args.placed) 0 t (sym c.in-Some.ensures)))

pub returns-in-Some-clause-some : goal.returns-in-Some-clause-some
returns-in-Some-clause-some c =
    let code = c.args.code.bytes.now in
    let t = c.in-Some.target in
    let fits : SFits w32 t = search rules in
    let same = sym (to_z-of_z w32 t fits) in (
      subst (Contains (targets code c.args.placed)) same (Contains-slice_get (targets code c.args.placed) 0 t (sym c.in-Some.ensures)),
      (λ p. false≢true (sym c.if-not-is_place.true ∙ c.is_place.ensures.1 p)),
    )

pub returns-in_default-clause-none : goal.returns-in_default-clause-none
returns-in_default-clause-none c =
    let code = c.args.code.bytes.now in
    let t = c.in-Some.target in
    let fits : SFits w32 t = search rules in
    leads-all code (IsTargetPlace code) c.args.placed c.requires.stands
    (λ (u : ℤ) first.
    let same : t ≡ u = cc (first, c.in-Some.ensures) in
    subst (IsTargetPlace code) (to_z-of_z w32 t fits ∙ same) (c.is_place.ensures.0 c.if-not-is_place.false))

pub returns-in_default-2-clause-none : goal.returns-in_default-2-clause-none
returns-in_default-2-clause-none c =
    leads-all c.args.code.bytes.now (IsTargetPlace c.args.code.bytes.now) c.args.placed c.requires.stands
    (λ (u : ℤ) first. absurd (cc (first, c.in_default.ensures)))
