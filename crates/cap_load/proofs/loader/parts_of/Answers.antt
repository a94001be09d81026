use Rattle.std.proofs.Common.{ℕ, ◌≤◌, length, take, drop, refl, sym, ap, subst, ◌∙◌}
use Rattle.cap_load.proofs.Parting.{next_file, next_absent, next_parts, last_parts}
use Rattle.cap_load.proofs.loader.parts_of.Goals as goal

pub split_at-requires : goal.split_at-requires
split_at-requires c =
    subst (λ (n : ℕ). n ≤ length c.parts.rest.now) (sym c.file_length.ensures)
    (next_file c.args.contents.now c.parts.rest.now c.parts.parts c.parts.invariant.0 c.parts.invariant.1 c.parts.invariant.2 c.parts-test.true).within

pub push-requires : goal.push-requires
push-requires c =
    next_absent c.args.contents.now c.parts.rest.now c.parts.parts c.parts.invariant.0 c.parts.invariant.1 c.parts.invariant.2 c.parts-test.true

pub parts-preserved : goal.parts-preserved
parts-preserved c =
    next_parts c.args.contents.now c.parts.rest.now _ _ c.parts.parts c.parts.invariant.0 _ _ c.parts.invariant.1 c.parts.invariant.2 c.parts-test.true refl
    (c.split_at.ensures.front ∙ ap (λ (n : ℕ). take n c.parts.rest.now) c.file_length.ensures)
    (c.split_at.ensures.back ∙ ap (λ (n : ℕ). drop n c.parts.rest.now) c.file_length.ensures) c.in_ok-push.ensures.ok

pub returns : goal.returns
returns c =
    last_parts c.args.contents.now c.parts.rest.now c.parts.parts c.parts.invariant.0 c.parts.invariant.1 c.parts.invariant.2 c.parts-test.false
