use Rattle.std.proofs.Common.{◌≡◌, ◌∙◌, ℕ, ap, arith}
use Rattle.std.specs.Int.{w16, cast_signed, cast_unsigned}
use Rattle.std.proofs.lemmas.Int.{to_z-of_z}
use Rattle.jc_decode.specs.Cases.{offset_place, with_offset}
use Rattle.jc_decode.proofs.Written.{SetCase-offset}
use Rattle.jc_decode.proofs.setting.set_case.Goals as goal

pub offset_place-place-requires : goal.offset_place-place-requires
offset_place-place-requires c =
    let s = SetCase-offset c.args.code.now c.args.at c.args.n c.args.insn c.args.offset c.requires.decoded c.requires.counted c.ranges.offset in
    omega (arith, s.inside)

pub write_offset-requires : goal.write_offset-requires
write_offset-requires c =
    let s = SetCase-offset c.args.code.now c.args.at c.args.n c.args.insn c.args.offset c.requires.decoded c.requires.counted c.ranges.offset in
    omega (arith, s.inside)

pub returns-clause-insn : goal.returns-clause-insn
returns-clause-insn c =
    let s = SetCase-offset c.args.code.now c.args.at c.args.n c.args.insn c.args.offset c.requires.decoded c.requires.counted c.ranges.offset in
    let e : c.write_offset.new.code ≡ with_offset c.args.code.now (offset_place c.args.at c.args.insn c.args.n) c.args.offset =
    c.write_offset.ensures ∙ ap (λ (p : ℕ). with_offset c.args.code.now p (cast_signed w16 (cast_unsigned w16 c.args.offset))) c.offset_place-place.ensures
    ∙ ap (with_offset c.args.code.now (offset_place c.args.at c.args.insn c.args.n)) (to_z-of_z w16 c.args.offset c.ranges.offset) in
    rw e s.insn

pub returns-clause-changed : goal.returns-clause-changed
returns-clause-changed c =
    let s = SetCase-offset c.args.code.now c.args.at c.args.n c.args.insn c.args.offset c.requires.decoded c.requires.counted c.ranges.offset in
    let e : c.write_offset.new.code ≡ with_offset c.args.code.now (offset_place c.args.at c.args.insn c.args.n) c.args.offset =
    c.write_offset.ensures ∙ ap (λ (p : ℕ). with_offset c.args.code.now p (cast_signed w16 (cast_unsigned w16 c.args.offset))) c.offset_place-place.ensures
    ∙ ap (with_offset c.args.code.now (offset_place c.args.at c.args.insn c.args.n)) (to_z-of_z w16 c.args.offset c.ranges.offset) in
    rw e s.changed

pub returns-clause-others : goal.returns-clause-others
returns-clause-others c =
    let s = SetCase-offset c.args.code.now c.args.at c.args.n c.args.insn c.args.offset c.requires.decoded c.requires.counted c.ranges.offset in
    let e : c.write_offset.new.code ≡ with_offset c.args.code.now (offset_place c.args.at c.args.insn c.args.n) c.args.offset =
    c.write_offset.ensures ∙ ap (λ (p : ℕ). with_offset c.args.code.now p (cast_signed w16 (cast_unsigned w16 c.args.offset))) c.offset_place-place.ensures
    ∙ ap (with_offset c.args.code.now (offset_place c.args.at c.args.insn c.args.n)) (to_z-of_z w16 c.args.offset c.ranges.offset) in
    λ k other. rw e (s.others k other)
