use Rattle.std.proofs.Common.{◌≡◌, ◌∙◌, ℕ, Bool, arith, rules, sym, ap, subst, cond, length}
use Rattle.std.specs.Prelude.{FitsSigned, slice_index, pos, ◌-ℤ◌}
use Rattle.std.specs.Int.{w16}
use Rattle.std.proofs.lemmas.Int.{to_z-of_z}
use Rattle.std.proofs.lemmas.Bool.{not-true}
use Rattle.std.proofs.lemmas.Result.{on_ok_weaker}
use Rattle.jc_decode.specs.declared.insn.Insn.{Insn}
use Rattle.jc_decode.specs.declared.symbols.Item.{Item}
use Rattle.jc_decode.specs.Encoding.{encoding}
use Rattle.jc_decode.specs.Forms.{length_of}
use Rattle.jc_decode.specs.Symbols.{IsItem}
use Rattle.xf_layout.specs.Form.{IsForm}
use Rattle.xf_layout.specs.Laid.{Adds}
use Rattle.xf_layout.proofs.Adding.{plain-adds, jump-adds, switch-form, switch-few}
use Rattle.xf_layout.proofs.laying.lay_item.Goals as goal

pub returns-in-Plain : goal.returns-in-Plain
returns-in-Plain c =
    let source = c.args.source.bytes.now in
    let place = slice_index c.args.places.now in
    let i = c.in-Plain.insn in
    let short = c.short_form.result in
    let item = subst (IsItem source c.requires.item.0) c.in-Plain.is c.requires.item.1 in
    let form = subst (λ (x : Item). IsForm x c.args.form) c.in-Plain.is c.requires.form in
    let e = c.short_form.ensures in
    on_ok_weaker c.encode.result
    (λ appended. subst (λ (x : Item). Adds source place x c.args.form c.args.code.now.items c.encode.new.to.items) (sym c.in-Plain.is)
    (plain-adds source place i short c.args.form c.args.code.now.items c.encode.new.to.items (encoding source 0 short) source 0 (ap length_of e.value)
    form appended c.encode.ensures.read_back c.encode.ensures.long (e.same item.0) (e.jumps ∙ not-true _ item.1)))
    c.encode.ensures.appended

pub returns-in-Branch : goal.returns-in-Branch
returns-in-Branch c =
    let source = c.args.source.bytes.now in
    let place = slice_index c.args.places.now in
    let old = c.args.code.now.items in
    let j = c.jump.result in
    let form = subst (λ (x : Item). IsForm x c.args.form) c.in-Branch.is c.requires.form in
    let e = c.jump.ensures in
    let here : c.len.result ≡ length old = omega (arith, c.len.ensures, c.type_inv.code) in
    let fits : FitsSigned w16 c.distance-offset.result = search rules in
    let x : j.x ≡ pos (place c.in-Branch.label) -ℤ pos (length old) =
    ap (λ (k : Insn). k.x) e.value ∙ to_z-of_z w16 c.distance-offset.result fits ∙ c.distance-offset.ensures
    ∙ ap (λ (m : ℕ). pos m -ℤ pos c.len.result) c.at.ensures ∙ ap (λ (m : ℕ). pos (place c.in-Branch.label) -ℤ pos m) here in
    on_ok_weaker c.encode-in-Branch.result
    (λ appended. subst (λ (x : Item). Adds source place x c.args.form old c.encode-in-Branch.new.to.items) (sym c.in-Branch.is)
    (jump-adds source place c.in-Branch.op c.in-Branch.label j c.args.form old c.encode-in-Branch.new.to.items (encoding source 0 j) source 0 form appended
    c.encode-in-Branch.ensures.read_back c.encode-in-Branch.ensures.long (e.long ∙ ap (λ (b : Bool). cond b 3 2) c.is_wide.ensures) e.same e.jumps e.only x))
    c.encode-in-Branch.ensures.appended

pub lay_switch-requires-clause-few : goal.lay_switch-requires-clause-few
lay_switch-requires-clause-few c =
    let item = subst (IsItem c.args.source.bytes.now c.requires.item.0) c.in-Switch.is c.requires.item.1 in
    let form = subst (λ (x : Item). IsForm x c.args.form) c.in-Switch.is c.requires.form in
    switch-few c.in-Switch.insn c.in-Switch.at c.in-Switch.labels c.args.form form item.0 c.requires.few

pub returns-in-Switch : goal.returns-in-Switch
returns-in-Switch c =
    let source = c.args.source.bytes.now in
    let place = slice_index c.args.places.now in
    let old = c.args.code.now.items in
    let new = c.lay_switch.new.code.items in
    let item = subst (IsItem source c.requires.item.0) c.in-Switch.is c.requires.item.1 in
    let form = subst (λ (x : Item). IsForm x c.args.form) c.in-Switch.is c.requires.form in
    on_ok_weaker c.lay_switch.result
    (λ adds. subst (λ (x : Item). Adds source place x c.args.form old new) (sym c.in-Switch.is)
    (switch-form source place c.in-Switch.insn c.in-Switch.at c.in-Switch.labels c.args.form old new form item.0 adds))
    c.lay_switch.ensures
