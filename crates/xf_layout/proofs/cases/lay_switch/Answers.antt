use Rattle.std.proofs.Common.{◌≡◌, ◌-◌, ◌∙◌, ◌<◌, ◌≤◌, ◌++◌, List, ℕ, length, get_or, take, drop, arith, rules, sym, ap, subst}
use Rattle.std.proofs.Common.{cond}
use Rattle.std.specs.Prelude.{FitsSigned, slice_index, is_ok, pos, ◌-ℤ◌}
use Rattle.std.specs.Int.{w16}
use Rattle.std.proofs.lemmas.Int.{to_z-of_z}
use Rattle.std.proofs.lemmas.List.{length-drop}
use Rattle.std.proofs.lemmas.Option.{get_or_from_slice_get}
use Rattle.std.proofs.Math.Seq.{drop-cons}
use Rattle.std.proofs.lemmas.List.Elements.{All-drop, All-same}
use Rattle.jc_decode.specs.Decoding.{decoded}
use Rattle.jc_decode.specs.declared.insn.Insn.{Insn}
use Rattle.jc_decode.specs.Cases.{cases, is_switch}
use Rattle.jc_decode.specs.Encoding.{encoding, ReadsBack}
use Rattle.jc_decode.specs.Laws.{BytesReadBack}
use Rattle.xf_layout.specs.Laid.{led}
use Rattle.xf_layout.proofs.Whole.{back, appended-ok, rest-is}
use Rattle.xf_layout.proofs.Adding.{decoded-alone, cases-alone, switch-adds}
use Rattle.xf_layout.proofs.cases.lay_switch.Goals as goal

pub lead_cases-requires-clause-short : goal.lead_cases-requires-clause-short
lead_cases-requires-clause-short c =
    let made = encoding c.args.source.bytes.now c.args.at c.with_default-switch.result in
    let bytes = c.in_ok-encode.ensures.appended ∙ ap (λ (xs : List ℕ). xs ++ made) c.new-bytes.ensures.items in
    let long = c.in_ok-encode.ensures.long ∙ c.with_default-switch.ensures.long in
    omega (arith, ap length bytes, long, c.requires.few, ap length c.as_mut_slice.ensures.value)

pub lead_cases-requires-clause-decoded : goal.lead_cases-requires-clause-decoded
lead_cases-requires-clause-decoded c =
    let source = c.args.source.bytes.now in
    let s = c.with_default-switch.result in
    let made = encoding source c.args.at s in
    let bytes = c.in_ok-encode.ensures.appended ∙ ap (λ (xs : List ℕ). xs ++ made) c.new-bytes.ensures.items in
    let long = c.in_ok-encode.ensures.long ∙ c.with_default-switch.ensures.long in
    let len = long ∙ sym (ap (λ (i : Insn). i.len) c.with_default-switch.ensures.value) in
    ap (λ (ys : List ℕ). decoded ys 0) (c.as_mut_slice.ensures.value ∙ bytes)
    ∙ decoded-alone source c.args.at s made c.in_ok-encode.ensures.read_back len

pub lead_cases-requires-clause-count : goal.lead_cases-requires-clause-count
lead_cases-requires-clause-count c =
    let source = c.args.source.bytes.now in
    let s = c.with_default-switch.result in
    let made = encoding source c.args.at s in
    let bytes = c.in_ok-encode.ensures.appended ∙ ap (λ (xs : List ℕ). xs ++ made) c.new-bytes.ensures.items in
    let long = c.in_ok-encode.ensures.long ∙ c.with_default-switch.ensures.long in
    let len = long ∙ sym (ap (λ (i : Insn). i.len) c.with_default-switch.ensures.value) in
    let same = ap (λ (ys : List ℕ). cases ys 0 s) (c.as_mut_slice.ensures.value ∙ bytes)
    ∙ cases-alone source c.args.at s made c.in_ok-encode.ensures.read_back len ∙ c.with_default-switch.ensures.cases in
    let slice = c.as_slice.result.now in
    omega (arith, ap length (rest-is slice), length-drop 1 slice, ap length c.as_slice.ensures, c.requires.count, ap length same)

pub lead_cases-requires-clause-few : goal.lead_cases-requires-clause-few
lead_cases-requires-clause-few c =
    let slice = c.as_slice.result.now in
    let few = c.with_default-switch.ensures.few in
    omega (arith, ap length (rest-is slice), length-drop 1 slice, ap length c.as_slice.ensures, c.requires.count, few)

pub lead_cases-requires-clause-reached : goal.lead_cases-requires-clause-reached
lead_cases-requires-clause-reached c =
    let rest = rest-is c.as_slice.result.now ∙ ap (drop 1) c.as_slice.ensures in
    let labels = c.args.labels.now in
    let is_reached = λ (l : ℕ). slice_index c.args.places.now l ≤ 32767 in
    All-same is_reached _ (drop 1 labels) rest (All-drop is_reached 1 labels c.requires.reached)

pub returns : goal.returns
returns c =
    let source = c.args.source.bytes.now in
    let place = slice_index c.args.places.now in
    let at = c.args.at in
    let insn = c.args.insn in
    let labels = c.args.labels.now in
    let old = c.args.code.now.items in
    let s = c.with_default-switch.result in
    let value = c.with_default-switch.ensures.value in
    let made = encoding source at s in
    let n = c.lead_cases.new.bytes in
    let buffer = c.encode.new.to in
    let slice : c.as_mut_slice.result.now ≡ buffer.items = c.as_mut_slice.ensures.value in
    let bytes = c.in_ok-encode.ensures.appended ∙ ap (λ (xs : List ℕ). xs ++ made) c.new-bytes.ensures.items in
    let encoded = c.in_ok-encode.ensures.long ∙ c.with_default-switch.ensures.long in
    let kept : length n ≡ length buffer.items = omega (arith, c.lead_cases.auto.bytes, ap length slice) in
    let same = back n buffer.items buffer.len kept (omega (arith, buffer.ok.0)) in
    let long : length n ≡ insn.len = omega (arith, kept, ap length bytes, encoded) in
    let len : s.len ≡ insn.len = ap (λ (i : Insn). i.len) value in
    let reads : ReadsBack n 0 s n =
    subst BytesReadBack (c.deref.ensures.value ∙ same) c.bytes_read_back.ensures s c.lead_cases.ensures.decoded (len ∙ sym long) in
    let few = take (length c.as_slice.result.now - 1) (drop 1 c.as_slice.result.now) in
    let rest : few ≡ drop 1 labels = rest-is c.as_slice.result.now ∙ ap (drop 1) c.as_slice.ensures in
    let alone = ap (λ (ys : List ℕ). cases ys 0 s) (slice ∙ bytes)
    ∙ cases-alone source at s made c.in_ok-encode.ensures.read_back (encoded ∙ sym len) ∙ c.with_default-switch.ensures.cases in
    let here : c.len-here.result ≡ length old = omega (arith, c.len-here.ensures, c.type_inv.code) in
    let fits : FitsSigned w16 c.distance-offset.result = search rules in
    let first = get_or labels 0 0 in
    let first_is : c.at-2.result ≡ place first =
    c.at-2.ensures ∙ ap place (sym (get_or_from_slice_get labels 0 c.at.result.now 0 c.at.ensures)) in
    let x : s.x ≡ pos (place first) -ℤ pos (length old) =
    ap (λ (i : Insn). i.x) value ∙ to_z-of_z w16 c.distance-offset.result fits ∙ c.distance-offset.ensures
    ∙ ap (λ (m : ℕ). pos m -ℤ pos c.len-here.result) first_is ∙ ap (λ (m : ℕ). pos (place first) -ℤ pos m) here in
    let given = cases c.as_mut_slice.result.now 0 s in
    let led_so : cases n 0 s ≡ led place (length old) (drop 1 labels) (cases source at insn) =
    c.lead_cases.ensures.cases ∙ ap (λ (h : ℕ). led place h few given) here
    ∙ ap (λ (ls : List ℕ). led place (length old) ls given) rest ∙ ap (led place (length old) (drop 1 labels)) alone in
    let count : length (drop 1 labels) ≡ length (cases source at insn) = omega (arith, length-drop 1 labels, c.requires.count) in
    let switch = ap (λ (i : Insn). is_switch i.op) value ∙ c.requires.switch in
    let new = c.extend_from_slice.new.self.items in
    let some : 0 < length labels = omega (arith, c.requires.count) in
    let appended = c.extend_from_slice.ensures.items
    ∙ ap (λ (xs : List ℕ). cond (is_ok c.extend_from_slice.result) (old ++ xs) old) (c.deref-2.ensures.value ∙ same) in
    appended-ok c.extend_from_slice.result new old n appended
    (λ e. switch-adds source place insn at labels s old new n first (drop 1 labels) (drop-cons labels 0 0 some) e long reads
    c.with_default-switch.ensures.same switch x led_so count)
