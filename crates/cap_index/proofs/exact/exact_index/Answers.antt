use Rattle.std.proofs.Common.{◌≡◌, false, length, ap, ◌∙◌, arith, rules}
use Rattle.std.specs.Prelude.{replicate}
use Rattle.jc_decode.specs.Listing.{listing}
use Rattle.jc_control.specs.Flags.{flag}
use Rattle.cap_index.specs.Marking.{all_marked, flagged_from}
use Rattle.cap_index.proofs.Flagging.{exact_of_flags, flags_long}
use Rattle.cap_index.proofs.exact.exact_index.Goals as goal

pub flagged-requires : goal.flagged-requires
flagged-requires c =
    let code = c.args.code.bytes.now in
    let long = flags_long code (flag c.in_ok-places.places) c.mark_all.new.flags.items c.in_ok-flags.flags.items (listing code) c.mark_all.ensures in
    let old : length c.in_ok-flags.flags.items ≡ length code = search rules in
    let same : length c.deref.result.now ≡ length c.mark_all.new.flags.items = ap length c.deref.ensures.value in
    omega (arith, c.requires)

pub returns-clause-exact : goal.returns-clause-exact
returns-clause-exact c =
    let code = c.args.code.bytes.now in
    let place = flag c.in_ok-places.places in
    let old : c.in_ok-flags.flags.items ≡ replicate (length code) false = search rules in
    let fs : c.mark_all.new.flags.items ≡ all_marked code place (replicate (length code) false) (listing code) = c.mark_all.ensures
    ∙ ap (λ xs. all_marked code place xs (listing code)) old in
    exact_of_flags code c.in_ok-places.places c.mark_all.new.flags.items c.in_ok-index.index.items c.in_ok-places.ensures
    (c.instructions_are_listed.ensures code) fs (c.in_ok-index.ensures.places ∙ ap (flagged_from 0) c.deref.ensures.value)

pub returns-clause-few : goal.returns-clause-few
returns-clause-few c =
    let code = c.args.code.bytes.now in
    let long = flags_long code (flag c.in_ok-places.places) c.mark_all.new.flags.items c.in_ok-flags.flags.items (listing code) c.mark_all.ensures in
    let old : length c.in_ok-flags.flags.items ≡ length code = search rules in
    let same : length c.deref.result.now ≡ length c.mark_all.new.flags.items = ap length c.deref.ensures.value in
    omega (arith, c.in_ok-index.ensures.few)
