use Rattle.std.proofs.Common.{◌≡◌, ◌<◌, ◌+◌, ◌∷◌, [], drop, length, ap, ◌∙◌, arith, rules}
use Rattle.std.specs.Prelude.{slice_index_or}
use Rattle.std.proofs.lemmas.List.{drop_more}
use Rattle.cap_index.proofs.Entries.{drop_all, entries_next, entries_end, next_short}
use Rattle.cap_index.proofs.index_component.entries.Goals as goal

pub put_method-requires : goal.put_method-requires
put_method-requires c =
    let laid = c.args.laid.now in
    let n = c.methods.method-index in
    let m = c.method-item.result in
    let lt : n < length laid = first_of (omega arith, search rules) in
    let is : slice_index_or laid n m ≡ m = first_of (cc, search rules) in
    let left : drop n laid ≡ m ∷ drop (n + 1) laid = drop_more laid n m lt ∙ ap (λ x. x ∷ drop (n + 1) laid) is in
    next_short laid (drop n laid) (drop (n + 1) laid) m c.methods.entries.items c.methods.invariant left

pub methods-preserved : goal.methods-preserved
methods-preserved c =
    let laid = c.args.laid.now in
    let n = c.methods.method-index in
    let m = c.method-item.result in
    let lt : n < length laid = first_of (omega arith, search rules) in
    let is : slice_index_or laid n m ≡ m = first_of (cc, search rules) in
    let left : drop n laid ≡ m ∷ drop (n + 1) laid = drop_more laid n m lt ∙ ap (λ x. x ∷ drop (n + 1) laid) is in
    entries_next laid (drop n laid) (drop (n + 1) laid) m c.methods.entries.items c.put_method.new.entries.items c.methods.invariant left
    c.in_ok-put_method.ensures

pub returns : goal.returns
returns c =
    let laid = c.args.laid.now in
    let n = c.methods.method-index in
    let end : drop n laid ≡ [] = drop_all n laid (omega arith) in
    entries_end laid (drop n laid) c.methods.entries.items c.methods.invariant end
