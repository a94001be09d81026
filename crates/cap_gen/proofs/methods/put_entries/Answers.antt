use Rattle.std.proofs.Common.{◌≡◌, ◌∙◌, ◌++◌, ◌%◌, ℕ, List, OnOk, sym, ap, subst, arith, rules}
use Rattle.std.proofs.lemmas.List.{append-nil}
use Rattle.cap_gen.proofs.ByKind.{no_entries, entries_steps}
use Rattle.cap_gen.proofs.methods.put_entries.Goals as goal

pub returns-then-number-ne2 : goal.returns-then-number-ne2
returns-then-number-ne2 c =
    sym (append-nil c.args.out.now.items)
    ∙ ap (λ (xs : List ℕ). c.args.out.now.items ++ xs) (sym (no_entries c.args.number (λ e. c.if-number-ne2.true e)))

pub returns : goal.returns
returns c =
    let e : c.args.number % 4 ≡ 2 = first_of (cc, omega arith, search rules) in
    let path = entries_steps c.args.number c.method_offset-code.result c.args.out.now.items c.put_numbers.new.out.items e c.method_offset-code.ensures
    c.in_ok-put_numbers.ensures in
    subst (λ (ys : List ℕ). OnOk c.put_numbers-2.result (c.put_numbers-2.new.out.items ≡ ys)) path c.put_numbers-2.ensures
