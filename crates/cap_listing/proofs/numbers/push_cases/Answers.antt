use Rattle.std.proofs.Common.{◌∙◌, ◌++◌, ◌+◌, ℕ, List, drop, ap, sym, arith}
use Rattle.jc_decode.specs.Cases.{cases}
use Rattle.cap_listing.specs.Numbers.{shown, shown_cases}
use Rattle.cap_listing.proofs.Few.{case-shown, none-shown-after, all-shown}
use Rattle.cap_listing.proofs.numbers.push_cases.Goals as goal
use Rattle.jc_decode.proofs.FewTargets.{cases-few}

pub cases-preserved : goal.cases-preserved
cases-preserved c =
    let cs = cases c.args.code.bytes.now c.args.at c.args.insn in
    let rest = shown (shown_cases c.args.kind c.args.place (drop (c.cases.n + 1) cs)) in
    ap (λ (o : List ℕ). o ++ rest) c.in_ok-push_case-in-Some.ensures
    ∙ case-shown c.args.kind c.args.place cs c.cases.n c.in-Some.found c.cases.out.items (sym c.in-Some.ensures) ∙ c.cases.invariant

pub returns-in-None : goal.returns-in-None
returns-in-None c =
    let cs = cases c.args.code.bytes.now c.args.at c.args.insn in
    none-shown-after c.args.kind c.args.place cs c.cases.n c.cases.out.items (sym c.in-None.ensures) ∙ c.cases.invariant

pub returns : goal.returns
returns c =
    let cs = cases c.args.code.bytes.now c.args.at c.args.insn in
    let few = cases-few c.args.code.bytes.now c.args.at c.args.insn c.requires.decodes in
    all-shown c.args.kind c.args.place cs c.cases.n c.cases.out.items (omega (arith, few, c.requires.short, c.cases-test.false)) ∙ c.cases.invariant
