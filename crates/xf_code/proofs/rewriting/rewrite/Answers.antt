use Rattle.std.proofs.Common.{◌≡◌, ◌<◌, ◌≤◌, All, Some, arith, option_map, slice_get, rules}
use Rattle.jc_base.specs.World.{code_of}
use Rattle.jc_control.specs.ControlFlow.{IsControlFlow}
use Rattle.jc_control.specs.Method.{Method, IsMethodOf, method_in}
use Rattle.jc_decode.specs.Symbols.{IsItem, plain_size}
use Rattle.jc_flow.specs.Infer.{AreDerived}
use Rattle.jc_rules.specs.Typing.{state_at}
use Rattle.jc_flow.proofs.Answered.{number-below}
use Rattle.xf_homes.specs.Answer.{IsTypingOf}
use Rattle.xf_homes.specs.Order.{AreHomes, register_sum}
use Rattle.jc_control.proofs.OwnMethod.{of-method, to-method}
use Rattle.xf_homes.proofs.Answered.{flaw-never}
use Rattle.xf_emission.specs.Emission.{AreSymbolsOf, IsPlainSize}
use Rattle.xf_emission.specs.Live.{KeepsLive}
use Rattle.xf_emission.specs.Numbers.{HasNumbers}
use Rattle.law_groups.specs.Matching.{MatchesMethod}
use Rattle.law_rewritten_typing.specs.Typed.{HasTypingByHomes}
use Rattle.xf_code.proofs.Numbers.{has-numbers, has-size}
use Rattle.xf_code.proofs.Sources.{live-by, ranged-by, items-by, small-by, matches-by, typed-by}
use Rattle.xf_code.proofs.Subjects.{is-subject}
use Rattle.xf_code.proofs.rewriting.rewrite.Goals as goal

pub unreachable-requires : goal.unreachable-requires
unreachable-requires c =
    flaw-never c.flaws_decide.ensures c.args.world.now c.args.typing.now (method_in c.args.world.now c.args.method) c.in-Err-Flawed.field-0
    c.in-Err-Flawed.field-0-0 c.in-Err-Flawed.field-0-is
    c.requires.typing c.in-Err-Flawed.ensures.flawed

pub code-requires : goal.code-requires
code-requires c = number-below (λ m. 0 < m.code_len) c.args.world.now.methods c.args.method c.requires.code

pub rewritten-requires-clause-subject : goal.rewritten-requires-clause-subject
rewritten-requires-clause-subject c =
    let w = c.args.world.now in
    let n = c.args.method in
    let rec = c.method-rec.result.now in
    let code = c.of-code.result.bytes.now in
    let m : Method = record { number = n; rec = rec; code = code } in
    let bytes : option_map (code_of w.infos) (slice_get w.methods n) ≡ Some code = cc in
    let mo : IsMethodOf w m = of-method w n rec code c.method-rec.ensures.is bytes (IsMethodOf w) c.in-Ok.ensures.known in
    let typed : IsTypingOf w m c.args.typing.now = of-method w n rec code c.method-rec.ensures.is bytes (λ m. IsTypingOf w m c.args.typing.now)
    c.requires.typing in
    is-subject _ mo c.method-rec.ensures.links typed.least.typing.formed (c.instructions_are_listed.ensures code)

pub returns : goal.returns
returns c =
    let w = c.args.world.now in
    let n = c.args.method in
    let rec = c.method-rec.result.now in
    let code = c.of-code.result.bytes.now in
    let t = c.args.typing.now in
    let homes = c.args.homes.now in
    let control = c.in-Ok.control in
    let symbols = c.in_ok-symbols.symbols in
    let e = c.in_ok-symbols.ensures in
    let m : Method = record { number = n; rec = rec; code = code } in
    let bytes : option_map (code_of w.infos) (slice_get w.methods n) ≡ Some code = cc in
    let own = λ (P : Method → Type 0). of-method w n rec code c.method-rec.ensures.is bytes P in
    let whole = λ (P : Method → Type 0). to-method w n rec code c.method-rec.ensures.is bytes P in
    let mo : IsMethodOf w m = own (IsMethodOf w) c.in-Ok.ensures.known in
    let flow : IsControlFlow m control = own (λ m. IsControlFlow m control) c.in-Ok.ensures.formed in
    let typed : IsTypingOf w m t = own (λ m. IsTypingOf w m t) c.requires.typing in
    let derived : AreDerived w m t = own (λ m. AreDerived w m t) c.requires.derived in
    let are : AreHomes w m (state_at t) homes = own (λ m. AreHomes w m (state_at t) homes) c.requires.homes in
    let placed = c.instructions_are_placed.ensures m typed.least.typing.formed in
    let listed = c.instructions_are_listed.ensures code in
    let links = c.method-rec.ensures.links in
    let ab = c.are_bytes.ensures in
    let few : register_sum homes ≤ 255 = search rules in
    let is : AreSymbolsOf w m (state_at t) homes symbols = record { leaders = control.leaders; marked = flow.leaders; are = e } in
    record {
      symbols = whole (λ m. AreSymbolsOf w m (state_at t) homes symbols) is;
      typed = whole (λ m. HasTypingByHomes w m homes symbols)
          (typed-by w m t control homes typed flow placed listed mo links ab symbols e c.rewritten_is_typed.ensures derived are few);
      matches = whole (λ m. MatchesMethod w m (state_at t) homes symbols)
          (matches-by w m t control homes typed flow placed listed mo links ab c.rewritten_matches.ensures derived are few
          (omega (arith, c.is_a_byte.ensures, c.if-rec.false)) symbols e);
      live = whole (λ m. KeepsLive m m.rec.handlers symbols.ranges)
          (live-by w m t control homes typed flow placed listed mo links ab symbols e c.live_are_kept.ensures);
      items = whole (λ m. All (IsItem m.code symbols.items) symbols.items)
          (items-by w m t control homes typed flow placed listed mo links ab symbols e c.items_suit.ensures few);
      ranged = ranged-by w m t control homes typed flow placed listed mo links ab symbols e c.ranges_stand.ensures;
      numbers = whole (λ m. HasNumbers m.rec homes symbols) (has-numbers w m (state_at t) homes are symbols is);
      size = whole (λ m. IsPlainSize w m (state_at t) homes (plain_size symbols.items)) (has-size w m (state_at t) homes symbols is);
      small = small-by w m t control homes typed flow placed listed mo links ab symbols e c.plain_size_fits.ensures are few c.is_a_byte.ensures;
      limit = search rules;
    }
