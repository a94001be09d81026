-- The card typing of a rewritten method, where its labels are asked for as they are named.
use Rattle.std.proofs.Common.{◌+◌, refl}
use Rattle.jc_decode.specs.Listing.{listing}
use Rattle.jc_control.specs.Method.{IsMethodOf}
use Rattle.jc_flow.proofs.Derived.{of_world}
use Rattle.xf_homes.specs.Order.{AreHomes}
use Rattle.xf_homes.specs.Source.{Source}
use Rattle.xf_emission.specs.declared.origin.Origin.TheVariants.{Start}
use Rattle.xf_emission.specs.Edge.{copies}
use Rattle.xf_emission.specs.Emission.{rewritten}
use Rattle.xf_emission.specs.Laws.{IsCode}
use Rattle.law_laid.specs.Laid.{record_with}
use Rattle.law_rewritten_typing.specs.Typed.{HasTypingByHomes, registers_of}
use Rattle.law_rewritten_typing.proofs.Walks.{count}
use Rattle.law_rewritten_typing.proofs.Ready.{IsReady}
use Rattle.law_rewritten_typing.proofs.Registers.{arguments-known, arguments-full, arguments-ready, registers-known, registers-ready, registers-declared}
use Rattle.law_rewritten_typing.specs.Premises.{AreTypingLaws}
use Rattle.law_rewritten_typing.proofs.Running.{IsRecordFor}
use Rattle.law_rewritten_typing.proofs.Numbers.{numbered, numbered-apart, numbered-is}
use Rattle.law_rewritten_typing.proofs.Listings.{filled}
use Rattle.law_rewritten_typing.proofs.Rewriting.{AreArguments, items-flow}
use Rattle.law_rewritten_typing.proofs.LabelDemands.{asks_of, are-wanted}
use Rattle.law_rewritten_typing.proofs.Typings.{AreAsked, stacks, walk-types}

module _ (s : Source) (l : AreTypingLaws s.world) (ready : IsReady s) (code : IsCode s) (mo : IsMethodOf s.world s.method)
    (are : AreHomes s.world s.method s.frames s.homes) where
  pub rewritten-typed : AreAsked s.world s.method.rec s.method.code (rewritten s) (registers_of s.homes) (asks_of s)
      → HasTypingByHomes s.world s.method s.homes (rewritten s)
  unfolding rewritten
  rewritten-typed asked =
      let r = record_with s.method.rec (rewritten s) in
      let own_rec : IsRecordFor s.method.rec r = record { room = refl; home = refl; sig = refl } in
      let res = (of_world s.world l.rules s.method mo).result in
      let first = 0 + count (copies s Start 0) in
      let xs = listing s.method.code in
      let any = filled (λ n. n) (λ a b e. e) s l ready r own_rec (asks_of s) res code xs (λ i c. c) in
      let new = numbered s first xs in
      let apart = numbered-apart s first xs any in
      let a = l.rules.listed s.method.code in
      let numbers = numbered-is s s.method.code first xs code.lists (λ i c. a.long i.place i.insn (a.decodes i c)) in
      let args : AreArguments new apart s l ready r own_rec (asks_of s) res code = record {
        known = arguments-known l.objects l.rules ready r (asks_of s) l.alike code mo l.derived are;
        full = arguments-full l.objects l.rules ready r (asks_of s) l.alike code mo l.derived are;
        fresh = arguments-ready l.objects l.rules ready r (asks_of s) l.alike code mo l.derived are;
      } in
      let flow = items-flow new apart s l ready r own_rec (asks_of s) res code (are-wanted new apart s l ready r own_rec res code) args numbers in
      record {
        stacks = stacks s.world s.method.rec s.method.code (rewritten s) (registers_of s.homes) (asks_of s) asked flow;
        typing =
            walk-types s.world s.method.rec s.method.code (rewritten s) (registers_of s.homes) (asks_of s) asked flow
            (registers-known l.objects l.rules ready r (asks_of s) l.alike code mo l.derived are)
            (registers-ready l.objects l.rules ready r (asks_of s) l.alike code mo l.derived are)
            (registers-declared l.objects l.rules ready r (asks_of s) l.alike code mo l.derived are);
      }
