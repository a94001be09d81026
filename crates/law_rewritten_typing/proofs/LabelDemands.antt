-- What the labels of a rewritten method ask.
use Rattle.std.proofs.Common.{◌≡◌, ℕ, ◌+◌, ◌-◌, ◌/◌, ◌<◌, Bool, true, false, if◌then◌else◌, length, slice_get, Option, Some, None}
use Rattle.std.proofs.Common.{IfSome, refl, ◌∙◌, ap, arith}
use Rattle.std.specs.Prelude.{nat_lt}
use Rattle.std.proofs.lemmas.Bool.Decides.{nat_tests}
use Rattle.std.proofs.lemmas.Option.{slice_get_within}
use Rattle.jc_base.specs.Cell.{IsDeclared}
use Rattle.jc_base.specs.declared.record.Handler.{Handler}
use Rattle.jc_base.specs.declared.record.MethodRec.{MethodRec}
use Rattle.jc_decode.specs.Listing.{targets}
use Rattle.jc_control.specs.Control.{IsReached, IsLeader}
use Rattle.xf_homes.specs.Source.{Source}
use Rattle.xf_homes.specs.Plan.{is_leader}
use Rattle.xf_emission.specs.Laws.{IsCode}
use Rattle.xf_emission.specs.Jump.{each_once}
use Rattle.xf_emission.proofs.TwoBytes.{two-bytes}
use Rattle.xf_emission.proofs.Ways.{ways-few}
use Rattle.law_rewritten_typing.proofs.Walks.{Asked, nothing_asked, emptied, catching}
use Rattle.law_rewritten_typing.proofs.Ready.{IsReady}
use Rattle.law_rewritten_typing.specs.Premises.{AreTypingLaws}
use Rattle.law_rewritten_typing.proofs.Running.{IsRecordFor}
use Rattle.law_rewritten_typing.proofs.Rewriting.{AreWanted}

abbrev pub caught_by : Option Handler → Asked
caught_by None = emptied
caught_by (Some h) = catching h.class

-- a leader wants an empty stack, and so does the stub of a branch; that of a handler wants the caught object
unfoldable pub asks_of : Source → ℕ → Asked
asks_of s n =
    if nat_lt n 32768 then (if is_leader s n then emptied else nothing_asked)
    else if nat_lt n 49152 then emptied
    else caught_by (slice_get s.method.rec.handlers (n - 49152))

at-place : (s : Source) (n : ℕ) → n < 32768 → asks_of s n ≡ (if is_leader s n then emptied else nothing_asked)
unfolding asks_of
at-place s n lt = let e : nat_lt n 32768 ≡ true = grind (arith, nat_tests) in rw e refl

at-stub : (s : Source) (n : ℕ) → n < 16384 → asks_of s (32768 + n) ≡ emptied
unfolding asks_of
at-stub s n lt = grind (arith, nat_tests)

pub at-handler : (s : Source) (n : ℕ) → asks_of s (49152 + n) ≡ caught_by (slice_get s.method.rec.handlers n)
unfolding asks_of
at-handler s n = grind (arith, nat_tests, slice_get, emptied, nothing_asked)

module _ (new : ℕ → ℕ) (apart : (a b : ℕ) → new a ≡ new b → a ≡ b) (s : Source) (l : AreTypingLaws s.world) (ready : IsReady s) (r : MethodRec)
    (own_rec : IsRecordFor s.method.rec r) (res : IfSome s.method.rec.sig.result (IsDeclared s.world.classes)) (code : IsCode s) where
  reached-inside : (q : ℕ) → IsReached s.method q → q < length s.method.code
  reached-inside q there =
      let p = ready.has.placed q there in
      let lt = (l.rules.listed s.method.code).inside p.0 p.1 in
      omega (arith, lt, p.2)

  leader-reached : (q : ℕ) → IsLeader s.method q → IsReached s.method q
  leader-reached x y = grind (arith)

  no-leader : is_leader s (length s.method.code) ≡ false
  no-leader = by (is_leader s (length s.method.code)) refl
    where
      by : (b : Bool) → is_leader s (length s.method.code) ≡ b → is_leader s (length s.method.code) ≡ false
      by false e = e
      by true e =
          absurd (omega (arith, reached-inside (length s.method.code) (leader-reached (length s.method.code) ((ready.marks (length s.method.code)).0 e))))

  pub are-wanted : AreWanted new apart s l ready r own_rec (asks_of s) res code
  are-wanted = record {
    places = λ q some. at-place s q (omega (arith, reached-inside q ((ready.has.reached q).0 some), code.short));
    end = at-place s (length s.method.code) (omega (arith, code.short)) ∙ ap (λ (b : Bool). if b then emptied else nothing_asked) no-leader;
    stubs = λ i k t st e.
        let a = l.rules.listed s.method.code in
        let two = two-bytes s.method.code i code.bytes (a.decodes i st) in
        let within = a.within i st in
        let k_lt = slice_get_within (each_once (targets s.method.code i)) k t e in
        let few = ways-few (targets s.method.code i) in
        let small : i.place / 2 + k < 16384 = omega (arith, two, within, k_lt, few, code.short) in
        at-stub s (i.place / 2 + k) small;
    handlers = λ n h e. at-handler s n ∙ ap caught_by e;
  }
