-- The groups of all instructions, one after the other.
use Rattle.std.proofs.Common.{◌≡◌, ℕ, suc, ◌+◌, ◌<◌, Bool, true, false, if◌then◌else◌, List, [], ◌∷◌, ◌++◌, length}
use Rattle.std.proofs.Common.{flat_map, All, Contains, Option, Some, None, Ok, IsSome, IfSome, refl, sym, ◌∙◌, ap, subst, arith}
use Rattle.std.specs.Prelude.{ℤ, pos, negsuc, is_some, IsTrue, nat_lt}
use Rattle.std.proofs.lemmas.Bool.Decides.{nat_tests}
use Rattle.std.proofs.lemmas.List.{length-map}
use Rattle.jc_base.specs.Cell.{IsDeclared}
use Rattle.jc_base.specs.declared.record.MethodRec.{MethodRec}
use Rattle.jc_decode.specs.declared.insn.Placed.{Placed}
use Rattle.jc_decode.specs.declared.symbols.Item.{Item}
use Rattle.jc_decode.specs.Listing.{targets, falls, jumps, Lists}
use Rattle.jc_decode.specs.Cases.{cases}
use Rattle.jc_decode.proofs.Ranges.{op-fits}
use Rattle.jc_ops.specs.declared.operation.Operation.{Operation}
use Rattle.jc_ops.specs.Next.{falls_from, jumps_from}
use Rattle.jc_control.specs.Control.{IsSuccessor, falls_through, jumped, IsReached, begins, follows, caught, led_to, entered}
use Rattle.jc_control.specs.WellFormed.{HasInstruction as IsListed, IsTargetPlace}
use Rattle.jc_rules.specs.Demand.{Frame}
use Rattle.jc_rules.specs.Flow.{FrameBelow, IsFollowed}
use Rattle.xf_homes.specs.Source.{Source}
use Rattle.xf_homes.specs.Plan.{is_leader, operation}
use Rattle.xf_emission.specs.Laws.{IsCode}
use Rattle.xf_emission.specs.Group.{first_place, entrance, body, fallen, done, group_by, group}
use Rattle.law_rewritten_typing.specs.Typed.{registers_of}
use Rattle.law_rewritten_typing.proofs.Walks.{State, left, Asked, nothing_asked, emptied}
use Rattle.law_rewritten_typing.proofs.Walks.{Flows, flow_end, flows-append, count, count-append}
use Rattle.law_rewritten_typing.proofs.Ready.{IsReady, framed, reached}
use Rattle.law_rewritten_typing.specs.Premises.{AreTypingLaws}
use Rattle.law_rewritten_typing.proofs.Running.{IsRecordFor, IsRun}
use Rattle.law_rewritten_typing.proofs.Leading.{fit-at, Arrives, only_elsewhere}
use Rattle.law_rewritten_typing.proofs.Numbers.{IsNumbered, AreFilled, body-some}
use Rattle.law_rewritten_typing.proofs.Groups.{IsAbove, LeadsOn, IsGone, group-flows}

module _ (new : ℕ → ℕ) (apart : (a b : ℕ) → new a ≡ new b → a ≡ b) (s : Source) (l : AreTypingLaws s.world) (ready : IsReady s) (r : MethodRec)
    (own_rec : IsRecordFor s.method.rec r) (asks : ℕ → Asked) (res : IfSome s.method.rec.sig.result (IsDeclared s.world.classes)) (code : IsCode s)
  where
    -- ---- an instruction that control reaches

    pub record IsReachedRun (i : Placed) (f : Frame) : Type 0 where
      pub op : Operation
      pub after : Frame
      pub run : IsRun s i op f after
      pub below : (q : ℕ) → IsSuccessor s.method.code i q → IsAbove new apart s l ready r own_rec asks res code after q
      pub falls_alike : falls_from op ≡ falls i.insn.op
      pub jumps_alike : jumps_from op ≡ jumps i.insn.op

    some-same : (f g : Frame) → ◌≡◌ {A = Option Frame} (Some f) (Some g) → f ≡ g
    some-same f g e = cc

    pub run-of : (i : Placed) (f : Frame) → IsListed s.method.code i → s.frames i.place ≡ Some f → IsReachedRun i f
    run-of i f st at =
        let there = reached l.objects l.rules ready r asks i.place f at in
        let k = framed l.objects l.rules ready r asks (s.frames i.place) (IsFollowed s.world s.method s.frames i)
        (ready.typing.rules i st there) in
        let own : IsFollowed s.world s.method s.frames i f = subst (IsFollowed s.world s.method s.frames i) (some-same k.0 f (sym k.1 ∙ at)) k.2 in
        let op = own.steps.1.operation in
        let decodes = (l.rules.listed s.method.code).decodes i st in
        let small = op-fits s.method.code i.place i.insn code.bytes decodes in
        let go = l.alike s.method.rec i.place i.insn op small own.steps.1.resolves in
        record {
          op = op;
          after = own.after;
          run = grind (arith, fit-at);
          below = λ q succ.
              let g = framed l.objects l.rules ready r asks (s.frames q) (FrameBelow s.world.classes own.after) (own.below q succ) in
              record { frame = g.0; at = g.1; below = g.2 };
          falls_alike = go.falls_alike;
          jumps_alike = go.jumps_alike;
        }

    -- ---- a place is reached only from before, or is a leader

    none-not : (q : ℕ) → s.frames q ≡ None → IsReached s.method q → ⊥
    none-not q e there = differ (s.frames q) e ((ready.has.reached q).1 there)
      where
        differ : (o : Option Frame) → o ≡ None → IsSome o → ⊥
        differ None e h = absurd (cc)
        differ (Some f) e h = absurd (cc)

    led-unless : (i : Placed) (q : ℕ) → IsListed s.method.code i → IsReached s.method i.place → IsSuccessor s.method.code i q
        → ((j : Placed) → IsListed s.method.code j → IsReached s.method j.place → IsTrue (falls j.insn.op) → j.place + j.insn.len ≡ q → ⊥)
        → is_leader s q ≡ true
    led-unless i _ st there (falls_through goes) none = absurd (none i st there goes refl)
    led-unless i q st there (jumped c) none = (ready.marks q).1 (led_to {i = i} st there c)

    pub leader-unless : (q : ℕ) → IsReached s.method q → 0 < q
        → ((i : Placed) → IsListed s.method.code i → IsReached s.method i.place → IsTrue (falls i.insn.op) → i.place + i.insn.len ≡ q → ⊥)
        → is_leader s q ≡ true
    leader-unless _ begins lt none = absurd (omega (arith, lt))
    leader-unless _ (follows {i = i} {q = q} st there succ) lt none = led-unless i q st there succ none
    leader-unless _ (caught {h = h} there c covers) lt none = (ready.marks h.entry).1 (entered there c covers)

    -- ---- the walk

    -- before the instruction at a place: control comes to it where it is reached, and is not there else
    pub record IsBefore (q : ℕ) (a : State) : Type 0 where
      pub comes : IsReached s.method q → Arrives new apart s l ready r own_rec asks res code q a
      pub not_there : s.frames q ≡ None → a ≡ left

    differ : (b : Bool) → b ≡ true → b ≡ false → ⊥
    differ b e f = absurd (cc)

    -- ---- where its jumps lead

    target-count : (i : Placed) → jumps i.insn.op ≡ true → length (targets s.method.code i) ≡ length (cases s.method.code i.place i.insn) + 1
    unfolding targets
    target-count i j = grind (arith, length-map)

    first-target : (i : Placed) → IsListed s.method.code i → jumps i.insn.op ≡ true
        → Contains (targets s.method.code i) (pos (first_place (targets s.method.code i)))
    first-target i st j = by (targets s.method.code i) (target-count i j) (ready.has.formed.targets i st)
      where
        by : (ts : List ℤ) → length ts ≡ length (cases s.method.code i.place i.insn) + 1 → All (IsTargetPlace s.method.code) ts
            → Contains ts (pos (first_place ts))
        by [] n all = absurd (omega (arith, n))
        by (pos q ∷ ts) n all = (0, omega arith, refl)
        by (negsuc q ∷ ts) n all = absurd (all 0 (negsuc q) (omega arith))

    pub leads-of : (i : Placed) (f : Frame) → IsListed s.method.code i → s.frames i.place ≡ Some f → (k : IsReachedRun i f)
        → LeadsOn new apart s l ready r own_rec asks res code i k.op k.after
    leads-of i f st at k = record {
      falls = λ e. k.below (i.place + i.insn.len) (falls_through (sym k.falls_alike ∙ e));
      jumps = λ e. k.below (first_place (targets s.method.code i)) (jumped (first-target i st (sym k.jumps_alike ∙ e)));
      leads =
          λ e. (ready.marks (first_place (targets s.method.code i))).1
          (led_to {i = i} st (reached l.objects l.rules ready r asks i.place f at) (first-target i st (sym k.jumps_alike ∙ e)));
    }

    -- ---- one after the other

    -- a `new` is numbered by where its group's instruction stands
    abbrev pub Numbered : ℕ → List Placed → Type 0
    Numbered n xs = IsNumbered s new n xs

    -- only the instruction before falls into a place
    one-before : (i j : Placed) → IsListed s.method.code i → IsListed s.method.code j → j.place + j.insn.len ≡ i.place + i.insn.len
        → j.place ≡ i.place
    one-before i j si sj e = by (nat_lt j.place i.place) (nat_lt i.place j.place) refl refl
      where
        long : (k : Placed) → IsListed s.method.code k → 0 < k.insn.len
        long k sk = (l.rules.listed s.method.code).long k.place k.insn ((l.rules.listed s.method.code).decodes k sk)

        by : (x y : Bool) → nat_lt j.place i.place ≡ x → nat_lt i.place j.place ≡ y → j.place ≡ i.place
        by true y f g =
            let lt : j.place < i.place = grind (arith, nat_tests, f) in
            absurd (omega (arith, (l.rules.listed s.method.code).after j i sj si lt, long i si, e))
        by false true f g =
            let lt : i.place < j.place = grind (arith, nat_tests, g) in
            absurd (omega (arith, (l.rules.listed s.method.code).after i j si sj lt, long j sj, e))
        by false false f g = grind (arith, nat_tests, f, g)

    none-emitted : (i : Placed) → s.frames i.place ≡ None → group s i ≡ []
    unfolding group
    none-emitted i e = ap (group_by s i) e

    -- after an instruction that does not fall, or that control does not reach, control comes to the next place only from elsewhere
    left-before : (i : Placed) → IsListed s.method.code i → (IsReached s.method i.place → IsTrue (falls i.insn.op) → ⊥)
        → IsBefore (i.place + i.insn.len) left
    left-before i st never = record {
      comes =
          λ there. only_elsewhere
          (leader-unless (i.place + i.insn.len) there long
          (λ j sj rj goes e. never (subst (IsReached s.method) (one-before i j st sj e) rj)
          (subst (λ (k : Placed). IsTrue (falls k.insn.op)) (one i j st sj e) goes)));
      not_there = λ e. refl;
    }
      where
        long : 0 < i.place + i.insn.len
        long = let n = (l.rules.listed s.method.code).long i.place i.insn ((l.rules.listed s.method.code).decodes i st) in omega (arith, n)

        one : (i j : Placed) → IsListed s.method.code i → IsListed s.method.code j → j.place + j.insn.len ≡ i.place + i.insn.len → j ≡ i
        one i j si sj e = (l.rules.listed s.method.code).one j i sj si (one-before i j si sj e)

    ends-left : (at : ℕ) (a : State) → Lists s.method.code at [] → IsBefore at a → a ≡ left
    ends-left at a err before = by (s.frames at) refl
      where
        no : false ≡ true → ⊥
        no e = absurd (cc)

        by : (o : Option Frame) → s.frames at ≡ o → a ≡ left
        by x e = grind (arith)

    module _ (wants : (q : ℕ) → is_some (s.frames q) ≡ true → asks q ≡ (if is_leader s q then emptied else nothing_asked)) where
      pub groups-flow : (at n : ℕ) (xs : List Placed) (a : State) → Lists s.method.code at xs
          → ((i : Placed) → Contains xs i → IsListed s.method.code i) → IsBefore at a → Numbered n xs
          → Flows s.world r (registers_of s.homes) asks n a (flat_map (group s) xs) left
      groups-flow at n [] a lists inside before numbered = grind (arith, ends-left, flow_end)
      groups-flow at n (i ∷ xs) a lists inside before numbered =
          by (s.frames i.place) refl
          (λ b next. groups-flow (at + i.insn.len) (n + count (group s i)) xs b lists.2 (λ j c. inside j (suc c.0, omega (arith, c.1), c.2)) next
          numbered.1)
        where
          st : IsListed s.method.code i
          st = inside i (0, omega arith, refl)

          here : IsBefore i.place a
          here = subst (λ (q : ℕ). IsBefore q a) (sym lists.0) before

          next_is : i.place + i.insn.len ≡ at + i.insn.len
          next_is = ap (λ (q : ℕ). q + i.insn.len) lists.0

          by : (o : Option Frame) → s.frames i.place ≡ o
              → ((b : State) → IsBefore (at + i.insn.len) b → Flows s.world r (registers_of s.homes) asks (n + count (group s i)) b
              (flat_map (group s) xs) left)
              → Flows s.world r (registers_of s.homes) asks n a (group s i ++ flat_map (group s) xs) left
          by None e rest =
              let empty = none-emitted i e in
              let never = left-before i st (λ there goes. none-not i.place e there) in
              let first : Flows s.world r (registers_of s.homes) asks n a (group s i) left =
              subst (λ (ys : List Item). Flows s.world r (registers_of s.homes) asks n a ys left) (sym empty)
              (subst (λ (b : State). Flows s.world r (registers_of s.homes) asks n a [] b) (here.not_there e) flow_end) in
              flows-append s.world r (registers_of s.homes) asks first (rest left (subst (λ (q : ℕ). IsBefore q left) next_is never))
          by (Some f) e rest =
              let k = run-of i f st e in
              let some : is_some (s.frames i.place) ≡ true = ap is_some e in
              let there = reached l.objects l.rules ready r asks i.place f e in
              let g = group-flows new apart s l ready r own_rec asks res code i k.op f k.after n a k.run (leads-of i f st e k) (numbered.0 some)
              (wants i.place some) (here.comes there) in
              flows-append s.world r (registers_of s.homes) asks g.flow
              (rest g.state (subst (λ (q : ℕ). IsBefore q g.state) next_is (onward (falls_from k.op) refl k there g)))
            where
              onward : (b : Bool) → {f : Frame} → b ≡ b → (k : IsReachedRun i f) → IsReached s.method i.place
                  → (g : IsGone new apart s l ready r own_rec asks res code n i k.op a (group s i)) → IsBefore (i.place + i.insn.len) g.state
              onward b e k there g = by-falls (falls_from k.op) refl
                where
                  by-falls : (c : Bool) → falls_from k.op ≡ c → IsBefore (i.place + i.insn.len) g.state
                  by-falls true goes = record {
                    comes = λ q. g.arrives goes;
                    not_there = λ none. absurd (none-not (i.place + i.insn.len) none (follows {i = i} st there (falls_through (sym k.falls_alike ∙ goes))));
                  }
                  by-falls false goes =
                      subst (IsBefore (i.place + i.insn.len)) (sym (g.leaves goes))
                      (left-before i st (λ q h. differ (falls_from k.op) (k.falls_alike ∙ h) goes))

    group-is : (i : Placed) (f : Frame) (op : Operation) → s.frames i.place ≡ Some f → operation s i ≡ Ok op
        → group s i ≡ entrance s i.place ++ done s i (Ok op)
    unfolding group
    group-is i f op e is = ap (group_by s i) e ∙ ap (λ o. entrance s i.place ++ done s i o) is

    -- each group that is reached has an instruction after its head
    pub filled : (xs : List Placed) → ((i : Placed) → Contains xs i → IsListed s.method.code i) → AreFilled s xs
    filled [] inside = tt
    filled (i ∷ xs) inside = ((λ some. by (s.frames i.place) refl some), filled xs (λ j c. inside j (suc c.0, omega (arith, c.1), c.2)))
      where
        by : (o : Option Frame) → s.frames i.place ≡ o → is_some o ≡ true → count (entrance s i.place) < count (group s i)
        by None e some = absurd (cc)
        by (Some f) e some =
            let k = run-of i f (inside i (0, omega arith, refl)) e in
            let whole : group s i ≡ entrance s i.place ++ done s i (Ok k.op) = group-is i f k.op e k.run.resolves in
            omega (
              arith,
              ap count whole,
              count-append (entrance s i.place) (done s i (Ok k.op)),
              count-append (body s i k.op) (fallen s i k.op),
              body-some s i k.op,
            )
