-- One step of the target for one of the source at a conditional branch or a switch.
use Rattle.std.proofs.Common.{◌≡◌, ℕ, ◌+◌, ◌<◌, ◌≤◌, ◌⊎◌, inl, inr, Bool, true, List, [], length, map, refl}
use Rattle.std.proofs.Common.{sym, ap, ◌∙◌, subst, arith}
use Rattle.std.specs.Prelude.{ℤ, pos, All, Contains, Option, Some, None, Ok, option_map, slice_get, ⊤}
use Rattle.std.proofs.lemmas.Bool.{cases_lt}
use Rattle.std.proofs.lemmas.Option.{slice_get-map}
use Rattle.jc_base.specs.declared.record.MethodRec.{MethodRec}
use Rattle.jc_base.specs.World.{Linked}
use Rattle.jc_decode.specs.declared.insn.Case.{Case}
use Rattle.jc_decode.specs.declared.insn.Insn.{Insn}
use Rattle.jc_decode.specs.declared.insn.Placed.{Placed}
use Rattle.jc_decode.proofs.Ranges.{op-fits}
use Rattle.jc_decode.specs.Cases.{cases}
use Rattle.jc_decode.specs.Listing.{listing, targets}
use Rattle.jc_decode.specs.Standing.{AreSteps}
use Rattle.jc_decode.specs.Symbols.{place_of}
use Rattle.jc_decode.proofs.InstructionLists.{all-are-listed}
use Rattle.jc_control.specs.WellFormed.{IsPlace, IsTargetPlace, HasInstruction}
use Rattle.jc_ops.specs.declared.operation.Operation.{Operation}
use Rattle.jc_ops.specs.declared.operation.Operation.TheVariants as ops
use Rattle.jc_ops.specs.Alike.{IsAlike, equal}
use Rattle.jc_ops.specs.Next.{falls_from}
use Rattle.jc_ops.specs.Resolve.{Resolves}
use Rattle.jc_rules.specs.Footprint.{footprint, registers_asked}
use Rattle.jc_rules.specs.Rule.{demands}
use Rattle.vm_store.specs.declared.cell.Cell.{Cell}
use Rattle.vm_store.specs.Cells.{tagged}
use Rattle.vm_store.specs.State.{State, IsRunning, map_object, top}
use Rattle.vm_step.specs.Act.{Act, calls, gives, goes, jumps, raises, throws}
use Rattle.vm_step.specs.Branching.{leads_if}
use Rattle.vm_step.specs.Methods.{code_at}
use Rattle.vm_step.specs.Performed.{act}
use Rattle.vm_step.specs.Raising.{Outcome, running}
use Rattle.vm_step.specs.Step.{Steps}
use Rattle.law_alike.specs.Alike.{AreAlike, StayAlike, renamed_cell, renamed_new}
use Rattle.law_alike.specs.Likeness.{StepsAreAlike}
use Rattle.law_alike.specs.Running.{ComeAlike, Executes, HaveKeys, call_alike, end_alike}
use Rattle.law_alike.specs.Running.{exception_alike, keys_at, next_alike, return_alike, target_alike}
use Rattle.law_alike.specs.Running.{throw_alike, top_code}
use Rattle.law_alike.proofs.Views.{falls-new}
use Rattle.xf_homes.specs.declared.home.Home.{Home}
use Rattle.xf_homes.specs.Walk.{operands_of}
use Rattle.law_laid.specs.Apart.{apart_from_code}
use Rattle.law_laid.proofs.Steps.{all-contained, at-contains, preimage}
use Rattle.law_laid.proofs.SameBut.{demands-are-kept, operations-are-kept}
use Rattle.xf_homes.specs.Source.{Source}
use Rattle.xf_homes.specs.Plan.{register}
use Rattle.xf_emission.specs.Emission.{items}
use Rattle.xf_emission.specs.Jump.{lead, way_of}
use Rattle.law_rewritten_typing.proofs.Rows.{wide-is}
use Rattle.law_rewritten_typing.proofs.Turns.{none-asked}
use Rattle.law_homes.specs.Held.{HoldsValue, HoldsLocals}
use Rattle.law_homes.specs.Laws.{CodesAgree, ExecutesStep}
use Rattle.law_homes.proofs.Loading.{step-place}
use Rattle.law_homes.proofs.Standing.{steps-execute}
use Rattle.law_homes.proofs.Running.{kept-run-alike}
use Rattle.law_homes.proofs.Homes.{locals-stay}
use Rattle.law_homes.proofs.Unwritten.{names-none-writes-none}
use Rattle.law_groups.specs.Laid.{IsLaidIn, rename, steps_of}
use Rattle.law_groups.specs.Beside.{AreEqualBut, AreOf, SameUnder}
use Rattle.law_groups.proofs.Context.{source-code, source-room, steps-are, target-at, target-room}
use Rattle.law_groups.proofs.ForkSteps.{JumpStep}
use Rattle.law_groups.proofs.BareForks.{jump_insn}
use Rattle.law_groups.proofs.Renaming.{renames-one-to-one}

-- ---- what such operations come to

-- on, or to a place
abbrev pub IsLeading : Act Cell → Type 0
IsLeading (goes z) = ⊤
IsLeading (jumps to z) = ⊤
IsLeading _ = ⊥

leads-on : (c : Bool) (to : ℤ) (z : State Cell) → IsLeading (leads_if c to z)
leads-on x to z = grind (arith)

pub leading :
    (w : Linked) (i : Insn) (op : Operation) (n : ℕ) (z : State Cell)
    → operands_of w (Ok op) ≡ Some n
    → IsLeading (act tagged w i op z)
leading w i z n z2 e = grind (arith, leads-on)

-- they name no register, and are renamed by no map of places
quiet : (w : Linked) (op : Operation) (n : ℕ) → operands_of w (Ok op) ≡ Some n → registers_asked (demands w op) ≡ 0
quiet w y n e = grind (arith, none-asked)

same-named : (w : Linked) (f : ℕ → ℕ) (op : Operation) (n : ℕ) → operands_of w (Ok op) ≡ Some n → renamed_new f op ≡ op
same-named w f z n e = grind (arith)

-- the instruction of their step resolves to them
jump-resolves :
    (w : Linked) (m r : MethodRec) (p q n : ℕ) (i : Insn) (at : Placed) (op : Operation)
    → i.op < 256
    → at.insn ≡ i
    → operands_of w (Ok op) ≡ Some n
    → Resolves w m p i (Ok op)
    → Resolves w m p (jump_insn at op) (Ok op)
jump-resolves w m r p q n i at (ops.Branch b) small e some resolves =
    let own : Resolves w m p at.insn (Ok (ops.Branch b)) = subst (λ k. Resolves w m p k (Ok (ops.Branch b))) (sym e) resolves in
    let low : at.insn.op < 256 = subst (λ (k : Insn). k.op < 256) (sym e) small in
    sym (wide-is w m m p p at.insn b low (sym own))
jump-resolves w m r p q n i at (ops.Switch width) small e some resolves = grind (arith)
jump-resolves w m r p q n i at _ small e some resolves = absurd (cc)

-- ---- the step

-- after the step: the same of both
pub record AfterFork (s : Source) (place : ℕ → ℕ) (p : ℕ) (z u y x : State Cell) : Type 0 where
  pub first : SameUnder z y
  pub second : SameUnder u x
  pub equal : AreEqualBut y x
  pub of : AreOf s (top y) (top x)
  pub stack : (top x).stack ≡ map (renamed_cell (rename s place)) (top y).stack
  pub locals : HoldsLocals s p (top y) (top x)
  pub kept : (values : List Cell) (h : Home) → HoldsValue s values (top u) h → HoldsValue s values (top x) h

pub data ForkComes (s : Source) (place : ℕ → ℕ) (i : Placed) (op : Operation) (n m : ℕ) (z u y : State Cell) : Outcome Cell → Type 0 where
  fork_falls :
      {x : State Cell}
      → AfterFork s place i.place z u y x
      → falls_from op ≡ true
      → (top y).place ≡ i.place + i.insn.len
      → (top x).place ≡ place (m + 1)
      → ForkComes s place i op n m z u y (running x)
  fork_leads :
      (k : ℕ) {x : State Cell}
      → AfterFork s place i.place z u y x
      → slice_get (targets s.method.code i) k ≡ Some (pos (top y).place)
      → (top x).place ≡ place (place_of (lead s i.place op n (way_of (targets s.method.code i) (pos (top y).place)) (pos (top y).place)) (items s))
      → ForkComes s place i op n m z u y (running x)

pub same-state : (a b : State Cell) → running a ≡ running b → a ≡ b
same-state a b e = cc

pos-same : (a b : ℕ) → Some (pos a) ≡ Some (pos b) → a ≡ b
pos-same a b e = cc

module _
    {v w : Linked} {s : Source} {place : ℕ → ℕ} (laid : IsLaidIn v w s place) (alike_steps : StepsAreAlike v)
    (i : Placed) (op : Operation) (n m : ℕ) (some : operands_of v (Ok op) ≡ Some n)
    (stands : HasInstruction s.method.code i) (j : JumpStep s i op n m)
    (labels_inside :
    (k : ℕ) (t : ℤ)
    → slice_get (targets s.method.code i) k ≡ Some t
    → place_of (lead s i.place op n (way_of (targets s.method.code i) t) t) (items s) < length (steps_of s))
    (next_inside : falls_from op ≡ true → IsPlace (code_at w s.method.number) (place (m + 1)))
    (z u y : State Cell) (ex : Executes v z i op) (equal_too : AreEqualBut z u) (of : AreOf s (top z) (top u)) (here : (top z).place ≡ i.place)
    (objects_stay : map (map_object (renamed_cell (rename s place))) z.heap ≡ z.heap)
    (statics_stay : map (renamed_cell (rename s place)) z.statics ≡ z.statics)
    (at : (top u).place ≡ place m) (stack : (top u).stack ≡ map (renamed_cell (rename s place)) (top z).stack)
    (locals : HoldsLocals s i.place (top z) (top u)) (method : ex.method ≡ s.method.rec)
    (step : Steps tagged v z (running y)) where
  abbrev f : ℕ → ℕ
  f = λ q. place m

  runs-too : IsRunning u
  runs-too = let same = equal_too.frames in let going = ex.fetched.runs in omega (arith, same, going)

  resolves-there : Resolves w laid.code.target.rec i.place j.step.insn (Ok op)
  resolves-there =
      let bytes = op-fits s.method.code i.place i.insn laid.planned.code.bytes ((all-are-listed s.method.code).decodes i stands) in
      let own = jump-resolves v ex.method ex.method i.place i.place n i.insn i op bytes refl some ex.resolved in
      operations-are-kept v w ex.method laid.code.target.rec i.place j.step.insn (Ok op) laid.code.same
      (ap apart_from_code method ∙ sym laid.code.has.same)
      (subst (λ k. Resolves v ex.method i.place k (Ok op)) (sym j.insn_is) own)

  there : ExecutesStep w u place m j.step op
  there =
      steps-execute w laid.new u laid.code.target.rec place (steps_of s) m i.place j.step op runs-too
      (ap (slice_get w.methods) of.target ∙ target-at laid)
      (subst (λ k. AreSteps (code_at w k) place 0 (steps_of s) (listing (code_at w k))) (sym of.target) (steps-are laid))
      j.found at resolves-there

  code-same : top_code v z ≡ s.method.code
  code-same = ap (code_at v) of.source ∙ source-code laid

  is-target : (t : ℤ) → Contains (map (λ (k : ℕ). pos (place k)) j.step.targets) t → IsTargetPlace (top_code w u) t
  is-target t c =
      let x = preimage (λ (k : ℕ). pos (place k)) j.step.targets t c in
      let k = x.listed.0 in
      let found = at-contains j.step.targets x.of x.listed in
      let named = j.named k x.of found in
      let label = j.leads_to k x.of named.0 named.1 found in
      let inside = subst (λ l. l < length (steps_of s)) (sym label) (labels_inside k named.0 named.1) in
      let p = step-place (code_at w s.method.number) place (steps_of s) x.of (steps-are laid) inside in
      subst (IsTargetPlace (top_code w u)) (sym x.is) (subst (λ q. IsPlace (code_at w q) (place x.of)) (sym of.target) p)

  keys-same : HaveKeys op (keys_at v z i) (keys_at w u there.instruction)
  keys-same = by op some j.keyed
    where
      by :
          (a : Operation)
          → operands_of v (Ok a) ≡ Some n
          → HaveKeys a (map (λ (c : Case). c.key) (cases s.method.code i.place i.insn)) j.step.keys
          → HaveKeys a (keys_at v z i) (keys_at w u there.instruction)
      by (ops.Switch width) e k =
          ap (λ code. map (λ (c : Case). c.key) (cases code i.place i.insn)) code-same ∙ (k ∙ sym there.is.keyed)
      by _ e k = tt

  agree : CodesAgree v w z u i there.instruction op (renamed_new f op)
  agree = record {
    keys = keys-same;
    targets =
        subst (All (IsTargetPlace (top_code w u))) (sym there.is.leads)
        (all-contained (IsTargetPlace (top_code w u)) (map (λ (k : ℕ). pos (place k)) j.step.targets) is-target);
    next = grind (arith, falls-new);
    room = grind (arith, source-room laid, target-room laid);
  }

  none-here : registers_asked (demands v op) ≡ 0
  none-here = quiet v op n some

  named-same : renamed_new f op ≡ op
  named-same = same-named v f op n some

  none-there : registers_asked (demands w (renamed_new f op)) ≡ 0
  none-there = ap (λ a. registers_asked (demands w a)) named-same ∙ (ap registers_asked (sym (demands-are-kept v w op laid.code.same)) ∙ none-here)

  none-own : registers_asked (demands v (renamed_new f op)) ≡ 0
  none-own = ap (λ a. registers_asked (demands v a)) named-same ∙ none-here

  after :
      (x : State Cell)
      → StayAlike (renamed_cell (rename s place)) (footprint v op) (footprint v (renamed_new f op)) z y u x
      → AfterFork s place i.place z u y x
  after x stays = record {
    first = record { frames = stays.first.frames };
    second = record { frames = stays.second.frames };
    equal = record { frames = stays.alike.frames; heap = stays.alike.heap; statics = stays.alike.statics };
    of = record {
      source = stays.first.method ∙ of.source;
      target = stays.second.method ∙ of.target;
      count = stays.second.count ∙ of.count;
    };
    stack = stays.alike.stack;
    locals =
        locals-stay (footprint v op) (footprint v (renamed_new f op)) z y u x s i.place stays.first stays.second
        (names-none-writes-none v op none-here) (names-none-writes-none v (renamed_new f op) none-own) locals;
    kept = λ values h held. record {
      known = held.known;
      there = let count = stays.second.count in let own = held.there in omega (arith, count, own);
      equal = λ k lt.
          stays.second.others (register s h + k) (unwritten (register s h + k)) ∙ held.equal k lt;
    };
  }
    where
      unwritten :
          (r : ℕ)
          → (r < (footprint v (renamed_new f op)).register)
          ⊎ ((footprint v (renamed_new f op)).register + (footprint v (renamed_new f op)).written ≤ r)
      unwritten r = elim (cases_lt r (footprint v (renamed_new f op)).register) [
        | inl small ↦ inl small
        | inr large ↦ let none = names-none-writes-none v (renamed_new f op) none-own in inr (omega (arith, large, none))
      ]

  never : {X : Type 0} (deed : Act Cell) → act tagged v i.insn op z ≡ deed → ¬ (IsLeading deed) → X
  never deed e calm = absurd (calm (subst IsLeading e (leading v i.insn op n z some)))

  comes :
      (o p : Outcome Cell)
      → o ≡ running y
      → ComeAlike tagged (renamed_cell (rename s place)) v w z u i there.instruction op (renamed_new f op) o p
      → ForkComes s place i op n m z u y p
  comes _ _ e (next_alike {z = y0} {y = x} stays falls at_y at_x) =
      let same : y0 ≡ y = same-state y0 y e in
      fork_falls
      (after x (subst (λ k. StayAlike (renamed_cell (rename s place)) (footprint v op) (footprint v (renamed_new f op)) z k u x) same stays))
      (sym (falls-new f op) ∙ falls)
      (subst (λ (k : State Cell). (top k).place ≡ i.place + i.insn.len) same at_y) (at_x ∙ there.ends)
  comes _ _ e (target_alike k {z = y0} {y = x} stays at_y at_x) =
      let same : y0 ≡ y = same-state y0 y e in
      let own : slice_get (targets s.method.code i) k ≡ Some (pos (top y).place) =
      subst (λ code. slice_get (targets code i) k ≡ Some (pos (top y).place)) code-same
      (subst (λ (q : State Cell). slice_get (targets (top_code v z) i) k ≡ Some (pos (top q).place)) same at_y) in
      let found : option_map (λ (q : ℕ). pos (place q)) (slice_get j.step.targets k) ≡ Some (pos (top x).place) =
      sym (slice_get-map (λ (q : ℕ). pos (place q)) j.step.targets k) ∙ (ap (λ ts. slice_get ts k) (sym there.is.leads) ∙ at_x) in
      fork_leads k
      (after x (subst (λ q. StayAlike (renamed_cell (rename s place)) (footprint v op) (footprint v (renamed_new f op)) z q u x) same stays))
      own (led (slice_get j.step.targets k) refl found k own)
    where
      led :
          (o : Option ℕ)
          → slice_get j.step.targets k ≡ o
          → option_map (λ (q : ℕ). pos (place q)) o ≡ Some (pos (top x).place)
          → (r : ℕ)
          → slice_get (targets s.method.code i) k ≡ Some (pos (top y).place)
          → (top x).place ≡ place (place_of (lead s i.place op n (way_of (targets s.method.code i) (pos (top y).place)) (pos (top y).place)) (items s))
      led None h g r own = absurd (cc)
      led (Some q) h g r own = sym (pos-same (place q) (top x).place g) ∙ ap place (j.leads_to k q (pos (top y).place) own h)
  comes o p e (call_alike method count {z = y0} stays at_y at_x handed acts enters too) = never (calls method count y0) acts (λ bad. bad)
  comes o p e (return_alike value cells plain acts is too) = never (gives value cells) acts (λ bad. bad)
  comes o p e (exception_alike exception acts is too) = never (raises exception) acts (λ bad. bad)
  comes o p e (throw_alike handle acts is too) = never (throws handle) acts (λ bad. bad)
  comes _ _ e (end_alike ending x) = absurd (cc)

  pub fork-steps : (p : Outcome Cell) × Steps tagged w u p × ForkComes s place i op n m z u y p
  fork-steps =
      let states : AreAlike (renamed_cell (rename s place)) z u =
      record {
        frames = equal_too.frames;
        stack = stack;
        heap = equal_too.heap;
        statics = equal_too.statics;
        objects_stay = objects_stay;
        statics_stay = statics_stay;
      } in
      let are = subst (λ a. IsAlike (renamed_new (rename s place) op) a)
      (same-named v (rename s place) op n some ∙ sym named-same) equal in
      let run = kept-run-alike (renamed_cell (rename s place)) (rename s place) v w z u i there.instruction op (renamed_new f op)
      states agree are none-here none-there in
      let p = alike_steps w (rename s place) z u i there.instruction op (renamed_new f op) (running y) laid.code.same
      (renames-one-to-one v w s place laid) ex there.executes run step tt in
      (p.0, p.1, comes (running y) p.0 refl p.2)
