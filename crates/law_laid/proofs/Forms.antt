-- Instructions that are the same in one of their forms resolve alike, fall through alike and jump alike.
use Rattle.std.proofs.Common.{◌≡◌, ◌≢◌, ℕ, ◌<◌, ◌==◌, Bool, true, false, cond, if◌then◌else◌, ℤ, pos, List, [], ◌∷◌, map}
use Rattle.std.proofs.Common.{get_or, set, Option, Some, None, IfSome, Result, Ok, Err, refl, sym, ◌∙◌, ap, arith}
use Rattle.std.specs.Prelude.{nat_le, find}
use Rattle.std.specs.List.{list_all, range_with_len}
use Rattle.std.proofs.lemmas.Bool.{eqb-true, and_parts}
use Rattle.std.proofs.lemmas.Bool.Decides.{nat_tests}
use Rattle.std.proofs.lemmas.List.{get_or-set_other, get_or_past}
use Rattle.std.proofs.Math.ListN.{get_or-map}
use Rattle.jc_base.specs.declared.record.Member.{Member}
use Rattle.jc_base.specs.declared.record.Member.TheVariants.{ClassOf}
use Rattle.jc_base.specs.declared.record.MethodRec.{MethodRec}
use Rattle.jc_base.specs.Cell.{IsDeclared}
use Rattle.jc_base.specs.Dispatch.{is_concrete}
use Rattle.jc_base.specs.World.{Linked, member_at}
use Rattle.jc_decode.specs.declared.insn.Insn.{Insn}
use Rattle.jc_decode.specs.Cases.{is_switch, has_cases}
use Rattle.jc_decode.specs.Forms.{essence, with_operand, wide}
use Rattle.jc_decode.specs.Layout.{Span, spans, is_in_span, is_out_of_scope, opcode_in_span, layout_from, layout_of, opcode}
use Rattle.jc_decode.specs.declared.layout.Opcode.TheVariants.{Reserved, Unused}
use Rattle.jc_decode.specs.Listing.{falls, jumps}
use Rattle.jc_ops.specs.declared.fault.RuleFault.{RuleFault}
use Rattle.jc_ops.specs.declared.fault.RuleFault.TheVariants.{NotConcrete}
use Rattle.jc_ops.specs.declared.operation.Operation.{Operation}
use Rattle.jc_ops.specs.declared.operation.Operation.TheVariants as ops
use Rattle.jc_ops.specs.Row.{table, row_at, unused, by_sort, by_width, by_kind, first_four, by_register, literals, binaries, orders_all, branching}
use Rattle.jc_ops.specs.Resolve.{short_of, new_object, resolved, Resolves}
use Rattle.jc_ops.specs.Sound.{IsSound, OperationsAreSound}
use Rattle.law_laid.proofs.Operations.{operation_renamed}
use Rattle.jc_decode.proofs.Passed.{at-op, by-size}

-- ---- opcodes that are no byte

past-span : (op : ℕ) → 255 < op → (s : Span) (rest : Option Span) (a b : Bool) → nat_le s.last 255 ≡ a → is_in_span op s ≡ b → rest ≡ None
    → a ≡ true → cond b (Some s) rest ≡ None
past-span op lt s rest x b x2 y r e = grind (arith, nat_tests)

past-spans : (op : ℕ) → 255 < op → (ss : List Span) → list_all (λ s. nat_le s.last 255) ss ≡ true → find (is_in_span op) ss ≡ None
past-spans op lt [] e = refl
past-spans op lt (s ∷ ss) e =
    let first = (and_parts (nat_le s.last 255) (list_all (λ s. nat_le s.last 255) ss) e).0 in
    let rest = past-spans op lt ss (and_parts (nat_le s.last 255) (list_all (λ s. nat_le s.last 255) ss) e).1 in
    past-span op lt s (find (is_in_span op) ss) (nat_le s.last 255) (is_in_span op s) refl refl rest first

pub past-switch : (op : ℕ) → 255 < op → is_switch op ≡ false
unfolding layout_of opcode
past-switch op lt =
    ap (λ o. has_cases (layout_from op (if is_out_of_scope op then Reserved else opcode_in_span o))) (past-spans op lt spans refl) ∙ by (is_out_of_scope op)
  where
    by : (b : Bool) → has_cases (layout_from op (if b then Reserved else Unused)) ≡ false
    by true = refl
    by false = refl

past-jumps : (op : ℕ) → 255 < op → jumps op ≡ false
past-jumps op lt = grind (arith, nat_tests, past-switch)

neither : (c d : Bool) (x y i : Insn) → c ≡ false → d ≡ false → (if c then x else if d then y else i) ≡ i
neither x d x2 y i a b = grind (arith)

past-form : (i : Insn) → 255 < i.op → with_operand i ≡ i
past-form i lt = grind (arith, nat_tests, neither)

plain-essence : (i j : Insn) (b : Bool) → b ≡ false → j ≡ i
    → (if b then record i { op = wide i.op; x = pos 0; len = 0 } else record j { len = 0 }) ≡ record i { len = 0 }
plain-essence i j x x2 y = grind (arith)

past-essence : (i : Insn) → 255 < i.op → essence i ≡ record i { len = 0 }
past-essence i lt = plain-essence i (with_operand i) (jumps i.op) (past-jumps i.op lt) (past-form i lt)

-- opcodes that are no byte have the row of what is unused
pub past-row : (op : ℕ) → 255 < op → row_at op ≡ unused
unfolding row_at table by_sort by_width by_kind first_four by_register literals binaries orders_all branching unused
past-row op lt = get_or_past table op unused lt

-- ---- opcode by opcode

module _ (x y z : ℤ) (len : ℕ) where
  abbrev insn : ℕ → Insn
  insn op = record { op = op; x = x; y = y; z = z; len = len }

  table-falls : map (λ op. falls (essence (insn op)).op) (range_with_len 0 256) ≡ map falls (range_with_len 0 256)
  unfolding layout_of opcode
  table-falls = refl

  table-jumps : map (λ op. jumps (essence (insn op)).op) (range_with_len 0 256) ≡ map jumps (range_with_len 0 256)
  unfolding layout_of opcode
  table-jumps = refl

  table-forms : (w : Linked) (m : MethodRec) (place : ℕ)
      → map (λ op. resolved w m place (essence (insn op)) (row_at (essence (insn op)).op)) (range_with_len 0 256)
      ≡ map (λ op. resolved w m place (insn op) (row_at op)) (range_with_len 0 256)
  unfolding layout_of opcode row_at table by_sort by_width by_kind first_four by_register literals binaries orders_all branching unused
  table-forms w m place = refl

pub falls-form : (i : Insn) → falls (essence i).op ≡ falls i.op
falls-form i = by-size i.op
    (λ lt. at-op (λ op. falls (essence (insn i.x i.y i.z i.len op)).op) falls (table-falls i.x i.y i.z i.len) i.op lt true)
    (λ lt. ap (λ j. falls j.op) (past-essence i lt))

pub jumps-form : (i : Insn) → jumps (essence i).op ≡ jumps i.op
jumps-form i = by-size i.op
    (λ lt. at-op (λ op. jumps (essence (insn i.x i.y i.z i.len op)).op) jumps (table-jumps i.x i.y i.z i.len) i.op lt true)
    (λ lt. ap (λ j. jumps j.op) (past-essence i lt))

-- ---- what an instruction resolves to

module _ (w : Linked) (m : MethodRec) where
  abbrev result : ℕ → Insn → Result Operation RuleFault
  result place i = resolved w m place i (row_at i.op)

  unused-alike : (place : ℕ) (i j : Insn) → resolved w m place i unused ≡ resolved w m place j unused
  unfolding unused
  unused-alike place i j = refl

  result-form : (place : ℕ) (i : Insn) → result place (essence i) ≡ result place i
  result-form place i = by-size i.op
      (λ lt. at-op (λ op. result place (essence (insn i.x i.y i.z i.len op))) (λ op. result place (insn i.x i.y i.z i.len op))
      (table-forms i.x i.y i.z i.len w m place) i.op lt (result place i))
      (λ lt. ap (λ j. result place j) (past-essence i lt)
      ∙ ap (λ row. resolved w m place (record i { len = 0 }) row) (past-row i.op lt)
      ∙ unused-alike place (record i { len = 0 }) i
      ∙ ap (λ row. resolved w m place i row) (sym (past-row i.op lt)))

  -- the same in one of its forms
  result-alike : (place : ℕ) (i j : Insn) → essence i ≡ essence j → result place i ≡ result place j
  result-alike place i j e = sym (result-form place i) ∙ ap (λ k. result place k) e ∙ result-form place j

  -- only what `new` makes rests on the place
  module _ (i : Insn) (place other : ℕ) where
    made : ℕ → Result Operation RuleFault
    made p = new_object w p (short_of i.x) (member_at w m.package (short_of i.x))

    table-moved : map (λ row. resolved w m other i row) table ≡ set (map (λ row. resolved w m place i row) table) 143 (made other)
    unfolding made table by_sort by_width by_kind first_four by_register literals binaries orders_all branching unused
    table-moved = refl

    unused-moved : resolved w m place i unused ≡ resolved w m other i unused
    unfolding unused
    unused-moved = refl

    elsewhere : i.op ≢ 143 → result place i ≡ result other i
    unfolding row_at
    elsewhere ne =
        sym (get_or-map (λ row. resolved w m place i row) table i.op unused)
        ∙ ap (λ d. get_or (map (λ row. resolved w m place i row) table) i.op d) unused-moved
        ∙ sym (get_or-set_other (map (λ row. resolved w m place i row) table) 143 i.op (made other) (resolved w m other i unused) ne)
        ∙ ap (λ rs. get_or rs i.op (resolved w m other i unused)) (sym table-moved)
        ∙ get_or-map (λ row. resolved w m other i row) table i.op unused

  new-row : (i : Insn) (place : ℕ) → resolved w m place i (row_at 143) ≡ new_object w place (short_of i.x) (member_at w m.package (short_of i.x))
  unfolding row_at table by_sort by_width by_kind first_four by_register literals binaries orders_all branching unused
  new-row i place = refl

  at-new : (i : Insn) (place : ℕ) → i.op ≡ 143 → result place i ≡ new_object w place (short_of i.x) (member_at w m.package (short_of i.x))
  at-new i place e = ap (λ op. resolved w m place i (row_at op)) e ∙ new-row i place

  made-renamed : (f : ℕ → ℕ) (place pool : ℕ) (o : Option Member) (op : Operation) → Ok op ≡ new_object w place pool o
      → Ok (operation_renamed f op) ≡ new_object w (f place) pool o
  made-renamed f place pool (Some (ClassOf c)) op e = by (is_concrete w.classes w.methods c) e
    where
      by : (b : Bool) → Ok op ≡ (if b then Ok (ops.New place c) else Err (NotConcrete c))
          → Ok (operation_renamed f op) ≡ (if b then Ok (ops.New (f place) c) else Err (NotConcrete c))
      by true e = let is : op ≡ ops.New place c = cc in ap (λ x. Ok (operation_renamed f x)) is
      by false e = absurd (cc)
  made-renamed f place pool _ op e = absurd (cc)

  -- what resolves alike at two places is no `new`
  no-new : (f : ℕ → ℕ) (op : Operation) → IsSound w m 0 op → IsSound w m 1 op → operation_renamed f op ≡ op
  no-new f x a b = grind (arith)

  module _ (sound : OperationsAreSound w) (declared : IfSome m.sig.result (IsDeclared w.classes)) where
    -- at another place of it an instruction has the operation that makes its objects there
    moved : (f : ℕ → ℕ) (place : ℕ) (i : Insn) (op : Operation) → Resolves w m place i (Ok op)
        → Resolves w m (f place) i (Ok (operation_renamed f op))
    moved f place i op e = by (i.op == 143) refl
      where
        by : (b : Bool) → (i.op == 143) ≡ b → Resolves w m (f place) i (Ok (operation_renamed f op))
        by true is =
            let new : i.op ≡ 143 = eqb-true i.op 143 is in
            made-renamed f place (short_of i.x) (member_at w m.package (short_of i.x)) op (e ∙ at-new i place new) ∙ sym (at-new i (f place) new)
        by false is =
            let other : i.op ≢ 143 = λ x. grind (arith, nat_tests, is, x) in
            ap (λ x. Ok x)
            (no-new f op (sound m 0 i op declared (e ∙ elsewhere i place 0 other)) (sound m 1 i op declared (e ∙ elsewhere i place 1 other)))
            ∙ e ∙ elsewhere i place (f place) other

    -- and so has the same instruction in another of its forms
    pub resolves-renamed : (f : ℕ → ℕ) (place : ℕ) (i j : Insn) (op : Operation) → essence i ≡ essence j → Resolves w m place j (Ok op)
        → Resolves w m (f place) i (Ok (operation_renamed f op))
    resolves-renamed f place i j op alike e = moved f place j op e ∙ sym (result-alike (f place) i j alike)
