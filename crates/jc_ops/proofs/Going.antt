-- An operation falls and jumps as its instruction does.
use Rattle.std.proofs.Common.{◌≡◌, ℕ, zero, suc, ◌+◌, ◌<◌, Bool, true, false, if◌then◌else◌, List, [], ◌∷◌, length, map, get_or}
use Rattle.std.proofs.Common.{Option, Some, Result, Ok, Err, refl, ◌∙◌, ap, subst, arith}
use Rattle.std.specs.List.{range_with_len}
use Rattle.std.proofs.lemmas.List.FromFn.{get_or-range_with_len}
use Rattle.jc_base.specs.declared.record.Member.{Member}
use Rattle.jc_base.specs.declared.record.Member.TheVariants.{ClassOf}
use Rattle.jc_base.specs.declared.record.MethodRec.{MethodRec}
use Rattle.jc_base.specs.Dispatch.{is_concrete}
use Rattle.jc_base.specs.World.{Linked}
use Rattle.jc_decode.specs.declared.insn.Insn.{Insn}
use Rattle.jc_decode.specs.Layout.{layout_of, opcode}
use Rattle.jc_decode.specs.Listing.{falls, jumps}
use Rattle.jc_ops.specs.declared.fault.RuleFault.{RuleFault}
use Rattle.jc_ops.specs.declared.fault.RuleFault.TheVariants.{NotConcrete}
use Rattle.jc_ops.specs.declared.operation.Operation.{Operation}
use Rattle.jc_ops.specs.declared.operation.Operation.TheVariants as ops
use Rattle.jc_ops.specs.declared.row.Row.{Row}
use Rattle.jc_ops.specs.declared.row.Row.TheVariants as rows
use Rattle.jc_ops.specs.Row.{table, row_at, unused, by_sort, by_width, by_kind, first_four, by_register, literals, binaries, orders_all, branching}
use Rattle.jc_ops.specs.Resolve.{on, callee, new_object, resolved}
use Rattle.jc_ops.specs.Next.{falls_from, jumps_from, OperationsGoAlike}
use Rattle.jc_base.specs.World.{member_at}
use Rattle.jc_ops.specs.Resolve.{byte_of, short_of, static_field, instance_field, class_type, tested_type, result_returned}

-- as the row of an opcode has it
row_falls : Row → Bool
row_falls (rows.Plain op) = falls_from op
row_falls (rows.Return s) = false
row_falls _ = true

row_jumps : Row → Bool
row_jumps (rows.Plain op) = jumps_from op
row_jumps _ = false

table-falls : map row_falls table ≡ map falls (range_with_len 0 256)
unfolding row_falls table by_sort by_width by_kind first_four by_register literals binaries orders_all branching unused
table-falls = refl

table-jumps : map row_jumps table ≡ map jumps (range_with_len 0 256)
unfolding row_jumps table by_sort by_width by_kind first_four by_register literals binaries orders_all branching unused layout_of opcode
table-jumps = refl

-- an element of two lists that are mapped alike
mapped-alike : {A B C : Type 0} (f : A → C) (g : B → C) (xs : List A) (ys : List B) (n : ℕ) (a : A) (b : B) → map f xs ≡ map g ys
    → n < length ys → f (get_or xs n a) ≡ g (get_or ys n b)
mapped-alike f g [] [] n a b e lt = absurd (omega arith)
mapped-alike f g [] (y ∷ ys) n a b e lt = absurd (cc)
mapped-alike f g (x ∷ xs) [] n a b e lt = absurd (omega arith)
mapped-alike f g (x ∷ xs) (y ∷ ys) zero a b e lt = cc
mapped-alike f g (x ∷ xs) (y ∷ ys) (suc n) a b e lt = let rest : map f xs ≡ map g ys = cc in mapped-alike f g xs ys n a b rest (omega arith)

in_range : (n : ℕ) → n < 256 → n < length (range_with_len 0 256)
in_range n lt = lt

number-at : (n : ℕ) → n < 256 → get_or (range_with_len 0 256) n 0 ≡ n
number-at n lt = let e : get_or (range_with_len 0 256) n 0 ≡ 0 + n = get_or-range_with_len 0 256 n 0 lt in omega arith

row-falls : (n : ℕ) → n < 256 → row_falls (row_at n) ≡ falls n
unfolding row_at
row-falls n lt = mapped-alike row_falls falls table (range_with_len 0 256) n unused 0 table-falls (in_range n lt) ∙ ap falls (number-at n lt)

row-jumps : (n : ℕ) → n < 256 → row_jumps (row_at n) ≡ jumps n
unfolding row_at
row-jumps n lt = mapped-alike row_jumps jumps table (range_with_len 0 256) n unused 0 table-jumps (in_range n lt) ∙ ap jumps (number-at n lt)

-- a fact of each operation that is made, of the one that is
on-made : {X : Type 0} (P : Operation → Type 0) (make : X → Operation) (r : Result X RuleFault) (op : Operation) → ((x : X) → P (make x))
    → ◌≡◌ {A = Result Operation RuleFault} (Ok op) (on make r) → P op
on-made P make (Ok x) op all e = let is_op : make x ≡ op = cc in subst P is_op (all x)
on-made P make (Err fault) op all e = absurd (cc)

ok-made : (P : Operation → Type 0) (made op : Operation) → P made → ◌≡◌ {A = Result Operation RuleFault} (Ok op) (Ok made) → P op
ok-made P made op h e = let is_op : made ≡ op = cc in subst P is_op h

new-made : (P : Operation → Type 0) (w : Linked) (place pool : ℕ) (o : Option Member) (op : Operation) → ((c : ℕ) → P (ops.New place c))
    → ◌≡◌ {A = Result Operation RuleFault} (Ok op) (new_object w place pool o) → P op
new-made P w place pool (Some (ClassOf c)) op all h = go (is_concrete w.classes w.methods c) h
  where
    go : (b : Bool) → ◌≡◌ {A = Result Operation RuleFault} (Ok op) (if b then Ok (ops.New place c) else Err (NotConcrete c)) → P op
    go true e = ok-made P (ops.New place c) op (all c) e
    go false e = absurd (cc)
new-made P w place pool _ op all h = absurd (cc)

module _ (w : Linked) (m : MethodRec) (place : ℕ) (i : Insn) (op : Operation) where
  goes : (row : Row) → ◌≡◌ {A = Result Operation RuleFault} (Ok op) (resolved w m place i row) → (falls_from op ≡ row_falls row)
      × (jumps_from op ≡ row_jumps row)
  unfolding row_falls row_jumps
  goes (rows.Plain made) h = ok-made (λ x. (falls_from x ≡ falls_from made) × (jumps_from x ≡ jumps_from made)) made op (refl, refl) h
  goes rows.PushShort h = ok-made (λ x. (falls_from x ≡ true) × (jumps_from x ≡ false)) _ op (refl, refl) h
  goes rows.PushInt h = ok-made (λ x. (falls_from x ≡ true) × (jumps_from x ≡ false)) _ op (refl, refl) h
  goes (rows.Load s) h = ok-made (λ x. (falls_from x ≡ true) × (jumps_from x ≡ false)) _ op (refl, refl) h
  goes (rows.Store s) h = ok-made (λ x. (falls_from x ≡ true) × (jumps_from x ≡ false)) _ op (refl, refl) h
  goes (rows.Increment width) h = ok-made (λ x. (falls_from x ≡ true) × (jumps_from x ≡ false)) _ op (refl, refl) h
  goes rows.CopyUnder h = ok-made (λ x. (falls_from x ≡ true) × (jumps_from x ≡ false)) _ op (refl, refl) h
  goes rows.Exchange h = ok-made (λ x. (falls_from x ≡ true) × (jumps_from x ≡ false)) _ op (refl, refl) h
  goes rows.NewNumbers h = ok-made (λ x. (falls_from x ≡ true) × (jumps_from x ≡ false)) _ op (refl, refl) h
  goes rows.New h =
      new-made (λ x. (falls_from x ≡ true) × (jumps_from x ≡ false)) w place (short_of i.x) (member_at w m.package (short_of i.x)) op
      (λ c. (refl, refl)) h
  goes (rows.StaticRead k) h =
      on-made (λ x. (falls_from x ≡ true) × (jumps_from x ≡ false)) ops.StaticRead
      (static_field (short_of i.x) k (member_at w m.package (short_of i.x))) op (λ x. (refl, refl)) h
  goes (rows.StaticWrite k) h =
      on-made (λ x. (falls_from x ≡ true) × (jumps_from x ≡ false)) ops.StaticWrite
      (static_field (short_of i.x) k (member_at w m.package (short_of i.x))) op (λ x. (refl, refl)) h
  goes (rows.FieldRead k holder) h =
      on-made (λ x. (falls_from x ≡ true) × (jumps_from x ≡ false)) (λ f. ops.FieldRead f holder)
      (instance_field w.classes (short_of i.x) k (member_at w m.package (short_of i.x))) op (λ x. (refl, refl)) h
  goes (rows.FieldWrite k holder) h =
      on-made (λ x. (falls_from x ≡ true) × (jumps_from x ≡ false)) (λ f. ops.FieldWrite f holder)
      (instance_field w.classes (short_of i.x) k (member_at w m.package (short_of i.x))) op (λ x. (refl, refl)) h
  goes (rows.Call by) h = on-made (λ x. (falls_from x ≡ true) × (jumps_from x ≡ false)) ops.Call (callee w m.package i by) op (λ x. (refl, refl)) h
  goes rows.NewReferences h =
      on-made (λ x. (falls_from x ≡ true) × (jumps_from x ≡ false)) ops.NewArray (class_type _ (short_of i.x) (member_at w m.package (short_of i.x)))
      op (λ x. (refl, refl)) h
  goes (rows.TypeTest test) h =
      on-made (λ x. (falls_from x ≡ true) × (jumps_from x ≡ false)) (ops.TypeTest test)
      (tested_type (byte_of i.x) (short_of i.y) (member_at w m.package (short_of i.y))) op (λ x. (refl, refl)) h
  goes (rows.Return sort) h =
      on-made (λ x. (falls_from x ≡ false) × (jumps_from x ≡ false)) ops.Return (result_returned w.classes sort m.sig.result) op (λ x. (refl, refl))
      h

pub operations-go-alike : (w : Linked) → OperationsGoAlike w
operations-go-alike w m place i op lt h =
    let g = goes w m place i op (row_at i.op) h in
    record { falls_alike = g.0 ∙ row-falls i.op lt; jumps_alike = g.1 ∙ row-jumps i.op lt }
