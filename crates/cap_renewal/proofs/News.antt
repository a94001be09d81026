-- The numbers of methods that are written anew.
use Rattle.std.proofs.Common.{◌<◌, ℕ, zero, suc, List, [], ◌∷◌, ◌++◌, Option, Some, None, arith}
use Rattle.cap_renewal.specs.declared.new_methods.NewMethod.{NewMethod}
use Rattle.cap_desc.specs.DescriptorFormat.{MethodDescriptor}
use Rattle.cap_renewal.specs.NewMethods.{at_offset, offset_or, to, numbers_or, new_numbers, IsSmall, IsSmallIf, AreSmall, KeepsSmall}

small_or : (n : Option NewMethod) (o : ℕ) → IsSmallIf n → o < 65536 → offset_or o n < 65536
small_or x o s h = grind (arith)

pub keeps_small : (news : List (Option NewMethod)) → AreSmall news → KeepsSmall (to news)
unfolding to
keeps_small news s = record { each = λ o h. small_or (at_offset news o) o (s.each o) h }

pub none_small : AreSmall []
none_small = record { each = λ o. tt }

push_small : (news : List (Option NewMethod)) (m : Option NewMethod) → IsSmallIf m → AreSmall news → AreSmall (news ++ m ∷ [])
push_small news m s all = record { each = λ o. by news o (λ k. all.each k) }
  where
    by : (xs : List (Option NewMethod)) (o : ℕ) → ((k : ℕ) → IsSmallIf (at_offset xs k)) → IsSmallIf (at_offset (xs ++ m ∷ []) o)
    by [] zero each = s
    by [] (suc o) each = tt
    by (x ∷ xs) zero each = each 0
    by (x ∷ xs) (suc o) each = by xs o (λ k. each (suc k))

pub one_small : (news : List (Option NewMethod)) (m : NewMethod) → AreSmall news → m.offset < 65536 → m.bytecode_count < 65536
    → m.handler_count < 65536 → m.handler_index < 65536 → AreSmall (news ++ Some m ∷ [])
one_small news m all a b c d = push_small news (Some m) (record { offset = a; bytecode_count = b; handler_count = c; handler_index = d }) all

pub no_more : (news : List (Option NewMethod)) → AreSmall news → AreSmall (news ++ None ∷ [])
no_more news all = push_small news None tt all

small_by : (m : MethodDescriptor) (n : Option NewMethod) → IsSmallIf n → m.method_offset < 65536 → m.bytecode_count < 65536
    → m.handler_count < 65536 → m.handler_index < 65536 → IsSmall (numbers_or m n)
small_by m y s a b c d = grind (arith)

pub small_numbers : (news : List (Option NewMethod)) (m : MethodDescriptor) → AreSmall news → m.method_offset < 65536 → m.bytecode_count < 65536
    → m.handler_count < 65536 → m.handler_index < 65536 → IsSmall (new_numbers news m)
unfolding new_numbers
small_numbers news m s a b c d = small_by m (at_offset news m.method_offset) (s.each m.method_offset) a b c d
