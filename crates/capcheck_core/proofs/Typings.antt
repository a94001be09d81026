-- The methods with code of the last package, one after the other.
use Rattle.std.proofs.Common.{count_by, ◌≡◌, ◌⊎◌, ℕ, ◌+◌, ◌<◌, ◌≤◌, Bool, true, false, List, length, take, Option, Some, None}
use Rattle.std.proofs.Common.{option_map, slice_get, refl, arith}
use Rattle.std.specs.Prelude.{IsSomeAnd, codes, ◌==◌, nat_lt}
use Rattle.std.proofs.lemmas.Bool.{eq-eqb, eqb-true, lt-ltb, and_parts}
use Rattle.std.proofs.lemmas.List.{take_all}
use Rattle.std.proofs.lemmas.List.Sums.{count_by_more_yes, count_by_more_no}
use Rattle.std.specs.Int.{from_bool}
use Rattle.std.proofs.Math.Nat.{eq-or-lt_of_le}
use Rattle.std.proofs.lemmas.Option.{slice_get_within, get_or_from_slice_get}
use Rattle.jc_base.specs.declared.record.MethodRec.{MethodRec}
use Rattle.jc_base.specs.World.{Linked}
use Rattle.jc_control.specs.Method.{IsMethodOf, method_with}
use Rattle.jc_flow.specs.declared.inference.FlowEnd.{FlowEnd}
use Rattle.jc_flow.specs.declared.inference.FlowEnd.TheVariants.{Memory}
use Rattle.jc_flow.specs.Infer.{TellsEnd, LacksTyping}
use Rattle.cap_text.specs.declared.line.MethodNumber.{MethodNumber}
use Rattle.cap_text.specs.Line.{methods_line, refused_flow_line}
use Rattle.law_laid.proofs.Methods.{known}
use Rattle.capcheck_core.specs.Typed.{is_of_last, AreTypedBelow, numbers_of_method, TellsTyped, TellsUntyped}
use Rattle.capcheck_core.specs.CheckEnds.{IsTypedMethod, FailsMethod}

-- ---- the test of the last package

passes : (packages : ℕ) (rec : MethodRec) → rec.package + 1 ≡ packages → 0 < rec.code_len → is_of_last packages rec ≡ true
passes packages rec last code = let a = eq-eqb (rec.package + 1) packages last in let b = lt-ltb 0 rec.code_len code in rw (a, b) refl

failed : (w : Linked) (n : ℕ) (end : FlowEnd) (o : Option MethodRec) → slice_get w.methods n ≡ o → option_map (is_of_last (length w.infos)) o
    ≡ Some true
    → IsSomeAnd (option_map (method_with w n) o) (IsMethodOf w) → IsSomeAnd (option_map (method_with w n) o) (λ m. LacksTyping w m end)
    → IsSomeAnd (option_map (method_with w n) o) (λ m. TellsEnd w m end) → FailsMethod w n end
failed w n end None at e is none tells = absurd is
failed w n end (Some rec) at e is none tells =
    let test : is_of_last (length w.infos) rec ≡ true = cc in
    record {
      method = method_with w n rec;
      number = refl;
      of_last =
          record {
            method = is;
            last = eqb-true (rec.package + 1) (length w.infos) (and_parts (rec.package + 1 == length w.infos) (nat_lt 0 rec.code_len) test).0;
          };
      none = none;
      tells = tells;
    }

-- ---- all of them

split : (m n : ℕ) → m < n + 1 → (m ≡ n) ⊎ (m < n)
split m n below = eq-or-lt_of_le (omega (arith, below))

pub one_more : (w : Linked) (n : ℕ) → AreTypedBelow w n → IsTypedMethod w n → AreTypedBelow w (n + 1)
one_more w n typed at = grind (arith, split)

-- ---- the count of them

pub counted : (p : MethodRec → Bool) (xs : List MethodRec) (n : ℕ) (o : Option MethodRec) (asked : Bool) → slice_get xs n ≡ o
    → option_map p o ≡ Some asked
    → count_by p (take (n + 1) xs) ≡ count_by p (take n xs) + from_bool asked
counted p xs n None asked at e = absurd cc
counted p xs n (Some x) true at e = grind (arith, slice_get_within xs n x at, get_or_from_slice_get xs n x x at, count_by_more_yes)
counted p xs n (Some x) false at e = grind (arith, slice_get_within xs n x at, get_or_from_slice_get xs n x x at, count_by_more_no)

pub one_counted : (w : Linked) (n count one : ℕ) (asked : Bool) → option_map (is_of_last (length w.infos)) (slice_get w.methods n) ≡ Some asked
    → one ≡ from_bool asked
    → count ≡ count_by (is_of_last (length w.infos)) (take n w.methods) → count + one ≡ count_by (is_of_last (length w.infos)) (take (n + 1) w.methods)
one_counted w n count one asked e is before = grind (arith, counted, length, slice_get)

-- ---- the verdicts

-- the method that was not typed is the first
pub first_untyped : (w : Linked) (n : ℕ) (end : FlowEnd) (number : MethodNumber) (text : List ℕ) → AreTypedBelow w n → FailsMethod w n end
    → (end ≡ Memory → ⊥)
    → option_map numbers_of_method (slice_get w.methods n) ≡ Some number → text ≡ refused_flow_line number end → TellsUntyped w text
first_untyped w n end number text earlier f known named prints = grind (arith, slice_get, option_map, known)

-- all of them are typed
pub all_typed : (w : Linked) (n count : ℕ) (text : List ℕ) → AreTypedBelow w n → length w.methods ≤ n
    → count ≡ count_by (is_of_last (length w.infos)) (take n w.methods)
    → text ≡ methods_line (codes "typed ") count → TellsTyped w text
all_typed w n count text typed past counts prints = grind (arith, count_by, length, take_all, slice_get_within)
