-- The methods with code of all packages, as the verifier on the card answers for them.
use Rattle.std.proofs.Common.{◌≡◌, ℕ, ◌+◌, ◌<◌, ◌≤◌, Bool, List, length, take, Option, Some, option_map, slice_get, count_by}
use Rattle.std.proofs.Common.{ap, ◌∙◌, arith}
use Rattle.std.specs.Prelude.{IfSome, codes}
use Rattle.std.specs.Int.{from_bool}
use Rattle.std.proofs.lemmas.List.{take_all}
use Rattle.std.proofs.lemmas.Option.{slice_get_within}
use Rattle.cap_index.specs.Indexes.{has_code}
use Rattle.jc_base.specs.declared.record.MethodRec.{MethodRec}
use Rattle.jc_base.specs.World.{Linked, code_of}
use Rattle.card_typing.specs.declared.fault.CardFault.{CardFault}
use Rattle.jc_base.specs.declared.ty.Ty.TheVariants.{Bottom}
use Rattle.law_sound.specs.Soundness.{IsFaultFree, TypedCodeIsFaultFree}
use Rattle.card_verify.specs.Answers.{AreAccepted, IsFirstRefused}
use Rattle.cap_text.specs.declared.line.MethodNumber.{MethodNumber}
use Rattle.cap_text.specs.Line.{methods_line, refused_card_line}
use Rattle.capcheck_core.specs.declared.verdict.Verdict.{Verdict}
use Rattle.card_verify.proofs.Accepting.{accepted-typed}
use Rattle.xf_last.proofs.Passing.{all-carded, below-carded}
use Rattle.capcheck_core.specs.Typed.{numbers_of_method}
use Rattle.xf_share.specs.Ends.{HaveCardTypings}
use Rattle.capcheck_core.specs.Verify.{TellsAccepted, TellsRefused, StopsAtRefused, AcceptsWorld}
use Rattle.capcheck_core.proofs.Typings.{counted}

-- where all are accepted no run meets a fault
pub accepted_free : (w : Linked) → AreAccepted w → TypedCodeIsFaultFree w → IsFaultFree w
accepted_free w all free = free Bottom (accepted-typed w all)

-- the text says how many are accepted
pub carded : (w : Linked) (count : ℕ) (text : List ℕ) → AreAccepted w → TypedCodeIsFaultFree w → count ≡ count_by has_code w.methods
    → text ≡ methods_line (codes "accepted ") count → TellsAccepted w text
carded w count text all free counts prints =
    record { carded = all-carded w all; fault_free = accepted_free w all free; prints = prints ∙ ap (methods_line (codes "accepted ")) counts }

-- ---- the count of them

pub one_counted : (w : Linked) (n count one : ℕ) (asked : Bool) → option_map has_code (slice_get w.methods n) ≡ Some asked → one ≡ from_bool asked
    → count ≡ count_by has_code (take n w.methods) → count + one ≡ count_by has_code (take (n + 1) w.methods)
one_counted w n count one asked e is before = grind (arith, counted, slice_get)

pub all_counted : (w : Linked) (n count : ℕ) → length w.methods ≤ n → count ≡ count_by has_code (take n w.methods) → count ≡ count_by has_code w.methods
all_counted w n count past counts = counts ∙ ap (count_by has_code) (take_all n w.methods past)

-- ---- the first that is refused

filled : (w : Linked) (o : Option MethodRec) (rec : MethodRec) (code : List ℕ) → o ≡ Some rec → option_map (code_of w.infos) o ≡ Some code
    → IfSome o (λ m. length code ≡ m.code_len) → 0 < rec.code_len → 0 < length (code_of w.infos rec)
filled w x rec code at is long some = grind (arith, length)

pub first_uncarded : (w : Linked) (n : ℕ) (fault : CardFault) (code : List ℕ) (number : MethodNumber) (text : List ℕ) → IsFirstRefused w n fault
    → option_map (code_of w.infos) (slice_get w.methods n) ≡ Some code → IfSome (slice_get w.methods n) (λ m. length code ≡ m.code_len)
    → option_map numbers_of_method (slice_get w.methods n) ≡ Some number → text ≡ refused_card_line number fault → TellsRefused w text
first_uncarded w n fault code number text f is long named prints = grind (arith, option_map, filled, slice_get, below-carded)

-- where each method with code has a card typing, none is refused
pub none_refused : (w : Linked) (n : ℕ) (fault : CardFault) (code : List ℕ) → HaveCardTypings w → IsFirstRefused w n fault
    → option_map (code_of w.infos) (slice_get w.methods n) ≡ Some code → IfSome (slice_get w.methods n) (λ m. length code ≡ m.code_len) → ⊥
none_refused w n fault code carded f is long = grind (arith, carded, filled, slice_get)

pub number_below : (w : Linked) (n : ℕ) (fault : CardFault) → IsFirstRefused w n fault → n < length w.methods
number_below w n fault f = slice_get_within w.methods n f.here.rec f.here.is

-- where a method is refused, that is the verdict for the world
pub refused_world : (w : Linked) (verdict : Verdict) → StopsAtRefused w verdict → AcceptsWorld w verdict
refused_world w x stops = grind (arith)
