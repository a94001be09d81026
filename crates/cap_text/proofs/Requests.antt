-- A list of words asks for one thing: each number and each argument has one word.
use Rattle.std.proofs.Common.{◌≡◌, ℕ, ℤ, pos, negsuc, List, [], ◌∷◌, sym, ◌∙◌, ap, arith, rules, codes, drop, get_or, subst, refl, FitsSigned, w32}
use Rattle.std.specs.Prelude.{◌+◌, ◌*◌, Bool, true, false, length}
use Rattle.std.specs.Fmt.{signed_decimal}
use Rattle.std.specs.Str.Parse.{AllDigits}
use Rattle.std.proofs.lemmas.Fmt.{decimal_injective, signed_decimal_injective, decimal_is_IsNumeral}
use Rattle.std.proofs.lemmas.Bool.{eqb-false}
use Rattle.cap_text.specs.Word.{IsArgWord, AreArgWords}
use Rattle.cap_text.specs.OfDir.{IsOfDir}
use Rattle.cap_text.specs.OutOfDir.{OutOfDirRequest, IsOutOfDir}
use Rattle.cap_text.specs.OfDirs.{IsOfDirs}
use Rattle.cap_text.specs.Entry.{IsEntryWord}
use Rattle.cap_text.specs.Run.{RunRequest, AreRunWords}
use Rattle.cap_text.specs.OutOfDirs.{OutOfDirsRequest, IsOutOfDirs}
use Rattle.cap_text.specs.EntryWords.{EntryRequest, AreEntryWords}
use Rattle.cap_text.specs.Request.{Request, probe, show, list, asm, check, verify, defend, run, transform, share, trial, generate}
use Rattle.cap_text.specs.Request.{bound, pack, install, takes_arguments, IsRequest, IsUsage, NoneSuch, OneRequest}
use Rattle.cap_text.specs.declared.entry.Entry.{Entry}
use Rattle.vm_step.specs.Arguments.{Argument, number, null, bytes}
use Rattle.hex.specs.Hex.{encode_lower}
use Rattle.cap_listing.proofs.Apart.{hex-same}
use Rattle.cap_text.proofs.Numerals.{no_sign, no_null_sign}
use Rattle.cap_text.proofs.Entries.{entry_halves}

-- `null` is no number
no_null : (z : ℤ) → FitsSigned w32 z → codes "null" ≡ signed_decimal z → ⊥
no_null (pos n) fits e = absurd (omega (arith, (subst (AllDigits 10) (sym e) ((decimal_is_IsNumeral n (search rules)).0.1)).0))
no_null (negsuc n) fits e = let differ : 110 ≡ 45 = ap (λ (l : List ℕ). get_or l 0 0) e in omega (arith, differ)

one_argument : (word : List ℕ) (a b : Argument) → IsArgWord word a → IsArgWord word b → a ≡ b
one_argument word null null p q = refl
one_argument word null (number z) p q = absurd (no_null z q.1 (sym p ∙ q.0))
one_argument word null (bytes bs) p q = absurd (no_null_sign (encode_lower bs) (sym q.writes ∙ p))
one_argument word (number z) null p q = absurd (no_null z p.1 (sym q ∙ p.0))
one_argument word (number y) (number z) p q = ap number (signed_decimal_injective y z (search rules) (search rules) (sym p.0 ∙ q.0))
one_argument word (number z) (bytes bs) p q = absurd (no_sign z (encode_lower bs) p.1 (sym q.writes ∙ p.0))
one_argument word (bytes bs) null p q = absurd (no_null_sign (encode_lower bs) (sym p.writes ∙ q))
one_argument word (bytes bs) (number z) p q = absurd (no_sign z (encode_lower bs) q.1 (sym p.writes ∙ q.0))
one_argument word (bytes xs) (bytes ys) p q = ap bytes (hex-same xs ys p.are_bytes q.are_bytes (ap (drop 1) (sym p.writes ∙ q.writes)))

one_list : (words : List (List ℕ)) (xs ys : List Argument) → AreArgWords words xs → AreArgWords words ys → xs ≡ ys
one_list [] [] [] p q = refl
one_list [] [] (y ∷ ys) p q = absurd q
one_list [] (x ∷ xs) ys p q = absurd p
one_list (w ∷ ws) [] ys p q = absurd p
one_list (w ∷ ws) (x ∷ xs) [] p q = absurd q
one_list (w ∷ ws) (x ∷ xs) (y ∷ ys) p q = let head = one_argument w x y p.0 q.0 in let tail = one_list ws xs ys p.1 q.1 in cc

one_of_dir : (operands : List (List ℕ)) (d e : List ℕ) → IsOfDir operands d → IsOfDir operands e → d ≡ e
one_of_dir x d e is_d is_e = grind (arith)

one_out_of_dir : (operands : List (List ℕ)) (o p : OutOfDirRequest) → IsOutOfDir operands o → IsOutOfDir operands p → o ≡ p
one_out_of_dir x o p is_o is_p = grind (arith)

one_of_dirs : (operands : List (List ℕ)) (d e : List (List ℕ)) → IsOfDirs operands d → IsOfDirs operands e → d ≡ e
one_of_dirs operands d e is_d is_e = is_d.0 ∙ sym is_e.0

-- an entry has one word
one_entry : (word : List ℕ) (e f : Entry) → IsEntryWord word e → IsEntryWord word f → e ≡ f
one_entry word e f p q = grind (arith, entry_halves, decimal_injective)

one_run : (operands : List (List ℕ)) (r s : RunRequest) → AreRunWords operands r → AreRunWords operands s → r ≡ s
one_run x r s is_r is_s = grind (arith, decimal_injective, one_entry, one_list)

one_out_of_dirs : (operands : List (List ℕ)) (t u : OutOfDirsRequest) → IsOutOfDirs operands t → IsOutOfDirs operands u → t ≡ u
one_out_of_dirs x t u is_t is_u = grind (arith)

one_at_entry : (operands : List (List ℕ)) (e f : EntryRequest) → AreEntryWords operands e → AreEntryWords operands f → e ≡ f
one_at_entry x e f is_e is_f = grind (arith, one_entry)

-- ---- the commands' names are apart

first : List ℕ → ℕ
first [] = 0
first (x ∷ xs) = x

-- a name by its first letter and its length
key : List ℕ → ℕ
key name = 100 * first name + length name

-- that of the command
key_of : Request → ℕ
key_of (probe p) = 11205
key_of (show d) = 11504
key_of (list d) = 10804
key_of (asm o) = 9703
key_of (check d) = 9905
key_of (verify d) = 11806
key_of (defend r) = 10006
key_of (run r) = 11403
key_of (transform t) = 11609
key_of (share o) = 11505
key_of (trial r) = 11605
key_of (generate g) = 10303
key_of (bound e) = 9805
key_of (pack o) = 11204
key_of (install d) = 10507

named : (name : List ℕ) (operands : List (List ℕ)) (r : Request) → IsRequest (name ∷ operands) r → key name ≡ key_of r
unfolding first key key_of
named name operands x is = grind (arith, key)

-- words that begin with a command's name and are outside its grammar ask for nothing: the commands of one shape with their names
none_called : (name : List ℕ) (operands : List (List ℕ)) (called : List ℕ) → name ≡ called
    → ((r : Request) → key_of r ≡ key called → IsRequest (name ∷ operands) r → ⊥) → (r : Request) → IsRequest (name ∷ operands) r → ⊥
none_called name operands called is none r asks = none r (sym (named name operands r asks) ∙ ap key is) asks

-- whatever command it is, with arguments of a method or without
none_such : (takes : Bool) (words : List (List ℕ)) → ((r : Request) → IsRequest words r → ⊥) → NoneSuch takes words
none_such takes words none r e is = none r is

pub no_check : (name : List ℕ) (operands : List (List ℕ)) → name ≡ codes "check" → ((d : List (List ℕ)) → IsOfDirs operands d → ⊥)
    → NoneSuch false (name ∷ operands)
unfolding first key
no_check name operands is none = grind (arith, none_such, none_called, codes, eqb-false, key_of)

pub no_verify : (name : List ℕ) (operands : List (List ℕ)) → name ≡ codes "verify" → ((d : List (List ℕ)) → IsOfDirs operands d → ⊥)
    → NoneSuch false (name ∷ operands)
unfolding first key
no_verify name operands is none = grind (arith, none_such, none_called, codes, eqb-false, key_of)

pub no_install : (name : List ℕ) (operands : List (List ℕ)) → name ≡ codes "install" → ((d : List (List ℕ)) → IsOfDirs operands d → ⊥)
    → NoneSuch false (name ∷ operands)
unfolding first key
no_install name operands is none = grind (arith, none_such, none_called, codes, eqb-false, key_of)

-- where they ask for none with such arguments and for none without, they ask for nothing
pub none_at_all : (words : List (List ℕ)) → NoneSuch true words → NoneSuch false words → IsUsage words
none_at_all words with without r is = by (takes_arguments r) refl
  where
    by : (b : Bool) → takes_arguments r ≡ b → ⊥
    by true e = with r e is
    by false e = without r e is

pub one_request : (words : List (List ℕ)) → OneRequest words
unfolding key_of
one_request [] r s is_r is_s = absurd is_r
one_request (name ∷ operands) (probe p) (probe q) is_r is_s = grind (arith, decimal_injective, one_list)
one_request (name ∷ operands) (show d) (show e) is_r is_s = ap show (one_of_dir operands d e is_r.1 is_s.1)
one_request (name ∷ operands) (list d) (list e) is_r is_s = ap list (one_of_dir operands d e is_r.1 is_s.1)
one_request (name ∷ operands) (asm o) (asm p) is_r is_s = ap asm (one_out_of_dir operands o p is_r.1 is_s.1)
one_request (name ∷ operands) (check d) (check e) is_r is_s = ap check (one_of_dirs operands d e is_r.1 is_s.1)
one_request (name ∷ operands) (verify d) (verify e) is_r is_s = ap verify (one_of_dirs operands d e is_r.1 is_s.1)
one_request (name ∷ operands) (defend r) (defend s) is_r is_s = ap defend (one_run operands r s is_r.1 is_s.1)
one_request (name ∷ operands) (run r) (run s) is_r is_s = ap run (one_run operands r s is_r.1 is_s.1)
one_request (name ∷ operands) (transform t) (transform u) is_r is_s = ap transform (one_out_of_dirs operands t u is_r.1 is_s.1)
one_request (name ∷ operands) (share o) (share p) is_r is_s = ap share (one_out_of_dirs operands o p is_r.1 is_s.1)
one_request (name ∷ operands) (trial r) (trial s) is_r is_s = ap trial (one_run operands r s is_r.1 is_s.1)
one_request (name ∷ operands) (generate g) (generate h) is_r is_s = grind (arith, decimal_injective)
one_request (name ∷ operands) (bound e) (bound f) is_r is_s = ap bound (one_at_entry operands e f is_r.1 is_s.1)
one_request (name ∷ operands) (pack o) (pack p) is_r is_s = ap pack (one_out_of_dir operands o p is_r.1 is_s.1)
one_request (name ∷ operands) (install d) (install e) is_r is_s = ap install (one_of_dirs operands d e is_r.1 is_s.1)
one_request (name ∷ operands) r s is_r is_s = grind (arith, eqb-false, key_of, named)
