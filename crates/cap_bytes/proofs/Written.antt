-- What is written item by item is spelled.
use Rattle.std.proofs.Common.{◌≡◌, ℕ, ◌+◌, ◌^◌, ◌<◌, List, [], ◌++◌, length, take, None, Option, refl, ap, subst, arith}
use Rattle.std.proofs.Common.{length-append, append_assoc}
use Rattle.std.proofs.lemmas.List.{drop_at, take_at, append-nil}
use Rattle.byteorder.specs.Endian.{big_bytes}
use Rattle.byteorder.specs.Numbers.{length-bytes_high_first}
use Rattle.cap_bytes.specs.declared.fault.FormKind.{FormKind}
use Rattle.cap_bytes.specs.Grammar.{Grammar, give, number, piece, finish, ◌>>=◌}
use Rattle.cap_bytes.specs.Spelling.{Spells, Stands}
use Rattle.cap_bytes.specs.Writing.{SpellsInPlace}
use Rattle.cap_bytes.proofs.Patches.{number_there}

pub writes_give : {X : Type 0} (total at : ℕ) (x : X) → SpellsInPlace total (give x) at [] x
unfolding Spells
writes_give total at x = record { there = λ before after l t. (refl, omega arith) }

pub writes_number : (total w n at : ℕ) (wrong : ℕ → Option FormKind) → n < 256 ^ w → wrong n ≡ None
    → SpellsInPlace total (number w wrong) at (big_bytes w n) n
unfolding Spells
writes_number total w n at wrong fits right = record {
  there = λ before after l t. (number_there w n at before after fits l, right, ap (λ k. at + k) (length-bytes_high_first w n));
}

pub writes_piece : (total n at : ℕ) (bytes : List ℕ) → length bytes ≡ n → SpellsInPlace total (piece n) at bytes bytes
unfolding Spells
writes_piece total n at bytes len = grind (arith, length-append, take, drop_at, take_at)

pub writes_finish : (total at : ℕ) → total ≡ at → SpellsInPlace total finish at [] (tt {0})
unfolding Spells
writes_finish total at e = grind (arith, length-append)

pub writes_then : {X Y : Type 0} (total at : ℕ) (g : Grammar X) (next : X → Grammar Y) (out rest : List ℕ) (x : X) (y : Y)
    → SpellsInPlace total g at out x → SpellsInPlace total (next x) (at + length out) rest y → SpellsInPlace total (g >>= next) at (out ++ rest) y
unfolding Spells
writes_then total at g next out rest x y first second = record {
  there = λ before after l t.
      let both = length-append out rest in
      let more = length-append rest after in
      let front = length-append before out in
      let one : Spells g (before ++ (out ++ (rest ++ after))) at x (at + length out) = first.there before (rest ++ after) l (omega arith) in
      let two : Spells (next x) ((before ++ out) ++ (rest ++ after)) (at + length out) y (at + length out + length rest) =
      second.there (before ++ out) after (omega arith) (omega arith) in
      let same : (before ++ out) ++ (rest ++ after) ≡ before ++ ((out ++ rest) ++ after) = simp append_assoc in
      let end : at + length out + length rest ≡ at + length (out ++ rest) = omega arith in (
        x,
        at + length out,
        rw append_assoc one,
        subst (λ (p : List ℕ × ℕ). Spells (next x) p.0 (at + length out) y p.1)
            {x = ((before ++ out) ++ (rest ++ after), at + length out + length rest)} {y = (before ++ ((out ++ rest) ++ after), at + length (out ++ rest))}
            (pair_is same end) two,
      );
}
  where
    pair_is : {a b : List ℕ} {m n : ℕ} → a ≡ b → m ≡ n → ◌≡◌ {A = List ℕ × ℕ} (a, m) (b, n)
    pair_is e d = rw (e, d) refl

-- bytes that spell a value whole stand for it
pub writes_stands : {X : Type 0} (g : Grammar X) (out : List ℕ) (x : X) → SpellsInPlace (length out) g 0 out x → Stands g out x
unfolding Stands
writes_stands g out x w =
    let s : Spells g (out ++ []) 0 x (0 + length out) = w.there [] [] refl (omega arith) in
    (0 + length out, subst (λ bytes. Spells g bytes 0 x (0 + length out)) (append-nil out) s)
