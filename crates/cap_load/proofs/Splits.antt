-- Bytes are blocks and a rest in one way, and files and a rest in one way.
use Rattle.std.proofs.Common.{◌≡◌, ℕ, ◌+◌, ◌*◌, ◌<◌, List, [], ◌∷◌, ◌++◌, length, refl, sym, ap, subst, ◌∙◌, arith}
use Rattle.std.proofs.Common.{length-append, append_assoc}
use Rattle.std.proofs.lemmas.List.{append-nil}
use Rattle.std.specs.List.{AllByRecursion}
use Rattle.cap_components.specs.Parts.{Lent}
use Rattle.cap_load.specs.LoadFile.{IsBlock, IsFile, in_blocks, files_of}

-- two lists of one length before what is one list are one
pub fronts_same : (xs ys us vs : List ℕ) → length xs ≡ length ys → xs ++ us ≡ ys ++ vs → (xs ≡ ys) × (us ≡ vs)
fronts_same [] [] us vs l e = (refl, e)
fronts_same [] (y ∷ ys) us vs l e = absurd (omega arith)
fronts_same (x ∷ xs) [] us vs l e = absurd (omega arith)
fronts_same (x ∷ xs) (y ∷ ys) us vs l e =
    let behind : xs ++ us ≡ ys ++ vs = cc in
    let rest = fronts_same xs ys us vs (omega arith) behind in
    let front : xs ≡ ys = rest.0 in
    (cc, rest.1)

-- what is no whole block, nor begins with one: nothing, the ending and what follows it, or a front of a block
abbrev pub IsRest : List ℕ → Type 0
IsRest [] = Unit {0}
IsRest (size ∷ bytes) = 0 < size → length bytes < size

not_whole : (c more rest : List ℕ) → IsBlock c → IsRest (length c ∷ ((c ++ more) ++ rest)) → ⊥
not_whole c more rest block h = grind (arith, length-append)

pub one_split : (bs cs : List (List ℕ)) (r s : List ℕ) → AllByRecursion IsBlock bs → AllByRecursion IsBlock cs → IsRest r → IsRest s
    → in_blocks bs ++ r ≡ in_blocks cs ++ s → (bs ≡ cs) × (r ≡ s)
one_split [] [] r s bb cb rr rs e = (refl, e)
one_split [] (c ∷ cs) r s bb cb rr rs e = absurd (not_whole c (in_blocks cs) s cb.0 (subst IsRest e rr))
one_split (b ∷ bs) [] r s bb cb rr rs e = absurd (not_whole b (in_blocks bs) r bb.0 (subst IsRest (sym e) rs))
one_split (b ∷ bs) (c ∷ cs) r s bb cb rr rs e =
    let long : length b ≡ length c = cc in
    let contents : (b ++ in_blocks bs) ++ r ≡ (c ++ in_blocks cs) ++ s = cc in
    let first = fronts_same b c (in_blocks bs ++ r) (in_blocks cs ++ s) long
    (sym (append_assoc b (in_blocks bs) r) ∙ contents ∙ append_assoc c (in_blocks cs) s) in
    let rest = one_split bs cs r s bb.1 cb.1 rr rs first.1 in
    let same : b ≡ c = first.0 in
    let sames : bs ≡ cs = rest.0 in
    (cc, rest.1)

-- what is no whole file, nor begins with one
abbrev pub IsTail : List ℕ → Type 0
IsTail [] = Unit {0}
IsTail (tag ∷ []) = Unit {0}
IsTail (tag ∷ high ∷ []) = Unit {0}
IsTail (tag ∷ high ∷ low ∷ info) = length info < 256 * high + low

pub same_lent : (a b : ℕ) (x y : List ℕ) → a ≡ b → x ≡ y → (let l : Lent = record { part = a; bytes = x } in l)
    ≡ (let m : Lent = record { part = b; bytes = y } in m)
same_lent a b x y e h = cc

-- what stands before more bytes, as one list of cells
opened : (p : Lent) (f : IsFile p) (x : List ℕ) → p.bytes ++ x ≡ p.part ∷ f.high ∷ f.low ∷ (f.info ++ x)
opened p f x = ap (λ (b : List ℕ). b ++ x) f.bytes

pub same_file : (p q : Lent) (x y : List ℕ) → IsFile p → IsFile q → p.bytes ++ x ≡ q.bytes ++ y → (p ≡ q) × (x ≡ y)
same_file p q x y f g e = grind (arith, fronts_same, same_lent)

pub not_tail : (q : Lent) (x : List ℕ) → IsFile q → IsTail (q.bytes ++ x) → ⊥
not_tail q x f t = grind (arith, length-append)

pub files_split : (ps qs : List Lent) (s t : List ℕ) → AllByRecursion IsFile ps → AllByRecursion IsFile qs → IsTail s → IsTail t
    → files_of ps ++ s ≡ files_of qs ++ t → (ps ≡ qs) × (s ≡ t)
files_split [] [] s t fp fq ts te e = (refl, e)
files_split [] (q ∷ qs) s t fp fq ts te e = grind (arith, not_tail, append_assoc)
files_split (p ∷ ps) [] s t fp fq ts te e = grind (arith, not_tail, append_assoc)
files_split (p ∷ ps) (q ∷ qs) s t fp fq ts te e =
    let first = same_file p q (files_of ps ++ s) (files_of qs ++ t) fp.0 fq.0
    (sym (append_assoc p.bytes (files_of ps) s) ∙ e ∙ append_assoc q.bytes (files_of qs) t) in
    let rest = files_split ps qs s t fp.1 fq.1 ts te first.1 in
    let same : p ≡ q = first.0 in
    let sames : ps ≡ qs = rest.0 in
    (cc, rest.1)

-- whole files are of one list of parts
pub one_parse : (ps qs : List Lent) → AllByRecursion IsFile ps → AllByRecursion IsFile qs → files_of ps ≡ files_of qs → ps ≡ qs
one_parse ps qs fp fq e =
    (files_split ps qs [] [] fp fq (tt {0}) (tt {0}) (append-nil (files_of ps) ∙ e ∙ sym (append-nil (files_of qs)))).0
