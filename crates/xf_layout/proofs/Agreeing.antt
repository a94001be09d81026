-- Code that is laid for symbols in its shortest bytes has the plain size of these.
use Rattle.std.proofs.Common.{◌≡◌, ◌<◌, ◌+◌, ℕ, suc, Bool, true, false, cond, pos, ℤ, List, [], ◌∷◌, length, refl, sym, ap, ◌∙◌}
use Rattle.std.proofs.Common.{arith, map, All}
use Rattle.std.specs.Prelude.{not, ◌||◌, replicate, if◌then◌else◌}
use Rattle.std.specs.List.{range_with_len}
use Rattle.std.proofs.lemmas.Bool.{not-true}
use Rattle.std.proofs.lemmas.Bool.Decides.{nat_tests}
use Rattle.std.proofs.lemmas.List.Elements.{All-head, All-tail}
use Rattle.std.proofs.lemmas.List.Sums.{sum_by-cons}
use Rattle.jc_decode.specs.declared.insn.Insn.{Insn}
use Rattle.jc_decode.specs.declared.insn.Placed.{Placed}
use Rattle.jc_decode.specs.declared.symbols.Item.{Item}
use Rattle.jc_decode.specs.declared.symbols.Item.TheVariants.{Plain, Branch, Switch, Label}
use Rattle.jc_decode.specs.declared.symbols.Laid.{Laid}
use Rattle.jc_decode.specs.declared.symbols.Symbols.{Symbols}
use Rattle.jc_decode.specs.Cases.{is_switch}
use Rattle.jc_decode.specs.CodeSize.{plain_code_size, plain_sum}
use Rattle.jc_decode.specs.Forms.{bytes_by, essence, is_register_move, is_wide_jump, length_of, plain_length, wide, with_operand}
use Rattle.jc_decode.specs.Layout.{layout_of, opcode}
use Rattle.jc_decode.specs.Listing.{end_from, is_branch, jumps, listing}
use Rattle.jc_decode.specs.Standing.{AreSteps}
use Rattle.jc_decode.specs.Symbols.{Step, IsItem, jump, plain_bytes, plain_size, steps, steps_in}
use Rattle.jc_decode.proofs.Passed.{passed-at, or-rest, at-op, by-size}
use Rattle.xf_layout.specs.declared.form.Form.{Form}
use Rattle.xf_layout.specs.declared.form.Form.TheVariants.{Fixed, Jump, Mark}
use Rattle.xf_layout.specs.Form.{AreForms, form_bytes, instruction_place}
use Rattle.xf_layout.specs.Shortest.{StandsShortest}
use Rattle.xf_layout.proofs.Stood.{IsShifted, instruction-start, shifted-next, shifted-start}

-- ---- plain lengths by opcode

-- the plain length of an instruction that is no switch
plain_by : ℕ → ℕ
plain_by op = if is_register_move op then 2 else if is_branch op then 3 else bytes_by (layout_of op)

module _ (x y z : ℤ) (len : ℕ) where
  abbrev insn : ℕ → Insn
  insn op = record { op = op; x = x; y = y; z = z; len = len }

  table-plain : map (λ op. plain_by (essence (insn op)).op) (range_with_len 0 256) ≡ map plain_by (range_with_len 0 256)
  unfolding layout_of opcode plain_by
  table-plain = refl

  table-switch : map (λ op. is_switch (essence (insn op)).op) (range_with_len 0 256) ≡ map is_switch (range_with_len 0 256)
  unfolding layout_of opcode
  table-switch = refl

-- what is no byte has one form
past-essence : (i : Insn) → 255 < i.op → (essence i).op ≡ i.op
past-essence i lt = by (jumps i.op)
  where
    by : (b : Bool) → (cond b (record i { op = wide i.op; x = pos 0; len = 0 }) (record (with_operand i) { len = 0 })).op ≡ i.op
    by true = grind (arith, nat_tests, lt)
    by false = grind (arith, nat_tests, lt)

plain-form : (i : Insn) → plain_by (essence i).op ≡ plain_by i.op
plain-form i = by-size i.op (λ lt. at-op (λ op. plain_by (essence (insn i.x i.y i.z i.len op)).op) plain_by (table-plain i.x i.y i.z i.len) i.op lt 0)
    (λ lt. ap plain_by (past-essence i lt))

switch-form : (i : Insn) → is_switch (essence i).op ≡ is_switch i.op
switch-form i =
    by-size i.op (λ lt. at-op (λ op. is_switch (essence (insn i.x i.y i.z i.len op)).op) is_switch (table-switch i.x i.y i.z i.len) i.op lt true)
    (λ lt. ap is_switch (past-essence i lt))

-- a load or store of a register is no switch, nor is a branch
abbrev moves_on : ℕ → Bool
moves_on op = not (is_register_move op || is_branch op) || not (is_switch op)

moves_on-all : map moves_on (range_with_len 0 256) ≡ replicate 256 true
unfolding layout_of opcode
moves_on-all = refl

no-switch : (op : ℕ) → (is_register_move op || is_branch op) ≡ true → is_switch op ≡ false
no-switch op e =
    not-true (is_switch op) (or-rest (is_register_move op || is_branch op) _ (passed-at moves_on moves_on-all op (grind (arith, nat_tests, e))) e)

plain-split : (i : Insn) → plain_length i ≡ cond (is_switch i.op) i.len (plain_by i.op)
unfolding plain_by
plain-split i = by (is_register_move i.op) refl (is_branch i.op) refl
  where
    by : (a : Bool) → is_register_move i.op ≡ a → (b : Bool) → is_branch i.op ≡ b
        → cond a 2 (cond b 3 (length_of i)) ≡ cond (is_switch i.op) i.len (cond a 2 (cond b 3 (bytes_by (layout_of i.op))))
    by true e b f = rw (no-switch i.op (rw e refl)) refl
    by false e true f = rw (no-switch i.op (rw (e, f) refl)) refl
    by false e false f = refl

-- two forms of an instruction have one plain length, where a switch has one length
same-plain : (i j : Insn) → essence i ≡ essence j → (is_switch j.op ≡ true → i.len ≡ j.len) → plain_length i ≡ plain_length j
same-plain i j same long = plain-split i ∙ by (is_switch j.op) refl ∙ sym (plain-split j)
  where
    op : (essence i).op ≡ (essence j).op
    op = ap (λ (k : Insn). k.op) same

    alike : is_switch i.op ≡ is_switch j.op
    alike = sym (switch-form i) ∙ ap is_switch op ∙ switch-form j

    by : (b : Bool) → is_switch j.op ≡ b → cond (is_switch i.op) i.len (plain_by i.op) ≡ cond (is_switch j.op) j.len (plain_by j.op)
    by true e = rw (alike, e) (long e)
    by false e = rw (alike, e) (sym (plain-form i) ∙ ap plain_by op ∙ plain-form j)

-- ---- steps

wide-branches : (op : ℕ) → is_wide_jump op ≡ true → is_branch op ≡ true
wide-branches op e = grind (arith, nat_tests, e)

wide-moves : (op : ℕ) → is_wide_jump op ≡ true → is_register_move op ≡ false
wide-moves op e = grind (arith, nat_tests, e)

none-true : (b : Bool) → b ≡ false → b ≡ true → ⊥
none-true x e f = grind (arith)

right-false : (a b : Bool) → not (a || b) ≡ true → b ≡ false
right-false x b e = grind (arith)

module _ (code : List ℕ) (to : ℕ → ℕ) where
  -- how long an instruction is that begins at one place and ends at the next
  long : (n here b : ℕ) (f : Form) (fs : List Form) (p : Placed) → IsShifted to n here (f ∷ fs) → IsShifted to (suc n) (here + b) fs
      → p.place ≡ to n → p.place + p.insn.len ≡ to (suc n) → p.insn.len ≡ b
  long n here b f fs p now next begins ends =
      let start = shifted-start to n here (f ∷ fs) now in
      let after = shifted-start to (suc n) (here + b) fs next in
      omega (arith, start, after, begins, ends)

  module _ (source : List ℕ) (all : List Item) where
    sums : (items : List Item) (fs : List Form) → AreForms items fs → All (IsItem source all) items → (n here : ℕ) → IsShifted to n here fs
        → (ps : List Placed) → AreSteps code to n (steps_in source all items) ps → plain_sum ps ≡ plain_size items
    sums [] [] forms fit n here now [] are = refl
    sums [] [] forms fit n here now (p ∷ ps) are = absurd are
    sums (Label l ∷ items) (Mark m ∷ fs) forms fit n here now ps are =
        let rest = sums items fs forms.1 (All-tail (IsItem source all) (Label l) items fit) n here (record { at = now.at }) ps are in
        omega (arith, rest, sum_by-cons plain_bytes (Label l) items)
    sums (Plain i ∷ items) (Fixed b ∷ fs) forms fit n here now (p ∷ ps) are =
        let next : IsShifted to (suc n) (here + b) fs = shifted-next to n here b (Fixed b) fs now (λ m. refl) in
        let item : IsItem source all (Plain i) = All-head (IsItem source all) (Plain i) items fit in
        let plain : is_switch i.op ≡ false = right-false (is_branch i.op) (is_switch i.op) item.1 in
        let here_is : plain_length p.insn ≡ plain_length i = same-plain p.insn i are.2.same (λ e. absurd (none-true (is_switch i.op) plain e)) in
        let rest = sums items fs forms.1 (All-tail (IsItem source all) (Plain i) items fit) (suc n) (here + b) next ps are.3 in
        omega (arith, here_is, rest, sum_by-cons plain_bytes (Plain i) items)
    sums (Branch op l ∷ items) (Jump m w ∷ fs) forms fit n here now (p ∷ ps) are =
        let next : IsShifted to (suc n) (here + form_bytes (Jump m w)) fs = shifted-next to n here (form_bytes (Jump m w)) (Jump m w) fs now (λ k. refl) in
        let item : IsItem source all (Branch op l) = All-head (IsItem source all) (Branch op l) items fit in
        let branches = wide-branches op item.0 in
        let three : plain_length (jump op) ≡ 3 = rw (wide-moves op item.0, branches) refl in
        let plain : is_switch op ≡ false = no-switch op (rw (wide-moves op item.0, branches) refl) in
        let here_is : plain_length p.insn ≡ plain_length (jump op) = same-plain p.insn (jump op) are.2.same (λ e. absurd (none-true (is_switch op) plain e)) in
        let rest = sums items fs forms.1 (All-tail (IsItem source all) (Branch op l) items fit) (suc n) (here + form_bytes (Jump m w)) next ps are.3 in
        omega (arith, three, here_is, rest, sum_by-cons plain_bytes (Branch op l) items)
    sums (Switch i at labels ∷ items) (Fixed b ∷ fs) forms fit n here now (p ∷ ps) are =
        let next : IsShifted to (suc n) (here + b) fs = shifted-next to n here b (Fixed b) fs now (λ m. refl) in
        let item : IsItem source all (Switch i at labels) = All-head (IsItem source all) (Switch i at labels) items fit in
        let own : length_of i ≡ i.len = rw item.0 refl in
        let form : b ≡ length_of i = forms.0 in
        let size : p.insn.len ≡ b = long n here b (Fixed b) fs p now next are.0 are.1 in
        let table : plain_length i ≡ i.len = plain-split i ∙ rw item.0 refl in
        let here_is : plain_length p.insn ≡ plain_length i = same-plain p.insn i are.2.same (λ e. omega (arith, size, form, own)) in
        let rest = sums items fs forms.1 (All-tail (IsItem source all) (Switch i at labels) items fit) (suc n) (here + b) next ps are.3 in
        omega (arith, here_is, table, own, rest, sum_by-cons plain_bytes (Switch i at labels) items)
    sums (Plain i ∷ items) (Fixed b ∷ fs) forms fit n here now [] are = absurd are
    sums (Branch op l ∷ items) (Jump m w ∷ fs) forms fit n here now [] are = absurd are
    sums (Switch i at labels ∷ items) (Fixed b ∷ fs) forms fit n here now [] are = absurd are
    sums [] (f ∷ fs) forms fit n here now ps are = absurd forms
    sums (i ∷ items) [] forms fit n here now ps are = absurd forms
    sums (Plain i ∷ items) (Jump m w ∷ fs) forms fit n here now ps are = absurd forms.0
    sums (Plain i ∷ items) (Mark m ∷ fs) forms fit n here now ps are = absurd forms.0
    sums (Branch op l ∷ items) (Fixed b ∷ fs) forms fit n here now ps are = absurd forms.0
    sums (Branch op l ∷ items) (Mark m ∷ fs) forms fit n here now ps are = absurd forms.0
    sums (Switch i at labels ∷ items) (Jump m w ∷ fs) forms fit n here now ps are = absurd forms.0
    sums (Switch i at labels ∷ items) (Mark m ∷ fs) forms fit n here now ps are = absurd forms.0
    sums (Label l ∷ items) (Fixed b ∷ fs) forms fit n here now ps are = absurd forms.0
    sums (Label l ∷ items) (Jump m w ∷ fs) forms fit n here now ps are = absurd forms.0

  -- where the steps end
  ends-at : (ss : List Step) (ps : List Placed) (n here : ℕ) → here ≡ to n → AreSteps code to n ss ps → end_from here ps ≡ to (n + length ss)
  ends-at [] [] n here e are = let same : n ≡ n + 0 = omega arith in e ∙ ap to same
  ends-at [] (p ∷ ps) n here e are = absurd are
  ends-at (s ∷ ss) [] n here e are = absurd are
  ends-at (s ∷ ss) (p ∷ ps) n here e are =
      let next : here + p.insn.len ≡ to (suc n) = omega (arith, e, are.0, are.1) in
      let same : suc n + length ss ≡ n + suc (length ss) = omega arith in
      ends-at ss ps (suc n) (here + p.insn.len) next are.3 ∙ ap to same

pub plain-sizes-agree : (source : List ℕ) (symbols : Symbols) (laid : Laid) → All (IsItem source symbols.items) symbols.items
    → StandsShortest source symbols laid → plain_code_size laid.code ≡ plain_size symbols.items
unfolding plain_code_size
plain-sizes-agree source symbols laid fit (forms, shortest, stands) =
    let to = instruction_place forms in
    let start : IsShifted to 0 0 forms = record { at = λ m. let e : 0 + m ≡ m = omega arith in let f : to m ≡ 0 + to m = omega arith in ap to e ∙ f } in
    let sum = sums laid.code to source symbols.items symbols.items forms shortest.chosen fit 0 0 start (listing laid.code) stands.instructions in
    let end = ends-at laid.code to (steps source symbols.items) (listing laid.code) 0 0 (sym (instruction-start forms)) stands.instructions in
    let same : 0 + length (steps source symbols.items) ≡ length (steps source symbols.items) = omega arith in
    omega (arith, sum, end ∙ ap to same, stands.ends)
