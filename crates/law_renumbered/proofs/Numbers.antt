-- The numbers that a method's variables share serve it, and so do those of a method that keeps its registers.
use Rattle.std.proofs.Common.{◌≡◌, ℕ, ◌+◌, ◌<◌, ◌≤◌, List, [], ◌∷◌, length, drop, map, refl, sym, ap, ◌∙◌, subst, arith}
use Rattle.std.proofs.lemmas.Bool.{cases_lt}
use Rattle.std.proofs.lemmas.List.{length-drop}
use Rattle.jc_base.specs.declared.ty.Ty.{Ty}
use Rattle.jc_base.specs.World.{Linked, IsWorld}
use Rattle.jc_decode.specs.declared.insn.Placed.{Placed}
use Rattle.jc_control.specs.Method.{Method, IsMethodOf}
use Rattle.jc_ops.specs.declared.operation.Operation.{Operation}
use Rattle.jc_ops.specs.declared.operation.Operation.TheVariants as ops
use Rattle.jc_ops.specs.Alike.{equal}
use Rattle.jc_rules.specs.Footprint.{footprint, registers_asked, registers_read}
use Rattle.jc_rules.specs.Rule.{demands}
use Rattle.jc_rules.proofs.CellLists.{cells-length}
use Rattle.jc_rules.proofs.Footprints.{met-is-there, asked-is-there}
use Rattle.card_typing.specs.Typing.{CardTyping, frame_at}
use Rattle.card_typing.proofs.Own.{start-length}
use Rattle.law_share.specs.Live.{Operates, Writes}
use Rattle.law_share.specs.Sharing.{Allotted, IsNumbered, IsSharing, KeepsRegisters}
use Rattle.law_share.specs.Renamed.{register_total, BeginsAlike}
use Rattle.law_share.specs.Renumbered.{renumbered, IsRenumberedTo, IsRenumbering}
use Rattle.law_share.specs.Renumbered.{OperationsAreRenumbered, RenumberedStayApart, RenumberedBeginAlike}
use Rattle.law_share.proofs.Allotting.{registers-are-no-more}
use Rattle.law_renumbered.specs.Laws.{SharedNumbersServe}
use Rattle.law_renumbered.specs.Numbers.{numbers_shared, numbers_kept, HasRegisters, NumbersServe}
use Rattle.jc_rules.proofs.Decides.{ok-same}
use Rattle.jc_rules.proofs.Starts.{of_world}

-- a method's registers are those of its typing, and a byte tells how many they are
module _ (v : Linked) (links : IsWorld v) (m : Method) (is : IsMethodOf v m) (regs : List Ty) (stacks : ℕ → List Ty) (ty : CardTyping v m regs stacks) where
  count : length regs ≡ register_total m
  count = sym (cells-length v.classes ty.declared) ∙ start-length v links m is

  total-few : register_total m ≤ 255
  total-few = (of_world v links m is).registers

  -- what an operation of the method asks for is there
  room-there : (i : Placed) (op : Operation) → Operates v m i op → registers_asked (demands v op) ≤ register_total m
  room-there i op operates =
      let rule = (ty.typed i operates.stands).applies.1 in
      let one : rule.operation ≡ op = ok-same (rule.resolves ∙ sym operates.resolves) in
      let ds = demands v rule.operation in
      let there : registers_asked ds ≤ length regs =
      (asked-is-there (length regs) (length (stacks i.place)) ds).registers (met-is-there v (frame_at regs stacks i.place) ds rule.does.asked) in
      let total = count in
      subst (λ (o : Operation). registers_asked (demands v o) ≤ register_total m) one (omega (arith, there, total))

-- ---- registers that are shared

module _ (v : Linked) (links : IsWorld v) (m : Method) (reg : ℕ → ℕ) (locals : ℕ) (is : IsMethodOf v m) (given : List Allotted)
    (shares : IsSharing v m given locals) (numbers : (x : ℕ) → x < register_total m → IsNumbered m.rec.nargs given x (reg x))
    (same : OperationsAreRenumbered v) (apart : RenumberedStayApart v) (begin : RenumberedBeginAlike v) where
  is-renumbering : IsRenumbering v m given reg
  is-renumbering = grind (arith)

  shared-few : m.rec.nargs + locals ≤ 255
  shared-few =
      let size = shares.size in
      let fewer = registers-are-no-more v m (drop m.rec.nargs shares.regs) shares.variables given shares.are shares.allotted in
      let long = length-drop m.rec.nargs shares.regs in
      let all = count v links m is shares.regs shares.typed.stacks shares.typed.typing in
      let most = total-few v links m is shares.regs shares.typed.stacks shares.typed.typing in
      omega (arith, size, fewer, long, all, most)

  shared-serve : NumbersServe v m reg (m.rec.nargs + locals)
  shared-serve = record {
    few = shared-few;
    same = λ i op operates. subst (λ n. IsRenumberedTo v reg n op (renumbered reg op)) (sym shares.size) (same m given reg i op is-renumbering operates);
    apart = λ i op q x operates leads live none. apart m given reg i op q x is-renumbering operates leads live none;
    start = λ target x has live.
        begin m target given reg x is-renumbering (record { same = has.same; nargs = has.nargs; total = has.total ∙ shares.size }) live;
  }

-- ---- registers that are kept

module _ (v : Linked) (links : IsWorld v) (m : Method) (reg : ℕ → ℕ) (is : IsMethodOf v m) (keeps : KeepsRegisters v m) (stay : (x : ℕ) → reg x ≡ x) where
  renumbered-stays : (op : Operation) → renumbered reg op ≡ op
  renumbered-stays x = grind (arith)

  numbers-stay : (xs : List ℕ) → xs ≡ map reg xs
  numbers-stay [] = refl
  numbers-stay (x ∷ xs) = ap (λ y. y ∷ xs) (sym (stay x)) ∙ ap (λ ys. reg x ∷ ys) (numbers-stay xs)

  kept-same : (i : Placed) (op : Operation) → Operates v m i op → IsRenumberedTo v reg (register_total m) op op
  kept-same i op operates = record {
    alike = equal;
    reads = numbers-stay (registers_read (demands v op));
    asked = room-there v links m is keeps.regs keeps.typed.stacks keeps.typed.typing i op operates;
    writes = λ k lt. sym (stay ((footprint v op).register + k));
  }

  kept-begin : (target : Method) (x : ℕ) → HasRegisters m (register_total m) target → BeginsAlike m target reg x
  kept-begin target x has = grind (arith, cases_lt)

  kept-serve : NumbersServe v m reg (register_total m)
  kept-serve = record {
    few = total-few v links m is keeps.regs keeps.typed.stacks keeps.typed.typing;
    same = λ i op operates. subst (λ (o : Operation). IsRenumberedTo v reg (register_total m) op o) (sym (renumbered-stays op)) (kept-same i op operates);
    apart = λ i op q x operates leads live none writes.
        none (subst (λ (o : Operation). Writes v o x) (renumbered-stays op) (subst (λ n. Writes v (renumbered reg op) n) (stay x) writes));
    start = λ target x has live. kept-begin target x has;
  }

pub shared-numbers-serve :
    (v : Linked) → IsWorld v → OperationsAreRenumbered v → RenumberedStayApart v → RenumberedBeginAlike v → SharedNumbersServe v
shared-numbers-serve v links same apart begin m reg _ is (numbers_shared given {locals = locals} shares numbers) =
    shared-serve v links m reg locals is given shares numbers same apart begin
shared-numbers-serve v links same apart begin m reg _ is (numbers_kept keeps stay) = kept-serve v links m reg is keeps stay
