-- An instruction of the laid code is the method's with its register renumbered.
use Rattle.std.proofs.Common.{◌≡◌, ℕ, ◌+◌, ◌≤◌, map, sym, ap, ◌∙◌, subst, arith}
use Rattle.std.specs.Prelude.{pos, IfSome, Ok}
use Rattle.std.proofs.Math.Nat.{mod-eq_of_lt}
use Rattle.jc_base.specs.Cell.{IsDeclared}
use Rattle.jc_base.specs.World.{Linked}
use Rattle.jc_decode.specs.declared.insn.Insn.{Insn}
use Rattle.jc_decode.specs.declared.insn.Placed.{Placed}
use Rattle.jc_decode.specs.Cases.{cases}
use Rattle.jc_decode.specs.Forms.{essence}
use Rattle.jc_decode.specs.Listing.{falls, jumps, targets}
use Rattle.jc_control.specs.Method.{Method}
use Rattle.jc_control.specs.WellFormed.{HasInstruction}
use Rattle.jc_ops.specs.declared.operation.Operation.{Operation}
use Rattle.jc_ops.specs.declared.operation.Operation.TheVariants as ops
use Rattle.jc_ops.specs.declared.operation.Sort.TheVariants as sorts
use Rattle.jc_ops.specs.declared.operation.Width.TheVariants as widths
use Rattle.jc_ops.specs.Alike.{IsAlike, equal}
use Rattle.jc_ops.specs.Resolve.{Resolves}
use Rattle.jc_ops.specs.Sound.{OperationsAreSound}
use Rattle.jc_rules.specs.Footprint.{Footprint, footprint, registers_asked, registers_read}
use Rattle.jc_rules.specs.Rule.{demands}
use Rattle.vm_step.specs.Settled.{place_number}
use Rattle.law_alike.specs.Alike.{renamed_new}
use Rattle.law_alike.proofs.Views.{same-new, demands-new}
use Rattle.law_laid.specs.Apart.{apart_from_code, IsSameBut}
use Rattle.law_laid.proofs.Forms.{falls-form, jumps-form, resolves-renamed}
use Rattle.law_laid.proofs.Operations.{operation_renamed}
use Rattle.law_laid.proofs.SameBut.{demands-are-kept, operations-are-kept}
use Rattle.law_share.specs.Live.{Operates, Writes}
use Rattle.law_share.specs.Renamed.{AreMatched, register_total}
use Rattle.law_share.specs.Renumbered.{renumbered}
use Rattle.law_share.proofs.Knowing.{footprint-new}
use Rattle.law_renumbered.specs.Numbers.{NumbersServe}
use Rattle.law_renumbered.proofs.Registers.{stated, in_byte, renumbered_result, falls-stated, jumps-stated, does-stated}

-- ---- operations of new objects

alike-new : (f reg : ℕ → ℕ) (op : Operation) → IsAlike op (renumbered reg op) → IsAlike (renamed_new f op) (renamed_new f (renumbered reg op))
alike-new f reg (ops.New p class) alike = equal
alike-new f reg _ alike = alike

writes-same : (v : Linked) (a b : Operation) (x : ℕ) → footprint v a ≡ footprint v b → Writes v a x → Writes v b x
writes-same v a b x e writes = grind (arith)

-- ---- numbers that a byte tells

told : (v : Linked) (reg : ℕ → ℕ) (op : Operation) → registers_asked (demands v (renumbered reg op)) ≤ 255 → renumbered (in_byte reg) op ≡ renumbered reg op
told v reg x le = grind (arith, mod-eq_of_lt)

-- ---- an instruction and the one that is laid for it

-- j stands where the place of i comes to, and is what is stated for i
pub record IsStated (m target : Method) (f reg : ℕ → ℕ) (i j : Placed) : Type 0 where
  pub stands : HasInstruction target.code j
  pub at : j.place ≡ f i.place
  pub next : j.place + j.insn.len ≡ f (i.place + i.insn.len)
  pub same : essence j.insn ≡ essence (stated reg i.insn)
  pub keys : map (λ c. c.key) (cases m.code i.place i.insn) ≡ map (λ c. c.key) (cases target.code j.place j.insn)
  pub leads : targets target.code j ≡ map (λ t. pos (f (place_number t))) (targets m.code i)

module _ (v w : Linked) (sound : OperationsAreSound v) (same : IsSameBut v w)
    (m target : Method) (reg : ℕ → ℕ) (total : ℕ) (declared : IfSome m.rec.sig.result (IsDeclared v.classes)) (serve : NumbersServe v m reg total)
    (apart : apart_from_code target.rec ≡ apart_from_code m.rec) (count : register_total target ≡ total) (f : ℕ → ℕ)
  where
    -- the operation of what is stated
    does-it : (i : Placed) (op : Operation) → Operates v m i op → Resolves v m.rec i.place (stated reg i.insn) (Ok (renumbered reg op))
    does-it i op o =
        let few = serve.few in
        let asked = (serve.same i op o).asked in
        ap (λ (a : Operation). Ok a) (sym (told v reg op (omega (arith, few, asked))))
        ∙ (ap (renumbered_result (in_byte reg)) o.resolves ∙ sym (does-stated reg i.insn v m.rec i.place))

    -- and of the one that is laid
    resolves-there : (i j : Placed) (op : Operation) → IsStated m target f reg i j → Operates v m i op
        → Resolves w target.rec j.place j.insn (Ok (renamed_new f (renumbered reg op)))
    resolves-there i j op s o =
        let moved : Resolves v m.rec (f i.place) j.insn (Ok (operation_renamed f (renumbered reg op))) =
        resolves-renamed v m.rec sound declared f i.place j.insn (stated reg i.insn) (renumbered reg op) s.same (does-it i op o) in
        let there : Resolves w target.rec (f i.place) j.insn (Ok (operation_renamed f (renumbered reg op))) =
        operations-are-kept v w m.rec target.rec (f i.place) j.insn (Ok (operation_renamed f (renumbered reg op))) same (sym apart) moved in
        subst (λ p. Resolves w target.rec p j.insn (Ok (renamed_new f (renumbered reg op)))) (sym s.at)
        (subst (λ (a : Operation). Resolves w target.rec (f i.place) j.insn (Ok a)) (same-new f (renumbered reg op)) there)

    pub falls-there : (i j : Placed) → IsStated m target f reg i j → falls j.insn.op ≡ falls i.insn.op
    falls-there i j s = sym (falls-form j.insn) ∙ (ap (λ (k : Insn). falls k.op) s.same ∙ (falls-form (stated reg i.insn) ∙ falls-stated reg i.insn))

    pub jumps-there : (i j : Placed) → IsStated m target f reg i j → jumps j.insn.op ≡ jumps i.insn.op
    jumps-there i j s = sym (jumps-form j.insn) ∙ (ap (λ (k : Insn). jumps k.op) s.same ∙ (jumps-form (stated reg i.insn) ∙ jumps-stated reg i.insn))

    pub are-matched : (i j : Placed) (op : Operation) → IsStated m target f reg i j → Operates v m i op
        → AreMatched v w m target f reg i op j (renamed_new f (renumbered reg op))
    are-matched i j op s o =
        let new = renamed_new f (renumbered reg op) in
        let is = serve.same i op o in
        let second : demands w new ≡ demands v (renumbered reg op) = sym (demands-are-kept v w new same) ∙ demands-new v f (renumbered reg op) in
        let foot : footprint v new ≡ footprint v (renumbered reg op) = footprint-new v f (renumbered reg op) in
        let few : registers_asked (demands w new) ≤ total =
        (let e = ap registers_asked second in let le = is.asked in omega (arith, e, le)) in
        record {
          operates = record { stands = s.stands; resolves = resolves-there i j op s o };
          at = s.at;
          next = s.next;
          falls_alike = falls-there i j s;
          jumps_alike = jumps-there i j s;
          alike = alike-new f reg op is.alike;
          keys = s.keys;
          leads = s.leads;
          reads = ap registers_read second ∙ is.reads;
          asked = λ le. (let all = count in let most = few in omega (arith, all, most));
          writes = λ k lt. ap (λ (p : Footprint). p.register + k) foot ∙ is.writes k lt;
          apart = λ q x leads live none writes.
              serve.apart i op q x o leads live none (writes-same v new (renumbered reg op) (reg x) foot writes);
        }
