-- Calls and returns in two states that are alike: the arguments and the value that is returned are the same cells.
use Rattle.std.proofs.Common.{◌≡◌, ℕ, zero, suc, ◌+◌, ◌<◌, inl, inr, if◌then◌else◌, List, [], ◌∷◌, ◌++◌, length, map, take}
use Rattle.std.proofs.Common.{reverse, refl, sym, ap, ◌∙◌, subst, arith}
use Rattle.std.specs.Prelude.{Option, Some, None, option_map, IsSomeAnd, IfSome, All, slice_get, unwrap_or}
use Rattle.std.proofs.Math.ListN.{get_or-map}
use Rattle.std.proofs.lemmas.Bool.{eq-eqb, cases_lt}
use Rattle.std.proofs.lemmas.List.{take-map, length-reverse}
use Rattle.jc_base.specs.declared.ty.Ty.{Ty}
use Rattle.jc_base.specs.declared.ty.Ty.TheVariants.{Bottom, Short, IntHigh, IntLow, Null, Class, ArrBool}
use Rattle.jc_base.specs.declared.ty.Ty.TheVariants.{ArrByte, ArrShort, ArrInt, ArrRef, Fresh, Top}
use Rattle.jc_base.specs.declared.record.MethodRec.{MethodRec}
use Rattle.jc_base.specs.Cell.{IsDeclared}
use Rattle.jc_base.specs.Class.{ClassTable, AreClasses, object}
use Rattle.jc_base.specs.Dispatch.{dispatched}
use Rattle.jc_base.specs.World.{Linked}
use Rattle.jc_base.proofs.Lists.{All-reverse}
use Rattle.jc_ops.specs.declared.operation.Want.{Want}
use Rattle.jc_ops.specs.declared.operation.Want.TheVariants.{Value, Receiver}
use Rattle.jc_ops.specs.declared.operation.Callee.{Callee}
use Rattle.jc_ops.specs.declared.operation.Choice.{Choice}
use Rattle.jc_ops.specs.declared.operation.Choice.TheVariants as choices
use Rattle.jc_ops.specs.Sound.{IsReceiverOf, IsChosen}
use Rattle.jc_rules.specs.declared.demand.Demand.{Demand}
use Rattle.jc_rules.specs.Demand.{Frame as Types, Meets, SatisfiesAll}
use Rattle.jc_rules.specs.Flow.{IsNotFresh, IsNotTop}
use Rattle.jc_rules.specs.Rule.{cells_wanted, receiver_wanted, call_demands, return_demands}
use Rattle.jc_rules.proofs.Types.{declared-not_fresh, declared-not_top}
use Rattle.vm_store.specs.declared.cell.Cell.{Cell}
use Rattle.vm_store.specs.declared.cell.Cell.TheVariants as cells
use Rattle.vm_store.specs.declared.cell.ObjectKind.{ObjectKind}
use Rattle.vm_store.specs.Kind.{kind_of_handle}
use Rattle.vm_store.specs.Typing.{least_type, fresh_seen}
use Rattle.vm_store.specs.Cells.{tagged, made_ready}
use Rattle.vm_store.specs.State.{nth, arguments}
use Rattle.vm_store.specs.Objects.{kinds}
use Rattle.vm_step.specs.declared.ending.Value.{Value as Given}
use Rattle.vm_step.specs.declared.ending.Value.TheVariants as values
use Rattle.vm_step.specs.Act.{calls, gives}
use Rattle.vm_step.specs.Calls.{class_of, made_at, readied, with_ready, served_act, interface_act, chosen_act, return_act}
use Rattle.vm_step.specs.Numbers.{handle_at}
use Rattle.law_sound.specs.Frames.{least_types}
use Rattle.law_sound.proofs.Cells.{cell-at}
use Rattle.law_sound.proofs.Ready.{not-over-top}
use Rattle.law_laid.specs.Laid.{renamed}
use Rattle.law_alike.specs.Alike.{ArePlain, IsOneToOne, KeepsPlain, renamed_cell}
use Rattle.law_alike.proofs.Cells.{type-renamed, value-plain, value-stays, ready-stays, all-ready-renamed}
use Rattle.law_alike.proofs.Cells.{nth-renamed, word-at, short-is, int-is, take-stays}
use Rattle.law_alike.proofs.Cells.{renamed-keeps}
use Rattle.law_alike.proofs.Twins.{Pair, two, first, second, Does, calls_both, gives_both, lacks_both, stack-twins, null-does}
use Rattle.law_alike.proofs.Acting.{other_stack}
use Rattle.law_alike.proofs.Storing.{CellStays}

pub all-split : (t : ClassTable) (g : Types) (ds es : List Demand) → SatisfiesAll t g (ds ++ es) → SatisfiesAll t g ds × SatisfiesAll t g es
all-split t g [] es h = (tt, h)
all-split t g (d ∷ ds) es h = let rest = all-split t g ds es h.1 in ((h.0, rest.0), rest.1)

made-renamed : (f : ℕ → ℕ) (want : Option Want) (ty : Ty) → made_at want (renamed f ty) ≡ option_map f (made_at want ty)
made-renamed f y ty = grind (arith)

-- the stack once the objects of a place are ready
abbrev ready_stack : Option ℕ → List Cell → List Cell
ready_stack None cs = cs
ready_stack (Some p) cs = map (made_ready p) cs

abbrev ready_cell : Option ℕ → Cell → Cell
ready_cell None c = c
ready_cell (Some p) c = made_ready p c

ready-nth : (o : Option ℕ) (cs : List Cell) (n : ℕ) → nth tagged (ready_stack o cs) n ≡ ready_cell o (nth tagged cs n)
ready-nth None cs n = refl
ready-nth (Some p) cs n = get_or-map (made_ready p) cs n cells.Empty

cell-ready : (f : ℕ → ℕ) (o : Option ℕ) (c : Cell) → renamed_cell f c ≡ c → renamed_cell f (ready_cell o c) ≡ ready_cell o c
cell-ready f y c e = grind (arith, ready-stays)

module _ (x : Pair) (t : ClassTable) (are : AreClasses t) where
  -- what each object is
  abbrev pub made_kinds : List ObjectKind
  made_kinds = kinds (first x)

  -- the types of the first frame
  abbrev pub stack_types : List Ty
  stack_types = least_types t Bottom made_kinds x.frame.stack

  -- ---- cells that are tested

  pub tested-stays :
      (n : ℕ) (ty : Ty) → IsNotFresh ty → IsNotTop ty → IsSomeAnd (slice_get stack_types n) (Meets t (Value ty)) → CellStays x n
  tested-stays n ty fresh top h =
      value-stays x.rename t are made_kinds (nth tagged x.frame.stack n) ty fresh top
      (cell-at t Bottom made_kinds x.frame.stack n (Meets t (Value ty)) h).holds

  pub declared-stays :
      (n : ℕ) (ty : Ty) → IsDeclared t ty → IsSomeAnd (slice_get stack_types n) (Meets t (Value ty)) → CellStays x n
  declared-stays n ty d h = tested-stays n ty (declared-not_fresh t ty d) (declared-not_top t ty d) h

  module _ (regs : List Ty) where
    wanted-stay :
        (n : ℕ) (tys : List Ty) → All (IsDeclared t) tys
        → SatisfiesAll t (record { regs = regs; stack = stack_types }) (cells_wanted n tys)
        → (k : ℕ) → k < length tys → CellStays x (n + k)
    wanted-stay n [] all h k lt = absurd (omega (arith, lt))
    wanted-stay n (ty ∷ tys) all h zero lt = grind (arith, declared-stays n ty (all 0 ty (omega arith)) h.0)
    wanted-stay n (ty ∷ tys) all h (suc k) lt =
        let e : n + 1 + k ≡ n + suc k = omega arith in
        subst (CellStays x) e (wanted-stay (n + 1) tys (λ j d small. all (suc j) d (omega (arith, small))) h.1 k
        (omega (arith, lt)))

    -- ---- the receiver

    after-any : (c : Cell) → renamed_cell x.rename c ≡ c → (o : Option ℕ) → renamed_cell x.rename (ready_cell o c) ≡ ready_cell o c
    after-any c e o = cell-ready x.rename o c e

    made-ready : (h p : ℕ) → made_ready p (cells.Fresh h p) ≡ cells.Ref h
    made-ready h p = ap (λ b. if b then cells.Ref h else cells.Fresh h p) (eq-eqb p p refl)

    fresh-after :
        (class h p : ℕ) (o : Option ObjectKind) → Meets t (Receiver class) (fresh_seen p o)
        → renamed_cell x.rename (ready_cell (made_at (Some (Receiver class)) (fresh_seen p o)) (cells.Fresh h p))
        ≡ ready_cell (made_at (Some (Receiver class)) (fresh_seen p o)) (cells.Fresh h p)
    fresh-after class h p u m = grind (arith, made-ready, not-over-top)

    receiver-after :
        (class : ℕ) (c : Cell) → Meets t (Receiver class) (least_type t Bottom made_kinds c)
        → renamed_cell x.rename (ready_cell (made_at (Some (Receiver class)) (least_type t Bottom made_kinds c)) c)
        ≡ ready_cell (made_at (Some (Receiver class)) (least_type t Bottom made_kinds c)) c
    receiver-after class c m = grind (arith, not-over-top, fresh-after, suc, after-any)

    -- ---- calls

    module _ (none : x.print.written ≡ 0) (one_to_one : IsOneToOne x.rename) where
      same-arguments :
          (count : ℕ) (stack : List Cell) → map (renamed_cell x.rename) (take count stack) ≡ take count stack
          → arguments count (map (renamed_cell x.rename) stack) ≡ arguments count stack
      same-arguments count stack e = ap reverse (take-map (renamed_cell x.rename) count stack ∙ e)

      call-does :
          (method count : ℕ) → ((k : ℕ) → k < count → CellStays x k)
          → Does x (calls method count (first x)) (calls method count (second x))
      call-does method count stay =
          calls_both method count (stack-twins x none x.frame.stack x.heap x.statics x.heap_stays x.statics_stay) refl refl
          (same-arguments count x.frame.stack (take-stays x.rename count x.frame.stack stay))

      readied-does :
          (method count : ℕ) (o : Option ℕ) → map (renamed_cell x.rename) (take count (ready_stack o x.frame.stack))
          ≡ take count (ready_stack o x.frame.stack)
          → Does x (calls method count (readied tagged (first x) o))
          (calls method count (readied tagged (second x) (option_map x.rename o)))
      readied-does method count None e = grind (arith, calls_both, stack-twins, same-arguments)
      readied-does method count (Some p) e =
          subst (λ cs. Does x (calls method count (readied tagged (first x) (Some p)))
          (calls method count (two x x.registers cs x.heap x.statics)))
          (sym (all-ready-renamed x.rename one_to_one p x.frame.stack))
          (calls_both method count (stack-twins x none (map (made_ready p) x.frame.stack) x.heap x.statics x.heap_stays
          x.statics_stay) refl refl
          (same-arguments count (map (made_ready p) x.frame.stack) e))

      served-does :
          (o : Option ℕ) (class count : ℕ) → ((k : ℕ) → k < count → CellStays x k)
          → Does x (served_act o class count (first x)) (served_act o class count (second x))
      served-does x class count stay = grind (arith, lacks_both, call-does)

      interface-does :
          (c token count : ℕ) (o : Option ObjectKind) → ((k : ℕ) → k < count → CellStays x k)
          → Does x (interface_act t c token count o (first x)) (interface_act t c token count o (second x))
      interface-does c token count u stay = grind (arith, served-does, lacks_both)

      -- the receiver lies under the arguments
      with-receiver : (args : ℕ) → ((k : ℕ) → k < args → CellStays x k) → CellStays x args → (k : ℕ) → k < args + 1 → CellStays x k
      with-receiver args stay own k lt = grind (arith, cases_lt)

      ready-below :
          (o : Option ℕ) (args : ℕ) → ((k : ℕ) → k < args → CellStays x k)
          → renamed_cell x.rename (ready_cell o (nth tagged x.frame.stack args)) ≡ ready_cell o (nth tagged x.frame.stack args)
          → (k : ℕ) → k < args + 1 → renamed_cell x.rename (nth tagged (ready_stack o x.frame.stack) k)
          ≡ nth tagged (ready_stack o x.frame.stack) k
      ready-below o args stay own k lt =
          ap (renamed_cell x.rename) (ready-nth o x.frame.stack k) ∙ (go ∙ sym (ready-nth o x.frame.stack k))
        where
          go : renamed_cell x.rename (ready_cell o (nth tagged x.frame.stack k)) ≡ ready_cell o (nth tagged x.frame.stack k)
          go = elim (cases_lt k args) [
            | inl small ↦ cell-ready x.rename o (nth tagged x.frame.stack k) (stay k small)
            | inr large ↦
                let e : args ≡ k = omega (arith, lt, large) in
                subst (λ n. renamed_cell x.rename (ready_cell o (nth tagged x.frame.stack n))
                ≡ ready_cell o (nth tagged x.frame.stack n)) e own
          ]

      special-does :
          (callee : Callee) (args : ℕ) → ((k : ℕ) → k < args → CellStays x k)
          → renamed_cell x.rename (ready_cell
          (made_at callee.receiver (least_type t Bottom made_kinds (nth tagged x.frame.stack args)))
          (nth tagged x.frame.stack args))
          ≡ ready_cell (made_at callee.receiver (least_type t Bottom made_kinds (nth tagged x.frame.stack args)))
          (nth tagged x.frame.stack args)
          → Does x (calls callee.method (args + 1) (with_ready tagged t callee args (first x)))
          (calls callee.method (args + 1) (with_ready tagged t callee args (second x)))
      special-does callee args stay own =
          let ty : Ty = least_type t Bottom made_kinds (nth tagged x.frame.stack args) in
          let o : Option ℕ = made_at callee.receiver ty in
          let same : made_at callee.receiver (least_type t Bottom made_kinds (nth tagged (other_stack x) args))
          ≡ option_map x.rename o =
          ap (λ c. made_at callee.receiver (least_type t Bottom made_kinds c)) (nth-renamed x.rename x.frame.stack args)
          ∙ (ap (made_at callee.receiver) (type-renamed x.rename t made_kinds (nth tagged x.frame.stack args))
          ∙ made-renamed x.rename callee.receiver ty) in
          subst (λ p. Does x (calls callee.method (args + 1) (with_ready tagged t callee args (first x)))
          (calls callee.method (args + 1) (readied tagged (second x) p))) (sym same)
          (readied-does callee.method (args + 1) o
          (take-stays x.rename (args + 1) (ready_stack o x.frame.stack) (ready-below o args stay own)))

      -- by the choice, where the arguments and the receiver are as the rule asks
      chosen-does :
          (v : Linked) (callee : Callee) (m : MethodRec) (args : ℕ) (choice : Choice)
          → IsChosen v callee.method m callee.receiver choice
          → ((k : ℕ) → k < args → CellStays x k)
          → SatisfiesAll t (record { regs = regs; stack = stack_types }) (receiver_wanted args callee.receiver)
          → Does x (chosen_act tagged t callee args choice (first x)) (chosen_act tagged t callee args choice (second x))
      chosen-does v callee m args choices.Static chosen stay h = call-does callee.method args stay
      chosen-does v callee m args choices.Special chosen stay h =
          null-does x (handle_at tagged x.frame.stack args) (handle_at tagged (other_stack x) args)
          (λ k. calls callee.method (args + 1) (with_ready tagged t callee args (first x)))
          (λ k. calls callee.method (args + 1) (with_ready tagged t callee args (second x)))
          (word-at x.rename x.frame.stack args) (special-does callee args stay (own callee.receiver chosen.receives h))
        where
          own :
              (want : Option Want) → IsReceiverOf v m want
              → SatisfiesAll t (record { regs = regs; stack = stack_types }) (receiver_wanted args want)
              → renamed_cell x.rename (ready_cell (made_at want (least_type t Bottom made_kinds (nth tagged x.frame.stack args)))
              (nth tagged x.frame.stack args))
              ≡ ready_cell (made_at want (least_type t Bottom made_kinds (nth tagged x.frame.stack args)))
              (nth tagged x.frame.stack args)
          own (Some (Receiver c)) r h =
              receiver-after c (nth tagged x.frame.stack args)
              (cell-at t Bottom made_kinds x.frame.stack args (Meets t (Receiver c)) h.0).holds
          own (Some (Value (Class c))) r h = tested-stays args (Class c) tt tt h.0
          own _ r h = absurd r
      chosen-does v callee m args (choices.Virtual class token) chosen stay h =
          let own : CellStays x args = tested-stays args (Class class) tt tt
          (subst (λ want. SatisfiesAll t (record { regs = regs; stack = stack_types }) (receiver_wanted args want)) chosen.receiver_is
          h).0 in
          null-does x (handle_at tagged x.frame.stack args) (handle_at tagged (other_stack x) args)
          (λ k. calls (unwrap_or (dispatched t class token (class_of t (first x) k)) callee.method) (args + 1) (first x))
          (λ k. calls (unwrap_or (dispatched t class token (class_of t (second x) k)) callee.method) (args + 1) (second x))
          (word-at x.rename x.frame.stack args) (call-does _ (args + 1) (with-receiver args stay own))
      chosen-does v callee m args (choices.Interface class token words) chosen stay h =
          let own : CellStays x args = tested-stays args (Class (object v.classes)) tt tt
          (subst (λ want. SatisfiesAll t (record { regs = regs; stack = stack_types }) (receiver_wanted args want)) chosen.receiver_is
          h).0 in
          null-does x (handle_at tagged x.frame.stack args) (handle_at tagged (other_stack x) args)
          (λ k. interface_act t class token (args + 1) (kind_of_handle (kinds (first x)) k) (first x))
          (λ k. interface_act t class token (args + 1) (kind_of_handle (kinds (second x)) k) (second x))
          (word-at x.rename x.frame.stack args)
          (interface-does class token (args + 1) (kind_of_handle (kinds (first x)) (handle_at tagged x.frame.stack args))
          (with-receiver args stay own))

      -- the last argument is on top
      pub asked-does :
          (v : Linked) (callee : Callee) (m : MethodRec)
          → IsChosen v callee.method m callee.receiver callee.choice
          → All (IsDeclared t) m.sig.args
          → SatisfiesAll t (record { regs = regs; stack = stack_types }) (call_demands m.sig.args callee.receiver)
          → Does x (chosen_act tagged t callee (length m.sig.args) callee.choice (first x))
          (chosen_act tagged t callee (length m.sig.args) callee.choice (second x))
      asked-does v callee m chosen declared h =
          let parts = all-split t (record { regs = regs; stack = stack_types }) (cells_wanted 0 (reverse m.sig.args))
          (receiver_wanted (length m.sig.args) callee.receiver) h in
          let count : length (reverse m.sig.args) ≡ length m.sig.args = length-reverse m.sig.args in
          chosen-does v callee m (length m.sig.args) callee.choice chosen
          (λ k lt.
          let e : 0 + k ≡ k = omega arith in
          subst (CellStays x) e (wanted-stay 0 (reverse m.sig.args) (All-reverse (IsDeclared t) m.sig.args declared) parts.0 k
          (omega (arith, lt, count))))
          parts.1

  -- ---- returns

  gives-by :
      (value other : Given) (cs ds : List Cell) → other ≡ value → ds ≡ cs → ArePlain tagged cs
      → Does x (gives value cs) (gives other ds)
  gives-by value other cs ds e g plain = grind (arith, gives_both)

  -- every map that keeps plain cells keeps this one
  abbrev CellIsPlain : ℕ → Type 0
  CellIsPlain n = (f : Cell → Cell) → KeepsPlain tagged f → f (nth tagged x.frame.stack n) ≡ nth tagged x.frame.stack n

  tested-plain :
      (n : ℕ) (ty : Ty) → IsNotFresh ty → IsNotTop ty → IsSomeAnd (slice_get stack_types n) (Meets t (Value ty)) → CellIsPlain n
  tested-plain n ty fresh top h f keeps =
      value-plain f keeps t are made_kinds (nth tagged x.frame.stack n) ty fresh top
      (cell-at t Bottom made_kinds x.frame.stack n (Meets t (Value ty)) h).holds

  declared-plain :
      (n : ℕ) (ty : Ty) → IsDeclared t ty → IsSomeAnd (slice_get stack_types n) (Meets t (Value ty)) → CellIsPlain n
  declared-plain n ty d h = tested-plain n ty (declared-not_fresh t ty d) (declared-not_top t ty d) h

  plain-stays : (n : ℕ) → CellIsPlain n → CellStays x n
  plain-stays n plain = plain (renamed_cell x.rename) (renamed-keeps x.rename)

  nth-same : (n : ℕ) → CellStays x n → nth tagged (other_stack x) n ≡ nth tagged x.frame.stack n
  nth-same n h = nth-renamed x.rename x.frame.stack n ∙ h

  reference-does :
      CellIsPlain 0
      → Does x (gives (values.Ref (handle_at tagged x.frame.stack 0)) (nth tagged x.frame.stack 0 ∷ []))
      (gives (values.Ref (handle_at tagged (other_stack x) 0)) (nth tagged (other_stack x) 0 ∷ []))
  reference-does h =
      gives-by _ _ _ _ (ap values.Ref (word-at x.rename x.frame.stack 0)) (ap (λ c. c ∷ []) (nth-same 0 (plain-stays 0 h)))
      (λ f keeps. ap (λ c. c ∷ []) (h f keeps))

  pub return-does :
      (regs : List Ty) (result : Option Ty) → IfSome result (IsDeclared t)
      → SatisfiesAll t (record { regs = regs; stack = stack_types }) (return_demands result)
      → Does x (return_act tagged result (first x)) (return_act tagged result (second x))
  return-does regs None d h = gives_both values.Void [] (λ f keeps. refl)
  return-does regs (Some Short) d h =
      let plain = tested-plain 0 Short tt tt h.0 in
      gives-by _ _ _ _ (ap values.Short (short-is x.rename x.frame.stack 0))
      (ap (λ c. c ∷ []) (nth-same 0 (plain-stays 0 plain)))
      (λ f keeps. ap (λ c. c ∷ []) (plain f keeps))
  return-does regs (Some IntHigh) d h =
      let high = tested-plain 1 IntHigh tt tt h.1.0 in
      let low = tested-plain 0 IntLow tt tt h.0 in
      gives-by _ _ _ _ (ap values.Int (int-is x.rename x.frame.stack 1 0))
      (cc (nth-same 1 (plain-stays 1 high), nth-same 0 (plain-stays 0 low)))
      (λ f keeps. let a = high f keeps in let b = low f keeps in cc)
  return-does regs (Some Bottom) d h = reference-does (declared-plain 0 Bottom d h.0)
  return-does regs (Some IntLow) d h = reference-does (declared-plain 0 IntLow d h.0)
  return-does regs (Some Null) d h = reference-does (declared-plain 0 Null d h.0)
  return-does regs (Some (Class c)) d h = reference-does (declared-plain 0 (Class c) d h.0)
  return-does regs (Some ArrBool) d h = reference-does (declared-plain 0 ArrBool d h.0)
  return-does regs (Some ArrByte) d h = reference-does (declared-plain 0 ArrByte d h.0)
  return-does regs (Some ArrShort) d h = reference-does (declared-plain 0 ArrShort d h.0)
  return-does regs (Some ArrInt) d h = reference-does (declared-plain 0 ArrInt d h.0)
  return-does regs (Some (ArrRef c)) d h = reference-does (declared-plain 0 (ArrRef c) d h.0)
  return-does regs (Some (Fresh p c)) d h = reference-does (declared-plain 0 (Fresh p c) d h.0)
  return-does regs (Some Top) d h = reference-does (declared-plain 0 Top d h.0)
