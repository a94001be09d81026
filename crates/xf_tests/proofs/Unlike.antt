-- A run of a method that returns a value, beside a run of other code that ends otherwise: nothing matches the one with the other.
use Rattle.std.proofs.Common.{◌≡◌, ℕ, suc, ◌+◌, Bool, true, false, if◌then◌else◌, List, [], ◌∷◌, length, refl, sym, ap, ◌∙◌}
use Rattle.std.proofs.Common.{subst, arith}
use Rattle.std.specs.Prelude.{Option, None, find, slice_index, ⊤}
use Rattle.jc_base.specs.Dispatch.{cells_of}
use Rattle.jc_base.specs.declared.record.Handler.{Handler}
use Rattle.jc_base.specs.World.{Linked}
use Rattle.vm_store.specs.declared.cell.Cell.{Cell}
use Rattle.vm_store.specs.declared.cell.ObjectKind.TheVariants.{Instance}
use Rattle.vm_store.specs.Cells.{tagged}
use Rattle.vm_store.specs.Objects.{has_room, new_instance_cells, with_object}
use Rattle.vm_store.specs.State.{Frame, Object, State, entered, other_frames, top, with_call, without_frames, without_top}
use Rattle.vm_step.specs.declared.ending.Ending.{Ending}
use Rattle.vm_step.specs.declared.ending.Ending.TheVariants as endings
use Rattle.vm_step.specs.declared.ending.Plain.TheVariants.{HeapFull, Returned, Threw}
use Rattle.vm_step.specs.declared.ending.Value.{Value}
use Rattle.vm_step.specs.declared.ending.Exception.{Exception}
use Rattle.vm_step.specs.Act.{role_of}
use Rattle.vm_step.specs.Calls.{class_of}
use Rattle.vm_step.specs.Methods.{handlers_of}
use Rattle.vm_step.specs.Raising.{Outcome, catches, caught_or, ended, ends, handler_for, raised, running, thrown, unwound}
use Rattle.vm_step.specs.Run.{Runs, stands, steps, stops}
use Rattle.vm_step.specs.Settled.{given_to}
use Rattle.vm_step.specs.Step.{Steps}
use Rattle.vm_step.specs.Laws.{StepsAreOne}
use Rattle.vm_step.proofs.Running.{steps-one}
use Rattle.xf_homes.specs.Source.{Source}
use Rattle.law_groups.specs.Beside.{AreEqualBut, IsAtGroup, IsTypedAt}
use Rattle.law_groups.specs.Comes.{AreAtGroup, ComesToGroup, ComesWithin, GroupComes, GroupRuns, group_calls, group_ends, group_gives, group_leaves}
use Rattle.law_groups.specs.Comes.{group_raises, group_stays, group_throws}
use Rattle.law_groups.specs.Matching.{RunsBeside}
use Rattle.law_groups.proofs.Branching.{same-state}

-- one method runs
abbrev pub alone : Frame Cell → List (Object Cell) → List Cell → State Cell
alone f heap statics = record { frames = f ∷ []; heap = heap; statics = statics }

-- steps of a method alone, each from a typed state, to the value that it returns
pub data Returns (v : Linked) (s : Source) (heap : List (Object Cell)) (statics : List Cell) (value : Value) : Frame Cell → Type 0 where
  returns_now :
      {f : Frame Cell} → handlers_of v f.method ≡ [] → IsTypedAt v s (alone f heap statics)
      → (y : State Cell) → Steps tagged v (alone f heap statics) (ended (endings.Plain (Returned value)) y)
      → Returns v s heap statics value f
  returns_after :
      {f g : Frame Cell} → handlers_of v f.method ≡ [] → IsTypedAt v s (alone f heap statics)
      → Steps tagged v (alone f heap statics) (running (alone g heap statics))
      → Returns v s heap statics value g
      → Returns v s heap statics value f

-- steps to an ending
pub data Ends (w : Linked) (last : Ending) (x : State Cell) : State Cell → Type 0 where
  ends_now : {t : State Cell} → Steps tagged w t (ended last x) → Ends w last x t
  ends_after : {t u : State Cell} → Steps tagged w t (running u) → Ends w last x u → Ends w last x t

-- ---- outcomes

same-ending : (e f : Ending) (z y : State Cell) → ended e z ≡ ended f y → e ≡ f
same-ending e f z y eq = cc

ended-runs : (e : Ending) (x y : State Cell) → ended e x ≡ running y → ⊥
ended-runs e x y eq = absurd cc

-- an exception or an object that nothing catches ended the run, or there was no room for an object
abbrev IsThrown : Outcome Cell → Type 0
IsThrown (ended (endings.Plain (Threw class handle)) z) = ⊤
IsThrown (ended (endings.Plain HeapFull) z) = ⊤
IsThrown o = ⊥

module _ (v : Linked) (f : Frame Cell) (heap : List (Object Cell)) (statics : List Cell) (bare : handlers_of v f.method ≡ []) where
  unwound-ends : (class handle : ℕ) (z : State Cell) → IsThrown (unwound tagged v class handle z (f ∷ []))
  unwound-ends class handle z =
      let none : handler_for v class f ≡ None = ap (λ (hs : List Handler). find (catches v.classes f.place class) hs) bare in
      subst (λ (o : Option Handler). IsThrown (caught_or tagged v handle z f [] (ends (endings.Plain (Threw class handle)) z) o))
      (sym none) tt

  thrown-ends : (handle : ℕ) → IsThrown (thrown tagged v handle (alone f heap statics))
  thrown-ends handle = unwound-ends _ handle (alone f heap statics)

  either : (b : Bool) (o p : Outcome Cell) → IsThrown o → IsThrown p → IsThrown (if b then o else p)
  either true o p first second = first
  either false o p first second = second

  raised-ends : (exception : Exception) → IsThrown (raised tagged v exception (alone f heap statics))
  raised-ends exception =
      let class : ℕ = slice_index v.classes.roles (role_of exception) in
      let z : State Cell = with_object (alone f heap statics) (Instance class) (new_instance_cells tagged v.classes class) in
      either (has_room (alone f heap statics) (length (cells_of v.classes class)))
      (thrown tagged v (length heap + 1) z) (ends (endings.Plain HeapFull) (alone f heap statics))
      (unwound-ends (class_of v.classes z (length heap + 1)) (length heap + 1) z) tt

-- ---- the target

module _ (w : Linked) (last : Ending) (x : State Cell) where
  one : StepsAreOne tagged w
  one = steps-one tagged w (λ m place i r q a b. a ∙ sym b)

  abbrev EndsFrom : Outcome Cell → Type 0
  EndsFrom (running u) = Ends w last x u
  EndsFrom (ended e z) = e ≡ last

  ends-from : {n : ℕ} {t : State Cell} {o : Outcome Cell} → Ends w last x t → Runs tagged w n t o → EndsFrom o
  ends-from h stands = h
  ends-from {t = t} (ends_now step) (stops {z = z} {ending = e} other) =
      same-ending e last z x (one t (ended e z) (ended last x) other step)
  ends-from {t = t} (ends_after {u = u} step more) (stops {z = z} {ending = e} other) =
      absurd (ended-runs e z u (one t (ended e z) (running u) other step))
  ends-from {t = t} (ends_now step) (steps {z = z} other rest) =
      absurd (ended-runs last x z (one t (ended last x) (running z) step other))
  ends-from {t = t} (ends_after {u = u} step more) (steps {z = z} other rest) =
      ends-from (subst (Ends w last x) (same-state u z (one t (running u) (running z) step other)) more) rest

alone-under : (fs : List (Frame Cell)) → length fs ≡ 1 → other_frames fs ≡ []
alone-under [] e = absurd (omega (arith, e))
alone-under (f ∷ []) e = refl
alone-under (f ∷ (g ∷ fs)) e = absurd (omega (arith, e))

given-ends :
    (w : Linked) (value : Value) (cells : List Cell) (t : State Cell) → length t.frames ≡ 1
    → given_to tagged w value cells (without_top t) ≡ ended (endings.Plain (Returned value)) (without_frames t)
given-ends w value cells t e =
    subst
    (λ (fs : List (Frame Cell)).
    given_to tagged w value cells (record t { frames = fs }) ≡ ended (endings.Plain (Returned value)) (without_frames t))
    (sym (alone-under t.frames e)) refl

-- ---- both

module _
    (v w : Linked) (s : Source) (place : ℕ → ℕ) (heap : List (Object Cell)) (statics : List Cell) (value : Value)
    (last : Ending) (x : State Cell) (differs : last ≡ endings.Plain (Returned value) → ⊥) (beside : RunsBeside v w s place) where
  typed-of : {f : Frame Cell} → Returns v s heap statics value f → IsTypedAt v s (alone f heap statics)
  typed-of (returns_now bare typed y step) = typed
  typed-of (returns_after bare typed step more) = typed

  -- a method that goes on calls none, returns nothing and throws nothing
  none-leaves :
      (f g : Frame Cell) (t : State Cell) → handlers_of v f.method ≡ [] → {o p : Outcome Cell}
      → GroupComes v w s place (alone f heap statics) t o p → o ≡ running (alone g heap statics) → ⊥
  none-leaves f g t bare (group_calls c) e =
      let called : with_call tagged v.methods c.source c.method c.count ≡ alone g heap statics =
      same-state _ (alone g heap statics) (sym c.enters ∙ e) in
      let n : suc (suc (length (other_frames c.source.frames))) ≡ 1 = ap (λ (z : State Cell). length z.frames) called in
      omega (arith, n)
  none-leaves f g t bare (group_gives other cells plain o_is p_is) e = ended-runs _ _ (alone g heap statics) (sym o_is ∙ e)
  none-leaves f g t bare (group_raises exception u within o_is p_is) e =
      subst IsThrown (sym o_is ∙ e) (raised-ends v f heap statics bare exception)
  none-leaves f g t bare (group_throws handle u within o_is p_is) e =
      subst IsThrown (sym o_is ∙ e) (thrown-ends v f heap statics bare handle)
  none-leaves f g t bare (group_ends ending y) e = ended-runs _ y (alone g heap statics) e

  -- what a method returns, the target returns too
  returned-alike :
      (f : Frame Cell) (t y : State Cell) → handlers_of v f.method ≡ [] → length t.frames ≡ 1 → {o p : Outcome Cell}
      → GroupComes v w s place (alone f heap statics) t o p → o ≡ ended (endings.Plain (Returned value)) y → EndsFrom w last x p → ⊥
  returned-alike f t y bare one_frame (group_calls c) e h = ended-runs _ y _ (sym e ∙ c.enters)
  returned-alike f t y bare one_frame (group_gives other cells plain o_is p_is) e h =
      let same : endings.Plain (Returned other) ≡ endings.Plain (Returned value) = same-ending _ _ _ y (sym o_is ∙ e) in
      let there : endings.Plain (Returned other) ≡ last = subst (EndsFrom w last x) (p_is ∙ given-ends w other cells t one_frame) h in
      differs (sym there ∙ same)
  returned-alike f t y bare one_frame (group_raises exception u within o_is p_is) e h =
      subst IsThrown (sym o_is ∙ e) (raised-ends v f heap statics bare exception)
  returned-alike f t y bare one_frame (group_throws handle u within o_is p_is) e h =
      subst IsThrown (sym o_is ∙ e) (thrown-ends v f heap statics bare handle)
  returned-alike f t y bare one_frame (group_ends ending z) e h =
      let same : endings.Plain ending ≡ endings.Plain (Returned value) = same-ending _ _ z y e in
      differs (sym h ∙ same)

  stays-not :
      (f : Frame Cell) (t y : State Cell) → GroupRuns v w s place (alone f heap statics) t (ended (endings.Plain (Returned value)) y)
      → handlers_of v f.method ≡ [] → length t.frames ≡ 1 → Ends w last x t → ⊥
  stays-not f t y (group_leaves c) bare one_frame h =
      returned-alike f t y bare one_frame c.comes refl (ends-from w last x h c.runs)
  stays-not f t y (group_stays z is c) bare one_frame h = ended-runs _ y z is

  goes-on :
      (f g : Frame Cell) (t : State Cell) → handlers_of v f.method ≡ [] → Ends w last x t
      → ((u : State Cell) → Ends w last x u → IsAtGroup s place g (top u) → AreEqualBut (alone g heap statics) u → ⊥)
      → GroupRuns v w s place (alone f heap statics) t (running (alone g heap statics)) → ⊥
  goes-on f g t bare h again (group_leaves c) = none-leaves f g t bare c.comes refl
  goes-on f g t bare h again (group_stays y is c) =
      let same : alone g heap statics ≡ y = same-state (alone g heap statics) y is in
      let at : AreAtGroup s place (alone f heap statics) t (alone g heap statics) c.comes.0 =
      subst (λ (z : State Cell). AreAtGroup s place (alone f heap statics) t z c.comes.0) (sym same) c.comes.2 in
      again c.comes.0 (subst (EndsFrom w last x) c.comes.1 (ends-from w last x h c.runs)) at.group at.equal

  never-held :
      {f : Frame Cell} (t : State Cell) → Returns v s heap statics value f → Ends w last x t
      → IsAtGroup s place f (top t) → AreEqualBut (alone f heap statics) t → ⊥
  never-held {f = f} t (returns_now bare typed y step) h group equal =
      stays-not f t y (beside.groups (alone f heap statics) t (ended (endings.Plain (Returned value)) y) typed group equal step tt) bare
      equal.frames h
  never-held {f = f} t (returns_after {g = g} bare typed step more) h group equal =
      goes-on f g t bare h (λ u there at same. never-held u more there at same)
      (beside.groups (alone f heap statics) t (running (alone g heap statics)) typed group equal step (λ runs method. typed-of more))

  -- so it is from the start on
  pub unlike :
      (args : List Cell) → length args ≡ s.method.rec.nargs
      → Returns v s heap statics value (entered tagged v.methods s.method.number args)
      → Ends w last x (alone (entered tagged w.methods s.method.number args) heap statics)
      → ⊥
  unlike args many source target =
      let z : State Cell = alone (entered tagged v.methods s.method.number args) heap statics in
      let t : State Cell = alone (entered tagged w.methods s.method.number args) heap statics in
      let equal : AreEqualBut z t = record { frames = refl; heap = refl; statics = refl } in
      let c : ComesWithin w 0 1000 t (ComesToGroup s place z t) = beside.starts z t args (typed-of source) equal many refl refl in
      let there : Ends w last x c.comes.state = subst (EndsFrom w last x) c.comes.is (ends-from w last x target c.runs) in
      never-held c.comes.state source there c.comes.are.group c.comes.are.equal
