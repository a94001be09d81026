-- At the start of a method: arguments are copied to their homes, and then comes the first group.
use Rattle.std.proofs.Common.{◌≡◌, ℕ, ◌+◌, ◌-◌, ◌<◌, ◌≤◌, Bool, true, false, if◌then◌else◌, List, [], ◌∷◌, ◌++◌}
use Rattle.std.proofs.Common.{length, map, flat_map, replicate, reverse, refl, sym, ap, ◌∙◌, subst, arith, append_assoc}
use Rattle.std.specs.Prelude.{Option, Some, None, IsSomeAnd, is_some}
use Rattle.std.proofs.lemmas.List.{length-append, length-map, length-replicate, nil_from_length}
use Rattle.std.proofs.lemmas.List.Concat.{flat_map-cons}
use Rattle.std.proofs.lemmas.List.Sums.{sum_by-append}
use Rattle.jc_base.specs.declared.ty.Ty.TheVariants.{Class, Top}
use Rattle.jc_base.specs.Each.{Each}
use Rattle.jc_base.specs.Linked.{IsMethod, receiver_words}
use Rattle.jc_base.specs.World.{Linked, IsWorld}
use Rattle.jc_base.proofs.Lists.{All-slice_get}
use Rattle.jc_decode.specs.declared.symbols.Item.{Item}
use Rattle.jc_decode.specs.declared.symbols.Item.TheVariants.{Label}
use Rattle.jc_decode.specs.Listing.{listing}
use Rattle.jc_decode.specs.Symbols.{IsOnce, place_of, steps_in}
use Rattle.jc_decode.proofs.InstructionLists.{all-are-listed}
use Rattle.jc_control.specs.Control.{IsReached}
use Rattle.jc_rules.specs.Demand.{Frame as Types}
use Rattle.jc_rules.specs.Flow.{FrameBelow, receiver_of}
use Rattle.vm_store.specs.declared.cell.Cell.{Cell}
use Rattle.vm_store.specs.Cells.{tagged}
use Rattle.vm_store.specs.Objects.{kinds}
use Rattle.vm_store.specs.State.{State, Frame, IsRunning, entered, register_count, top}
use Rattle.law_sound.specs.Frames.{least_types, types_of_frame}
use Rattle.vm_step.specs.Raising.{running}
use Rattle.law_alike.specs.Alike.{renamed_cell}
use Rattle.xf_homes.specs.Home.{argument_types, register_count as count_registers}
use Rattle.xf_homes.specs.Order.{register_sum}
use Rattle.xf_homes.specs.Source.{Source}
use Rattle.xf_homes.specs.Plan.{stack_homes, cells_from, is_leader, needed, stack_of}
use Rattle.xf_emission.specs.declared.origin.Origin.TheVariants.{Start}
use Rattle.xf_emission.specs.Edge.{copies}
use Rattle.xf_emission.specs.Emission.{catching_stubs, items, rewritten, stubs}
use Rattle.xf_emission.specs.Group.{group}
use Rattle.xf_emission.specs.Laws.{of_place}
use Rattle.xf_emission.proofs.Once.{labels-stand-once}
use Rattle.law_rewritten_typing.specs.Edges.{leads_start}
use Rattle.law_homes.specs.Edges.{IsBeside, StartsHold, insns, top_at}
use Rattle.law_homes.specs.Held.{HoldsValue, HoldsLocals, slots}
use Rattle.law_homes.proofs.Beside.{among-each, each-among, held-as}
use Rattle.law_groups.specs.Laid.{IsLaidIn, count_of, group_at, rename, steps_of}
use Rattle.law_groups.specs.Beside.{AreEqualBut, AreOf, HeldOrWaits, IsTypedAt}
use Rattle.law_groups.specs.Comes.{ComesToGroup, ComesWithin}
use Rattle.law_groups.specs.Steps.{StartsStandAtSteps}
use Rattle.law_groups.specs.Moves.{MovesRun}
use Rattle.law_groups.proofs.Arriving.{at-step, beside, leader-holds, other-holds}
use Rattle.law_groups.proofs.Context.{here-at, method-of, reached-some, target-at}
use Rattle.law_groups.proofs.Going.{group-inside}
use Rattle.law_groups.proofs.Moving.{copies-move, count-moves, moves-stand}
use Rattle.law_groups.proofs.Placing.{place-once, starts-later, steps-append}
use Rattle.law_groups.proofs.Plain.{frames-are}
use Rattle.law_rewritten_typing.proofs.Ordered.{group-head}
use Rattle.jc_rules.proofs.CellLists.{cells-length}

module _ (s : Source) where
  -- what comes after the groups
  abbrev pub ending : List Item
  ending = Label (length s.method.code) ∷ flat_map (stubs s) (listing s.method.code) ++ catching_stubs s 0 s.method.rec.handlers

  pub items-begin : items s ≡ copies s Start 0 ++ (flat_map (group s) (listing s.method.code) ++ ending)
  unfolding items
  items-begin = refl

pub starts-stand : StartsStandAtSteps
starts-stand s i code stands reached zero_at =
    let cs = copies s Start 0 in
    let ls = all-are-listed s.method.code in
    let l = starts-later s.method.code code.lists (listing s.method.code) 0 i code.lists (ls.decodes i stands) zero_at in
    let b = group-head s i reached in
    let rest : List Item = b.0 ++ (flat_map (group s) l.0 ++ ending s) in
    let tail : flat_map (group s) (listing s.method.code) ++ ending s ≡ Label i.place ∷ rest =
    ap (λ ps. flat_map (group s) ps ++ ending s) l.1
    ∙ (ap (λ xs. xs ++ ending s) (flat_map-cons (group s) i l.0)
    ∙ (append_assoc (group s i) (flat_map (group s) l.0) (ending s)
    ∙ ap (λ xs. xs ++ (flat_map (group s) l.0 ++ ending s)) b.1)) in
    let parts : items s ≡ cs ++ Label i.place ∷ rest = items-begin s ∙ ap (λ xs. cs ++ xs) tail in
    let one : IsOnce (cs ++ Label i.place ∷ rest) i.place =
    subst (λ xs. IsOnce xs i.place) parts (labels-stand-once s code i.place (of_place stands reached)) in (
      record {
        before = [];
        after = steps_in s.method.code (items s) (Label i.place ∷ rest);
        parts = ap (steps_in s.method.code (items s)) parts ∙ steps-append s.method.code (items s) cs (Label i.place ∷ rest);
        at = refl;
      },
      ap (group_at s) (sym zero_at) ∙ (ap (place_of i.place) parts ∙ place-once i.place cs rest one),
    )

-- ---- the first group

module _
    {v w : Linked} {s : Source} {place : ℕ → ℕ} (laid : IsLaidIn v w s place)
    (world : IsWorld v) (moving : MovesRun v) (holds : StartsHold v) where
  -- the target has a register for each of the homes'
  homes-counted : s.method.rec.nargs ≤ register_sum s.homes
  unfolding register_sum
  homes-counted = grind (arith, sum_by-append)

  registers-are : register_count w.methods s.method.number ≡ register_sum s.homes
  unfolding rewritten
  registers-are = grind (arith, target-at, homes-counted)

  -- the arguments have their declared types
  receiver-words : (b : Bool) (class : ℕ) → length (if b then [] else Class class ∷ []) ≡ receiver_words b
  receiver-words x class = grind (arith)

  arguments-counted : length (argument_types s.method.rec) ≡ s.method.rec.nargs
  arguments-counted =
      let own = method-of laid in
      let is = All-slice_get (IsMethod v.infos v.pools v.classes) v.methods s.method.number s.method.rec world.methods own.rec in
      let words = is.words in
      let both = length-append (receiver_of s.method.rec) s.method.rec.sig.args in
      let one = receiver-words s.method.rec.is_static s.method.rec.class in
      omega (arith, words, both, one)

  module _
      (z t : State Cell) (args : List Cell) (typed : IsTypedAt v s z) (equal : AreEqualBut z t)
      (given : length args ≡ s.method.rec.nargs)
      (from_here : top z ≡ entered tagged v.methods s.method.number args)
      (from_there : top t ≡ entered tagged w.methods s.method.number args) where
    at-zero : (top z).place ≡ 0
    at-zero = ap (λ (f : Frame Cell). f.place) from_here

    bare : (top z).stack ≡ []
    bare = ap (λ (f : Frame Cell). f.stack) from_here

    bare-too : (top t).stack ≡ []
    bare-too = ap (λ (f : Frame Cell). f.stack) from_there

    of-both : AreOf s (top z) (top t)
    of-both = grind (arith, length-append, replicate, length-replicate, registers-are, homes-counted)

    none-kept : stack_homes s (top z).place ≡ []
    unfolding stack_homes
    none-kept =
        ap (λ ts. cells_from (count_registers s.method.rec) ts 0 (length ts))
        (by (s.frames (top z).place) typed.below)
      where
        by :
            (o : Option Types)
            → IsSomeAnd o (FrameBelow v.classes (types_of_frame v.classes Top (kinds z) (top z)))
            → stack_of o ≡ []
        by None below = absurd below
        by (Some f) below =
            let one = cells-length v.classes below.stack in
            let two : length (least_types v.classes Top (kinds z) (top z).stack) ≡ length (top z).stack = length-map (top z).stack _ in
            let three = ap length bare in
            ap reverse (nil_from_length f.stack (omega (arith, one, two, three)))

    pub start-enters : ComesWithin w 0 1000 t (ComesToGroup s place z t)
    start-enters =
        let cs = copies s Start 0 in
        let some : is_some (s.frames 0) ≡ true =
        reached-some laid 0 (subst (IsReached s.method) at-zero typed.reached) in
        let h = here-at laid 0 some in
        let also : is_some (s.frames h.instruction.place) ≡ true = ap (λ p. is_some (s.frames p)) h.at ∙ some in
        let st = starts-stand s h.instruction laid.planned.code h.stands also h.at in
        let moves = copies-move s Start 0 in
        let size : count_of cs ≡ length (insns cs) = count-moves cs moves in
        let first = st.1 in
        let inside : group_at s 0 < length (steps_of s) =
        group-inside laid 0
        (subst (IsReached s.method) at-zero typed.reached) in
        let frames = equal.frames in
        let runs = typed.runs in
        let going : IsRunning t = omega (arith, frames, runs) in
        let origin : (top t).place ≡ place 0 = ap (λ (f : Frame Cell). f.place) from_there ∙ sym laid.code.stands.begins in
        let near : IsBeside w s 0 (top z) t =
        subst (λ q. IsBeside w s q (top z) t) at-zero (beside laid z t typed equal.heap of-both) in
        let depth = ap length bare-too in
        let before = holds s (top z) (top t) args (register_count v.methods s.method.number - length args)
        (register_count w.methods s.method.number - length args) laid.world laid.planned
        (ap (λ (f : Frame Cell). f.registers) from_here) (ap (λ (f : Frame Cell). f.registers) from_there)
        (given ∙ sym arguments-counted) in
        let c = moving.edges w laid.new place (steps_of s) t 0 s Start 0 (top z) laid.world laid.planned near leads_start
        (at-step laid t 0 (length (insns cs)) going of-both.target origin (omega (arith, first, size, inside)))
        (moves-stand s 0 cs moves st.0) (omega (arith, depth)) before in
        let u : State Cell = top_at t (place (0 + length (insns cs))) c.registers (top t).stack in
        let last : 0 + length (insns cs) ≡ group_at s (top z).place =
        let e = ap (group_at s) at-zero in omega (arith, first, size, e) in
        let whole = ap length (frames-are t going) in
        let small = moving.few_copies s Start 0 laid.world laid.planned leads_start in
        let locals : HoldsLocals s (top z).place (top z) (top u) =
        subst (λ q. HoldsLocals s q (top z) (top u)) (sym at-zero)
        (λ x. each-among (HoldsValue s (top z).registers (top u)) (needed s 0 x)
        (λ k among. held-as s (top z).registers (record (top t) { registers = c.registers }) (top u) k refl
        (among-each (HoldsValue s (top z).registers (record (top t) { registers = c.registers })) (needed s 0 x) k (c.locals x) among))) in
        record {
          count = length (insns cs);
          more = omega arith;
          fewer = omega (arith, small);
          outcome = running u;
          runs = c.runs;
          comes = record {
            state = u;
            is = refl;
            are = record {
              first = record { frames = frames-are z typed.runs };
              second = record { frames = refl };
              equal = record { frames = omega (arith, whole, frames); heap = equal.heap; statics = equal.statics };
              group = record {
                of = record { source = of-both.source; target = of-both.target; count = c.count ∙ of-both.count };
                at = ap place last;
                holds = at-first u bare-too locals (is_leader s (top z).place) refl;
              };
            };
          };
        }
      where
        at-first :
            (u : State Cell)
            → (top u).stack ≡ []
            → HoldsLocals s (top z).place (top z) (top u)
            → (b : Bool)
            → is_leader s (top z).place ≡ b
            → HeldOrWaits (is_leader s (top z).place) s place (top z) (top u)
        at-first u none locals true e =
            leader-holds laid (top z) (top u) e
            (record {
              stack = none;
              cells = subst (λ hs. Each (HoldsValue s (slots (top z)) (top u)) hs) (sym none-kept) tt;
              locals = locals;
            })
        at-first u none locals false e =
            other-holds laid (top z) (top u) e
            (record { stack = none ∙ sym (ap (map (renamed_cell (rename s place))) bare); locals = locals })
