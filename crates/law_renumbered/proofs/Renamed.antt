-- A method whose registers have other numbers is, where it is laid in another world, there the method with its registers renamed.
use Rattle.std.proofs.Common.{◌≡◌, ℕ, ◌+◌, length, All, Contains, Some, inr, sym, ap, ◌∙◌, subst, arith}
use Rattle.std.specs.Prelude.{ℤ, pos, IfSome, slice_get}
use Rattle.std.proofs.lemmas.List.Elements.{All-map, All-weaker}
use Rattle.jc_base.specs.declared.record.Handler.{Handler}
use Rattle.jc_base.specs.Cell.{IsDeclared}
use Rattle.jc_base.specs.World.{Linked, IsWorld}
use Rattle.jc_decode.specs.declared.insn.Placed.{Placed}
use Rattle.jc_decode.specs.declared.symbols.Laid.{Laid}
use Rattle.jc_decode.specs.Listing.{listing, targets}
use Rattle.jc_decode.specs.Standing.{AreSteps, StandsAt}
use Rattle.jc_decode.specs.Symbols.{place_of, steps}
use Rattle.jc_decode.proofs.Elements.{Contains-slice_get, slice_get-Contains}
use Rattle.jc_control.specs.Laws.{InstructionsArePlaced}
use Rattle.jc_control.specs.Method.{Method, IsMethodOf}
use Rattle.jc_control.specs.WellFormed.{HasInstruction, IsBoundary, IsPlace, IsTargetPlace, IsHandlerOf, IsWellFormed}
use Rattle.jc_ops.specs.declared.operation.Operation.{Operation}
use Rattle.jc_ops.specs.Sound.{OperationsAreSound}
use Rattle.vm_step.specs.Settled.{place_number}
use Rattle.law_alike.specs.Alike.{renamed_new}
use Rattle.law_laid.specs.Apart.{IsSameBut}
use Rattle.law_laid.specs.Laid.{HasLaid}
use Rattle.law_laid.proofs.Steps.{all-contained, preimage}
use Rattle.law_share.specs.Live.{Operates}
use Rattle.law_share.specs.Renamed.{CatchAlike, IsMatched, IsRenamed, register_total}
use Rattle.law_share.specs.Renumbered.{renumbered}
use Rattle.law_renumbered.specs.Laws.{HasPlaces, RenumberedIsRenamed}
use Rattle.law_renumbered.specs.Numbers.{NumbersServe}
use Rattle.law_renumbered.specs.Symbols.{items_from, renumbered_method}
use Rattle.law_renumbered.proofs.Handlers.{KeepsOrder, catch-alike, handler-formed, there}
use Rattle.law_renumbered.proofs.Instructions.{IsStated, are-matched}
use Rattle.law_renumbered.proofs.Leading.{keys-are, targets-come}
use Rattle.law_renumbered.proofs.Moving.{IsLaidAs, from-source, laid-after, laid-as, laid-at, listed-whole, moved, moved-boundary, moved-first}
use Rattle.law_renumbered.proofs.Moving.{moved-is, moved-le, moved-lt, moved-one, moved-place, moved-rises}
use Rattle.jc_rules.proofs.Starts.{of_world}

module _ (v w : Linked) (links : IsWorld v) (sound : OperationsAreSound v) (placed : InstructionsArePlaced)
    (m target : Method) (reg : ℕ → ℕ) (locals : ℕ)
    (place : ℕ → ℕ) (laid : Laid) (same : IsSameBut v w) (is : IsMethodOf v m) (formed : IsWellFormed m)
    (serve : NumbersServe v m reg (m.rec.nargs + locals)) (stand : StandsAt place m.code (renumbered_method m reg locals) laid)
    (is_target : IsMethodOf w target) (numbered : target.number ≡ m.number) (has : HasLaid m.rec laid target)
  where
    laid-steps : AreSteps target.code place 0 (steps m.code (items_from m.code reg (listing m.code))) (listing target.code)
    laid-steps = grind (arith)

    ends : place (length (steps m.code (items_from m.code reg (listing m.code)))) ≡ length target.code
    ends = stand.ends ∙ ap length (sym has.code)

    f : ℕ → ℕ
    f = moved m reg placed formed is.filled place target.code stand.begins laid-steps ends

    -- the number of a label
    abbrev label : ℕ → ℕ
    label l = place_of l (items_from m.code reg (listing m.code))

    abbrev Laying : ℕ → Placed → Type 0
    Laying k i = IsLaidAs m reg placed formed is.filled place target.code stand.begins laid-steps ends k i

    comes : (p : ℕ) → IsBoundary m.code p → f p ≡ place (label p)
    unfolding f
    comes = moved-is m reg placed formed is.filled place target.code stand.begins laid-steps ends

    place-comes : (p : ℕ) → IsPlace m.code p → f p ≡ place (label p)
    place-comes p here = comes p (inr here)

    keeps-order : KeepsOrder m.code target.code f
    unfolding f
    keeps-order = record {
      place = moved-place m reg placed formed is.filled place target.code stand.begins laid-steps ends;
      boundary = moved-boundary m reg placed formed is.filled place target.code stand.begins laid-steps ends;
      rises = moved-rises m reg placed formed is.filled place target.code stand.begins laid-steps ends;
      le = moved-le m reg placed formed is.filled place target.code stand.begins laid-steps ends;
      lt = moved-lt m reg placed formed is.filled place target.code stand.begins laid-steps ends;
    }

    -- ---- instructions

    stated-there : (k : ℕ) (i : Placed) → slice_get (listing m.code) k ≡ Some i → (x : Laying k i) → IsStated m target f reg i x.other
    unfolding f
    stated-there k i e x = record {
      stands = Contains-slice_get (listing target.code) k x.other x.found;
      at = laid-at m reg placed formed is.filled place target.code stand.begins laid-steps ends k i e x;
      next = laid-after m reg placed formed is.filled place target.code stand.begins laid-steps ends k i e x;
      same = x.stands.same;
      keys = sym (x.stands.keyed ∙ keys-are m.code reg label place f place-comes i);
      leads = x.stands.leads ∙ targets-come m.code reg label place f place-comes i (formed.targets i (Contains-slice_get (listing m.code) k i e));
    }

    declared : IfSome m.rec.sig.result (IsDeclared v.classes)
    declared = (of_world v links m is).result

    total : register_total target ≡ m.rec.nargs + locals
    total = grind (arith)

    matched : (i : Placed) (a : Operation) → Operates v m i a → IsMatched v w m target f reg i a
    matched i a o =
        let at = slice_get-Contains (listing m.code) i o.stands in
        let x : Laying at.0 i = laid-as m reg placed formed is.filled place target.code stand.begins laid-steps ends at.0 i at.1 in
        record {
          other = x.other;
          new = renamed_new f (renumbered reg a);
          are =
              are-matched v w sound same m target reg (m.rec.nargs + locals) declared serve has.same total f i x.other a
              (stated-there at.0 i at.1 x) o;
        }

    -- an instruction of the laid code, with that of the method
    record IsThere (j : Placed) : Type 0 where
      source : Placed
      stands : HasInstruction m.code source
      stated : IsStated m target f reg source j

    is-there : (j : Placed) → HasInstruction target.code j → IsThere j
    is-there j c =
        let x = from-source m reg placed formed is.filled place target.code stand.begins laid-steps ends j c in
        record {
          source = x.source;
          stands = Contains-slice_get (listing m.code) x.number_there x.source x.found;
          stated = subst (λ i. IsStated m target f reg x.source i) x.same (stated-there x.number_there x.source x.found x.laid_as);
        }

    -- ---- the method

    target-there : (t : ℤ) → IsTargetPlace m.code t → IsTargetPlace target.code (pos (f (place_number t)))
    target-there x here = grind (arith, keeps-order)

    targets-formed : (j : Placed) → HasInstruction target.code j → All (IsTargetPlace target.code) (targets target.code j)
    targets-formed j c =
        let x = is-there j c in
        subst (All (IsTargetPlace target.code)) (sym x.stated.leads)
        (All-map (IsTargetPlace target.code) (λ t. pos (f (place_number t))) (targets m.code x.source)
        (All-weaker (IsTargetPlace m.code) (λ t. IsTargetPlace target.code (pos (f (place_number t)))) target-there (targets m.code x.source)
        (formed.targets x.source x.stands)))

    handler-there : Handler → Handler
    handler-there = there v links m target is formed laid has (λ l. place (label l)) stand.handlers f comes keeps-order

    handlers-alike : CatchAlike v m target f handler-there
    unfolding handler-there
    handlers-alike = catch-alike v links m target is formed laid has (λ l. place (label l)) stand.handlers f comes keeps-order

    own-handler : (h : Handler) → Contains target.rec.handlers h → IsHandlerOf target.code h
    unfolding handler-there
    own-handler h c =
        let x = preimage handler-there m.rec.handlers h (subst (λ hs. Contains hs h) handlers-alike.handlers c) in
        subst (IsHandlerOf target.code) (sym x.is)
        (handler-formed v links m target is formed laid has (λ l. place (label l)) stand.handlers f comes keeps-order x.of x.listed)

    well-formed : IsWellFormed target
    well-formed = record {
      ends = listed-whole m reg placed formed is.filled place target.code stand.begins laid-steps ends;
      targets = targets-formed;
      handlers = all-contained (IsHandlerOf target.code) target.rec.handlers own-handler;
    }

    renamed : IsRenamed v w m f reg
    unfolding f
    renamed = record {
      target = target;
      is_target = is_target;
      number = numbered;
      formed = well-formed;
      nargs = has.nargs ∙ stand.nargs;
      room = has.max_stack ∙ stand.max_stack;
      begins = moved-first m reg placed formed is.filled place target.code stand.begins laid-steps ends;
      one_to_one = moved-one m reg placed formed is.filled place target.code stand.begins laid-steps ends;
      places = keeps-order.place;
      start = λ x live. serve.start target x (record { same = has.same; nargs = has.nargs ∙ stand.nargs; total = total }) live;
      matched = matched;
      whole = λ j c. (let x = is-there j c in record { source = x.source; stands = x.stands; at = x.stated.at });
      handler = handler-there;
      catches = handlers-alike;
    }

    has-places : HasPlaces v w m reg
    has-places = record { place = f; renamed = renamed }

pub renumbered-is-renamed :
    (v : Linked) → IsWorld v → OperationsAreSound v → InstructionsArePlaced
    → RenumberedIsRenamed v
renumbered-is-renamed v links sound placed w m target reg locals place laid same is formed serve stand is_target numbered has =
    has-places v w links sound placed m target reg locals place laid same is formed serve stand is_target numbered has
