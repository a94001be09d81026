use Rattle.std.proofs.Common.{◌∙◌, ◌+◌, sym, ap, subst, arith}
use Rattle.cap_load.specs.Loaded.{Loaded, IsRead}
use Rattle.cap_load.proofs.Standing.{piece_step, piece_end, taken_room}
use Rattle.cap_load.proofs.loader.Loader.feed.Goals as goal

pub returns-in-Some-take-clause-stands : goal.returns-in-Some-take-clause-stands
returns-in-Some-take-clause-stands c = λ bytes s. piece_end _ bytes c.args.piece.now (c.bytes.byte-index + 1) _ (sym c.in-Some-take.ensures.fault)
    (piece_step _ _ bytes c.args.piece.now c.bytes.byte-index c.bytes-test.true (omega (arith, c.type_inv.piece c.bytes.byte-index)) (subst (λ (l : Loaded). IsRead l.contents l.reading) c.self-in-bytes.view_is c.self-in-bytes.invariant.read)
    c.take.ensures.after
    (c.bytes.invariant.stands bytes s))

pub returns-in-Some-take-clause-room : goal.returns-in-Some-take-clause-room
returns-in-Some-take-clause-room c = ap (λ l. l.room) c.take.ensures.after ∙ taken_room _ _ ∙ c.bytes.invariant.room

pub bytes-preserved : goal.bytes-preserved
bytes-preserved c = record {
  stands = λ bytes s. piece_step _ _ bytes c.args.piece.now c.bytes.byte-index c.bytes-test.true (omega (arith, c.type_inv.piece c.bytes.byte-index))
      (subst (λ (l : Loaded). IsRead l.contents l.reading) c.self-in-bytes.view_is c.self-in-bytes.invariant.read) c.take.ensures.after (c.bytes.invariant.stands bytes s);
  none = cc (c.in_default-take.ensures.fault);
  room = ap (λ l. l.room) c.take.ensures.after ∙ taken_room _ _ ∙ c.bytes.invariant.room;
}
