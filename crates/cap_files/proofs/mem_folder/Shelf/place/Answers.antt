use Rattle.std.proofs.Common.{◌≡◌, ◌∙◌, refl, sym, true, false}
use Rattle.cap_files.specs.Folder.{key_of}
use Rattle.cap_files.specs.Shelf.{has_room}
use Rattle.cap_files.proofs.Keys.{distinct_put, map_put, suffices_put}
use Rattle.cap_files.proofs.mem_folder.Shelf.place.Goals as goal

pub returns-then-not-has_room-clause-room : goal.returns-then-not-has_room-clause-room
returns-then-not-has_room-clause-room c =
    rw (← c.self.view_is) (c.if-not-has_room.ensures ∙ rw (c.position-old.ensures) (sym (suffices_put _ _ _ _ c.self.invariant)))

pub returns-then-not-has_room-clause-placed : goal.returns-then-not-has_room-clause-placed
returns-then-not-has_room-clause-placed c =
    let full : false ≡ has_room c.args.self.now (key_of c.args.part c.args.dir.now) c.args.bytes.now = rw (← c.self.view_is)
    (c.if-not-has_room.ensures ∙ rw (c.position-old.ensures) (sym (suffices_put _ _ _ _ c.self.invariant))) in
    rw (← full) refl

pub invariant_of-self : goal.invariant_of-self
invariant_of-self c =
    rw (c.push.ensures, c.take_out.ensures, c.position-old.ensures)
    (distinct_put (key_of c.args.part c.args.dir.now) c.args.bytes.now c.self.inside.pile.records c.self.invariant)

pub returns-clause-room : goal.returns-clause-room
returns-clause-room c =
    rw (← c.self.view_is) (c.if-not-has_room.ensures ∙ rw (c.position-old.ensures) (sym (suffices_put _ _ _ _ c.self.invariant)))

pub returns-clause-placed : goal.returns-clause-placed
returns-clause-placed c =
    let room : true ≡ has_room c.args.self.now (key_of c.args.part c.args.dir.now) c.args.bytes.now = rw (← c.self.view_is)
    (c.if-not-has_room.ensures ∙ rw (c.position-old.ensures) (sym (suffices_put _ _ _ _ c.self.invariant))) in
    rw (← room) (rw (c.push.ensures, c.take_out.ensures, c.position-old.ensures) (rw (← c.self.view_is) (rw (map_put _ _ _ c.self.invariant) refl)))
