use Rattle.cap_files.proofs.words.Words.push.Goals as goal
use Rattle.cap_files.proofs.Buffer.{texts_pushed, are_texts_pushed}

pub invariant_of-self-2 : goal.invariant_of-self-2
invariant_of-self-2 c =
    rw (c.push_reserved.ensures.items, c.reserve.ensures.items, c.as_str-start.ensures.value, c.as_str-end.ensures.value, c.in_ok-push_str.ensures.bytes)
    (are_texts_pushed _ _ _ c.utf8.word c.self.invariant)

pub returns-clause-pushed : goal.returns-clause-pushed
returns-clause-pushed c =
    rw (c.push_reserved.ensures.items, c.reserve.ensures.items, c.as_str-start.ensures.value, c.as_str-end.ensures.value, c.in_ok-push_str.ensures.bytes)
    (rw (← c.self.view_is) (texts_pushed _ _ _ c.self.invariant))
