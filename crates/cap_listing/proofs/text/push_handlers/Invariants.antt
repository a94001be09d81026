use Rattle.std.proofs.Common.{◌≡◌, ◌++◌, drop, map}
use Rattle.cap_listing.specs.Words.{text_of_lines}
use Rattle.cap_listing.specs.Text.{handler_words}
use Rattle.cap_listing.proofs.text.push_handlers.Given as goal

-- with the handlers that are left it is what it will be
abbrev pub invariant-handlers : goal.invariant-handlers
invariant-handlers l =
    l.out.items ++ text_of_lines (map handler_words (drop l.handler-index l.fn.handlers)) ≡ l.initial.out.items ++ text_of_lines
    (map handler_words l.fn.handlers)
