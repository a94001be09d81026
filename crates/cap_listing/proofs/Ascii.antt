-- A listing is of ASCII.
use Rattle.std.proofs.Common.{ℕ, List, [], ◌∷◌, ◌++◌, sym, subst, arith}
use Rattle.std.specs.Prelude.{IsAscii}
use Rattle.std.proofs.lemmas.Str.{IsAscii-append}
use Rattle.std.proofs.lemmas.Str.Ascii.{IsAscii-nil, IsAscii-cons}
use Rattle.cap_listing.specs.declared.method.ListedMethod.{ListedMethod}
use Rattle.cap_listing.specs.Words.{IsPlain, ArePlain, spaced, joined, line, text_of_lines}
use Rattle.cap_listing.specs.Text.{Lists, lines_of}
use Rattle.cap_listing.specs.Reading.{State, Reads, reads_nothing, reads_more, start}
use Rattle.cap_listing.proofs.Runs.{reads-text}
use Rattle.cap_listing.proofs.Apart.{next-plain}

plain-ascii : (w : List ℕ) → IsPlain w → IsAscii w
plain-ascii [] h = IsAscii-nil
plain-ascii (b ∷ w) h = IsAscii-cons b w (omega (arith, h.0.1)) (plain-ascii w h.1)

spaced-ascii : (ws : List (List ℕ)) → ArePlain ws → IsAscii (spaced ws)
spaced-ascii [] h = IsAscii-nil
spaced-ascii (w ∷ ws) h =
    IsAscii-cons 32 (w ++ spaced ws) (omega arith) (IsAscii-append w (spaced ws) (plain-ascii w h.0) (spaced-ascii ws h.1))

line-ascii : (w : List ℕ) (ws : List (List ℕ)) → ArePlain (w ∷ ws) → IsAscii (line (w ∷ ws))
line-ascii w ws h =
    IsAscii-append (joined (w ∷ ws)) (10 ∷ []) (IsAscii-append w (spaced ws) (plain-ascii w h.0) (spaced-ascii ws h.1))
    (IsAscii-cons 10 [] (omega arith) IsAscii-nil)

reads-ascii : (a : State) (ls : List (List (List ℕ))) (b : State) → Reads a ls b → IsAscii (text_of_lines ls)
reads-ascii _ _ _ (reads_nothing st) = IsAscii-nil
reads-ascii _ _ _ (reads_more st ws between ls after next rest) =
    let p = next-plain st ws between next in
    IsAscii-append (line ws) (text_of_lines ls)
    (subst (λ (vs : List (List ℕ)). IsAscii (line vs)) (sym p.are) (line-ascii p.first p.others p.plain))
    (reads-ascii between ls after rest)

pub listing_ascii : (ms : List ListedMethod) (text : List ℕ) → Lists ms text → IsAscii text
listing_ascii ms text l = subst IsAscii (sym l.is) (reads-ascii start (lines_of ms) _ (reads-text ms l.methods))
