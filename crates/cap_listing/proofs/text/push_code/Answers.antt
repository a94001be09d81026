use Rattle.std.proofs.Common.{◌∙◌, ◌++◌, ℕ, List, map, drop, ap, sym, arith, append_assoc}
use Rattle.jc_decode.specs.Listing.{listing, listing_end}
use Rattle.cap_listing.specs.Words.{text_of_lines}
use Rattle.cap_listing.specs.Text.{instruction_words, rest_lines}
use Rattle.cap_listing.proofs.Ends.{end_inside, text_parts}
use Rattle.cap_listing.proofs.text.push_code.Goals as goal

pub push_rest-requires : goal.push_rest-requires
push_rest-requires c = omega (arith, c.code_end-end.ensures.place, end_inside c.args.code.bytes.now)

pub returns : goal.returns
returns c =
    let code = c.args.code.bytes.now in
    let end = listing_end code in
    let rest = text_of_lines (rest_lines end (drop end code)) in
    let instructions = text_of_lines (map (instruction_words code) (listing code)) in
    c.in_ok-push_rest.ensures
    ∙ ap (λ (n : ℕ). c.push_instructions.new.out.items ++ text_of_lines (rest_lines n (drop n code))) c.code_end-end.ensures.place
    ∙ ap (λ (o : List ℕ). o ++ rest) c.in_ok-push_instructions.ensures
    ∙ append_assoc c.args.out.now.items instructions rest ∙ ap (λ (t : List ℕ). c.args.out.now.items ++ t) (sym (text_parts code))
