use Rattle.cap_listing.proofs.Candidates.{bytes-cut}
use Rattle.cap_listing.proofs.recognized.bytes_in.Goals as goal

pub returns : goal.returns
returns c place bytes few are e =
    c.in_ok-bytes.ensures bytes are
    (bytes-cut c.args.line.now _ _ _ _ c.second_word.ensures c.cut_word.ensures.first place bytes few are e)
