use Rattle.std.proofs.Common.{rules}
use Rattle.gabc_text.proofs.RegularRawParts.{letters}
use Rattle.gabc_text.proofs.regular.regular_text.Goals as goal

pub returns-then-bytes-letters-eq40 : goal.returns-then-bytes-letters-eq40
returns-then-bytes-letters-eq40 c =
    let all = letters c.args.bytes.now c.letters_len-letters.result c.letters_len-letters.ensures.within c.letters_len-letters.ensures.run c.letters_len-letters.ensures.no_tag in
    record { within = search rules; text = all.text; regular = all.regular; mark = all.marks; stops = search rules }
