use Rattle.std.proofs.Common.{◌≡◌, ◌<◌, ◌≤◌, List, ℕ, [], ◌∷◌, ◌++◌, ◌∙◌, true, length, get_or, ap, sym, subst, arith, IsUtf8}
use Rattle.std.specs.Str.{chars}
use Rattle.std.proofs.lemmas.Str.{chars_past_char, encode_ascii}
use Rattle.gabc_tree.specs.NotKept.{comes_next}
use Rattle.gabc_tree.specs.machine.NotKept.{is_kept_as}
use Rattle.gabc_tree.proofs.not_kept.byte_comes_next.Goals as goal

first_comes : (kept : List ℕ) (c : ℕ) → IsUtf8 kept → 1 ≤ length kept → get_or kept 0 0 < 128 → is_kept_as (get_or kept 0 0) c ≡ true → comes_next (chars kept) c ≡ true
first_comes [] c utf8 some low e = absurd (omega (arith, some))
first_comes (b ∷ bs) c utf8 some low e =
    ap (λ (cs : List ℕ). comes_next cs c) (chars_past_char (b ∷ bs) bs b utf8 (ap (λ (e : List ℕ). e ++ bs) (sym (encode_ascii b low)))) ∙ e

pub returns-in-len1-up-clause-comes : goal.returns-in-len1-up-clause-comes
returns-in-len1-up-clause-comes c = λ is.
    subst (λ (kept : List ℕ). comes_next (chars kept) c.args.byte ≡ true) c.as_bytes.ensures.value
    (first_comes c.as_bytes.result.now c.args.byte c.as_bytes.ensures.utf8 c.in-len1-up.len_at_least c.if-next-lt128.true (sym c.is_kept_as.ensures ∙ is))
