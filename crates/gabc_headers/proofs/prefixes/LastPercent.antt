-- The character with which headers are whole is the second `%` of their line.
use Rattle.std.proofs.Common.{◌≡◌, ℕ, ◌+◌, List, [], ◌∷◌, ◌++◌, length, length-append, drop, true, Ok, Err, sym, ap, ◌∙◌, arith}
use Rattle.gabc_places.specs.declared.limits.Limits.{Limits}
use Rattle.gabc_headers.specs.declared.heads.Heads.{Heads}
use Rattle.gabc_headers.specs.declared.heads.HeadFault.{HeadFault}
use Rattle.gabc_headers.specs.Heads.{heads_of}
use Rattle.gabc_headers.proofs.PrefixHasTheSameHeaders.{marked_at}
use Rattle.gabc_headers.proofs.groups.BookNeedsScoreLine.{has_score_line}
use Rattle.gabc_headers.proofs.groups.TextBeforeScore.{head_length, head_text, score_lines}
use Rattle.gabc_headers.proofs.prefixes.EventsMakeHeads.{mark_last}

-- where nothing stands after `%%`, the last character is its second `%`
last_is : (held before rest : List ℕ) (c : ℕ) → held ++ c ∷ [] ≡ before ++ 37 ∷ 37 ∷ rest → length before + 2 ≡ length (held ++ c ∷ []) → c ≡ 37
last_is [] before rest c e n = absurd (omega (arith, n))
last_is (h ∷ []) [] rest c e n = cc
last_is (h ∷ k ∷ held) [] rest c e n = let l = length-append held (c ∷ []) in absurd (omega (arith, l, n))
last_is (h ∷ held) (b ∷ before) rest c e n = last_is held before rest c (ap (λ (xs : List ℕ). drop 1 xs) e) (omega (arith, n))

pub last_percent : (limits : Limits) (held : List ℕ) (c : ℕ) (heads : Heads) (f : HeadFault) → heads_of limits held ≡ Err f → heads_of limits (held ++ c ∷ []) ≡ Ok heads → c ≡ 37
last_percent limits held c heads f before now =
    let t = held ++ c ∷ [] in
    let m = marked_at true t (sym (score_lines t) ∙ has_score_line limits t heads now) in
    let n = head_length t in
    let last = mark_last limits held c heads now f before in
    last_is held (head_text true t) m.0 c m.1 (omega (arith, n, last))
