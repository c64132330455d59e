-- The fate of a character of an NABC snippet, and its findings, by what is kept before it.
use Rattle.std.specs.Prelude.{ℕ, List, [], ◌∷◌, ◌++◌, Bool, cond, not, ◌||◌, ◌&&◌, ◌==◌, codes, Some, None}
use Rattle.gabc_places.specs.Fate.{Fate, Keep, Comment, Ends, LeaveOut}
use Rattle.gabc_places.specs.declared.code.Code.{Code}
use Rattle.gabc_places.specs.declared.code.Code.TheVariants.{E3, E6, W7}
use Rattle.gabc_patterns.specs.Pattern.{is_in}
use Rattle.gabc_patterns.specs.Reads.{is_read, goes_on}
use Rattle.gabc_nabc.specs.Table.{nabc}
use Rattle.gabc_nabc.specs.Events.{is_code, last_of, before_last, joins}
use Rattle.gabc_nabc.specs.Names.{is_known}

-- the text is a snippet: descriptors and spaces make it up
abbrev pub is_snippet : List ℕ → Bool
is_snippet t = is_read nabc t

-- it goes on to a snippet: with two letters, or a letter and a digit at most
abbrev pub is_viable : List ℕ → Bool
is_viable t = goes_on nabc ([] ∷ codes "a" ∷ codes "aa" ∷ codes "1" ∷ codes "a1" ∷ []) t

-- the fate of the character c after this kept text; blanks are left out in silence
abbrev pub fate_in_nabc : List ℕ → ℕ → Fate
fate_in_nabc kept c =
    cond (c == 37) Comment
    (cond ((c == 41) || (c == 124)) Ends
    (cond (is_in c (32 ∷ 9 ∷ 10 ∷ [])) (LeaveOut None)
    (cond (is_viable (kept ++ c ∷ [])) Keep (LeaveOut (Some E3)))))

-- W7 of a code without a name, by the text before it, its first letter and its second
abbrev pub found_of_code : List ℕ → List ℕ → ℕ → List Code
found_of_code before (a ∷ []) c = cond ((is_snippet before || joins before) && (is_code a c && not (is_known a c))) (W7 ∷ []) []
found_of_code before _ c = []

-- the findings of the character c that is kept after this text
abbrev pub found_in_nabc : List ℕ → ℕ → List Code
found_in_nabc kept c = found_of_code (before_last kept) (last_of kept) c

-- the findings of the mark after it: E6 of an unfinished end
abbrev pub found_at_end : List ℕ → List Code
found_at_end kept = cond (is_snippet kept) [] (E6 ∷ [])
