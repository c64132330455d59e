-- The fate of a character of a GABC snippet, and its findings, by what is kept before it.
use Rattle.std.specs.Prelude.{ℕ, List, [], ◌∷◌, ◌++◌, Bool, false, cond, not, ◌&&◌, ◌||◌, ◌==◌, codes, reverse, Some}
use Rattle.gabc_places.specs.Fate.{Fate, Keep, Comment, Ends, LeaveOut}
use Rattle.gabc_places.specs.declared.code.Code.{Code}
use Rattle.gabc_places.specs.declared.code.Code.TheVariants.{E1, E6, W8, W10}
use Rattle.gabc_patterns.specs.Reads.{items_by, is_read, goes_on}
use Rattle.gabc_notes.specs.Table.{gabc}
use Rattle.gabc_notes.specs.Events.{ItemText, opens_fusion, closes_fusion, macro_of, is_missing}

-- the text is a snippet: items make it up
abbrev pub is_snippet : List ℕ → Bool
is_snippet t = is_read gabc t

-- it goes on to a snippet: with a pitch or a `]` at most
abbrev pub is_viable : List ℕ → Bool
is_viable t = goes_on gabc ([] ∷ codes "f" ∷ codes "]" ∷ []) t

-- inside raw: no snippet, but one with a `]`
abbrev pub in_raw : List ℕ → Bool
in_raw t = is_snippet (t ++ codes "]") && not (is_snippet t)

-- the fate of the character c after this kept text; a `|` is a mark if the notes are split
abbrev pub fate_in_notes : Bool → List ℕ → ℕ → Fate
fate_in_notes split kept c =
    cond (in_raw kept) Keep
    (cond (c == 37) Comment
    (cond ((c == 41) || (split && (c == 124))) Ends
    (cond (is_viable (kept ++ c ∷ [])) Keep (LeaveOut (Some E1)))))

-- the items of the text, the nearest first
abbrev pub items_back : List ℕ → List ItemText
items_back t = reverse (items_by gabc t)

-- an `@[` is open: the last of the items that is an `@[` or a `]` is an `@[`
abbrev pub is_fused : List ItemText → Bool
is_fused [] = false
is_fused (i ∷ before) = opens_fusion (Some i) || (not (closes_fusion (Some i)) && is_fused before)

-- the findings of the nearest item: W10 of an `@[` while one is open and of a `]` while none is, W8
-- of a macro that is not defined
abbrev pub found_of_item : ℕ → List ItemText → List Code
found_of_item macros [] = []
found_of_item macros (i ∷ before) =
    cond ((opens_fusion (Some i) && is_fused before) || (closes_fusion (Some i) && not (is_fused before))) (W10 ∷ []) []
    ++ cond (is_missing macros (macro_of (Some i))) (W8 ∷ []) []

-- the findings of the last character of a kept text: those of an item that ends with it
abbrev pub found_in_notes : ℕ → List ℕ → List Code
found_in_notes macros kept = cond (is_snippet kept) (found_of_item macros (items_back kept)) []

-- the findings of the mark after it: E6 of an unfinished end, W10 of an `@[` that is open
abbrev pub found_at_end : List ℕ → List Code
found_at_end kept = cond (is_snippet kept) [] (E6 ∷ []) ++ cond (is_fused (items_back kept)) (W10 ∷ []) []
