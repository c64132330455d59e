-- The kept text of a text, character by character: by the text kept before, and whether a comment
-- is open.
use Rattle.std.specs.Prelude.{ℕ, List, [], ◌∷◌, ◌++◌, Bool, true, false, cond, not, ◌&&◌, ◌==◌, reverse}
use Rattle.gabc_places.specs.Fate.{Fate, Comment, Ends}
use Rattle.gabc_text.specs.Token.{tokens}
use Rattle.gabc_text.specs.KeptText.{fate_in_text, kept_after}

abbrev pub opens : Fate → Bool
opens Comment = true
opens _ = false

abbrev pub ends : Fate → Bool
ends Ends = true
ends _ = false

-- the text kept with these characters; a comment continues up to an LF
abbrev pub kept_past : List ℕ → Bool → List ℕ → List ℕ
kept_past kept comment [] = kept
kept_past kept comment (c ∷ t) =
    let before = reverse (tokens kept) in
    cond (comment && not (c == 10)) (kept_past kept comment t)
    (cond (ends (fate_in_text before c)) kept (kept_past (kept ++ kept_after before c) (opens (fate_in_text before c)) t))
