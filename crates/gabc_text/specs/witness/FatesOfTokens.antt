-- The fate of a character that is a whole token or begins one, by all the tokens before it, the
-- nearest first.
use Rattle.std.specs.Prelude.{ℕ, List, [], ◌∷◌, cond, ◌&&◌, ◌||◌, ◌==◌, Option, Some, None}
use Rattle.gabc_places.specs.declared.code.Code.{Code}
use Rattle.gabc_places.specs.Fate.{Fate, Keep, Comment, Ends, LeaveOut}
use Rattle.gabc_text.specs.declared.token.TokenKind.{TokenKind}
use Rattle.gabc_text.specs.declared.token.TagEffect.TheVariants.{Other}
use Rattle.gabc_text.specs.Token.{Token, single}
use Rattle.gabc_text.specs.View.{is_left_out, is_space, follows_space, late_codes}

abbrev pub first_code : List Code → Option Code
first_code [] = None
first_code (code ∷ cs) = Some code

-- the fate of the only character of a token of this kind: it is left out, with its finding or as a
-- blank after a blank, or kept
abbrev pub fate_of_kind : List Token → TokenKind → Fate
fate_of_kind before k =
    cond (is_left_out before k) (LeaveOut (first_code (late_codes before k Other)))
    (cond (is_space k && follows_space before) (LeaveOut None) Keep)

-- a `(` ends the text, a `%` begins a comment; with a `$`, a `<` and a `[` a longer token begins
abbrev pub fate_of_token : List Token → ℕ → Fate
fate_of_token before c =
    cond (c == 40) Ends
    (cond (c == 37) Comment
    (cond ((c == 36) || ((c == 60) || (c == 91))) Keep (fate_of_kind before (single c))))
