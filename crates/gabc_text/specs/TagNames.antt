-- The names of the styles, and of the known tags.
use Rattle.std.specs.Prelude.{ℕ, List, [], ◌∷◌, ◌++◌, codes}
use Rattle.std.specs.List.{flat_map}
use Rattle.gabc_text.specs.declared.styles.Style.{Style}
use Rattle.gabc_text.specs.declared.styles.Style.TheVariants.{B, C, E, I, Sc, Tt, Ul}
use Rattle.gabc_text.specs.declared.token.RawKind.TheVariants.{V, Sp, Alt}
use Rattle.gabc_text.specs.declared.token.TagEffect.{TagEffect}
use Rattle.gabc_text.specs.declared.token.TagEffect.TheVariants.{Opens, Closes, Mark, Begins}

-- the styles, in the order in which they are printed
abbrev pub all_styles : List Style
all_styles = B ∷ C ∷ E ∷ I ∷ Sc ∷ Tt ∷ Ul ∷ []

-- the name between the `<` and the `>` of the tags of a style
abbrev pub style_name : Style → List ℕ
style_name B = codes "b"
style_name C = codes "c"
style_name E = codes "e"
style_name I = codes "i"
style_name Sc = codes "sc"
style_name Tt = codes "tt"
style_name Ul = codes "ul"

-- the tags of a style: its name opens it, and with a `/` before it closes it
abbrev pub style_tags : Style → List (List ℕ × TagEffect)
style_tags s = (style_name s, Opens s) ∷ (47 ∷ style_name s, Closes s) ∷ []

-- the two tags of a span
abbrev pub mark_tags : List ℕ → List (List ℕ × TagEffect)
mark_tags name = (name, Mark) ∷ (47 ∷ name, Mark) ∷ []

abbrev pub known_tags : List (List ℕ × TagEffect)
known_tags =
    flat_map style_tags all_styles
    ++ mark_tags (codes "eu")
    ++ mark_tags (codes "nlba")
    ++ (codes "v", Begins V) ∷ (codes "sp", Begins Sp) ∷ (codes "alt", Begins Alt) ∷ []
