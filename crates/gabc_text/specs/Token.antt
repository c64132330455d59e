-- The tokens of a syllable's text: the parts of its spelling that the rules are about.
use Rattle.std.specs.Prelude.{ℕ, suc, zero, List, [], ◌∷◌, ◌++◌, Bool, true, false, cond, ◌&&◌, ◌==◌, length, drop, map, Option, Some, None, option_map, codes}
use Rattle.std.specs.List.{list_any}
use Rattle.gabc_text.specs.declared.token.TokenKind.{TokenKind}
use Rattle.gabc_text.specs.declared.token.TokenKind.TheVariants.{Letter, Blank, Comment, Stray, Begin, End, Tag, Raw, Translation, OpenTag, OpenTranslation}
use Rattle.gabc_text.specs.declared.token.TagEffect.{TagEffect}
use Rattle.gabc_text.specs.declared.token.TagEffect.TheVariants.{Begins, Other}
use Rattle.gabc_text.specs.declared.token.RawKind.{RawKind}
use Rattle.gabc_text.specs.declared.token.RawKind.TheVariants.{V, Sp, Alt}
use Rattle.gabc_text.specs.declared.tags.TheConstants.{TAGS}

-- a token by its kind, its first character, and the others
pub record Token : Type 0 where
  pub kind : TokenKind
  pub first : ℕ
  pub more : List ℕ

abbrev pub spelling : Token → List ℕ
spelling k = k.first ∷ k.more

abbrev pub is_one_of : List ℕ → ℕ → Bool
is_one_of cs c = list_any (λ d. d == c) cs

abbrev pub is_blank : ℕ → Bool
is_blank c = is_one_of (32 ∷ 9 ∷ 10 ∷ []) c

-- the characters that a `$` before them makes letters
abbrev pub is_special : ℕ → Bool
is_special c = is_one_of (codes "()[]{}<>%$") c

-- the text begins with s
abbrev pub begins_with : List ℕ → List ℕ → Bool
begins_with [] t = true
begins_with (d ∷ s) [] = false
begins_with (d ∷ s) (c ∷ t) = (d == c) && begins_with s t

-- the prefix of the text before the first x; all of it, if there is none
abbrev pub before_first : ℕ → List ℕ → List ℕ
before_first x [] = []
before_first x (c ∷ t) = cond (x == c) [] (c ∷ before_first x t)

-- the prefix of the text through the first place where it goes on with the ending
abbrev pub through : List ℕ → List ℕ → Option (List ℕ)
through ending [] = None
through ending (c ∷ t) = cond (begins_with ending (c ∷ t)) (Some ending) (option_map (λ s. c ∷ s) (through ending t))

-- ---- tags

-- the tag that ends a raw part
abbrev pub ending_of : RawKind → List ℕ
ending_of V = codes "</v>"
ending_of Sp = codes "</sp>"
ending_of Alt = codes "</alt>"

abbrev pub is_text : List ℕ → List ℕ → Bool
is_text [] [] = true
is_text (c ∷ s) (d ∷ t) = (d == c) && is_text s t
is_text _ _ = false

-- the names of the known tags, each with the effect of the tag: those of the table
abbrev pub tag_names : List (List ℕ × TagEffect)
tag_names = map (λ row. (row.0.now, row.1)) TAGS

-- the known tags
abbrev pub tags : List (List ℕ × TagEffect)
tags = map (λ row. (60 ∷ row.0 ++ 62 ∷ [], row.1)) tag_names

abbrev pub effect_in : List (List ℕ × TagEffect) → List ℕ → TagEffect
effect_in [] t = Other
effect_in (row ∷ rows) t = cond (is_text row.0 t) row.1 (effect_in rows t)

abbrev pub effect_of : List ℕ → TagEffect
effect_of t = effect_in tags t

-- ---- the cutting

-- a token that goes on through the ending: more is what follows through it, if it stands there
abbrev pub ended_token : TokenKind → TokenKind → ℕ → List ℕ → List ℕ → Option (List ℕ) → Token
ended_token kind unended first before t (Some more) = record { kind = kind; first = first; more = before ++ more }
ended_token kind unended first before t None = record { kind = unended; first = first; more = before ++ t }

-- the token that begins with the tag whose characters after the `<` are name, before the text t
abbrev pub token_of_tag : List ℕ → List ℕ → TagEffect → Token
token_of_tag name t (Begins raw) = ended_token Raw OpenTag 60 name t (through (ending_of raw) t)
token_of_tag name t _ = record { kind = Tag; first = 60; more = name }

abbrev pub tag_at : List ℕ → Option (List ℕ) → Token
tag_at t None = record { kind = OpenTag; first = 60; more = t }
tag_at t (Some name) = token_of_tag name (drop (length name) t) (effect_of (60 ∷ name))

-- a `$`, with the character after it if it makes this a letter
abbrev pub dollar_at : List ℕ → Token
dollar_at [] = record { kind = Letter; first = 36; more = [] }
dollar_at (c ∷ t) = record { kind = Letter; first = 36; more = cond (is_special c) (c ∷ []) [] }

-- a token of one character
abbrev pub single : ℕ → TokenKind
single c =
    cond (is_blank c) Blank
    (cond (is_one_of (codes ")]>") c) Stray
    (cond (c == 123) Begin
    (cond (c == 125) End
    Letter)))

-- the token that begins with c, where t follows
abbrev pub token_at : ℕ → List ℕ → Token
token_at c t =
    cond (c == 36) (dollar_at t)
    (cond (c == 37) (record { kind = Comment; first = 37; more = before_first 10 t })
    (cond (c == 60) (tag_at t (through (codes ">") t))
    (cond (c == 91) (ended_token Translation OpenTranslation 91 [] t (through (codes "]") t))
    (record { kind = single c; first = c; more = [] }))))

-- the tokens of the text after its first n characters; a text ends where a token would begin with
-- `(`
abbrev pub tokens_after : ℕ → List ℕ → List Token
tokens_after n [] = []
tokens_after (suc n) (c ∷ t) = tokens_after n t
tokens_after zero (c ∷ t) = cond (c == 40) [] (token_at c t ∷ tokens_after (length (token_at c t).more) t)

abbrev pub tokens : List ℕ → List Token
tokens t = tokens_after 0 t
