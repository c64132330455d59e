-- A text is cut into tokens as its characters come.
use Rattle.std.specs.Prelude.{◌≡◌, ℕ, ◌+◌, [], ◌∷◌, ◌++◌, Bool, true, false, cond, ◌||◌, ◌==◌, nat_lt, Option, Some, None}
use Rattle.gabc_text.specs.declared.token.TokenKind.{TokenKind}
use Rattle.gabc_text.specs.declared.token.TokenKind.TheVariants as kind
use Rattle.gabc_text.specs.declared.token.TagEffect.{TagEffect}
use Rattle.gabc_text.specs.declared.token.TagEffect.TheVariants.{Begins, Other}
use Rattle.gabc_text.specs.declared.token.RawKind.{RawKind}
use Rattle.gabc_text.specs.declared.token.RawKind.TheVariants.{V, Sp, Alt}
use Rattle.gabc_text.specs.declared.token_state.TokenState.{TokenState}
use Rattle.gabc_text.specs.declared.token_state.TokenState.TheVariants.{Plain, Dollar, Comment, Tag, Raw, Translation}
use Rattle.gabc_text.specs.declared.token_state.Step.{Step}
use Rattle.gabc_text.specs.declared.token_state.Step.TheVariants.{Stays, Ends}
use Rattle.gabc_text.specs.Token.{is_special, single, effect_of}
use Rattle.gabc_text.specs.declared.text_facts.TextFacts.{TextFacts}
use Rattle.gabc_text.specs.View.{kept_as}
use Rattle.gabc_text.specs.witness.FactsPast.{leaves_out}
use Rattle.gabc_text.specs.machine.TagPrefix.{next_name}

abbrev pub settled_kind : TokenState → ℕ → Option TokenKind
settled_kind Dollar c = cond (is_special c) None (Some kind.Letter)
settled_kind Comment c = cond (c == 10) (Some kind.Comment) None
settled_kind _ c = None

abbrev pub wanted_char : RawKind → ℕ → ℕ
wanted_char V m = cond (m == 0) 60 (cond (m == 1) 47 (cond (m == 2) 118 62))
wanted_char Sp m = cond (m == 0) 60 (cond (m == 1) 47 (cond (m == 2) 115 (cond (m == 3) 112 62)))
wanted_char Alt m = cond (m == 0) 60 (cond (m == 1) 47 (cond (m == 2) 97 (cond (m == 3) 108 (cond (m == 4) 116 62))))

abbrev pub step_in_raw : RawKind → ℕ → ℕ → Step
step_in_raw raw m c =
    cond (c == wanted_char raw m)
    (cond (c == 62) (Ends kind.Raw Other) (cond (nat_lt m 5) (Stays (Raw raw (m + 1))) (Stays (Raw raw 0))))
    (cond (c == 60) (Stays (Raw raw 1)) (Stays (Raw raw 0)))

abbrev pub step_at_tag_end : TagEffect → Step
step_at_tag_end (Begins raw) = Stays (Raw raw 0)
step_at_tag_end s = Ends kind.Tag s

abbrev pub first_step : ℕ → Step
first_step c =
    cond (c == 36) (Stays Dollar)
    (cond (c == 37) (Stays Comment)
    (cond (c == 60) (Stays (Tag []))
    (cond (c == 91) (Stays Translation)
    (Ends (single c) Other))))

abbrev pub next_step : TokenState → ℕ → Step
next_step Plain c = first_step c
next_step Dollar c = Ends kind.Letter Other
next_step Comment c = Stays Comment
next_step (Tag name) c = cond (c == 62) (step_at_tag_end (effect_of (60 ∷ name ++ 62 ∷ []))) (Stays (Tag (next_name name c)))
next_step (Raw raw m) c = step_in_raw raw m c
next_step Translation c = cond (c == 93) (Ends kind.Translation Other) (Stays Translation)

abbrev pub kind_at_end : TokenState → Option TokenKind
kind_at_end Plain = None
kind_at_end Dollar = Some kind.Letter
kind_at_end Comment = Some kind.Comment
kind_at_end (Tag name) = Some kind.OpenTag
kind_at_end (Raw raw m) = Some kind.OpenTag
kind_at_end Translation = Some kind.OpenTranslation

-- the character kept at one between tokens
abbrev pub keep_first : TextFacts → ℕ → TokenKind → Option ℕ
keep_first facts c k = kept_as (c == 37 || leaves_out facts k) facts.space k None (Some 32) (Some c)

-- the character kept at one in this state
abbrev pub keep : TextFacts → TokenState → ℕ → Option ℕ
keep facts Plain c = keep_first facts c (single c)
keep facts Comment c = None
keep facts _ c = Some c

abbrev pub is_plain : TokenState → Bool
is_plain Plain = true
is_plain _ = false

-- between tokens the character is a whole token, a letter
pub record IsLetterBetween (c : ℕ) : Type 0 where
  pub is_letter : single c ≡ kind.Letter
  pub is_whole : first_step c ≡ Ends kind.Letter Other
  pub begins_no_notes : (c == 40) ≡ false
  pub begins_no_comment : (c == 37) ≡ false
  pub begins_no_translation : (c == 91) ≡ false
