-- The facts that the code keeps of the tokens so far.
use Rattle.std.specs.Prelude.{ℕ, ◌==◌, Bool, true, false, cond, not, ◌||◌, ◌&&◌, Option, Some, None}
use Rattle.gabc_text.specs.declared.styles.Style.{Style}
use Rattle.gabc_text.specs.declared.styles.Style.TheVariants.{B, C, E, I, Sc, Tt, Ul}
use Rattle.gabc_text.specs.declared.styles.Styles.{Styles}
use Rattle.gabc_text.specs.declared.text_facts.TextFacts.{TextFacts}
use Rattle.gabc_places.specs.declared.code.Code.{Code}
use Rattle.gabc_places.specs.declared.code.Code.TheVariants.{W5}
use Rattle.gabc_text.specs.declared.token.TokenKind.{TokenKind}
use Rattle.gabc_text.specs.declared.token.TokenKind.TheVariants.{Letter, Blank, Begin, End, Tag, Raw, Translation, OpenTag, OpenTranslation}
use Rattle.gabc_text.specs.declared.token.TagEffect.{TagEffect}
use Rattle.gabc_text.specs.declared.token.TagEffect.TheVariants.{Opens, Closes, Mark, Other}
use Rattle.gabc_text.specs.declared.token_state.TokenState.{TokenState}
use Rattle.gabc_text.specs.declared.token_state.TokenState.TheVariants.{Plain}
use Rattle.gabc_text.specs.witness.FactsPast.{leaves_out}

abbrev pub with_style : Styles → Style → Bool → Styles
with_style s B o = record s { b = o }
with_style s C o = record s { c = o }
with_style s E o = record s { e = o }
with_style s I o = record s { i = o }
with_style s Sc o = record s { sc = o }
with_style s Tt o = record s { tt = o }
with_style s Ul o = record s { ul = o }

abbrev pub styles_after : Styles → TagEffect → Styles
styles_after s (Opens r) = with_style s r true
styles_after s (Closes r) = with_style s r false
styles_after s _ = s

abbrev pub early_at : TextFacts → TokenState → ℕ → Option Code
early_at s Plain c = cond (c == 91 && s.translated) (Some W5) None
early_at s _ c = None

-- after a piece that is no blank and no span mark
abbrev pub after_piece : TextFacts → TextFacts
after_piece s = record s { word = true; blank = false; space = false }

abbrev pub after_tag : TextFacts → TagEffect → TextFacts
after_tag s Mark = record s { blank = false; space = false }
after_tag s Other = after_piece s
after_tag s effect = record s { styles = styles_after s.styles effect; space = false }

abbrev pub facts_after : TextFacts → TokenKind → TagEffect → TextFacts
facts_after s Blank effect = record s { starts = not s.word || s.starts; blank = true; space = true }
facts_after s Letter effect = after_piece s
facts_after s Raw effect = after_piece s
facts_after s Begin effect = record s { begun = true; space = leaves_out s Begin && s.space }
facts_after s End effect = record s { ended = s.begun || s.ended; space = leaves_out s End && s.space }
facts_after s Translation effect = record s { translated = true; space = false }
facts_after s OpenTranslation effect = record s { translated = true; space = false }
facts_after s OpenTag effect = record s { space = false }
facts_after s Tag effect = after_tag s effect
facts_after s _ effect = s
