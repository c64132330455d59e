-- The facts past some tokens, and the counts past some characters, from any state on. In these
-- definitions `before` are the tokens, the nearest first.
use Rattle.std.specs.Prelude.{ℕ, List, [], ◌∷◌, Bool, not, ◌||◌, ◌&&◌, is_some}
use Rattle.std.specs.Char.{len_utf8}
use Rattle.gabc_places.specs.declared.place.Place.{Place}
use Rattle.gabc_text.specs.declared.styles.Style.{Style}
use Rattle.gabc_text.specs.declared.styles.Style.TheVariants as style
use Rattle.gabc_text.specs.declared.styles.Styles.{Styles}
use Rattle.gabc_text.specs.declared.token.TokenKind.{TokenKind}
use Rattle.gabc_text.specs.declared.text_facts.TextFacts.{TextFacts}
use Rattle.gabc_text.specs.Token.{Token}
use Rattle.gabc_text.specs.View.{effect, kind_of, is_open_after, is_space, has_word, is_end, has_begin, has_translation, is_left_out_by}
use Rattle.gabc_text.specs.TextStage.{count_plus}
use Rattle.gabc_places.specs.Place.{saturating_next_place}

-- the nearest tag of the style opens it, or there is none and it was open
abbrev pub is_open_past : Style → Bool → List Token → Bool
is_open_past s was [] = was
is_open_past s was (k ∷ before) = is_open_after s (effect k) (is_open_past s was before)

-- the set of styles that are open
abbrev pub styles_past : Styles → List Token → Styles
styles_past was before = record {
  b = is_open_past style.B was.b before;
  c = is_open_past style.C was.c before;
  e = is_open_past style.E was.e before;
  i = is_open_past style.I was.i before;
  sc = is_open_past style.Sc was.sc before;
  tt = is_open_past style.Tt was.tt before;
  ul = is_open_past style.Ul was.ul before;
}

-- of the tokens that are blanks or pieces, the nearest is a blank
abbrev pub blank_past : Bool → List Token → Bool
blank_past was [] = was
blank_past was (k ∷ before) = is_space k.kind || (not (is_some (kind_of k)) && blank_past was before)

-- there is a `{` among the tokens, or there was one before
abbrev pub begun_past : TextFacts → List Token → Bool
begun_past facts before = has_begin before || facts.begun

-- there is a `}` after a `{`, or there was one before
abbrev pub ended_past : TextFacts → List Token → Bool
ended_past facts [] = facts.ended
ended_past facts (k ∷ before) = (is_end k.kind && begun_past facts before) || ended_past facts before

-- a token of this kind is left out
abbrev pub leaves_out : TextFacts → TokenKind → Bool
leaves_out facts k = is_left_out_by facts.begun facts.ended k

-- the nearest token that is not left out is a blank
abbrev pub space_past : TextFacts → List Token → Bool
space_past facts [] = facts.space
space_past facts (k ∷ before) =
    is_space k.kind || (leaves_out (record facts { begun = begun_past facts before; ended = ended_past facts before }) k.kind && space_past facts before)

-- there is a blank with no piece before it but span marks, or there was one before
abbrev pub starts_past : TextFacts → List Token → Bool
starts_past facts [] = facts.starts
starts_past facts (k ∷ before) = (is_space k.kind && not (has_word before || facts.word)) || starts_past facts before

-- the facts past the tokens, if these are those before them
abbrev pub facts_past : TextFacts → List Token → TextFacts
facts_past facts before = record {
  styles = styles_past facts.styles before;
  word = has_word before || facts.word;
  blank = blank_past facts.blank before;
  space = space_past facts before;
  begun = begun_past facts before;
  ended = ended_past facts before;
  translated = has_translation before || facts.translated;
  starts = starts_past facts before;
}

-- ---- counts: one that has reached its last value stays there

-- the place after these characters
abbrev pub past : Place → List ℕ → Place
past p [] = p
past p (c ∷ cs) = past (saturating_next_place p c) cs

-- the number of bytes kept with these characters
abbrev pub bytes_past : ℕ → List ℕ → ℕ
bytes_past n [] = n
bytes_past n (c ∷ cs) = bytes_past (count_plus n (len_utf8 c)) cs
