-- Facts about the tokens before a place of a text, as they are kept while its nodes are made.
use Rattle.std.specs.Prelude.{ℕ, List, Bool, true, false, not, ◌&&◌, ◌||◌, is_some, Option}
use Rattle.std.specs.List.{list_any}
use Rattle.gabc_text.specs.declared.styles.Style.TheVariants.{B, C, E, I, Sc, Tt, Ul}
use Rattle.gabc_text.specs.declared.styles.Styles.{Styles}
use Rattle.gabc_text.specs.declared.token.TagEffect.{TagEffect}
use Rattle.gabc_text.specs.declared.token.TagEffect.TheVariants.{Mark, Other}
use Rattle.gabc_text.specs.declared.token.TokenKind.{TokenKind}
use Rattle.gabc_text.specs.declared.token.TokenKind.TheVariants.{Letter, Blank, Begin, End, Tag, Raw, Translation, OpenTranslation}
use Rattle.gabc_text.specs.declared.token_reader.TextToken.{TextToken}
use Rattle.gabc_text.specs.Token.{Token}
use Rattle.gabc_text.specs.View.{is_open_after, has_begin, has_end, has_word, follows_blank, has_translation, piece_kind, is_space}
use Rattle.gabc_text.specs.Events.{styles_of}
use Rattle.gabc_nodes.specs.declared.node.Node.{Node}
use Rattle.gabc_tree.specs.declared.text_nodes.Before.{Before}
use Rattle.gabc_tree.specs.TextNodes.{node_by, numbers}

-- the facts about these tokens
abbrev pub shown_by : List Token → Before
shown_by before = record {
  styles = styles_of before;
  word = has_word before;
  blank = follows_blank before;
  begun = has_begin before;
  ended = has_end before;
  translated = has_translation before;
}

abbrev pub styles_past : Styles → TagEffect → Styles
styles_past s e = record {
  b = is_open_after B e s.b;
  c = is_open_after C e s.c;
  e = is_open_after E e s.e;
  i = is_open_after I e s.i;
  sc = is_open_after Sc e s.sc;
  tt = is_open_after Tt e s.tt;
  ul = is_open_after Ul e s.ul;
}

-- the facts with a tag of this effect added
abbrev pub shown_past_tag : Before → TagEffect → Before
shown_past_tag f Mark = record f { blank = false }
shown_past_tag f Other = record f { word = true; blank = false }
shown_past_tag f e = record f { styles = styles_past f.styles e }

-- the facts with a token of this kind added, and the effect of its tag
abbrev pub shown_past : Before → TokenKind → TagEffect → Before
shown_past f Letter e = record f { word = true; blank = false }
shown_past f Raw e = record f { word = true; blank = false }
shown_past f Blank e = record f { blank = true }
shown_past f Tag e = shown_past_tag f e
shown_past f Begin e = record f { begun = true }
shown_past f End e = record f { ended = f.begun || f.ended }
shown_past f Translation e = record f { translated = true }
shown_past f OpenTranslation e = record f { translated = true }
shown_past f _ e = f

-- whether a piece is among these
abbrev pub has_piece : List TextToken → Bool
has_piece ks = list_any (λ k. is_some (piece_kind k.kind k.effect)) ks

-- whether a token of this kind is a blank that is a piece, before these tokens
abbrev pub is_blank_piece : Before → TokenKind → List TextToken → Bool
is_blank_piece f k after = (is_space k && (f.word && not f.blank)) && has_piece after

-- the node of a token with this spelling, after tokens with these facts and before these tokens
abbrev pub node_after : Before → TextToken → List ℕ → List TextToken → Option Node
node_after f k s after =
    node_by k.span (numbers f.styles f.begun f.ended) (is_blank_piece f k.kind after) (not f.translated) s k.kind k.effect
