-- The nodes of a syllable's text, by the tokens of its kept text. In these definitions `before` are
-- the tokens before a place, the nearest first, and `after` those after it.
use Rattle.std.specs.Prelude.{if◌then◌else◌, ℕ, ◌+◌, List, [], ◌∷◌, ◌++◌, Bool, true, false, not, ◌&&◌, ◌==◌, nat_lt, length, Option, Some, None, is_some, codes, option_to_list}
use Rattle.std.specs.List.{list_any, position_or_len, starts_with}
use Rattle.std.specs.Str.{chars}
use Rattle.gabc_places.specs.declared.place.Span.{Span}
use Rattle.gabc_text.specs.declared.span_mark.SpanMark.{SpanMark}
use Rattle.gabc_text.specs.declared.span_mark.SpanMark.TheVariants.{OpensEu, ClosesEu, OpensNlba, ClosesNlba}
use Rattle.gabc_text.specs.declared.styles.Style.{Style}
use Rattle.gabc_text.specs.declared.styles.Styles.{Styles}
use Rattle.gabc_text.specs.declared.token.TagEffect.{TagEffect}
use Rattle.gabc_text.specs.declared.token.TagEffect.TheVariants.{Opens, Closes, Mark}
use Rattle.gabc_text.specs.declared.token.TokenKind.{TokenKind}
use Rattle.gabc_text.specs.declared.token.TokenKind.TheVariants.{Letter, Blank, Begin, End, Tag, Raw, Translation}
use Rattle.gabc_text.specs.Token.{Token, spelling, tokens}
use Rattle.gabc_text.specs.TagNames.{all_styles}
use Rattle.gabc_text.specs.View.{effect, kind_of, is_same, has_begin, has_end, has_translation}
use Rattle.gabc_text.specs.Events.{styles_of, is_blank_at}
use Rattle.gabc_text.specs.KeptText.{bytes_before}
use Rattle.gabc_text.specs.RegularText.{mark_at}
use Rattle.gabc_nodes.specs.Node.{leaf}
use Rattle.gabc_nodes.specs.declared.kind.Kind.{Kind}
use Rattle.gabc_nodes.specs.declared.kind.Kind.TheVariants as kind
use Rattle.gabc_nodes.specs.declared.node.Node.{Node}

-- a node with these bytes, kind and numbers, in which no other lies
abbrev pub text_node : Span → Kind → ℕ → ℕ → ℕ → Node
text_node span k a b c = record (leaf k a span.from span.to) { b = b; c = c }

-- ---- numbers

abbrev pub bit : Bool → ℕ → ℕ
bit holds n = if holds then n else 0

abbrev pub styles_number : Styles → ℕ
styles_number s = bit s.b 1 + bit s.c 2 + bit s.e 4 + bit s.i 8 + bit s.sc 16 + bit s.tt 32 + bit s.ul 64

-- the open styles, and whether it is in the centre: after a `{` and before its `}`
abbrev pub numbers : Styles → Bool → Bool → ℕ
numbers styles begun ended = styles_number styles + bit (begun && not ended) 128

abbrev pub numbers_of : List Token → ℕ
numbers_of before = numbers (styles_of before) (has_begin before) (has_end before)

abbrev pub begins_with : List ℕ → List ℕ → Bool
begins_with front s = starts_with (λ a b. a == b) s front

-- a `$` with a character, by the spelling of a letter
abbrev pub is_escape : List ℕ → Bool
is_escape s = begins_with (codes "$") s && nat_lt 1 (length s)

-- the number of a raw part, by its spelling
abbrev pub raw_number : List ℕ → ℕ
raw_number s = if begins_with (codes "<v>") s then 0 else (if begins_with (codes "<sp>") s then 1 else 2)

abbrev pub number_of_mark : Option SpanMark → ℕ
number_of_mark (Some OpensEu) = 0
number_of_mark (Some ClosesEu) = 1
number_of_mark (Some OpensNlba) = 2
number_of_mark (Some ClosesNlba) = 3
number_of_mark None = 0

-- the index of a style among all of them
abbrev pub number_of_style : Style → ℕ
number_of_style s = position_or_len (is_same s) all_styles

-- ---- the node of a token

-- of a tag with these bytes, numbers and spelling, by its effect
abbrev pub tag_node : Span → ℕ → List ℕ → TagEffect → Node
tag_node span n s (Opens r) = text_node span kind.StyleTag 0 (number_of_style r) 0
tag_node span n s (Closes r) = text_node span kind.StyleTag 0 (number_of_style r) 1
tag_node span n s Mark = text_node span kind.SpanMark n (number_of_mark (mark_at s)) 0
tag_node span n s _ = text_node span kind.Tag n 0 0

-- Of a token, by its kind and the effect of its tag: `n` are the numbers there, `is_piece` says of
-- a blank that it is a piece, `is_first` of a translation that none comes before it, and `s` is its
-- spelling. No other token is in the text of a syllable with notes.
abbrev pub node_by : Span → ℕ → Bool → Bool → List ℕ → TokenKind → TagEffect → Option Node
node_by span n is_piece is_first s Letter e = Some (text_node span (if is_escape s then kind.Escape else kind.Characters) n 0 0)
node_by span n is_piece is_first s Blank e = Some (text_node span kind.TextBlank n (bit is_piece 1) 0)
node_by span n is_piece is_first s Raw e = Some (text_node span kind.Raw n (raw_number s) 0)
node_by span n is_piece is_first s Tag e = Some (tag_node span n s e)
node_by span n is_piece is_first s Begin e = Some (text_node span kind.Brace 0 0 0)
node_by span n is_piece is_first s End e = Some (text_node span kind.Brace 0 1 0)
node_by span n is_piece is_first s Translation e = Some (text_node span kind.Translation 0 (bit is_first 1) 0)
node_by span n is_piece is_first s _ e = None

-- the bytes of the token
abbrev pub span_at : List Token → Token → Span
span_at before k = record { from = bytes_before before; to = bytes_before (k ∷ before) }

-- a blank is a piece after a word's piece, if no blank is between, and if a piece follows
abbrev pub is_piece_at : List Token → Token → List Token → Bool
is_piece_at before k after = is_blank_at before k.kind && list_any (λ t. is_some (kind_of t)) after

abbrev pub node_at : List Token → Token → List Token → Option Node
node_at before k after = node_by (span_at before k) (numbers_of before) (is_piece_at before k after) (not (has_translation before)) (spelling k) k.kind (effect k)

abbrev pub nodes_along : List Token → List Token → List Node
nodes_along before [] = []
nodes_along before (k ∷ after) = option_to_list (node_at before k after) ++ nodes_along (k ∷ before) after

-- ---- characters one after the other are one node

abbrev pub is_characters : Kind → Bool
is_characters kind.Characters = true
is_characters _ = false

abbrev pub joined_after : Node → List Node → List Node
joined_after n [] = n ∷ []
joined_after n (m ∷ ns) =
    if is_characters n.kind && is_characters m.kind
    then joined_after (record n { end = m.end }) ns
    else (n ∷ joined_after m ns)

abbrev pub joined : List Node → List Node
joined [] = []
joined (n ∷ ns) = joined_after n ns

-- the nodes of the text of which this is kept: they count its bytes
abbrev pub text_nodes : List ℕ → List Node
text_nodes text = joined (nodes_along [] (tokens (chars text)))
