-- The events that a stage has left, in any state. A state is between two tokens or within one. A
-- text of the token that it is in, and then the characters to come, are the tokens ahead; before
-- one of them the facts are those of the state, with the tokens since. In these definitions
-- `before` are the tokens since, the nearest first: before the first none.
use Rattle.std.specs.Prelude.{if◌then◌else◌, ℕ, List, [], ◌∷◌, ◌++◌, Bool, cond, not, ◌&&◌, length, drop, map, Option, Some, None, is_some, reverse}
use Rattle.gabc_places.specs.declared.place.Place.{Place}
use Rattle.gabc_places.specs.declared.place.Span.{Span}
use Rattle.gabc_places.specs.declared.code.Code.{Code}
use Rattle.gabc_places.specs.declared.code.Code.TheVariants.{W5}
use Rattle.gabc_text.specs.declared.view.PieceKind.{PieceKind}
use Rattle.gabc_text.specs.declared.view.PieceKind.TheVariants as piece
use Rattle.gabc_text.specs.declared.view.Piece.{Piece}
use Rattle.gabc_text.specs.declared.token.TokenKind.{TokenKind}
use Rattle.gabc_text.specs.declared.token.TagEffect.{TagEffect}
use Rattle.gabc_text.specs.declared.text_facts.TextFacts.{TextFacts}
use Rattle.gabc_text.specs.declared.progress.Progress.{Progress}
use Rattle.gabc_text.specs.declared.stage.TextStage.{TextStage}
use Rattle.gabc_text.specs.declared.text_event.TextPart.{TextPart}
use Rattle.gabc_text.specs.declared.text_event.TextPart.TheVariants as part
use Rattle.gabc_text.specs.declared.text_event.TextEnd.{TextEnd}
use Rattle.gabc_text.specs.declared.text_event.TextEnd.TheVariants as ending
use Rattle.gabc_text.specs.declared.text_event.TextEvent.{TextEvent}
use Rattle.gabc_text.specs.declared.text_event.TextEvent.TheVariants as out
use Rattle.gabc_text.specs.Token.{Token, spelling, tokens}
use Rattle.gabc_text.specs.View.{along, effect, piece_kind, is_space, is_begin, is_end, is_translation, is_open_kind, is_cut, centre_by, kept_as, late_codes_by, end_codes_by}
use Rattle.gabc_text.specs.Events.{no_events_each, kept_lists_as, is_lone, is_whole_translation, with_first, with_last, option_list_of, count_by, end_by_rest, after_tokens}
use Rattle.gabc_text.specs.ViewFacts.{but_end}
use Rattle.gabc_text.specs.TextFacts.{has_style}
use Rattle.gabc_text.specs.TextStage.{count_plus}
use Rattle.gabc_places.specs.Place.{saturating_next_place}
use Rattle.gabc_text.specs.ExampleTexts.{stands_for}
use Rattle.gabc_text.specs.witness.FactsPast.{facts_past, leaves_out, past, bytes_past}

-- ---- the events of a token for its characters to come, by the facts before it and where it begins

-- the characters kept of them
abbrev pub kept_by : TextFacts → TokenKind → List ℕ → List ℕ
kept_by facts k cs = kept_as (leaves_out facts k) facts.space k [] (32 ∷ []) cs

-- the event of each character, kept at its place, the first of which is this one
abbrev pub each_kept : Place → List ℕ → List (List TextEvent)
each_kept p [] = []
each_kept p (c ∷ cs) = (out.Kept (record { c = c; place = p }) ∷ []) ∷ each_kept (saturating_next_place p c) cs

-- the kept character of each, the first of which is at this place
abbrev pub lists_kept : TextFacts → Place → TokenKind → List ℕ → List (List TextEvent)
lists_kept facts p k cs = kept_lists_as (leaves_out facts k) facts.space k p cs (each_kept p cs)

-- the piece that a token is, if any: a blank is one after a word's piece, and not after a blank
-- piece
abbrev pub piece_by : TextFacts → TokenKind → TagEffect → Option PieceKind
piece_by facts k so = cond (is_space k && (facts.word && not facts.blank)) (Some piece.Blank) (piece_kind k so)

-- the number of bytes kept before its last character; of a lone `$`, before the token
abbrev pub last_by : Progress → Token → List ℕ → ℕ
last_by progress k cs = cond (is_lone k) progress.start (bytes_past progress.kept (but_end cs))

-- the number of bytes kept after it
abbrev pub kept_after : TextFacts → Progress → TokenKind → List ℕ → ℕ
kept_after facts progress k cs = bytes_past progress.kept (kept_by facts k cs)

-- a piece has the span of its token in the kept text, a character that of the token's last
-- character
abbrev pub from_by : ℕ → PieceKind → ℕ → ℕ
from_by start piece.Char last = last
from_by start _ last = start

-- a piece of this kind, with `last` bytes kept before the token's last character, and `to` after it
abbrev pub piece_there : TextFacts → Progress → PieceKind → ℕ → ℕ → Piece
piece_there facts progress kind last to = record { kind = kind; styles = facts.styles; span = record { from = from_by progress.start kind last; to = to } }

-- a piece comes with the blank that waits for it
abbrev pub parts_by : TextFacts → Progress → TokenKind → ℕ → ℕ → Option PieceKind → List TextPart
parts_by facts progress k last to (Some kind) = map (λ (p : Piece). part.Piece p) (option_list_of progress.blank) ++ part.Piece (piece_there facts progress kind last to) ∷ []
parts_by facts progress k last to None =
    cond (is_space k && (not facts.word && not facts.starts)) (part.WordStart ∷ [])
    (cond (is_whole_translation k && not facts.translated) (part.Translation (record { from = count_plus progress.start 1; to = last }) ∷ [])
    [])

-- the codes of the findings at the end of the token
abbrev pub codes_by : TextFacts → TokenKind → TagEffect → List Code
codes_by facts k so = late_codes_by (has_style facts.styles) facts.begun facts.ended k so

-- the findings of these codes at a place
abbrev pub findings_there : Place → List Code → List TextEvent
findings_there p cs = map (λ (c : Code). out.Found (record { place = p; code = c })) cs

-- the events of the token as a whole, with `last` bytes kept before its last character, and `to`
-- after it: its parts and its findings
abbrev pub whole_events_by : TextFacts → Progress → TokenKind → TagEffect → ℕ → ℕ → List TextEvent
whole_events_by facts progress k so last to =
    map (λ (p : TextPart). out.Part p) (parts_by facts progress k last to (piece_kind k so))
    ++ findings_there progress.place (codes_by facts k so)

abbrev pub token_events_by : TextFacts → Progress → Token → List ℕ → List TextEvent
token_events_by facts progress k cs = whole_events_by facts progress k.kind (effect k) (last_by progress k cs) (kept_after facts progress k.kind cs)

-- the finding of a second translation, if no character of it was read before
abbrev pub early_events_by : TextFacts → Place → List ℕ → TokenKind → List TextEvent
early_events_by facts p [] k = cond (is_translation k && facts.translated) (findings_there p (W5 ∷ [])) []
early_events_by facts p (c ∷ read) k = []

-- ---- the counts after a token

-- the number of pieces, if the token is this piece or none
abbrev pub count_after : ℕ → Option PieceKind → ℕ
count_after n o = if is_some o then count_plus n 1 else n

-- the blank that waits: a blank does, and any other piece takes it along
abbrev pub waiting_after : Piece → Option Piece → Option PieceKind → Option Piece
waiting_after blank was (Some piece.Blank) = Some blank
waiting_after blank was (Some _) = None
waiting_after blank was None = was

-- the number of pieces before the first `{`
abbrev pub begin_after : TextFacts → TokenKind → ℕ → Option ℕ → Option ℕ
begin_after facts k n was = if is_begin k && not facts.begun then Some n else was

-- the number of pieces before the first `}` after it
abbrev pub end_after : TextFacts → TokenKind → ℕ → Option ℕ → Option ℕ
end_after facts k n was = if is_end k && (facts.begun && not facts.ended) then Some n else was

-- ---- the events of the end, by the facts and the counts before it

-- the codes of styles that are still open, and of a centre that is
abbrev pub codes_last : TextFacts → List Code
codes_last facts = end_codes_by (has_style facts.styles) facts.begun facts.ended

-- the events of the end: its findings, none if the text is cut, then the centre and the end itself
abbrev pub end_events_by : TextFacts → Progress → Bool → TextEnd → List TextEvent
end_events_by facts progress cut how =
    findings_there progress.next (cond cut [] (codes_last facts))
    ++ (map (λ (c : Span). out.Part (part.Centre c)) (option_list_of (centre_by (count_by progress.pieces progress.blank) progress.begin progress.end))
    ++ out.Ended how ∷ [])

-- ---- the tokens ahead of a state, of whose first one some characters were read

module _ (read : List ℕ) (s : TextStage) where
  -- the facts before the token
  abbrev pub facts_at : List Token → TextFacts
  facts_at before = facts_past s.facts before

  -- the characters read of the token
  abbrev pub read_at : List Token → List ℕ
  read_at [] = read
  read_at (k ∷ before) = []

  -- the characters to come of the token
  abbrev pub ahead_at : List Token → Token → List ℕ
  ahead_at before k = drop (length (read_at before)) (spelling k)

  -- the characters since
  abbrev pub text_since : List Token → List ℕ
  text_since [] = []
  text_since (k ∷ before) = text_since before ++ ahead_at before k

  -- the characters kept since
  abbrev pub kept_since : List Token → List ℕ
  kept_since [] = []
  kept_since (k ∷ before) = kept_since before ++ kept_by (facts_at before) k.kind (ahead_at before k)

  -- the place of the next character to come
  abbrev pub next_at : List Token → Place
  next_at before = past s.progress.next (text_since before)

  -- the number of bytes kept before it
  abbrev pub bytes_at : List Token → ℕ
  bytes_at before = bytes_past s.progress.kept (kept_since before)

  -- the place of the token: the end of the one before it; of the first token, the place in the
  -- state
  abbrev pub place_at : List Token → Place
  place_at [] = s.progress.place
  place_at (k ∷ before) = next_at (k ∷ before)

  -- the number of bytes kept before the token
  abbrev pub start_at : List Token → ℕ
  start_at [] = s.progress.start
  start_at (k ∷ before) = bytes_at (k ∷ before)

  -- the piece that the token is, if any
  abbrev pub piece_at : List Token → Token → Option PieceKind
  piece_at before k = piece_by (facts_at before) k.kind (effect k)

  -- the number of pieces, with a blank that waits
  abbrev pub count_at : List Token → ℕ
  count_at [] = s.progress.pieces
  count_at (k ∷ before) = count_after (count_at before) (piece_at before k)

  -- the token, as a piece that is a blank
  abbrev pub blank_piece : List Token → Token → Piece
  blank_piece before k = record { kind = piece.Blank; styles = (facts_at before).styles; span = record { from = start_at before; to = bytes_at (k ∷ before) } }

  -- the blank that is the last piece so far, if it is one
  abbrev pub waiting_at : List Token → Option Piece
  waiting_at [] = s.progress.blank
  waiting_at (k ∷ before) = waiting_after (blank_piece before k) (waiting_at before) (piece_at before k)

  -- the number of pieces before the first `{`
  abbrev pub begin_at : List Token → Option ℕ
  begin_at [] = s.progress.begin
  begin_at (k ∷ before) = begin_after (facts_at before) k.kind (count_at before) (begin_at before)

  -- the number of pieces before the first `}` after it
  abbrev pub end_at : List Token → Option ℕ
  end_at [] = s.progress.end
  end_at (k ∷ before) = end_after (facts_at before) k.kind (count_at before) (end_at before)

  -- where the token begins, and the counts before it
  abbrev pub progress_at : List Token → Progress
  progress_at before = record {
    place = place_at before;
    start = start_at before;
    next = next_at before;
    kept = bytes_at before;
    pieces = count_at before;
    blank = waiting_at before;
    begin = begin_at before;
    end = end_at before;
  }

  -- the events of the token as a whole
  abbrev pub token_events_at : List Token → Token → List TextEvent
  token_events_at before k = token_events_by (facts_at before) (progress_at before) k (ahead_at before k)

  -- the events of a lone `$` with the character after it, or with the end
  abbrev pub owed_events_at : List Token → List TextEvent
  owed_events_at [] = []
  owed_events_at (k ∷ before) = cond (is_lone k) (token_events_at before k) []

  -- The events of each character to come of a token: with its first those that the token before
  -- owes and the finding of a second translation, then the kept character of each, and with its
  -- last the rest.
  abbrev pub lists_past : List Token → Token → List (List TextEvent)
  lists_past before k =
      with_last (cond (is_lone k) [] (token_events_at before k))
      (with_first (owed_events_at before ++ early_events_by (facts_at before) (place_at before) (read_at before) k.kind)
      (lists_kept (facts_at before) (next_at before) k.kind (ahead_at before k)))

  -- a text is cut if its last token is left open; it ends at the `(` that follows, or with the
  -- input
  abbrev pub end_at_text : List Token → List ℕ → TextEnd
  end_at_text [] rest = end_by_rest rest
  end_at_text (k ∷ before) rest = cond (is_open_kind k.kind) (ending.Cut (place_at before)) (end_by_rest rest)

  -- the events of the character after the tokens, or of the end, and then none
  abbrev pub lists_last : List Token → List ℕ → List (List TextEvent)
  lists_last before rest = (owed_events_at before ++ end_events_by (facts_at before) (progress_at before) (is_cut before) (end_at_text before rest)) ∷ no_events_each rest

  -- the events of a text that begins with the characters read: a list for each character after
  -- them, and one for the end
  abbrev pub lists_ahead : List ℕ → List (List TextEvent)
  lists_ahead t = along lists_past [] (tokens t) ++ lists_last (reverse (tokens t)) (after_tokens t)

-- the events that a stage has left for these characters and then the end: a list for each of them,
-- and one for the end
unfoldable pub events_left : TextStage → List ℕ → List (List TextEvent)
events_left s t = cond s.ended ([] ∷ no_events_each t) (lists_ahead (stands_for s.state) s (stands_for s.state ++ t))

-- the characters that a stage does not read, from the `(` on
unfoldable pub characters_left : TextStage → List ℕ → List ℕ
characters_left s t = cond s.ended t (after_tokens (stands_for s.state ++ t))
