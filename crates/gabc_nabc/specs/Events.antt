-- The events of an NABC snippet, character by character: each by the text before it.
use Rattle.std.specs.Prelude.{ℕ, ◌-◌, ◌^◌, min, List, [], ◌∷◌, ◌++◌, Bool, false, not, ◌&&◌, ◌||◌, ◌==◌, nat_le, if◌then◌else◌, Option, Some, None, length, take, drop, encode_utf8_all}
use Rattle.gabc_notes.specs.Events.{finding_event, end_by_mark}
use Rattle.gabc_places.specs.declared.code.Code.TheVariants.{E3, E6, W7}
use Rattle.gabc_places.specs.declared.place.Char.{Char}
use Rattle.gabc_patterns.specs.Pattern.{is_in}
use Rattle.gabc_patterns.specs.Derivative.{is_snippet, is_viable}
use Rattle.gabc_patterns.specs.Function.{keep, trim}
use Rattle.gabc_nabc.specs.Table.{nabc}
use Rattle.gabc_nabc.specs.Names.{is_known}
use Rattle.gabc_notes.specs.declared.stage.NoteEnd.TheVariants.{Cut}
use Rattle.gabc_notes.specs.declared.stage.NoteEvent.{NoteEvent}
use Rattle.gabc_notes.specs.declared.stage.NoteEvent.TheVariants.{Kept, Ended}

-- ---- the characters of a snippet

-- a comment is open after the text: a `%` of it has no LF after it
abbrev pub in_comment : List ℕ → Bool
in_comment [] = false
in_comment (c ∷ t) = ((c == 37) && not (is_in 10 t)) || in_comment t

-- the character c after the text is one of the snippet's: no comment is open, it begins none, and
-- it is no blank
abbrev pub is_character : List ℕ → ℕ → Bool
is_character t c = not (in_comment t) && not (is_in c (37 ∷ 32 ∷ 9 ∷ 10 ∷ []))

-- the character c after the text ends the snippet: a `)` or a `|`, and no comment is open
abbrev pub is_end : List ℕ → ℕ → Bool
is_end t c = not (in_comment t) && ((c == 41) || (c == 124))

-- the characters of the snippet in cs, if the text comes before them
abbrev pub characters_after : List ℕ → List ℕ → List ℕ
characters_after t [] = []
characters_after t (c ∷ cs) = if is_character t c then c ∷ characters_after (t ++ c ∷ []) cs else characters_after (t ++ c ∷ []) cs

-- one of cs ends the snippet, if the text comes before them
abbrev pub has_end_after : List ℕ → List ℕ → Bool
has_end_after t [] = false
has_end_after t (c ∷ cs) = is_end t c || has_end_after (t ++ c ∷ []) cs

-- so of a whole text
abbrev pub has_end : List ℕ → Bool
has_end t = has_end_after [] t

-- the kept text of a text: of its characters each one that leaves the kept text viable
abbrev pub kept_of : List ℕ → List ℕ
kept_of t = keep nabc (characters_after [] t)

-- ---- codes without a name

abbrev pub is_letter : ℕ → Bool
is_letter c = nat_le 97 c && nat_le c 122

-- the letter may be the first of a code
abbrev pub begins_code : ℕ → Bool
begins_code a = is_letter a && not (a == 104)

-- the two characters are a code: letters, the first not `h`; not `su`, `pp`, `ls`, `lt`
abbrev pub is_code : ℕ → ℕ → Bool
is_code a c =
    begins_code a && (is_letter c
    && not (((a == 115) && (c == 117)) || (((a == 112) && (c == 112)) || ((a == 108) && ((c == 115) || (c == 116))))))

-- the last character of the text, if it has one, and the text before that
abbrev pub last_of : List ℕ → List ℕ
last_of t = drop (length t - 1) t

abbrev pub before_last : List ℕ → List ℕ
before_last t = take (length t - 1) t

-- the text ends with the `!` that joins glyphs
abbrev pub joins : List ℕ → Bool
joins t = is_in 33 (last_of t)

-- a code may begin after the text
abbrev pub takes_code : List ℕ → Bool
takes_code t = is_snippet nabc t || joins t

-- the first letter of a code, if it is here
abbrev pub first_after : List ℕ → List ℕ → Option ℕ
first_after t (a ∷ []) = if takes_code t && begins_code a then Some a else None
first_after t _ = None

-- the first letter of a code, if the text ends with it
abbrev pub first_of : List ℕ → Option ℕ
first_of t = first_after (before_last t) (last_of t)

-- with the letter c it is a code, and the table of names lacks it
abbrev pub is_missing : Option ℕ → ℕ → Bool
is_missing None c = false
is_missing (Some a) c = is_code a c && not (is_known a c)

-- ---- the events

-- the bytes of a kept text. A count does not pass 2^64 - 1.
abbrev pub bytes_in : List ℕ → ℕ
bytes_in t = min (length (encode_utf8_all t)) (2 ^ 64 - 1)

-- The end at the character x, after this kept text: E6 if that is no NABC snippet, and the bytes of
-- its longest prefix that is one.
abbrev pub end_events : List ℕ → Char → List NoteEvent
end_events kept x = (if is_snippet nabc kept then [] else finding_event x.place E6 ∷ []) ++ Ended (end_by_mark x.c) (bytes_in (trim nabc kept)) ∷ []

-- The character x of the snippet, after this kept text: kept, with W7 if it ends a code without a
-- name, or E3.
abbrev pub character_events : List ℕ → Char → List NoteEvent
character_events kept x =
    if is_viable nabc (kept ++ x.c ∷ []) then Kept x ∷ (if is_missing (first_of kept) x.c then finding_event x.place W7 ∷ [] else []) else
    finding_event x.place E3 ∷ []

-- the events of the character x after the text
abbrev pub events_at : List ℕ → Char → List NoteEvent
events_at t x =
    if has_end t then [] else
    if is_end t x.c then end_events (kept_of t) x else
    if is_character t x.c then character_events (kept_of t) x else []

-- the events of the end of the characters after the text
abbrev pub cut_events : List ℕ → List NoteEvent
cut_events t = if has_end t then [] else Ended (Cut (record { line = 0; column = 0 })) (bytes_in (kept_of t)) ∷ []

-- the events of each of these characters after the text, and of their end
abbrev pub nabc_events_after : List ℕ → List Char → List (List NoteEvent)
nabc_events_after t [] = cut_events t ∷ []
nabc_events_after t (x ∷ xs) = events_at t x ∷ nabc_events_after (t ++ x.c ∷ []) xs

-- the events of these characters, a list for each, and of their end
abbrev pub nabc_events : List Char → List (List NoteEvent)
nabc_events xs = nabc_events_after [] xs
