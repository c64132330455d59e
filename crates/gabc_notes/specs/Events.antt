-- The events of a snippet, character by character. The events of a character depend on it and on
-- the characters before it; these are listed with the nearest first, and called `back`.
use Rattle.std.specs.Prelude.{ℕ, ◌^◌, ◌-◌, ◌/◌, ◌%◌, nat_lt, min, sum_by, find, List, [], ◌∷◌, ◌++◌, Bool, false, not, ◌&&◌, ◌||◌, ◌==◌, codes, if◌then◌else◌, Option, Some, None}
use Rattle.std.specs.Char.{len_utf8}
use Rattle.std.specs.List.{list_any}
use Rattle.std.specs.Option.{option_map_or}
use Rattle.gabc_places.specs.declared.code.Code.{Code}
use Rattle.gabc_places.specs.declared.code.Code.TheVariants.{E1, E6, W8, W10}
use Rattle.gabc_places.specs.declared.place.Char.{Char}
use Rattle.gabc_places.specs.declared.place.Place.{Place}
use Rattle.gabc_patterns.specs.Pattern.{is_in}
use Rattle.gabc_patterns.specs.Derivative.{same_texts, is_snippet, is_viable}
use Rattle.gabc_patterns.specs.Function.{items, keep, trim}
use Rattle.gabc_notes.specs.Table.{gabc}
use Rattle.gabc_notes.specs.Notes.{is_digit}
use Rattle.gabc_notes.specs.declared.item.ItemKind.{ItemKind}
use Rattle.gabc_notes.specs.declared.item.ItemKind.TheVariants.{Attribute, Fusion}
use Rattle.gabc_notes.specs.declared.stage.NoteEnd.{NoteEnd}
use Rattle.gabc_notes.specs.declared.stage.NoteEnd.TheVariants.{Next, Close, Cut}
use Rattle.gabc_notes.specs.declared.stage.NoteEvent.{NoteEvent}
use Rattle.gabc_notes.specs.declared.stage.NoteEvent.TheVariants.{Kept, Found, Ended}

-- inside raw: no snippet, but one with a closing bracket
abbrev pub in_raw : List ℕ → Bool
in_raw kept = is_snippet gabc (kept ++ codes "]") && not (is_snippet gabc kept)

-- a character, and those before it
pub record Point : Type 0 where
  pub back : List Char
  pub here : Char

-- these characters as points
abbrev pub points : List Char → List Point
points [] = []
points (x ∷ back) = record { back = back; here = x } ∷ points back

-- ---- comments, and the kept text

-- the characters that lie in no comment, in order
abbrev pub outside_comments : List (ℕ × Bool) → List ℕ
outside_comments [] = []
outside_comments (m ∷ back) = if m.1 then outside_comments back else outside_comments back ++ m.0 ∷ []

abbrev pub ends_in_comment : List (ℕ × Bool) → Bool
ends_in_comment [] = false
ends_in_comment (m ∷ back) = m.1

-- whether c lies in a comment: it is no LF, and is a `%` outside raw or follows a character that
-- lies in one
abbrev pub goes_in_comment : List (ℕ × Bool) → ℕ → Bool
goes_in_comment back c = not (c == 10) && (ends_in_comment back || (not (in_raw (keep gabc (outside_comments back))) && (c == 37)))

-- each character, and whether it lies in a comment
abbrev pub with_comments : List Char → List (ℕ × Bool)
with_comments [] = []
with_comments (x ∷ back) = (x.c, goes_in_comment (with_comments back) x.c) ∷ with_comments back

-- the kept text: of the characters that lie in no comment, those that go on a viable text
abbrev pub kept : List Char → List ℕ
kept back = keep gabc (outside_comments (with_comments back))

abbrev pub is_comment : Point → Bool
is_comment p = goes_in_comment (with_comments p.back) p.here.c

abbrev pub is_in_raw : Point → Bool
is_in_raw p = in_raw (kept p.back)

abbrev pub kept_with : Point → List ℕ
kept_with p = kept p.back ++ p.here.c ∷ []

abbrev pub is_kept : Point → Bool
is_kept p = not (is_comment p) && is_viable gabc (kept_with p)

-- ---- items

abbrev pub ItemText : Type 0
ItemText = ItemKind × List ℕ

abbrev pub last_of : List ItemText → Option ItemText
last_of [] = None
last_of (i ∷ []) = Some i
last_of (i ∷ j ∷ is) = last_of (j ∷ is)

-- the item that ends with the text: the last item of a snippet
abbrev pub last_item : List ℕ → Option ItemText
last_item t = if is_snippet gabc t then last_of (items gabc t) else None

-- the item that ends at the point
abbrev pub item_at : Point → Option ItemText
item_at p = if is_kept p then last_item (kept_with p) else None

-- an `@[`
abbrev pub opens_fusion : Option ItemText → Bool
opens_fusion (Some (Fusion, t)) = same_texts t (codes "@[")
opens_fusion _ = false

-- a `]` that closes no raw
abbrev pub closes_fusion : Option ItemText → Bool
closes_fusion (Some (Fusion, t)) = same_texts t (codes "]")
closes_fusion _ = false

abbrev pub digit_if : Bool → ℕ → Option ℕ
digit_if b d = if b then Some (d - 48) else None

-- the digit of `[nm1]`, `[gm1]`, `[em1]` and the like
abbrev pub macro_in : List ℕ → Option ℕ
macro_in (a ∷ l ∷ m ∷ d ∷ b ∷ []) = digit_if ((a == 91) && (is_in l (codes "nge") && ((m == 109) && (is_digit d && (b == 93))))) d
macro_in _ = None

-- the digit of the macro that an item uses: only an attribute uses one
abbrev pub macro_of : Option ItemText → Option ℕ
macro_of (Some (Attribute, t)) = macro_in t
macro_of _ = None

-- an `@[` is open: of the last `@[` or `]` that is an item, the former
abbrev pub is_fused : List Char → Bool
is_fused back = option_map_or (λ (p : Point). opens_fusion (item_at p))
    (find (λ (p : Point). opens_fusion (item_at p) || closes_fusion (item_at p)) (points back)) false

-- the place of the last character that is kept and lies outside raw: inside raw, of the bracket
-- that opened it
abbrev pub opener : List Char → Place
opener back = option_map_or (λ (p : Point). p.here.place)
    (find (λ (p : Point). is_kept p && not (is_in_raw p)) (points back)) (record { line = 0; column = 0 })

-- ---- the events

abbrev pub finding_event : Place → Code → NoteEvent
finding_event place code = Found (record { place = place; code = code })

abbrev pub end_by_mark : ℕ → NoteEnd
end_by_mark c = if c == 124 then Next else Close

-- the bit of that digit is set
abbrev pub is_defined : ℕ → ℕ → Bool
is_defined macros digit = nat_lt digit 16 && ((macros / 2 ^ digit) % 2 == 1)

-- the macro of that digit is used and not defined
abbrev pub is_missing : ℕ → Option ℕ → Bool
is_missing macros None = false
is_missing macros (Some digit) = not (is_defined macros digit)

abbrev pub bytes_of : List ℕ → ℕ
bytes_of t = min (sum_by len_utf8 t) (2 ^ 64 - 1)

-- the end of the snippet: a `)` outside raw that lies in no comment, or if the notes are split a
-- `|`
abbrev pub is_end : Bool → Point → Bool
is_end split p = not (is_comment p) && (not (is_in_raw p) && ((p.here.c == 41) || (split && (p.here.c == 124))))

-- the snippet ended before these
abbrev pub is_over : Bool → List Char → Bool
is_over split back = list_any (is_end split) (points back)

-- W10 of an `@[` while one is open, and of a `]` while none is
abbrev pub is_unpaired : Point → Bool
is_unpaired p = (opens_fusion (item_at p) && is_fused p.back) || (closes_fusion (item_at p) && not (is_fused p.back))

-- W8 of an attribute that uses a macro that is not defined, at its bracket
abbrev pub warnings : ℕ → Point → List NoteEvent
warnings macros p =
    (if is_unpaired p then finding_event p.here.place W10 ∷ [] else [])
    ++ (if is_missing macros (macro_of (item_at p)) then finding_event (opener p.back) W8 ∷ [] else [])

-- at the end E6 of an unfinished end, and W10 of an `@[` that is open; the bytes are those of the
-- kept text without that end
abbrev pub at_end : Point → List NoteEvent
at_end p =
    (if is_snippet gabc (kept p.back) then [] else finding_event p.here.place E6 ∷ [])
    ++ ((if is_fused p.back then finding_event p.here.place W10 ∷ [] else [])
    ++ Ended (end_by_mark p.here.c) (bytes_of (trim gabc (kept p.back))) ∷ [])

-- the events of a character: of one in a comment or after the end none; E1 of one that is not kept
abbrev pub events_at : Bool → ℕ → Point → List NoteEvent
events_at split macros p =
    if is_over split p.back then [] else
    if is_end split p then at_end p else
    if is_comment p then [] else
    if is_kept p then Kept p.here ∷ warnings macros p else finding_event p.here.place E1 ∷ []

-- the events when the characters end before the snippet does
abbrev pub cut_events : Bool → List Char → List NoteEvent
cut_events split back =
    if is_over split back then [] else
    Ended (Cut (if in_raw (kept back) then opener back else record { line = 0; column = 0 })) (bytes_of (kept back)) ∷ []

-- the events of these characters after those, a list for each, and of their end, a list more
abbrev pub note_events_after : Bool → ℕ → List Char → List Char → List (List NoteEvent)
note_events_after split macros back [] = cut_events split back ∷ []
note_events_after split macros back (x ∷ xs) = events_at split macros (record { back = back; here = x }) ∷ note_events_after split macros (x ∷ back) xs

-- the events of these characters and their end
unfoldable pub note_events : Bool → ℕ → List Char → List (List NoteEvent)
note_events split macros xs = note_events_after split macros [] xs
