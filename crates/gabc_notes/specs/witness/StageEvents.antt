-- The events of a stage, character by character, by the kept text and the facts before a character.
-- It is no promise: that it is `note_events` is proved.
use Rattle.std.specs.Prelude.{ℕ, ◌+◌, ◌-◌, ◌^◌, min, List, [], ◌∷◌, ◌++◌, Bool, true, false, not, ◌&&◌, ◌||◌, ◌==◌, codes, if◌then◌else◌, Option, Some, None, option_to_list}
use Rattle.std.specs.Char.{len_utf8}
use Rattle.gabc_places.specs.declared.code.Code.TheVariants.{E1, E6, W8, W10}
use Rattle.gabc_places.specs.declared.place.Char.{Char}
use Rattle.gabc_places.specs.StageLaw.{silence}
use Rattle.gabc_patterns.specs.Pattern.{is_in}
use Rattle.gabc_patterns.specs.Derivative.{Munch, start, within, run, end_kind, is_snippet, is_viable}
use Rattle.gabc_notes.specs.Table.{gabc}
use Rattle.gabc_notes.specs.Notes.{is_digit}
use Rattle.gabc_notes.specs.Events.{in_raw, digit_if, is_missing, finding_event, end_by_mark}
use Rattle.gabc_notes.specs.declared.item.ItemKind.{ItemKind}
use Rattle.gabc_notes.specs.declared.item.ItemKind.TheVariants.{Attribute}
use Rattle.gabc_notes.specs.declared.stage.Before.{Before}
use Rattle.gabc_notes.specs.declared.stage.NoteEnd.TheVariants.{Cut}
use Rattle.gabc_notes.specs.declared.stage.NoteEvent.{NoteEvent}
use Rattle.gabc_notes.specs.declared.stage.NoteEvent.TheVariants.{Kept, Ended}
use Rattle.gabc_notes.specs.declared.stage.CharRole.{CharRole}
use Rattle.gabc_notes.specs.declared.stage.CharRole.TheVariants.{Silent, Comment, Ends, Keep, LeaveOut}
use Rattle.gabc_notes.specs.declared.stage.CharFacts.{CharFacts}

abbrev pub is_attribute_kind : Option ItemKind → Bool
is_attribute_kind (Some Attribute) = true
is_attribute_kind _ = false

-- the kind of the item that ends in this state
abbrev pub kind_at : Munch ItemKind → Option ItemKind
kind_at (within rows back) = end_kind rows
kind_at _ = None

-- the last item of the text is an attribute
abbrev pub ends_with_attribute : List ℕ → Bool
ends_with_attribute kept = is_attribute_kind (kind_at (run gabc start kept))

-- the digit of a macro's name after its bracket: `[nm`, `[gm` or `[em`, and a digit
abbrev pub macro_digit : List ℕ → Option ℕ
macro_digit (a ∷ l ∷ m ∷ d ∷ []) = digit_if ((a == 91) && (is_in l (codes "nge") && ((m == 109) && is_digit d))) d
macro_digit _ = None

-- the facts about the character c after this kept text; `raw` is the part of it from the open
-- bracket on
abbrev pub char_facts : List ℕ → List ℕ → ℕ → CharFacts
char_facts kept raw c = record {
  raw = in_raw kept;
  whole = is_snippet gabc kept;
  viable = is_viable gabc (kept ++ c ∷ []);
  raw_after = in_raw (kept ++ c ∷ []);
  whole_after = is_snippet gabc (kept ++ c ∷ []);
  attribute = ends_with_attribute (kept ++ c ∷ []);
  digit = macro_digit raw;
}

-- A comment reaches up to an LF. Outside raw a mark ends the snippet and `%` begins a comment. Else
-- a character is kept exactly if the kept text with it is viable.
abbrev pub role_in : Bool → Bool → CharFacts → ℕ → CharRole
role_in split comment e c =
    if comment && not (c == 10) then Silent else
    if not e.raw && ((c == 41) || (split && (c == 124))) then Ends else
    if not e.raw && (c == 37) then Comment else
    if e.viable then Keep else LeaveOut

-- W8 of an attribute that names a macro that is not defined; W10 of an `@[` while one is open, and
-- of a `]` while none is
abbrev pub warning_in : ℕ → Before → CharFacts → Char → Option NoteEvent
warning_in macros b e x =
    if e.raw then (if e.attribute && is_missing macros e.digit then Some (finding_event b.place W8) else None) else
    if ((x.c == 91) && (not e.raw_after && b.fused)) || ((x.c == 93) && not b.fused) then Some (finding_event x.place W10) else None

-- an `@[` is open: the last `[` outside raw that opened no raw was closed by no `]` outside raw
abbrev pub fused_in : Before → CharFacts → Char → Bool
fused_in b e x = if e.raw || e.raw_after then b.fused else ((x.c == 91) || (b.fused && not (x.c == 93)))

abbrev pub count_plus : ℕ → ℕ → ℕ
count_plus kept c = min (kept + len_utf8 c) (2 ^ 64 - 1)

-- The facts before the next character. The place is that of the last character kept outside raw:
-- inside raw, of the bracket that opened it. The bytes are those of the kept text, and of its
-- longest prefix that is a snippet.
abbrev pub before_in : CharRole → Before → CharFacts → Char → Before
before_in Comment b e x = record b { comment = true }
before_in LeaveOut b e x = record b { comment = false }
before_in Keep b e x = record {
  place = if e.raw then b.place else x.place;
  fused = fused_in b e x;
  comment = false;
  kept = count_plus b.kept x.c;
  whole = if e.whole_after then count_plus b.kept x.c else b.whole;
}
before_in _ b e x = b

-- the events of a character: at most three
pub record CharEvents : Type 0 where
  pub first : Option NoteEvent
  pub second : Option NoteEvent
  pub third : Option NoteEvent

-- The events of a character. At the end of the snippet an unfinished end is E6, and an open `@[` is
-- W10.
abbrev pub events_in : CharRole → ℕ → Before → CharFacts → Char → CharEvents
events_in Keep macros b e x = record { first = Some (Kept x); second = warning_in macros b e x; third = None }
events_in LeaveOut macros b e x = record { first = Some (finding_event x.place E1); second = None; third = None }
events_in Ends macros b e x = record {
  first = if e.whole then None else Some (finding_event x.place E6);
  second = if b.fused then Some (finding_event x.place W10) else None;
  third = Some (Ended (end_by_mark x.c) b.whole);
}
events_in _ macros b e x = record { first = None; second = None; third = None }

abbrev pub event_list : CharEvents → List NoteEvent
event_list g = option_to_list g.first ++ (option_to_list g.second ++ option_to_list g.third)

-- the event of the end of the characters before that of the snippet: the place is that of the open
-- bracket
abbrev pub cut_event : Bool → Before → NoteEvent
cut_event raw b = Ended (Cut (if raw then b.place else record { line = 0; column = 0 })) b.kept

-- the text from the open bracket on, with a character more
abbrev pub raw_with : CharFacts → List ℕ → ℕ → List ℕ
raw_with e raw c = if e.raw_after then raw ++ c ∷ [] else []

-- the lists after a character: `over` after the end, `kept` if it was kept, else `left`
abbrev pub events_following : CharRole → List (List NoteEvent) → List (List NoteEvent) → List (List NoteEvent) → List (List NoteEvent)
events_following Ends over kept left = over
events_following Keep over kept left = kept
events_following _ over kept left = left

-- The events of the characters after this kept text, a list for each, and of their end, a list
-- more.
abbrev pub events_after : Bool → ℕ → List ℕ → List ℕ → Before → List Char → List (List NoteEvent)
events_after split macros kept raw b [] = (cut_event (in_raw kept) b ∷ []) ∷ []
events_after split macros kept raw b (x ∷ xs) =
    let e = char_facts kept raw x.c in
    let r = role_in split b.comment e x.c in
    event_list (events_in r macros b e x)
    ∷ events_following r (silence xs) (events_after split macros (kept ++ x.c ∷ []) (raw_with e raw x.c) (before_in r b e x) xs) (events_after split macros kept raw (before_in r b e x) xs)
