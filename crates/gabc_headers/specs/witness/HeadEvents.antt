-- The events that a stage of headers has left, in any state. Nobody has to believe it: the laws
-- state what a fresh stage emits.
use Rattle.std.specs.Prelude.{ℕ, List, [], ◌∷◌, ◌++◌, if◌then◌else◌, length, drop, map, Result, Ok, Err}
use Rattle.std.specs.declared.hash.DefaultHasher.{DefaultHasher}
use Rattle.gabc_places.specs.declared.place.Char.{Char}
use Rattle.gabc_places.specs.declared.code.Fault.{Fault}
use Rattle.gabc_places.specs.declared.code.Finding.{Finding}
use Rattle.gabc_places.specs.declared.limits.Limits.{Limits}
use Rattle.gabc_headers.specs.declared.heads.Heads.{Heads}
use Rattle.gabc_headers.specs.declared.heads.HeadFault.{HeadFault}
use Rattle.gabc_headers.specs.declared.head_event.HeadEvent.{HeadEvent}
use Rattle.gabc_headers.specs.declared.head_event.HeadEvent.TheVariants.{Found, Stop, Body, End}
use Rattle.gabc_headers.specs.Heads.{heads_of, findings_of}
use Rattle.gabc_headers.specs.HeadEvents.{event_of_book}

-- the progress of a stage of headers
pub data HeadProgress : Type 0 where
  -- in the headers, of which this text is read
  reading : List ℕ → HeadProgress
  -- after them, with this book
  after_headers : List (List ℕ × List ℕ) → HeadProgress
  -- after its last event
  over : HeadProgress

-- the findings of the longer text that the shorter one has not
abbrev pub new_findings : Limits → List ℕ → List ℕ → List Finding
new_findings limits before after = drop (length (findings_of (heads_of limits before))) (findings_of (heads_of limits after))

-- The events of a character: a stop, if something else than the end stops the text with it; else
-- the further findings, and the headers if they are whole.
abbrev pub events_by : List Finding → Result Heads HeadFault → List HeadEvent
events_by found (Ok heads) = map (λ f. Found f) found ++ event_of_book heads.book ∷ []
events_by found (Err stopped) = if stopped.at_end then map (λ f. Found f) found else Stop stopped.fault ∷ []

abbrev pub events_at : Limits → List ℕ → ℕ → List HeadEvent
events_at limits t c = events_by (new_findings limits t (t ++ c ∷ [])) (heads_of limits (t ++ c ∷ []))

abbrev pub progress_by : List ℕ → Result Heads HeadFault → HeadProgress
progress_by t (Ok heads) = after_headers heads.book
progress_by t (Err stopped) = if stopped.at_end then reading t else over

-- the stop of the headers at the end of their text
abbrev pub events_at_end : Result Heads HeadFault → List HeadEvent
events_at_end (Ok heads) = []
events_at_end (Err stopped) = Stop stopped.fault ∷ []

-- the events of an input: in the headers, after them, and after the last event
abbrev pub events_of_input : Limits → HeadProgress → Result Char Fault → List HeadEvent
events_of_input limits (reading t) (Ok c) = events_at limits t c.c
events_of_input limits (reading t) (Err fault) = Stop fault ∷ []
events_of_input limits (after_headers book) (Ok c) = Body c ∷ []
events_of_input limits (after_headers book) (Err fault) = Stop fault ∷ []
events_of_input limits over x = []

-- the progress after one character more of the headers
abbrev pub progress_with : Limits → List ℕ → ℕ → HeadProgress
progress_with limits t c = progress_by (t ++ c ∷ []) (heads_of limits (t ++ c ∷ []))

abbrev pub progress_after : Limits → HeadProgress → Result Char Fault → HeadProgress
progress_after limits (reading t) (Ok c) = progress_with limits t c.c
progress_after limits (after_headers book) (Ok c) = after_headers book
progress_after limits over x = over
progress_after limits (reading t) (Err fault) = over
progress_after limits (after_headers book) (Err fault) = over

-- the events of the end of the inputs
abbrev pub events_of_end : Limits → HeadProgress → List HeadEvent
events_of_end limits (reading t) = events_at_end (heads_of limits t)
events_of_end limits (after_headers book) = End ∷ []
events_of_end limits over = []

-- the events left: a list for each input to come, and one for the end
abbrev pub events_left : Limits → HeadProgress → List (Result Char Fault) → List (List HeadEvent)
events_left limits progress [] = events_of_end limits progress ∷ []
events_left limits progress (x ∷ xs) = events_of_input limits progress x ∷ events_left limits (progress_after limits progress x) xs

-- the state that a stage of headers shows: its limits, its progress, the headers once the line `%%`
-- is read, and its hasher of names
pub record HeaderStageState : Type 0 where
  pub limits : Limits
  pub progress : HeadProgress
  pub book : List (List ℕ × List ℕ)
  pub hasher : DefaultHasher

-- before the first character
abbrev pub fresh_stage : Limits → DefaultHasher → HeaderStageState
fresh_stage limits hasher = record { limits = limits; progress = reading []; book = []; hasher = hasher }

-- the headers are kept once they are whole
abbrev pub book_at : HeadProgress → List (List ℕ × List ℕ) → List (List ℕ × List ℕ)
book_at (after_headers book) old = book
book_at (reading t) old = old
book_at over old = old

abbrev pub stage_at : HeaderStageState → HeadProgress → HeaderStageState
stage_at s progress = record s { progress = progress; book = book_at progress s.book }

abbrev pub stage_after : HeaderStageState → Result Char Fault → HeaderStageState
stage_after s x = stage_at s (progress_after s.limits s.progress x)

-- the stage after all of these inputs
abbrev pub stage_past : HeaderStageState → List (Result Char Fault) → HeaderStageState
stage_past s [] = s
stage_past s (x ∷ xs) = stage_past (stage_after s x) xs

-- the stage is in the headers
abbrev pub IsInHeaders : HeadProgress → Type 0
IsInHeaders (reading t) = Unit {0}
IsInHeaders (after_headers book) = ⊥
IsInHeaders over = ⊥

-- the headers are read whole, and nothing has stopped the text
abbrev pub IsAfterHeaders : HeadProgress → Type 0
IsAfterHeaders (reading t) = ⊥
IsAfterHeaders (after_headers book) = Unit {0}
IsAfterHeaders over = ⊥

-- the text of the headers, as long as they are read
abbrev pub text_held : HeadProgress → List ℕ
text_held (reading t) = t
text_held (after_headers book) = []
text_held over = []
