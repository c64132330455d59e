-- The headers and the findings of events.
use Rattle.std.specs.Prelude.{ℕ, ◌+◌, ◌≤◌, List, [], ◌∷◌, ◌++◌, Bool, false, true, cond, codes, length, nat_lt, slice_range, Result, Ok, Err, Option, Some, None}
use Rattle.gabc_places.specs.declared.place.Place.{Place}
use Rattle.gabc_places.specs.declared.place.Span.{Span}
use Rattle.gabc_places.specs.declared.limits.Limits.{Limits}
use Rattle.gabc_places.specs.declared.code.Code.{Code}
use Rattle.gabc_places.specs.declared.code.Code.TheVariants.{E4, E5, W1, W2, F2, F3, F4, F7}
use Rattle.gabc_places.specs.declared.code.Fault.{Fault}
use Rattle.gabc_places.specs.declared.code.Finding.{Finding}
use Rattle.gabc_headers.specs.declared.events.HeaderEvent.{HeaderEvent}
use Rattle.gabc_headers.specs.declared.events.HeaderEvent.TheVariants.{LeftOut, Header}
use Rattle.gabc_headers.specs.declared.heads.Heads.{Heads}
use Rattle.gabc_headers.specs.declared.heads.HeadFault.{HeadFault}
use Rattle.gabc_headers.specs.Book.{is_kept, has_header}
use Rattle.gabc_headers.specs.Canonical.{header_lines}
use Rattle.gabc_headers.specs.EntryMap.{put_entry}
use Rattle.gabc_headers.specs.machine.EntryMap.{comes_again}
use Rattle.gabc_headers.specs.Heads.{line_place}
use Rattle.gabc_headers.specs.Lines.{bytes_len}
use Rattle.gabc_headers.specs.Entries.{text_at}
use Rattle.gabc_headers.specs.machine.Spans.{IsWithin}

-- the headers that count, with the spans of their values, and the findings
pub record Collected : Type 0 where
  pub headers : List (List ℕ × Span)
  pub findings : List Finding

-- a header's spans lie in the text, and its name is no longer than a name may be
abbrev pub IsGoodEvent : List ℕ → HeaderEvent → Type 0
IsGoodEvent text (LeftOut k p) = Unit {0}
IsGoodEvent text (Header k name value p) = IsWithin text name × IsWithin text value × (length (slice_range text name.from name.to) ≤ 64)

abbrev pub AreGoodEvents : List ℕ → List HeaderEvent → Type 0
AreGoodEvents text [] = Unit {0}
AreGoodEvents text (e ∷ es) = IsGoodEvent text e × AreGoodEvents text es

-- a finding at the first character of a line
abbrev pub finding_at : ℕ → Code → Finding
finding_at k code = record { place = line_place k; code = code }

-- the headers and findings after an event
abbrev pub collected_with : List ℕ → HeaderEvent → Collected → Collected
collected_with text (LeftOut k p) c = record { headers = c.headers; findings = c.findings ++ finding_at k E4 ∷ [] }
collected_with text (Header k name value p) c =
    cond (is_kept (text_at text name) (text_at text value))
    (record {
      headers = put_entry c.headers (text_at text name) value;
      findings = cond (comes_again c.headers (text_at text name)) (c.findings ++ finding_at k W2 ∷ []) c.findings;
    })
    (record { headers = c.headers; findings = c.findings ++ finding_at k E5 ∷ [] })

-- the findings of an event
abbrev pub found_with : List ℕ → HeaderEvent → Collected → List Finding
found_with text (LeftOut k p) c = finding_at k E4 ∷ []
found_with text (Header k name value p) c =
    cond (is_kept (text_at text name) (text_at text value))
    (cond (comes_again c.headers (text_at text name)) (finding_at k W2 ∷ []) [])
    (finding_at k E5 ∷ [])

-- these headers, with nothing found
abbrev pub of_headers : List (List ℕ × Span) → Collected
of_headers headers = record { headers = headers; findings = [] }

abbrev pub none : Collected
none = of_headers []

-- the finding as a list, if there is one
abbrev pub found_list : Option Finding → List Finding
found_list None = []
found_list (Some finding) = finding ∷ []

-- the headers and findings after all of these events
abbrev pub collected_with_all : List ℕ → List HeaderEvent → Collected → Collected
collected_with_all text [] c = c
collected_with_all text (e ∷ es) c = collected_with_all text es (collected_with text e c)

-- The headers at the line `%%` at this place, whose end is this byte: too long in their canonical
-- form, or the book, with a warning if it has no `name`.
abbrev pub heads_at_body : Limits → Place → ℕ → List (List ℕ × List ℕ) → List Finding → Result Heads HeadFault
heads_at_body limits place body book findings =
    let size = bytes_len (header_lines book) in
    cond (nat_lt limits.header size) (Err (record { fault = record { place = place; code = F4 }; findings = findings; at_end = false }))
    (cond (nat_lt limits.input (size + 3)) (Err (record { fault = record { place = place; code = F7 }; findings = findings; at_end = false }))
    (Ok (record { book = book; body = body; findings = cond (has_header (codes "name") book) findings (findings ++ record { place = place; code = W1 } ∷ []) })))

-- the headers end in the value of a header that begins on this line
abbrev pub fault_in_value : ℕ → Bool → List Finding → HeadFault
fault_in_value k at_end findings = record { fault = record { place = line_place k; code = F3 }; findings = findings; at_end = at_end }

-- at the line `%%`, in an open value or outside
abbrev pub heads_at_score : Limits → Place → ℕ → Option ℕ → List (List ℕ × List ℕ) → List Finding → Result Heads HeadFault
heads_at_score limits place body None book findings = heads_at_body limits place body book findings
heads_at_score limits place body (Some k) book findings = Err (fault_in_value k false findings)

-- the fault that stops the headers at the line `%%`, or the number of bytes of their canonical
-- lines
abbrev pub len_at_score : Limits → Place → Option ℕ → List (List ℕ × List ℕ) → Result ℕ Fault
len_at_score limits place (Some k) book = Err (record { place = line_place k; code = F3 })
len_at_score limits place None book =
    let size = bytes_len (header_lines book) in
    cond (nat_lt limits.header size) (Err (record { place = place; code = F4 }))
    (cond (nat_lt limits.input (size + 3)) (Err (record { place = place; code = F7 })) (Ok size))

-- the fault that stops the headers at the end of the text, in an open value or outside
abbrev pub end_fault : Place → Option ℕ → Fault
end_fault place None = record { place = place; code = F2 }
end_fault place (Some k) = record { place = line_place k; code = F3 }

abbrev pub fault_at_end : Place → Option ℕ → List Finding → HeadFault
fault_at_end place None findings = record { fault = record { place = place; code = F2 }; findings = findings; at_end = true }
fault_at_end place (Some k) findings = fault_in_value k true findings

-- W1, if there is no header `name`
abbrev pub name_found : Place → List (List ℕ × List ℕ) → List Finding
name_found place book = cond (has_header (codes "name") book) [] (record { place = place; code = W1 } ∷ [])
