-- The meaning of the machine's events and of its end.
use Rattle.std.specs.Prelude.{◌≡◌, ℕ, ◌+◌, ◌<◌, ◌≤◌, List, [], ◌∷◌, ◌++◌, true, false, length, take, Option, Some, None}
use Rattle.gabc_places.specs.declared.place.Span.{Span}
use Rattle.gabc_places.specs.declared.code.Code.TheVariants.{F4}
use Rattle.gabc_places.specs.Place.{place_after}
use Rattle.gabc_headers.specs.declared.events.HeaderEvent.{HeaderEvent}
use Rattle.gabc_headers.specs.declared.events.HeaderEvent.TheVariants.{LeftOut, Header}
use Rattle.gabc_headers.specs.declared.events.HeaderEnding.{HeaderEnding}
use Rattle.gabc_headers.specs.declared.events.HeaderEnding.TheVariants.{Score, Limit, Text}
use Rattle.gabc_headers.specs.Lines.{bytes_len, lines, has_score}
use Rattle.gabc_headers.specs.Parts.{HeaderPart, left_out, header, unended}
use Rattle.gabc_headers.specs.Heads.{head_len, open_line, text_stops, stop_at, body_byte}
use Rattle.gabc_headers.specs.witness.Parts.{head_parts}

-- the span of the text's bytes holds v
pub record SpanHolds (t : List ℕ) (s : Span) (v : List ℕ) : Type 0 where
  pub prefix : List ℕ
  pub back : List ℕ
  pub text : t ≡ prefix ++ (v ++ back)
  pub from : s.from ≡ bytes_len prefix
  pub to : s.to ≡ bytes_len prefix + bytes_len v

-- the event is the part
abbrev pub IsEventOf : List ℕ → HeaderEvent → HeaderPart → Type 0
IsEventOf t (LeftOut k p) (left_out j q) = (k ≡ j) × (p ≡ q)
IsEventOf t (Header k name value p) (header j n v q) = (k ≡ j) × SpanHolds t name n × SpanHolds t value v × (p ≡ q)
IsEventOf t event part = ⊥

abbrev pub AreEventsOf : List ℕ → List HeaderEvent → List HeaderPart → Type 0
AreEventsOf t [] [] = Unit {0}
AreEventsOf t (e ∷ es) (p ∷ ps) = IsEventOf t e p × AreEventsOf t es ps
AreEventsOf t es ps = ⊥

-- the events with one more, if there is one
abbrev pub with_event : List HeaderEvent → Option HeaderEvent → List HeaderEvent
with_event es None = es
with_event es (Some e) = es ++ e ∷ []

-- the part becomes known before the point
abbrev pub IsEarly : ℕ → HeaderPart → Type 0
IsEarly p (left_out k q) = q < p
IsEarly p (header k name value q) = q < p
IsEarly p (unended k) = ⊥

-- the part does not become known before the point
abbrev pub IsLate : ℕ → HeaderPart → Type 0
IsLate p (left_out k q) = p ≤ q
IsLate p (header k name value q) = p ≤ q
IsLate p (unended k) = Unit {0}

abbrev pub AreEarly : ℕ → List HeaderPart → Type 0
AreEarly p [] = Unit {0}
AreEarly p (q ∷ qs) = IsEarly p q × AreEarly p qs

abbrev pub AreLate : ℕ → List HeaderPart → Type 0
AreLate p [] = Unit {0}
AreLate p (q ∷ qs) = IsLate p q × AreLate p qs

abbrev pub open_part : Option ℕ → List HeaderPart
open_part None = []
open_part (Some k) = unended k ∷ []

-- the headers end so, at this point, and these parts are not emitted
abbrev pub EndsAs : ℕ → List ℕ → List HeaderPart → ℕ → HeaderEnding → Type 0
EndsAs limit t rest stop (Score place body line) =
    (has_score (lines t) ≡ true) × (text_stops limit t ≡ []) × (stop ≡ head_len t + 1) × (place ≡ place_after (take (head_len t) t))
    × (body ≡ body_byte t) × (line ≡ open_line (head_parts t)) × (rest ≡ open_part line)
EndsAs limit t rest stop (Limit place) = text_stops limit t ≡ stop_at stop place F4 ∷ []
EndsAs limit t rest stop (Text place line) =
    (has_score (lines t) ≡ false) × (text_stops limit t ≡ []) × (stop ≡ length t) × (place ≡ place_after t) × (line ≡ open_line (head_parts t))

-- The events are the parts of the text that become known before its headers end, and the end is
-- theirs.
pub record AreHeaderEvents (limit : ℕ) (t : List ℕ) (events : List HeaderEvent) (end : HeaderEnding) : Type 0 where
  pub emitted : List HeaderPart
  pub rest : List HeaderPart
  pub stop : ℕ
  pub all : head_parts t ≡ emitted ++ rest
  pub are_events_of : AreEventsOf t events emitted
  pub early : AreEarly stop emitted
  pub late : AreLate stop rest
  pub ends : EndsAs limit t rest stop end
