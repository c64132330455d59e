-- What is made of events, after whatever was emitted before: the syllables, and what they count.
use Rattle.std.proofs.Common.{◌≡◌, ℕ, ◌+◌, ◌-◌, ◌<◌, ◌^◌, ◌||◌, not, min, nat_lt, Bool, List, [], ◌∷◌, ◌++◌, length, refl, sym, ap, subst, ◌∙◌, append_assoc, append-nil, length-append, arith}
use Rattle.gabc_text.specs.declared.text_event.TextEnd.TheVariants as text_end
use Rattle.gabc_text.specs.declared.text_event.TextEvent.TheVariants as text
use Rattle.gabc_text.specs.declared.text_event.TextPart.TheVariants as part
use Rattle.gabc_notes.specs.declared.stage.NoteEnd.TheVariants as note_end
use Rattle.gabc_notes.specs.declared.stage.NoteEvent.TheVariants as note
use Rattle.gabc_body.specs.declared.before.Spans.{Spans}
use Rattle.gabc_body.specs.declared.events.BodyEvent.{BodyEvent}
use Rattle.gabc_body.specs.declared.events.BodyEvent.TheVariants as event
use Rattle.gabc_body.specs.Body.{is_longer, events_onto}
use Rattle.gabc_body.specs.Canonical.{canonical}
use Rattle.gabc_body.specs.OpenSpans.{LeavesOpen}
use Rattle.gabc_body.specs.Syllable.{UnplacedSyllable, all_syllables, kept_of, view_of, snippets_of, ended_parts_of}
use Rattle.gabc_body.specs.witness.BodyBuilder.{with_all}
use Rattle.gabc_body.specs.witness.Gatherer.{Gathered, with_event, with_snippet, with_made}
use Rattle.gabc_score.specs.machine.PartKeeps.{ReadAlike}
use Rattle.gabc_body.specs.witness.SyllableBuilder.{OpenSyllable, nothing_open, made_from}
use Rattle.gabc_score.specs.Before.{most}
use Rattle.gabc_body.proofs.gathering.BuilderHoldsDefinition.{gathered}
use Rattle.gabc_body.proofs.gathering.EventsOfOnePoint.{gathered_all}
use Rattle.gabc_score.proofs.building.PartsOfKeptText.{event_alike}

-- ---- the syllables

-- the same is read, and h has made these and what g has
pub record MadeAlike (ps : List UnplacedSyllable) (g h : Gathered) : Type 0 where
  pub read : ReadAlike g h
  pub made : h.made ≡ ps ++ g.made

event_made : (ps : List UnplacedSyllable) (g h : Gathered) (e : BodyEvent) → MadeAlike ps g h → (with_event h e).made ≡ ps ++ (with_event g e).made
event_made ps g h (event.Text (text.Part part.WordStart)) r = r.made
event_made ps g h (event.Text (text.Ended text_end.Notes)) r = r.made
event_made ps g h (event.Notes line (note.Ended note_end.Close n)) r = rw (r.made, r.read.builder, r.read.eu, r.read.nlba, append_assoc) refl
event_made ps g h _ r = r.made

pub all_made : (es : List BodyEvent) (ps : List UnplacedSyllable) (g h : Gathered) → MadeAlike ps g h → MadeAlike ps (with_all g es) (with_all h es)
all_made [] ps g h r = r
all_made (e ∷ es) ps g h r = all_made es ps (with_event g e) (with_event h e) (record { read = event_alike g h e r.read; made = event_made ps g h e r })

-- what is read of a syllable with these events
abbrev pub open_of : List BodyEvent → OpenSyllable
open_of events = record { kept = kept_of events; from = length (ended_parts_of events); view = view_of events; snippets = snippets_of events }

-- after events that leave these spans open, while nothing is read
module _ (g : Gathered) (spans : Spans) (nothing : g.builder ≡ nothing_open) (eu : g.eu ≡ spans.eu) (nlba : g.nlba ≡ spans.nlba) (none : g.made ≡ []) (before : List BodyEvent) (leaves : LeavesOpen spans before) where
  begin_alike : (limit head : ℕ) → MadeAlike (all_syllables before) g (gathered limit head before)
  begin_alike limit head = grind (arith, append-nil)

  pub made_after : (limit : ℕ) → limit < 2 ^ 64 - 1 → (es : List BodyEvent) → MadeAlike (all_syllables before) (with_all g es) (gathered limit 0 (events_onto es before))
  made_after limit small es = subst (MadeAlike (all_syllables before) (with_all g es)) (gathered_all limit 0 before small es) (all_made es (all_syllables before) g (gathered limit 0 before) (begin_alike limit 0))

-- ---- what they count

-- the bytes of the first one, after the syllables before it
abbrev pub size_of : Bool → UnplacedSyllable → ℕ
size_of follows m = min (length (canonical (not follows || m.text.word_start) m)) most

-- of what was gathered after g, if none was made before it, and then none or one
pub record Counts (g h : Gathered) : Type 0 where
  pub limit : h.limit ≡ g.limit
  pub none : h.made ≡ [] → (h.over ≡ g.over) × ((h.total ≡ g.total) × (h.follows ≡ g.follows))
  pub one : (m : UnplacedSyllable) → h.made ≡ m ∷ [] → (h.over ≡ (g.over || (is_longer g.limit m.kept || nat_lt g.limit (size_of g.follows m)))) × (h.total ≡ min (g.total + size_of g.follows m) most)

made_counts : (g h : Gathered) (m : UnplacedSyllable) → Counts g h → Counts g (with_made h m)
made_counts g h m c = record { limit = c.limit; none = λ e. absurd (let n = ap (λ (ms : List UnplacedSyllable). length ms) e in omega (arith, n, length-append h.made (m ∷ []))); one = λ n e. by h.made refl n e }
  where
    by : (ms : List UnplacedSyllable) → h.made ≡ ms → (n : UnplacedSyllable) → h.made ++ m ∷ [] ≡ n ∷ [] → ((with_made h m).over ≡ (g.over || (is_longer g.limit n.kept || nat_lt g.limit (size_of g.follows n)))) × ((with_made h m).total ≡ min (g.total + size_of g.follows n) most)
    by [] e n f =
        let none = c.none e in
        let same : m ≡ n = cc in
        (rw (none.0, none.1.1, c.limit, same) refl, rw (none.1.0, none.1.1, same) refl)
    by (k ∷ ms) e n f = absurd (let two = ap (λ (ms : List UnplacedSyllable). length ms) (sym (ap (λ ms. ms ++ m ∷ []) e) ∙ f) in omega (arith, two, length-append ms (m ∷ [])))

event_counts : (g h : Gathered) (e : BodyEvent) → Counts g h → Counts g (with_event h e)
event_counts g h (event.Text (text.Part part.WordStart)) c = record { limit = c.limit; none = c.none; one = c.one }
event_counts g h (event.Text (text.Ended text_end.Notes)) c = record { limit = c.limit; none = c.none; one = c.one }
event_counts g h (event.Notes line (note.Ended note_end.Close n)) c = made_counts g (with_snippet h line n 41) (made_from (with_snippet h line n 41).builder h.eu h.nlba) (record { limit = c.limit; none = c.none; one = c.one })
event_counts g h _ c = record { limit = c.limit; none = c.none; one = c.one }

pub all_count : (es : List BodyEvent) (g h : Gathered) → Counts g h → Counts g (with_all h es)
all_count [] g h c = c
all_count (e ∷ es) g h c = all_count es g (with_event h e) (event_counts g h e c)

pub counts_from : (g : Gathered) → g.made ≡ [] → (es : List BodyEvent) → Counts g (with_all g es)
counts_from g none es = all_count es g g (record { limit = refl; none = λ e. (refl, (refl, refl)); one = λ m e. absurd (cc (sym none ∙ e)) })
