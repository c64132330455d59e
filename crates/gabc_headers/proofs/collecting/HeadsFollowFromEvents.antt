-- What a machine emits of a text, and the headers that follow from it.
use Rattle.std.proofs.Common.{◌≡◌, ℕ, List, [], true, false, refl, ◌∙◌, subst, Option, Some, None, Err, append-nil, IsUtf8, arith}
use Rattle.std.proofs.lemmas.Str.{encodes_same}
use lib.Utf8.{encodes, scalars}
use Rattle.gabc_places.specs.declared.place.Place.{Place}
use Rattle.gabc_places.specs.declared.limits.Limits.{Limits}
use Rattle.gabc_places.specs.declared.code.Code.TheVariants.{F2, F3, F4}
use Rattle.gabc_headers.specs.machine.Collected.{Collected}
use Rattle.gabc_headers.specs.declared.events.HeaderEvent.{HeaderEvent}
use Rattle.gabc_headers.specs.declared.events.HeaderEnding.{HeaderEnding}
use Rattle.gabc_headers.specs.declared.events.HeaderEnding.TheVariants.{Score, Limit, Text}
use Rattle.gabc_headers.specs.Lines.{lines, head_of}
use Rattle.gabc_headers.specs.witness.Parts.{outside}
use Rattle.gabc_headers.specs.Book.{book_of, entries}
use Rattle.gabc_headers.specs.machine.EntryMap.{AreWithin, spelled_named}
use Rattle.gabc_headers.specs.Heads.{findings_after, line_place, heads_of}
use Rattle.gabc_headers.specs.machine.Collected.{AreGoodEvents, collected_with_all, none, heads_at_body, heads_at_score, fault_at_end}
use Rattle.gabc_headers.specs.machine.Events.{AreHeaderEvents, EndsAs}
use Rattle.gabc_headers.proofs.order.FoundBeforeAPoint.{all_known}
use Rattle.gabc_headers.proofs.groups.NamesAreShort.{parts_short, names-prefix}
use Rattle.gabc_headers.proofs.entries.PuttingEntriesGivesBook.{put-book}
use Rattle.gabc_headers.proofs.collecting.EventsAddEntries.{good_events, HaveShortNames}
use Rattle.gabc_headers.proofs.collecting.EventsAddFindings.{follow}
use Rattle.gabc_headers.proofs.stops.HeadsByEnding.{score_open, text_open, text_ended, text_limit, score_ended}

-- the characters of a text are characters
pub scalars_of : (t bytes : List ℕ) → IsUtf8 bytes → bytes ≡ encodes t → scalars t ≡ true
scalars_of t bytes u e = subst (λ (x : List ℕ). scalars x ≡ true) (encodes_same u.0 t (u.1.1 ∙ e)) u.1.0

-- what the events of a text add
abbrev pub collected_of : List ℕ → List HeaderEvent → Collected
collected_of t events = collected_with_all (encodes t) events none

module _ (limits : Limits) (t : List ℕ) (events : List HeaderEvent) (end : HeaderEnding) (u : scalars t ≡ true) (emitted : AreHeaderEvents limits.header t events end) where
  pub read_good : AreGoodEvents (encodes t) events
  read_good = good_events t events emitted.emitted u emitted.are_events_of (names-prefix emitted.emitted emitted.rest (subst HaveShortNames emitted.all (parts_short outside 1 0 (head_of (lines t)) tt)))

  pub read_within : AreWithin (encodes t) (collected_of t events).headers
  read_within = (follow t events emitted.emitted [] none u emitted.are_events_of (λ n. refl) tt).within

  read_book : spelled_named (encodes t) (collected_of t events).headers ≡ book_of emitted.emitted
  read_book = (follow t events emitted.emitted [] none u emitted.are_events_of (λ n. refl) tt).headers ∙ put-book (entries emitted.emitted)

  read_found : (collected_of t events).findings ≡ all_known (findings_after [] emitted.emitted)
  read_found = (follow t events emitted.emitted [] none u emitted.are_events_of (λ n. refl) tt).findings

  ends_as : (e : HeaderEnding) → end ≡ e → EndsAs limits.header t emitted.rest emitted.stop e
  ends_as e q = subst (λ (x : HeaderEnding). EndsAs limits.header t emitted.rest emitted.stop x) q emitted.ends

  pub case_limit : (place : Place) → end ≡ Limit place
      → Err (record { fault = record { place = place; code = F4 }; findings = (collected_of t events).findings; at_end = false }) ≡ heads_of limits t
  case_limit place q = grind (arith, read_found, text_limit, ends_as)

  pub case_text_open : (place : Place) (k : ℕ) → end ≡ Text place (Some k)
      → Err (record { fault = record { place = line_place k; code = F3 }; findings = (collected_of t events).findings; at_end = true }) ≡ heads_of limits t
  case_text_open place k q = grind (arith, ends_as, read_found, text_open)

  pub case_text_ended : (place : Place) → end ≡ Text place None
      → Err (record { fault = record { place = place; code = F2 }; findings = (collected_of t events).findings; at_end = true }) ≡ heads_of limits t
  case_text_ended place q = grind (arith, ends_as, read_found, text_ended)

  pub case_score_open : (place : Place) (body : ℕ) (k : ℕ) → end ≡ Score place body (Some k)
      → Err (record { fault = record { place = line_place k; code = F3 }; findings = (collected_of t events).findings; at_end = false }) ≡ heads_of limits t
  case_score_open place body k q = grind (arith, ends_as, read_found, score_open)

  pub case_score_ended : (place : Place) (body : ℕ) → end ≡ Score place body None
      → heads_at_body limits place body (spelled_named (encodes t) (collected_of t events).headers) (collected_of t events).findings ≡ heads_of limits t
  case_score_ended place body q = grind (arith, ends_as, append-nil, read_book, read_found, score_ended)

  -- at the line `%%`
  pub case_score : (place : Place) (body : ℕ) (line : Option ℕ) → end ≡ Score place body line
      → heads_at_score limits place body line (spelled_named (encodes t) (collected_of t events).headers) (collected_of t events).findings ≡ heads_of limits t
  case_score place body line q = grind (arith, case_score_ended, case_score_open)

  -- at the end of the text
  pub case_text : (place : Place) (line : Option ℕ) → end ≡ Text place line → Err (fault_at_end place line (collected_of t events).findings) ≡ heads_of limits t
  case_text place line q = grind (arith, case_text_ended, case_text_open)
