-- The headers of the text that is read so far.
use Rattle.std.proofs.Common.{◌≡◌, ℕ, List, [], ◌∷◌, ◌++◌, true, false, cond, refl, sym, ap, ◌∙◌, subst, Option, Some, None, Result, Err, append_assoc, append-nil, arith}
use lib.Utf8.{encodes, scalars}
use Rattle.gabc_places.specs.declared.place.Place.{Place}
use Rattle.gabc_places.specs.declared.limits.Limits.{Limits}
use Rattle.gabc_places.specs.declared.code.Finding.{Finding}
use Rattle.gabc_headers.specs.declared.heads.Heads.{Heads}
use Rattle.gabc_headers.specs.declared.heads.HeadFault.{HeadFault}
use Rattle.gabc_headers.specs.machine.EntryMap.{spelled_named}
use Rattle.gabc_headers.specs.machine.Collected.{Collected}
use Rattle.gabc_headers.specs.declared.events.HeaderEvent.{HeaderEvent}
use Rattle.gabc_headers.specs.declared.events.HeaderEnding.{HeaderEnding}
use Rattle.gabc_headers.specs.declared.events.HeaderEnding.TheVariants.{Score, Limit, Text}
use Rattle.gabc_places.specs.declared.code.Code.TheVariants.{F4}
use Rattle.gabc_places.specs.Place.{next_place}
use Rattle.gabc_headers.specs.declared.header_machine.HeaderMachine.{HeaderMachine}
use Rattle.gabc_headers.specs.declared.header_machine.HeaderStep.TheVariants.{Read, Ended}
use Rattle.gabc_headers.specs.machine.Collected.{fault_at_end, heads_at_score, collected_with_all, found_with, none}
use Rattle.gabc_headers.specs.machine.PartMachine.{open_in}
use Rattle.gabc_headers.specs.machine.HeaderMachine.{push_one, end_here, fresh_machine}
use Rattle.gabc_headers.specs.machine.Events.{AreHeaderEvents, with_event}
use Rattle.gabc_headers.specs.Heads.{heads_of}
use Rattle.gabc_headers.proofs.machines.OnePush.{Following, begin_following, pushes, ends}
use Rattle.gabc_headers.proofs.collecting.HeadsFollowFromEvents.{collected_of, case_limit, case_score, case_text}
use Rattle.gabc_headers.proofs.prefixes.EventsGrow.{grown, with_last, found_after}

-- The machine has read this text, and stands before whatever follows.
pub record HasRead (limit : ℕ) (t : List ℕ) (r : HeaderMachine) (es : List HeaderEvent) : Type 0 where
  pub before : (xs : List ℕ) → Following (t ++ xs) limit xs r es

pub begin_read : (limit : ℕ) → HasRead limit [] (fresh_machine limit) []
begin_read limit = record { before = λ xs. begin_following xs limit }

-- one character more
pub read_more : (limit : ℕ) (t : List ℕ) (r new : HeaderMachine) (es : List HeaderEvent) (c : ℕ) (e : Option HeaderEvent) → HasRead limit t r es → push_one r c ≡ (new, Read e)
    → HasRead limit (t ++ c ∷ []) new (with_event es e)
read_more limit t r new es c e h p = grind (arith, append_assoc, pushes)

-- the headers' end, whatever follows
pub read_ended : (limit : ℕ) (t : List ℕ) (r new : HeaderMachine) (es : List HeaderEvent) (c : ℕ) (end : HeaderEnding) → HasRead limit t r es → push_one r c ≡ (new, Ended end)
    → (xs : List ℕ) → AreHeaderEvents limit (t ++ c ∷ xs) es end
read_ended limit t r new es c end h p xs = grind (arith, pushes)

-- the text alone
pub read_all : (limit : ℕ) (t : List ℕ) (r : HeaderMachine) (es : List HeaderEvent) → HasRead limit t r es → AreHeaderEvents limit t es (end_here r)
read_all limit t r es h = ends t limit r es (subst (λ (x : List ℕ). Following x limit [] r es) (append-nil t) (h.before []))

-- its events are kept as it grows
pub kept_so_far : (limit : ℕ) (t xs : List ℕ) (r : HeaderMachine) (es : List HeaderEvent) → scalars (t ++ xs) ≡ true → HasRead limit t r es → collected_of (t ++ xs) es ≡ collected_of t es
kept_so_far limit t xs r es u h = grown t xs es (read_all limit t r es h).emitted none u (read_all limit t r es h).are_events_of

-- what stands at an end of the headers, by what is collected
abbrev pub heads_at : Limits → List ℕ → Collected → HeaderEnding → Result Heads HeadFault
heads_at limits t c (Limit place) = Err (record { fault = record { place = place; code = F4 }; findings = c.findings; at_end = false })
heads_at limits t c (Score place body line) = heads_at_score limits place body line (spelled_named (encodes t) c.headers) c.findings
heads_at limits t c (Text place line) = Err (fault_at_end place line c.findings)

pub heads_at_end : (limits : Limits) (t : List ℕ) (es : List HeaderEvent) (end : HeaderEnding) → scalars t ≡ true → AreHeaderEvents limits.header t es end
    → heads_at limits t (collected_of t es) end ≡ heads_of limits t
heads_at_end limits t es (Limit place) u h = case_limit limits t es (Limit place) u h place refl
heads_at_end limits t es (Score place body line) u h = case_score limits t es (Score place body line) u h place body line refl
heads_at_end limits t es (Text place line) u h = case_text limits t es (Text place line) u h place line refl

-- The headers of a text that is read are stopped by its end alone.
pub record AreOpen (limits : Limits) (t : List ℕ) (es : List HeaderEvent) : Type 0 where
  pub fault : HeadFault
  pub heads : heads_of limits t ≡ Err fault
  pub at_end : fault.at_end ≡ true
  pub findings : fault.findings ≡ (collected_of t es).findings

pub open_so_far : (limits : Limits) (t : List ℕ) (r : HeaderMachine) (es : List HeaderEvent) → scalars t ≡ true → HasRead limits.header t r es → AreOpen limits t es
open_so_far limits t r es u h = by (cond r.held (next_place r.place 37) r.place) (open_in r.parts.state r.parts.header) (heads_at_end limits t es (end_here r) u (read_all limits.header t r es h))
  where
    by : (place : Place) (line : Option ℕ) → Err (fault_at_end place line (collected_of t es).findings) ≡ heads_of limits t → AreOpen limits t es
    by place None e = record { fault = fault_at_end place None (collected_of t es).findings; heads = sym e; at_end = refl; findings = refl }
    by place (Some k) e = record { fault = fault_at_end place (Some k) (collected_of t es).findings; heads = sym e; at_end = refl; findings = refl }

-- what is found at an event, if there is one
abbrev pub found_at : List ℕ → Option HeaderEvent → Collected → List Finding
found_at text None c = []
found_at text (Some e) c = found_with text e c

-- what is collected with a character more
pub found_more : (limit : ℕ) (t : List ℕ) (r : HeaderMachine) (es : List HeaderEvent) (c : ℕ) (e : Option HeaderEvent) → scalars (t ++ c ∷ []) ≡ true → HasRead limit t r es
    → (collected_of (t ++ c ∷ []) (with_event es e)).findings ≡ (collected_of t es).findings ++ found_at (encodes (t ++ c ∷ [])) e (collected_of t es)
found_more limit t r es c None u h = ap (λ (x : Collected). x.findings) (kept_so_far limit t (c ∷ []) r es u h) ∙ sym (append-nil (collected_of t es).findings)
found_more limit t r es c (Some e) u h =
    ap (λ (x : Collected). x.findings) (with_last (encodes (t ++ c ∷ [])) es e none)
    ∙ (found_after (encodes (t ++ c ∷ [])) e (collected_with_all (encodes (t ++ c ∷ [])) es none)
    ∙ ap (λ (x : Collected). x.findings ++ found_with (encodes (t ++ c ∷ [])) e x) (kept_so_far limit t (c ∷ []) r es u h))
