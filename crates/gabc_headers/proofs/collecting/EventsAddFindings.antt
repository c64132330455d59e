-- The headers and the findings of a text's events are those of its parts.
use Rattle.std.proofs.Common.{◌≡◌, ℕ, ◌||◌, ◌&&◌, not, List, [], ◌∷◌, ◌++◌, Bool, true, false, cond, refl, sym, ap, ◌∙◌, append_assoc, append-nil, bytes_eq, arith}
use lib.Utf8.{encodes, scalars}
use Rattle.gabc_places.specs.declared.code.Finding.{Finding}
use Rattle.gabc_places.specs.Findings.{Known}
use Rattle.gabc_places.specs.declared.code.Code.TheVariants.{E4, E5, W2}
use Rattle.gabc_headers.specs.machine.Collected.{Collected}
use Rattle.gabc_headers.specs.declared.events.HeaderEvent.{HeaderEvent}
use Rattle.gabc_headers.specs.declared.events.HeaderEvent.TheVariants.{LeftOut, Header}
use Rattle.gabc_headers.specs.Parts.{HeaderPart, left_out, header}
use Rattle.gabc_headers.specs.Book.{is_kept, repeats, entries, is_one_of}
use Rattle.gabc_headers.specs.Heads.{findings_after, known_at, line_place}
use Rattle.gabc_headers.specs.EntryMap.{is_annotation, put_entry, put_all}
use Rattle.gabc_headers.specs.machine.EntryMap.{names, comes_again, AreWithin, spelled_named}
use Rattle.gabc_headers.specs.machine.Collected.{collected_with, collected_with_all, finding_at}
use Rattle.gabc_headers.specs.machine.Events.{AreEventsOf}
use Rattle.gabc_headers.proofs.order.FoundBeforeAPoint.{all_known}
use Rattle.gabc_headers.proofs.collecting.EventsAddEntries.{holds_shown, holds_within, spelled-put, within-put}
use Rattle.gabc_headers.proofs.entries.PuttingEntriesGivesBook.{is_one_of-push, seen_again, names-with_value, with_value-new, names-push}

-- two lists of names are the same set
abbrev pub SameNames : List (List ℕ) → List (List ℕ) → Type 0
SameNames s t = (n : List ℕ) → is_one_of n s ≡ is_one_of n t

repeats-same : (s t : List (List ℕ)) (n : List ℕ) → SameNames s t → repeats s n ≡ repeats t n
repeats-same s t n h = ap (λ (b : Bool). not (is_annotation n) && b) (h n)

-- the names after a header is put, and before it the name
names-put : {X : Type 0} (es : List (List ℕ × X)) (name : List ℕ) (v : X) → SameNames (names (put_entry es name v)) (name ∷ names es)
names-put es name v n = grind (arith, names-push, is_one_of-push, names-with_value, seen_again, with_value-new)

-- what a list of events makes of what is there
pub record Follows (text : List ℕ) (seen : List (List ℕ)) (ps : List HeaderPart) (c d : Collected) : Type 0 where
  pub headers : spelled_named text d.headers ≡ put_all (spelled_named text c.headers) (entries ps)
  pub findings : d.findings ≡ c.findings ++ all_known (findings_after seen ps)
  pub within : AreWithin text d.headers

-- a finding between
between : (fs gs hs rest : List Finding) → gs ≡ fs ++ hs → gs ++ rest ≡ fs ++ (hs ++ rest)
between fs gs hs rest e = ap (λ (x : List Finding). x ++ rest) e ∙ append_assoc fs hs rest

again : (x : Bool) (j q : ℕ) (rest fs : List Finding) (ks : List Known) → rest ≡ all_known ks
    → cond x (fs ++ finding_at j W2 ∷ []) fs ++ rest ≡ fs ++ all_known (cond x (known_at q (line_place j) W2 ∷ []) [] ++ ks)
again x j q rest fs ks e = grind (arith, append_assoc)

pub follow : (t : List ℕ) (es : List HeaderEvent) (ps : List HeaderPart) (seen : List (List ℕ)) (c : Collected) → scalars t ≡ true → AreEventsOf t es ps → SameNames seen (names c.headers) → AreWithin (encodes t) c.headers
    → Follows (encodes t) seen ps c (collected_with_all (encodes t) es c)
follow t [] [] seen c u h s w = record { headers = refl; findings = sym (append-nil c.findings); within = w }
follow t [] (q ∷ ps) seen c u h s w = absurd h
follow t (e ∷ es) [] seen c u h s w = absurd h
follow t (LeftOut k p ∷ es) (left_out j q ∷ ps) seen c u h s w =
    let f = follow t es ps seen (collected_with (encodes t) (LeftOut k p) c) u h.1 s w in
    record {
      headers = f.headers;
      findings = f.findings ∙ between c.findings (c.findings ++ finding_at k E4 ∷ []) (finding_at j E4 ∷ []) (all_known (findings_after seen ps)) (ap (λ (n : ℕ). c.findings ++ finding_at n E4 ∷ []) h.0.0);
      within = f.within;
    }
follow t (Header k a b p ∷ es) (header j n v q ∷ ps) seen c u h s w =
    rw (h.0.0, holds_shown t n a u h.0.1, holds_shown t v b u h.0.2) (by (is_kept n v) refl (λ d. follow t es ps d))
  where
    by : (x : Bool) → is_kept n v ≡ x
        → ((d : List (List ℕ)) (m : Collected) → scalars t ≡ true → AreEventsOf t es ps → SameNames d (names m.headers) → AreWithin (encodes t) m.headers → Follows (encodes t) d ps m (collected_with_all (encodes t) es m))
        → Follows (encodes t) seen (header j n v q ∷ ps) c (collected_with_all (encodes t) es (cond x
        (record { headers = put_entry c.headers n b; findings = cond (comes_again c.headers n) (c.findings ++ finding_at j W2 ∷ []) c.findings })
        (record { headers = c.headers; findings = c.findings ++ finding_at j E5 ∷ [] })))
    by true e r =
        let same : SameNames (n ∷ seen) (names (put_entry c.headers n b)) = λ z. ap (λ (y : Bool). bytes_eq z n || y) (s z) ∙ sym (names-put c.headers n b z) in
        let m : Collected = record { headers = put_entry c.headers n b; findings = cond (comes_again c.headers n) (c.findings ++ finding_at j W2 ∷ []) c.findings } in
        let f = r (n ∷ seen) m u h.1 same (within-put (encodes t) c.headers n b w (holds_within t v b u h.0.2)) in
        record {
          headers = rw e (f.headers ∙ (ap (λ (x : List (List ℕ × List ℕ)). put_all x (entries ps)) (spelled-put (encodes t) c.headers n b)
              ∙ ap (λ (y : List ℕ). put_all (put_entry (spelled_named (encodes t) c.headers) n y) (entries ps)) (holds_shown t v b u h.0.2)));
          findings = rw (e, repeats-same seen (names c.headers) n s) (f.findings ∙ again (comes_again c.headers n) j q (all_known (findings_after (n ∷ seen) ps)) c.findings (findings_after (n ∷ seen) ps) refl);
          within = f.within;
        }
    by false e r =
        let m : Collected = record { headers = c.headers; findings = c.findings ++ finding_at j E5 ∷ [] } in
        let f = r seen m u h.1 s w in
        record {
          headers = rw e f.headers;
          findings = rw e (f.findings ∙ append_assoc c.findings (finding_at j E5 ∷ []) (all_known (findings_after seen ps)));
          within = f.within;
        }
follow t (e ∷ es) (q ∷ ps) seen c u h s w = absurd h.0
