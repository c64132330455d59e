-- What the gatherer holds is what the definitions say of what was emitted.
use Rattle.std.proofs.Math.Bool.{and-true, and-false}
use Rattle.std.proofs.Common.{◌≡◌, ℕ, ◌+◌, ◌-◌, ◌<◌, ◌^◌, ◌||◌, ◌&&◌, ◌==◌, min, not, nat_lt, Bool, true, false, cond, List, [], ◌∷◌, ◌++◌, length, refl, sym, ap, ◌∙◌, arith, append_assoc, append-nil, length-append, encode_utf8, codes}
use Rattle.std.specs.List.{list_any, sum_by, flat_map}
use lib.Utf8.{encode}
use Rattle.std.proofs.Math.Seq.{take-append-add, drop-append-add}
use Rattle.std.proofs.lemmas.List.Sums.{sum_by_push}
use Rattle.std.proofs.lemmas.List.Folds.{list_any-append}
use Rattle.gabc_text.specs.TextView.{ViewContent}
use Rattle.gabc_text.specs.declared.text_event.TextPart.TheVariants as part
use Rattle.gabc_text.specs.declared.text_event.TextEnd.TheVariants as text_end
use Rattle.gabc_text.specs.declared.text_event.TextEvent.TheVariants as text
use Rattle.gabc_notes.specs.FirstNoteOrClef.{first_note_or_clef}
use Rattle.gabc_notes.specs.Items.{items_of}
use Rattle.gabc_notes.specs.declared.stage.NoteEnd.TheVariants as note_end
use Rattle.gabc_notes.specs.declared.stage.NoteEvent.TheVariants as note
use Rattle.gabc_body.specs.declared.events.BodyEvent.{BodyEvent}
use Rattle.gabc_body.specs.declared.events.BodyEvent.TheVariants as event
use Rattle.gabc_body.specs.declared.snippets.Snippet.{Snippet}
use Rattle.gabc_body.specs.NoteBeforeClef.{gabc_ended, first_of}
use Rattle.gabc_body.specs.Syllable.{UnplacedSyllable, since_close, prefix_of, is_seam, part_of, ended_parts_of, kept_of, snippets_of, snippet_at, view_of, is_eu, is_nlba, syllable_by, all_syllables}
use Rattle.gabc_body.specs.Canonical.{canonical, canonicals, canonical_bytes}
use Rattle.gabc_body.specs.Body.{is_longer, is_none, cut_of}
use Rattle.gabc_body.specs.witness.SyllableBuilder.{OpenSyllable, past_snippet}
use Rattle.gabc_body.specs.witness.Gatherer.{Gathered, with_event, with_syllable, with_made, span_of, first_past}
use Rattle.gabc_body.proofs.gathering.FirstKinds.{part_seam, first_more}

-- ---- cut texts

cond_after : (b : Bool) (e t p : List ℕ) → cond b (e ++ t) (e ++ p) ≡ e ++ cond b t p
cond_after b e t p = grind arith

-- a text is cut within its last part
cut_append : (e p : List ℕ) (n : ℕ) → prefix_of (length e + n) (e ++ p) ≡ e ++ prefix_of n p
cut_append e p n = grind (arith, drop-append-add, take-append-add, cond_after)

-- ---- one syllable more

abbrev pub over_by : ℕ → List UnplacedSyllable → Bool
over_by limit made = list_any (λ (m : UnplacedSyllable). is_longer limit m.kept) made || list_any (λ text. is_longer limit text) (canonicals true made)

canonicals_push : (first : Bool) (ms : List UnplacedSyllable) (m : UnplacedSyllable)
    → canonicals first (ms ++ m ∷ []) ≡ canonicals first ms ++ canonical ((first && is_none ms) || m.text.word_start) m ∷ []
canonicals_push first [] m = ap (λ b. canonical (b || m.text.word_start) m ∷ []) (sym (and-true first))
canonicals_push first (n ∷ ms) m = grind (arith, canonicals_push false ms m, and-false)

module _ (limit : ℕ) (ms : List UnplacedSyllable) (m : UnplacedSyllable) where
  abbrev text_of : List ℕ
  text_of = canonical (is_none ms || m.text.word_start) m

  bytes_push : canonical_bytes (ms ++ m ∷ []) ≡ canonical_bytes ms + length text_of
  bytes_push = ap (sum_by (λ (t : List ℕ). length t)) (canonicals_push true ms m) ∙ sum_by_push (λ (t : List ℕ). length t) (canonicals true ms) text_of

or_shuffle : (a b k c : Bool) → ((a || b) || (k || c)) ≡ ((a || (k || false)) || (b || (c || false)))
or_shuffle a b k c = grind arith

lt_min : (limit n m : ℕ) → limit < m → nat_lt limit (min n m) ≡ nat_lt limit n
lt_min limit n m h = grind arith

module _ (limit : ℕ) (ms : List UnplacedSyllable) (m : UnplacedSyllable) where
  abbrev size_of : ℕ
  size_of = length (text_of limit ms m)

  total_push : (head : ℕ) → min (min (head + canonical_bytes ms) (2 ^ 64 - 1) + min size_of (2 ^ 64 - 1)) (2 ^ 64 - 1) ≡ min (head + canonical_bytes (ms ++ m ∷ [])) (2 ^ 64 - 1)
  total_push head = omega (arith, bytes_push limit ms m)

  over_push : limit < 2 ^ 64 - 1 → (over_by limit ms || (is_longer limit m.kept || nat_lt limit (min size_of (2 ^ 64 - 1)))) ≡ over_by limit (ms ++ m ∷ [])
  over_push h =
      ap (λ b. over_by limit ms || (is_longer limit m.kept || b)) (lt_min limit size_of (2 ^ 64 - 1) h)
      ∙ or_shuffle (list_any (λ (n : UnplacedSyllable). is_longer limit n.kept) ms) (list_any (λ t. is_longer limit t) (canonicals true ms)) (is_longer limit m.kept) (nat_lt limit size_of)
      ∙ ap (λ b. b || (list_any (λ t. is_longer limit t) (canonicals true ms) || (nat_lt limit size_of || false))) (sym (list_any-append (λ (n : UnplacedSyllable). is_longer limit n.kept) ms (m ∷ [])))
      ∙ ap (λ b. list_any (λ (n : UnplacedSyllable). is_longer limit n.kept) (ms ++ m ∷ []) || b)
      (sym (list_any-append (λ t. is_longer limit t) (canonicals true ms) (text_of limit ms m ∷ [])) ∙ ap (list_any (λ t. is_longer limit t)) (sym (canonicals_push true ms m)))

-- ---- the gatherer

abbrev pub gathered : ℕ → ℕ → List BodyEvent → Gathered
gathered limit head before =
    let events = since_close before in
    record {
      limit = limit;
      builder = record { kept = kept_of events; from = length (ended_parts_of events); view = view_of events; snippets = snippets_of events };
      eu = is_eu before;
      nlba = is_nlba before;
      made = all_syllables before;
      follows = not (is_none (all_syllables before));
      total = min (head + canonical_bytes (all_syllables before)) (2 ^ 64 - 1);
      over = over_by limit (all_syllables before);
      cut = cut_of before;
      first_kind = first_of before;
    }

abbrev open_with : List ℕ → List ℕ → ViewContent → List Snippet → OpenSyllable
open_with ended part view snippets = record { kept = ended ++ part; from = length ended; view = view; snippets = snippets }

marked_is : (ended part mark : List ℕ) (view : ViewContent) (snippets : List Snippet)
    → record { kept = (ended ++ part) ++ mark; from = length ((ended ++ part) ++ mark); view = view; snippets = snippets } ≡ open_with (ended ++ (part ++ mark)) [] view snippets
marked_is ended part mark view snippets = grind (arith, append_assoc, append-nil)

snippet_is : (ended part : List ℕ) (view : ViewContent) (snippets : List Snippet) (line count mark : ℕ)
    → past_snippet (open_with ended part view snippets) line count mark
    ≡ open_with (ended ++ (prefix_of count part ++ encode_utf8 mark)) [] view (snippets ++ snippet_at line (length ended) (prefix_of count part) ∷ [])
snippet_is ended part view snippets line count mark =
    let with : List ℕ → ℕ → OpenSyllable = λ k to. record { kept = k ++ encode_utf8 mark; from = length (k ++ encode_utf8 mark); view = view; snippets = snippets ++ record { line = line; span = record { from = length ended; to = to } } ∷ [] } in
    ap (λ k. with k (length k)) (cut_append ended part count)
    ∙ ap (with (ended ++ prefix_of count part)) (length-append ended (prefix_of count part))
    ∙ marked_is ended (prefix_of count part) (encode_utf8 mark) view (snippets ++ snippet_at line (length ended) (prefix_of count part) ∷ [])

twice : (b : Bool) → not (not b) ≡ b
twice b = grind arith

some_made : (ms : List UnplacedSyllable) (m : UnplacedSyllable) → true ≡ not (is_none (ms ++ m ∷ []))
some_made [] m = refl
some_made (n ∷ ms) m = refl

module _ (limit head : ℕ) (before : List BodyEvent) (small : limit < 2 ^ 64 - 1) where
  abbrev now : Gathered
  now = gathered limit head before

  kept_more : (more : List ℕ) → record now { builder = record now.builder { kept = now.builder.kept ++ more } }
      ≡ record now { builder = record now.builder { kept = ended_parts_of (since_close before) ++ (part_of (since_close before) ++ more) } }
  kept_more more = ap (λ k. record now { builder = record now.builder { kept = k } }) (append_assoc (ended_parts_of (since_close before)) (part_of (since_close before)) more)

  ended_as : (line count mark : ℕ) → past_snippet now.builder line count mark
      ≡ open_with (ended_parts_of (since_close before) ++ (prefix_of count (part_of (since_close before)) ++ encode_utf8 mark)) [] (view_of (since_close before))
      (snippets_of (since_close before) ++ snippet_at line (length (ended_parts_of (since_close before))) (prefix_of count (part_of (since_close before))) ∷ [])
  ended_as line count mark = snippet_is (ended_parts_of (since_close before)) (part_of (since_close before)) (view_of (since_close before)) (snippets_of (since_close before)) line count mark

  -- which came first in GABC, with the snippet that ends
  first_as : (line count mark : ℕ) → is_seam (encode_utf8 mark) ≡ true → first_past now.first_kind line (span_of now.builder line count) (past_snippet now.builder line count mark).kept
      ≡ first_note_or_clef (flat_map (λ kept. items_of kept) (cond (line == 0) (gabc_ended before ++ prefix_of count (part_of (since_close before)) ∷ []) (gabc_ended before)))
  first_as line count mark h = grind (arith, cut_append, first_more, part_seam)

  pub made_is : (m : UnplacedSyllable) → with_made now m
      ≡ record now {
        builder = record { kept = []; from = 0; view = view_of []; snippets = [] };
        made = all_syllables before ++ m ∷ [];
        follows = not (is_none (all_syllables before ++ m ∷ []));
        total = min (head + canonical_bytes (all_syllables before ++ m ∷ [])) (2 ^ 64 - 1);
        over = over_by limit (all_syllables before ++ m ∷ []);
      }
  made_is m =
      let made = all_syllables before in
      rw (twice (is_none made), total_push limit made m head, over_push limit made m small, ← some_made made m) refl

  pub gathered_step : (t : BodyEvent) → with_event now t ≡ gathered limit head (t ∷ before)
  unfolding encode
  gathered_step (event.Text (text.Kept c)) = kept_more (encode_utf8 c.c)
  gathered_step (event.Text (text.Part part.WordStart)) = refl
  gathered_step (event.Text (text.Ended text_end.Notes)) =
      ap (λ o. record now { builder = o }) (marked_is (ended_parts_of (since_close before)) (part_of (since_close before)) (codes "(") (view_of (since_close before)) (snippets_of (since_close before)))
  gathered_step (event.Notes line (note.Kept c)) = kept_more (encode_utf8 c.c)
  gathered_step (event.Notes line (note.Ended note_end.Next n)) =
      ap (λ o. record now { builder = o; first_kind = first_past now.first_kind line (span_of now.builder line n) (past_snippet now.builder line n 124).kept }) (ended_as line n 124)
      ∙ ap (λ k. record (gathered limit head (event.Notes line (note.Ended note_end.Next n) ∷ before)) { first_kind = k }) (first_as line n 124 refl)
  gathered_step (event.Notes line (note.Ended note_end.Close n)) =
      ap (λ o. with_syllable (record now { builder = o; first_kind = first_past now.first_kind line (span_of now.builder line n) (past_snippet now.builder line n 41).kept })) (ended_as line n 41)
      ∙ ap (λ k. record (with_made now (syllable_by (event.Notes line (note.Ended note_end.Close n) ∷ since_close before) (is_eu before) (is_nlba before))) { first_kind = k }) (first_as line n 41 refl)
      ∙ ap (λ (g : Gathered). record g { first_kind = first_of (event.Notes line (note.Ended note_end.Close n) ∷ before) })
      (made_is (syllable_by (event.Notes line (note.Ended note_end.Close n) ∷ since_close before) (is_eu before) (is_nlba before)))
  gathered_step _ = refl
