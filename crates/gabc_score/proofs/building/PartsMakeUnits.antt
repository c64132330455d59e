-- A text and snippets that have ended make a syllable that holds a unit.
use Rattle.std.proofs.Common.{◌≡◌, ℕ, suc, ◌+◌, ◌%◌, Bool, List, [], ◌∷◌, ◌++◌, map, length, encode_utf8, encode_utf8_all, codes, refl, sym, ap, subst, ◌∙◌, arith, append_assoc, append-nil, length-append}
use Rattle.std.proofs.lemmas.List.{length-map, map-append}
use Rattle.std.proofs.lemmas.Str.{encodes-append}
use Rattle.std.proofs.Math.Numerals.{add-one}
use Rattle.gabc_text.specs.BuiltText.{BuiltText, with_events, with_event as with_text_event, with_part, kept_in}
use Rattle.gabc_text.specs.Ends.{ends_in}
use Rattle.gabc_text.specs.Events.{codes_of}
use Rattle.gabc_text.specs.TextRead.{view_in}
use Rattle.gabc_text.specs.TextView.{ViewContent}
use Rattle.gabc_text.specs.View.{kept}
use Rattle.gabc_text.specs.ViewFacts.{StandsForView, span_tags}
use Rattle.gabc_text.specs.declared.text_event.TextEvent.{TextEvent}
use Rattle.gabc_text.specs.declared.text_event.TextEvent.TheVariants as text
use Rattle.gabc_text.specs.declared.text_event.TextPart.TheVariants as text_part
use Rattle.gabc_text.specs.witness.Keeps.{said_of, said_at_end}
use Rattle.gabc_text.specs.witness.SaidInFull.{IsSaidInFull}
use Rattle.gabc_notes.specs.declared.stage.NoteEnd.TheVariants as note_end
use Rattle.gabc_notes.specs.declared.stage.NoteEvent.TheVariants as note
use Rattle.gabc_body.specs.declared.events.BodyEvent.TheVariants as event
use Rattle.gabc_body.specs.declared.snippets.Snippet.{Snippet}
use Rattle.gabc_body.specs.Events.{next_line}
use Rattle.gabc_body.specs.Holding.{ReadSnippet, IsSnippetOf, bracket_with, in_brackets, HoldsNotes}
use Rattle.gabc_body.specs.SpansPast.{open_past}
use Rattle.gabc_body.specs.UnitRead.{HoldsSomeUnit}
use Rattle.gabc_body.specs.witness.BodyBuilder.{with_all}
use Rattle.gabc_body.specs.witness.Gatherer.{Gathered, with_event}
use Rattle.gabc_score.specs.machine.PartKeeps.{line_after, snippet_events, ended_events, earlier_events, IsEndedOn, AreEnded}
use Rattle.gabc_body.specs.witness.TextEvents.{text_events}
use Rattle.gabc_score.specs.machine.PartMakes.{PartLaws, characters_of}
use Rattle.gabc_body.specs.witness.SyllableBuilder.{OpenSyllable, nothing_open, made_from, past_snippet}
use Rattle.gabc_body.proofs.gathering.EventsOfOnePoint.{with_all_append}
use Rattle.gabc_score.proofs.building.PartsOfKeptText.{snippet_is}
use Rattle.gabc_body.proofs.holding.PartsAreAUnit.{notes_are_unit}
use Rattle.gabc_body.proofs.holding.SyllableHoldsPartByPart.{first_turn}
use Rattle.gabc_body.proofs.holding.SnippetsLieInKeptText.{Placed, PlacedFrom, placed_push, all_held, next_turn, whole_of, span_after, bracket_more}
use Rattle.gabc_body.proofs.syllables_of_units.LastTagOpensTheSpan.{after_tags}
use Rattle.gabc_body.proofs.syllables_of_units.UnitGivesOneSyllable.{view_past}
use Rattle.gabc_body.proofs.texts_of_body.SeamsOfCharacters.{cut_is, size}
use Rattle.gabc_body.proofs.texts_of_body.LongerTextKeepsView.{view_more}

abbrev kept_text : ReadSnippet → List ℕ
kept_text s = s.kept

abbrev codes_in : ReadSnippet → List ℕ
codes_in s = codes_of s.characters

abbrev snippet_in : ReadSnippet → Snippet
snippet_in s = s.snippet

-- the snippet of this kept text after that one
abbrev read_after : ℕ → List ℕ → List ℕ → ReadSnippet
read_after line prefix s = record { snippet = record { line = line; span = span_after prefix s }; characters = characters_of s; kept = s }

-- with what is kept of a part
abbrev pub with_more : OpenSyllable → List ℕ → OpenSyllable
with_more o k = record o { kept = o.kept ++ encode_utf8_all k }

module _ (laws : PartLaws) (lines : ℕ) (t : List ℕ) (view : ViewContent) where
  -- A syllable has read this text and n snippets, each in its place; the next is of that line.
  pub record HasRead (line count : ℕ) (o : OpenSyllable) : Type 0 where
    pub reads : List ReadSnippet
    pub many : length reads ≡ count
    pub kept_is : o.kept ≡ encode_utf8_all (t ++ bracket_with kept_text reads)
    pub from_is : o.from ≡ size (t ++ bracket_with kept_text reads)
    pub view_is : o.view ≡ view
    pub snippets_are : o.snippets ≡ map snippet_in reads
    pub placed : PlacedFrom lines t [] reads
    pub line_is : line ≡ length reads % (lines + 1)

  -- after a snippet that ends with this mark
  abbrev after : List ReadSnippet → ReadSnippet → ℕ → OpenSyllable
  after reads new mark =
      let all : List ℕ = ((t ++ bracket_with kept_text reads) ++ new.kept) ++ mark ∷ [] in
      record { kept = encode_utf8_all all; from = size all; view = view; snippets = map snippet_in (reads ++ new ∷ []) }

  module _ (line count : ℕ) (o : OpenSyllable) (h : HasRead line count o) (s rest : List ℕ) where
    abbrev prefix : List ℕ
    prefix = t ++ bracket_with kept_text h.reads

    abbrev new : ReadSnippet
    new = read_after line prefix s

    abbrev cut_with : List ℕ → ℕ → ViewContent → List Snippet → ℕ → OpenSyllable
    cut_with kept from shown snippets mark = record {
      kept = kept ++ encode_utf8 mark;
      from = length (kept ++ encode_utf8 mark);
      view = shown;
      snippets = snippets ++ record { line = line; span = record { from = from; to = length kept } } ∷ [];
    }

    abbrev closed_with : List ℕ → OpenSyllable
    closed_with k = record { kept = k; from = length k; view = view; snippets = map snippet_in h.reads ++ new.snippet ∷ [] }

    ended_is : (n mark : ℕ) → n ≡ size s → past_snippet (with_more o (s ++ rest)) line n mark ≡ after h.reads new mark
    ended_is n mark e =
        ap (λ (k : List ℕ). cut_with k o.from o.view o.snippets mark)
        (cut_is o.from n (o.kept ++ encode_utf8_all (s ++ rest)) prefix s rest (ap (λ (k : List ℕ). k ++ encode_utf8_all (s ++ rest)) h.kept_is ∙ sym (encodes-append prefix (s ++ rest))) h.from_is e)
        ∙ ap (λ (f : ℕ). cut_with (encode_utf8_all (prefix ++ s)) f o.view o.snippets mark) h.from_is
        ∙ ap (λ (v : ViewContent). cut_with (encode_utf8_all (prefix ++ s)) (size prefix) v o.snippets mark) h.view_is
        ∙ ap (λ (ss : List Snippet). cut_with (encode_utf8_all (prefix ++ s)) (size prefix) view ss mark) h.snippets_are
        ∙ ap closed_with
        (ap (λ (k : List ℕ). encode_utf8_all (prefix ++ s) ++ k) (sym (append-nil (encode_utf8 mark))) ∙ sym (encodes-append (prefix ++ s) (mark ∷ [])))
        ∙ ap (λ (ss : List Snippet). record (after h.reads new mark) { snippets = ss }) (sym (map-append snippet_in h.reads (new ∷ [])))

    -- what is kept at the `)`, and the view that stands for it
    whole_kept : encode_utf8_all ((prefix ++ s) ++ codes ")") ≡ encode_utf8_all (whole_of t h.reads new)
    whole_kept = ap encode_utf8_all (append_assoc prefix s (codes ")") ∙ append_assoc t (bracket_with kept_text h.reads) (s ++ codes ")"))

    whole_stands : IsSaidInFull t [] → view ≡ view_in (t ++ 40 ∷ []) → StandsForView (whole_of t h.reads new) view (t ++ 40 ∷ [])
    whole_stands full same =
        subst (λ (v : ViewContent). StandsForView (whole_of t h.reads new) v (t ++ 40 ∷ [])) (sym same)
        (view_more t (in_brackets kept_text h.reads new) (view_in (t ++ 40 ∷ [])) (t ++ 40 ∷ []) (subst (λ (k : List ℕ). StandsForView k (view_in (t ++ 40 ∷ [])) (t ++ 40 ∷ [])) full.kept_is (laws.stands (t ++ 40 ∷ []))))

    -- a span is open after its pieces as after the tags of the text
    pub close_opens : (n : ℕ) → n ≡ size s → (full : IsSaidInFull t []) → view ≡ view_in (t ++ 40 ∷ []) → (opening closing : List ℕ) (was : Bool)
        → (let b = past_snippet (with_more o (s ++ rest)) line n 41 in open_past opening closing b.kept b.view.pieces was ≡ after_tags opening closing was (span_tags (t ++ 40 ∷ [])))
    close_opens n e full same opening closing was = grind (arith, ended_is, whole_kept, view_past, whole_stands)

    module _ (is : IsSnippetOf line s) where
      new_placed : Placed lines t h.reads new
      new_placed = record { line_is = h.line_is; kept_is = laws.kept_again line s is; is_snippet = is; span_is = refl }

      all_placed : PlacedFrom lines t [] (h.reads ++ new ∷ [])
      all_placed = placed_push lines t [] h.reads new h.placed new_placed

      -- the `|`
      next_read : (n : ℕ) → n ≡ size s → HasRead (next_line lines line) (count + 1) (past_snippet (with_more o (s ++ rest)) line n 124)
      next_read n e = subst (HasRead (next_line lines line) (count + 1)) (sym (ended_is n 124 e)) (record {
        reads = h.reads ++ new ∷ [];
        many = length-append h.reads (new ∷ []) ∙ ap (λ (m : ℕ). m + 1) h.many;
        kept_is = ap encode_utf8_all more;
        from_is = ap size more;
        view_is = refl;
        snippets_are = refl;
        placed = all_placed;
        line_is = ap (next_line lines) h.line_is ∙ next_turn lines (length h.reads) ∙ ap (λ (m : ℕ). m % (lines + 1)) (sym (length-append h.reads (new ∷ []) ∙ add-one (length h.reads)));
      })
        where
          more : (prefix ++ s) ++ codes "|" ≡ t ++ bracket_with kept_text (h.reads ++ new ∷ [])
          more =
              append_assoc prefix s (codes "|")
              ∙ append_assoc t (bracket_with kept_text h.reads) (s ++ codes "|")
              ∙ ap (λ (b : List ℕ). t ++ b) (bracket_more kept_text h.reads new)

      -- the `)`
      pub close_holds : (n : ℕ) → n ≡ size s → (full : IsSaidInFull t []) → view ≡ view_in (t ++ 40 ∷ []) → (lines ≡ 0 → count ≡ 0) → (eu nlba : Bool)
          → HoldsSomeUnit lines (made_from (past_snippet (with_more o (s ++ rest)) line n 41) eu nlba)
      close_holds n e full same few eu nlba = subst (λ (b : OpenSyllable). HoldsSomeUnit lines (made_from b eu nlba)) (sym (ended_is n 41 e))
          (notes_are_unit lines (made_from (after h.reads new 41) eu nlba) (t ++ 40 ∷ []) (in_brackets codes_in h.reads new) (whole_of t h.reads new)
          whole_kept
          same
          (whole_stands full same)
          (subst (λ (k : List ℕ). HoldsNotes lines (in_brackets codes_in h.reads new) (whole_of t h.reads new) k (map snippet_in (h.reads ++ new ∷ []))) (sym full.kept_is) (record {
            earlier = h.reads;
            last = new;
            characters_are = refl;
            whole_is = refl;
            snippets_are = refl;
            each = all_held lines t h.reads new all_placed;
          }))
          (λ none. let many : length (map snippet_in (h.reads ++ new ∷ [])) ≡ length h.reads + 1 = length-map (h.reads ++ new ∷ []) snippet_in ∙ length-append h.reads (new ∷ []) in
          let no_more = few none in omega arith))

  -- ---- snippets that have ended

  of_line : (macros line : ℕ) (s : List ℕ) → IsEndedOn lines macros line s → IsSnippetOf line s
  of_line macros line s h = grind arith

  one_read : (macros line count : ℕ) (g : Gathered) (s : List ℕ) → HasRead line count g.builder → IsEndedOn lines macros line s → HasRead (next_line lines line) (count + 1) (with_all g (ended_events line s)).builder
  one_read macros line count g s h e =
      subst (λ (i : Gathered). HasRead (next_line lines line) (count + 1) i.builder)
      (sym (with_all_append g (snippet_events line s) (event.Notes line (note.Ended note_end.Next (size s)) ∷ []) ∙ ap (λ (i : Gathered). with_event i (event.Notes line (note.Ended note_end.Next (size s)))) (snippet_is line s g)))
      (subst (λ (k : List ℕ). HasRead (next_line lines line) (count + 1) (past_snippet (with_more g.builder k) line (size s) 124)) (append-nil s)
      (next_read line count g.builder h s [] (of_line macros line s e) (size s) refl))

  pub earlier_read : (macros line count : ℕ) (g : Gathered) (ss : List (List ℕ)) → HasRead line count g.builder → AreEnded lines macros line ss
      → HasRead (line_after lines line ss) (count + length ss) (with_all g (earlier_events lines line ss)).builder
  earlier_read macros line count g [] h e = subst (λ (n : ℕ). HasRead line n g.builder) (let same : count ≡ count + 0 = omega arith in same) h
  earlier_read macros line count g (s ∷ ss) h e =
      subst (λ (i : Gathered). HasRead (line_after lines (next_line lines line) ss) (count + suc (length ss)) i.builder) (sym (with_all_append g (ended_events line s) (earlier_events lines (next_line lines line) ss)))
      (subst (λ (n : ℕ). HasRead (line_after lines (next_line lines line) ss) n (with_all (with_all g (ended_events line s)) (earlier_events lines (next_line lines line) ss)).builder) (let same : (count + 1) + length ss ≡ count + suc (length ss) = omega arith in same)
      (earlier_read macros (next_line lines line) (count + 1) (with_all g (ended_events line s)) ss (one_read macros line count g s h e.0) e.1))

-- ---- a text that has ended

-- what is gathered of a text before its end
mids_read : (es : List TextEvent) (g : Gathered) (b : BuiltText) → ends_in es ≡ [] → b.view ≡ g.builder.view
    → (with_all g (text_events es)).builder ≡ record g.builder { kept = g.builder.kept ++ encode_utf8_all (kept_in es); view = (with_events b es).view }
mids_read [] g b h v =
    ap (λ (k : List ℕ). record g.builder { kept = k }) (sym (append-nil g.builder.kept))
    ∙ ap (λ (w : ViewContent). record g.builder { kept = g.builder.kept ++ []; view = w }) (sym v)
mids_read (text.Kept c ∷ es) g b h v =
    mids_read es (with_event g (event.Text (text.Kept c))) (with_text_event b (text.Kept c)) h v
    ∙ ap (λ (k : List ℕ). record g.builder { kept = k; view = (with_events (with_text_event b (text.Kept c)) es).view }) (append_assoc g.builder.kept (encode_utf8 c.c) (encode_utf8_all (kept_in es)))
mids_read (text.Part text_part.WordStart ∷ es) g b h v = mids_read es (with_event g (event.Text (text.Part text_part.WordStart))) (with_text_event b (text.Part text_part.WordStart)) h (ap (λ (w : ViewContent). with_part w text_part.WordStart) v)
mids_read (text.Part p ∷ es) g b h v = mids_read es (with_event g (event.Text (text.Part p))) (with_text_event b (text.Part p)) h (ap (λ (w : ViewContent). with_part w p) v)
mids_read (text.Found f ∷ es) g b h v = mids_read es g (with_text_event b (text.Found f)) h v
mids_read (text.Ended how ∷ es) g b h v = absurd (cc)

pub text_read : (laws : PartLaws) (lines : ℕ) (t : List ℕ) (full : IsSaidInFull t []) (g : Gathered) → g.builder ≡ nothing_open
    → HasRead laws lines t (view_in (t ++ 40 ∷ [])) 0 0 (with_all g (text_events (said_of t ++ said_at_end t))).builder
text_read laws lines t full g nothing = grind (arith, first_turn, append-nil, encodes-append, map-append, with_all_append, mids_read)
