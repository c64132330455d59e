-- What is gathered of the lists of a text that go by its kept text.
use Rattle.std.proofs.Common.{◌≡◌, ℕ, zero, suc, ◌-◌, ◌≤◌, Bool, false, List, [], ◌∷◌, ◌++◌, length, take, drop, codes, encode_utf8, encode_utf8_all, refl, sym, ap, subst, ◌∙◌, append_assoc, append-nil, length-append, arith}
use Rattle.std.specs.List.{list_any, All}
use Rattle.std.proofs.lemmas.List.{drop-append-le, take-append-le, length-drop}
use Rattle.std.proofs.lemmas.List.Elements.{All-nil, All-cons, All-head, All-tail}
use Rattle.std.proofs.lemmas.Str.{encodes-append}
use Rattle.std.proofs.lemmas.Bool.{true≢false}
use Rattle.gabc_places.specs.declared.code.Finding.{Finding}
use Rattle.gabc_places.specs.declared.place.Span.{Span}
use Rattle.gabc_text.specs.TextView.{ViewContent}
use Rattle.gabc_text.specs.BuiltText.{kept_in, found_in}
use Rattle.gabc_text.specs.declared.view.Piece.{Piece}
use Rattle.gabc_text.specs.declared.text_event.TextEvent.{TextEvent}
use Rattle.gabc_text.specs.declared.text_event.TextEvent.TheVariants as out
use Rattle.gabc_text.specs.declared.text_event.TextPart.TheVariants as part
use Rattle.gabc_body.specs.declared.events.BodyEvent.TheVariants.{Text}
use Rattle.gabc_body.specs.SpansPast.{open_past}
use Rattle.gabc_body.specs.Syllable.{slice, is_open_after}
use Rattle.gabc_body.specs.witness.BodyBuilder.{with_all}
use Rattle.gabc_body.specs.witness.Gatherer.{Gathered, with_event}
use Rattle.gabc_body.specs.witness.TextEvents.{text_events}
use Rattle.gabc_body.specs.witness.TextsByKept.{is_end, view_past, PiecesStand}
use Rattle.gabc_body.proofs.order.FindingsOfParts.{found}

-- ---- pieces and spans

-- a piece lies in what is kept
abbrev pub LieIn : List ℕ → List Piece → Type 0
LieIn kept ps = All (λ (p : Piece). p.span.to ≤ length kept) ps

slice_front : (span : Span) (kept more : List ℕ) → span.to ≤ length kept → slice span (kept ++ more) ≡ slice span kept
unfolding slice
slice_front span kept more h = by (span.to - span.from) refl
  where
    by : (n : ℕ) → span.to - span.from ≡ n → take n (drop span.from (kept ++ more)) ≡ take n (drop span.from kept)
    by zero e = refl
    by (suc n) e =
        let before : span.from ≤ length kept = omega (arith, e, h) in
        ap (take (suc n)) (drop-append-le span.from kept more before)
        ∙ take-append-le (suc n) (drop span.from kept) more (omega (arith, e, h, length-drop span.from kept))

pub open_front : (opening closing kept more : List ℕ) (ps : List Piece) (was : Bool) → LieIn kept ps → open_past opening closing (kept ++ more) ps was ≡ open_past opening closing kept ps was
open_front opening closing kept more [] was h = refl
open_front opening closing kept more (p ∷ ps) was h =
    ap (λ (s : List ℕ). open_past opening closing (kept ++ more) ps (is_open_after opening closing was p.kind s)) (slice_front p.span kept more (All-head (λ (q : Piece). q.span.to ≤ length kept) p ps h))
    ∙ open_front opening closing kept more ps (is_open_after opening closing was p.kind (slice p.span kept)) (All-tail (λ (q : Piece). q.span.to ≤ length kept) p ps h)

open_push : (opening closing kept : List ℕ) (ps : List Piece) (p : Piece) (was : Bool)
    → open_past opening closing kept (ps ++ p ∷ []) was ≡ is_open_after opening closing (open_past opening closing kept ps was) p.kind (slice p.span kept)
open_push opening closing kept [] p was = refl
open_push opening closing kept (q ∷ ps) p was = open_push opening closing kept ps p (is_open_after opening closing was q.kind (slice q.span kept))

lie_on : (kept more : List ℕ) (ps : List Piece) → LieIn kept ps → LieIn (kept ++ more) ps
lie_on kept more [] h = All-nil (λ (p : Piece). p.span.to ≤ length (kept ++ more))
lie_on kept more (p ∷ ps) h =
    All-cons (λ (q : Piece). q.span.to ≤ length (kept ++ more)) p ps
    (let here = All-head (λ (q : Piece). q.span.to ≤ length kept) p ps h in omega (arith, here, length-append kept more))
    (lie_on kept more ps (All-tail (λ (q : Piece). q.span.to ≤ length kept) p ps h))

lie_push : (kept : List ℕ) (ps : List Piece) (p : Piece) → LieIn kept ps → p.span.to ≤ length kept → LieIn kept (ps ++ p ∷ [])
lie_push kept [] p h k = All-cons (λ (q : Piece). q.span.to ≤ length kept) p [] k (All-nil (λ (q : Piece). q.span.to ≤ length kept))
lie_push kept (q ∷ ps) p h k =
    All-cons (λ (r : Piece). r.span.to ≤ length kept) q (ps ++ p ∷ []) (All-head (λ (r : Piece). r.span.to ≤ length kept) q ps h)
    (lie_push kept ps p (All-tail (λ (r : Piece). r.span.to ≤ length kept) q ps h) k)

-- which spans are open: those that these pieces of what is kept leave open, if these were before
pub record SpansStand (eu nlba : Bool) (kept : List ℕ) (ps : List Piece) (g : Gathered) : Type 0 where
  pub eu_is : g.eu ≡ open_past (codes "<eu>") (codes "</eu>") kept ps eu
  pub nlba_is : g.nlba ≡ open_past (codes "<nlba>") (codes "</nlba>") kept ps nlba
  pub lie : LieIn kept ps

pub spans_on : (eu nlba : Bool) (kept more : List ℕ) (ps : List Piece) (g : Gathered) → SpansStand eu nlba kept ps g → SpansStand eu nlba (kept ++ more) ps g
spans_on eu nlba kept more ps g h = record {
  eu_is = h.eu_is ∙ sym (open_front (codes "<eu>") (codes "</eu>") kept more ps eu h.lie);
  nlba_is = h.nlba_is ∙ sym (open_front (codes "<nlba>") (codes "</nlba>") kept more ps nlba h.lie);
  lie = lie_on kept more ps h.lie;
}

-- ---- a text's events before its end

-- what was gathered while a text is read, of which this is kept
pub record InText (eu nlba : Bool) (kept : List ℕ) (g : Gathered) : Type 0 where
  pub kept_is : g.builder.kept ≡ encode_utf8_all kept
  pub spans : SpansStand eu nlba g.builder.kept g.builder.view.pieces g

-- what is gathered of a list that does not end the text, and what else stays
pub record Grows (eu nlba : Bool) (kept more : List ℕ) (view : ViewContent) (g h : Gathered) : Type 0 where
  pub within : InText eu nlba (kept ++ more) h
  pub view_is : h.builder.view ≡ view
  pub from : h.builder.from ≡ g.builder.from
  pub snippets : h.builder.snippets ≡ g.builder.snippets
  pub made : h.made ≡ g.made
  pub cut : h.cut ≡ g.cut
  pub first_kind : h.first_kind ≡ g.first_kind

one_more : (kept : List ℕ) (c : ℕ) → encode_utf8_all kept ++ encode_utf8 c ≡ encode_utf8_all (kept ++ c ∷ [])
one_more kept c = ap (λ (t : List ℕ). encode_utf8_all kept ++ t) (sym (append-nil (encode_utf8 c))) ∙ sym (encodes-append kept (c ∷ []))

-- a kept character
kept_on : (eu nlba : Bool) (kept : List ℕ) (c : ℕ) (g : Gathered) → InText eu nlba kept g → InText eu nlba (kept ++ c ∷ []) (record g { builder = record g.builder { kept = g.builder.kept ++ encode_utf8 c } })
kept_on eu nlba kept c g h =
    let s = spans_on eu nlba g.builder.kept (encode_utf8 c) g.builder.view.pieces g h.spans in
    record { kept_is = ap (λ (t : List ℕ). t ++ encode_utf8 c) h.kept_is ∙ one_more kept c; spans = record { eu_is = s.eu_is; nlba_is = s.nlba_is; lie = s.lie } }

-- a piece
piece_on : (eu nlba : Bool) (kept : List ℕ) (p : Piece) (g : Gathered) → p.span.to ≤ length (encode_utf8_all kept) → InText eu nlba kept g → InText eu nlba kept (with_event g (Text (out.Part (part.Piece p))))
piece_on eu nlba kept p g k h = record {
  kept_is = h.kept_is;
  spans = record {
    eu_is = ap (λ (b : Bool). is_open_after (codes "<eu>") (codes "</eu>") b p.kind (slice p.span g.builder.kept)) h.spans.eu_is ∙ sym (open_push (codes "<eu>") (codes "</eu>") g.builder.kept g.builder.view.pieces p eu);
    nlba_is = ap (λ (b : Bool). is_open_after (codes "<nlba>") (codes "</nlba>") b p.kind (slice p.span g.builder.kept)) h.spans.nlba_is ∙ sym (open_push (codes "<nlba>") (codes "</nlba>") g.builder.kept g.builder.view.pieces p nlba);
    lie = lie_push g.builder.kept g.builder.view.pieces p h.spans.lie (subst (λ (t : List ℕ). p.span.to ≤ length t) (sym h.kept_is) k);
  };
}

-- the events go on from what was gathered of the first of them
grows_from : (eu nlba : Bool) (kept a b : List ℕ) (view : ViewContent) (g h i : Gathered)
    → h.builder.from ≡ g.builder.from → h.builder.snippets ≡ g.builder.snippets → h.made ≡ g.made → h.cut ≡ g.cut → h.first_kind ≡ g.first_kind
    → Grows eu nlba (kept ++ a) b view h i → Grows eu nlba kept (a ++ b) view g i
grows_from eu nlba kept a b view g h i f s m c k r = record {
  within = subst (λ (t : List ℕ). InText eu nlba t i) (append_assoc kept a b) r.within;
  view_is = r.view_is;
  from = r.from ∙ f;
  snippets = r.snippets ∙ s;
  made = r.made ∙ m;
  cut = r.cut ∙ c;
  first_kind = r.first_kind ∙ k;
}

part_on : (eu nlba : Bool) (kept more : List ℕ) (view : ViewContent) (g h i : Gathered)
    → h.builder.from ≡ g.builder.from → h.builder.snippets ≡ g.builder.snippets → h.made ≡ g.made → h.cut ≡ g.cut → h.first_kind ≡ g.first_kind
    → Grows eu nlba kept more view h i → Grows eu nlba kept more view g i
part_on eu nlba kept more view g h i f s m c k r = record {
  within = r.within;
  view_is = r.view_is;
  from = r.from ∙ f;
  snippets = r.snippets ∙ s;
  made = r.made ∙ m;
  cut = r.cut ∙ c;
  first_kind = r.first_kind ∙ k;
}

pub text_grows : (eu nlba : Bool) (os : List TextEvent) (kept : List ℕ) (g : Gathered) → list_any is_end os ≡ false → PiecesStand kept os → InText eu nlba kept g
    → Grows eu nlba kept (kept_in os) (view_past g.builder.view os) g (with_all g (text_events os))
text_grows eu nlba [] kept g n s h = record {
  within = subst (λ (t : List ℕ). InText eu nlba t g) (sym (append-nil kept)) h;
  view_is = refl;
  from = refl;
  snippets = refl;
  made = refl;
  cut = refl;
  first_kind = refl;
}
text_grows eu nlba (out.Kept c ∷ os) kept g n s h =
    grows_from eu nlba kept (c.c ∷ []) (kept_in os) (view_past g.builder.view os) g (with_event g (Text (out.Kept c))) (with_all (with_event g (Text (out.Kept c))) (text_events os)) refl refl refl refl refl
    (text_grows eu nlba os (kept ++ c.c ∷ []) (with_event g (Text (out.Kept c))) n s (kept_on eu nlba kept c.c g h))
text_grows eu nlba (out.Part (part.Piece p) ∷ os) kept g n s h = part_on eu nlba kept (kept_in os) (view_past (with_event g (Text (out.Part (part.Piece p)))).builder.view os) g (with_event g (Text (out.Part (part.Piece p)))) (with_all (with_event g (Text (out.Part (part.Piece p)))) (text_events os)) refl refl refl refl refl (text_grows eu nlba os kept (with_event g (Text (out.Part (part.Piece p)))) n s.1 (piece_on eu nlba kept p g s.0 h))
text_grows eu nlba (out.Part part.WordStart ∷ os) kept g n s h = part_on eu nlba kept (kept_in os) (view_past (with_event g (Text (out.Part part.WordStart))).builder.view os) g (with_event g (Text (out.Part part.WordStart))) (with_all (with_event g (Text (out.Part part.WordStart))) (text_events os)) refl refl refl refl refl (text_grows eu nlba os kept (with_event g (Text (out.Part part.WordStart))) n s (record { kept_is = h.kept_is; spans = record { eu_is = h.spans.eu_is; nlba_is = h.spans.nlba_is; lie = h.spans.lie } }))
text_grows eu nlba (out.Part (part.Centre c) ∷ os) kept g n s h = part_on eu nlba kept (kept_in os) (view_past (with_event g (Text (out.Part (part.Centre c)))).builder.view os) g (with_event g (Text (out.Part (part.Centre c)))) (with_all (with_event g (Text (out.Part (part.Centre c)))) (text_events os)) refl refl refl refl refl (text_grows eu nlba os kept (with_event g (Text (out.Part (part.Centre c)))) n s (record { kept_is = h.kept_is; spans = record { eu_is = h.spans.eu_is; nlba_is = h.spans.nlba_is; lie = h.spans.lie } }))
text_grows eu nlba (out.Part (part.Translation c) ∷ os) kept g n s h = part_on eu nlba kept (kept_in os) (view_past (with_event g (Text (out.Part (part.Translation c)))).builder.view os) g (with_event g (Text (out.Part (part.Translation c)))) (with_all (with_event g (Text (out.Part (part.Translation c)))) (text_events os)) refl refl refl refl refl (text_grows eu nlba os kept (with_event g (Text (out.Part (part.Translation c)))) n s (record { kept_is = h.kept_is; spans = record { eu_is = h.spans.eu_is; nlba_is = h.spans.nlba_is; lie = h.spans.lie } }))
text_grows eu nlba (out.Found f ∷ os) kept g n s h = text_grows eu nlba os kept g n s h
text_grows eu nlba (out.Ended how ∷ os) kept g n s h = absurd (true≢false n)

-- what is found in the list of a text
pub texts_found : (os : List TextEvent) → found (text_events os) ≡ found_in os
texts_found [] = refl
texts_found (out.Found f ∷ os) = ap (λ (fs : List Finding). f ∷ fs) (texts_found os)
texts_found (out.Kept c ∷ os) = texts_found os
texts_found (out.Part p ∷ os) = texts_found os
texts_found (out.Ended how ∷ os) = texts_found os
