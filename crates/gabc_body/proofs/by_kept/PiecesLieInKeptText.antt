-- A piece of a text is emitted when all of it is kept.
use Rattle.std.proofs.Common.{◌≡◌, ℕ, ◌≤◌, Bool, true, false, cond, List, [], ◌∷◌, ◌++◌, map, reverse, Option, Some, None, refl, sym, ap, subst, ◌∙◌, append_assoc, append-nil, arith}
use Rattle.gabc_places.specs.Place.{placed_characters_from}
use Rattle.gabc_places.specs.declared.code.Code.{Code}
use Rattle.gabc_places.specs.declared.code.Finding.{Finding}
use Rattle.gabc_places.specs.declared.place.Char.{Char}
use Rattle.gabc_places.specs.declared.place.Place.{Place}
use Rattle.gabc_places.specs.declared.place.Span.{Span}
use Rattle.gabc_text.specs.BuiltText.{kept_in}
use Rattle.gabc_text.specs.Events.{kept_of, piece_at, is_blank_at, waiting_by, waiting_blank, option_list_of, translation_at, parts_by, parts_at, chars_at, finding_events, early_events, events_at, end_events, end_after, centre_of, events_of, codes_of}
use Rattle.gabc_text.specs.Token.{Token, spelling, tokens}
use Rattle.gabc_text.specs.View.{along, kind_of, is_space, is_left_out, follows_space, kept_at, place_of, early_codes, late_codes, effect, findings_at_end}
use Rattle.gabc_text.specs.declared.view.Piece.{Piece}
use Rattle.gabc_text.specs.declared.view.PieceKind.{PieceKind}
use Rattle.gabc_text.specs.declared.view.PieceKind.TheVariants as piece
use Rattle.gabc_text.specs.declared.text_event.TextEvent.{TextEvent}
use Rattle.gabc_text.specs.declared.text_event.TextEvent.TheVariants as out
use Rattle.gabc_text.specs.declared.text_event.TextPart.{TextPart}
use Rattle.gabc_text.specs.declared.text_event.TextPart.TheVariants as part
use Rattle.gabc_body.specs.witness.TextsByKept.{PiecesStand}
use Rattle.gabc_body.proofs.by_kept.ReadingAgreesWithEvents.{codes_placed}
use Rattle.gabc_body.proofs.texts_of_body.SeamsOfCharacters.{size, size_append}
use Rattle.gabc_body.proofs.texts_of_body.BodyFits.{bytes_encodes}

-- ---- one after the other

pub kept_in_append : (xs ys : List TextEvent) → kept_in (xs ++ ys) ≡ kept_in xs ++ kept_in ys
kept_in_append [] ys = refl
kept_in_append (out.Kept c ∷ xs) ys = ap (λ (t : List ℕ). c.c ∷ t) (kept_in_append xs ys)
kept_in_append (out.Part p ∷ xs) ys = kept_in_append xs ys
kept_in_append (out.Found f ∷ xs) ys = kept_in_append xs ys
kept_in_append (out.Ended how ∷ xs) ys = kept_in_append xs ys

pub stand_parts : (k : List ℕ) (xs ys : List TextEvent) → PiecesStand k (xs ++ ys) → PiecesStand k xs × PiecesStand (k ++ kept_in xs) ys
stand_parts k [] ys h = (tt, subst (λ (u : List ℕ). PiecesStand u ys) (sym (append-nil k)) h)
stand_parts k (out.Kept c ∷ xs) ys h =
    let r = stand_parts (k ++ c.c ∷ []) xs ys h in
    (r.0, subst (λ (u : List ℕ). PiecesStand u ys) (append_assoc k (c.c ∷ []) (kept_in xs)) r.1)
stand_parts k (out.Part (part.Piece p) ∷ xs) ys h = let r = stand_parts k xs ys h.1 in ((h.0, r.0), r.1)
stand_parts k (out.Part part.WordStart ∷ xs) ys h = stand_parts k xs ys h
stand_parts k (out.Part (part.Centre s) ∷ xs) ys h = stand_parts k xs ys h
stand_parts k (out.Part (part.Translation s) ∷ xs) ys h = stand_parts k xs ys h
stand_parts k (out.Found f ∷ xs) ys h = stand_parts k xs ys h
stand_parts k (out.Ended how ∷ xs) ys h = stand_parts k xs ys h

stand_joined : (k : List ℕ) (xs ys : List TextEvent) → PiecesStand k xs → PiecesStand (k ++ kept_in xs) ys → PiecesStand k (xs ++ ys)
stand_joined k [] ys h i = subst (λ (u : List ℕ). PiecesStand u ys) (append-nil k) i
stand_joined k (out.Kept c ∷ xs) ys h i = stand_joined (k ++ c.c ∷ []) xs ys h (subst (λ (u : List ℕ). PiecesStand u ys) (sym (append_assoc k (c.c ∷ []) (kept_in xs))) i)
stand_joined k (out.Part (part.Piece p) ∷ xs) ys h i = (h.0, stand_joined k xs ys h.1 i)
stand_joined k (out.Part part.WordStart ∷ xs) ys h i = stand_joined k xs ys h i
stand_joined k (out.Part (part.Centre s) ∷ xs) ys h i = stand_joined k xs ys h i
stand_joined k (out.Part (part.Translation s) ∷ xs) ys h i = stand_joined k xs ys h i
stand_joined k (out.Found f ∷ xs) ys h i = stand_joined k xs ys h i
stand_joined k (out.Ended how ∷ xs) ys h i = stand_joined k xs ys h i

-- ---- events that are no pieces

record Plain (os : List TextEvent) : Type 0 where
  none_kept : kept_in os ≡ []
  stand : (k : List ℕ) → PiecesStand k os

found_plain : (at : Place) (before : List Token) (cs : List Code) → Plain (finding_events at before cs)
found_plain at before [] = record { none_kept = refl; stand = λ k. tt }
found_plain at before (c ∷ cs) = let r = found_plain at before cs in record { none_kept = r.none_kept; stand = r.stand }

all_found_plain : (fs : List Finding) → Plain (map out.Found fs)
all_found_plain [] = record { none_kept = refl; stand = λ k. tt }
all_found_plain (f ∷ fs) = let r = all_found_plain fs in record { none_kept = r.none_kept; stand = r.stand }

chars_stand : (cs : List Char) (k : List ℕ) → (kept_in (map (λ (c : Char). out.Kept c) cs) ≡ codes_of cs) × PiecesStand k (map (λ (c : Char). out.Kept c) cs)
chars_stand [] k = (refl, tt)
chars_stand (c ∷ cs) k = let r = chars_stand cs (k ++ c.c ∷ []) in (ap (λ (t : List ℕ). c.c ∷ t) r.0, r.1)

chars_kept : (at : Place) (before : List Token) (k : Token) → codes_of (chars_at at before k) ≡ kept_at before k
chars_kept at before k = by (is_left_out before k.kind) (is_space k.kind) (follows_space before)
  where
    by : (o s f : Bool)
        → codes_of (cond o [] (cond s (cond f [] (record { c = 32; place = place_of at before } ∷ [])) (placed_characters_from (place_of at before) (spelling k)))) ≡ cond o [] (cond s (cond f [] (32 ∷ [])) (spelling k))
    by true s f = refl
    by false true true = refl
    by false true false = refl
    by false false f = codes_placed (place_of at before) (spelling k)

-- ---- parts

abbrev LiesIn : List ℕ → Option Piece → Type 0
LiesIn k None = Unit {0}
LiesIn k (Some p) = p.span.to ≤ size k

grown_lies : (k more : List ℕ) (o : Option Piece) → LiesIn k o → LiesIn (k ++ more) o
grown_lies k more None h = tt
grown_lies k more (Some p) h = let e = size_append k more in omega (arith, h, e)

piece_lies : (before : List Token) (k : Token) (kind : PieceKind) → (piece_at before k kind).span.to ≤ size (kept_of (k ∷ before))
piece_lies before k kind = let e = bytes_encodes (kept_of (k ∷ before)) in omega (arith, e)

waiting_lies : (before : List Token) → LiesIn (kept_of before) (waiting_blank before)
waiting_lies [] = tt
waiting_lies (k ∷ before) = by (kind_of k) (waiting_lies before)
  where
    blank : (b : Bool) → LiesIn (kept_of before) (waiting_blank before) → LiesIn (kept_of before ++ kept_at before k) (cond b (Some (piece_at before k piece.Blank)) (waiting_blank before))
    blank true h = piece_lies before k piece.Blank
    blank false h = grown_lies (kept_of before) (kept_at before k) (waiting_blank before) h

    by : (o : Option PieceKind) → LiesIn (kept_of before) (waiting_blank before) → LiesIn (kept_of before ++ kept_at before k) (waiting_by before k o (waiting_blank before))
    by (Some kind) h = tt
    by None h = blank (is_blank_at before k.kind) h

abbrev out_parts : List TextPart → List TextEvent
out_parts ps = map (λ (p : TextPart). out.Part p) ps

none_kept : (ps : List TextPart) → kept_in (out_parts ps) ≡ []
none_kept [] = refl
none_kept (p ∷ ps) = none_kept ps

parts_stand : (before : List Token) (k : Token) → PiecesStand (kept_of (k ∷ before)) (out_parts (parts_at before k))
parts_stand before k = by (kind_of k)
  where
    none : (a b : Bool) → PiecesStand (kept_of (k ∷ before)) (out_parts (cond a (part.WordStart ∷ []) (cond b (part.Translation (translation_at before k) ∷ []) [])))
    none true b = tt
    none false true = tt
    none false false = tt

    waits : (o : Option Piece) → LiesIn (kept_of (k ∷ before)) o → (kind : PieceKind) → PiecesStand (kept_of (k ∷ before)) (out_parts (map (λ (p : Piece). part.Piece p) (option_list_of o) ++ part.Piece (piece_at before k kind) ∷ []))
    waits None h kind = (piece_lies before k kind, tt)
    waits (Some p) h kind = (h, (piece_lies before k kind, tt))

    by : (o : Option PieceKind) → PiecesStand (kept_of (k ∷ before)) (out_parts (parts_by before k o))
    by None = none _ _
    by (Some kind) = waits (waiting_blank before) (grown_lies (kept_of before) (kept_at before k) (waiting_blank before) (waiting_lies before)) kind

-- ---- tokens

record TokenStands (before : List Token) (k : Token) (os : List TextEvent) : Type 0 where
  kept_is : kept_in os ≡ kept_at before k
  stand : PiecesStand (kept_of before) os

token_stands : (at : Place) (before : List Token) (k : Token) → TokenStands before k (events_at at before k)
token_stands at before k = record {
  kept_is = kept_in_append early (chars ++ (parts ++ late)) ∙ ap (λ (t : List ℕ). t ++ kept_in (chars ++ (parts ++ late))) e.none_kept ∙ kept_in_append chars (parts ++ late) ∙ ap (λ (t : List ℕ). t ++ kept_in (parts ++ late)) here ∙ ap (λ (t : List ℕ). kept_at before k ++ t) rest ∙ append-nil (kept_at before k);
  stand = stand_joined (kept_of before) early (chars ++ (parts ++ late)) (e.stand (kept_of before))
      (subst (λ (u : List ℕ). PiecesStand u (chars ++ (parts ++ late))) (sym (append-nil (kept_of before)) ∙ ap (λ (t : List ℕ). kept_of before ++ t) (sym e.none_kept))
      (stand_joined (kept_of before) chars (parts ++ late) (chars_stand (chars_at at before k) (kept_of before)).1
      (subst (λ (u : List ℕ). PiecesStand (kept_of before ++ u) (parts ++ late)) (sym here)
      (stand_joined (kept_of before ++ kept_at before k) parts late (parts_stand before k) (l.stand ((kept_of before ++ kept_at before k) ++ kept_in parts))))));
}
  where
    early : List TextEvent
    early = early_events at before k.kind

    chars : List TextEvent
    chars = map (λ (c : Char). out.Kept c) (chars_at at before k)

    parts : List TextEvent
    parts = out_parts (parts_at before k)

    late : List TextEvent
    late = finding_events at before (late_codes before k.kind (effect k))

    e : Plain (early_events at before k.kind)
    e = found_plain at before (early_codes before k.kind)

    l : Plain (finding_events at before (late_codes before k.kind (effect k)))
    l = found_plain at before (late_codes before k.kind (effect k))

    here : kept_in (map (λ (c : Char). out.Kept c) (chars_at at before k)) ≡ kept_at before k
    here = (chars_stand (chars_at at before k) (kept_of before)).0 ∙ chars_kept at before k

    rest : kept_in (out_parts (parts_at before k) ++ finding_events at before (late_codes before k.kind (effect k))) ≡ []
    rest = kept_in_append (out_parts (parts_at before k)) (finding_events at before (late_codes before k.kind (effect k))) ∙ ap (λ (t : List ℕ). t ++ kept_in (finding_events at before (late_codes before k.kind (effect k)))) (none_kept (parts_at before k)) ∙ l.none_kept

end_stands : (at : Place) (before : List Token) (rest : List ℕ) (k : List ℕ) → PiecesStand k (end_events at before rest)
end_stands at before rest k =
    let f = all_found_plain (findings_at_end at before) in
    stand_joined k (map out.Found (findings_at_end at before)) _ (f.stand k) (centre (centre_of before) (k ++ kept_in (map out.Found (findings_at_end at before))))
  where
    centre : (o : Option Span) (u : List ℕ) → PiecesStand u (map (λ (s : Span). out.Part (part.Centre s)) (option_list_of o) ++ out.Ended (end_after at before rest) ∷ [])
    centre None u = tt
    centre (Some s) u = tt

tokens_stand : (at : Place) (ks before : List Token) (rest : List TextEvent) → ((k : List ℕ) → PiecesStand k rest) → PiecesStand (kept_of before) (along (events_at at) before ks ++ rest)
tokens_stand at [] before rest h = h (kept_of before)
tokens_stand at (k ∷ ks) before rest h =
    let s = token_stands at before k in
    subst (λ (os : List TextEvent). PiecesStand (kept_of before) os) (sym (append_assoc (events_at at before k) (along (events_at at) (k ∷ before) ks) rest))
    (stand_joined (kept_of before) (events_at at before k) (along (events_at at) (k ∷ before) ks ++ rest) s.stand
    (subst (λ (u : List ℕ). PiecesStand (kept_of before ++ u) (along (events_at at) (k ∷ before) ks ++ rest)) (sym s.kept_is) (tokens_stand at ks (k ∷ before) rest h)))

pub text_stands : (at : Place) (t : List ℕ) → PiecesStand [] (events_of at t)
text_stands at t = tokens_stand at (tokens t) [] (end_events at (reverse (tokens t)) _) (end_stands at (reverse (tokens t)) _)
