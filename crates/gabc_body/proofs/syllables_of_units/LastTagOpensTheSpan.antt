-- A span is open after texts if the last of its two tags in them opens it.
use Rattle.std.proofs.Common.{◌≡◌, ℕ, ◌&&◌, not, List, [], ◌∷◌, ◌++◌, map, Bool, true, false, cond, Option, Some, None, ◌⊎◌, inl, inr, refl, sym, ap, ◌∙◌, append_assoc, append-nil, bytes_eq, arith}
use Rattle.std.specs.Prelude.{◌≢◌, IsTrue, ◌↔◌}
use Rattle.std.specs.List.{All}
use Rattle.std.proofs.lemmas.Bool.{false≢true, cond_both}
use Rattle.std.proofs.lemmas.List.{map-append}
use Rattle.std.proofs.lemmas.List.Elements.{All-nil, All-cons, All-head, All-tail}
use Rattle.std.proofs.lemmas.Slice.Eq.{bytes_eq-Decides}
use Rattle.std.proofs.lemmas.Str.{encodes-append, encodes_same}
use lib.Utf8.{encodes}
use Rattle.gabc_places.specs.declared.place.Place.{Place}
use Rattle.gabc_places.specs.declared.place.Span.{Span}
use Rattle.gabc_places.specs.declared.place.Char.{Char}
use Rattle.gabc_places.specs.declared.code.Code.{Code}
use Rattle.gabc_places.specs.declared.code.Finding.{Finding}
use Rattle.gabc_places.specs.Place.{next_place, placed_characters_from}
use Rattle.gabc_text.specs.declared.token.TokenKind.{TokenKind}
use Rattle.gabc_text.specs.declared.token.TagEffect.{TagEffect}
use Rattle.gabc_text.specs.declared.view.PieceKind.{PieceKind}
use Rattle.gabc_text.specs.declared.view.PieceKind.TheVariants as piece
use Rattle.gabc_text.specs.declared.view.Piece.{Piece}
use Rattle.gabc_text.specs.declared.text_event.TextPart.{TextPart}
use Rattle.gabc_text.specs.declared.text_event.TextPart.TheVariants as part
use Rattle.gabc_text.specs.declared.text_event.TextEvent.{TextEvent}
use Rattle.gabc_text.specs.declared.text_event.TextEvent.TheVariants as text
use Rattle.gabc_text.specs.Token.{Token, spelling}
use Rattle.gabc_text.specs.View.{PieceFacts, along, effect, piece_kind, kind_of, piece_of, pieces_at, open_styles, is_blank_piece, is_space, is_left_out, follows_space, follows_blank, has_word, starts_word, has_translation, kept_at, place_of, early_codes, late_codes}
use Rattle.gabc_text.specs.ViewFacts.{but_blank, span_tags, is_mark, tags_among}
use Rattle.gabc_text.specs.Events.{kept_of as kept_before, piece_at, waiting_by, waiting_blank, option_list_of, is_whole_translation, translation_at, parts_by, parts_at, chars_at, finding_events, early_events, events_at, end_events, events_of, codes_of}
use Rattle.gabc_body.specs.declared.events.BodyEvent.{BodyEvent}
use Rattle.gabc_body.specs.declared.events.BodyEvent.TheVariants as event
use Rattle.gabc_body.specs.Syllable.{since_close, kept_of, slice, is_open_after, is_open}
use Rattle.gabc_body.specs.Body.{events_onto}
use Rattle.gabc_body.specs.SyllablesOfUnits.{IsLeftOpen}
use Rattle.gabc_body.specs.witness.TextEvents.{text_events}
use Rattle.gabc_text.proofs.printing.PrintedPiecesAreJoined.{tags_join}
use Rattle.gabc_body.proofs.emitted.EventsOfSyllableParts.{onto_append}
use Rattle.gabc_body.proofs.holding.SnippetsLieInKeptText.{bytes_stand}

-- parts of a text as its events
abbrev pub out_parts : List TextPart → List TextEvent
out_parts ps = map (λ (p : TextPart). text.Part p) ps

-- ---- tags

-- a piece before others
tags_one : (p : PieceFacts) (ps : List PieceFacts) → tags_among (p ∷ ps) ≡ tags_among (p ∷ []) ++ tags_among ps
tags_one p ps = tags_join (p ∷ []) ps

blank_has_none : (p : PieceFacts) → is_blank_piece p.kind ≡ true → tags_among (p ∷ []) ≡ []
blank_has_none p h = grind arith

pub tags_but_blank : (ps : List PieceFacts) → tags_among (but_blank ps) ≡ tags_among ps
tags_but_blank [] = refl
tags_but_blank (p ∷ []) = grind (arith, blank_has_none)
tags_but_blank (p ∷ q ∷ ps) = grind (arith, tags_but_blank (q ∷ ps), tags_one)

module _ (opening closing : List ℕ) where
  -- a span is open after a tag, and after tags, if it was open or not
  abbrev pub after_tag : Bool → List ℕ → Bool
  after_tag was tag = cond (bytes_eq (encodes tag) opening) true (cond (bytes_eq (encodes tag) closing) false was)

  abbrev pub after_tags : Bool → List (List ℕ) → Bool
  after_tags was [] = was
  after_tags was (tag ∷ tags) = after_tags (after_tag was tag) tags

  pub after_append : (was : Bool) (xs ys : List (List ℕ)) → after_tags was (xs ++ ys) ≡ after_tags (after_tags was xs) ys
  after_append was [] ys = refl
  after_append was (x ∷ xs) ys = after_append (after_tag was x) xs ys

  abbrev open_at : List BodyEvent → Bool
  open_at ts = is_open opening closing ts

  abbrev kept_at_point : List BodyEvent → List ℕ
  kept_at_point ts = kept_of (since_close ts)

  -- ---- events that change neither

  record Still (before after : List BodyEvent) : Type 0 where
    kept : kept_at_point after ≡ kept_at_point before
    span : open_at after ≡ open_at before

  found_still : (at : Place) (bs : List Token) (cs : List Code) (ts : List BodyEvent) → Still ts (events_onto (text_events (finding_events at bs cs)) ts)
  found_still at bs [] ts = record { kept = refl; span = refl }
  found_still at bs (c ∷ cs) ts = let on = found_still at bs cs (event.Text (text.Found (record { place = place_of at bs; code = c })) ∷ ts) in record { kept = on.kept; span = on.span }

  -- ---- characters

  record Keeps (more : List ℕ) (before after : List BodyEvent) : Type 0 where
    kept : kept_at_point after ≡ kept_at_point before ++ encodes more
    span : open_at after ≡ open_at before

  chars_keep : (cs : List Char) (ts : List BodyEvent) → Keeps (codes_of cs) ts (events_onto (text_events (map (λ (c : Char). text.Kept c) cs)) ts)
  chars_keep [] ts = record { kept = sym (append-nil (kept_at_point ts)); span = refl }
  chars_keep (c ∷ cs) ts = grind (arith, chars_keep cs (event.Text (text.Kept c) ∷ ts), append_assoc)

  -- ---- parts

  mark_kept : (kind : TokenKind) (s : TagEffect) (bs : List Token) (spelled : List ℕ) → piece_kind kind s ≡ Some piece.Mark
      → cond (is_left_out bs kind) [] (cond (is_space kind) (cond (follows_space bs) [] (32 ∷ [])) spelled) ≡ spelled
  mark_kept kind s bs spelled h = grind arith

  -- a blank that waits for the next piece is no tag
  abbrev IsNoMark : Option Piece → Type 0
  IsNoMark None = Unit {0}
  IsNoMark (Some p) = is_mark p.kind ≡ false

  waiting_by_is_none : (bs : List Token) (k : Token) (o : Option PieceKind) (was : Option Piece) → IsNoMark was → IsNoMark (waiting_by bs k o was)
  waiting_by_is_none bs k o was h = grind arith

  waiting_is_none : (bs : List Token) → IsNoMark (waiting_blank bs)
  waiting_is_none [] = tt
  waiting_is_none (k ∷ bs) = waiting_by_is_none bs k (kind_of k) (waiting_blank bs) (waiting_is_none bs)

  no_mark : (was : Bool) (kind : PieceKind) (spelled : List ℕ) → is_mark kind ≡ false → is_open_after opening closing was kind spelled ≡ was
  no_mark was kind spelled h = ap (λ b. cond b (cond (bytes_eq spelled opening) true (cond (bytes_eq spelled closing) false was)) was) h

  events_append : (xs ys : List TextEvent) (ts : List BodyEvent) → events_onto (text_events (xs ++ ys)) ts ≡ events_onto (text_events ys) (events_onto (text_events xs) ts)
  events_append xs ys ts = ap (λ us. events_onto us ts) (map-append (λ (o : TextEvent). event.Text o) xs ys) ∙ onto_append (text_events xs) (text_events ys) ts

  waiting_still : (o : Option Piece) (ts : List BodyEvent) → IsNoMark o → Still ts (events_onto (text_events (out_parts (map (λ (p : Piece). part.Piece p) (option_list_of o)))) ts)
  waiting_still o ts h = grind (arith, no_mark)

  -- the bytes of a tag's span are its spelling
  tag_spelled : (bs : List Token) (k : Token) (ts : List BodyEvent) → kind_of k ≡ Some piece.Mark → kept_at_point ts ≡ encodes (kept_before (k ∷ bs))
      → slice (piece_at bs k piece.Mark).span (kept_at_point ts) ≡ encodes (spelling k)
  tag_spelled bs k ts e h =
      ap (slice (piece_at bs k piece.Mark).span) h
      ∙ bytes_stand (kept_before bs ++ kept_at bs k) (piece_at bs k piece.Mark).span (kept_at bs k) (record {
        prefix = kept_before bs;
        back = [];
        parts = ap (λ t. kept_before bs ++ t) (sym (append-nil (kept_at bs k)));
        from_is = refl;
        to_is = refl;
      })
      ∙ ap encodes (mark_kept k.kind (effect k) bs (spelling k) e)

  piece_emitted : (bs : List Token) (k : Token) (ts : List BodyEvent) → kept_at_point ts ≡ encodes (kept_before (k ∷ bs)) → (kind : PieceKind) → kind_of k ≡ Some kind
      → open_at (event.Text (text.Part (part.Piece (piece_at bs k kind))) ∷ ts) ≡ after_tags (open_at ts) (tags_among (piece_of bs k (Some kind)))
  piece_emitted bs k ts h kind e = grind (arith, tag_spelled)

  abbrev AfterParts : List Token → Token → List BodyEvent → Option PieceKind → Type 0
  AfterParts bs k ts o =
      let after = events_onto (text_events (out_parts (parts_by bs k o))) ts in
      (kept_at_point after ≡ kept_at_point ts) × (open_at after ≡ after_tags (open_at ts) (tags_among (piece_of bs k o)))

  parts_emit : (bs : List Token) (k : Token) (ts : List BodyEvent) → kept_at_point ts ≡ encodes (kept_before (k ∷ bs)) → AfterParts bs k ts (kind_of k)
  parts_emit bs k ts h = by (kind_of k) refl
    where
      blank : (b : Bool) → tags_among (cond b (record { kind = piece.Blank; styles = open_styles bs; text = [] } ∷ []) []) ≡ []
      blank b = cond_both b _ [] (λ (ps : List PieceFacts). tags_among ps ≡ []) (λ e. refl) (λ e. refl)

      others : (a b : Bool) → Still ts (events_onto (text_events (out_parts (cond a (part.WordStart ∷ []) (cond b (part.Translation (translation_at bs k) ∷ []) [])))) ts)
      others true b = record { kept = refl; span = refl }
      others false true = record { kept = refl; span = refl }
      others false false = record { kept = refl; span = refl }

      none : AfterParts bs k ts None
      none =
          let s = others (is_space k.kind && (not (has_word bs) && not (starts_word bs))) (is_whole_translation k.kind && not (has_translation bs)) in
          (s.kept, s.span ∙ sym (ap (after_tags (open_at ts)) (blank (is_space k.kind && has_word bs && not (follows_blank bs)))))

      some : (kind : PieceKind) → kind_of k ≡ Some kind → AfterParts bs k ts (Some kind)
      some kind e =
          let first = out_parts (map (λ (p : Piece). part.Piece p) (option_list_of (waiting_blank bs))) in
          let w = waiting_still (waiting_blank bs) ts (waiting_is_none bs) in
          let middle = events_onto (text_events first) ts in
          let all : events_onto (text_events (out_parts (parts_by bs k (Some kind)))) ts ≡ event.Text (text.Part (part.Piece (piece_at bs k kind))) ∷ middle =
          ap (λ os. events_onto (text_events os) ts) (map-append (λ (p : TextPart). text.Part p) (map (λ (p : Piece). part.Piece p) (option_list_of (waiting_blank bs))) (part.Piece (piece_at bs k kind) ∷ []))
          ∙ events_append first (text.Part (part.Piece (piece_at bs k kind)) ∷ []) ts in (
            ap kept_at_point all ∙ w.kept,
            ap open_at all ∙ piece_emitted bs k middle (w.kept ∙ h) kind e ∙ ap (λ was. after_tags was (tags_among (piece_of bs k (Some kind)))) w.span,
          )

      by : (o : Option PieceKind) → kind_of k ≡ o → AfterParts bs k ts o
      by None e = none
      by (Some kind) e = some kind e

  -- ---- tokens

  codes_placed : (p : Place) (t : List ℕ) → codes_of (placed_characters_from p t) ≡ t
  codes_placed p [] = refl
  codes_placed p (c ∷ t) = ap (λ cs. c ∷ cs) (codes_placed (next_place p c) t)

  chars_kept : (at : Place) (bs : List Token) (k : Token) → codes_of (chars_at at bs k) ≡ kept_at bs k
  chars_kept at bs k = grind (arith, codes_placed)

  record TokenStep (bs : List Token) (k : Token) (before after : List BodyEvent) : Type 0 where
    kept : kept_at_point after ≡ encodes (kept_before (k ∷ bs))
    span : open_at after ≡ after_tags (open_at before) (tags_among (pieces_at bs k))

  token_emits : (at : Place) (bs : List Token) (k : Token) (ts : List BodyEvent) → kept_at_point ts ≡ encodes (kept_before bs) → TokenStep bs k ts (events_onto (text_events (events_at at bs k)) ts)
  token_emits at bs k ts h =
      let early = early_events at bs k.kind in
      let chars = map (λ (c : Char). text.Kept c) (chars_at at bs k) in
      let parts = out_parts (parts_at bs k) in
      let late = finding_events at bs (late_codes bs k.kind (effect k)) in
      let a = events_onto (text_events early) ts in
      let b = events_onto (text_events chars) a in
      let c = events_onto (text_events parts) b in
      let d = events_onto (text_events late) c in
      let all : events_onto (text_events (events_at at bs k)) ts ≡ d =
      events_append early (chars ++ (parts ++ late)) ts ∙ events_append chars (parts ++ late) a ∙ events_append parts late b in
      let f = found_still at bs (early_codes bs k.kind) ts in
      let g = chars_keep (chars_at at bs k) a in
      let here : kept_at_point b ≡ encodes (kept_before (k ∷ bs)) =
      g.kept ∙ ap (λ ks. ks ++ encodes (codes_of (chars_at at bs k))) (f.kept ∙ h) ∙ ap (λ ks. encodes (kept_before bs) ++ encodes ks) (chars_kept at bs k) ∙ sym (encodes-append (kept_before bs) (kept_at bs k)) in
      let p = parts_emit bs k b here in
      let l = found_still at bs (late_codes bs k.kind (effect k)) c in
      record {
        kept = ap kept_at_point all ∙ l.kept ∙ p.0 ∙ here;
        span = ap open_at all ∙ l.span ∙ p.1 ∙ ap (λ was. after_tags was (tags_among (pieces_at bs k))) (g.span ∙ f.span);
      }

  tokens_emitted : (at : Place) (bs ks : List Token) (ts : List BodyEvent) → kept_at_point ts ≡ encodes (kept_before bs)
      → open_at (events_onto (text_events (along (events_at at) bs ks)) ts) ≡ after_tags (open_at ts) (tags_among (along pieces_at bs ks))
  tokens_emitted at bs [] ts h = refl
  tokens_emitted at bs (k ∷ ks) ts h =
      let r = token_emits at bs k ts h in
      rw (events_append (events_at at bs k) (along (events_at at) (k ∷ bs) ks) ts, tokens_emitted at (k ∷ bs) ks (events_onto (text_events (events_at at bs k)) ts) r.kept, r.span, tags_join (pieces_at bs k) (along pieces_at (k ∷ bs) ks))
      (sym (after_append (open_at ts) (tags_among (pieces_at bs k)) (tags_among (along pieces_at (k ∷ bs) ks))))

  -- ---- a text

  end_found : (fs : List Finding) (ts : List BodyEvent) → open_at (events_onto (text_events (map text.Found fs)) ts) ≡ open_at ts
  end_found [] ts = refl
  end_found (f ∷ fs) ts = end_found fs (event.Text (text.Found f) ∷ ts)

  end_centre : (o : Option Span) (ts : List BodyEvent) → open_at (events_onto (text_events (map (λ (s : Span). text.Part (part.Centre s)) (option_list_of o))) ts) ≡ open_at ts
  end_centre o ts = grind arith

  end_still : (at : Place) (bs : List Token) (rest : List ℕ) (ts : List BodyEvent) → open_at (events_onto (text_events (end_events at bs rest)) ts) ≡ open_at ts
  end_still at bs rest ts = grind (arith, events_append, end_centre, end_found)

  -- after a text a span is open by the tags of the text, and by what was before
  pub text_opens_span : (at : Place) (t : List ℕ) (ts : List BodyEvent) → since_close ts ≡ [] → open_at (events_onto (text_events (events_of at t)) ts) ≡ after_tags (open_at ts) (span_tags t)
  text_opens_span at t ts h = grind (arith, events_append, end_still, tokens_emitted, tags_but_blank)

  -- ---- the last tag

  module _ (same : encodes opening ≡ opening) (other : encodes closing ≡ closing) where
    is_tag : (tag name : List ℕ) → encodes name ≡ name → bytes_eq (encodes tag) name ≡ true → tag ≡ name
    is_tag tag name s e = encodes_same tag name ((bytes_eq-Decides (encodes tag) name).0 e ∙ sym s)

    is_named : (tag name : List ℕ) → encodes name ≡ name → tag ≡ name → bytes_eq (encodes tag) name ≡ true
    is_named tag name s e = (bytes_eq-Decides (encodes tag) name).1 (ap encodes e ∙ s)

    abbrev NoneCloses : List (List ℕ) → Type 0
    NoneCloses tags = All (λ tag. tag ≢ closing) tags

    -- a span that is open was opened, or was open before and is not closed
    opened : (was : Bool) (tags : List (List ℕ)) → after_tags was tags ≡ true → IsLeftOpen opening closing tags ⊎ ((was ≡ true) × NoneCloses tags)
    opened was [] h = inr (h, All-nil (λ tag. tag ≢ closing))
    opened was (tag ∷ tags) h = by (bytes_eq (encodes tag) opening) refl (bytes_eq (encodes tag) closing) refl (opened (after_tag was tag) tags h)
      where
        later : IsLeftOpen opening closing tags → IsLeftOpen opening closing (tag ∷ tags)
        later l = record { before = tag ∷ l.before; after = l.after; tags_are = ap (λ ts. tag ∷ ts) l.tags_are; none_closes = l.none_closes }

        by : (a : Bool) → bytes_eq (encodes tag) opening ≡ a → (b : Bool) → bytes_eq (encodes tag) closing ≡ b
            → IsLeftOpen opening closing tags ⊎ ((after_tag was tag ≡ true) × NoneCloses tags) → IsLeftOpen opening closing (tag ∷ tags) ⊎ ((was ≡ true) × NoneCloses (tag ∷ tags))
        by a e b f (inl l) = inl (later l)
        by true e b f (inr n) = inl (record { before = []; after = tags; tags_are = ap (λ t. t ∷ tags) (is_tag tag opening same e); none_closes = n.1 })
        by false e true f (inr n) = absurd (let g = n.0 in let k : after_tag was tag ≡ false = rw (e, f) refl in cc)
        by false e false f (inr n) =
            let g : after_tag was tag ≡ was = rw (e, f) refl in
            let stays : tag ≢ closing = λ c. absurd (let k = is_named tag closing other c in cc) in
            inr (sym g ∙ n.0, All-cons (λ t. t ≢ closing) tag tags stays n.1)

    stays_open : (tags : List (List ℕ)) → NoneCloses tags → after_tags true tags ≡ true
    stays_open [] h = refl
    stays_open (tag ∷ tags) h = by (bytes_eq (encodes tag) opening) (bytes_eq (encodes tag) closing) refl (stays_open tags (All-tail (λ t. t ≢ closing) tag tags h))
      where
        by : (a b : Bool) → bytes_eq (encodes tag) closing ≡ b → after_tags true tags ≡ true → after_tags (cond a true (cond b false true)) tags ≡ true
        by true b f k = k
        by false true f k = absurd (All-head (λ t. t ≢ closing) tag tags h (is_tag tag closing other f))
        by false false f k = k

    opens_at : (was : Bool) (before after : List (List ℕ)) → NoneCloses after → after_tags was (before ++ opening ∷ after) ≡ true
    opens_at was [] after h = grind (arith, is_named, stays_open)
    opens_at was (tag ∷ before) after h = opens_at (after_tag was tag) before after h

    pub last_tag_opens : (tags : List (List ℕ)) (b : Bool) → b ≡ after_tags false tags → IsTrue b ↔ IsLeftOpen opening closing tags
    last_tag_opens tags b e = (
      λ h. elim (opened false tags (sym e ∙ h)) [ inl l ↦ l | inr n ↦ absurd (false≢true n.0) ],
      λ l. e ∙ ap (after_tags false) l.tags_are ∙ opens_at false l.before l.after l.none_closes,
    )
