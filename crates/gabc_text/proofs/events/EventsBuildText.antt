-- What is gathered of the machine's events is what the definitions say of the text.
use Rattle.std.proofs.Common.{◌≡◌, ℕ, ◌+◌, ◌<◌, ◌||◌, ◌&&◌, not, is_some, List, [], ◌∷◌, ◌++◌, Bool, true, false, cond, refl, sym, ap, ◌∙◌, append_assoc, append-nil, length, length-append, map, reverse, take, Option, Some, None, arith, get_or}
use Rattle.std.proofs.lemmas.List.{take_more}
use Rattle.std.proofs.lemmas.Str.{encodes-append}
use lib.Utf8.{encode, encodes}
use Rattle.gabc_places.specs.declared.place.Place.{Place}
use Rattle.gabc_places.specs.declared.place.Char.{Char}
use Rattle.gabc_places.specs.declared.place.Span.{Span}
use Rattle.gabc_places.specs.declared.code.Code.{Code}
use Rattle.gabc_places.specs.declared.code.Finding.{Finding}
use Rattle.gabc_text.specs.declared.token.TokenKind.{TokenKind}
use Rattle.gabc_text.specs.declared.token.TokenKind.TheVariants as kind
use Rattle.gabc_text.specs.declared.token.TagEffect.{TagEffect}
use Rattle.gabc_text.specs.declared.token.TagEffect.TheVariants.{Mark, Other}
use Rattle.gabc_text.specs.declared.view.PieceKind.{PieceKind}
use Rattle.gabc_text.specs.declared.view.PieceKind.TheVariants as piece
use Rattle.gabc_text.specs.declared.view.Piece.{Piece}
use Rattle.gabc_text.specs.TextView.{ViewContent}
use Rattle.gabc_text.specs.declared.text_event.TextPart.{TextPart}
use Rattle.gabc_text.specs.declared.text_event.TextPart.TheVariants as part
use Rattle.gabc_text.specs.declared.text_event.TextEnd.TheVariants as ending
use Rattle.gabc_text.specs.declared.text_event.TextEvent.{TextEvent}
use Rattle.gabc_text.specs.declared.text_event.TextEvent.TheVariants as out
use Rattle.gabc_text.specs.Token.{Token, tokens}
use Rattle.gabc_text.specs.View.{along, effect, kind_of, piece_kind, is_space, has_word, starts_word, follows_blank, has_translation, place_of, found_at, findings_at, findings_at_end, findings, kept, kept_at, early_codes, late_codes, is_blank_piece, count_pieces, begin_of, end_of, centre_by, piece_of}
use Rattle.gabc_text.specs.Events.{events_of, events_at, end_events, token_events, finding_events, chars_at, parts_at, kept_of, piece_at, all_pieces_at, all_pieces_by, waiting_blank, option_list_of, is_whole_translation, translation_at, centre_of, count_by, end_after, after_tokens}
use Rattle.gabc_text.specs.TextRead.{but_last_blank, pieces_in, translation_of, view_in}
use Rattle.gabc_text.specs.BuiltText.{BuiltText, with_event, with_part, with_events, empty_text, kept_in}
use Rattle.gabc_text.proofs.machine.TokensOneAfterAnother.{onto}
use Rattle.gabc_text.proofs.tokens.CountsOfTexts.{codes_kept}

-- the events one after another
pub events_append : (t : BuiltText) (xs ys : List TextEvent) → with_events t (xs ++ ys) ≡ with_events (with_events t xs) ys
events_append t [] ys = refl
events_append t (x ∷ xs) ys = events_append (with_event t x) xs ys

-- one event more of a list
pub events_more : (first now new : BuiltText) (xs : List TextEvent) (i : ℕ) (d : TextEvent) → i < length xs
    → now ≡ with_events first (take i xs) → new ≡ with_event now (get_or xs i d) → new ≡ with_events first (take (i + 1) xs)
events_more first now new xs i d h f g =
    g ∙ ap (λ (t : BuiltText). with_event t (get_or xs i d)) f ∙ sym (events_append first (take i xs) (get_or xs i d ∷ []))
    ∙ ap (with_events first) (sym (take_more xs i d h))

-- ---- of one kind of events

events_findings : (t : BuiltText) (fs : List Finding) → with_events t (map out.Found fs) ≡ record t { findings = t.findings ++ fs }
events_findings t [] = ap (λ (x : List Finding). record t { findings = x }) (sym (append-nil t.findings))
events_findings t (f ∷ fs) = events_findings (with_event t (out.Found f)) fs ∙ ap (λ (x : List Finding). record t { findings = x }) (append_assoc t.findings (f ∷ []) fs)

events_found : (at : Place) (before : List Token) (t : BuiltText) (cs : List Code) → with_events t (finding_events at before cs) ≡ record t { findings = t.findings ++ map (found_at (place_of at before)) cs }
events_found at before t [] = ap (λ (x : List Finding). record t { findings = x }) (sym (append-nil t.findings))
events_found at before t (c ∷ cs) =
    events_found at before (with_event t (out.Found (found_at (place_of at before) c))) cs
    ∙ ap (λ (x : List Finding). record t { findings = x }) (append_assoc t.findings (found_at (place_of at before) c ∷ []) (map (found_at (place_of at before)) cs))

emitted_kept : (t : BuiltText) (cs : List Char) → with_events t (map (λ (c : Char). out.Kept c) cs) ≡ record t { kept = t.kept ++ encodes (map (λ (c : Char). c.c) cs) }
emitted_kept t [] = ap (λ (x : List ℕ). record t { kept = x }) (sym (append-nil t.kept))
emitted_kept t (c ∷ cs) = emitted_kept (with_event t (out.Kept c)) cs ∙ ap (λ (x : List ℕ). record t { kept = x }) (append_assoc t.kept (encode c.c) (encodes (map (λ (d : Char). d.c) cs)))

abbrev parts_after : ViewContent → List TextPart → ViewContent
parts_after v [] = v
parts_after v (p ∷ ps) = parts_after (with_part v p) ps

events_parts : (t : BuiltText) (ps : List TextPart) → with_events t (map (λ (p : TextPart). out.Part p) ps) ≡ record t { view = parts_after t.view ps }
events_parts t [] = refl
events_parts t (p ∷ ps) = events_parts (with_event t (out.Part p)) ps

-- ---- after the tokens before

abbrev pub so_far : {X : Type 0} → (List Token → Token → List X) → List Token → List X
so_far at [] = []
so_far at (k ∷ before) = so_far at before ++ at before k

pub along_onto : {X : Type 0} (at : List Token → Token → List X) (ks before : List Token) → so_far at (onto ks before) ≡ so_far at before ++ along at before ks
along_onto at [] before = sym (append-nil (so_far at before))
along_onto at (k ∷ ks) before = along_onto at ks (k ∷ before) ∙ append_assoc (so_far at before) (at before k) (along at (k ∷ before) ks)

pub kept_so : (before : List Token) → kept_of before ≡ so_far kept_at before
kept_so before = cc

abbrev emitted_by : List Token → Token → Option PieceKind → List Piece → List Piece
emitted_by before k (Some q) was = was ++ (option_list_of (waiting_blank before) ++ piece_at before k q ∷ [])
emitted_by before k None was = was

-- the pieces that were given
abbrev events_pieces : List Token → List Piece
events_pieces [] = []
events_pieces (k ∷ before) = emitted_by before k (kind_of k) (events_pieces before)

abbrev view_at : List Token → ViewContent
view_at before = record { word_start = starts_word before; pieces = events_pieces before; centre = None; translation = translation_of before }

abbrev emitted_at : Place → List Token → BuiltText
emitted_at at before = record { kept = encodes (kept_of before); view = view_at before; findings = so_far (findings_at at) before; end = ending.Finished }

module _ (before : List Token) (k : Token) where
  abbrev parts_here : TokenKind → Option PieceKind → List TextPart
  parts_here d (Some q) = map (λ (r : Piece). part.Piece r) (option_list_of (waiting_blank before)) ++ part.Piece (piece_at before k q) ∷ []
  parts_here d None =
      cond (is_space d && (not (has_word before) && not (starts_word before))) (part.WordStart ∷ [])
      (cond (is_whole_translation d && not (has_translation before)) (part.Translation (translation_at before k) ∷ [])
      [])

  abbrev view_here : TokenKind → Option PieceKind → ViewContent
  view_here d o = record {
    word_start = (is_space d && not (has_word before)) || starts_word before;
    pieces = emitted_by before k o (events_pieces before);
    centre = None;
    translation = cond (is_whole_translation d && not (has_translation before)) (Some (translation_at before k)) (translation_of before);
  }

  with_piece : (p : Piece) (o : Option Piece) → parts_after (view_at before) (map (λ (r : Piece). part.Piece r) (option_list_of o) ++ part.Piece p ∷ [])
      ≡ record { word_start = starts_word before; pieces = events_pieces before ++ (option_list_of o ++ p ∷ []); centre = None; translation = translation_of before }
  with_piece p o = grind (arith, append_assoc)

  parts_give : (d : TokenKind) (s : TagEffect) → parts_after (view_at before) (parts_here d (piece_kind d s)) ≡ view_here d (piece_kind d s)
  parts_give kind.Letter s = with_piece (piece_at before k piece.Char) (waiting_blank before)
  parts_give kind.Raw s = with_piece (piece_at before k piece.Raw) (waiting_blank before)
  parts_give kind.Tag Mark = with_piece (piece_at before k piece.Mark) (waiting_blank before)
  parts_give kind.Tag Other = with_piece (piece_at before k piece.Tag) (waiting_blank before)
  parts_give kind.Tag _ = refl
  parts_give kind.Blank s = grind arith
  parts_give kind.Translation s = grind arith
  parts_give _ s = refl

module _ (at : Place) where
  map_more : (p : Place) (xs ys : List Code) → map (found_at p) (xs ++ ys) ≡ map (found_at p) xs ++ map (found_at p) ys
  map_more p [] ys = refl
  map_more p (x ∷ xs) ys = ap (λ (zs : List Finding). found_at p x ∷ zs) (map_more p xs ys)

  events_token : (before : List Token) (k : Token) → with_events (emitted_at at before) (events_at at before k) ≡ emitted_at at (k ∷ before)
  events_token before k =
      let es = early_codes before k.kind in
      let cs = chars_at at before k in
      let ps = parts_at before k in
      let ls = late_codes before k.kind (effect k) in
      events_append (emitted_at at before) (finding_events at before es) _
      ∙ ap (λ (x : BuiltText). with_events x (map (λ (c : Char). out.Kept c) cs ++ (map (λ (p : TextPart). out.Part p) ps ++ finding_events at before ls))) (events_found at before (emitted_at at before) es)
      ∙ events_append _ (map (λ (c : Char). out.Kept c) cs) _
      ∙ ap (λ (x : BuiltText). with_events x (map (λ (p : TextPart). out.Part p) ps ++ finding_events at before ls)) (emitted_kept _ cs)
      ∙ events_append _ (map (λ (p : TextPart). out.Part p) ps) _
      ∙ ap (λ (x : BuiltText). with_events x (finding_events at before ls)) (events_parts _ ps)
      ∙ events_found at before _ ls
      ∙ (let kt : encodes (kept_of before) ++ encodes (map (λ (c : Char). c.c) cs) ≡ encodes (kept_of (k ∷ before)) = ap (λ (x : List ℕ). encodes (kept_of before) ++ encodes x) (codes_kept at before k) ∙ sym (encodes-append (kept_of before) (kept_at before k)) in
      let fs : (so_far (findings_at at) before ++ map (found_at (place_of at before)) es) ++ map (found_at (place_of at before)) ls ≡ so_far (findings_at at) (k ∷ before) =
      append_assoc (so_far (findings_at at) before) _ _ ∙ ap (λ (x : List Finding). so_far (findings_at at) before ++ x) (sym (map_more (place_of at before) es ls)) in
      let vs : parts_after (view_at before) ps ≡ view_at (k ∷ before) = parts_give before k k.kind (effect k) in
      ap (λ (x : List ℕ). by_events x (parts_after (view_at before) ps) ((so_far (findings_at at) before ++ map (found_at (place_of at before)) es) ++ map (found_at (place_of at before)) ls)) kt
      ∙ ap (λ (x : ViewContent). by_events (encodes (kept_of (k ∷ before))) x ((so_far (findings_at at) before ++ map (found_at (place_of at before)) es) ++ map (found_at (place_of at before)) ls)) vs
      ∙ ap (λ (x : List Finding). by_events (encodes (kept_of (k ∷ before))) (view_at (k ∷ before)) x) fs)
    where
      by_events : List ℕ → ViewContent → List Finding → BuiltText
      by_events x v f = record { kept = x; view = v; findings = f; end = ending.Finished }

  events_along : (ks before : List Token) → with_events (emitted_at at before) (along (events_at at) before ks) ≡ emitted_at at (onto ks before)
  events_along [] before = refl
  events_along (k ∷ ks) before = grind (arith, events_append, events_token, events_along ks (k ∷ before))

-- ---- the pieces

pub piece_is : (k : TokenKind) (s : TagEffect) (q : PieceKind) → piece_kind k s ≡ Some q → is_blank_piece q ≡ false
piece_is k s q e = grind arith

last_drops : (xs : List Piece) (p : Piece) → is_blank_piece p.kind ≡ true → but_last_blank (xs ++ p ∷ []) ≡ xs
last_drops (x ∷ y ∷ xs) p e = ap (λ (ps : List Piece). x ∷ ps) (last_drops (y ∷ xs) p e)
last_drops _ p e = rw e refl

last_stays : (xs : List Piece) (p : Piece) → is_blank_piece p.kind ≡ false → but_last_blank (xs ++ p ∷ []) ≡ xs ++ p ∷ []
last_stays (x ∷ y ∷ xs) p e = ap (λ (ps : List Piece). x ∷ ps) (last_stays (y ∷ xs) p e)
last_stays _ p e = rw e refl

events_stays : (before : List Token) → but_last_blank (events_pieces before) ≡ events_pieces before
events_stays [] = refl
events_stays (k ∷ before) = by (kind_of k) refl (events_stays before)
  where
    by : (o : Option PieceKind) → kind_of k ≡ o → but_last_blank (events_pieces before) ≡ events_pieces before → but_last_blank (emitted_by before k o (events_pieces before)) ≡ emitted_by before k o (events_pieces before)
    by None e ih = ih
    by (Some q) e ih =
        rw (← append_assoc (events_pieces before) (option_list_of (waiting_blank before)) (piece_at before k q ∷ []))
        (last_stays (events_pieces before ++ option_list_of (waiting_blank before)) (piece_at before k q) (piece_is k.kind (effect k) q e))

abbrev waiting_space : List Token → Token → Bool → Option PieceKind → Option Piece → Option Piece
waiting_space before k b (Some q) was = None
waiting_space before k b None was = cond (b && (has_word before && not (follows_blank before))) (Some (piece_at before k piece.Blank)) was

waits_by : (before : List Token) (k : Token) (b : Bool) (o : Option PieceKind) → (b || (not (is_some o) && follows_blank before)) ≡ false
    → (follows_blank before ≡ false → waiting_blank before ≡ None) → waiting_space before k b o (waiting_blank before) ≡ None
waits_by before k b o f ih = grind arith

-- nothing waits where no blank is the last piece
none_waits : (before : List Token) → follows_blank before ≡ false → waiting_blank before ≡ None
none_waits [] e = refl
none_waits (k ∷ before) e = waits_by before k (is_space k.kind) (kind_of k) e (λ f. none_waits before f)

all_so : (before : List Token) → so_far all_pieces_at before ≡ events_pieces before ++ option_list_of (waiting_blank before)
all_so [] = refl
all_so (k ∷ before) = grind (arith, append_assoc, append-nil, none_waits, all_so before)

waits_blank : (before : List Token) (p : Piece) → waiting_blank before ≡ Some p → is_blank_piece p.kind ≡ true
waits_blank [] p e = absurd (cc)
waits_blank (k ∷ before) p e = grind (arith, waits_blank before p)

pieces_emitted : (before : List Token) → but_last_blank (so_far all_pieces_at before) ≡ events_pieces before
pieces_emitted before = grind (arith, all_so, append-nil, events_stays, last_drops, waits_blank)

-- ---- the whole

count_by_kind : (before : List Token) (k : Token) (o : Option PieceKind) → length (so_far all_pieces_at before) ≡ count_pieces before
    → length (so_far all_pieces_at before) + length (all_pieces_by before k o) ≡ count_pieces before + length (piece_of before k o)
count_by_kind before k o ih = grind arith

count_all : (before : List Token) → length (so_far all_pieces_at before) ≡ count_pieces before
count_all [] = refl
count_all (k ∷ before) = length-append (so_far all_pieces_at before) (all_pieces_at before k) ∙ count_by_kind before k (kind_of k) (count_all before)

centre_emitted : (before : List Token) → centre_of before ≡ centre_by (length (events_pieces before)) (begin_of before) (end_of before)
centre_emitted before = ap (λ (n : ℕ). centre_by n (begin_of before) (end_of before)) (by (waiting_blank before) refl)
  where
    by : (o : Option Piece) → waiting_blank before ≡ o → count_by (count_pieces before) o ≡ length (events_pieces before)
    by None e = sym (count_all before) ∙ ap (length {A = Piece}) (all_so before ∙ ap (λ (x : Option Piece). events_pieces before ++ option_list_of x) e ∙ append-nil (events_pieces before))
    by (Some p) e =
        let all : count_pieces before ≡ length (events_pieces before) + 1 = sym (count_all before) ∙ ap (length {A = Piece}) (all_so before ∙ ap (λ (x : Option Piece). events_pieces before ++ option_list_of x) e) ∙ length-append (events_pieces before) (p ∷ []) in
        omega (arith, all)

module _ (at : Place) (t : List ℕ) where
  events_centre : (s : BuiltText) (o : Option Span) → s.view.centre ≡ None → with_events s (map (λ (x : Span). out.Part (part.Centre x)) (option_list_of o)) ≡ record s { view = record s.view { centre = o } }
  events_centre s o e = grind arith

  -- what is emitted of a text at its end
  pub events_whole : with_events empty_text (events_of at t)
      ≡ record { kept = encodes (kept t); view = view_in t; findings = findings at t; end = end_after at (reverse (tokens t)) (after_tokens t) }
  events_whole =
      let bs = onto (tokens t) [] in
      events_append empty_text (along (events_at at) [] (tokens t)) (end_events at (reverse (tokens t)) (after_tokens t))
      ∙ ap (λ (x : BuiltText). with_events x (end_events at bs (after_tokens t))) (events_along at (tokens t) [])
      ∙ events_append (emitted_at at bs) (map out.Found (findings_at_end at bs)) _
      ∙ ap (λ (x : BuiltText). with_events x (map (λ (y : Span). out.Part (part.Centre y)) (option_list_of (centre_of bs)) ++ out.Ended (end_after at bs (after_tokens t)) ∷ [])) (events_findings (emitted_at at bs) (findings_at_end at bs))
      ∙ events_append _ (map (λ (y : Span). out.Part (part.Centre y)) (option_list_of (centre_of bs))) _
      ∙ ap (λ (x : BuiltText). with_events x (out.Ended (end_after at bs (after_tokens t)) ∷ [])) (events_centre _ (centre_of bs) refl)
      ∙ (let kt : kept_of bs ≡ kept t = kept_so bs ∙ along_onto kept_at (tokens t) [] in
      let fs : so_far (findings_at at) bs ≡ along (findings_at at) [] (tokens t) = along_onto (findings_at at) (tokens t) [] in
      let ps : events_pieces bs ≡ pieces_in t = sym (pieces_emitted bs) ∙ ap but_last_blank (along_onto all_pieces_at (tokens t) []) in
      let ce : centre_of bs ≡ centre_by (length (pieces_in t)) (begin_of bs) (end_of bs) = centre_emitted bs ∙ ap (λ (x : List Piece). centre_by (length x) (begin_of bs) (end_of bs)) ps in
      ap (λ (x : List ℕ). by_events (encodes x) (events_pieces bs) (centre_of bs) (so_far (findings_at at) bs)) kt
      ∙ ap (λ (x : List Piece). by_events (encodes (kept t)) x (centre_of bs) (so_far (findings_at at) bs)) ps
      ∙ ap (λ (x : Option Span). by_events (encodes (kept t)) (pieces_in t) x (so_far (findings_at at) bs)) ce
      ∙ ap (λ (x : List Finding). by_events (encodes (kept t)) (pieces_in t) (centre_by (length (pieces_in t)) (begin_of bs) (end_of bs)) x) fs)
    where
      by_events : List ℕ → List Piece → Option Span → List Finding → BuiltText
      by_events x p c f = record {
        kept = x;
        view = record { word_start = starts_word (onto (tokens t) []); pieces = p; centre = c; translation = translation_of (onto (tokens t) []) };
        findings = f ++ findings_at_end at (onto (tokens t) []);
        end = end_after at (onto (tokens t) []) (after_tokens t);
      }

-- ---- the kept characters

pub kept_more : (xs ys : List TextEvent) → kept_in (xs ++ ys) ≡ kept_in xs ++ kept_in ys
kept_more [] ys = refl
kept_more (out.Kept c ∷ xs) ys = ap (λ (x : List ℕ). c.c ∷ x) (kept_more xs ys)
kept_more (_ ∷ xs) ys = kept_more xs ys

pub none_kept : {X : Type 0} (f : X → TextEvent) → ((x : X) → kept_in (f x ∷ []) ≡ []) → (xs : List X) → kept_in (map f xs) ≡ []
none_kept f h [] = refl
none_kept f h (x ∷ xs) = kept_more (f x ∷ []) (map f xs) ∙ ap (λ (y : List ℕ). y ++ kept_in (map f xs)) (h x) ∙ none_kept f h xs

kept_chars : (cs : List Char) → kept_in (map (λ (c : Char). out.Kept c) cs) ≡ map (λ (c : Char). c.c) cs
kept_chars [] = refl
kept_chars (c ∷ cs) = ap (λ (x : List ℕ). c.c ∷ x) (kept_chars cs)

module _ (at : Place) where
  kept_token : (before : List Token) (k : Token) → kept_in (events_at at before k) ≡ kept_at before k
  kept_token before k =
      kept_more (finding_events at before (early_codes before k.kind)) _
      ∙ ap (λ (x : List ℕ). x ++ kept_in (map (λ (c : Char). out.Kept c) (chars_at at before k) ++ token_events at before k)) (none_kept (λ (c : Code). out.Found (found_at (place_of at before) c)) (λ c. refl) (early_codes before k.kind))
      ∙ kept_more (map (λ (c : Char). out.Kept c) (chars_at at before k)) (token_events at before k)
      ∙ ap (λ (x : List ℕ). kept_in (map (λ (c : Char). out.Kept c) (chars_at at before k)) ++ x) quiet
      ∙ append-nil (kept_in (map (λ (c : Char). out.Kept c) (chars_at at before k)))
      ∙ kept_chars (chars_at at before k) ∙ codes_kept at before k
    where
      quiet : kept_in (token_events at before k) ≡ []
      quiet = grind arith

  kept_along : (ks before : List Token) → kept_in (along (events_at at) before ks) ≡ along kept_at before ks
  kept_along [] before = refl
  kept_along (k ∷ ks) before = grind (arith, kept_more, kept_token, kept_along ks (k ∷ before))

  pub kept_whole : (t : List ℕ) → kept_in (events_of at t) ≡ kept t
  kept_whole t = grind (arith, kept_more, append-nil, kept_along, none_kept)
