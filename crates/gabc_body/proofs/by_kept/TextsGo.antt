-- The lists of every text go by what is kept of it.
use Rattle.std.proofs.Common.{◌≡◌, ℕ, zero, suc, ◌&&◌, ◌||◌, ◌==◌, not, Bool, true, false, cond, List, [], ◌∷◌, ◌++◌, map, length, drop, reverse, codes, Option, Some, None, refl, sym, ap, subst, ◌∙◌, append-nil, append_assoc, arith}
use Rattle.std.specs.Prelude.{◌≢◌}
use Rattle.std.specs.List.{list_any}
use Rattle.std.proofs.lemmas.Bool.{and_parts, true≢false}
use Rattle.std.proofs.lemmas.Bool.Decides.{nat_tests}
use Rattle.std.proofs.lemmas.List.{reverse-append}
use Rattle.gabc_places.specs.Fate.{Fate, Keep, Comment, Ends, LeaveOut}
use Rattle.gabc_places.specs.Place.{next_place, place_past, placed_characters_from}
use Rattle.gabc_places.specs.StageLaw.{concat_of}
use Rattle.gabc_places.specs.declared.code.Code.TheVariants.{E2, W4}
use Rattle.gabc_places.specs.declared.code.Finding.{Finding}
use Rattle.gabc_places.specs.declared.place.Char.{Char}
use Rattle.gabc_places.specs.declared.place.Place.{Place}
use Rattle.gabc_text.specs.BuiltText.{BuiltText, with_part, with_event, with_events, empty_text, empty_view, text_built_at, kept_in, found_in, kept_chars_in}
use Rattle.gabc_text.specs.Ends.{ends_in, EndsOnce}
use Rattle.gabc_text.specs.Events.{CountsFit, codes_of, no_events_each, events_of, events_by_point}
use Rattle.gabc_text.specs.KeptText.{view_of_kept, belongs, is_unmatched, fate_in_text, kept_char, kept_by, codes_with}
use Rattle.gabc_text.specs.TextRead.{view_in}
use Rattle.gabc_text.specs.TextView.{ViewContent}
use Rattle.gabc_text.specs.Token.{Token, spelling, tokens, tokens_after, token_at, tag_at, token_of_tag, ended_token, dollar_at, single, before_first, through, ending_of, effect_of, is_blank, is_one_of, is_special, is_text}
use Rattle.gabc_text.specs.View.{is_space, is_cut, is_open_kind, codes_at_end, kept}
use Rattle.gabc_text.specs.declared.text_event.TextEnd.{TextEnd}
use Rattle.gabc_text.specs.declared.text_event.TextEnd.TheVariants as ending
use Rattle.gabc_text.specs.declared.text_event.TextEvent.{TextEvent}
use Rattle.gabc_text.specs.declared.text_event.TextEvent.TheVariants as out
use Rattle.gabc_text.specs.declared.token.TokenKind.{TokenKind}
use Rattle.gabc_text.specs.declared.token.TokenKind.TheVariants as token
use Rattle.gabc_text.specs.declared.token.TagEffect.{TagEffect}
use Rattle.gabc_text.specs.declared.token.TagEffect.TheVariants as effect
use Rattle.gabc_text.specs.witness.EmittedByKept.{Emitted, emitted, nothing, TextState, inner_with, emitted_by, emitted_past, text_begins}
use Rattle.gabc_text.specs.witness.TextByKept.{opens, ends}
use Rattle.gabc_body.specs.Reading.{InText, no_place, found_at, inner_by}
use Rattle.gabc_body.specs.witness.TextsByKept.{is_end, view_past, PiecesStand, Says, SaysEnd, TextGoes, GoesByKept, GoesIn, GoesBy, EndsBy, TextsGoByKept}
use Rattle.gabc_body.proofs.by_kept.PiecesLieInKeptText.{kept_in_append, stand_parts, text_stands}

-- ---- the last token of a kept text

-- a token that is spelled `$` is no blank
abbrev NoBlank : Token → Type 0
NoBlank k = is_text (codes "$") (spelling k) ≡ true → is_space k.kind ≡ false

other_first : (k : Token) → (k.first == 36) ≡ false → NoBlank k
other_first k e h = absurd (true≢false (sym h ∙ ap (λ (b : Bool). b && is_text [] k.more) e))

dollar_no_blank : (t : List ℕ) → NoBlank (dollar_at t)
dollar_no_blank [] h = refl
dollar_no_blank (c ∷ t) h = refl

ended_first : (o : Option (List ℕ)) (k l : TokenKind) (c : ℕ) (before t : List ℕ) → (ended_token k l c before t o).first ≡ c
ended_first (Some more) k l c before t = refl
ended_first None k l c before t = refl

tag_first : (name t : List ℕ) (e : TagEffect) → (token_of_tag name t e).first ≡ 60
tag_first name t (effect.Begins raw) = ended_first (through (ending_of raw) t) token.Raw token.OpenTag 60 name t
tag_first name t (effect.Opens s) = refl
tag_first name t (effect.Closes s) = refl
tag_first name t effect.Mark = refl
tag_first name t effect.Other = refl

tag_at_first : (t : List ℕ) (o : Option (List ℕ)) → (tag_at t o).first ≡ 60
tag_at_first t None = refl
tag_at_first t (Some name) = tag_first name (drop (length name) t) (effect_of (60 ∷ name))

pub token_no_blank : (c : ℕ) (t : List ℕ) → NoBlank (token_at c t)
token_no_blank c t = by (c == 36) (c == 37) (c == 60) (c == 91) refl
  where
    by : (dollar percent angle square : Bool) → (c == 36) ≡ dollar
        → NoBlank (cond dollar (dollar_at t) (cond percent (record { kind = token.Comment; first = 37; more = before_first 10 t }) (cond angle (tag_at t (through (codes ">") t)) (cond square (ended_token token.Translation token.OpenTranslation 91 [] t (through (codes "]") t)) (record { kind = single c; first = c; more = [] })))))
    by true percent angle square e = dollar_no_blank t
    by false true angle square e = other_first (record { kind = token.Comment; first = 37; more = before_first 10 t }) refl
    by false false true square e = other_first (tag_at t (through (codes ">") t)) (ap (λ (n : ℕ). n == 36) (tag_at_first t (through (codes ">") t)))
    by false false false true e = other_first (ended_token token.Translation token.OpenTranslation 91 [] t (through (codes "]") t)) (ap (λ (n : ℕ). n == 36) (ended_first (through (codes "]") t) token.Translation token.OpenTranslation 91 [] t))
    by false false false false e = other_first (record { kind = single c; first = c; more = [] }) e

abbrev FirstNoBlank : List Token → Type 0
FirstNoBlank [] = Unit {0}
FirstNoBlank (k ∷ ks) = NoBlank k

first_push : (ks : List Token) (k : Token) → FirstNoBlank ks → NoBlank k → FirstNoBlank (ks ++ k ∷ [])
first_push [] k h i = i
first_push (l ∷ ks) k h i = h

last_no_blank : (t : List ℕ) (n : ℕ) → FirstNoBlank (reverse (tokens_after n t))
last_no_blank [] n = tt
last_no_blank (c ∷ t) (suc n) = last_no_blank t n
last_no_blank (c ∷ t) zero = by (c == 40) (last_no_blank t (length (token_at c t).more))
  where
    by : (b : Bool) → FirstNoBlank (reverse (tokens_after (length (token_at c t).more) t)) → FirstNoBlank (reverse (cond b [] (token_at c t ∷ tokens_after (length (token_at c t).more) t)))
    by true h = tt
    by false h = subst FirstNoBlank (sym (reverse-append (token_at c t ∷ []) (tokens_after (length (token_at c t).more) t)))
        (first_push (reverse (tokens_after (length (token_at c t).more) t)) (token_at c t) h (token_no_blank c t))

-- ---- after a character that is not kept nothing is open

abbrev passes : Fate → Bool
passes Keep = false
passes Ends = false
passes fate = true

-- a character that begins a comment or is left out is special, but for a blank after a blank
special_passes : (c : ℕ) (o a u l : Bool) → a ≡ is_one_of (codes ")]>") c → (u ≡ true → ((c == 123) || (c == 125)) ≡ true) → is_special c ≡ false
    → passes (cond o Keep (cond (c == 40) Ends (cond (c == 37) Comment (cond a (LeaveOut (Some E2)) (cond u (LeaveOut (Some W4)) (cond l (LeaveOut None) Keep)))))) ≡ true → l ≡ true
special_passes c o a u l e f n h = grind (arith, nat_tests)

unmatched_brace : (before : List Token) (c : ℕ) → is_unmatched before c ≡ true → ((c == 123) || (c == 125)) ≡ true
unmatched_brace before c h = by (c == 123) (c == 125) _ _ h
  where
    by : (a b x y : Bool) → ((a && x) || (b && y)) ≡ true → (a || b) ≡ true
    by true b x y e = refl
    by false true x y e = refl
    by false false x y e = e

-- if it is not kept and does not end the text, it is part of no token, and nothing else would be
closed : (before : List Token) (c d : ℕ) → FirstNoBlank before → passes (fate_in_text before c) ≡ true → belongs before d ≡ false
closed [] c d f h = refl
closed (k ∷ before) c d f h = by (is_open_kind k.kind) (is_text (codes "$") (spelling k)) (is_special c) refl refl h
  where
    by : (o l s : Bool) → is_text (codes "$") (spelling k) ≡ l → is_special c ≡ s
        → passes (cond (o || (l && s)) Keep (cond (c == 40) Ends (cond (c == 37) Comment (cond (is_one_of (codes ")]>") c) (LeaveOut (Some E2)) (cond (is_unmatched (k ∷ before) c) (LeaveOut (Some W4)) (cond (is_blank c && is_space k.kind) (LeaveOut None) Keep)))))) ≡ true
        → (o || (l && is_special d)) ≡ false
    by true l s e n g = absurd (true≢false (sym g))
    by false false s e n g = refl
    by false true true e n g = absurd (true≢false (sym g))
    by false true false e n g =
        let blank = special_passes c false (is_one_of (codes ")]>") c) (is_unmatched (k ∷ before) c) (is_blank c && is_space k.kind) refl (unmatched_brace (k ∷ before) c) n g in
        absurd (true≢false (sym (and_parts (is_blank c) (is_space k.kind) blank).1 ∙ f e))

-- ---- lists of events

view_append : (view : ViewContent) (xs ys : List TextEvent) → view_past view (xs ++ ys) ≡ view_past (view_past view xs) ys
view_append view [] ys = refl
view_append view (out.Part p ∷ xs) ys = view_append (with_part view p) xs ys
view_append view (out.Kept c ∷ xs) ys = view_append view xs ys
view_append view (out.Found f ∷ xs) ys = view_append view xs ys
view_append view (out.Ended how ∷ xs) ys = view_append view xs ys

view_built : (b : BuiltText) (os : List TextEvent) → (with_events b os).view ≡ view_past b.view os
view_built b [] = refl
view_built b (o ∷ os) = view_built (with_event b o) os ∙ by o
  where
    by : (o : TextEvent) → view_past (with_event b o).view os ≡ view_past b.view (o ∷ os)
    by (out.Kept c) = refl
    by (out.Part p) = refl
    by (out.Found f) = refl
    by (out.Ended how) = refl

kept_codes : (os : List TextEvent) → kept_in os ≡ codes_of (kept_chars_in os)
kept_codes [] = refl
kept_codes (out.Kept c ∷ os) = ap (λ (t : List ℕ). c.c ∷ t) (kept_codes os)
kept_codes (out.Part p ∷ os) = kept_codes os
kept_codes (out.Found f ∷ os) = kept_codes os
kept_codes (out.Ended how ∷ os) = kept_codes os

none_end : (os : List TextEvent) → ends_in os ≡ [] → list_any is_end os ≡ false
none_end [] h = refl
none_end (out.Ended how ∷ os) h = absurd (cc)
none_end (out.Kept c ∷ os) h = none_end os h
none_end (out.Part p ∷ os) h = none_end os h
none_end (out.Found f ∷ os) h = none_end os h

ends_append : (xs ys : List TextEvent) → ends_in (xs ++ ys) ≡ ends_in xs ++ ends_in ys
ends_append [] ys = refl
ends_append (out.Ended how ∷ xs) ys = ap (λ (hs : List TextEnd). how ∷ hs) (ends_append xs ys)
ends_append (out.Kept c ∷ xs) ys = ends_append xs ys
ends_append (out.Part p ∷ xs) ys = ends_append xs ys
ends_append (out.Found f ∷ xs) ys = ends_append xs ys

chars_append : (xs ys : List TextEvent) → kept_chars_in (xs ++ ys) ≡ kept_chars_in xs ++ kept_chars_in ys
chars_append [] ys = refl
chars_append (out.Kept c ∷ xs) ys = ap (λ (cs : List Char). c ∷ cs) (chars_append xs ys)
chars_append (out.Ended how ∷ xs) ys = chars_append xs ys
chars_append (out.Part p ∷ xs) ys = chars_append xs ys
chars_append (out.Found f ∷ xs) ys = chars_append xs ys

found_append : (xs ys : List TextEvent) → found_in (xs ++ ys) ≡ found_in xs ++ found_in ys
found_append [] ys = refl
found_append (out.Found f ∷ xs) ys = ap (λ (fs : List Finding). f ∷ fs) (found_append xs ys)
found_append (out.Kept c ∷ xs) ys = found_append xs ys
found_append (out.Ended how ∷ xs) ys = found_append xs ys
found_append (out.Part p ∷ xs) ys = found_append xs ys

-- an end is the last of its list, and nothing comes after it
record EndsLast (now : List TextEvent) (later : List (List TextEvent)) : Type 0 where
  front : List TextEvent
  how : TextEnd
  is : now ≡ front ++ out.Ended how ∷ []
  none : ends_in front ≡ []
  silent : concat_of later ≡ []

abbrev Quiet : List (List TextEvent) → Type 0
Quiet [] = Unit {0}
Quiet (now ∷ later) = (ends_in now ≢ [] → EndsLast now later) × Quiet later

silent_each : (t : List ℕ) → concat_of (no_events_each t) ≡ []
silent_each [] = refl
silent_each (c ∷ t) = silent_each t

quiet_each : (t : List ℕ) → Quiet (no_events_each t)
quiet_each [] = tt
quiet_each (c ∷ t) = (λ h. absurd (h refl), quiet_each t)

quiet_so : (before : List (List TextEvent)) (last : List TextEvent) (how : TextEnd) (rest : List ℕ) → ends_in (concat_of before) ≡ [] → ends_in last ≡ [] → Quiet (before ++ (last ++ out.Ended how ∷ []) ∷ no_events_each rest)
quiet_so [] last how rest h l = (λ n. record { front = last; how = how; is = refl; none = l; silent = silent_each rest }, quiet_each rest)
quiet_so (now ∷ before) last how rest h l =
    let parts = split (ends_in now) (ends_in (concat_of before)) (sym (ends_append now (concat_of before)) ∙ h) in
    (λ n. absurd (n parts.0), quiet_so before last how rest parts.1 l)
  where
    split : (xs ys : List TextEnd) → xs ++ ys ≡ [] → (xs ≡ []) × (ys ≡ [])
    split [] ys e = (refl, e)
    split (x ∷ xs) ys e = absurd (cc)

-- ---- the walk

-- in this state of what is emitted, where `inner` is the place of what is open by the reading
record Walk (s : TextState) (here : Place) (t : List ℕ) (inner : Place) (view : ViewContent) (lists : List (List TextEvent)) : Type 0 where
  emits : map emitted lists ≡ emitted_past s here t
  stand : PiecesStand s.kept (concat_of lists)
  view_is : view_past view (concat_of lists) ≡ view_of_kept (s.kept ++ kept_in (concat_of lists))
  quiet : Quiet lists
  agree : (d : ℕ) → belongs (reverse (tokens s.kept)) d ≡ true → s.inner ≡ inner

-- a list that ends nothing
says_so : (s : TextState) (now later : List TextEvent) (cs : List Char) (fs : List Finding) → PiecesStand s.kept (now ++ later) → emitted now ≡ record { kept = cs; found = fs; ends = [] } → Says s.kept (codes_of cs) fs now
says_so s now later cs fs h e = record {
  goes_on = none_end now (ap (λ (m : Emitted). m.ends) e);
  keeps = kept_codes now ∙ ap (λ (m : Emitted). codes_of m.kept) e;
  finds = ap (λ (m : Emitted). m.found) e;
  stand = (stand_parts s.kept now later h).0;
}

-- and the lists after it
walk_on : (s z : TextState) (here next : Place) (t u : List ℕ) (inner then : Place) (view : ViewContent) (now : List TextEvent) (later : List (List TextEvent)) (cs : List Char) (fs : List Finding)
    → Walk s here t inner view (now ∷ later) → emitted now ≡ record { kept = cs; found = fs; ends = [] } → map emitted later ≡ emitted_past z next u → s.kept ++ codes_of cs ≡ z.kept
    → ((d : ℕ) → belongs (reverse (tokens z.kept)) d ≡ true → z.inner ≡ then) → Walk z next u then (view_past view now) later
walk_on s z here next t u inner then view now later cs fs w e es k agree = record {
  emits = es;
  stand = subst (λ (v : List ℕ). PiecesStand v (concat_of later)) kept_is (stand_parts s.kept now (concat_of later) w.stand).1;
  view_is = sym (view_append view now (concat_of later)) ∙ w.view_is
      ∙ ap (λ (v : List ℕ). view_of_kept (s.kept ++ v)) (kept_in_append now (concat_of later))
      ∙ ap view_of_kept (sym (append_assoc s.kept (kept_in now) (kept_in (concat_of later))) ∙ ap (λ (v : List ℕ). v ++ kept_in (concat_of later)) kept_is);
  quiet = w.quiet.1;
  agree = agree;
}
  where
    kept_is : s.kept ++ kept_in now ≡ z.kept
    kept_is = ap (λ (v : List ℕ). s.kept ++ v) (kept_codes now ∙ ap (λ (m : Emitted). codes_of m.kept) e) ∙ k

-- a list that ends the text
ends_so : (s : TextState) (here : Place) (t : List ℕ) (inner : Place) (view : ViewContent) (now : List TextEvent) (later : List (List TextEvent)) (fs : List Finding) (how : TextEnd)
    → Walk s here t inner view (now ∷ later) → emitted now ≡ record { kept = []; found = fs; ends = how ∷ [] } → SaysEnd s.kept fs how view now
ends_so s here t inner view now later fs how w e = record {
  front = q.front;
  ends = q.is ∙ ap (λ (h : TextEnd). q.front ++ out.Ended h ∷ []) how_is;
  says = record {
    goes_on = none_end q.front q.none;
    keeps = kept_codes q.front ∙ ap codes_of none_kept;
    finds = sym (append-nil (found_in q.front)) ∙ sym (found_append q.front (out.Ended q.how ∷ [])) ∙ ap found_in (sym q.is) ∙ ap (λ (m : Emitted). m.found) e;
    stand = (stand_parts s.kept q.front (out.Ended q.how ∷ []) (subst (PiecesStand s.kept) q.is (stand_parts s.kept now (concat_of later) w.stand).0)).0;
  };
  view_is = sym (view_append view q.front (out.Ended q.how ∷ [])) ∙ ap (view_past view) (sym q.is ∙ sym (append-nil now) ∙ ap (λ (os : List TextEvent). now ++ os) (sym q.silent)) ∙ w.view_is
      ∙ ap (λ (os : List TextEvent). view_of_kept (s.kept ++ kept_in (now ++ os))) q.silent
      ∙ ap (λ (v : List ℕ). view_of_kept (s.kept ++ v)) (ap kept_in (append-nil now) ∙ kept_codes now ∙ ap (λ (m : Emitted). codes_of m.kept) e)
      ∙ ap view_of_kept (append-nil s.kept);
}
  where
    some : ends_in now ≢ []
    some = λ n. absurd (let f : how ∷ [] ≡ [] = sym (ap (λ (m : Emitted). m.ends) e) ∙ n in cc)

    q : EndsLast now later
    q = w.quiet.0 some

    how_is : q.how ≡ how
    how_is = first (sym (ap (λ (hs : List TextEnd). hs ++ q.how ∷ []) q.none) ∙ sym (ends_append q.front (out.Ended q.how ∷ [])) ∙ ap ends_in (sym q.is) ∙ ap (λ (m : Emitted). m.ends) e)
      where
        first : q.how ∷ [] ≡ how ∷ [] → q.how ≡ how
        first f = cc

    none_kept : kept_chars_in q.front ≡ []
    none_kept = sym (append-nil (kept_chars_in q.front)) ∙ sym (chars_append q.front (out.Ended q.how ∷ [])) ∙ ap kept_chars_in (sym q.is) ∙ ap (λ (m : Emitted). m.kept) e

-- ---- one character after the other

abbrev first_of : List Emitted → Emitted
first_of [] = nothing
first_of (e ∷ es) = e

abbrev rest_of : List Emitted → List Emitted
rest_of [] = []
rest_of (e ∷ es) = es

module _ (s : TextState) (here : Place) (c : ℕ) (t : List ℕ) (inner : Place) (view : ViewContent) (now : List TextEvent) (later : List (List TextEvent)) (w : Walk s here (c ∷ t) inner view (now ∷ later))
    (goes : (z : TextState) (then : Place) → Walk z (next_place here c) t then (view_past view now) later → GoesByKept (place_past (next_place here c) t) (placed_characters_from (next_place here c) t) z.kept then z.comment (view_past view now) later) where
  abbrev x : Char
  x = record { c = c; place = here }

  abbrev before : List Token
  before = reverse (tokens s.kept)

  abbrev on : TextGoes
  on = GoesByKept (place_past (next_place here c) t) (placed_characters_from (next_place here c) t)

  -- the state after it, by its fate
  abbrev state : Fate → TextState
  state fate = record { kept = s.kept ++ kept_by fate (kept_char before c); comment = opens fate; inner = inner_with s x }

  inner_same : inner_with s x ≡ inner_by InText s.kept inner x
  inner_same = by (belongs before c) refl
    where
      by : (o : Bool) → belongs before c ≡ o → cond o s.inner here ≡ cond o inner here
      by true e = w.agree c e
      by false e = refl

  kept_fate : emitted now ≡ emitted_by Keep s x → map emitted later ≡ emitted_past (state Keep) (next_place here c) t → GoesBy on Keep x s.kept inner view (now ∷ later)
  kept_fate e es =
      let d = kept_char before c in
      let fs = found_at (codes_with (reverse (tokens (s.kept ++ d ∷ [])))) (inner_with s x) in
      let v = subst (λ (q : Place). Says s.kept (d ∷ []) (found_at (codes_with (reverse (tokens (s.kept ++ d ∷ [])))) q) now) inner_same (says_so s now (concat_of later) (record { c = d; place = here } ∷ []) fs w.stand e) in
      (v, goes (state Keep) (inner_by InText s.kept inner x) (walk_on s (state Keep) here (next_place here c) (c ∷ t) t inner (inner_by InText s.kept inner x) view now later (record { c = d; place = here } ∷ []) fs w e es refl (λ d h. inner_same)))

  -- one that is not kept
  passed : (fate : Fate) (fs : List Finding) → passes (fate_in_text before c) ≡ true → state fate ≡ record { kept = s.kept ++ []; comment = opens fate; inner = inner_with s x }
      → emitted now ≡ record { kept = []; found = fs; ends = [] } → map emitted later ≡ emitted_past (record { kept = s.kept ++ []; comment = opens fate; inner = inner_with s x }) (next_place here c) t
      → Says s.kept [] fs now × on (s.kept ++ []) inner (opens fate) (view_past view now) later
  passed fate fs p k e es = (
    says_so s now (concat_of later) [] fs w.stand e,
    goes (record { kept = s.kept ++ []; comment = opens fate; inner = inner_with s x }) inner
        (walk_on s (record { kept = s.kept ++ []; comment = opens fate; inner = inner_with s x }) here (next_place here c) (c ∷ t) t inner inner view now later [] fs w e es refl
        (λ d h. absurd (true≢false (sym h ∙ ap (λ (u : List ℕ). belongs (reverse (tokens u)) d) (append-nil s.kept) ∙ closed before c d (last_no_blank s.kept 0) p)))),
  )

  by_fate : (fate : Fate) → fate_in_text before c ≡ fate → emitted now ≡ emitted_by fate s x → map emitted later ≡ cond (ends fate) (map (λ _. nothing) (c ∷ t)) (emitted_past (state fate) (next_place here c) t)
      → GoesBy on fate x s.kept inner view (now ∷ later)
  by_fate Keep f e es = kept_fate e es
  by_fate Comment f e es = passed Comment [] (ap passes f) refl e es
  by_fate (LeaveOut None) f e es = passed (LeaveOut None) [] (ap passes f) refl e es
  by_fate (LeaveOut (Some code)) f e es = passed (LeaveOut (Some code)) (found_at (code ∷ []) here) (ap passes f) refl e es
  by_fate Ends f e es = ends_so s here (c ∷ t) inner view now later (found_at (codes_at_end before) here) ending.Notes w e

  goes_in : (o : Bool) → (s.comment && not (c == 10)) ≡ o
      → emitted now ∷ map emitted later ≡ cond o (nothing ∷ emitted_past s (next_place here c) t) (emitted_by (fate_in_text before c) s x ∷ cond (ends (fate_in_text before c)) (map (λ _. nothing) (c ∷ t)) (emitted_past (state (fate_in_text before c)) (next_place here c) t))
      → GoesIn o on x s.kept inner view (now ∷ later)
  goes_in true e h = (
    says_so s now (concat_of later) [] [] w.stand (ap first_of h),
    subst (λ (u : List ℕ). on u inner true (view_past view now) later) (sym (append-nil s.kept))
        (subst (λ (o : Bool). on s.kept inner o (view_past view now) later) (and_parts s.comment (not (c == 10)) e).0
        (goes s inner (walk_on s s here (next_place here c) (c ∷ t) t inner inner view now later [] [] w (ap first_of h) (ap rest_of h) (append-nil s.kept) w.agree))),
  )
  goes_in false e h = by_fate (fate_in_text before c) refl (ap first_of h) (ap rest_of h)

  goes_here : GoesByKept (place_past here (c ∷ t)) (placed_characters_from here (c ∷ t)) s.kept inner s.comment view (now ∷ later)
  goes_here = goes_in (s.comment && not (c == 10)) refl w.emits

-- ---- the end

at_end : (s : TextState) (here inner : Place) (view : ViewContent) (now : List TextEvent) (later : List (List TextEvent)) → Walk s here [] inner view (now ∷ later) → EndsBy (is_cut (reverse (tokens s.kept))) here s.kept inner view now
at_end s here inner view now later w = by (is_cut (reverse (tokens s.kept))) refl (ap first_of w.emits)
  where
    open_belongs : (ks : List Token) → is_cut ks ≡ true → belongs ks 97 ≡ true
    open_belongs [] h = absurd (true≢false (sym h))
    open_belongs (k ∷ ks) h = ap (λ (o : Bool). o || (is_text (codes "$") (spelling k) && is_special 97)) h

    by : (o : Bool) → is_cut (reverse (tokens s.kept)) ≡ o
        → emitted now ≡ record { kept = []; found = cond o [] (found_at (codes_at_end (reverse (tokens s.kept))) here); ends = cond o (ending.Cut s.inner) ending.Finished ∷ [] }
        → EndsBy o here s.kept inner view now
    by true c e = subst (λ (q : Place). SaysEnd s.kept [] (ending.Cut q) view now) (w.agree 97 (open_belongs (reverse (tokens s.kept)) c)) (ends_so s here [] inner view now later [] (ending.Cut s.inner) w e)
    by false c e = ends_so s here [] inner view now later (found_at (codes_at_end (reverse (tokens s.kept))) here) ending.Finished w e

some : (o : Bool) (d e : Emitted) (ds es : List Emitted) → [] ≡ cond o (d ∷ ds) (e ∷ es) → ⊥
some true d e ds es h = cc
some false d e ds es h = cc

walks : (t : List ℕ) (s : TextState) (here inner : Place) (view : ViewContent) (lists : List (List TextEvent)) → Walk s here t inner view lists → GoesByKept (place_past here t) (placed_characters_from here t) s.kept inner s.comment view lists
walks [] s here inner view [] w = absurd (let h = w.emits in cc)
walks [] s here inner view (now ∷ later) w = at_end s here inner view now later w
walks (c ∷ t) s here inner view [] w = absurd (some (s.comment && not (c == 10)) nothing _ (emitted_past s (next_place here c) t) _ w.emits)
walks (c ∷ t) s here inner view (now ∷ later) w = goes_here s here c t inner view now later w (λ z then v. walks t z (next_place here c) then (view_past view now) later v)

-- Every text goes so, by the laws on texts.
pub texts_go : ((at : Place) (t : List ℕ) → CountsFit at t → map emitted (events_by_point at t) ≡ emitted_past text_begins at t)
    → ((t : List ℕ) → view_of_kept (kept t) ≡ view_in t)
    → ((at : Place) (t : List ℕ) → with_events empty_text (concat_of (events_by_point at t)) ≡ text_built_at at t)
    → ((at : Place) (t : List ℕ) → kept_in (concat_of (events_by_point at t)) ≡ kept t)
    → ((at : Place) (t : List ℕ) → concat_of (events_by_point at t) ≡ events_of at t)
    → ((at : Place) (t : List ℕ) → EndsOnce at t)
    → TextsGoByKept
texts_go so says builds keeps joined once at t fits = walks t text_begins at no_place empty_view (events_by_point at t) (record {
  emits = so at t fits;
  stand = subst (PiecesStand []) (sym (joined at t)) (text_stands at t);
  view_is = sym (view_built empty_text (concat_of (events_by_point at t))) ∙ ap (λ (b : BuiltText). b.view) (builds at t) ∙ sym (says t) ∙ ap view_of_kept (sym (keeps at t));
  quiet = let o = once at t in subst Quiet (sym o.events_are) (quiet_so o.before o.last o.how o.rest o.none_before o.none_in_last);
  agree = λ d h. refl;
})
