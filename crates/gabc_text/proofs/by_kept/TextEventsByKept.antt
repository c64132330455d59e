-- What is emitted of a whole text, but for the parts of its view, is so by what is kept of it.
use Rattle.std.proofs.Common.{arith, ◌≡◌, ◌==◌, ◌&&◌, not, ℕ, ◌+◌, ◌<◌, ◌^◌, List, [], ◌∷◌, ◌++◌, length, Bool, true, false, cond, Option, Some, None, map, refl, sym, ap, ◌∙◌, subst, append-nil}
use Rattle.std.specs.Prelude.{reverse}
use Rattle.gabc_places.specs.Fate.{Fate, Ends as EndsText}
use Rattle.gabc_places.specs.Place.{next_place, saturating_next_place}
use Rattle.gabc_places.specs.declared.code.Code.{Code}
use Rattle.gabc_places.specs.declared.place.Char.{Char}
use Rattle.gabc_places.specs.declared.place.Place.{Place}
use Rattle.gabc_text.specs.declared.text_facts.TextFacts.{TextFacts}
use Rattle.gabc_text.specs.declared.token.TokenKind.{TokenKind}
use Rattle.gabc_text.specs.declared.token.TokenKind.TheVariants as kind
use Rattle.gabc_text.specs.declared.token.TagEffect.TheVariants.{Other}
use Rattle.gabc_text.specs.declared.token_state.TokenState.{TokenState}
use Rattle.gabc_text.specs.declared.token_state.TokenState.TheVariants.{Plain, Dollar, Comment, Tag, Raw, Translation}
use Rattle.gabc_text.specs.declared.token_state.Step.{Step}
use Rattle.gabc_text.specs.declared.token_state.Step.TheVariants.{Stays, Ends}
use Rattle.gabc_text.specs.declared.stage.TextStage.{TextStage}
use Rattle.gabc_text.specs.declared.text_event.TextEnd.TheVariants as text_ending
use Rattle.gabc_text.specs.declared.text_event.TextEvent.{TextEvent}
use Rattle.gabc_text.specs.Token.{Token, tokens}
use Rattle.gabc_text.specs.View.{kept, found_at, is_cut, codes_at_end}
use Rattle.gabc_text.specs.Events.{CountsFit, events_by_point, no_events_each}
use Rattle.gabc_text.specs.KeptText.{belongs, fate_in_text, kept_after}
use Rattle.gabc_text.specs.TextStage.{fresh_stage}
use Rattle.gabc_text.specs.witness.EmittedByKept.{Emitted, emitted, nothing, TextState, emitted_by, state_with, emitted_at_end, emitted_past, text_begins}
use Rattle.gabc_text.specs.witness.EventsLeft.{codes_last}
use Rattle.gabc_text.specs.witness.TextByKept.{opens, ends}
use Rattle.gabc_text.specs.machine.Resuming.{outside}
use Rattle.gabc_text.specs.machine.StageReports.{is_comment, comment_in}
use Rattle.gabc_text.specs.machine.TextFacts.{facts_after}
use Rattle.gabc_text.specs.machine.TextStage.{settle_stage, settle_stage_by, read_stage, stage_past_char, stage_after_step, push_stage, events_of_push, events_of_finish, events_of_finish_by}
use Rattle.gabc_text.specs.machine.TokenState.{settled_kind, next_step, kind_at_end, is_plain}
use Rattle.gabc_text.proofs.by_kept.EmittedByStages.{codes_here, char_there, kept_found, found_end, finish_by, emitted_push, emitted_last, emitted_finish_by}
use Rattle.gabc_text.proofs.by_kept.EventsAreByKept.{state_at, passed_by, place_is, emitted_is}
use Rattle.gabc_text.proofs.by_kept.FatesInText.{open_by, ends_are}
use Rattle.gabc_text.proofs.by_kept.FatesOfStages.{belongs_by, notes_end, tokens_are}
use Rattle.gabc_text.proofs.by_kept.KeptByFates.{HasRead, read_none, read_more, last, fate_now, ends_now, opens_now, is_passed, passed_none, passed_stays, going_kept, going_comment, going_on, after_now, and_both}
use Rattle.gabc_text.proofs.by_kept.StageAfterText.{Stands, kept_one_more, token_facts, goes_so, pushed}
use Rattle.gabc_text.proofs.machine.EventsStepByStep.{stepwise}
use Rattle.gabc_text.proofs.machine.FactsOfTokens.{facts_of}
use Rattle.gabc_text.proofs.machine.FreshStageEmitsEventsByPoint.{fresh_stepwise}
use Rattle.gabc_text.proofs.machine.KeptOfOpenToken.{is_within}
use Rattle.gabc_text.proofs.machine.TokenStateByCharacter.{ends as token_ends, EndsAs}
use Rattle.gabc_text.proofs.machine.TokensOneAfterAnother.{onto, rest_done, end_other}
use Rattle.gabc_text.proofs.resuming.EndsAndKept.{EndsAt, ended_at}
use Rattle.gabc_text.proofs.resuming.WhatStagesTell.{settled_next, next_goes}
use Rattle.gabc_text.proofs.tokens.CountsOfTexts.{later_is, place_small}

-- ---- at the end

codes_last_are : (f : TextFacts) (b : List Token) → f ≡ facts_of b → codes_last f ≡ codes_at_end b
codes_last_are f b e = ap codes_last e ∙ by
  where
    by : codes_last (facts_of b) ≡ codes_at_end b
    by = grind (arith, open_by)

-- what was seen at the end of the text
abbrev facts_at_end : TextFacts → Option TokenKind → TextFacts
facts_at_end f None = f
facts_at_end f (Some k) = facts_after f k Other

codes_end : (s : TextStage) (p : List ℕ) → Stands s p → codes_last (facts_at_end s.facts (kind_at_end s.state)) ≡ codes_at_end (reverse (tokens (kept p)))
codes_end s p h = by (kind_at_end s.state) refl (token_ends s.state h.held h.holds) ∙ ap codes_at_end (sym (tokens_are s p h)) ∙ sym (ends_are p)
  where
    by : (o : Option TokenKind) → kind_at_end s.state ≡ o → EndsAs o h.held → codes_last (facts_at_end s.facts o) ≡ codes_at_end (onto (tokens h.held) h.before)
    by None e g = codes_last_are s.facts h.before h.facts ∙ ap (λ (ks : List Token). codes_at_end (onto ks h.before)) (sym g)
    by (Some k) e g =
        codes_last_are (facts_after s.facts k Other) (g.0 ∷ h.before) (token_facts h.before s.facts k Other g.0 h.facts g.1 (end_other s.state g.0 k e g.1))
        ∙ ap (λ (ks : List Token). codes_at_end (onto ks h.before)) (sym g.3)

cut_by : (b : List Token) → is_cut b ≡ belongs b 97
cut_by b = grind arith

abbrev end_by_cut : Bool → List Code → Place → Place → Emitted
end_by_cut cut cs i here = record { kept = []; found = cond cut [] (map (found_at here) cs); ends = cond cut (text_ending.Cut i) text_ending.Finished ∷ [] }

finish_is : (s : TextStage) (p : List ℕ) (i : Place) → HasRead s p → (is_within s.state ≡ true → s.progress.place ≡ i) → emitted (events_of_finish s) ≡ emitted_at_end (state_at s p i) s.progress.next
finish_is s p i h inner =
    ap (λ (b : Bool). emitted (cond b [] (events_of_finish_by s (kind_at_end s.state)))) h.stands.going
    ∙ emitted_finish_by s (kind_at_end s.state)
    ∙ by s.state refl
    ∙ ap (λ (b : Bool). end_by_cut b (codes_at_end (reverse (tokens (kept p)))) i s.progress.next) (sym (cut_by (reverse (tokens (kept p))) ∙ (fate_now s p 97 h).part))
  where
    whole : (m : TokenState) → s.state ≡ m → codes_last (facts_at_end s.facts (kind_at_end m)) ≡ codes_at_end (reverse (tokens (kept p)))
    whole m e = ap (λ (x : TokenState). codes_last (facts_at_end s.facts (kind_at_end x))) (sym e) ∙ codes_end s p h.stands

    closed : (cs : List Code) → cs ≡ codes_at_end (reverse (tokens (kept p))) → found_end (map (found_at s.progress.next) cs) text_ending.Finished ≡ end_by_cut false (codes_at_end (reverse (tokens (kept p)))) i s.progress.next
    closed cs e = ap (λ (x : List Code). found_end (map (found_at s.progress.next) x) text_ending.Finished) e

    opened : s.progress.place ≡ i → found_end [] (text_ending.Cut s.progress.place) ≡ end_by_cut true (codes_at_end (reverse (tokens (kept p)))) i s.progress.next
    opened e = ap (λ (x : Place). found_end [] (text_ending.Cut x)) e

    by : (m : TokenState) → s.state ≡ m → finish_by s (kind_at_end m) ≡ end_by_cut (belongs_by (outside m) 97) (codes_at_end (reverse (tokens (kept p)))) i s.progress.next
    by Plain e = closed (codes_last s.facts) (whole Plain e)
    by Dollar e = closed (codes_last (facts_after s.facts kind.Letter Other)) (whole Dollar e)
    by Comment e = closed (codes_last (facts_after s.facts kind.Comment Other)) (whole Comment e)
    by (Tag name) e = opened (inner (ap is_within e))
    by (Raw raw n) e = opened (inner (ap is_within e))
    by Translation e = opened (inner (ap is_within e))

-- ---- with the `(` that ends the text

is_end : (F : Fate) → ends F ≡ true → F ≡ EndsText
is_end F e = grind arith

module _ (s : TextStage) (p : List ℕ) (c : ℕ) (h : HasRead s p) (over : (push_stage s c).ended ≡ true) where
  at : EndsAt s c
  at = ended_at s c h.stands.going over

  plain : is_plain s.state ≡ true
  plain = sym (notes_end s h.stands.going) ∙ ap (λ (x : ℕ). (push_stage s x).ended) (sym at.mark) ∙ over

  fate_is_end : fate_in_text (last s p c h) c ≡ EndsText
  fate_is_end = is_end (fate_in_text (last s p c h) c) (ends_now s p c h ∙ by s.state plain ∙ ap (λ (x : ℕ). x == 40) at.mark)
    where
      by : (m : TokenState) → is_plain m ≡ true → (is_plain (outside m) && c == 40) ≡ (c == 40)
      by m e = grind arith

  emitted_over : (i : Place) → emitted (events_of_push s c) ≡ emitted_by EndsText (state_at s p i) (record { c = c; place = s.progress.next })
  emitted_over i =
      emitted_last s c h.stands.going over
      ∙ ap (λ (x : Place). found_end (map (found_at x) (codes_last (settle_stage s c).facts)) text_ending.Notes) (settled_next s (settled_kind s.state c))
      ∙ ap (λ (x : List Code). found_end (map (found_at s.progress.next) x) text_ending.Notes) (by s.state refl plain)
    where
      by : (m : TokenState) → s.state ≡ m → is_plain m ≡ true → codes_last (settle_stage_by s (settled_kind m c)).facts ≡ codes_at_end (reverse (tokens (kept p)))
      by Plain e f = ap (λ (x : TokenState). codes_last (facts_at_end s.facts (kind_at_end x))) (sym e) ∙ codes_end s p h.stands
      by _ e f = absurd (cc)

silent_each : (t : List ℕ) → map emitted (no_events_each t) ≡ map (λ _. nothing) t
silent_each [] = refl
silent_each (c ∷ t) = ap (λ (l : List Emitted). nothing ∷ l) (silent_each t)

-- ---- with any other character

read_place : (t : TextStage) (c : ℕ) → is_within (read_stage t c).state ≡ true → (read_stage t c).progress.place ≡ t.progress.place
read_place t c = by (next_step t.state c)
  where
    by : (w : Step) → is_within (stage_after_step (stage_past_char t c) w).state ≡ true → (stage_after_step (stage_past_char t c) w).progress.place ≡ t.progress.place
    by (Stays n) e = refl
    by (Ends k so) e = absurd (cc)

module _ (s : TextStage) (p : List ℕ) (c : ℕ) (h : HasRead s p) (on : (push_stage s c).ended ≡ false) where
  read_is : push_stage s c ≡ read_stage (settle_stage s c) c
  read_is = pushed s c h.stands.going ∙ goes_so (settle_stage s c) c (sym (ap (λ (x : TextStage). x.ended) (pushed s c h.stands.going)) ∙ on)

  module _ (going : is_passed s p c h ≡ false) (i : Place) (inner : is_within s.state ≡ true → s.progress.place ≡ i) where
    abbrev inner_then : Place
    inner_then = cond (belongs (last s p c h) c) i s.progress.next

    inner_on : is_within (push_stage s c).state ≡ true → (push_stage s c).progress.place ≡ inner_then
    inner_on e =
        ap (λ (x : TextStage). x.progress.place) read_is
        ∙ read_place (settle_stage s c) c (ap (λ (x : TextStage). is_within x.state) (sym read_is) ∙ e)
        ∙ place_is s p c h on going i inner

    state_on : state_with (state_at s p i) (record { c = c; place = s.progress.next }) ≡ state_at (push_stage s c) (p ++ c ∷ []) inner_then
    state_on =
        ap (λ (x : List ℕ). record { kept = x; comment = opens (fate_in_text (last s p c h) c); inner = inner_then }) kept_is
        ∙ ap (λ (x : Bool). record { kept = kept (p ++ c ∷ []); comment = x; inner = inner_then }) (opens_now s p c h ∙ sym (going_comment s p c h on going))
      where
        kept_is : kept p ++ kept_after (last s p c h) c ≡ kept (p ++ c ∷ [])
        kept_is = sym (kept_one_more s p c h.stands on ∙ ap (λ (x : List ℕ). kept p ++ x) (going_kept s p c h on going ∙ sym (after_now s p c h)))

  -- within a comment
  module _ (passed : is_passed s p c h ≡ true) where
    emitted_none : emitted (events_of_push s c) ≡ nothing
    emitted_none =
        emitted_push s c h.stands.going on
        ∙ ap (λ (x : List ℕ). kept_found (map (char_there (settle_stage s c).progress.next) x) (map (found_at (settle_stage s c).progress.place) (codes_here (settle_stage s c).facts (settle_stage s c).state c))) (passed_none s p c h passed)
        ∙ ap (λ (x : List Code). kept_found [] (map (found_at (settle_stage s c).progress.place) x)) (by s.state refl passed)
      where
        by : (m : TokenState) → s.state ≡ m → passed_by m c ≡ true → codes_here (settle_stage_by s (settled_kind m c)).facts (settle_stage_by s (settled_kind m c)).state c ≡ []
        by Comment e f = go (c == 10) f
          where
            go : (b : Bool) → not b ≡ true → codes_here (settle_stage_by s (cond b (Some kind.Comment) None)).facts (settle_stage_by s (cond b (Some kind.Comment) None)).state c ≡ []
            go true g = absurd (cc)
            go false g = ap (λ (m : TokenState). codes_here s.facts m c) e
        by _ e f = absurd (cc)

    state_stays : (i : Place) → state_at (push_stage s c) (p ++ c ∷ []) i ≡ state_at s p i
    state_stays i =
        ap (λ (x : List ℕ). record { kept = x; comment = comment_in (push_stage s c); inner = i }) (kept_one_more s p c h.stands on ∙ ap (λ (x : List ℕ). kept p ++ x) (passed_none s p c h passed) ∙ append-nil (kept p))
        ∙ ap (λ (x : Bool). record { kept = kept p; comment = x; inner = i }) (passed_stays s p c h on passed)

    never_within : is_within (push_stage s c).state ≡ true → (q : Place) → (push_stage s c).progress.place ≡ q
    never_within e q = absurd (by (push_stage s c).state (passed_stays s p c h on passed ∙ (and_both (comment_in s) (not (c == 10)) passed).0) e)
      where
        by : (m : TokenState) → is_comment m ≡ true → is_within m ≡ true → ⊥
        by m f g = grind arith

-- ---- the whole text

abbrev Fits : Place → List ℕ → Type 0
Fits here t = (here.line + length t < 2 ^ 64) × (here.column + length t < 2 ^ 64)

abbrev IsSo : TextStage → List ℕ → Place → List ℕ → Type 0
IsSo s p i t = map emitted (stepwise s t) ≡ emitted_past (state_at s p i) s.progress.next t

later_fits : (here : Place) (c : ℕ) (t : List ℕ) → Fits here (c ∷ t) → (saturating_next_place here c ≡ next_place here c) × Fits (next_place here c) t
later_fits here c t f =
    let n = place_small here (c ∷ []) in
    (later_is here c (omega (arith, f.0)) (omega (arith, f.1)), (omega (arith, f.0, n.0), omega (arith, f.1, n.1)))

all_so : (t : List ℕ) (s : TextStage) (p : List ℕ) (i : Place) → HasRead s p → (is_within s.state ≡ true → s.progress.place ≡ i) → Fits s.progress.next t → IsSo s p i t
all_so [] s p i h inner fits = ap (λ (x : Emitted). x ∷ []) (finish_is s p i h inner)
all_so (c ∷ t) s p i h inner fits = by (push_stage s c).ended refl (λ on j in_then. all_so t (push_stage s c) (p ++ c ∷ []) j (read_more s p c h on) in_then (subst (λ (q : Place). Fits q t) (sym (next_is on)) (later_fits s.progress.next c t fits).1))
  where
    next_is : (push_stage s c).ended ≡ false → (push_stage s c).progress.next ≡ next_place s.progress.next c
    next_is on = next_goes s c h.stands.going on ∙ (later_fits s.progress.next c t fits).0

    x : Char
    x = record { c = c; place = s.progress.next }

    lists : Bool → Fate → List Emitted
    lists passed F = cond passed (nothing ∷ emitted_past (state_at s p i) (next_place s.progress.next c) t)
        (emitted_by F (state_at s p i) x ∷ cond (ends F) (map (λ _. nothing) (c ∷ t)) (emitted_past (state_with (state_at s p i) x) (next_place s.progress.next c) t))

    goes : (on : (push_stage s c).ended ≡ false) → ((j : Place) → (is_within (push_stage s c).state ≡ true → (push_stage s c).progress.place ≡ j) → IsSo (push_stage s c) (p ++ c ∷ []) j t)
        → (b : Bool) → is_passed s p c h ≡ b → map emitted (stepwise s (c ∷ t)) ≡ lists b (fate_in_text (last s p c h) c)
    goes on ih true e =
        ap (λ (y : Emitted). y ∷ map emitted (stepwise (push_stage s c) t)) (emitted_none s p c h on e)
        ∙ ap (λ (l : List Emitted). nothing ∷ l) (ih i (λ w. never_within s p c h on e w i)
        ∙ ap (λ (st : TextState). emitted_past st (push_stage s c).progress.next t) (state_stays s p c h on e i)
        ∙ ap (λ (q : Place). emitted_past (state_at s p i) q t) (next_is on))
    goes on ih false e =
        ap (λ (y : Emitted). y ∷ map emitted (stepwise (push_stage s c) t)) (emitted_is s p c h on e i inner)
        ∙ ap (λ (l : List Emitted). emitted_by (fate_in_text (last s p c h) c) (state_at s p i) x ∷ l) (ih (inner_then s p c h on e i inner) (inner_on s p c h on e i inner)
        ∙ ap (λ (st : TextState). emitted_past st (push_stage s c).progress.next t) (sym (state_on s p c h on e i inner))
        ∙ ap (λ (q : Place). emitted_past (state_with (state_at s p i) x) q t) (next_is on)
        ∙ ap (λ (b : Bool). cond b (map (λ _. nothing) (c ∷ t)) (emitted_past (state_with (state_at s p i) x) (next_place s.progress.next c) t)) (sym (ends_now s p c h ∙ going_on s p c h on e)))

    over : (push_stage s c).ended ≡ true → map emitted (stepwise s (c ∷ t)) ≡ lists (is_passed s p c h) (fate_in_text (last s p c h) c)
    over e =
        ap (λ (y : Emitted). y ∷ map emitted (stepwise (push_stage s c) t)) (emitted_over s p c h e i)
        ∙ ap (λ (l : List (List TextEvent)). emitted_by EndsText (state_at s p i) x ∷ map emitted l) (rest_done (push_stage s c) t e)
        ∙ ap (λ (l : List Emitted). emitted_by EndsText (state_at s p i) x ∷ (nothing ∷ l)) (silent_each t)
        ∙ ap (lists false) (sym (fate_is_end s p c h e))
        ∙ ap (λ (b : Bool). lists (b && not (c == 10)) (fate_in_text (last s p c h) c)) (sym (at s p c h e).no_comment)

    by : (d : Bool) → (push_stage s c).ended ≡ d → ((on : (push_stage s c).ended ≡ false) (j : Place) → (is_within (push_stage s c).state ≡ true → (push_stage s c).progress.place ≡ j) → IsSo (push_stage s c) (p ++ c ∷ []) j t)
        → map emitted (stepwise s (c ∷ t)) ≡ lists (is_passed s p c h) (fate_in_text (last s p c h) c)
    by true e ih = over e
    by false e ih = goes e (ih e) (is_passed s p c h) refl

pub text_is_so : (at : Place) (t : List ℕ) → CountsFit at t → map emitted (events_by_point at t) ≡ emitted_past text_begins at t
text_is_so at t fits =
    ap (λ (l : List (List TextEvent)). map emitted l) (sym (fresh_stepwise at t fits).0)
    ∙ all_so t (fresh_stage at) [] (record { line = 0; column = 0 }) (read_none at) (λ e. absurd (cc)) (fits.line, fits.column)
