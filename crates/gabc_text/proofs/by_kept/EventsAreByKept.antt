-- What is emitted of a text, but for the parts of its view, is so by what is kept of it.
use Rattle.std.proofs.Common.{arith, ◌≡◌, ◌==◌, ◌&&◌, not, ℕ, List, [], ◌∷◌, ◌++◌, Bool, true, false, cond, Option, Some, None, option_to_list, map, refl, sym, ap, ◌∙◌, subst}
use Rattle.std.specs.Prelude.{reverse}
use Rattle.std.proofs.lemmas.Bool.{eqb-true}
use Rattle.gabc_places.specs.Fate.{Fate, Keep, Comment as Comments, Ends as EndsText, LeaveOut}
use Rattle.gabc_places.specs.declared.code.Code.{Code}
use Rattle.gabc_places.specs.declared.place.Char.{Char}
use Rattle.gabc_places.specs.declared.place.Place.{Place}
use Rattle.gabc_text.specs.declared.text_facts.TextFacts.{TextFacts}
use Rattle.gabc_text.specs.declared.token.TokenKind.{TokenKind}
use Rattle.gabc_text.specs.declared.token.TokenKind.TheVariants as kind
use Rattle.gabc_text.specs.declared.token.TagEffect.TheVariants.{Other}
use Rattle.gabc_text.specs.declared.token_state.TokenState.{TokenState}
use Rattle.gabc_text.specs.declared.token_state.TokenState.TheVariants.{Plain, Dollar, Comment, Tag, Raw, Translation}
use Rattle.gabc_text.specs.declared.stage.TextStage.{TextStage}
use Rattle.gabc_text.specs.Token.{tokens, is_blank, is_special}
use Rattle.gabc_text.specs.View.{kept, found_at}
use Rattle.gabc_text.specs.KeptText.{belongs, fate_in_text, kept_char, kept_after, codes_with}
use Rattle.gabc_text.specs.witness.Keeps.{Keeps, stage_after}
use Rattle.gabc_text.specs.witness.EmittedByKept.{Emitted, emitted, TextState, emitted_by}
use Rattle.gabc_text.specs.witness.TextByKept.{ends}
use Rattle.gabc_text.specs.TextStage.{fresh_stage}
use Rattle.gabc_text.specs.machine.Resuming.{nowhere, outside, kept_at}
use Rattle.gabc_text.specs.machine.StageReports.{is_comment, comment_in}
use Rattle.gabc_text.specs.machine.TextFacts.{facts_after}
use Rattle.gabc_text.specs.machine.TextStage.{settle_stage, settle_stage_by, push_stage, events_of_push}
use Rattle.gabc_text.specs.machine.TokenState.{settled_kind, is_plain}
use Rattle.gabc_text.proofs.by_kept.CodesByKept.{codes_kept, IsFoundBy, found_between, blank_found}
use Rattle.gabc_text.proofs.by_kept.EmittedByStages.{codes_here, char_there, kept_found, emitted_push}
use Rattle.gabc_text.proofs.by_kept.FatesOfStages.{fate_by, belongs_by, part_kept, ended_is, after_goes, stands}
use Rattle.gabc_text.proofs.by_kept.KeptByFates.{HasRead, read_more, last, fate_now, ends_now, after_now, is_passed, going_kept, going_on}
use Rattle.gabc_text.proofs.by_kept.StageAfterText.{settle, kept_one_more}
use Rattle.gabc_text.proofs.by_kept.ViewIsKept.{turned}
use Rattle.gabc_text.proofs.machine.KeptOfOpenToken.{is_within}
use Rattle.gabc_text.proofs.resuming.EndsAndKept.{kept_is}
use Rattle.gabc_text.proofs.resuming.StagesKeep.{past_more, kept_again, kept_with_is}
use Rattle.gabc_text.proofs.resuming.WhatStagesTell.{settled_next}

-- ---- what is found, by what was seen and the state

abbrev facts_then : TextFacts → Option TokenKind → TextFacts
facts_then f None = f
facts_then f (Some k) = facts_after f k Other

abbrev state_then : TokenState → Option TokenKind → TokenState
state_then m None = m
state_then m (Some k) = Plain

abbrev codes_now : TextFacts → TokenState → ℕ → List Code
codes_now f m c = codes_here (facts_then f (settled_kind m c)) (state_then m (settled_kind m c)) c

codes_then : (s : TextStage) (c : ℕ) → codes_here (settle_stage s c).facts (settle_stage s c).state c ≡ codes_now s.facts s.state c
codes_then s c = by (settled_kind s.state c)
  where
    by : (o : Option TokenKind) → codes_here (settle_stage_by s o).facts (settle_stage_by s o).state c ≡ codes_here (facts_then s.facts o) (state_then s.state o) c
    by None = refl
    by (Some k) = refl

abbrev char_by : TokenState → ℕ → ℕ
char_by m c = cond (belongs_by m c) c (cond (is_blank c) 32 c)

-- where a comment goes on
abbrev pub passed_by : TokenState → ℕ → Bool
passed_by m c = is_comment m && not (c == 10)

line_feed : (c : ℕ) → not (c == 10) ≡ false → c ≡ 10
line_feed c e = by (c == 10) refl e
  where
    by : (b : Bool) → c == 10 ≡ b → not b ≡ false → c ≡ 10
    by true f g = eqb-true c 10 f
    by false f g = absurd (cc)

-- the same is found with the character that is kept
codes_same : (f : TextFacts) (m : TokenState) (c : ℕ) → passed_by m c ≡ false → codes_now f m c ≡ codes_now f (outside m) (char_by (outside m) c)
codes_same f Plain c e = by (is_blank c) refl
  where
    by : (b : Bool) → is_blank c ≡ b → codes_here f Plain c ≡ codes_here f Plain (cond b 32 c)
    by true i = blank_found f c i ∙ sym (blank_found f 32 refl)
    by false i = refl
codes_same f Dollar c e = by (is_special c) (is_blank c) refl refl
  where
    after : TextFacts
    after = facts_after f kind.Letter Other

    by : (x b : Bool) → is_special c ≡ x → is_blank c ≡ b → codes_now f Dollar c ≡ codes_now f Dollar (cond x c (cond b 32 c))
    by true b i j = refl
    by false false i j = refl
    by false true i j = ap (λ (y : Bool). codes_here (facts_then f (cond y None (Some kind.Letter))) (state_then Dollar (cond y None (Some kind.Letter))) c) i ∙ blank_found after c j ∙ sym (blank_found after 32 refl)
codes_same f Comment c e = subst (λ (x : ℕ). codes_now f Comment x ≡ codes_now f Plain (char_by Plain x)) (sym (line_feed c e)) (blank_found f 10 refl ∙ sym (blank_found f 32 refl))
codes_same f (Tag name) c e = refl
codes_same f (Raw raw n) c e = refl
codes_same f Translation c e = refl

-- and the fate says what
special_notes : (c : ℕ) → is_special c ≡ false → c == 40 ≡ false
special_notes c e = grind arith

found_now : (f : TextFacts) (m : TokenState) (c : ℕ) → passed_by m c ≡ false → (is_plain (outside m) && c == 40) ≡ false → IsFoundBy (fate_by f (outside m) c) (codes_now f m c)
found_now f Plain c e a = found_between f c a
found_now f Dollar c e a = by (is_special c) refl
  where
    by : (x : Bool) → is_special c ≡ x → IsFoundBy (fate_by f Dollar c) (codes_now f Dollar c)
    by true i = rw i tt
    by false i = rw i (found_between (facts_after f kind.Letter Other) c (special_notes c i))
found_now f Comment c e a = subst (λ (x : ℕ). IsFoundBy (fate_by f Plain x) (codes_now f Comment x)) (sym (line_feed c e)) (found_between f 10 refl)
found_now f (Tag name) c e a = tt
found_now f (Raw raw n) c e a = tt
found_now f Translation c e a = tt

-- ---- a character after a text

abbrev pub state_at : TextStage → List ℕ → Place → TextState
state_at s p i = record { kept = kept p; comment = comment_in s; inner = i }

only_one : (o : Option ℕ) (d : ℕ) → option_to_list o ≡ d ∷ [] → o ≡ Some d
only_one None d e = absurd (cc)
only_one (Some x) d e = cc

module _ (s : TextStage) (p : List ℕ) (c : ℕ) (h : HasRead s p) (on : (push_stage s c).ended ≡ false) (going : is_passed s p c h ≡ false) where
  abbrev now : TextStage
  now = settle_stage s c

  abbrev later : TextStage
  later = stage_after (kept p)

  abbrev d : ℕ
  d = kept_char (last s p c h) c

  kept_so : option_to_list (kept_at s c) ≡ kept_after (last s p c h) c
  kept_so = going_kept s p c h on going ∙ sym (after_now s p c h)

  char_is : d ≡ char_by (outside s.state) c
  char_is = ap (λ (b : Bool). cond b c (cond (is_blank c) 32 c)) (fate_now s p c h).part

  found_so : IsFoundBy (fate_in_text (last s p c h) c) (codes_here now.facts now.state c)
  found_so =
      subst (λ (x : Fate). IsFoundBy x (codes_here now.facts now.state c)) (sym (fate_now s p c h).fate)
      (subst (IsFoundBy (fate_by s.facts (outside s.state) c)) (sym (codes_then s c)) (found_now s.facts s.state c going (going_on s p c h on going)))

  -- what is found with a character that is kept
  codes_are : fate_in_text (last s p c h) c ≡ Keep → codes_here now.facts now.state c ≡ codes_with (reverse (tokens (kept p ++ d ∷ [])))
  codes_are e =
      codes_then s c
      ∙ codes_same s.facts s.state c going
      ∙ ap (codes_now s.facts (outside s.state)) (sym char_is)
      ∙ ap (λ (x : TextStage). codes_now x.facts x.state d) (sym h.keeps.alike.same)
      ∙ sym (codes_then later d)
      ∙ sym (codes_kept (settle_stage later d) (kept p) d d (settle later (kept p) d (stands s (kept p) h.keeps)).there kept_then apart)
      ∙ ap codes_with (turned (tokens (kept p ++ d ∷ [])))
    where
      one : option_to_list (kept_at s c) ≡ d ∷ []
      one = kept_so ∙ rw e refl

      more : kept (p ++ c ∷ []) ≡ kept p ++ d ∷ []
      more = kept_one_more s p c h.stands on ∙ ap (λ (x : List ℕ). kept p ++ x) one

      keeps : Keeps (push_stage s c) (kept p ++ d ∷ [])
      keeps = subst (Keeps (push_stage s c)) more (read_more s p c h on).keeps

      later_goes : (push_stage later d).ended ≡ false
      later_goes = ap (λ (x : TextStage). x.ended) (sym (past_more (fresh_stage nowhere) (kept p) d)) ∙ after_goes (push_stage s c) (kept p ++ d ∷ []) keeps

      kept_then : kept_at later d ≡ Some d
      kept_then = only_one (kept_at later d) d
          (sym (kept_is later d (after_goes s (kept p) h.keeps) later_goes) ∙ sym (kept_with_is (kept p) d) ∙ kept_again (push_stage s c) (kept p) [] d keeps)

      apart : is_plain (settle_stage later d).state ≡ true → d == 40 ≡ false
      apart f = by (d == 40) (is_plain (settle_stage later d).state) f (sym (ended_is later d (after_goes s (kept p) h.keeps)) ∙ later_goes)
        where
          by : (a b : Bool) → b ≡ true → (a && b) ≡ false → a ≡ false
          by a b f g = grind arith

  module _ (i : Place) (inner : is_within s.state ≡ true → s.progress.place ≡ i) where
    pub place_is : now.progress.place ≡ cond (belongs (last s p c h) c) i s.progress.next
    place_is = by s.state refl going ∙ ap (λ (b : Bool). cond b i s.progress.next) (sym (fate_now s p c h).part)
      where
        by : (m : TokenState) → s.state ≡ m → passed_by m c ≡ false → (settle_stage_by s (settled_kind m c)).progress.place ≡ cond (belongs_by (outside m) c) i s.progress.next
        by Plain e f = h.keeps.reached.between (ap is_plain e)
        by Dollar e f = go (is_special c)
          where
            go : (x : Bool) → (settle_stage_by s (cond x None (Some kind.Letter))).progress.place ≡ cond x i s.progress.next
            go true = inner (ap is_within e)
            go false = refl
        by Comment e f = subst (λ (x : ℕ). (settle_stage_by s (settled_kind Comment x)).progress.place ≡ s.progress.next) (sym (line_feed c f)) refl
        by (Tag name) e f = inner (ap is_within e)
        by (Raw raw n) e f = inner (ap is_within e)
        by Translation e f = inner (ap is_within e)

    abbrev x : Char
    x = record { c = c; place = s.progress.next }

    -- what is emitted with it
    pub emitted_is : emitted (events_of_push s c) ≡ emitted_by (fate_in_text (last s p c h) c) (state_at s p i) x
    emitted_is = emitted_push s c h.stands.going on ∙ by (fate_in_text (last s p c h) c) refl found_so
      where
        next_is : now.progress.next ≡ s.progress.next
        next_is = settled_next s (settled_kind s.state c)

        out_of : List ℕ → List Code → Place → Emitted
        out_of ks cs at = kept_found (map (char_there s.progress.next) ks) (map (found_at at) cs)

        start : (ks : List ℕ) (cs : List Code) (at : Place) → option_to_list (kept_at s c) ≡ ks → codes_here now.facts now.state c ≡ cs → now.progress.place ≡ at
            → kept_found (map (char_there now.progress.next) (option_to_list (kept_at s c))) (map (found_at now.progress.place) (codes_here now.facts now.state c)) ≡ out_of ks cs at
        start ks cs at e f g =
            ap (λ (y : Place). kept_found (map (char_there y) (option_to_list (kept_at s c))) (map (found_at now.progress.place) (codes_here now.facts now.state c))) next_is
            ∙ ap (λ (y : List ℕ). out_of y (codes_here now.facts now.state c) now.progress.place) e
            ∙ ap (λ (y : List Code). out_of ks y now.progress.place) f
            ∙ ap (out_of ks cs) g

        -- what is left out is part of nothing
        here : (F : Fate) → fate_in_text (last s p c h) c ≡ F → (F ≡ Keep → ⊥) → now.progress.place ≡ s.progress.next
        here F e n = place_is ∙ ap (λ (b : Bool). cond b i s.progress.next) (apart (belongs (last s p c h) c) refl)
          where
            apart : (b : Bool) → belongs (last s p c h) c ≡ b → b ≡ false
            apart true g = absurd (n (sym e ∙ part_kept (last s p c h) c g))
            apart false g = refl

        by : (F : Fate) → fate_in_text (last s p c h) c ≡ F → IsFoundBy F (codes_here now.facts now.state c)
            → kept_found (map (char_there now.progress.next) (option_to_list (kept_at s c))) (map (found_at now.progress.place) (codes_here now.facts now.state c)) ≡ emitted_by F (state_at s p i) x
        by Keep e g = start (d ∷ []) (codes_with (reverse (tokens (kept p ++ d ∷ [])))) (cond (belongs (last s p c h) c) i s.progress.next) (kept_so ∙ rw e refl) (codes_are e) place_is
        by Comments e g = start [] [] s.progress.next (kept_so ∙ rw e refl) g (here Comments e (λ f. absurd (cc)))
        by EndsText e g = start [] [] s.progress.next (kept_so ∙ rw e refl) g (here EndsText e (λ f. absurd (cc))) ∙ absurd (never e)
          where
            never : fate_in_text (last s p c h) c ≡ EndsText → ⊥
            never e = let f : true ≡ false = sym (ap ends e) ∙ ends_now s p c h ∙ going_on s p c h on going in absurd (cc)
        by (LeaveOut None) e g = start [] [] s.progress.next (kept_so ∙ rw e refl) g (here (LeaveOut None) e (λ f. absurd (cc)))
        by (LeaveOut (Some code)) e g = start [] (code ∷ []) s.progress.next (kept_so ∙ rw e refl) g (here (LeaveOut (Some code)) e (λ f. absurd (cc)))
