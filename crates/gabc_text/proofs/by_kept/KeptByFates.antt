-- What is kept of a text follows a character after the other.
use Rattle.std.proofs.Common.{arith, ◌≡◌, ◌==◌, ◌&&◌, not, ℕ, List, [], ◌∷◌, ◌++◌, Bool, true, false, cond, option_to_list, refl, sym, ap, ◌∙◌, subst, append-nil, append_assoc, if◌then◌else◌}
use Rattle.std.specs.Prelude.{reverse}
use Rattle.std.proofs.lemmas.Bool.{eqb-true}
use Rattle.std.proofs.lemmas.Bool.Decides.{nat_tests}
use Rattle.gabc_places.specs.Fate.{Fate}
use Rattle.gabc_places.specs.declared.place.Place.{Place}
use Rattle.gabc_text.specs.declared.text_facts.TextFacts.{TextFacts}
use Rattle.gabc_text.specs.declared.token_state.TokenState.{TokenState}
use Rattle.gabc_text.specs.declared.token_state.TokenState.TheVariants.{Plain, Dollar, Comment, Tag, Raw, Translation}
use Rattle.gabc_text.specs.declared.stage.TextStage.{TextStage}
use Rattle.gabc_text.specs.Token.{Token, tokens, is_special}
use Rattle.gabc_text.specs.View.{kept}
use Rattle.gabc_text.specs.Events.{kept_of}
use Rattle.gabc_text.specs.KeptText.{fate_in_text, kept_after}
use Rattle.gabc_text.specs.TextStage.{fresh_stage}
use Rattle.gabc_text.specs.witness.Keeps.{Keeps}
use Rattle.gabc_text.specs.witness.TextByKept.{opens, ends, kept_past}
use Rattle.gabc_text.specs.machine.Resuming.{nowhere, outside, kept_at}
use Rattle.gabc_text.specs.machine.StageReports.{is_comment, comment_in}
use Rattle.gabc_text.specs.machine.TextStage.{settle_stage, push_stage, events_of_push}
use Rattle.gabc_text.specs.machine.TokenState.{is_plain}
use Rattle.gabc_text.proofs.by_kept.FatesInText.{by_facts}
use Rattle.gabc_text.proofs.by_kept.FatesOfStages.{fate_by, IsFate, never_open, fate_is, ended_is, kept_by_state, kept_going, first_kept}
use Rattle.gabc_text.proofs.by_kept.StageAfterText.{Stands, settle, stands_on, stands_fresh, kept_onto, kept_is_there, kept_one_more}
use Rattle.gabc_text.proofs.machine.KeptOfOpenToken.{kept_held}
use Rattle.gabc_text.proofs.machine.TokenStateByCharacter.{Holds}
use Rattle.gabc_text.proofs.machine.TokensOneAfterAnother.{onto}
use Rattle.gabc_text.proofs.resuming.EndsAndKept.{kept_is, done_is, EndsAt, ended_at}
use Rattle.gabc_text.proofs.resuming.KeptCharactersSuffice.{comment_kept}
use Rattle.gabc_text.proofs.resuming.StagesKeep.{fresh_keeps, push_keeps, comment_is}
use Rattle.gabc_text.proofs.resuming.WhatStagesTell.{comment_goes}

-- the stage has read the text
pub record HasRead (s : TextStage) (p : List ℕ) : Type 0 where
  pub stands : Stands s p
  pub keeps : Keeps s (kept p)

pub read_none : (at : Place) → HasRead (fresh_stage at) []
read_none at = record { stands = stands_fresh at; keeps = fresh_keeps at }

pub read_more : (s : TextStage) (p : List ℕ) (c : ℕ) → HasRead s p → (push_stage s c).ended ≡ false → HasRead (push_stage s c) (p ++ c ∷ [])
read_more s p c h on = record {
  stands = (stands_on s p c h.stands on).there;
  keeps = subst (Keeps (push_stage s c)) (ap (λ (x : List ℕ). kept p ++ x) (kept_is s c h.stands.going on) ∙ sym (kept_one_more s p c h.stands on))
      ((push_keeps s (push_stage s c) c (events_of_push s c) refl refl).goes (kept p) h.keeps (sym (done_is s c h.stands.going) ∙ on)).keeps;
}

-- ---- the end of the text

held_none : (m : TokenState) (held : List ℕ) → is_plain m ≡ true → Holds m held → (held ≡ []) × (kept_held m held ≡ [])
held_none m held e h = grind arith

pub and_both : (a b : Bool) → (a && b) ≡ true → (a ≡ true) × (b ≡ true)
and_both a b e = grind arith

pub kept_at_end : (s : TextStage) (p : List ℕ) (c : ℕ) (t : List ℕ) → Stands s p → (push_stage s c).ended ≡ true → kept (p ++ c ∷ t) ≡ kept p
kept_at_end s p c t h over =
    let r = settle s p c h in
    let e = and_both (c == 40) (is_plain (settle_stage s c).state) (sym (ended_is s c h.going) ∙ over) in
    let n = held_none (settle_stage s c).state r.there.held e.1 r.there.holds in
    kept_onto (p ++ c ∷ t)
    ∙ ap kept_of (r.there.cuts t ∙ ap (λ (x : List ℕ). onto (tokens (x ++ c ∷ t)) r.there.before) n.0 ∙ ap (λ (ks : List Token). onto ks r.there.before) (none e.0))
    ∙ sym (append-nil (kept_of r.there.before))
    ∙ ap (λ (x : List ℕ). kept_of r.there.before ++ x) (sym n.1)
    ∙ r.kept
    ∙ sym (kept_is_there s p h)
  where
    none : c == 40 ≡ true → tokens (c ∷ t) ≡ []
    none e = rw e refl

-- ---- the fate by the state

facts_end : (g e b : Bool) (c : ℕ) → ends (by_facts g e b c) ≡ (c == 40)
facts_end g e b c = grind (arith, nat_tests)

facts_open : (g e b : Bool) (c : ℕ) → opens (by_facts g e b c) ≡ (c == 37)
facts_open g e b c = grind (arith, nat_tests)

special_marks : (c : ℕ) → is_special c ≡ false → (c == 40 ≡ false) × (c == 37 ≡ false)
special_marks c e = grind (arith, nat_tests)

pub ends_by : (f : TextFacts) (m : TokenState) (c : ℕ) → is_comment m ≡ false → ends (fate_by f m c) ≡ (is_plain m && c == 40)
ends_by f Plain c a = facts_end f.begun f.ended f.space c
ends_by f Dollar c a = by (is_special c) refl
  where
    by : (x : Bool) → is_special c ≡ x → ends (cond x Fate.Keep (by_facts f.begun f.ended false c)) ≡ false
    by true e = refl
    by false e = facts_end f.begun f.ended false c ∙ (special_marks c e).0
ends_by f Comment c a = absurd (cc)
ends_by f (Tag name) c a = refl
ends_by f (Raw raw n) c a = refl
ends_by f Translation c a = refl

pub opens_by : (f : TextFacts) (m : TokenState) (c : ℕ) → is_comment m ≡ false → opens (fate_by f m c) ≡ (is_plain m && c == 37)
opens_by f Plain c a = facts_open f.begun f.ended f.space c
opens_by f Dollar c a = by (is_special c) refl
  where
    by : (x : Bool) → is_special c ≡ x → opens (cond x Fate.Keep (by_facts f.begun f.ended false c)) ≡ false
    by true e = refl
    by false e = facts_open f.begun f.ended false c ∙ (special_marks c e).1
opens_by f Comment c a = absurd (cc)
opens_by f (Tag name) c a = refl
opens_by f (Raw raw n) c a = refl
opens_by f Translation c a = refl

-- ---- one character

module _ (s : TextStage) (p : List ℕ) (c : ℕ) (h : HasRead s p) where
  abbrev pub last : List Token
  last = reverse (tokens (kept p))

  pub fate_now : IsFate last s.facts (outside s.state) c
  fate_now =
      subst (λ (x : TextStage). IsFate last x.facts x.state c) h.keeps.alike.same (fate_is s (kept p) h.keeps c)

  pub ends_now : ends (fate_in_text last c) ≡ (is_plain (outside s.state) && c == 40)
  ends_now = ap ends fate_now.fate ∙ ends_by s.facts (outside s.state) c (never_open s.state)

  pub opens_now : opens (fate_in_text last c) ≡ (is_plain (outside s.state) && c == 37)
  opens_now = ap opens fate_now.fate ∙ opens_by s.facts (outside s.state) c (never_open s.state)

  pub after_now : kept_after last c ≡ kept_by_state s.facts (outside s.state) c
  after_now = let f = fate_now in rw (f.fate, f.part) refl

  -- where a comment goes on
  abbrev pub is_passed : Bool
  is_passed = comment_in s && not (c == 10)

  pub passed_none : is_passed ≡ true → option_to_list (kept_at s c) ≡ []
  passed_none e =
      let b = and_both (comment_in s) (not (c == 10)) e in
      ap option_to_list (comment_kept s c (comment_is s.state b.0) (falsely (c == 10) b.1))
    where
      falsely : (b : Bool) → not b ≡ true → b ≡ false
      falsely b e = grind arith

  pub passed_stays : (push_stage s c).ended ≡ false → is_passed ≡ true → comment_in (push_stage s c) ≡ comment_in s
  passed_stays on e = let b = and_both (comment_in s) (not (c == 10)) e in comment_goes s c h.stands.going on ∙ by (comment_in s) b.0 b.1
    where
      by : (x : Bool) → x ≡ true → not (c == 10) ≡ true → (if x then not (c == 10) else (c == 37 && is_plain s.state)) ≡ x
      by x e f = grind arith

  -- and where none is open, or it ends
  pub going_kept : (push_stage s c).ended ≡ false → is_passed ≡ false → option_to_list (kept_at s c) ≡ kept_by_state s.facts (outside s.state) c
  going_kept on e = by s.state refl e
    where
      by : (m : TokenState) → s.state ≡ m → (is_comment m && not (c == 10)) ≡ false → option_to_list (kept_at s c) ≡ kept_by_state s.facts (outside m) c
      by Comment f e = grind (arith, first_kept, eqb-true)
      by Plain f e = kept_going s c h.stands.going on (ap is_comment f) ∙ ap (λ (m : TokenState). kept_by_state s.facts m c) f
      by Dollar f e = kept_going s c h.stands.going on (ap is_comment f) ∙ ap (λ (m : TokenState). kept_by_state s.facts m c) f
      by (Tag name) f e = kept_going s c h.stands.going on (ap is_comment f) ∙ ap (λ (m : TokenState). kept_by_state s.facts m c) f
      by (Raw raw n) f e = kept_going s c h.stands.going on (ap is_comment f) ∙ ap (λ (m : TokenState). kept_by_state s.facts m c) f
      by Translation f e = kept_going s c h.stands.going on (ap is_comment f) ∙ ap (λ (m : TokenState). kept_by_state s.facts m c) f

  pub going_comment : (push_stage s c).ended ≡ false → is_passed ≡ false → comment_in (push_stage s c) ≡ (is_plain (outside s.state) && c == 37)
  going_comment on e = comment_goes s c h.stands.going on ∙ by s.state refl e
    where
      by : (m : TokenState) → s.state ≡ m → (is_comment m && not (c == 10)) ≡ false → (if is_comment m then not (c == 10) else (c == 37 && is_plain m)) ≡ (is_plain (outside m) && c == 37)
      by m f e = grind (arith, nat_tests)

  pub going_on : (push_stage s c).ended ≡ false → is_passed ≡ false → (is_plain (outside s.state) && c == 40) ≡ false
  going_on on e = by s.state refl e
    where
      by : (m : TokenState) → s.state ≡ m → (is_comment m && not (c == 10)) ≡ false → (is_plain (outside m) && c == 40) ≡ false
      by m f e = grind (arith, nat_tests)

  -- ---- what is kept then

  kept_on : (t : List ℕ) → (push_stage s c).ended ≡ false → kept ((p ++ c ∷ []) ++ t) ≡ kept_past (kept (p ++ c ∷ [])) (comment_in (push_stage s c)) t
      → kept (p ++ c ∷ t) ≡ kept_past (kept p) (comment_in s) (c ∷ t)
  kept_on t on ih = ap kept (sym (append_assoc p (c ∷ []) t)) ∙ ih ∙ by is_passed refl
    where
      more : kept (p ++ c ∷ []) ≡ kept p ++ option_to_list (kept_at s c)
      more = kept_one_more s p c h.stands on

      by : (x : Bool) → is_passed ≡ x → kept_past (kept (p ++ c ∷ [])) (comment_in (push_stage s c)) t
          ≡ cond x (kept_past (kept p) (comment_in s) t) (cond (ends (fate_in_text last c)) (kept p) (kept_past (kept p ++ kept_after last c) (opens (fate_in_text last c)) t))
      by true e = rw (more, passed_none e, passed_stays on e) (ap (λ (x : List ℕ). kept_past x (comment_in s) t) (append-nil (kept p)))
      by false e = rw (more, going_kept on e, ← after_now, going_comment on e, ← opens_now, ends_now, going_on on e) refl

  kept_over : (t : List ℕ) → (push_stage s c).ended ≡ true → kept (p ++ c ∷ t) ≡ kept_past (kept p) (comment_in s) (c ∷ t)
  kept_over t over = kept_at_end s p c t h.stands over ∙ rw (apart, ends_now, here) refl
    where
      at : EndsAt s c
      at = ended_at s c h.stands.going over

      apart : comment_in s ≡ false
      apart = at.no_comment

      here : (is_plain (outside s.state) && c == 40) ≡ true
      here = by s.state refl
        where
          by : (m : TokenState) → s.state ≡ m → (is_plain (outside m) && c == 40) ≡ true
          by m e = grind (arith, ended_is, nat_tests)

kept_all : (t : List ℕ) (s : TextStage) (p : List ℕ) → HasRead s p → kept (p ++ t) ≡ kept_past (kept p) (comment_in s) t
kept_all [] s p h = ap kept (append-nil p)
kept_all (c ∷ t) s p h = by (push_stage s c).ended refl (λ on. kept_all t (push_stage s c) (p ++ c ∷ []) (read_more s p c h on))
  where
    by : (d : Bool) → (push_stage s c).ended ≡ d → ((push_stage s c).ended ≡ false → kept ((p ++ c ∷ []) ++ t) ≡ kept_past (kept (p ++ c ∷ [])) (comment_in (push_stage s c)) t)
        → kept (p ++ c ∷ t) ≡ kept_past (kept p) (comment_in s) (c ∷ t)
    by true over ih = kept_over s p c h t over
    by false on ih = kept_on s p c h t on (ih on)

pub kept_by_fates : (t : List ℕ) → kept t ≡ kept_past [] false t
kept_by_fates t = kept_all t (fresh_stage nowhere) [] (read_none nowhere)
