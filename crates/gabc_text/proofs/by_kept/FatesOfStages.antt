-- What a stage does with a character that keeps a text is the fate of the character after it.
use Rattle.std.proofs.Common.{arith, ◌≡◌, ◌==◌, ◌&&◌, ◌||◌, ℕ, List, [], ◌∷◌, Bool, true, false, cond, Decides, Some, None, option_to_list, refl, sym, ap, ◌∙◌, subst, append-nil, codes}
use Rattle.std.specs.Prelude.{reverse}
use Rattle.std.proofs.lemmas.Bool.Decides.{nat_tests}
use Rattle.gabc_places.specs.Fate.{Fate, Keep, Comment as Comments, Ends as EndsText}
use Rattle.gabc_text.specs.declared.text_facts.TextFacts.{TextFacts}
use Rattle.gabc_text.specs.declared.token.TokenKind.TheVariants as kind
use Rattle.gabc_text.specs.declared.token_state.TokenState.{TokenState}
use Rattle.gabc_text.specs.declared.token_state.TokenState.TheVariants.{Plain, Dollar, Comment, Tag, Raw, Translation}
use Rattle.gabc_text.specs.declared.stage.TextStage.{TextStage}
use Rattle.gabc_text.specs.BuiltText.{kept_in}
use Rattle.gabc_text.specs.Token.{Token, spelling, tokens, is_blank, is_special, is_text, single}
use Rattle.gabc_text.specs.View.{kept, is_open_kind, follows_space}
use Rattle.gabc_text.specs.KeptText as by_kept
use Rattle.gabc_text.specs.KeptText.{belongs, ends_blank, fate_in_text}
use Rattle.gabc_text.specs.TextStage.{fresh_stage}
use Rattle.gabc_text.specs.witness.Keeps.{Keeps, stage_after, begins_comment, ends_after_it, kept_with}
use Rattle.gabc_text.specs.machine.Resuming.{nowhere, outside, kept_at}
use Rattle.gabc_text.specs.machine.StageReports.{is_comment}
use Rattle.gabc_text.specs.machine.TextStage.{settle_stage, settle_stage_by, settled_push_stage, read_stage, end_stage, push_stage, events_of_push}
use Rattle.gabc_text.specs.machine.TokenState.{settled_kind, keep, keep_first, kind_at_end, is_plain, next_step}
use Rattle.gabc_text.proofs.by_kept.FatesInText.{by_facts, kept_by}
use Rattle.gabc_text.proofs.by_kept.StageAfterText.{Stands, stands_fresh, stands_past, kept_more_past}
use Rattle.gabc_text.proofs.by_kept.ViewIsKept.{tokens_alike, turned}
use Rattle.gabc_text.proofs.machine.FactsOfTokens.{facts_of}
use Rattle.gabc_text.proofs.machine.TokenStateByCharacter.{Holds, ends, EndsAs}
use Rattle.gabc_text.proofs.machine.TokensOneAfterAnother.{onto}
use Rattle.gabc_text.proofs.resuming.EndsAndKept.{kept_is, none_kept_at_end, ended_at, read_done, settled_done}
use Rattle.gabc_text.proofs.resuming.StagesKeep.{begins_is, ends_are, kept_with_is, alike_done, state_alike}

-- ---- the fate of a character, by the state

abbrev pub fate_by : TextFacts → TokenState → ℕ → Fate
fate_by f Plain c = by_facts f.begun f.ended f.space c
fate_by f Dollar c = cond (is_special c) Keep (by_facts f.begun f.ended false c)
fate_by f _ c = Keep

abbrev pub belongs_by : TokenState → ℕ → Bool
belongs_by Plain c = false
belongs_by Dollar c = is_special c
belongs_by _ c = true

pub record IsFate (b : List Token) (f : TextFacts) (m : TokenState) (c : ℕ) : Type 0 where
  pub fate : fate_in_text b c ≡ fate_by f m c
  pub part : belongs b c ≡ belongs_by m c

between : (b : List Token) (f : TextFacts) (c : ℕ) → f ≡ facts_of b → follows_space b ≡ ends_blank b → belongs b c ≡ false → IsFate b f Plain c
between b f c e s q = record { fate = kept_by b c q ∙ rw (e, s) refl; part = q }

pub part_kept : (b : List Token) (c : ℕ) → belongs b c ≡ true → fate_in_text b c ≡ Keep
part_kept b c e = rw e refl

after_dollar : (before : List Token) (f : TextFacts) (k : Token) (c : ℕ) → f ≡ facts_of before → k.kind ≡ kind.Letter → spelling k ≡ 36 ∷ [] → IsFate (k ∷ before) f Dollar c
after_dollar before f k c e g h = by (is_special c) refl
  where
    part : belongs (k ∷ before) c ≡ is_special c
    part = ap (λ (x : Bool). x || (is_text (codes "$") (spelling k) && is_special c)) (ap is_open_kind g) ∙ ap (λ (s : List ℕ). is_text (codes "$") s && is_special c) h

    by : (x : Bool) → is_special c ≡ x → IsFate (k ∷ before) f Dollar c
    by true i = record { fate = part_kept (k ∷ before) c (part ∙ i) ∙ rw i refl; part = part }
    by false i = record { fate = kept_by (k ∷ before) c (part ∙ i) ∙ rw (g, e, i) refl; part = part }

inside : (before : List Token) (k : Token) (c : ℕ) → is_open_kind k.kind ≡ true → (fate_in_text (k ∷ before) c ≡ Keep) × (belongs (k ∷ before) c ≡ true)
inside before k c e = (rw e refl, rw e refl)

pub tokens_are : (s : TextStage) (k : List ℕ) (h : Stands s k) → reverse (tokens k) ≡ onto (tokens h.held) h.before
tokens_are s k h = sym (turned (tokens k)) ∙ ap (λ (x : List ℕ). onto (tokens x) []) (sym (append-nil k)) ∙ h.cuts [] ∙ ap (λ (x : List ℕ). onto (tokens x) h.before) (append-nil h.held)

pub fate_there : (s : TextStage) (k : List ℕ) → Stands s k → kept k ≡ k → is_comment s.state ≡ false → (c : ℕ) → IsFate (reverse (tokens k)) s.facts s.state c
fate_there s k h whole apart c = by s.state refl apart (ends s.state h.held h.holds)
  where
    blank : follows_space (reverse (tokens k)) ≡ ends_blank (reverse (tokens k))
    blank = (tokens_alike k).blank ∙ ap (λ (x : List ℕ). ends_blank (reverse (tokens x))) whole

    one : (token : Token) → tokens h.held ≡ token ∷ [] → reverse (tokens k) ≡ token ∷ h.before
    one token e = tokens_are s k h ∙ ap (λ (ks : List Token). onto ks h.before) e

    within : (m : TokenState) (token : Token) → belongs_by m c ≡ true → fate_by s.facts m c ≡ Keep → is_open_kind token.kind ≡ true → tokens h.held ≡ token ∷ [] → IsFate (reverse (tokens k)) s.facts m c
    within m token b f i e =
        let g = inside h.before token c i in
        subst (λ (ks : List Token). IsFate ks s.facts m c) (sym (one token e)) (record { fate = g.0 ∙ sym f; part = g.1 ∙ sym b })

    by : (m : TokenState) → s.state ≡ m → is_comment m ≡ false → EndsAs (kind_at_end m) h.held → IsFate (reverse (tokens k)) s.facts m c
    by Plain e a g =
        let same : reverse (tokens k) ≡ h.before = tokens_are s k h ∙ ap (λ (ks : List Token). onto ks h.before) g in
        between (reverse (tokens k)) s.facts c (h.facts ∙ ap facts_of (sym same)) blank (ap (λ (ks : List Token). belongs ks c) same ∙ h.quiet (ap is_plain e) c)
    by Dollar e a g =
        subst (λ (ks : List Token). IsFate ks s.facts Dollar c) (sym (one g.0 g.3))
        (after_dollar h.before s.facts g.0 c h.facts g.1 (g.2 ∙ subst (λ (m : TokenState). Holds m h.held) e h.holds))
    by Comment e a g = absurd (cc)
    by (Tag name) e a g = within (Tag name) g.0 refl refl (ap is_open_kind g.1) g.3
    by (Raw raw n) e a g = within (Raw raw n) g.0 refl refl (ap is_open_kind g.1) g.3
    by Translation e a g = within Translation g.0 refl refl (ap is_open_kind g.1) g.3

-- ---- what the stage does

comment_by : (f : TextFacts) (m : TokenState) → Decides (is_plain m) (fate_by f m 37 ≡ Comments)
comment_by f Plain = (λ e. refl, λ e. refl)
comment_by f Dollar = (λ e. absurd (cc), λ e. absurd (cc))
comment_by f Comment = (λ e. absurd (cc), λ e. absurd (cc))
comment_by f (Tag name) = (λ e. absurd (cc), λ e. absurd (cc))
comment_by f (Raw raw n) = (λ e. absurd (cc), λ e. absurd (cc))
comment_by f Translation = (λ e. absurd (cc), λ e. absurd (cc))

end_by : (f : TextFacts) (m : TokenState) → Decides (is_plain m) (fate_by f m 40 ≡ EndsText)
end_by f Plain = (λ e. refl, λ e. refl)
end_by f Dollar = (λ e. absurd (cc), λ e. absurd (cc))
end_by f Comment = (λ e. absurd (cc), λ e. absurd (cc))
end_by f (Tag name) = (λ e. absurd (cc), λ e. absurd (cc))
end_by f (Raw raw n) = (λ e. absurd (cc), λ e. absurd (cc))
end_by f Translation = (λ e. absurd (cc), λ e. absurd (cc))

pub ended_is : (s : TextStage) (c : ℕ) → s.ended ≡ false → (push_stage s c).ended ≡ (c == 40 && is_plain (settle_stage s c).state)
ended_is s c on = ap (λ (x : TextStage). x.ended) same ∙ by (c == 40 && is_plain (settle_stage s c).state)
  where
    same : push_stage s c ≡ settled_push_stage (settle_stage s c) c
    same = rw on refl

    by : (b : Bool) → (cond b (end_stage (settle_stage s c)) (read_stage (settle_stage s c) c)).ended ≡ b
    by true = refl
    by false = read_done (settle_stage s c) c (next_step (settle_stage s c).state c) ∙ settled_done s (settled_kind s.state c) ∙ on

still_between : (s : TextStage) → is_plain (settle_stage s 40).state ≡ is_plain s.state
still_between s = by s.state refl
  where
    by : (m : TokenState) → s.state ≡ m → is_plain (settle_stage_by s (settled_kind m 40)).state ≡ is_plain m
    by Plain e = ap is_plain e
    by Dollar e = ap is_plain e
    by Comment e = ap is_plain e
    by (Tag name) e = ap is_plain e
    by (Raw raw n) e = ap is_plain e
    by Translation e = ap is_plain e

pub notes_end : (s : TextStage) → s.ended ≡ false → (push_stage s 40).ended ≡ is_plain s.state
notes_end s on = ended_is s 40 on ∙ still_between s

-- what is kept of a character between tokens
pub first_kept : (f : TextFacts) (c : ℕ) → c == 40 ≡ false → option_to_list (keep_first f c (single c)) ≡ by_kept.kept_by (by_facts f.begun f.ended f.space c) (cond (is_blank c) 32 c)
first_kept f c e = grind (arith, nat_tests)

abbrev pub kept_by_state : TextFacts → TokenState → ℕ → List ℕ
kept_by_state f m c = by_kept.kept_by (fate_by f m c) (cond (belongs_by m c) c (cond (is_blank c) 32 c))

-- and of one that does not end the text, where no comment is open
pub kept_going : (s : TextStage) (c : ℕ) → s.ended ≡ false → (push_stage s c).ended ≡ false → is_comment s.state ≡ false → option_to_list (kept_at s c) ≡ kept_by_state s.facts s.state c
kept_going s c on goes apart = by s.state refl apart
  where
    not_special : is_special c ≡ false → c == 40 ≡ false
    not_special e = grind (arith, nat_tests)

    between_tokens : s.state ≡ Plain → c == 40 ≡ false
    between_tokens e = grind arith

    by : (m : TokenState) → s.state ≡ m → is_comment m ≡ false → option_to_list (keep (settle_stage_by s (settled_kind m c)).facts (settle_stage_by s (settled_kind m c)).state c) ≡ kept_by_state s.facts m c
    by Plain e a = rw e (first_kept s.facts c (between_tokens e))
    by Dollar e a = go (is_special c) refl
      where
        go : (b : Bool) → is_special c ≡ b → option_to_list (keep (settle_stage_by s (cond b None (Some kind.Letter))).facts (settle_stage_by s (cond b None (Some kind.Letter))).state c) ≡ kept_by_state s.facts Dollar c
        go true i = rw (e, i) refl
        go false i = rw i (first_kept (record s.facts { word = true; blank = false; space = false }) c (not_special i))
    by Comment e a = absurd (cc)
    by (Tag name) e a = rw e refl
    by (Raw raw n) e a = rw e refl
    by Translation e a = rw e refl

-- ---- a stage that keeps a text

pub never_open : (m : TokenState) → is_comment (outside m) ≡ false
never_open m = grind arith

module _ (s : TextStage) (k : List ℕ) (keeps : Keeps s k) where
  pub after_goes : (stage_after k).ended ≡ false
  after_goes = alike_done s (stage_after k) keeps.alike ∙ keeps.goes_on

  pub stands : Stands (stage_after k) k
  stands = stands_past (fresh_stage nowhere) [] k (stands_fresh nowhere) after_goes

  pub whole_kept : kept k ≡ k
  whole_kept = kept_more_past (fresh_stage nowhere) [] k (stands_fresh nowhere) after_goes ∙ keeps.whole

  apart : is_comment (stage_after k).state ≡ false
  apart = ap is_comment (state_alike s k keeps) ∙ never_open s.state

  pub fate_is : (c : ℕ) → IsFate (reverse (tokens k)) (stage_after k).facts (stage_after k).state c
  fate_is c = fate_there (stage_after k) k stands whole_kept apart c

  pub comment_begins : Decides (begins_comment k) (fate_in_text (reverse (tokens k)) 37 ≡ Comments)
  comment_begins =
      let d = comment_by (stage_after k).facts (stage_after k).state in
      (λ e. (fate_is 37).fate ∙ d.0 (sym (begins_is k) ∙ e), λ e. begins_is k ∙ d.1 (sym (fate_is 37).fate ∙ e))

  ends_is : ends_after_it k ≡ is_plain (stage_after k).state
  ends_is = ends_are k ∙ notes_end (stage_after k) after_goes

  pub text_ends : Decides (ends_after_it k) (fate_in_text (reverse (tokens k)) 40 ≡ EndsText)
  text_ends =
      let d = end_by (stage_after k).facts (stage_after k).state in
      (λ e. (fate_is 40).fate ∙ d.0 (sym ends_is ∙ e), λ e. ends_is ∙ d.1 (sym (fate_is 40).fate ∙ e))

  pub character_kept : (c : ℕ) → kept_with k c ≡ by_kept.kept_after (reverse (tokens k)) c
  character_kept c = kept_with_is k c ∙ by (push_stage (stage_after k) c).ended refl ∙ sym there
    where
      there : by_kept.kept_after (reverse (tokens k)) c ≡ kept_by_state (stage_after k).facts (stage_after k).state c
      there = let f = fate_is c in rw (f.fate, f.part) refl

      by : (d : Bool) → (push_stage (stage_after k) c).ended ≡ d → kept_in (events_of_push (stage_after k) c) ≡ kept_by_state (stage_after k).facts (stage_after k).state c
      by true e = none_kept_at_end (stage_after k) c after_goes e ∙ subst (λ (x : ℕ). [] ≡ kept_by_state (stage_after k).facts (stage_after k).state x) (sym (ended_at (stage_after k) c after_goes e).mark) none
        where
          plain : is_plain (stage_after k).state ≡ true
          plain = sym (notes_end (stage_after k) after_goes) ∙ ap (λ (x : ℕ). (push_stage (stage_after k) x).ended) (sym (ended_at (stage_after k) c after_goes e).mark) ∙ e

          none : [] ≡ kept_by_state (stage_after k).facts (stage_after k).state 40
          none = let f = (end_by (stage_after k).facts (stage_after k).state).0 plain in rw f refl
      by false e = kept_is (stage_after k) c after_goes e ∙ kept_going (stage_after k) c after_goes e apart
