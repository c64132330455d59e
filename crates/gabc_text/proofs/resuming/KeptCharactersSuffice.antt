-- A character that is not kept changes nothing but places and whether a comment is open; one that is kept does what its kept form does.
use Rattle.std.proofs.Math.Bool.{and-false}
use Rattle.std.proofs.lemmas.Bool.{eqb-true}
use Rattle.std.proofs.Common.{◌≡◌, ◌==◌, ◌&&◌, ◌||◌, not, ℕ, List, [], ◌++◌, Bool, true, false, cond, Option, Some, None, refl, sym, ap, ◌∙◌, subst, codes, if◌then◌else◌, arith}
use Rattle.gabc_places.specs.declared.place.Place.{Place}
use Rattle.gabc_places.specs.Place.{saturating_next_place}
use Rattle.gabc_text.specs.declared.progress.Progress.{Progress}
use Rattle.gabc_text.specs.declared.text_facts.TextFacts.{TextFacts}
use Rattle.gabc_text.specs.declared.token.TokenKind.{TokenKind}
use Rattle.gabc_text.specs.declared.token.TokenKind.TheVariants as kind
use Rattle.gabc_text.specs.declared.token.RawKind.{RawKind}
use Rattle.gabc_text.specs.declared.token.TagEffect.{TagEffect}
use Rattle.gabc_text.specs.declared.token.TagEffect.TheVariants as tag
use Rattle.gabc_text.specs.declared.token_state.Step.TheVariants.{Ends}
use Rattle.gabc_text.specs.declared.token_state.TokenState.{TokenState}
use Rattle.gabc_text.specs.declared.token_state.TokenState.TheVariants.{Plain, Dollar, Comment, Tag, Raw, Translation}
use Rattle.gabc_text.specs.declared.text_event.TextEvent.{TextEvent}
use Rattle.gabc_text.specs.declared.stage.TextStage.{TextStage}
use Rattle.gabc_text.specs.Token.{is_one_of, is_blank, is_special, single}
use Rattle.gabc_text.specs.View.{piece_kind}
use Rattle.gabc_text.specs.witness.EventsLeft.{piece_by, parts_by, begin_after, end_after}
use Rattle.gabc_text.specs.declared.view.PieceKind.TheVariants as piece
use Rattle.gabc_text.specs.machine.TextFacts.{facts_after}
use Rattle.gabc_text.specs.machine.StageReports.{is_comment}
use Rattle.gabc_text.specs.machine.Resuming.{placed, outside, uncommented, IsAlike, kept_at, IsReached}
use Rattle.gabc_text.specs.machine.TokenState.{first_step, step_at_tag_end, keep}
use Rattle.gabc_text.specs.machine.TextStage.{progress_past, token_stage, stage_past_char, stage_after_step, push_stage, events_of_push}
use Rattle.gabc_text.proofs.tokens.CasesOfCharacters.{by_case}
use Rattle.gabc_text.specs.witness.Keeps.{said}
use Rattle.gabc_text.proofs.resuming.PlacesAside.{IsPlaced, said_of_char, said_of_token, reading_said, push_placed, push_same}

-- s does with a character what r does with its kept form, or nothing where it is not kept
abbrev pub StepAlike : TextStage → ℕ → TextStage → Option ℕ → Type 0
StepAlike s c r None = IsAlike (push_stage s c) r × (said (events_of_push s c) ≡ [])
StepAlike s c r (Some d) = IsAlike (push_stage s c) (push_stage r d) × (said (events_of_push s c) ≡ said (events_of_push r d))

-- ---- kept as it is

pub stays_outside : (m : TokenState) → is_comment m ≡ false → outside m ≡ m
stays_outside m e = grind arith

same_alike : (s r : TextStage) → IsPlaced s r → is_comment s.state ≡ false → IsAlike s r
same_alike s r p e = record { place = p.place; next = p.next; same = p.same ∙ ap (λ (m : TokenState). placed p.place p.next (record s { state = m })) (sym (stays_outside s.state e)) }

module _ (at next : Place) (s : TextStage) (c : ℕ) where
  as_it_is : is_comment (push_stage s c).state ≡ false → StepAlike s c (placed at next s) (Some c)
  as_it_is e = (same_alike (push_stage s c) (push_stage (placed at next s) c) (push_placed at next s c) e, sym (push_same at next s c))

-- ---- in a tag, a raw part or a translation

after_tag : (t : TextStage) (e : TagEffect) → is_comment (stage_after_step t (step_at_tag_end e)).state ≡ false
after_tag t e = grind arith

module _ (facts : TextFacts) (p : Progress) (c : ℕ) where
  abbrev in_state : TokenState → TextStage
  in_state m = record { state = m; facts = facts; progress = p; ended = false }

  pub tag_on : (name : List ℕ) → is_comment (push_stage (in_state (Tag name)) c).state ≡ false
  tag_on name = grind (arith, and-false, after_tag)

  pub raw_on : (part : RawKind) (m : ℕ) → is_comment (push_stage (in_state (Raw part m)) c).state ≡ false
  raw_on part m = grind arith

  pub translation_on : is_comment (push_stage (in_state Translation) c).state ≡ false
  translation_on = grind arith

-- ---- between tokens

spaces_taken : (a b : Bool) → (a || b) ≡ true → (not a && not b) ≡ false
spaces_taken a b e = grind arith

or_starts : (word starts : Bool) → (word || starts) ≡ true → (not word || starts) ≡ starts
or_starts word starts e = grind arith

ended_still : (begun ended : Bool) → not (begun && not ended) ≡ true → (begun || ended) ≡ ended
ended_still begun ended e = grind arith

not_new : (begun ended : Bool) → not (begun && not ended) ≡ true → (begun && not ended) ≡ false
not_new begun ended e = grind arith

no_blank : (e : TagEffect) (word blank : Bool) → blank ≡ true → cond (word && not blank) (Some piece.Blank) (piece_kind kind.Blank e) ≡ None
no_blank e word blank b = grind arith

-- a character between tokens that is a blank
record IsBlankBetween (facts : TextFacts) (w : ℕ) : Type 0 where
  pub whole : first_step w ≡ Ends kind.Blank tag.Other
  pub kept : keep facts Plain w ≡ (if facts.space then None else Some 32)
  pub no_notes : (w == 40) ≡ false

blank_cases : (P : ℕ → Type 0) → P 32 → P 9 → P 10 → (c : ℕ) → is_blank c ≡ true → P c
blank_cases P a b d c e = grind arith

module _ (at next : Place) (facts : TextFacts) (p : Progress) where
  abbrev here : TextStage
  here = record { state = Plain; facts = facts; progress = p; ended = false }

  abbrev there : TextStage
  there = placed at next here

  -- a token by itself that is left out
  abbrev past_token : ℕ → TokenKind → TextStage
  past_token c k = token_stage (stage_past_char here c) k tag.Other (saturating_next_place p.next c)

  record IsLeftOut (c : ℕ) (k : TokenKind) : Type 0 where
    pub kept : keep facts Plain c ≡ None
    pub facts_are : facts_after facts k tag.Other ≡ facts
    pub no_piece : piece_by facts k tag.Other ≡ None
    pub begin : begin_after facts k p.pieces p.begin ≡ p.begin
    pub end : end_after facts k p.pieces p.end ≡ p.end
    pub start : p.start ≡ p.kept
    pub no_parts : (last to : ℕ) → parts_by facts (progress_past p c None) k last to (piece_kind k tag.Other) ≡ []

  left_out : (c : ℕ) (k : TokenKind) → IsLeftOut c k → past_token c k ≡ placed (saturating_next_place p.next c) (saturating_next_place p.next c) here
  left_out c k l = rw (l.kept, l.facts_are, l.no_piece, l.begin, l.end, l.start) refl

  -- a character that is such a token
  left_out_step : (c : ℕ) (k : TokenKind) → IsLeftOut c k → (c == 40) ≡ false → first_step c ≡ Ends k tag.Other → StepAlike here c there (keep facts Plain c)
  left_out_step c k l no_notes whole = rw l.kept (alike, silent)
    where
      pushed : push_stage here c ≡ placed (saturating_next_place p.next c) (saturating_next_place p.next c) here
      pushed = rw (no_notes, whole) (left_out c k l)

      alike : IsAlike (push_stage here c) there
      alike = record { place = at; next = next; same = ap (λ (s : TextStage). placed at next (uncommented s)) (sym pushed) }

      silent : said (events_of_push here c) ≡ []
      silent = rw no_notes (reading_said here c ∙ rw (l.kept, whole, l.no_parts p.kept p.kept) refl)

  -- a blank that is kept
  abbrev blank_said : List TextEvent
  blank_said = said_of_char (Some 32) ++ said_of_token facts p kind.Blank tag.Other p.kept

  -- a blank
  blank_step : (w : ℕ) → IsReached here → IsBlankBetween facts w → StepAlike here w there (keep facts Plain w)
  blank_step w reached b = rw b.kept (by facts.space refl)
    where
      said_here : facts.space ≡ false → said (events_of_push here w) ≡ blank_said
      said_here e = rw b.no_notes (reading_said here w ∙ rw (b.whole, b.kept, e) refl)

      said_there : facts.space ≡ false → said (events_of_push there 32) ≡ blank_said
      said_there e = reading_said there 32 ∙ rw e refl

      kept_none : facts.space ≡ true → keep facts Plain w ≡ None
      kept_none e = b.kept ∙ rw e refl

      by : (sp : Bool) → facts.space ≡ sp → StepAlike here w there (if sp then None else Some 32)
      by true e = subst (StepAlike here w there) (kept_none e) (left_out_step w kind.Blank (record {
        kept = kept_none e;
        facts_are = ap (λ (x : Bool). record facts { starts = x; blank = true; space = true }) (or_starts facts.word facts.starts (reached.starts e))
            ∙ ap (λ (x : Bool). record facts { blank = x; space = true }) (sym (reached.blank e))
            ∙ ap (λ (x : Bool). record facts { space = x }) (sym e);
        no_piece = no_blank tag.Other facts.word facts.blank (reached.blank e);
        begin = refl;
        end = refl;
        start = reached.start refl;
        no_parts = λ last to. rw (spaces_taken facts.word facts.starts (reached.starts e)) refl;
      }) b.no_notes b.whole)
      by false e = (
        record { place = saturating_next_place next 32; next = saturating_next_place next 32; same = rw (b.no_notes, b.whole, b.kept, e) refl },
        said_here e ∙ sym (said_there e),
      )

  blank_at : (c : ℕ) → IsReached here → is_blank c ≡ true → StepAlike here c there (keep facts Plain c)
  blank_at c reached = blank_cases (λ w. StepAlike here w there (keep facts Plain w))
      (blank_step 32 reached (record { whole = refl; kept = refl; no_notes = refl }))
      (blank_step 9 reached (record { whole = refl; kept = refl; no_notes = refl }))
      (blank_step 10 reached (record { whole = refl; kept = refl; no_notes = refl }))
      c

  -- a token by itself that is kept as it is
  kept_token : (c : ℕ) (k : TokenKind) → (c == 40) ≡ false → first_step c ≡ Ends k tag.Other → keep facts Plain c ≡ Some c → StepAlike here c there (keep facts Plain c)
  kept_token c k no_notes whole kept = rw kept (as_it_is at next here c (rw (no_notes, whole) refl))

  single_step : (c : ℕ) → IsReached here → (c == 40) ≡ false → (c == 37) ≡ false → first_step c ≡ Ends (single c) tag.Other → is_blank c ≡ false → StepAlike here c there (keep facts Plain c)
  single_step c reached no_notes no_comment whole no_blank = by (is_one_of (codes ")]>") c) (c == 123) (c == 125) refl refl refl
    where
      single_is : (k : TokenKind) → single c ≡ k → first_step c ≡ Ends k tag.Other
      single_is k e = whole ∙ ap (λ (x : TokenKind). Ends x tag.Other) e

      by : (x y z : Bool) → is_one_of (codes ")]>") c ≡ x → (c == 123) ≡ y → (c == 125) ≡ z → StepAlike here c there (keep facts Plain c)
      by true y z f g h =
          left_out_step c kind.Stray (record {
            kept = rw (no_comment, no_blank, f) refl;
            facts_are = refl;
            no_piece = refl;
            begin = refl;
            end = refl;
            start = reached.start refl;
            no_parts = λ last to. refl;
          }) no_notes (single_is kind.Stray (rw (no_blank, f) refl))
      by false true z f g h = begin facts.begun refl
        where
          begin : (b : Bool) → facts.begun ≡ b → StepAlike here c there (keep facts Plain c)
          begin b e = grind (arith, left_out_step, no_blank, kept_token)
      by false false true f g h = end (not (facts.begun && not facts.ended)) refl
        where
          end : (b : Bool) → not (facts.begun && not facts.ended) ≡ b → StepAlike here c there (keep facts Plain c)
          end b e = grind (arith, left_out_step, no_blank, ended_still, not_new, kept_token)
      by false false false f g h = kept_token c kind.Letter no_notes (single_is kind.Letter (rw (no_blank, f, g, h) refl)) (rw (no_comment, no_blank, f, g, h) refl)

  -- a character between tokens
  plain_step : (c : ℕ) → IsReached here → (push_stage here c).ended ≡ false → StepAlike here c there (keep facts Plain c)
  plain_step c reached = by_case 40 c (λ x. (push_stage here x).ended ≡ false → StepAlike here x there (keep facts Plain x)) (λ goes. absurd (cc)) (λ no_notes _. goes_on no_notes)
    where
      others : (c == 40) ≡ false → (c == 36) ≡ false → (c == 37) ≡ false → (c == 60) ≡ false → (c == 91) ≡ false → StepAlike here c there (keep facts Plain c)
      others n d e t b = grind (arith, blank_at, single_step)

      goes_on : (c == 40) ≡ false → StepAlike here c there (keep facts Plain c)
      goes_on n =
          by_case 36 c (λ x. (x == 40) ≡ false → StepAlike here x there (keep facts Plain x)) (λ _. as_it_is at next here 36 refl) (λ d.
          by_case 37 c (λ x. (x == 40) ≡ false → StepAlike here x there (keep facts Plain x)) (λ _. (record { place = at; next = next; same = refl }, refl)) (λ e.
          by_case 60 c (λ x. (x == 40) ≡ false → StepAlike here x there (keep facts Plain x)) (λ _. as_it_is at next here 60 refl) (λ t.
          by_case 91 c (λ x. (x == 40) ≡ false → StepAlike here x there (keep facts Plain x)) (λ _. as_it_is at next here 91 refl) (λ b n.
          others n d e t b)))) n

-- ---- after a `$`

-- a character that is a blank, by itself and no escape
record IsBlankAfter (w : ℕ) : Type 0 where
  pub whole : first_step w ≡ Ends kind.Blank tag.Other
  pub plain : is_special w ≡ false
  pub no_notes : (w == 40) ≡ false
  pub no_comment : (w == 37) ≡ false
  pub blank : single w ≡ kind.Blank

-- a character that is a letter by itself
record IsOrdinary (c : ℕ) : Type 0 where
  pub no_notes : (c == 40) ≡ false
  pub no_comment : (c == 37) ≡ false
  pub letter : single c ≡ kind.Letter
  pub whole : first_step c ≡ Ends kind.Letter tag.Other

ordinary : (c : ℕ) → is_blank c ≡ false → is_special c ≡ false → IsOrdinary c
ordinary c no_blank e = grind arith

module _ (facts : TextFacts) (p : Progress) where
  abbrev in_dollar : Place → Place → TextStage
  in_dollar at next = record { state = Dollar; facts = facts; progress = record p { place = at; next = next }; ended = false }

  -- the `$` is a letter, and the blank is kept
  dollar_said : (at next : Place) (w : ℕ) → IsBlankAfter w
      → said (events_of_push (in_dollar at next) w) ≡ said_of_token facts p kind.Letter tag.Other p.start ++ said_of_char (Some 32)
  dollar_said at next w b = grind arith

  dollar_blank : (at next other more : Place) (w : ℕ) → IsBlankAfter w → StepAlike (in_dollar other more) w (in_dollar at next) (kept_at (in_dollar other more) w)
  dollar_blank at next other more w b = rw kept alike
    where
      kept : kept_at (in_dollar other more) w ≡ Some 32
      kept = rw (b.plain, b.no_comment, b.blank) refl

      alike : StepAlike (in_dollar other more) w (in_dollar at next) (Some 32)
      alike = (
        record { place = saturating_next_place next 32; next = saturating_next_place next 32; same = rw (b.plain, b.whole, b.no_notes, b.no_comment, b.blank) refl },
        dollar_said other more w b ∙ sym (dollar_said at next 32 (record { whole = refl; plain = refl; no_notes = refl; no_comment = refl; blank = refl })),
      )

  -- an escape, or a letter after the `$`
  dollar_letter : (at next other more : Place) (c : ℕ) → is_blank c ≡ false → (push_stage (in_dollar other more) c).ended ≡ false
      → StepAlike (in_dollar other more) c (in_dollar at next) (kept_at (in_dollar other more) c)
  dollar_letter at next other more c no_blank goes = by (is_special c) refl
    where
      by : (b : Bool) → is_special c ≡ b → StepAlike (in_dollar other more) c (in_dollar at next) (kept_at (in_dollar other more) c)
      by true e = rw kept (as_it_is at next (in_dollar other more) c (rw (e, and-false (c == 40)) refl))
        where
          kept : kept_at (in_dollar other more) c ≡ Some c
          kept = rw e refl
      by false e = rw kept (as_it_is at next (in_dollar other more) c (rw (e, o.no_notes, o.whole) refl))
        where
          o : IsOrdinary c
          o = ordinary c no_blank e

          kept : kept_at (in_dollar other more) c ≡ Some c
          kept = rw (e, o.no_comment, o.letter) refl

  dollar_step : (at next other more : Place) (c : ℕ) → (push_stage (in_dollar other more) c).ended ≡ false → StepAlike (in_dollar other more) c (in_dollar at next) (kept_at (in_dollar other more) c)
  dollar_step at next other more c goes = by (is_blank c) refl
    where
      by : (b : Bool) → is_blank c ≡ b → StepAlike (in_dollar other more) c (in_dollar at next) (kept_at (in_dollar other more) c)
      by true e = blank_cases (λ w. StepAlike (in_dollar other more) w (in_dollar at next) (kept_at (in_dollar other more) w))
          (dollar_blank at next other more 32 (record { whole = refl; plain = refl; no_notes = refl; no_comment = refl; blank = refl }))
          (dollar_blank at next other more 9 (record { whole = refl; plain = refl; no_notes = refl; no_comment = refl; blank = refl }))
          (dollar_blank at next other more 10 (record { whole = refl; plain = refl; no_notes = refl; no_comment = refl; blank = refl }))
          c e
      by false e = dollar_letter at next other more c e goes

-- ---- in any state

pub comment_kept : (s : TextStage) (c : ℕ) → s.state ≡ Comment → (c == 10) ≡ false → kept_at s c ≡ None
comment_kept s c e n = rw (e, n) refl

-- the LF after a comment stands between tokens
comment_ends : (facts : TextFacts) (p : Progress) → p.start ≡ p.kept
    → push_stage (record { state = Comment; facts = facts; progress = p; ended = false }) 10 ≡ push_stage (placed p.next p.next (record { state = Plain; facts = facts; progress = p; ended = false })) 10
comment_ends facts p start = rw start refl

comment_says : (facts : TextFacts) (p : Progress) → p.start ≡ p.kept
    → said (events_of_push (record { state = Comment; facts = facts; progress = p; ended = false }) 10) ≡ said (events_of_push (placed p.next p.next (record { state = Plain; facts = facts; progress = p; ended = false })) 10)
comment_says facts p start = refl

step_as : (s t r : TextStage) (c : ℕ) (o : Option ℕ) → push_stage s c ≡ push_stage t c → said (events_of_push s c) ≡ said (events_of_push t c) → StepAlike t c r o → StepAlike s c r o
step_as s t r c o e f h = grind arith

module _ (at next : Place) (facts : TextFacts) (p : Progress) where
  abbrev in_comment : TextStage
  in_comment = record { state = Comment; facts = facts; progress = p; ended = false }

  abbrev after_comment : TextStage
  after_comment = placed p.next p.next (record { state = Plain; facts = facts; progress = p; ended = false })

  feed_step : IsReached in_comment → (push_stage in_comment 10).ended ≡ false → StepAlike in_comment 10 (placed at next after_comment) (kept_at in_comment 10)
  feed_step reached goes =
      step_as in_comment after_comment (placed at next after_comment) 10 (keep facts Plain 10) (comment_ends facts p (reached.start refl)) (comment_says facts p (reached.start refl))
      (plain_step at next facts (record p { place = p.next; next = p.next }) 10
      (record { between = λ _. refl; start = reached.start; blank = reached.blank; starts = reached.starts })
      (ap (λ (x : TextStage). x.ended) (sym (comment_ends facts p (reached.start refl))) ∙ goes))

-- What a character does to a stage that has read a text.
pub step_alike : (s r : TextStage) (c : ℕ) → IsReached s → s.ended ≡ false → (push_stage s c).ended ≡ false → IsAlike s r → StepAlike s c r (kept_at s c)
step_alike s r c reached on goes alike = subst (λ (x : TextStage). StepAlike s c x (kept_at s c)) (sym alike.same) (by s.state s.ended on reached goes)
  where
    by : (m : TokenState) (d : Bool) → d ≡ false → IsReached (record { state = m; facts = s.facts; progress = s.progress; ended = d }) → (push_stage (record { state = m; facts = s.facts; progress = s.progress; ended = d }) c).ended ≡ false
        → StepAlike (record { state = m; facts = s.facts; progress = s.progress; ended = d }) c (placed alike.place alike.next (uncommented (record { state = m; facts = s.facts; progress = s.progress; ended = d }))) (kept_at (record { state = m; facts = s.facts; progress = s.progress; ended = d }) c)
    by m true e reached goes = absurd (cc)
    by Plain false e reached goes = plain_step alike.place alike.next s.facts s.progress c reached goes
    by Dollar false e reached goes = dollar_step s.facts s.progress alike.place alike.next s.progress.place s.progress.next c goes
    by (Tag name) false e reached goes = as_it_is alike.place alike.next (record { state = Tag name; facts = s.facts; progress = s.progress; ended = false }) c (tag_on s.facts s.progress c name)
    by (Raw part m) false e reached goes = as_it_is alike.place alike.next (record { state = Raw part m; facts = s.facts; progress = s.progress; ended = false }) c (raw_on s.facts s.progress c part m)
    by Translation false e reached goes = as_it_is alike.place alike.next (record { state = Translation; facts = s.facts; progress = s.progress; ended = false }) c (translation_on s.facts s.progress c)
    by Comment false e reached goes = comment (c == 10) refl
      where
        comment : (b : Bool) → (c == 10) ≡ b → StepAlike (record { state = Comment; facts = s.facts; progress = s.progress; ended = false }) c (placed alike.place alike.next (record { state = Plain; facts = s.facts; progress = s.progress; ended = false })) (kept_at (record { state = Comment; facts = s.facts; progress = s.progress; ended = false }) c)
        comment true f =
            subst (λ (x : ℕ). (push_stage (record { state = Comment; facts = s.facts; progress = s.progress; ended = false }) x).ended ≡ false
            → StepAlike (record { state = Comment; facts = s.facts; progress = s.progress; ended = false }) x (placed alike.place alike.next (record { state = Plain; facts = s.facts; progress = s.progress; ended = false })) (kept_at (record { state = Comment; facts = s.facts; progress = s.progress; ended = false }) x))
            (sym (eqb-true c 10 f)) (feed_step alike.place alike.next s.facts s.progress reached) goes
        comment false f = rw f (record { place = alike.place; next = alike.next; same = rw (f, and-false (c == 40)) refl }, rw (f, and-false (c == 40)) refl)
