-- What was seen past some tokens, and where they leave the machine, one token at a time.
use Rattle.std.proofs.Common.{arith, ◌≡◌, ℕ, List, [], ◌∷◌, ◌++◌, false, not, ◌||◌, ◌&&◌, refl, sym, ap, ◌∙◌, drop, length, is_some}
use Rattle.std.specs.Char.{len_utf8}
use Rattle.gabc_places.specs.declared.place.Place.{Place}
use Rattle.gabc_text.specs.declared.styles.Style.TheVariants.{B, C, E, I, Sc, Tt, Ul}
use Rattle.gabc_text.specs.declared.text_facts.TextFacts.{TextFacts}
use Rattle.gabc_text.specs.declared.token.TokenKind.{TokenKind}
use Rattle.gabc_text.specs.declared.token.TagEffect.{TagEffect}
use Rattle.gabc_text.specs.declared.token_state.TokenState.TheVariants.{Plain}
use Rattle.gabc_text.specs.declared.progress.Progress.{Progress}
use Rattle.gabc_text.specs.declared.stage.TextStage.{TextStage}
use Rattle.gabc_text.specs.Token.{Token, spelling}
use Rattle.gabc_text.specs.View.{effect, effect_as, is_open_after, has_word, has_begin, has_translation, piece_kind, is_word_kind, is_space, is_begin, is_end, is_translation}
use Rattle.gabc_text.specs.machine.TextFacts.{facts_after}
use Rattle.gabc_text.specs.TextStage.{count_plus}
use Rattle.gabc_places.specs.Place.{saturating_next_place}
use Rattle.gabc_text.specs.machine.TextStage.{progress_after}
use Rattle.gabc_text.specs.witness.FactsPast.{is_open_past, blank_past, begun_past, ended_past, space_past, starts_past, facts_past, past, bytes_past, leaves_out}
use Rattle.gabc_text.specs.witness.EventsLeft.{kept_after, facts_at, read_at, ahead_at, progress_at}

-- ---- what was seen

module _ (facts : TextFacts) (before : List Token) where
  -- what is seen after a token of this kind and sort
  abbrev grown : TokenKind → TagEffect → TextFacts
  grown k s = record {
    styles = record {
      b = is_open_after B s (is_open_past B facts.styles.b before);
      c = is_open_after C s (is_open_past C facts.styles.c before);
      e = is_open_after E s (is_open_past E facts.styles.e before);
      i = is_open_after I s (is_open_past I facts.styles.i before);
      sc = is_open_after Sc s (is_open_past Sc facts.styles.sc before);
      tt = is_open_after Tt s (is_open_past Tt facts.styles.tt before);
      ul = is_open_after Ul s (is_open_past Ul facts.styles.ul before);
    };
    word = (is_word_kind (piece_kind k s) || has_word before) || facts.word;
    blank = is_space k || (not (is_some (piece_kind k s)) && blank_past facts.blank before);
    space = is_space k || (leaves_out (record facts { begun = begun_past facts before; ended = ended_past facts before }) k && space_past facts before);
    begun = (is_begin k || has_begin before) || facts.begun;
    ended = (is_end k && begun_past facts before) || ended_past facts before;
    translated = (is_translation k || has_translation before) || facts.translated;
    starts = (is_space k && not (has_word before || facts.word)) || starts_past facts before;
  }

  after_kind : (k : TokenKind) (t : List ℕ) → facts_after (facts_past facts before) k (effect_as k t) ≡ grown k (effect_as k t)
  after_kind k t = grind arith

-- one token more
pub facts_step : (facts : TextFacts) (before : List Token) (k : Token) → facts_past facts (k ∷ before) ≡ facts_after (facts_past facts before) k.kind (effect k)
facts_step facts before k = sym (after_kind facts before k.kind (spelling k))

-- one token less: what it shows is seen from the beginning
pub facts_on : (facts : TextFacts) (k : Token) (before : List Token) → facts_past facts (before ++ k ∷ []) ≡ facts_past (facts_after facts k.kind (effect k)) before
facts_on facts k [] = facts_step facts [] k
facts_on facts k (j ∷ before) = simp (facts_step, facts_on facts k before)

-- ---- where the machine stands

pub past_append : (p : Place) (s t : List ℕ) → past p (s ++ t) ≡ past (past p s) t
past_append p [] t = refl
past_append p (c ∷ s) t = past_append (saturating_next_place p c) s t

pub bytes_past_append : (n : ℕ) (s t : List ℕ) → bytes_past n (s ++ t) ≡ bytes_past (bytes_past n s) t
bytes_past_append n [] t = refl
bytes_past_append n (c ∷ s) t = bytes_past_append (count_plus n (len_utf8 c)) s t

-- after a token, which is not counted yet
abbrev pub after : TextFacts → Progress → TokenKind → List ℕ → Progress
after facts progress k cs = record progress { next = past progress.next cs; kept = kept_after facts progress k cs }

-- where the machine stands after a token, of which these characters were to come
abbrev pub spot_after : TextFacts → Progress → Token → List ℕ → Progress
spot_after facts progress k cs = progress_after facts (after facts progress k.kind cs) k.kind (effect k) (past progress.next cs)

module _ (read : List ℕ) (s : TextStage) where
  -- one token more
  pub progress_step : (before : List Token) (k : Token) → progress_at read s (k ∷ before) ≡ spot_after (facts_at read s before) (progress_at read s before) k (ahead_at read s before k)
  progress_step before k = grind (arith, past_append, bytes_past_append)

  -- the state past a token
  abbrev pub past_token : Token → TextStage
  past_token k = record {
    state = Plain;
    facts = facts_after s.facts k.kind (effect k);
    progress = spot_after s.facts s.progress k (drop (length read) (spelling k));
    ended = false;
  }

pub read_on : (read : List ℕ) (s : TextStage) (before : List Token) (k : Token) → read_at read s (before ++ k ∷ []) ≡ []
read_on read s [] k = refl
read_on read s (j ∷ before) k = refl

pub read_none : (s : TextStage) (before : List Token) → read_at [] s before ≡ []
read_none s before = grind arith

-- one token less: the machine goes on from the state past it
pub progress_on : (read : List ℕ) (s : TextStage) (k : Token) (before : List Token) → progress_at read s (before ++ k ∷ []) ≡ progress_at [] (past_token read s k) before
progress_on read s k [] = progress_step read s [] k
progress_on read s k (j ∷ before) =
    progress_step read s (before ++ k ∷ []) j
    ∙ ap (λ (x : TextFacts). spot_after x (progress_at read s (before ++ k ∷ [])) j (ahead_at read s (before ++ k ∷ []) j)) (facts_on s.facts k before)
    ∙ ap (λ (x : Progress). spot_after (facts_at [] (past_token read s k) before) x j (ahead_at read s (before ++ k ∷ []) j)) (progress_on read s k before)
    ∙ ap (λ (x : List ℕ). spot_after (facts_at [] (past_token read s k) before) (progress_at [] (past_token read s k) before) j (drop (length x) (spelling j))) (read_on read s before k ∙ sym (read_none (past_token read s k) before))
    ∙ sym (progress_step [] (past_token read s k) before j)
