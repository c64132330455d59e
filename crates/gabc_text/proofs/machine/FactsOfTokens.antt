-- What the code keeps of the tokens so far is what the definitions say of them.
use Rattle.std.proofs.Common.{arith, ◌≡◌, ℕ, List, ◌∷◌, not, ◌||◌, ◌&&◌, is_some}
use Rattle.gabc_text.specs.declared.styles.Style.TheVariants.{B, C, E, I, Sc, Tt, Ul}
use Rattle.gabc_text.specs.declared.text_facts.TextFacts.{TextFacts}
use Rattle.gabc_text.specs.declared.token.TokenKind.{TokenKind}
use Rattle.gabc_text.specs.declared.token.TagEffect.{TagEffect}
use Rattle.gabc_text.specs.Events.{styles_of}
use Rattle.gabc_text.specs.Token.{Token, spelling}
use Rattle.gabc_text.specs.View.{effect, effect_as, is_open, is_open_after, has_word, follows_blank, follows_space, has_begin, has_end, has_translation, starts_word, is_left_out, piece_kind, is_word_kind, is_space, is_begin, is_end, is_translation}
use Rattle.gabc_text.specs.machine.TextFacts.{facts_after}

abbrev pub facts_of : List Token → TextFacts
facts_of before = record {
  styles = styles_of before;
  word = has_word before;
  blank = follows_blank before;
  space = follows_space before;
  begun = has_begin before;
  ended = has_end before;
  translated = has_translation before;
  starts = starts_word before;
}

-- what is seen after a token of this kind and sort
abbrev grown : List Token → TokenKind → TagEffect → TextFacts
grown before k s = record {
  styles = record {
    b = is_open_after B s (is_open B before);
    c = is_open_after C s (is_open C before);
    e = is_open_after E s (is_open E before);
    i = is_open_after I s (is_open I before);
    sc = is_open_after Sc s (is_open Sc before);
    tt = is_open_after Tt s (is_open Tt before);
    ul = is_open_after Ul s (is_open Ul before);
  };
  word = is_word_kind (piece_kind k s) || has_word before;
  blank = is_space k || (not (is_some (piece_kind k s)) && follows_blank before);
  space = is_space k || (is_left_out before k && follows_space before);
  begun = is_begin k || has_begin before;
  ended = (is_end k && has_begin before) || has_end before;
  translated = is_translation k || has_translation before;
  starts = (is_space k && not (has_word before)) || starts_word before;
}

after_kind : (before : List Token) (k : TokenKind) (t : List ℕ) → facts_after (facts_of before) k (effect_as k t) ≡ grown before k (effect_as k t)
after_kind before k t = grind arith

-- one token more
pub facts_more : (before : List Token) (k : Token) → facts_after (facts_of before) k.kind (effect k) ≡ facts_of (k ∷ before)
facts_more before k = after_kind before k.kind (spelling k)
