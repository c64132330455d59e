use Rattle.std.proofs.Common.{◌≡◌, ◌<◌, ◌^◌, ℕ, List, true, length, encode_utf8_all, Ok, sym, subst, arith}
use Rattle.std.specs.List.{All}
use Rattle.gabc_places.proofs.texts.TextsAreScalars.{text_scalars, text_short}
use Rattle.gabc_places.specs.Text.{text_of_bytes, decoded_of}
use Rattle.gabc_places.specs.declared.limits.Limits.{Limits}
use Rattle.gabc_headers.specs.Heads.{heads_of}
use Rattle.gabc_headers.specs.declared.heads.Heads.{Heads}
use Rattle.gabc_body.specs.Holding.{HoldsParts, lines_of}
use Rattle.gabc_body.specs.Score.{score_of}
use Rattle.gabc_body.specs.Syllable.{PlacedSyllable}
use Rattle.gabc_body.specs.declared.score.Score.{Score}
use Rattle.gabc_tree.specs.Tree.{ending_by}
use Rattle.gabc_tree.proofs.WholeTree.{is_one_tree, sound_of}
use Rattle.gabc_tree.proofs.fates.OfScore.{syllables_well}
use Rattle.gabc_tree.proofs.syllables.KeptSyllables.{AreSound}
use Rattle.gabc_tree.proofs.nested_laws.nodes_of_an_input_are_one_tree.Goals as goal

pub returns : goal.returns
returns c = λ limits bytes short few. is_one_tree limits bytes (omega (arith, short)) (omega (arith, few)) (sound limits bytes)
  where
    sound : (limits : Limits) (bytes : List ℕ) (heads : Heads) → heads_of limits (text_of_bytes limits.input bytes) ≡ Ok heads
        → AreSound (score_of limits (ending_by (decoded_of limits true bytes).fault) (text_of_bytes limits.input bytes)).syllables
    sound limits bytes heads e =
        let text = text_of_bytes limits.input bytes in
        let ending = ending_by (decoded_of limits true bytes).fault in
        let size = text_short limits.input bytes in
        let most = limits.in_range.input_most in
        let small : length (encode_utf8_all text) < 2 ^ 63 = omega (arith, size, most) in
        let score : Score = score_of limits ending text in
        sound_of text (lines_of score) score.syllables (syllables_well limits bytes heads e)
        (subst (λ (s : Score). All (λ (m : PlacedSyllable). HoldsParts text (lines_of s) m.made) s.syllables) (sym (c.a_score_says_what_is_kept.ensures.score limits ending text (text_scalars limits.input bytes) small))
        (c.a_syllable_holds_its_parts.ensures.held limits ending text small))
