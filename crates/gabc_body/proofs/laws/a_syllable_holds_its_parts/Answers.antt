use Rattle.std.proofs.Common.{ℕ, sym, ap, subst, ◌∙◌}
use Rattle.std.specs.List.{All}
use Rattle.gabc_body.specs.Holding.{HoldsParts, HoldsWithNotes, lines_by, lines_of}
use Rattle.gabc_body.specs.witness.EmittedScore.{emitted_score}
use Rattle.gabc_body.specs.Syllable.{PlacedSyllable}
use Rattle.gabc_body.proofs.score_events.PlainScores.{plain_of, alike}
use Rattle.gabc_body.proofs.holding.SnippetsLieInKeptText.{bytes_stand}
use Rattle.gabc_body.proofs.holding.ScoreHoldsParts.{score_holds, score_noted}
use Rattle.gabc_body.proofs.laws.a_syllable_holds_its_parts.Goals as goal

pub returns-clause-held : goal.returns-clause-held
returns-clause-held c limits ending t short =
    let a = alike limits ending t in
    let lines = ap lines_by (sym a.book) in
    subst (λ (k : ℕ). All (λ (s : PlacedSyllable). HoldsParts t k s.made) (emitted_score limits ending t).syllables) lines
    (subst (All (λ (s : PlacedSyllable). HoldsParts t (lines_of (plain_of limits ending t)) s.made)) (sym a.syllables)
    (score_holds c.a_text_ends_once.ensures c.events_build_the_text.ensures.events c.spans_stand_for_the_view.ensures.view limits ending t short))

pub returns-clause-noted : goal.returns-clause-noted
returns-clause-noted c limits ending t short before after s next e =
    let a = alike limits ending t in
    subst (λ (k : ℕ). HoldsWithNotes t k s.made) (ap lines_by (sym a.book))
    (score_noted c.a_text_ends_once.ensures c.events_build_the_text.ensures.events c.spans_stand_for_the_view.ensures.view limits ending t short before after s next (sym a.syllables ∙ e))

pub returns-clause-bytes : goal.returns-clause-bytes
returns-clause-bytes c = bytes_stand
