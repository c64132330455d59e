use Rattle.std.proofs.Common.{◌<◌, ◌^◌, ℕ, List, length, sym, subst}
use lib.Utf8.{encodes}
use Rattle.gabc_score.proofs.regular_syllables.RegularSyllableIsMade.{unit_text, held_spelled, given, found_none}
use Rattle.gabc_score.proofs.regular_laws.a_regular_syllable_makes_its_spelling.Goals as goal

pub returns : goal.returns
returns c lines macros at r before h fits since =
    let text = c.a_regular_text_is_printed_as_it_stands.ensures in
    let after = c.blanks_before_a_regular_text_begin_a_word.ensures in
    let view = c.spans_stand_for_the_view.ensures in
    let one = given c.what_follows_emits_nothing.ensures.prefix c.what_follows_emits_nothing-2.ensures.prefix lines macros c.a_text_ends_once.ensures c.events_build_the_text.ensures.events view.view
    c.events_by_point_are_the_events.ensures.joined c.findings_lie_within.ensures.all text.found text.ends after.found after.ends at r h in
    let none = found_none c.what_follows_emits_nothing.ensures.prefix c.what_follows_emits_nothing-2.ensures.prefix lines macros c.a_text_ends_once.ensures c.events_build_the_text.ensures.events view.view
    c.events_by_point_are_the_events.ensures.joined c.findings_lie_within.ensures.all text.found text.ends after.found after.ends at r h in
    let codes_are = unit_text view.starts text.says after.says text.kept after.kept c.canonical_is_printed.ensures c.kept_again.ensures.snippet c.kept_again-2.ensures.snippet lines at r h in
    let g = one (subst (λ (t : List ℕ). length (encodes t) < 2 ^ 63) (sym codes_are) fits) before since in
    let spelled = held_spelled view.starts text.says after.says text.kept after.kept c.canonical_is_printed.ensures c.kept_again.ensures.snippet c.kept_again-2.ensures.snippet lines at r h g.made g.holds in
    record { one = g; nothing = none before; kept_is = spelled.kept_is; starts_is = spelled.starts_is; canonical_is = spelled.canonical_is; text_is = spelled.text_is; snippets_are = spelled.snippets_are; spans_are = spelled.spans_are }
