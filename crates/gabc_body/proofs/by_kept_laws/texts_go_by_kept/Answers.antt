use Rattle.gabc_body.proofs.by_kept.TextsGo.{texts_go}
use Rattle.gabc_body.proofs.by_kept_laws.texts_go_by_kept.Goals as goal

pub returns : goal.returns
returns c = texts_go c.text_events_are_by_kept.ensures c.a_text_says_what_is_kept.ensures c.events_build_the_text.ensures.events c.events_build_the_text.ensures.kept c.events_by_point_are_the_events.ensures.joined c.a_text_ends_once.ensures
