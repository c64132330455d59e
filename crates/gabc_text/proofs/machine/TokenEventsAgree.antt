-- What a token and the end give by the machine is what they give by the definitions.
use Rattle.std.proofs.Common.{◌≡◌, ℕ, List, Bool, ap}
use Rattle.gabc_text.specs.declared.text_facts.TextFacts.{TextFacts}
use Rattle.gabc_text.specs.declared.progress.Progress.{Progress}
use Rattle.gabc_text.specs.declared.text_event.TextEnd.{TextEnd}
use Rattle.gabc_text.specs.Token.{Token}
use Rattle.gabc_text.specs.View.{effect}
use Rattle.gabc_text.specs.machine.TextStage.{events_of_token, events_of_end, is_cut_end}
use Rattle.gabc_text.specs.witness.EventsLeft.{last_by, token_events_by, end_events_by}
use Rattle.gabc_text.proofs.machine.FactsPastTokens.{after}

-- what a token gives where it ends
pub whole_same : (facts : TextFacts) (progress : Progress) (k : Token) (cs : List ℕ) → events_of_token facts (after facts progress k.kind cs) k.kind (effect k) (last_by progress k cs) ≡ token_events_by facts progress k cs
whole_same facts progress k cs = cc

pub end_same : (facts : TextFacts) (progress : Progress) (h : TextEnd) (cut : Bool) → is_cut_end h ≡ cut → events_of_end facts progress h ≡ end_events_by facts progress cut h
end_same facts progress h cut e = ap (λ (b : Bool). end_events_by facts progress b h) e
