-- What outputs say, one after the other.
use Rattle.std.proofs.Common.{◌≡◌, List, [], ◌∷◌, ◌++◌, Bool, map, Option, refl, ap, ◌∙◌, append_assoc, append-nil}
use Rattle.gabc_places.specs.declared.code.Fault.{Fault}
use Rattle.gabc_places.specs.declared.code.Finding.{Finding}
use Rattle.gabc_body.specs.Syllable.{PlacedSyllable}
use Rattle.gabc_body.specs.ScoreEvents.{ScoreOutput, Found, Syllable, outputs_of, findings_in, syllables_in, fault_in, has_end}

-- what outputs say together
pub record Said : Type 0 where
  pub findings : List Finding
  pub syllables : List PlacedSyllable
  pub fault : Option Fault
  pub ended : Bool

abbrev pub said_by : List ScoreOutput → Said
said_by outputs = record { findings = findings_in outputs; syllables = syllables_in outputs; fault = fault_in outputs; ended = has_end outputs }

-- these findings and syllables, and then what is said later
abbrev pub said_before : List Finding → List PlacedSyllable → Said → Said
said_before findings syllables later = record later { findings = findings ++ later.findings; syllables = syllables ++ later.syllables }

said_given : (ss : List PlacedSyllable) (outputs : List ScoreOutput) → said_by (map (λ s. Syllable s) ss ++ outputs) ≡ said_before [] ss (said_by outputs)
said_given [] outputs = refl
said_given (s ∷ ss) outputs = ap (λ (t : Said). record t { syllables = s ∷ t.syllables }) (said_given ss outputs)

pub found_first : (fs : List Finding) (outputs : List ScoreOutput) → said_by (map (λ f. Found f) fs ++ outputs) ≡ said_before fs [] (said_by outputs)
found_first [] outputs = refl
found_first (f ∷ fs) outputs = ap (λ (s : Said). record s { findings = f ∷ s.findings }) (found_first fs outputs)

-- findings and syllables come before what is said later
pub said_of : (fs : List Finding) (ss : List PlacedSyllable) (outputs : List ScoreOutput) → said_by (outputs_of fs ss ++ outputs) ≡ said_before fs ss (said_by outputs)
said_of fs ss outputs =
    ap said_by (append_assoc (map (λ f. Found f) fs) (map (λ s. Syllable s) ss) outputs)
    ∙ found_first fs (map (λ s. Syllable s) ss ++ outputs) ∙ ap (said_before fs []) (said_given ss outputs)

-- all that are given, where none is given later
pub given_syllables : (fs : List Finding) (ss : List PlacedSyllable) (tail : List ScoreOutput) → syllables_in tail ≡ [] → syllables_in (outputs_of fs ss ++ tail) ≡ ss
given_syllables fs ss tail none = ap (λ (s : Said). s.syllables) (said_of fs ss tail) ∙ rw none (append-nil ss)
