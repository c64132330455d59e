-- Syllables that are written joined, in canonical form.
use Rattle.std.proofs.Common.{◌≡◌, ℕ, suc, ◌-◌, ◌^◌, ◌≤◌, Bool, true, List, [], ◌∷◌, ◌++◌, length, map, arith, sym, ap, ◌∙◌, append_assoc, append-nil}
use Rattle.gabc_places.specs.StageLaw.{concat_of}
use Rattle.gabc_body.specs.Canonical.{canonical_in_place}
use Rattle.gabc_score.specs.GivesSyllables.{AreJoined, spelled_canonical}
use Rattle.gabc_body.specs.ScoreEvents.{Syllable}
use Rattle.gabc_body.specs.Syllable.{PlacedSyllable}
use Rattle.gregorio_jobs.specs.declared.job.Format.TheVariants.{Gabc}
use Rattle.gregorio.specs.machine.OutputsOfARun.{one_then, past_none}
use Rattle.gregorio.specs.machine.RunWriter.{RunWriterState, outputs_of_syllables, past_output, past_syllables, with_joined}

-- a syllable by itself
one_joined : (w : RunWriterState) (s : PlacedSyllable) → w.written.format ≡ Gabc → w.written.headed ≡ true → with_joined w (canonical_in_place s) 1 ≡ past_output w (Syllable s)
one_joined w s canonical headed = grind (arith, append-nil)

none_joined : (w : RunWriterState) → w.written.count ≤ 2 ^ 64 - 1 → with_joined w [] 0 ≡ w
none_joined w fits = grind (arith, append-nil)

-- one, and then others
one_then_joined : (w : RunWriterState) (a b : List ℕ) (n : ℕ) → with_joined (with_joined w a 1) b n ≡ with_joined w (a ++ b) (suc n)
one_then_joined w a b n = grind (arith, append_assoc)

all_joined : (w : RunWriterState) (ss : List PlacedSyllable) → w.written.format ≡ Gabc → w.written.headed ≡ true → w.written.count ≤ 2 ^ 64 - 1
    → with_joined w (concat_of (map canonical_in_place ss)) (length ss) ≡ past_syllables w ss
all_joined w [] canonical headed fits = none_joined w fits ∙ sym (past_none w)
all_joined w (s ∷ ss) canonical headed fits =
    let v = with_joined w (canonical_in_place s) 1 in
    sym (one_then_joined w (canonical_in_place s) (concat_of (map canonical_in_place ss)) (length ss))
    ∙ (all_joined v ss canonical headed (omega arith)
    ∙ (ap (λ (u : RunWriterState). past_syllables u ss) (one_joined w s canonical headed)
    ∙ one_then w (Syllable s) (outputs_of_syllables ss)))

-- A writer that has put their joined text has written the syllables.
pub past_joined : (w : RunWriterState) (starts : Bool) (text : List ℕ) (count : ℕ) (ss : List PlacedSyllable) → AreJoined starts text count ss
    → w.written.format ≡ Gabc → w.written.headed ≡ true → w.written.count ≤ 2 ^ 64 - 1
    → with_joined w (spelled_canonical starts text) count ≡ past_syllables w ss
past_joined w starts text count ss are canonical headed fits = grind (arith, all_joined)
