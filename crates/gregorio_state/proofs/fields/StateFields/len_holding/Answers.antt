use Rattle.std.proofs.Common.{ap, ◌∙◌, ◌≤◌, subst, sym}
use Rattle.std.specs.Prelude.{max, ◌+◌, ◌*◌}
use Rattle.gabc_places.specs.Put.{counted_with}
use Rattle.gregorio_state.specs.Fields.{fields_of, holding}
use Rattle.gregorio_state.specs.StateBytes.{state_bytes}
use Rattle.gregorio_state.proofs.LengthsOfStates.{state_length, state_counted}
use Rattle.gregorio_state.proofs.fields.StateFields.len_holding.Goals as goal

pub returns-clause-len : goal.returns-clause-len
returns-clause-len g c =
    let s = holding (g.H.PutText.text c.args.held.now) (fields_of c.args.self.now) in c.count.ensures ∙ c.write_holding.ensures ∙ ap (λ n. counted_with n (state_bytes s)) c.new-counter.ensures ∙ state_counted s c.requires

pub returns-clause-short : goal.returns-clause-short
returns-clause-short g c = let s = holding (g.H.PutText.text c.args.held.now) (fields_of c.args.self.now) in subst (λ n. n ≤ max s.header_limit (2 * s.syllable_limit) + 128) (sym (returns-clause-len g c)) (state_length s c.requires)
