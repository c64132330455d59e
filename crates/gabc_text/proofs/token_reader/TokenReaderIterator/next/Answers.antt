use Rattle.std.proofs.Common.{◌-◌, ℕ, List, ◌∷◌, ap, sym, ◌∙◌, arith}
use Rattle.std.proofs.lemmas.Str.{IsCharBoundary-from_drop}
use Rattle.gabc_text.specs.TextTokens.{tokens_from}
use Rattle.gabc_text.proofs.tokens.TokensByBytes.{next_token, none_ahead}
use Rattle.gabc_text.proofs.token_reader.TokenReaderIterator.next.Goals as goal

pub overflow_sub-token : goal.overflow_sub-token
overflow_sub-token c =
    let next = next_token c.self.inside.rest.now c.self.inside.at c.in_ok-token.token c.self.invariant.0 (sym c.first_token.ensures ∙ c.in_ok-token.was) in
    next.order

pub range_from-self-inside-requires : goal.range_from-self-inside-requires
range_from-self-inside-requires c =
    let next = next_token c.self.inside.rest.now c.self.inside.at c.in_ok-token.token c.self.invariant.0 (sym c.first_token.ensures ∙ c.in_ok-token.was) in
    λ l. IsCharBoundary-from_drop c.self.inside.rest.now (c.in_ok-token.token.span.to - c.self.inside.at) next.within next.utf8

pub returns-in_err-token-clause-steps : goal.returns-in_err-token-clause-steps
returns-in_err-token-clause-steps c =
    let none = none_ahead (tokens_from c.self.inside.at c.self.inside.rest.now) (sym c.first_token.ensures ∙ c.in_err-token.was) in
    grind (arith, none)

pub returns-clause-steps : goal.returns-clause-steps
returns-clause-steps c =
    let next = next_token c.self.inside.rest.now c.self.inside.at c.in_ok-token.token c.self.invariant.0 (sym c.first_token.ensures ∙ c.in_ok-token.was) in
    sym c.self.view_is ∙ next.ahead ∙ ap (λ (rest : List ℕ). c.in_ok-token.token ∷ tokens_from c.in_ok-token.token.span.to rest) (sym c.range_from-self-inside.ensures.value)

pub returns-clause-goes : goal.returns-clause-goes
returns-clause-goes c = grind (arith, returns-clause-steps)
