use Rattle.std.proofs.Common.{sym, ap, ◌∙◌, List, ℕ, Option}
use Rattle.gabc_headers.specs.Book.{lines_by, value_named}
use Rattle.gabc_headers.proofs.entries.TextsAsBytes.{chars-nabc_lines}
use Rattle.gabc_headers.proofs.headers.Headers.nabc_lines.Goals as goal

pub returns-in-Some : goal.returns-in-Some
returns-in-Some c = c.lines_in.ensures ∙ sym (ap (λ (o : Option (List ℕ)). lines_by o) (sym (ap (λ (n : List ℕ). value_named n c.args.self.now) chars-nabc_lines) ∙ c.in-Some.ensures))

pub returns-in-None : goal.returns-in-None
returns-in-None c = sym (ap (λ (o : Option (List ℕ)). lines_by o) (sym (ap (λ (n : List ℕ). value_named n c.args.self.now) chars-nabc_lines) ∙ c.in-None.ensures))
