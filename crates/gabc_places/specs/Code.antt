-- The rank of a code among the codes of one place, and its row of the table.
use Rattle.std.specs.Prelude.{ℕ, ◌-◌, List, [], map, slice_index_or}
use Rattle.gabc_places.specs.declared.code.Code.{Code}
use Rattle.gabc_places.specs.declared.code.Code.TheVariants.{E1, E2, E3, E4, E5, E6, W1, W2, W3, W4, W5, W6, W7, W8, W9, W10, W11, W12, F1, F2, F3, F4, F5, F6, F7}
use Rattle.gabc_places.specs.declared.severity.Severity.{Severity}
use Rattle.gabc_places.specs.declared.severity.Severity.TheVariants.{Error, Warning, Fatal}
use Rattle.gabc_places.specs.declared.codes.TheConstants.{CODES}

-- E1 to E6, then W1 to W12, then F1 to F7
abbrev pub rank_of : Code → ℕ
rank_of E1 = 1
rank_of E2 = 2
rank_of E3 = 3
rank_of E4 = 4
rank_of E5 = 5
rank_of E6 = 6
rank_of W1 = 7
rank_of W2 = 8
rank_of W3 = 9
rank_of W4 = 10
rank_of W5 = 11
rank_of W6 = 12
rank_of W7 = 13
rank_of W8 = 14
rank_of W9 = 15
rank_of W10 = 16
rank_of W11 = 17
rank_of W12 = 18
rank_of F1 = 19
rank_of F2 = 20
rank_of F3 = 21
rank_of F4 = 22
rank_of F5 = 23
rank_of F6 = 24
rank_of F7 = 25

-- of each row of the table, in the order of the ranks: the severity of the code, its name in
-- messages, its text in messages
abbrev pub severity_of : Code → Severity
severity_of code = slice_index_or (map (λ row. row.0) CODES) (rank_of code - 1) Fatal

abbrev pub name_of : Code → List ℕ
name_of code = slice_index_or (map (λ row. row.1.now) CODES) (rank_of code - 1) []

abbrev pub text_of : Code → List ℕ
text_of code = slice_index_or (map (λ row. row.2.now) CODES) (rank_of code - 1) []

-- the severity of a code, by its letter
abbrev pub severity_by_kind : Code → Severity
severity_by_kind E1 = Error
severity_by_kind E2 = Error
severity_by_kind E3 = Error
severity_by_kind E4 = Error
severity_by_kind E5 = Error
severity_by_kind E6 = Error
severity_by_kind W1 = Warning
severity_by_kind W2 = Warning
severity_by_kind W3 = Warning
severity_by_kind W4 = Warning
severity_by_kind W5 = Warning
severity_by_kind W6 = Warning
severity_by_kind W7 = Warning
severity_by_kind W8 = Warning
severity_by_kind W9 = Warning
severity_by_kind W10 = Warning
severity_by_kind W11 = Warning
severity_by_kind W12 = Warning
severity_by_kind F1 = Fatal
severity_by_kind F2 = Fatal
severity_by_kind F3 = Fatal
severity_by_kind F4 = Fatal
severity_by_kind F5 = Fatal
severity_by_kind F6 = Fatal
severity_by_kind F7 = Fatal
