-- The headers that are not too long.
use Rattle.std.proofs.Common.{◌≡◌, ℕ, List, [], ◌∷◌, ◌++◌, true, false, cond, codes, Result, Ok, Err, Option, None, Some, MatchOption, is_some, Bor, arith}
use Rattle.std.specs.Str.{chars}
use Rattle.gabc_places.specs.declared.place.Place.{Place}
use Rattle.gabc_places.specs.declared.limits.Limits.{Limits}
use Rattle.gabc_places.specs.declared.code.Code.TheVariants.{W1}
use Rattle.gabc_places.specs.declared.code.Fault.{Fault}
use Rattle.gabc_places.specs.declared.code.Finding.{Finding}
use Rattle.gabc_headers.specs.declared.heads.Heads.{Heads}
use Rattle.gabc_headers.specs.declared.heads.HeadFault.{HeadFault}
use Rattle.gabc_headers.specs.Book.{has_header}
use Rattle.gabc_headers.specs.machine.Collected.{heads_at_score, len_at_score, fault_at_end, end_fault}

-- the headers at their line `%%`, by what stops them there or by the length of their canonical lines
abbrev pub heads_by_len : Place → ℕ → List (List ℕ × List ℕ) → List Finding → Result ℕ Fault → Result Heads HeadFault
heads_by_len place body book found (Err fault) = Err (record { fault = fault; findings = found; at_end = false })
heads_by_len place body book found (Ok size) = Ok (record { book = book; body = body; findings = cond (has_header (codes "name") book) found (found ++ record { place = place; code = W1 } ∷ []) })

pub by_len : (limits : Limits) (place : Place) (body : ℕ) (line : Option ℕ) (book : List (List ℕ × List ℕ)) (found : List Finding)
    → heads_at_score limits place body line book found ≡ heads_by_len place body book found (len_at_score limits place line book)
by_len limits place body line book found = grind arith

-- at the end of the text
pub at_text_end : (place : Place) (line : Option ℕ) (found : List Finding) → fault_at_end place line found ≡ record { fault = end_fault place line; findings = found; at_end = true }
at_text_end place line found = grind arith

-- whether a header is found
pub found_same : (o : Option (Bor (List ℕ))) (p : Option (List ℕ)) → MatchOption o (p ≡ None) (λ v. p ≡ Some (chars v.now)) → is_some o ≡ is_some p
found_same o p h = grind arith
