-- Whether an argument is there, by the rows of the matches.
use Rattle.std.proofs.Common.{◌≡◌, ◌∙◌, Option, Some, None, refl, sym, ap, arith}
use Rattle.std.specs.Prelude.{find, is_some, option_map, option_and_then}
use Rattle.std.specs.Borrow.{Bor}
use Rattle.std.specs.Str.{bytes_eq}
use Rattle.clap.specs.Facts.{Entry}
use Rattle.clap.specs.Matches.{matched_of}
use Rattle.clap.specs.Walk.{Row, Text, row_of, rows_of}
use Rattle.clap.specs.declared.parser.matches.Found.{Found}
use Rattle.clap.specs.declared.parser.matches.MatchedArg.{MatchedArg}
use Rattle.clap.proofs.WalkLemmas.{find_row}
use Rattle.gregorio_jobs.specs.Wants.{is_from_words, is_used}

pub is_used-rows : (f : Found) (id : Text)
    → is_from_words (option_and_then (λ (a : MatchedArg). a.source) (matched_of f id)) ≡ is_used id (rows_of f)
is_used-rows f id = ap is_from_words (go (find (λ e. bytes_eq e.0.now id) f.entries.items)
    ∙ ap (option_and_then (λ (r : Row). r.source)) (sym (find_row f.entries.items id)))
  where
    go : (o : Option Entry) → option_and_then (λ (a : MatchedArg). a.source) (option_map (λ e. e.1) o)
        ≡ option_and_then (λ (r : Row). r.source) (option_map row_of o)
    go None = refl
    go (Some e) = refl

-- a text is there, after a reference or not
pub is_some-texts : (o : Option (Bor Text)) → is_some (option_map (λ s. s.now) o) ≡ is_some o
is_some-texts o = grind arith
