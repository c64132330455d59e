-- What a stage of headers gives before the body may come of a text.
use Rattle.std.proofs.Common.{◌≡◌, ℕ, ◌+◌, ◌<◌, ◌≤◌, List, [], ◌∷◌, ◌++◌, map, Result, Ok, Err, refl, arith}
use Rattle.std.specs.List.{All}
use Rattle.std.proofs.lemmas.List.Elements.{All-nil, All-cons, All-append}
use Rattle.gabc_places.specs.declared.code.Finding.{Finding}
use Rattle.gabc_places.specs.declared.limits.Limits.{Limits}
use Rattle.gabc_places.specs.declared.place.Char.{Char}
use Rattle.gabc_places.specs.declared.place.Place.{Place}
use Rattle.gabc_headers.specs.declared.head_event.HeadEvent.TheVariants.{Found, Stop}
use Rattle.gabc_headers.specs.declared.heads.HeadFault.{HeadFault}
use Rattle.gabc_headers.specs.declared.heads.Heads.{Heads}
use Rattle.gabc_headers.specs.Book.{macros_of, nabc_lines_of}
use Rattle.gabc_headers.specs.Canonical.{canonical_heads, header_lines}
use Rattle.gabc_headers.specs.HeadEvents.{event_of_book}
use Rattle.gabc_headers.specs.Heads.{heads_of}
use Rattle.gabc_headers.specs.Lines.{bytes_len}
use Rattle.gabc_headers.specs.witness.HeadEvents.{events_by, events_of_input, new_findings, reading}
use Rattle.gabc_score.specs.ScoreStage.{MayCome}
use Rattle.std.proofs.lemmas.Bool.{cond_both}

module _ (limits : Limits) (next : Place) where
  found_may_come : (fs : List Finding) → All (MayCome limits next) (map (λ f. Found f) fs)
  found_may_come [] = All-nil (MayCome limits next)
  found_may_come (f ∷ fs) = All-cons (MayCome limits next) (Found f) (map (λ f. Found f) fs) tt (found_may_come fs)

  module _ (within : (limits : Limits) (t : List ℕ) (heads : Heads) → heads_of limits t ≡ Ok heads → (bytes_len (header_lines heads.book) ≤ limits.header) × (bytes_len (canonical_heads heads.book) + 1 ≤ limits.input))
      (lines : (book : List (List ℕ × List ℕ)) → nabc_lines_of book ≤ 4) (macros : (book : List (List ℕ × List ℕ)) → macros_of book < 1024) (mark : (book : List (List ℕ × List ℕ)) → 2 ≤ bytes_len (canonical_heads book)) where
    pub headers_come : (t : List ℕ) (x : Char) → All (MayCome limits next) (events_of_input limits (reading t) (Ok x))
    headers_come t x = by (heads_of limits (t ++ x.c ∷ [])) refl
      where
        found : List Finding
        found = new_findings limits t (t ++ x.c ∷ [])

        by : (r : Result Heads HeadFault) → heads_of limits (t ++ x.c ∷ []) ≡ r → All (MayCome limits next) (events_by found r)
        by (Err stopped) e =
            cond_both stopped.at_end _ _ (All (MayCome limits next)) (λ e. found_may_come found) (λ e. All-cons (MayCome limits next) (Stop stopped.fault) [] tt (All-nil (MayCome limits next)))
        by (Ok heads) e =
            let size = (within limits (t ++ x.c ∷ []) heads e).1 in
            All-append (MayCome limits next) (map (λ f. Found f) found) (event_of_book heads.book ∷ []) (found_may_come found)
            (All-cons (MayCome limits next) (event_of_book heads.book) [] (record { few_lines = lines heads.book; ten_macros = macros heads.book; headers = mark heads.book; below = omega (arith, size) }) (All-nil (MayCome limits next)))
