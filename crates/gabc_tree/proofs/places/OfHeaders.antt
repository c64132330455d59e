-- What is found in headers, and what stops them, stands at places of the text.
use Rattle.std.proofs.Common.{ℕ, suc, ◌+◌, ◌≤◌, Bool, true, false, cond, not, ◌||◌, ◌&&◌, List, [], ◌∷◌, ◌++◌, map, filter, length, take, Option, Some, None, Result, Ok, Err, nat_lt, arith, codes, if◌then◌else◌}
use Rattle.gabc_places.specs.Findings.{Known, findings_before, Stop, or_earlier, earliest}
use Rattle.gabc_places.specs.Place.{place_after}
use Rattle.gabc_places.specs.declared.code.Code.TheVariants.{E5, W1, W2, F4, F7}
use Rattle.gabc_places.specs.declared.limits.Limits.{Limits}
use Rattle.gabc_places.specs.declared.place.Place.{Place}
use Rattle.gabc_headers.specs.Book.{book_of, is_kept, repeats, has_header}
use Rattle.gabc_headers.specs.Canonical.{header_lines}
use Rattle.gabc_headers.specs.Heads.{head_len, line_place, known_at, stop_at, findings_after, findings_of_name, findings_of_parts, names_after, open_line, first_above, is_line_percent, too_long, text_stops, open_stops, stops_of_score, missing_score, stops_of_parts, heads_of, heads_of_parts_by}
use Rattle.gabc_headers.specs.Lines.{bytes_len, lines, head_of, has_score, is_score_line, is_bare, has_colon, has_mark, before_colon, after_colon, before_mark, mark_end}
use Rattle.gabc_headers.specs.Parts.{HeaderPart, left_out, header, unended, name_of, bad_name_parts, ended_parts}
use Rattle.gabc_headers.specs.declared.heads.Heads.{Heads}
use Rattle.gabc_headers.specs.declared.heads.HeadFault.{HeadFault}
use Rattle.gabc_headers.specs.witness.Parts.{LineContext, outside, within, parts_of_line, context_below, parts_left_open, parts, head_parts}
use Rattle.gabc_tree.proofs.places.OfText.{IsPlaceOf, place_within, place_at_end, line_within, AllIn}

-- the lines before the line `%%` are lines of the text
few_lines : (ls : List (List ℕ)) → length (head_of ls) ≤ length ls
few_lines [] = omega arith
few_lines (l ∷ ls) = by (is_score_line l) (few_lines ls)
  where
    by : (o : Bool) → length (head_of ls) ≤ length ls → length (cond o [] (l ∷ head_of ls)) ≤ suc (length ls)
    by true h = omega arith
    by false h = omega (arith, h)

module _ (t : List ℕ) where
  abbrev In : Place → Type 0
  In p = IsPlaceOf t p

  -- ---- parts

  abbrev PartIn : HeaderPart → Type 0
  PartIn (left_out k p) = In (line_place k)
  PartIn (header k name value p) = In (line_place k)
  PartIn (unended k) = In (line_place k)

  abbrev PartsIn : List HeaderPart → Type 0
  PartsIn [] = Unit {0}
  PartsIn (p ∷ ps) = PartIn p × PartsIn ps

  joined_parts : (ps qs : List HeaderPart) → PartsIn ps → PartsIn qs → PartsIn (ps ++ qs)
  joined_parts [] qs h i = i
  joined_parts (p ∷ ps) qs h i = (h.0, joined_parts ps qs h.1 i)

  abbrev ContextIn : LineContext → Type 0
  ContextIn outside = Unit {0}
  ContextIn (within k name value) = In (line_place k)

  ended_in : (k : ℕ) (name : Option (List ℕ)) (value : List ℕ) (p : ℕ) → In (line_place k) → PartsIn (ended_parts k name value p)
  ended_in k None value p h = tt
  ended_in k (Some name) value p h = (h, tt)

  bad_in : (k : ℕ) (name : Option (List ℕ)) (p : ℕ) → In (line_place k) → PartsIn (bad_name_parts k name p)
  bad_in k None p h = (h, tt)
  bad_in k (Some name) p h = tt

  either_parts : (o : Bool) (ps qs : List HeaderPart) → PartsIn ps → PartsIn qs → PartsIn (cond o ps qs)
  either_parts true ps qs h i = h
  either_parts false ps qs h i = i

  line_in : (w : LineContext) (k n : ℕ) (l : List ℕ) → ContextIn w → In (line_place k) → PartsIn (parts_of_line w k n l)
  line_in outside k n l w h =
      either_parts (is_bare l) [] _ tt
      (either_parts (has_colon l) _ (left_out k (n + length l) ∷ [])
      (joined_parts (bad_name_parts k (name_of l) (n + length (before_colon l))) _ (bad_in k (name_of l) (n + length (before_colon l)) h)
      (either_parts (has_mark 1 (after_colon l)) (ended_parts k (name_of l) (before_mark 1 (after_colon l)) (n + (length (before_colon l) + (1 + mark_end 1 (after_colon l))))) []
      (ended_in k (name_of l) (before_mark 1 (after_colon l)) (n + (length (before_colon l) + (1 + mark_end 1 (after_colon l)))) h) tt))
      (h, tt))
  line_in (within j name v) k n l w h = either_parts (has_mark 2 l) (ended_parts j name (v ++ 10 ∷ before_mark 2 l) (n + mark_end 2 l)) [] (ended_in j name (v ++ 10 ∷ before_mark 2 l) (n + mark_end 2 l) w) tt

  either_context : (o : Bool) (v w : LineContext) → ContextIn v → ContextIn w → ContextIn (cond o v w)
  either_context true v w h i = h
  either_context false v w h i = i

  below_in : (w : LineContext) (k : ℕ) (l : List ℕ) → ContextIn w → In (line_place k) → ContextIn (context_below w k l)
  below_in outside k l w h = either_context (is_bare l || (not (has_colon l) || has_mark 1 (after_colon l))) outside (within k (name_of l) (after_colon l)) tt h
  below_in (within j name v) k l w h = either_context (has_mark 2 l) outside (within j name (v ++ 10 ∷ l)) tt w

  open_in : (w : LineContext) → ContextIn w → PartsIn (parts_left_open w)
  open_in outside w = tt
  open_in (within j name v) w = (w, tt)

  parts_in : (w : LineContext) (k n : ℕ) (ls : List (List ℕ)) → ContextIn w → 1 ≤ k → k + length ls ≤ length (lines t) + 1 → PartsIn (parts w k n ls)
  parts_in w k n [] c h i = open_in w c
  parts_in w k n (l ∷ ls) c h i =
      let here = line_within t k h (omega (arith, i)) in
      joined_parts (parts_of_line w k n l) (parts (context_below w k l) (k + 1) (n + (length l + 1)) ls) (line_in w k n l c here)
      (parts_in (context_below w k l) (k + 1) (n + (length l + 1)) ls (below_in w k l c here) (omega (arith, h)) (omega (arith, i)))

  head_in : PartsIn (head_parts t)
  head_in = let few = few_lines (lines t) in parts_in outside 1 0 (head_of (lines t)) tt (omega arith) (omega (arith, few))

  -- ---- findings

  abbrev KnownIn : List Known → Type 0
  KnownIn [] = Unit {0}
  KnownIn (k ∷ ks) = In k.finding.place × KnownIn ks

  known_joined : (ks js : List Known) → KnownIn ks → KnownIn js → KnownIn (ks ++ js)
  known_joined [] js h i = i
  known_joined (k ∷ ks) js h i = (h.0, known_joined ks js h.1 i)

  known_if : (o : Bool) (k : Known) → In k.finding.place → KnownIn (cond o (k ∷ []) [])
  known_if true k h = (h, tt)
  known_if false k h = tt

  header_in : (kept repeated : Bool) (p q : Known) → In p.finding.place → In q.finding.place → KnownIn (cond kept (cond repeated (p ∷ []) []) (q ∷ []))
  header_in true repeated p q h i = known_if repeated p h
  header_in false repeated p q h i = (i, tt)

  after_in : (seen : List (List ℕ)) (ps : List HeaderPart) → PartsIn ps → KnownIn (findings_after seen ps)
  after_in seen [] h = tt
  after_in seen (left_out k p ∷ ps) h = (h.0, after_in seen ps h.1)
  after_in seen (unended k ∷ ps) h = after_in seen ps h.1
  after_in seen (header k name value p ∷ ps) h =
      known_joined _ (findings_after (names_after seen (header k name value p)) ps) (header_in (is_kept name value) (repeats seen name) (known_at p (line_place k) W2) (known_at p (line_place k) E5) h.0 h.0) (after_in (names_after seen (header k name value p)) ps h.1)

  all_in : (ps : List HeaderPart) → PartsIn ps → KnownIn (findings_of_parts t ps)
  all_in ps h =
      known_joined (findings_after [] ps) (findings_of_name t ps) (after_in [] ps h)
      (known_if (has_score (lines t) && not (has_header (codes "name") (book_of ps))) (known_at (head_len t + 1) (place_after (take (head_len t) t)) W1) (place_within t (head_len t)))

  before_in : (stop : ℕ) (ks : List Known) → KnownIn ks → AllIn In (findings_before stop ks)
  before_in stop [] h = tt
  before_in stop (k ∷ ks) h = by (nat_lt k.point stop) (before_in stop ks h.1)
    where
      by : (o : Bool) → AllIn In (findings_before stop ks) → AllIn In (map (λ (k : Known). k.finding) (if o then k ∷ filter (λ (k : Known). nat_lt k.point stop) ks else filter (λ (k : Known). nat_lt k.point stop) ks))
      by true g = (h.0, g)
      by false g = g

  -- ---- stops

  abbrev StopsIn : List Stop → Type 0
  StopsIn [] = Unit {0}
  StopsIn (s ∷ ss) = In s.fault.place × StopsIn ss

  stops_joined : (ss rs : List Stop) → StopsIn ss → StopsIn rs → StopsIn (ss ++ rs)
  stops_joined [] rs h i = i
  stops_joined (s ∷ ss) rs h i = (h.0, stops_joined ss rs h.1 i)

  stop_if : (o : Bool) (s : Stop) → In s.fault.place → StopsIn (cond o (s ∷ []) [])
  stop_if true s h = (h, tt)
  stop_if false s h = tt

  either_stops : (o : Bool) (ss rs : List Stop) → StopsIn ss → StopsIn rs → StopsIn (cond o ss rs)
  either_stops true ss rs h i = h
  either_stops false ss rs h i = i

  long_in : (o : Option ℕ) → StopsIn (too_long t o)
  long_in None = tt
  long_in (Some i) =
      either_stops (is_line_percent t i) _ (stop_at i (place_after (take i t)) F4 ∷ [])
      (stop_if (nat_lt (i + 1) (length t)) (stop_at (i + 1) (place_after (take i t)) F4) (place_within t i)) (place_within t i, tt)

  value_in : (p : ℕ) (ps : List HeaderPart) → PartsIn ps → StopsIn (open_stops p (open_line ps))
  value_in p [] h = tt
  value_in p (unended k ∷ ps) h = (h.0, tt)
  value_in p (left_out k q ∷ ps) h = value_in p ps h.1
  value_in p (header k name value q ∷ ps) h = value_in p ps h.1

  score_in : (limits : Limits) (ps : List HeaderPart) → StopsIn (stops_of_score limits t ps)
  score_in limits ps =
      let place = place_after (take (head_len t) t) in
      let size = bytes_len (header_lines (book_of ps)) in
      stops_joined (cond (nat_lt limits.header size) (stop_at (head_len t + 1) place F4 ∷ []) []) (cond (nat_lt limits.input (size + 3)) (stop_at (head_len t + 1) place F7 ∷ []) [])
      (stop_if (nat_lt limits.header size) (stop_at (head_len t + 1) place F4) (place_within t (head_len t)))
      (stop_if (nat_lt limits.input (size + 3)) (stop_at (head_len t + 1) place F7) (place_within t (head_len t)))

  missing_in : (o : Option ℕ) → StopsIn (missing_score o t)
  missing_in None = (place_at_end t, tt)
  missing_in (Some k) = tt

  stops_in : (limits : Limits) (ps : List HeaderPart) → PartsIn ps → StopsIn (stops_of_parts limits t ps)
  stops_in limits ps h =
      stops_joined (text_stops limits.header t) _ (long_in (first_above limits.header (take (head_len t) t)))
      (either_stops (has_score (lines t)) _ _
      (stops_joined (open_stops (head_len t + 1) (open_line ps)) (stops_of_score limits t ps) (value_in (head_len t + 1) ps h) (score_in limits ps))
      (stops_joined (open_stops (length t) (open_line ps)) (missing_score (open_line ps) t) (value_in (length t) ps h) (missing_in (open_line ps))))

  abbrev EarliestIn : Option Stop → Type 0
  EarliestIn None = Unit {0}
  EarliestIn (Some s) = In s.fault.place

  earlier_in : (o : Bool) (a b : Stop) → In a.fault.place → In b.fault.place → In (if o then b else a).fault.place
  earlier_in true a b h i = i
  earlier_in false a b h i = h

  or_earlier_in : (a : Stop) (o : Option Stop) → In a.fault.place → EarliestIn o → In (or_earlier a o).fault.place
  or_earlier_in a None h i = h
  or_earlier_in a (Some b) h i = earlier_in _ a b h i

  earliest_in : (ss : List Stop) → StopsIn ss → EarliestIn (earliest ss)
  earliest_in [] h = tt
  earliest_in (s ∷ ss) h = or_earlier_in s (earliest ss) h.0 (earliest_in ss h.1)

  -- ---- the headers

  abbrev pub HeadsIn : Result Heads HeadFault → Type 0
  HeadsIn (Ok heads) = AllIn In heads.findings
  HeadsIn (Err stop) = AllIn In stop.findings × In stop.fault.place

  pub heads_in : (limits : Limits) → HeadsIn (heads_of limits t)
  heads_in limits = by (earliest (stops_of_parts limits t (head_parts t))) (earliest_in (stops_of_parts limits t (head_parts t)) (stops_in limits (head_parts t) head_in))
    where
      by : (o : Option Stop) → EarliestIn o → HeadsIn (heads_of_parts_by t (head_parts t) o)
      by None h = before_in (length t + 1) (findings_of_parts t (head_parts t)) (all_in (head_parts t) head_in)
      by (Some s) h = (before_in s.point (findings_of_parts t (head_parts t)) (all_in (head_parts t) head_in), h)
