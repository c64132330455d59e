-- Whether a text is a snippet, and whether it is viable, by computing a character at a time.
use Rattle.std.specs.Prelude.{ℕ, List, [], ◌∷◌, Bool, true, false, cond, not, ◌&&◌, ◌||◌, ◌==◌, Option, Some, None}
use Rattle.gabc_patterns.specs.Pattern.{Pattern, never, nothing, one_of, any_but, ◌·◌, ◌or◌, many, is_in}
use Rattle.gabc_patterns.specs.LongestItems.{Table}

-- the same lists of characters
abbrev pub same_texts : List ℕ → List ℕ → Bool
same_texts [] [] = true
same_texts (c ∷ t) (d ∷ u) = (c == d) && same_texts t u
same_texts _ _ = false

-- patterns that are written alike
abbrev pub same_pattern : Pattern → Pattern → Bool
same_pattern never never = true
same_pattern nothing nothing = true
same_pattern (one_of cs) (one_of ds) = same_texts cs ds
same_pattern (any_but c) (any_but d) = c == d
same_pattern (p · q) (r · s) = same_pattern p r && same_pattern q s
same_pattern (p or q) (r or s) = same_pattern p r && same_pattern q s
same_pattern (many p) (many q) = same_pattern p q
same_pattern _ _ = false

-- p · q, simpler where p is never or nothing
abbrev pub join : Pattern → Pattern → Pattern
join never q = never
join nothing q = q
join p q = p · q

-- p is a choice of q
abbrev pub is_choice : Pattern → Pattern → Bool
is_choice p (q or r) = is_choice p q || is_choice p r
is_choice p q = same_pattern p q

-- p or q, as a list of choices without never and without one twice
abbrev pub either : Pattern → Pattern → Pattern
either never q = q
either p never = p
either (p or r) q = either p (either r q)
either p q = cond (is_choice p q) q (p or q)

-- the pattern spells the empty text
abbrev pub may_end : Pattern → Bool
may_end never = false
may_end nothing = true
may_end (one_of cs) = false
may_end (any_but x) = false
may_end (p · q) = may_end p && may_end q
may_end (p or q) = may_end p || may_end q
may_end (many p) = true

-- what may follow the character c
abbrev pub derivative : ℕ → Pattern → Pattern
derivative c never = never
derivative c nothing = never
derivative c (one_of cs) = cond (is_in c cs) nothing never
derivative c (any_but x) = cond (x == c) never nothing
derivative c (p · q) = cond (may_end p) (either (join (derivative c p) q) (derivative c q)) (join (derivative c p) q)
derivative c (p or q) = either (derivative c p) (derivative c q)
derivative c (many p) = join (derivative c p) (many p)

-- there are none
abbrev pub is_empty : List ℕ → Bool
is_empty [] = true
is_empty (c ∷ cs) = false

-- the pattern spells some text
abbrev pub possible : Pattern → Bool
possible never = false
possible nothing = true
possible (one_of cs) = not (is_empty cs)
possible (any_but x) = true
possible (p · q) = possible p && possible q
possible (p or q) = possible p || possible q
possible (many p) = true

-- what may follow the character c in the rows
abbrev pub rows_after : {K : Type 0} → ℕ → Table K → Table K
rows_after c [] = []
rows_after c (row ∷ rows) = cond (possible (derivative c row.1)) ((row.0, derivative c row.1) ∷ rows_after c rows) (rows_after c rows)

-- what may follow the text in the rows
abbrev pub rows_run : {K : Type 0} → Table K → List ℕ → Table K
rows_run rows [] = rows
rows_run rows (c ∷ t) = rows_run (rows_after c rows) t

-- a row spells the empty text
abbrev pub rows_end : {K : Type 0} → Table K → Bool
rows_end [] = false
rows_end (row ∷ rows) = may_end row.1 || rows_end rows

-- the kind of the first row that spells the empty text
abbrev pub end_kind : {K : Type 0} → Table K → Option K
end_kind [] = None
end_kind (row ∷ rows) = cond (may_end row.1) (Some row.0) (end_kind rows)

-- Where the reading of a text stands: at the start of an item; in an item whose rows may go on so,
-- and where it stands if that item ended at its longest so far; or nowhere.
pub data Munch (K : Type 0) : Type 0 where
  start nowhere : Munch K
  within : Table K → Munch K → Munch K

-- in an item of these rows, else back
abbrev pub enter : {K : Type 0} → Table K → Munch K → Munch K
enter [] back = back
enter (row ∷ rows) back = within (row ∷ rows) (cond (rows_end (row ∷ rows)) start back)

-- where the reading stands a character later
abbrev pub step : {K : Type 0} → Table K → Munch K → ℕ → Munch K
step table start c = enter (rows_after c table) nowhere
step table nowhere c = nowhere
step table (within rows back) c = enter (rows_after c rows) (step table back c)

-- where the reading stands after the text
abbrev pub run : {K : Type 0} → Table K → Munch K → List ℕ → Munch K
run table m [] = m
run table m (c ∷ t) = run table (step table m c) t

-- what was read is a snippet
abbrev pub is_whole : {K : Type 0} → Munch K → Bool
is_whole start = true
is_whole nowhere = false
is_whole (within rows back) = is_whole back

-- what was read is viable
abbrev pub is_alive : {K : Type 0} → Munch K → Bool
is_alive start = true
is_alive nowhere = false
is_alive (within rows back) = true

-- the text is a snippet
abbrev pub is_snippet : {K : Type 0} → Table K → List ℕ → Bool
is_snippet table t = is_whole (run table start t)

-- the text is viable
abbrev pub is_viable : {K : Type 0} → Table K → List ℕ → Bool
is_viable table t = is_alive (run table start t)
